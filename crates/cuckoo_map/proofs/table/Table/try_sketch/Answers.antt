use Rattle.std.proofs.Common.{rules, ◌≡◌, ◌∙◌, ◌%◌, ◌^◌, List, ap, refl, inl, sym, subst}
use Rattle.ck_stripe.specs.Stripe.{StripeState}
use Rattle.ck_stripe.specs.Tables.{HasStripe}
use Rattle.ck_words.specs.Words.{WordsState}
use Rattle.ck_words.specs.Retries.{IsBusy}
use Rattle.ck_words.specs.StripeSets.{list_of}
use Rattle.cuckoo_map.proofs.Calls.{s_of}
use Rattle.cuckoo_map.proofs.Sets.{has_each, below_set}
use Rattle.cuckoo_map.proofs.Displacing.{back_home}
use Rattle.cuckoo_map.proofs.table.Table.try_sketch.Goals as goal
use Rattle.cuckoo_map.proofs.table.Table.try_sketch.Goals.{then-power, else-power}

pub sketch-requires-clause-owned : goal.sketch-requires-clause-owned
sketch-requires-clause-owned g c =
    let held = has_each (list_of c.of_buckets-stripe.result) c.of_buckets-stripe.ensures.exact c.lock.new.pass.stripes c.in_default.ensures.numbers _ (inl refl) in
    subst (λ (ss : List (StripeState g.row.V.Denot)). HasStripe ss (c.args.bucket % 2 ^ c.settings-s.result.s)) (sym c.power.ensures.same) held

pub returns-in-Err : goal.returns-in-Err
returns-in-Err g c = record {
  back = search rules;
  busy = record {
    stays = c.lock.ensures.stays;
    stripe = below_set c.of_buckets-stripe.result c.args.self.now.settings.s c.in-Err.stripe (c.of_buckets-stripe.ensures.s ∙ s_of c.self.view_is c.settings-s.ensures.value) c.in-Err.ensures.asked;
    tried = (let busy = subst (λ (w : WordsState). IsBusy w.settings c.in-Err.stripe c.args.pass.now c.lock.new.pass) c.self.view_is c.in-Err.ensures.busy in busy.1);
    others = (let busy = subst (λ (w : WordsState). IsBusy w.settings c.in-Err.stripe c.args.pass.now c.lock.new.pass) c.self.view_is c.in-Err.ensures.busy in busy.2);
    missed = (let busy = subst (λ (w : WordsState). IsBusy w.settings c.in-Err.stripe c.args.pass.now c.lock.new.pass) c.self.view_is c.in-Err.ensures.busy in busy.3);
  };
}

pub returns : goal.returns
returns g c = record {
  back = (let guard = c.if-power.guard in
      let same : guard.pass.now.view ≡ c.lock.new.pass.view = elim c.if-power.branch [ then-power w ↦ ap (λ l. l.pass.now.view) w.guard-is ∙ (w.sketch.ensures.stays.1 ∙ c.power.ensures.stays.1) | else-power w ↦ ap (λ l. l.pass.now.view) w.guard-is ∙ c.power.ensures.stays.1 ] in
      let z = c.release.new.self.pass.now in
      let there : z ≡ c.pass-1.given.0 = search rules in
      let words : guard.words.now ≡ c.self.inside.words = elim c.if-power.branch [ then-power w ↦ ap (λ l. l.words.now) w.guard-is ∙ (w.sketch.ensures.stays.5 ∙ c.power.ensures.stays.5) | else-power w ↦ ap (λ l. l.words.now) w.guard-is ∙ c.power.ensures.stays.5 ] in
      rw (← there) (back_home (words ∙ c.self.view_is) _ c.args.pass.now c.lock.new.pass guard.pass.now z c.lock.ensures.stays c.lock.ensures.found same c.release.ensures.released));
  busy = tt;
}
