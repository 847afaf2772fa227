use Rattle.std.proofs.Common.{rules, ◌≡◌, ◌∙◌, refl, inl, inr, subst}
use Rattle.ck_section.proofs.Kept.{no_spare_after}
use Rattle.ck_words.specs.Words.{WordsState}
use Rattle.ck_words.specs.Retries.{IsBusy}
use Rattle.ck_words.specs.StripeSets.{list_of}
use Rattle.cuckoo_map.proofs.Calls.{s_of}
use Rattle.cuckoo_map.proofs.Counted.{one_power_held, none_made, released_alike}
use Rattle.cuckoo_map.proofs.Sets.{has_each, below_set}
use Rattle.cuckoo_map.proofs.Displacing.{back_home, renewed}
use Rattle.cuckoo_map.proofs.table.Table.make_one_hop.Goals as goal

pub make_hop-hopped-requires-clause-source_owned : goal.make_hop-hopped-requires-clause-source_owned
make_hop-hopped-requires-clause-source_owned g c = has_each (list_of c.of_buckets-stripes.result) c.of_buckets-stripes.ensures.exact c.lock.new.pass.stripes c.in_default.ensures.numbers _ (inl refl)

pub make_hop-hopped-requires-clause-target_owned : goal.make_hop-hopped-requires-clause-target_owned
make_hop-hopped-requires-clause-target_owned g c = has_each (list_of c.of_buckets-stripes.result) c.of_buckets-stripes.ensures.exact c.lock.new.pass.stripes c.in_default.ensures.numbers _ (inr refl)

pub renew-requires-clause-renewed : goal.renew-requires-clause-renewed
renew-requires-clause-renewed g c =
    renewed (c.make_hop-hopped.ensures.stays.5 ∙ c.self.view_is) (s_of c.self.view_is c.settings-s.ensures.value) c.lock.new.pass c.make_hop-hopped.new.held.pass.now c.in_default.ensures.unchanged (c.make_hop-hopped.ensures.stays.1) c.make_hop-hopped.ensures.no_call

pub renew-requires-clause-no_spare : goal.renew-requires-clause-no_spare
renew-requires-clause-no_spare g c = no_spare_after _ _ c.in_default.ensures.held.no_spare c.make_hop-hopped.ensures.rest

pub returns-in-Err : goal.returns-in-Err
returns-in-Err g c = record {
  back = search rules;
  busy = record {
    stays = c.lock.ensures.stays;
    stripe = below_set c.of_buckets-stripes.result c.args.self.now.settings.s c.in-Err.stripe (c.of_buckets-stripes.ensures.s ∙ s_of c.self.view_is c.settings-s.ensures.value) c.in-Err.ensures.asked;
    tried = (let busy = subst (λ (w : WordsState). IsBusy w.settings c.in-Err.stripe c.args.pass.now c.lock.new.pass) c.self.view_is c.in-Err.ensures.busy in busy.1);
    others = (let busy = subst (λ (w : WordsState). IsBusy w.settings c.in-Err.stripe c.args.pass.now c.lock.new.pass) c.self.view_is c.in-Err.ensures.busy in busy.2);
    missed = (let busy = subst (λ (w : WordsState). IsBusy w.settings c.in-Err.stripe c.args.pass.now c.lock.new.pass) c.self.view_is c.in-Err.ensures.busy in busy.3);
  };
}

pub returns-then-hopped : goal.returns-then-hopped
returns-then-hopped g c = record {
  back = (let z = c.renew.new.self.pass.now in
      let p1 = c.lock.new.pass in
      let p2 = c.make_hop-hopped.new.held.pass.now in
      let made = none_made p1 p2 z c.make_hop-hopped.ensures.stays.1 c.make_hop-hopped.ensures.rest c.renew.ensures.doubled c.in_default.ensures.unchanged (one_power_held _ p1.stripes c.in_default.ensures.held) in
      let there : z ≡ c.pass-1.given.0 = search rules in
      rw (← there) (back_home (c.make_hop-hopped.ensures.stays.5 ∙ c.self.view_is) _ c.args.pass.now p1 p2 z c.lock.ensures.stays c.lock.ensures.found (c.make_hop-hopped.ensures.stays.1) (released_alike p2 z c.renew.ensures.released made)));
  busy = tt;
}

pub returns-else-hopped : goal.returns-else-hopped
returns-else-hopped g c = record {
  back = (let z = c.release.new.self.pass.now in
      let there : z ≡ c.pass-else-hopped-1.given.0 = search rules in
      rw (← there) (back_home (c.make_hop-hopped.ensures.stays.5 ∙ c.self.view_is) _ c.args.pass.now c.lock.new.pass c.make_hop-hopped.new.held.pass.now z c.lock.ensures.stays c.lock.ensures.found (c.make_hop-hopped.ensures.stays.1) c.release.ensures.released));
  busy = tt;
}
