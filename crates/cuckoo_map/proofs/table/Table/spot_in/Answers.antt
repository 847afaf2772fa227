use Rattle.std.proofs.Common.{rules, ◌≡◌, ℕ, List, ◌∙◌, ap, sym, subst}
use Rattle.ck_stripe.specs.Stripe.{StripeState}
use Rattle.ck_stripe.specs.Tables.{AreHeld}
use Rattle.ck_section.specs.Places.{HasBoth}
use Rattle.ck_core.specs.State.{found_held}
use Rattle.ck_words.specs.Passes.{numbers_of}
use Rattle.ck_words.specs.Words.{WordsState}
use Rattle.ck_words.specs.StripeSets.{list_of}
use Rattle.ck_words.specs.Retries.{Stays}
use Rattle.cuckoo_map.proofs.Calls.{holds_then}
use Rattle.cuckoo_map.proofs.Counted.{one_power_held}
use Rattle.cuckoo_map.proofs.Sets.{has_both, finds_such}
use Rattle.cuckoo_map.proofs.table.Table.spot_in.Goals as goal

pub key_place-place-requires-clause-owned : goal.key_place-place-requires-clause-owned
key_place-place-requires-clause-owned g c =
    let h = c.requires.key_stripes in
    let q = g.Q.Query.name c.args.key in
    subst (λ (s : ℕ). HasBoth g.K.TableKey.hash s c.settle_taken.new.pass.stripes q) (sym h.s)
    (has_both g.K.TableKey.hash c.args.self.now.settings q (list_of c.args.own.stripes) h.exact c.settle_taken.new.pass.stripes c.settle_taken.ensures.numbers)

pub returns-clause-spot : goal.returns-clause-spot
returns-clause-spot g c =
    let p = c.args.since.now.value in
    let taken = c.requires.taken in
    let h = c.requires.key_stripes in
    let k = c.key_place-place in
    let stripes = k.ensures.same in
    let there : k.new.held.pass.now ≡ c.pass-1.given.0 = search rules in
    let both = has_both g.K.TableKey.hash c.args.self.now.settings (g.Q.Query.name c.args.key) (list_of c.args.own.stripes) h.exact c.settle_taken.new.pass.stripes c.settle_taken.ensures.numbers in
    rw (← there) (record {
      holds = holds_then p c.settle_taken.new.pass (subst (Stays p.view) (sym c.settle_taken.ensures.view) taken.stays) both c.settle_taken.ensures.unchanged (one_power_held _ c.settle_taken.new.pass.stripes c.settle_taken.ensures.held) k.ensures.place (k.ensures.s ∙ h.s)
          k.new.held.pass.now stripes k.ensures.stays.1;
      of_table = h.s;
      numbered = ap (λ (ss : List (StripeState g.row.V.Denot)). numbers_of ss) stripes ∙ c.settle_taken.ensures.numbers;
      settled = subst (λ (x : WordsState × List (StripeState g.row.V.Denot)). AreHeld x.0.settings.s x.1) (λ j. (c.self.view_is j, sym stripes j)) c.settle_taken.ensures.held;
    })

pub returns-clause-found : goal.returns-clause-found
returns-clause-found g c =
    let found = finds_such (list_of c.args.own.stripes) c.requires.key_stripes.exact c.args.since.now.value c.args.pass.now c.requires.taken.found in
    let there : c.key_place-place.new.held.pass.now ≡ c.pass-1.given.0 = search rules in
    rw (← there) (found.0, ap found_held (c.key_place-place.ensures.stays.1 ∙ c.settle_taken.ensures.view) ∙ found.1, found.2)
