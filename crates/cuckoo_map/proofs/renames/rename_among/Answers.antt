use Rattle.std.proofs.Common.{◌∙◌, ℕ, List, IfOk, IfErr, ◌≡◌, sym, subst}
use Rattle.ck_stripe.specs.Stripe.{StripeState}
use Rattle.ck_section.specs.Places.{HasBoth}
use Rattle.ck_section.specs.Calls.{IsWithoutRoom}
use Rattle.ck_section.specs.TwoNames.{FindsBound, RenamesTo}
use Rattle.cuckoo_map.proofs.renames.rename_among.Given.{Over}
use Rattle.cuckoo_map.proofs.renames.rename_among.Goals as goal

pub key_place-to_place-requires-clause-owned : goal.key_place-to_place-requires-clause-owned
key_place-to_place-requires-clause-owned g c =
    subst (λ (ss : List (StripeState g.row.V.Denot)). HasBoth g.K.TableKey.hash c.args.s ss (g.K.TableKey.name c.args.to)) (sym c.key_place-from_place.ensures.same) c.requires.second

-- the places were found in the stripes as they were
as_were : (g : Over) (c : goal.After-rename g) → (P : ℕ → List (StripeState g.row.V.Denot) → Type 0) → P c.key_place-to_place.result.s (g.H.Held.stripes c.key_place-to_place.new.held) → P c.args.s (g.H.Held.stripes c.args.held.now)
as_were g c P =
    let first = c.key_place-from_place.ensures in
    let second = c.key_place-to_place.ensures in
    subst (λ (x : ℕ × List (StripeState g.row.V.Denot)). P x.0 x.1) (λ i. (second.s i, (second.same ∙ first.same) i))

pub returns-clause-call : goal.returns-clause-call
returns-clause-call g c =
    as_were g c (λ s ss. IfOk c.rename.result (RenamesTo (record { hash = g.K.TableKey.hash; s = s; old = ss; new = g.H.Held.stripes c.rename.new.held }) (g.K.TableKey.name c.args.from.now) (g.K.TableKey.name c.args.to))) c.rename.ensures.call

pub returns-clause-full : goal.returns-clause-full
returns-clause-full g c = as_were g c (λ s ss. IfErr c.rename.result (λ back. (back ≡ c.args.to) × IsWithoutRoom g.K.TableKey.hash s ss (g.K.TableKey.name c.args.to))) c.rename.ensures.full

pub returns-clause-bound : goal.returns-clause-bound
returns-clause-bound g c =
    as_were g c (λ s ss. IfErr c.rename.result (λ _. FindsBound (record { hash = g.K.TableKey.hash; s = s; old = ss; new = g.H.Held.stripes c.rename.new.held }) (g.K.TableKey.name c.args.from.now))) c.rename.ensures.bound

pub returns-clause-stays : goal.returns-clause-stays
returns-clause-stays g c = g.met.H.Held.stays_on _ _ _ (g.met.H.Held.stays_on _ _ _ c.key_place-from_place.ensures.stays c.key_place-to_place.ensures.stays) c.rename.ensures.stays
