use Rattle.std.proofs.Common.{List, ℕ, ◌∙◌, sym, ap, subst}
use Rattle.ck_stripe.specs.Stripe.{StripeState}
use Rattle.ck_stripe.specs.Tables.{AreAllHeld}
use Rattle.cuckoo_map.specs.Locking.{LockedState}
use Rattle.cuckoo_map.proofs.locked.LockedOn.key_place.Goals as goal

pub key_place_in_all-requires : goal.key_place_in_all-requires
key_place_in_all-requires g c =
    let own = ap (λ x. x.s) c.settings.ensures.value ∙ sym (ap (λ (l : LockedState g.row.V.Denot). l.caller.table.settings.s) c.self.view_is) in
    subst (λ (x : ℕ × List (StripeState g.row.V.Denot)). AreAllHeld x.0 x.1) (λ j. (sym own j, sym c.stripes_of.ensures j)) (record { table = c.self.invariant.table; settled = c.self.invariant.settled })
