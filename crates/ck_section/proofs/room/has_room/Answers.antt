use Rattle.std.proofs.Common.{ℕ, Bool, List, MatchBool, sym, subst}
use Rattle.ck_stripe.specs.Stripe.{StripeState}
use Rattle.ck_section.specs.Calls.{IsWithRoom, IsWithoutRoom}
use Rattle.ck_section.proofs.Growing.{option_says}
use Rattle.ck_section.proofs.room.has_room.Goals as goal

pub returns-clause-room : goal.returns-clause-room
returns-clause-room g c =
    let V : Type 0 = g.row.V.Denot in
    let hash = g.K.TableKey.hash in
    let q = g.K.TableKey.name c.args.key.now in
    let s : ℕ = c.settled_place-place.result.s in
    let stripes : List (StripeState V) = g.H.Held.stripes c.settled_place-place.new.held in
    subst (λ (x : ℕ × List (StripeState V)). MatchBool c.is_some.result (IsWithRoom hash x.0 x.1 q) (IsWithoutRoom hash x.0 x.1 q)) (λ z. (c.settled_place-place.ensures.s z, sym c.find_entry.ensures.same z))
    (subst (λ (b : Bool). MatchBool b (IsWithRoom hash s stripes q) (IsWithoutRoom hash s stripes q)) (sym c.is_some.ensures)
    (option_says c.find_entry.result (IsWithRoom hash s stripes q) (IsWithoutRoom hash s stripes q) c.find_entry.ensures.room c.find_entry.ensures.no_room))
