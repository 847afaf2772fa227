use Rattle.std.proofs.Common.{◌≡◌, ℕ, ◌+◌, not, List, Option, None, is_some, length, take, get_or, ◌∙◌, ap, arith}
use Rattle.std.proofs.lemmas.List.{take_all, length-map}
use Rattle.ck_model.specs.Slots.{Slot, taken_in}
use Rattle.ck_stripe.specs.Stripes.{bucket_at}
use Rattle.ck_section.proofs.RoomForAll.{one}
use Rattle.ck_section.proofs.RoomTested.{taken_more, taken_seen}
use Rattle.ck_section.proofs.room_for_all.free_slots_in.Goals.{then-is_none, else-is_none}
use Rattle.ck_section.proofs.room_for_all.free_slots_in.Goals as goal

pub loop-i-preserved : goal.loop-i-preserved
loop-i-preserved g c =
    let partials : List (Option ℕ) = c.sketch-partials.result in
    let i : ℕ = c.loop-i.i in
    let four : length partials ≡ 4 = ap length c.sketch-partials.ensures.value ∙ length-map _ _ ∙ c.sketch-partials.ensures.four in
    let was : c.loop-i.free + length (taken_in (take i partials)) ≡ i = c.loop-i.invariant in
    let more : length (taken_in (take (i + 1) partials)) ≡ length (taken_in (take i partials)) + one (is_some (get_or partials i None)) = taken_more partials i (omega arith) in
    let some : one (is_some (get_or partials i None)) ≡ one (not c.is_none.result) = ap one c.is_none.ensures in
    let is : c.if-is_none.free + length (taken_in (take (i + 1) partials)) ≡ i + 1 = elim c.if-is_none.branch [
      | then-is_none w ↦ let one_more : one (not c.is_none.result) ≡ 0 = ap (λ b. one (not b)) w.if-is_none.true in omega (arith, was, more, some, one_more, w.free-is)
      | else-is_none w ↦ let no_more : one (not c.is_none.result) ≡ 1 = ap (λ b. one (not b)) w.if-is_none.false in omega (arith, was, more, some, no_more, w.free-is)
    ] in
    is

pub returns-clause-count : goal.returns-clause-count
returns-clause-count g c =
    let partials : List (Option ℕ) = c.sketch-partials.result in
    let slots : List (Slot g.row.V.Denot) = bucket_at (g.H.Held.stripes c.args.held.now) c.args.at.index c.args.at.bucket in
    let four : length partials ≡ 4 = ap length c.sketch-partials.ensures.value ∙ length-map _ _ ∙ c.sketch-partials.ensures.four in
    let was : c.loop-i.free + length (taken_in (take c.loop-i.i partials)) ≡ c.loop-i.i = c.loop-i.invariant in
    let all : length (taken_in (take c.loop-i.i partials)) ≡ length (taken_in slots) =
    ap (λ (l : List (Option ℕ)). length (taken_in l)) (take_all c.loop-i.i partials (omega arith) ∙ c.sketch-partials.ensures.value) ∙ taken_seen g.K.TableKey.hash slots in
    omega (arith, was, all)
