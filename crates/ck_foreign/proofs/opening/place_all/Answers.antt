use Rattle.std.proofs.Common.{rules, map, Some, ◌∙◌, sym, ap}
use Rattle.std.proofs.lemmas.Simd.{map-map}
use Rattle.ck_foreign.proofs.opening.place_all.Goals as goal

pub returns-clause-done : goal.returns-clause-done
returns-clause-done g c done =
    c.put_all.ensures ∙ sym (map-map Some (λ b. b.value) c.in-Ok.boxes.items) ∙ ap (map Some) (search rules)
