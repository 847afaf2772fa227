-- A shortest path visits no bucket twice.
use Rattle.std.proofs.Common.{ℕ, ◌<◌, ◌≤◌, List, [], ◌∷◌, length, sym, ◌∙◌, subst, arith}
use Rattle.ck_model.specs.Arithmetic.{alternate_of}
use Rattle.ck_model.specs.declared.path_hop.PathHop.{PathHop}
use Rattle.ck_model.specs.Sketches.{Sketch, IsSketchPathFrom}
use Rattle.ck_path.specs.Route.{Avoids, VisitsOnce}

module _ (p : ℕ) (sketches : ℕ → Sketch) where
  -- a bucket from which each path is longer than these hops is none of theirs
  avoids : (c : ℕ) (hops : List PathHop) (b end : ℕ) → IsSketchPathFrom p sketches b hops end
      → ((hops' : List PathHop) (end' : ℕ) → IsSketchPathFrom p sketches c hops' end' → length hops < length hops') → Avoids c hops end
  avoids c [] b end path longer = λ is.
      let from : IsSketchPathFrom p sketches c [] end = subst (λ x. IsSketchPathFrom p sketches x [] end) (path.0 ∙ sym is) path in
      let less : length {A = PathHop} [] < length {A = PathHop} [] = longer [] end from in
      omega arith
  avoids c (g ∷ hops) b end path longer = (
    λ is.
        let from : IsSketchPathFrom p sketches c (g ∷ hops) end = subst (λ x. IsSketchPathFrom p sketches x (g ∷ hops) end) (sym path.0 ∙ sym is) path in
        let less : length (g ∷ hops) < length (g ∷ hops) = longer (g ∷ hops) end from in
        omega arith,
    avoids c hops (alternate_of p g.partial b) end path.2 (λ hops' end' other. omega (arith, longer hops' end' other)),
  )

  pub visits_once : (hops : List PathHop) (b end : ℕ) → IsSketchPathFrom p sketches b hops end
      → ((hops' : List PathHop) (end' : ℕ) → IsSketchPathFrom p sketches b hops' end' → length hops ≤ length hops') → VisitsOnce hops end
  visits_once [] b end path least = tt
  visits_once (h ∷ hops) b end path least = (
    avoids h.bucket hops (alternate_of p h.partial b) end path.2 (λ hops' end' other.
        omega (arith, least hops' end' (subst (λ x. IsSketchPathFrom p sketches x hops' end') path.0 other))),
    visits_once hops (alternate_of p h.partial b) end path.2 (λ hops' end' other.
        omega (arith, least (h ∷ hops') end' (path.0, path.1, other))),
  )
