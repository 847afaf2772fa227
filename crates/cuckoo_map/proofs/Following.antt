-- The hops of a path from its end on: each goes to the bucket that the hop before it has left.
use Rattle.std.proofs.Common.{◌≡◌, ℕ, ◌+◌, ◌<◌, ◌^◌, List, [], ◌∷◌, ◌++◌, length, get_or, take, drop, reverse, sym, ap, ◌∙◌, subst}
use Rattle.std.proofs.lemmas.List.{take-append-drop, take_more, reverse-append, reverse-reverse}
use Rattle.ck_model.specs.declared.path_hop.PathHop.{PathHop}
use Rattle.ck_model.specs.Arithmetic.{alternate_of}
use Rattle.ck_path.specs.Route.{first_bucket, AreLinked}

linked_later : (p : ℕ) (xs ys : List PathHop) (end : ℕ) → AreLinked p (xs ++ ys) end → AreLinked p ys end
linked_later p [] ys end l = l
linked_later p (x ∷ xs) ys end l = linked_later p xs ys end l.3

-- hop i of those from the end on, and the bucket where it goes to
module _ (p : ℕ) (hops items : List PathHop) (end : ℕ) (from_end : items ≡ reverse hops) (i : ℕ) (inside : i < length items) (none : PathHop) where
  abbrev hop : PathHop
  hop = get_or items i none

  one_more : reverse (take (i + 1) items) ≡ hop ∷ reverse (take i items)
  one_more = ap reverse (take_more items i none inside) ∙ reverse-append (take i items) (hop ∷ [])

  split : hops ≡ reverse (drop (i + 1) items) ++ hop ∷ reverse (take i items)
  split = sym (reverse-reverse hops) ∙ (ap reverse (sym from_end) ∙ (ap reverse (sym (take-append-drop (i + 1) items)) ∙ (reverse-append (take (i + 1) items) (drop (i + 1) items) ∙ ap (λ l. reverse (drop (i + 1) items) ++ l) one_more)))

  pub hop_linked : AreLinked p hops end → (hop.bucket < 2 ^ p) × (alternate_of p hop.partial hop.bucket ≡ first_bucket (reverse (take i items)) end)
  hop_linked l =
      let rest = linked_later p (reverse (drop (i + 1) items)) (hop ∷ reverse (take i items)) end (subst (λ (h : List PathHop). AreLinked p h end) split l) in
      (rest.0, rest.2)

  pub next_target : hop.bucket ≡ first_bucket (reverse (take (i + 1) items)) end
  next_target = sym (ap (λ l. first_bucket l end) one_more)
