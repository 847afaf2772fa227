-- What a search of all stripes of a table knows of them.
use Rattle.std.proofs.Common.{◌≡◌, ℕ, ◌*◌, ◌%◌, ◌^◌, ◌≤◌, Bool, true, IsTrue, List, [], ◌∷◌, Some, length, map, option_map, eqb, sym, ◌∙◌, ap, subst, inl, inr, ⊎_elim}
use Rattle.std.proofs.lemmas.Bool.{eqb-true, eq-eqb}
use Rattle.std.proofs.lemmas.List.{length-map}
use Rattle.ck_model.specs.declared.path_hop.PathHop.{PathHop}
use Rattle.ck_model.specs.Sketches.{Sketch, IsPathAlong, IsSketchPathFrom}
use Rattle.ck_model.specs.Arithmetic.{alternate_of, index_of, second_of}
use Rattle.ck_model.specs.Promise.{Name}
use Rattle.ck_model.specs.Slots.{Slot}
use Rattle.ck_model.specs.Contents.{IsBucketOf}
use Rattle.ck_path.specs.Route.{Route, first_bucket, IsSeen}
use Rattle.ck_path.specs.Queue.{Queue, wanted}
use Rattle.ck_model.specs.Paths.{partial_in}
use Rattle.ck_stripe.specs.Stripe.{StripeState}
use Rattle.ck_stripe.specs.Stripes.{bucket_at}
use Rattle.ck_section.specs.Room.{HaveFour, sketch_of, IsPathFor}
use Rattle.ck_stripe.specs.Tables.{power_in}
use Rattle.ck_section.proofs.Tables.{mask}

-- whether the bucket has four slots
abbrev pub is_four : (ℕ → Sketch) → ℕ → Sketch → Bool
is_four sketches b s = eqb (length (sketches b)) 4

four_from : (sketches : ℕ → Sketch) (p b : ℕ) (hops : List PathHop) (end : ℕ) → IsPathAlong (λ c s. IsTrue (is_four sketches c s)) p b hops end → HaveFour sketches hops end
four_from sketches p b [] end seen = subst (λ n. length (sketches n) ≡ 4) seen.0 (eqb-true (length (sketches b)) 4 seen.1.1)
four_from sketches p b (h ∷ hops) end seen = (
  subst (λ n. length (sketches n) ≡ 4) (sym seen.0) (eqb-true (length (sketches b)) 4 seen.1.1),
  four_from sketches p (alternate_of p h.partial b) hops end seen.2,
)

-- A bucket was wanted, and its sketch was made of stripes that are as they were.
module _ {V : Type 0} (hash : Name → ℕ) (s : ℕ) (stripes cur : List (StripeState V)) (few : s ≤ 10) (same : cur ≡ stripes) (search : Queue) (b : ℕ) (is : Some b ≡ wanted search) where
  abbrev seen : List (Slot V)
  seen = bucket_at cur (b % (1 * 2 ^ s % 18446744073709551616)) b

  seen_is : seen ≡ bucket_at stripes (b % 2 ^ s) b
  seen_is z = bucket_at (same z) (b % mask s few z) b

  pub shows : (sketch : Sketch) → sketch ≡ map (partial_in hash) seen → option_map (sketch_of hash s stripes) (wanted search) ≡ Some sketch
  shows sketch value = ap (option_map (sketch_of hash s stripes)) (sym is) ∙ ap Some (ap (map (partial_in hash)) (sym seen_is) ∙ sym value)

  pub passes : (sketch : Sketch) → length seen ≡ 4 → option_map (λ (c : ℕ). is_four (sketch_of hash s stripes) c sketch) (wanted search) ≡ Some true
  passes sketch four =
      ap (option_map (λ (c : ℕ). is_four (sketch_of hash s stripes) c sketch)) (sym is)
      ∙ ap Some (eq-eqb (length (sketch_of hash s stripes b)) 4 (length-map (bucket_at stripes (b % 2 ^ s) b) (partial_in hash) ∙ ap (λ (l : List (Slot V)). length l) (sym seen_is) ∙ four))

-- a path that was found leads through buckets of four slots
pub seen_four : (sketches : ℕ → Sketch) (p first second : ℕ) (route : Route) → IsSeen (is_four sketches) p first second route → HaveFour sketches route.hops route.end
seen_four sketches p first second route seen = ⊎_elim (four_from sketches p first route.hops route.end) (four_from sketches p second route.hops route.end) seen

begins : (p : ℕ) (sketches : ℕ → Sketch) (b : ℕ) (hops : List PathHop) (end : ℕ) → IsSketchPathFrom p sketches b hops end → b ≡ first_bucket hops end
begins p sketches b [] end path = path.0
begins p sketches b (h ∷ hops) end path = sym path.0

module _ {V : Type 0} (hash : Name → ℕ) (s : ℕ) (stripes : List (StripeState V)) (q : Name) (route : Route) (is : IsPathFor hash s stripes q route) where
  -- the bucket at which it begins is one of the name
  pub begins_home : IsBucketOf hash (power_in stripes) q (first_bucket route.hops route.end)
  begins_home =
      let p : ℕ = power_in stripes in
      let sketches : ℕ → Sketch = sketch_of hash s stripes in
      ⊎_elim
      (λ path. inl (sym (begins p sketches (index_of p (hash q)) route.hops route.end path)))
      (λ path. inr (sym (begins p sketches (second_of p (hash q)) route.hops route.end path)))
      is.path
