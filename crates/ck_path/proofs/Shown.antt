-- What the sketch of slots shows of them.
use Rattle.std.proofs.Common.{◌≡◌, ℕ, zero, suc, ◌<◌, true, false, List, [], ◌∷◌, length, Some, None, IsSome, option_map, map, refl, sym, ap, arith}
use Rattle.std.specs.Prelude.{slice_get}
use Rattle.std.proofs.lemmas.Bool.{false≢true}
use Rattle.std.proofs.lemmas.Option.{none-some, same_Some}
use Rattle.ck_model.specs.Arithmetic.{partial_of}
use Rattle.ck_model.specs.Promise.{Name}
use Rattle.ck_model.specs.Slots.{Slot, slot_at}
use Rattle.ck_model.specs.Sketches.{Sketch, has_free}

module _ {V : Type 0} (hash : Name → ℕ) where
  abbrev pub sketch_of : List (Slot V) → Sketch
  sketch_of slots = map (λ (s : Slot V). option_map (λ (e : Name × V). partial_of (hash e.0)) s) slots

  pub free_shown : (slots : List (Slot V)) (i : ℕ) → i < length slots → slot_at slots i ≡ None → has_free (sketch_of slots) ≡ true
  free_shown [] i below e = absurd (omega arith)
  free_shown (None ∷ slots) i below e = refl
  free_shown (Some x ∷ slots) zero below e = absurd (none-some x (sym e))
  free_shown (Some x ∷ slots) (suc i) below e = free_shown slots i (omega arith) e

  pub free_there : (slots : List (Slot V)) → has_free (sketch_of slots) ≡ true → (i : ℕ) × (i < length slots) × (slot_at slots i ≡ None)
  free_there [] e = absurd (false≢true e)
  free_there (None ∷ slots) e = (0, omega arith, refl)
  free_there (Some x ∷ slots) e =
      let rest : (i : ℕ) × (i < length slots) × (slot_at slots i ≡ None) = free_there slots e in
      (suc rest.0, omega (arith, rest.1), rest.2)

  pub full_shown : (slots : List (Slot V)) → ((i : ℕ) → i < length slots → IsSome (slot_at slots i)) → has_free (sketch_of slots) ≡ false
  full_shown [] full = refl
  full_shown (None ∷ slots) full = absurd (false≢true (full 0 (omega arith)))
  full_shown (Some x ∷ slots) full = full_shown slots (λ i below. full (suc i) (omega arith))

  pub full_there : (slots : List (Slot V)) → has_free (sketch_of slots) ≡ false → (i : ℕ) → i < length slots → IsSome (slot_at slots i)
  full_there [] e i below = absurd (omega arith)
  full_there (None ∷ slots) e i below = absurd (false≢true (sym e))
  full_there (Some x ∷ slots) e zero below = refl
  full_there (Some x ∷ slots) e (suc i) below = full_there slots e i (omega arith)

  pub entry_shown : (slots : List (Slot V)) (i : ℕ) (q : Name) (v : V) → slot_at slots i ≡ Some (q, v)
      → slice_get (sketch_of slots) i ≡ Some (Some (partial_of (hash q)))
  entry_shown [] i q v e = absurd (none-some _ e)
  entry_shown (s ∷ slots) zero q v e = ap (λ (o : Slot V). Some (option_map (λ (x : Name × V). partial_of (hash x.0)) o)) e
  entry_shown (s ∷ slots) (suc i) q v e = entry_shown slots i q v e

  pub entry_there : (slots : List (Slot V)) (i t : ℕ) → slice_get (sketch_of slots) i ≡ Some (Some t)
      → (q : Name) × (v : V) × (slot_at slots i ≡ Some (q, v)) × (t ≡ partial_of (hash q))
  entry_there [] i t e = absurd (none-some _ e)
  entry_there (None ∷ slots) zero t e = absurd (none-some t (same_Some _ _ e))
  entry_there (Some x ∷ slots) zero t e = (x.0, x.1, refl, sym (same_Some _ _ (same_Some _ _ e)))
  entry_there (s ∷ slots) (suc i) t e = entry_there slots i t e
