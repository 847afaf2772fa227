-- Lemmas on what is seen of slots.
use Rattle.std.proofs.Common.{IsSome, IfSome, is_some, ◌≡◌, ◌≢◌, ℕ, zero, suc, ◌<◌, ◌≤◌, List, [], ◌∷◌, Option, Some, None, refl, sym, ◌∙◌, ap, subst, map, slice_index_or, slice_index, option_map, set, length, arith, ◌⊎◌, inl, inr}
use Rattle.std.proofs.lemmas.Bool.{cases_eq, cases_lt, false≢true}
use Rattle.std.proofs.lemmas.List.{get_or-set_same, get_or-set_other, length-set, set_past}
use Rattle.std.proofs.lemmas.Option.{some_pair_parts, none-some}
use Rattle.ck_model.specs.Arithmetic.{partial_of}
use Rattle.ck_model.specs.Promise.{Name}
use Rattle.ck_model.specs.Listing.{named}
use Rattle.ck_model.specs.Slots.{Slot, slot_at, taken_in}
use Rattle.ck_bucket.specs.Bucket.{seen_slots, KeepsPartials, ReplacesValue, ChangesValue}

module _ {K V : Type 0} (name : K → Name) where
  -- a slot as it is seen
  pub seen-at : (slots : List (Option (K × V))) (i : ℕ) → slot_at (seen_slots name slots) i ≡ option_map (named name) (slice_index_or slots i None)
  seen-at [] i = refl
  seen-at (s ∷ slots) zero = refl
  seen-at (s ∷ slots) (suc i) = seen-at slots i

  -- what is seen of a slot comes from an entry
  entry_of : (o : Option (K × V)) (n : Name) (v : V) → option_map (named name) o ≡ Some (n, v) → (k : K) × (o ≡ Some (k, v)) × (name k ≡ n)
  entry_of None n v e = cc
  entry_of (Some (k, w)) n v e = let parts = some_pair_parts _ _ _ _ e in (k, ap (λ y. Some (k, y)) parts.1, parts.0)

  pub seen_entry : (slots : List (Option (K × V))) (i : ℕ) (n : Name) (v : V) → slot_at (seen_slots name slots) i ≡ Some (n, v) → (k : K) × (slice_index_or slots i None ≡ Some (k, v)) × (name k ≡ n)
  seen_entry slots i n v e = entry_of (slice_index_or slots i None) n v (sym (seen-at slots i) ∙ e)

  pub entry_seen : (slots : List (Option (K × V))) (i : ℕ) (e : K × V) (n : Name) → Some e ≡ slice_index_or slots i None → name e.0 ≡ n → slot_at (seen_slots name slots) i ≡ Some (n, e.1)
  entry_seen slots i e n is same = seen-at slots i ∙ ap (option_map (named name)) (sym is) ∙ ap (λ m. Some (m, e.1)) same

  pub seen-set : (slots : List (Option (K × V))) (i : ℕ) (o : Option (K × V)) → seen_slots name (set slots i o) ≡ set (seen_slots name slots) i (option_map (named name) o)
  seen-set [] i o = refl
  seen-set (s ∷ slots) zero o = refl
  seen-set (s ∷ slots) (suc i) o = ap (λ xs. option_map (named name) s ∷ xs) (seen-set slots i o)

module _ {V : Type 0} (hash : Name → ℕ) where
  -- an entry is written with its partial
  pub partials-set : (partials : List ℕ) (slots : List (Slot V)) (i t : ℕ) (n : Name) (v : V) → i < 4 → length partials ≡ 4 → t ≡ partial_of (hash n) → KeepsPartials hash partials slots
      → KeepsPartials hash (set partials i t) (set slots i (Some (n, v)))
  partials-set partials slots i t n v below four is kept = record {
    four = length-set slots i _ ∙ kept.four;
    partial = λ j m w e. go j m w e (cases_eq j i);
  }
    where
      go : (j : ℕ) (m : Name) (w : V) → slot_at (set slots i (Some (n, v))) j ≡ Some (m, w) → (j ≡ i) ⊎ (j ≢ i) → slice_index (set partials i t) j ≡ partial_of (hash m)
      go j m w e (inl same) =
          let at : slot_at (set slots i (Some (n, v))) i ≡ Some (m, w) = subst (λ k. slot_at (set slots i (Some (n, v))) k ≡ Some (m, w)) same e in
          let parts = some_pair_parts _ _ _ _ (sym (get_or-set_same slots i (Some (n, v)) None (omega (arith, kept.four))) ∙ at) in
          ap (slice_index (set partials i t)) same ∙ get_or-set_same partials i t 0 (omega arith) ∙ is ∙ ap (λ k. partial_of (hash k)) parts.0
      go j m w e (inr other) =
          get_or-set_other partials i j t 0 other ∙ kept.partial j m w (sym (get_or-set_other slots i j (Some (n, v)) None other) ∙ e)

  -- a slot is freed
  pub partials-clear : (partials : List ℕ) (slots : List (Slot V)) (i : ℕ) → KeepsPartials hash partials slots → KeepsPartials hash partials (set slots i None)
  partials-clear partials slots i kept = record {
    four = length-set slots i None ∙ kept.four;
    partial = λ j m w e. go j m w e (cases_eq j i) (cases_lt i (length slots));
  }
    where
      go : (j : ℕ) (m : Name) (w : V) → slot_at (set slots i None) j ≡ Some (m, w) → (j ≡ i) ⊎ (j ≢ i) → (i < length slots) ⊎ (length slots ≤ i) → slice_index partials j ≡ partial_of (hash m)
      go j m w e (inl same) (inl within) =
          absurd (none-some _ (sym (get_or-set_same slots i None None within) ∙ subst (λ k. slot_at (set slots i None) k ≡ Some (m, w)) same e))
      go j m w e (inl same) (inr past) = kept.partial j m w (ap (λ s. slot_at s j) (sym (set_past slots i None past)) ∙ e)
      go j m w e (inr other) c = kept.partial j m w (sym (get_or-set_other slots i j None None other) ∙ e)

  -- an entry goes to another bucket, its partial beside it
  pub partials-moved : (from into : List ℕ) (slots others : List (Slot V)) (i : ℕ) → i < 4 → length into ≡ 4 → KeepsPartials hash from slots → KeepsPartials hash into others
      → KeepsPartials hash (set into i (slice_index from i)) (set others i (slot_at slots i))
  partials-moved from into slots others i below four source kept = record {
    four = length-set others i _ ∙ kept.four;
    partial = λ j m w e. go j m w e (cases_eq j i);
  }
    where
      go : (j : ℕ) (m : Name) (w : V) → slot_at (set others i (slot_at slots i)) j ≡ Some (m, w) → (j ≡ i) ⊎ (j ≢ i) → slice_index (set into i (slice_index from i)) j ≡ partial_of (hash m)
      go j m w e (inl same) =
          let at : slot_at (set others i (slot_at slots i)) i ≡ Some (m, w) = subst (λ k. slot_at (set others i (slot_at slots i)) k ≡ Some (m, w)) same e in
          ap (slice_index (set into i (slice_index from i))) same ∙ get_or-set_same into i (slice_index from i) 0 (omega arith)
          ∙ source.partial i m w (sym (get_or-set_same others i (slot_at slots i) None (omega (arith, kept.four))) ∙ at)
      go j m w e (inr other) =
          get_or-set_other into i j (slice_index from i) 0 other ∙ kept.partial j m w (sym (get_or-set_other others i j (slot_at slots i) None other) ∙ e)

-- what is seen in the slots is what is in them, by names
pub taken-seen : {K V : Type 0} (name : K → Name) (slots : List (Option (K × V))) → taken_in (seen_slots name slots) ≡ map (named name) (taken_in slots)
taken-seen name [] = refl
taken-seen name (None ∷ slots) = taken-seen name slots
taken-seen name (Some e ∷ slots) = ap (λ xs. named name e ∷ xs) (taken-seen name slots)

-- a value that was replaced, as it is seen
pub replaced : {K V : Type 0} (name : K → Name) (slots after : List (Option (K × V))) (i : ℕ) (value old : V) → IsSome (slot_at (seen_slots name slots) i)
    → IfSome (slice_index_or slots i None) (λ (e : K × V). (old ≡ e.1) × (after ≡ set slots i (Some (e.0, value)))) → ReplacesValue (seen_slots name slots) (seen_slots name after) i value old
replaced {K} {V = W} name slots after i value old full h = go (slice_index_or slots i None) refl h
  where
    go : (o : Option (K × W)) → slice_index_or slots i None ≡ o → IfSome o (λ (e : K × W). (old ≡ e.1) × (after ≡ set slots i (Some (e.0, value)))) → ReplacesValue (seen_slots name slots) (seen_slots name after) i value old
    go None e f = absurd (false≢true (ap (λ o. is_some (option_map (named name) o)) (sym e) ∙ ap is_some (sym (seen-at name slots i)) ∙ full))
    go (Some x) e f = record {
      name = name x.0;
      was = seen-at name slots i ∙ ap (option_map (named name)) e ∙ ap (λ v. Some (name x.0, v)) (sym f.0);
      is = ap (seen_slots name) f.1 ∙ seen-set name slots i (Some (x.0, value));
    }

-- a value that was changed, as it is seen
pub changed : {K V : Type 0} (name : K → Name) (becomes : V → V → Type 0) (slots after : List (Option (K × V))) (i : ℕ) → IsSome (slot_at (seen_slots name slots) i)
    → IfSome (slice_index_or slots i None) (λ (e : K × V). (value : V) × becomes e.1 value × (after ≡ set slots i (Some (e.0, value)))) → ChangesValue becomes (seen_slots name slots) (seen_slots name after) i
changed {K} {V = W} name becomes slots after i full h = go (slice_index_or slots i None) refl h
  where
    go : (o : Option (K × W)) → slice_index_or slots i None ≡ o → IfSome o (λ (e : K × W). (value : W) × becomes e.1 value × (after ≡ set slots i (Some (e.0, value)))) → ChangesValue becomes (seen_slots name slots) (seen_slots name after) i
    go None e f = absurd (false≢true (ap (λ o. is_some (option_map (named name) o)) (sym e) ∙ ap is_some (sym (seen-at name slots i)) ∙ full))
    go (Some x) e f =
        let read : IfSome (slice_index_or slots i None) (λ (y : K × W). (x.1 ≡ y.1) × (after ≡ set slots i (Some (y.0, f.0)))) = subst (λ o. IfSome o (λ (y : K × W). (x.1 ≡ y.1) × (after ≡ set slots i (Some (y.0, f.0))))) (sym e) (refl, f.2) in
        (x.1, f.0, f.1, replaced name slots after i f.0 x.1 full read)

-- partials stay right where a value is replaced
pub partials-replaced : {V : Type 0} (hash : Name → ℕ) (partials : List ℕ) (before after : List (Slot V)) (i : ℕ) (value old : V) → KeepsPartials hash partials before → ReplacesValue before after i value old → KeepsPartials hash partials after
partials-replaced {V = W} hash partials before after i value old kept r = record {
  four = ap length r.is ∙ length-set before i _ ∙ kept.four;
  partial = λ j m w e. go j m w (ap (λ s. slot_at s j) (sym r.is) ∙ e) (cases_eq j i) (cases_lt i (length before));
}
  where
    go : (j : ℕ) (m : Name) (w : W) → slot_at (set before i (Some (r.name, value))) j ≡ Some (m, w) → (j ≡ i) ⊎ (j ≢ i) → (i < length before) ⊎ (length before ≤ i) → slice_index partials j ≡ partial_of (hash m)
    go j m w e (inl same) (inl within) =
        let at = sym (get_or-set_same before i (Some (r.name, value)) None within) ∙ ap (λ k. slot_at (set before i (Some (r.name, value))) k) (sym same) ∙ e in
        ap (slice_index partials) same ∙ kept.partial i r.name old r.was ∙ ap (λ n. partial_of (hash n)) (some_pair_parts _ _ _ _ at).0
    go j m w e (inl same) (inr past) = kept.partial j m w (ap (λ s. slot_at s j) (sym (set_past before i (Some (r.name, value)) past)) ∙ e)
    go j m w e (inr apart) c = kept.partial j m w (sym (get_or-set_other before i j (Some (r.name, value)) None apart) ∙ e)
