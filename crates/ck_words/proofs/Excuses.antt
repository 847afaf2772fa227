-- What excuses a refusal doesn't depend on the order of the stripes.
use Rattle.std.proofs.Common.{◌≡◌, ◌⊎◌, ℕ, ◌+◌, ◌/◌, ◌%◌, ◌^◌, List, [], ◌∷◌, ◌++◌, length, reverse, length-append, sym, refl, ap, ◌∙◌, subst, ⊎_elim, inl, inr, ◌*◌, ◌<◌, arith, Option, Some, None}
use Rattle.std.specs.FinMap.{get}
use mathlib.Core.Logic.{dite}
use native.Mathlib.Decide.{ℕ_discrete}
use Rattle.ck_model.specs.declared.history.Reason.{Reason}
use Rattle.ck_model.specs.declared.history.Reason.TheVariants.{NoRoom, Full, LoadTooLow, Memory}
use Rattle.ck_model.specs.declared.contents.Content.{Content}
use Rattle.ck_model.specs.Arithmetic.{alternate_of, partial_of}
use Rattle.ck_model.specs.Promise.{Name, Map}
use Rattle.ck_model.specs.Slots.{Slot, slot_at, IsFull, HasFree}
use Rattle.ck_model.specs.Numbered.{IsIn, numbers, Holds}
use Rattle.ck_model.specs.Contents.{Layout, Stripes, IsBucketOf, Lawful, pairs_in, pairs_of, power_of, row_at, rows_of, bucket_in}
use Rattle.ck_model.specs.Paths.{HasNoRoom, IsPathFrom, IsStuck, IsTooEmpty, Grounds}
use Rattle.ck_model.proofs.Numbered.{if_else}
use Rattle.ck_core.specs.Steps.{HasGrounds, IsExcused}
use Rattle.ck_model.proofs.Rows.{rows_held, power_held}
use Rattle.ck_words.proofs.Reversed.{reverse-cons, held_reverse, in_reverse, in_of_reverse, distinct_reverse, lawful_reverse, bindings-reverse}

module _ {V : Type 0} where
  held_or_out : (hs : Stripes V) (t : ℕ) → ((c : Content V) × Holds hs t c) ⊎ (¬ (IsIn t (numbers hs)))
  held_or_out [] t = inr (λ i. i)
  held_or_out (h ∷ hs) t = dite (ℕ_discrete h.0 t) (λ e. inl (h.1, inl (e, refl)))
      (λ ne. ⊎_elim (λ (d : (c : Content V) × Holds hs t c). inl (d.0, inr d.1)) (λ out. inr (λ i. ⊎_elim ne out i)) (held_or_out hs t))

  no_rows : (hs : Stripes V) (t : ℕ) → ¬ (IsIn t (numbers hs)) → rows_of hs t ≡ []
  no_rows [] t out = refl
  no_rows (h ∷ hs) t out = if_else h.0 t h.1.rows (rows_of hs t) (λ e. out (inl e)) ∙ no_rows hs t (λ i. out (inr i))

  count-append : (hs ks : Stripes V) → length (pairs_of (hs ++ ks)) ≡ length (pairs_of hs) + length (pairs_of ks)
  count-append [] ks = omega arith
  count-append (h ∷ hs) ks =
      let e = count-append hs ks in
      let x = length-append (pairs_in h.1) (pairs_of (hs ++ ks)) in
      let y = length-append (pairs_in h.1) (pairs_of hs) in
      omega arith

  pub count-reverse : (hs : Stripes V) → length (pairs_of (reverse hs)) ≡ length (pairs_of hs)
  count-reverse [] = refl
  count-reverse (h ∷ hs) =
      let e = count-reverse hs in
      let x = ap (λ (ks : Stripes V). length (pairs_of ks)) (reverse-cons h hs) in
      let y = count-append (reverse hs) (h ∷ []) in
      let z = count-append (h ∷ []) hs in
      omega arith

module _ {V : Type 0} (k : Layout) (hs : Stripes V) (l : Lawful k hs) where
  abbrev turned : Stripes V
  turned = reverse hs

  rows-reverse : (t : ℕ) → rows_of turned t ≡ rows_of hs t
  rows-reverse t = ⊎_elim
      (λ (d : (c : Content V) × Holds hs t c). rows_held turned t d.0 (distinct_reverse hs l.distinct) (held_reverse hs t d.0 d.1) ∙ sym (rows_held hs t d.0 l.distinct d.1))
      (λ out. no_rows turned t (λ i. out (in_of_reverse hs t i)) ∙ sym (no_rows hs t out)) (held_or_out hs t)

  bucket-reverse : (b : ℕ) → bucket_in k turned b ≡ bucket_in k hs b
  bucket-reverse b = ap (λ (rows : List (List (Slot V))). row_at rows (b / 2 ^ k.s)) (rows-reverse (b % 2 ^ k.s))

power-reverse : {V : Type 0} (k : Layout) (hs : Stripes V) → Lawful k hs → power_of (reverse hs) ≡ power_of hs
power-reverse k [] l = refl
power-reverse k (h ∷ hs) l = power_held k (reverse (h ∷ hs)) h.0 h.1 (lawful_reverse k (h ∷ hs) l) (held_reverse (h ∷ hs) h.0 h.1 (inl (refl, refl)))

module _ {V : Type 0} (k : Layout) (hs : Stripes V) (l : Lawful k hs) where
  no_room_reverse : (q : Name) → HasNoRoom k hs q → HasNoRoom k (reverse hs) q
  no_room_reverse q r = record {
    unbound = ap (λ (m : Map V). get m q) (bindings-reverse k hs l) ∙ r.unbound;
    full = λ b of. subst IsFull (sym (bucket-reverse k hs l b)) (r.full b (subst (λ p. IsBucketOf k.hash p q b) (power-reverse k hs l) of));
  }

  path_of_reverse : (b : ℕ) (cs : List ℕ) → IsPathFrom k (reverse hs) b cs → IsPathFrom k hs b cs
  path_of_reverse b [] p = subst HasFree (bucket-reverse k hs l b) p
  path_of_reverse b (c ∷ cs) p = (
    subst IsFull (bucket-reverse k hs l b) p.0,
    subst (λ (x : List (Slot V) × ℕ). (i : ℕ) × (q : Name) × (v : V) × (slot_at x.0 i ≡ Some (q, v)) × (c ≡ alternate_of x.1 (partial_of (k.hash q)) b)) (λ j. (bucket-reverse k hs l b j, power-reverse k hs l j)) p.1,
    path_of_reverse c cs p.2,
  )

  stuck_reverse : (q : Name) → IsStuck k hs q → IsStuck k (reverse hs) q
  stuck_reverse q s = record {
    lawful = lawful_reverse k hs l;
    all = λ t i. in_reverse hs t (s.all t i);
    unbound = ap (λ (m : Map V). get m q) (bindings-reverse k hs l) ∙ s.unbound;
    no_path = λ b cs of short path. s.no_path b cs (subst (λ p. IsBucketOf k.hash p q b) (power-reverse k hs l) of) short (path_of_reverse b cs path);
  }

  grounds_reverse : (min_load : ℕ) (q : Name) (why : Reason) → Grounds k min_load hs q why → Grounds k min_load (reverse hs) q why
  grounds_reverse min_load q Full g = (stuck_reverse q g.0, power-reverse k hs l ∙ g.1)
  grounds_reverse min_load q LoadTooLow g = (stuck_reverse q g.0, (λ e. g.1 (sym (power-reverse k hs l) ∙ e)), too_empty)
    where
      too_empty : IsTooEmpty min_load (reverse hs)
      too_empty = subst (λ (x : ℕ × ℕ). 100 * x.0 < min_load * (4 * 2 ^ x.1)) (λ j. (sym (count-reverse hs) j, sym (power-reverse k hs l) j)) g.2
  grounds_reverse min_load q Memory g = (stuck_reverse q g.0, (λ e. g.1 (sym (power-reverse k hs l) ∙ e)), enough)
    where
      enough : ¬ (IsTooEmpty min_load (reverse hs))
      enough e = g.2 (subst (λ (x : ℕ × ℕ). 100 * x.0 < min_load * (4 * 2 ^ x.1)) (λ j. (count-reverse hs j, power-reverse k hs l j)) e)
  grounds_reverse min_load q NoRoom g = absurd g

  pub has_grounds_reverse : (min_load : ℕ) (g : Option (Name × Reason)) → HasGrounds k min_load hs g → HasGrounds k min_load (reverse hs) g
  has_grounds_reverse min_load None h = tt
  has_grounds_reverse min_load (Some (q, why)) h = grounds_reverse min_load q why h

  pub excused_reverse : (min_load : ℕ) (g : Option (Name × Reason)) → IsExcused k min_load hs g → IsExcused k min_load (reverse hs) g
  excused_reverse min_load None h = tt
  excused_reverse min_load (Some (q, NoRoom)) h = ((λ t of. in_reverse hs t (h.0 t of)), no_room_reverse q h.1)
  excused_reverse min_load (Some (q, Full)) h = grounds_reverse min_load q Full h
  excused_reverse min_load (Some (q, LoadTooLow)) h = grounds_reverse min_load q LoadTooLow h
  excused_reverse min_load (Some (q, Memory)) h = grounds_reverse min_load q Memory h
