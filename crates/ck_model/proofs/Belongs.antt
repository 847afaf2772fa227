-- A sound stripe has no name that belongs elsewhere.
use Rattle.std.proofs.Common.{◌≡◌, inl, inr, ℕ, suc, ◌<◌, ◌≤◌, ◌*◌, ◌+◌, ◌^◌, ◌%◌, Bool, true, false, cond, List, [], ◌∷◌, sym, refl, ap, ◌∙◌, subst, ⊎_elim, Some, None}
use Rattle.std.proofs.lemmas.Option.{none-some, same_Some}
use Rattle.std.proofs.lemmas.Nat.{mod-mul-add}
use Rattle.std.specs.Prelude.{flat_map}
use Rattle.std.specs.Ordering.{eq_by_cmp}
use Rattle.std.specs.FinMap.{find}
use Rattle.ck_model.specs.Promise.{Name, name_cmp}
use Rattle.ck_model.specs.Slots.{Slot, slot_at, taken_in}
use Rattle.ck_model.specs.declared.contents.Content.{Content}
use Rattle.ck_model.specs.Contents.{Layout, Binds, IsBucketOf, IsStripeOf, IsSound, row_at}
use Rattle.ck_model.proofs.Buckets.{index_below, second_below, index_lower, second_lower}
use Rattle.ck_model.proofs.Names.{same_name}
use Rattle.ck_model.proofs.Found.{found_either}

-- a bucket of a name is a row of a stripe of the name
pub stripe_of_bucket : (k : Layout) (p r t : ℕ) (q : Name) → k.s ≤ p → t < 2 ^ k.s → IsBucketOf k.hash p q (r * 2 ^ k.s + t) → IsStripeOf k q t
stripe_of_bucket k p r t q le l b =
    let low : (r * 2 ^ k.s + t) % 2 ^ k.s ≡ t = mod-mul-add r (2 ^ k.s) t l in
    ⊎_elim
    (λ e. inl (sym low ∙ (ap (λ n. n % 2 ^ k.s) e ∙ index_lower k.s p (k.hash q) le)))
    (λ e. inr (sym low ∙ (ap (λ n. n % 2 ^ k.s) e ∙ second_lower k.s p (k.hash q) le)))
    b

-- the stripes of a name are stripes of the layout
pub stripe_below : (k : Layout) (q : Name) (t : ℕ) → IsStripeOf k q t → t < 2 ^ k.s
stripe_below k q t s = ⊎_elim
    (λ e. subst (λ n. n < 2 ^ k.s) (sym e) (index_below k.s (k.hash q)))
    (λ e. subst (λ n. n < 2 ^ k.s) (sym e) (second_below k.s (k.hash q))) s

module _ {V : Type 0} where
  -- what is found in a bucket is in one of its slots
  pub found_slot : (q : Name) (slots : List (Slot V)) (v : V) → find name_cmp q (taken_in slots) ≡ Some v → (i : ℕ) × (slot_at slots i ≡ Some (q, v))
  found_slot q [] v e = absurd (none-some v e)
  found_slot q (None ∷ slots) v e = let rest = found_slot q slots v e in (suc rest.0, rest.1)
  found_slot q (Some x ∷ slots) v e = by (eq_by_cmp name_cmp q x.0) refl e (found_slot q slots v)
    where
      by : (b : Bool) → eq_by_cmp name_cmp q x.0 ≡ b → cond b (Some x.1) (find name_cmp q (taken_in slots)) ≡ Some v
          → (find name_cmp q (taken_in slots) ≡ Some v → (i : ℕ) × (slot_at slots i ≡ Some (q, v)))
          → (i : ℕ) × (slot_at (Some x ∷ slots) i ≡ Some (q, v))
      by true s h again = (0, ap (λ n. Some (n, x.1)) (sym (same_name q x.0 s)) ∙ ap (λ w. Some (q, w)) (same_Some x.1 v h))
      by false s h again = let rest = again h in (suc rest.0, rest.1)

  -- what is found in a stripe is in a slot of one of its rows
  pub found_entry : (q : Name) (rows : List (List (Slot V))) (v : V) → find name_cmp q (flat_map taken_in rows) ≡ Some v → (r i : ℕ) × (slot_at (row_at rows r) i ≡ Some (q, v))
  found_entry q [] v e = absurd (none-some v e)
  found_entry q (row ∷ rows) v e = ⊎_elim
      (λ here. let z = found_slot q row v here in (0, z.0, z.1))
      (λ there. let z = found_entry q rows v there in (suc z.0, z.1, z.2))
      (found_either q v (taken_in row) (flat_map taken_in rows) e)

  -- the stripe is one of the name's
  pub belongs : (k : Layout) (t : ℕ) (c : Content V) (q : Name) (v : V) → IsSound k t c → Binds c q v → IsStripeOf k q t
  belongs k t c q v sound bound =
      let z = found_entry q c.rows v bound in
      stripe_of_bucket k c.power z.0 t q sound.shaped.least sound.number (sound.placed z.0 z.1 q v z.2)
