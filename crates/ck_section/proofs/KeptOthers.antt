-- A slot that is free for a name gets what is free for it: the others stay as they are.
use Rattle.std.proofs.Common.{◌≡◌, inl, inr, ℕ, zero, suc, ◌/◌, ◌^◌, ◌<◌, List, [], ◌∷◌, Some, None, length, refl, sym, ◌∙◌, ap, subst}
use mathlib.Core.Logic.{dite}
use native.Mathlib.Decide.{ℕ_discrete}
use Rattle.std.specs.Prelude.{slice_set}
use Rattle.std.proofs.lemmas.List.{get_or-set_other}
use Rattle.ck_model.specs.Promise.{Name}
use Rattle.ck_model.specs.Slots.{Slot, slot_at}
use Rattle.ck_model.specs.Contents.{row_at}
use Rattle.ck_stripe.specs.Stripe.{StripeState, bucket_of, with_slot}
use Rattle.ck_stripe.specs.declared.held_slot.HeldSlot.{HeldSlot}
use Rattle.ck_stripe.specs.Stripes.{no_stripe, stripe_at, bucket_at}
use Rattle.ck_stripe.specs.HeldSlots.{slot_in, set_slot}
use Rattle.ck_section.specs.RoomForAll.{IsFreeFor, IsKept, KeepsOthers}
use Rattle.ck_section.proofs.Found.{set_here}

module _ {V : Type 0} (q : Name) where
  pub free_where : (slot : Slot V) → slot ≡ None → IsFreeFor q slot
  free_where slot is = subst (λ (x : Slot V). IsFreeFor q x) (sym is) tt

  pub free_with : (slot : Slot V) (v : V) → slot ≡ Some (q, v) → IsFreeFor q slot
  free_with slot v is = subst (λ (x : Slot V). IsFreeFor q x) (sym is) refl

  kept_on : (a b c : Slot V) → IsKept q a b → IsKept q b c → IsKept q a c
  kept_on a b c (inl e) (inl f) = inl (f ∙ e)
  kept_on a b c (inl e) (inr f) = inr (subst (λ (x : Slot V). IsFreeFor q x) e f.0, f.1)
  kept_on a b c (inr e) (inl f) = inr (e.0, subst (λ (x : Slot V). IsFreeFor q x) (sym f) e.1)
  kept_on a b c (inr e) (inr f) = inr (e.0, f.1)

  in_slots : (slots : List (Slot V)) (i : ℕ) (x : Slot V) → IsFreeFor q (slot_at slots i) → IsFreeFor q x → (j : ℕ) → IsKept q (slot_at slots j) (slot_at (slice_set slots i x) j)
  in_slots [] i x old new j = inl refl
  in_slots (y ∷ ys) zero x old new zero = inr (old, new)
  in_slots (y ∷ ys) zero x old new (suc j) = inl refl
  in_slots (y ∷ ys) (suc i) x old new zero = inl refl
  in_slots (y ∷ ys) (suc i) x old new (suc j) = in_slots ys i x old new j

  in_rows : (rows : List (List (Slot V))) (r i : ℕ) (x : Slot V) → IsFreeFor q (slot_at (row_at rows r) i) → IsFreeFor q x
      → (p j : ℕ) → IsKept q (slot_at (row_at rows p) j) (slot_at (row_at (slice_set rows r (slice_set (row_at rows r) i x)) p) j)
  in_rows [] r i x old new p j = inl refl
  in_rows (l ∷ ls) zero i x old new zero j = in_slots l i x old new j
  in_rows (l ∷ ls) zero i x old new (suc p) j = inl refl
  in_rows (l ∷ ls) (suc r) i x old new zero j = inl refl
  in_rows (l ∷ ls) (suc r) i x old new (suc p) j = in_rows ls r i x old new p j

  -- the slot is written
  pub set_keeps : (stripes : List (StripeState V)) (at : HeldSlot) (x : Slot V) (n : ℕ) → at.index < length stripes → IsFreeFor q (slot_in stripes at) → IsFreeFor q x → KeepsOthers q stripes (set_slot stripes at x n)
  set_keeps stripes at x n inside old new i b slot =
      let t : StripeState V = stripe_at stripes at.index in
      let c = with_slot t at.bucket at.slot x n in
      dite (ℕ_discrete i at.index)
      (λ same. let Kept : ℕ → Type 0 = λ j. IsKept q (slot_at (bucket_at stripes j b) slot) (slot_at (bucket_at (set_slot stripes at x n) j b) slot) in
      subst Kept (sym same)
      (subst (λ (u : StripeState V). IsKept q (slot_at (bucket_of t b) slot) (slot_at (bucket_of u b) slot)) (sym (set_here stripes at.index c inside))
      (in_rows t.content.rows (at.bucket / 2 ^ t.s) at.slot x old new (b / 2 ^ t.s) slot)))
      (λ ne. inl (ap (λ (u : StripeState V). slot_at (bucket_of u b) slot) (get_or-set_other stripes at.index i (record t { content = c }) no_stripe ne)))

  -- nothing is written
  pub keeps_same : (old new : List (StripeState V)) → new ≡ old → KeepsOthers q old new
  keeps_same old new same i b slot = inl (ap (λ (l : List (StripeState V)). slot_at (bucket_at l i b) slot) same)

  -- first nothing is
  pub keeps_since : (stripes cur new : List (StripeState V)) → cur ≡ stripes → KeepsOthers q cur new → KeepsOthers q stripes new
  keeps_since stripes cur new same = subst (λ (l : List (StripeState V)). KeepsOthers q l new) same

  -- one after the other
  pub keeps_on : (a b c : List (StripeState V)) → KeepsOthers q a b → KeepsOthers q b c → KeepsOthers q a c
  keeps_on a b c one two i d slot = kept_on _ _ _ (one i d slot) (two i d slot)

  -- the slot is written in stripes that stayed as they were
  pub slot_keeps : (stripes cur new : List (StripeState V)) (at : HeldSlot) (x : Slot V) (n : ℕ) → cur ≡ stripes → at.index < length stripes → IsFreeFor q (slot_in stripes at) → IsFreeFor q x → new ≡ set_slot cur at x n → KeepsOthers q stripes new
  slot_keeps stripes cur new at x n same inside was is e =
      subst (λ (l : List (StripeState V)). KeepsOthers q stripes l) (sym (e ∙ ap (λ (l : List (StripeState V)). set_slot l at x n) same)) (set_keeps stripes at x n inside was is)
