-- A slot that is taken gets another entry, or none: each slot that was free stays free.
use Rattle.std.proofs.Common.{◌≡◌, ℕ, ◌/◌, ◌^◌, ◌<◌, List, None, IsSome, is_some, length, refl, sym, ◌∙◌, ap, subst}
use Rattle.std.proofs.lemmas.Bool.{false≢true}
use Rattle.ck_model.specs.Slots.{Slot}
use Rattle.ck_stripe.specs.Stripe.{StripeState}
use Rattle.ck_stripe.specs.declared.held_slot.HeldSlot.{HeldSlot}
use Rattle.ck_stripe.specs.Stripes.{stripe_at}
use Rattle.ck_stripe.specs.HeldSlots.{slot_in, set_slot}
use Rattle.ck_section.specs.Calls.{KeepsFree}
use Rattle.ck_section.proofs.Rebinding.{slot_other, apart_from, keeps_s}

module _ {V : Type 0} where
  -- the one slot is taken, and the other is free
  pub is_apart : (stripes : List (StripeState V)) (at y : HeldSlot) → IsSome (slot_in stripes at) → slot_in stripes y ≡ None
      → let s = (stripe_at stripes at.index).s in y.index ≡ at.index → y.bucket / 2 ^ s ≡ at.bucket / 2 ^ s → y.slot ≡ at.slot → ⊥
  is_apart stripes at y full free = apart_from stripes y at (stripe_at stripes at.index).s refl
      (λ e. false≢true (ap is_some (sym free ∙ e) ∙ full))

  -- the slot is written
  pub set_free : (stripes : List (StripeState V)) (at : HeldSlot) (x : Slot V) (n : ℕ) → at.index < length stripes → IsSome (slot_in stripes at) → KeepsFree stripes (set_slot stripes at x n)
  set_free stripes at x n inside full i b slot free =
      let y : HeldSlot = record { index = i; bucket = b; slot = slot } in
      slot_other stripes at inside x n (stripe_at stripes at.index).s refl y (is_apart stripes at y full free) ∙ free

  -- it is written twice
  pub set_free_twice : (stripes : List (StripeState V)) (at : HeldSlot) (x z : Slot V) (n m : ℕ) → at.index < length stripes → at.index < length (set_slot stripes at x n) → IsSome (slot_in stripes at)
      → KeepsFree stripes (set_slot (set_slot stripes at x n) at z m)
  set_free_twice stripes at x z n m inside still full i b slot free =
      let y : HeldSlot = record { index = i; bucket = b; slot = slot } in
      slot_other (set_slot stripes at x n) at still z m (stripe_at stripes at.index).s (keeps_s stripes at inside x n at.index) y (is_apart stripes at y full free)
      ∙ set_free stripes at x n inside full i b slot free

  -- nothing is written
  pub free_same : (old new : List (StripeState V)) → new ≡ old → KeepsFree old new
  free_same old new same = subst (λ (l : List (StripeState V)). KeepsFree old l) (sym same) (λ i b slot free. free)

  -- first nothing is
  pub free_since : (stripes cur new : List (StripeState V)) → cur ≡ stripes → KeepsFree cur new → KeepsFree stripes new
  free_since stripes cur new same = subst (λ (l : List (StripeState V)). KeepsFree l new) same

  -- the slot is written in stripes that stayed as they were
  pub slot_free : (stripes cur new : List (StripeState V)) (at : HeldSlot) (x : Slot V) (n : ℕ) → cur ≡ stripes → at.index < length stripes → IsSome (slot_in stripes at) → new ≡ set_slot cur at x n → KeepsFree stripes new
  slot_free stripes cur new at x n same inside full e =
      subst (λ (l : List (StripeState V)). KeepsFree stripes l) (sym (e ∙ ap (λ (l : List (StripeState V)). set_slot l at x n) same)) (set_free stripes at x n inside full)
