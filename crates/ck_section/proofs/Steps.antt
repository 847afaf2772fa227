-- What the acts of a call make of held stripes, where a name was found in a slot, and where it was not.
use Rattle.std.proofs.Common.{◌≡◌, ℕ, ◌+◌, ◌-◌, ◌<◌, List, Option, Some, None, IsSome, IfNone, is_some, length, refl, sym, ◌∙◌, ap, subst}
use Rattle.std.proofs.lemmas.Option.{some_pair_parts}
use Rattle.ck_model.specs.declared.history.Act.{Act}
use Rattle.ck_model.specs.declared.history.Act.TheVariants.{Find}
use Rattle.ck_model.specs.declared.history.Reply.{Reply}
use Rattle.ck_model.specs.declared.history.Reply.TheVariants.{Was, Done}
use Rattle.ck_model.specs.Promise.{Name, Answers}
use Rattle.ck_model.specs.Slots.{Slot}
use Rattle.ck_stripe.specs.Stripe.{StripeState, with_slot}
use Rattle.ck_section.specs.declared.entry.Entry.{Entry}
use Rattle.ck_section.specs.declared.entry.Entry.TheVariants.{Occupied, Vacant}
use Rattle.ck_section.specs.declared.place.KeyPlace.{KeyPlace}
use Rattle.ck_stripe.specs.declared.held_slot.HeldSlot.{HeldSlot}
use Rattle.ck_stripe.specs.Stripes.{stripe_at, len_at, IsInReach}
use Rattle.ck_section.specs.Places.{IsPlaceOf, IsNowhere, AreFull}
use Rattle.ck_stripe.specs.HeldSlots.{slot_in, set_slot}
use Rattle.ck_section.specs.Entries.{IsOccupied, IsVacant, IsEntryOf}
use Rattle.ck_section.specs.Calls.{IsWithRoom, IsWithoutRoom, KeepsFree, ChangesContents}
use Rattle.ck_section.specs.RoomForAll.{KeepsOthers}
use Rattle.ck_section.proofs.Found.{no_room, has_room, bound_room, set_changes, changes_none, changes_on}
use Rattle.ck_section.proofs.Decided.{IsCallOn, s_at, freed, keeps_unbound, keeps_bound, placed, removed, replaced}
use Rattle.ck_section.proofs.Rebinding.{keeps_s, keeps_slot}
use Rattle.ck_section.proofs.KeptFree.{slot_free}
use Rattle.ck_section.proofs.KeptOthers.{free_where, free_with, slot_keeps}

-- a fact that holds anyway
pub none_anyway : {A : Type 0} (o : Option A) (P : Type 0) → P → IfNone o P
none_anyway None P p = p
none_anyway (Some a) P p = tt

module _ {V : Type 0} where
  pub unchanged : (old new : List (StripeState V)) → new ≡ old → ChangesContents old new
  unchanged old new same = subst (λ (l : List (StripeState V)). ChangesContents old l) (sym same) (changes_none old)

  pub changes_since : (stripes cur new : List (StripeState V)) → cur ≡ stripes → ChangesContents cur new → ChangesContents stripes new
  changes_since stripes cur new same = subst (λ (l : List (StripeState V)). ChangesContents l new) same

  -- Stripes that are as they were: what was in reach is, and a slot that had a name has it.
  module _ (stripes cur : List (StripeState V)) (same : cur ≡ stripes) where
    pub reach_still : (i b : ℕ) → IsInReach stripes i b → IsInReach cur i b
    reach_still i b reach = subst (λ (l : List (StripeState V)). IsInReach l i b) (sym same) reach

    pub full_still : (at : HeldSlot) (q : Name) → (v : V) × (slot_in stripes at ≡ Some (q, v)) → IsSome (slot_in cur at)
    full_still at q found = ap is_some (ap (λ (l : List (StripeState V)). slot_in l at) same ∙ found.1)

  -- a slot of a stripe that is held is written
  written_changes : (old new : List (StripeState V)) (at : HeldSlot) (x : Slot V) (n : ℕ) → at.index < length old → new ≡ set_slot old at x n → ChangesContents old new
  written_changes old new at x n inside e =
      subst (λ (l : List (StripeState V)). ChangesContents old l) (sym e) (set_changes old at.index (with_slot (stripe_at old at.index) at.bucket at.slot x n) inside refl)

  pub slot_changes : (stripes cur new : List (StripeState V)) (at : HeldSlot) (x : Slot V) (n : ℕ) → cur ≡ stripes → IsInReach stripes at.index at.bucket → new ≡ set_slot cur at x n → ChangesContents stripes new
  slot_changes stripes cur new at x n same reach e = written_changes stripes new at x n reach.inside (e ∙ ap (λ (l : List (StripeState V)). set_slot l at x n) same)

  -- one slot is written, and then another
  pub hop_changes : (stripes cur mid new : List (StripeState V)) (from to : HeldSlot) (x y : Slot V) (n m : ℕ) → cur ≡ stripes → from.index < length stripes → to.index < length stripes
      → mid ≡ set_slot cur from x n → new ≡ set_slot mid to y m → ChangesContents stripes new
  hop_changes stripes cur mid new from to x y n m same first second e f =
      let one : ChangesContents stripes mid = written_changes stripes mid from x n first (e ∙ ap (λ (l : List (StripeState V)). set_slot l from x n) same) in
      changes_on stripes mid new one (written_changes mid new to y m (subst (λ k. to.index < k) (sym one.count) second) f)

  -- what a call replied that gave nothing back
  pub replied_none : (hash : Name → ℕ) (s : ℕ) (stripes new : List (StripeState V)) (q : Name) (act : Act V) (r : Option V) → r ≡ None
      → IsCallOn hash s stripes q act (Was None) new → IsCallOn hash s stripes q act (Was r) new
  replied_none hash s stripes new q act r is = subst (λ (o : Option V). IsCallOn hash s stripes q act (Was o) new) (sym is)

  -- An entry, by its variant.
  pub occupied_here : (hash : Name → ℕ) (stripes : List (StripeState V)) (q : Name) (place : KeyPlace) (entry : Entry) (at : HeldSlot) → entry ≡ Occupied at → IsEntryOf hash stripes q place entry → IsOccupied hash stripes q at
  occupied_here hash stripes q place entry at is of = subst (λ (e : Entry). IsEntryOf hash stripes q place e) is of

  pub vacant_here : (hash : Name → ℕ) (stripes : List (StripeState V)) (q : Name) (place : KeyPlace) (entry : Entry) (at : HeldSlot) → entry ≡ Vacant at → IsEntryOf hash stripes q place entry → IsVacant hash stripes q place at
  vacant_here hash stripes q place entry at is of = subst (λ (e : Entry). IsEntryOf hash stripes q place e) is of

  module _ (hash : Name → ℕ) (stripes : List (StripeState V)) (q : Name) (place : KeyPlace) (of : IsPlaceOf hash stripes q place) (cur : List (StripeState V)) (same : cur ≡ stripes) where
    -- the name was not found
    pub lacked : (act : Act V) (reply : Reply V) → IsNowhere stripes q place → Answers act None reply None → IsCallOn hash place.s stripes q act reply cur
    lacked act reply lacks answers = subst (λ (l : List (StripeState V)). IsCallOn hash place.s stripes q act reply l) (sym same) (keeps_unbound hash stripes q place of act reply lacks answers)

    pub without_room : IsNowhere stripes q place → AreFull stripes place → IsWithoutRoom hash place.s stripes q
    without_room lacks full max lawful = no_room hash place.s max stripes lawful q place of refl lacks full

    -- the slot that the name would get
    module _ (at : HeldSlot) (vacant : IsVacant hash stripes q place at) where
      pub with_room : IsWithRoom hash place.s stripes q
      with_room max lawful = has_room hash place.s max stripes lawful q at vacant.slot (s_at hash stripes q place of at vacant.slot) vacant.next.0

      pub put : (act : Act V) (reply : Reply V) (v : V) (new : List (StripeState V)) → Answers act None reply (Some v)
          → new ≡ set_slot cur at (Some (q, v)) ((stripe_at cur at.index).content.ledger + 1) → IsCallOn hash place.s stripes q act reply new
      put act reply v new answers e =
          subst (λ (l : List (StripeState V)). IsCallOn hash place.s stripes q act reply l)
          (sym (e ∙ ap (λ (l : List (StripeState V)). set_slot l at (Some (q, v)) ((stripe_at l at.index).content.ledger + 1)) same))
          (placed hash stripes q place of act reply at vacant.slot v vacant.nowhere vacant.next.0 answers)

      pub put_keeps : (v : V) (n : ℕ) (new : List (StripeState V)) → new ≡ set_slot cur at (Some (q, v)) n → KeepsOthers q stripes new
      put_keeps v n new = slot_keeps q stripes cur new at (Some (q, v)) n same vacant.slot.reach.inside (free_where q _ vacant.next.0) refl

    -- where the name may be, among stripes that are as they were,
    pub place_still : IsPlaceOf hash cur q place
    place_still = subst (λ (l : List (StripeState V)). IsPlaceOf hash l q place) (sym same) of

    -- and what a call then made of them
    pub since : {act : Act V} {reply : Reply V} (new : List (StripeState V)) → IsCallOn hash place.s cur q act reply new → IsCallOn hash place.s stripes q act reply new
    since {act} {reply} new = subst (λ (l : List (StripeState V)). IsCallOn hash place.s l q act reply new) same

    -- the name was found in the slot
    module _ (at : HeldSlot) (here : IsOccupied hash stripes q at) where
      pub found_in : slot_in cur at ≡ Some (q, here.found.0)
      found_in = ap (λ (l : List (StripeState V)). slot_in l at) same ∙ here.found.1

      pub here_still : IsOccupied hash cur q at
      here_still = subst (λ (l : List (StripeState V)). IsOccupied hash l q at) (sym same) here

      -- what is asked of a slot that is changed,
      pub ready : record { reach : IsInReach cur at.index at.bucket; below : at.slot < 4; full : IsSome (slot_in cur at) }
      ready = record { reach = reach_still stripes cur same at.index at.bucket here.slot.reach; below = here.slot.below; full = full_still stripes cur same at q here.found }

      -- and where a closure is called on its value
      pub ready_for : {C : Type 0} → C → record { reach : IsInReach cur at.index at.bucket; below : at.slot < 4; full : IsSome (slot_in cur at); call : C }
      ready_for call = record { reach = ready.reach; below = ready.below; full = ready.full; call = call }

      pub bound_with_room : IsWithRoom hash place.s stripes q
      bound_with_room max lawful = bound_room hash place.s max stripes lawful q here.found.0 at here.slot.reach here.found.1

      pub kept : (act : Act V) (reply : Reply V) → Answers act (Some here.found.0) reply (Some here.found.0) → IsCallOn hash place.s stripes q act reply cur
      kept act reply answers =
          subst (λ (l : List (StripeState V)). IsCallOn hash place.s stripes q act reply l) (sym same) (keeps_bound hash stripes q place of act reply at here.found.0 here.slot here.found.1 answers)

      -- a call that reads the value
      pub read_kept : (P : V → Type 0) → ((n : Name) (v : V) → slot_in cur at ≡ Some (n, v) → P v) → (new : List (StripeState V)) → new ≡ cur → (v : V) × P v × IsCallOn hash place.s stripes q Find (Was (Some v)) new
      read_kept P read new still = (
        here.found.0,
        read q here.found.0 found_in,
        subst (λ (l : List (StripeState V)). IsCallOn hash place.s stripes q Find (Was (Some here.found.0)) l) (sym still) (kept Find (Was (Some here.found.0)) (refl, refl)),
      )

      wrote : (act : Act V) (reply : Reply V) (w : V) (new : List (StripeState V)) → Answers act (Some here.found.0) reply (Some w)
          → new ≡ set_slot cur at (Some (q, w)) (stripe_at cur at.index).content.ledger → IsCallOn hash place.s stripes q act reply new
      wrote act reply w new answers e =
          subst (λ (l : List (StripeState V)). IsCallOn hash place.s stripes q act reply l)
          (sym (e ∙ ap (λ (l : List (StripeState V)). set_slot l at (Some (q, w)) (stripe_at l at.index).content.ledger) same))
          (replaced hash stripes q place of act reply at here.slot here.found.0 w here.found.1 answers)

      -- the other entries stay where they are
      pub wrote_keeps : (w : V) (n : ℕ) (new : List (StripeState V)) → new ≡ set_slot cur at (Some (q, w)) n → KeepsOthers q stripes new
      wrote_keeps w n new = slot_keeps q stripes cur new at (Some (q, w)) n same here.slot.reach.inside (free_with q _ here.found.0 here.found.1) refl

      pub took_keeps : (n : ℕ) (new : List (StripeState V)) → new ≡ set_slot cur at None n → KeepsOthers q stripes new
      took_keeps n new = slot_keeps q stripes cur new at None n same here.slot.reach.inside (free_with q _ here.found.0 here.found.1) tt

      -- and the free slots free
      pub left_free : (x : Slot V) (n : ℕ) (new : List (StripeState V)) → new ≡ set_slot cur at x n → KeepsFree stripes new
      left_free x n new = slot_free stripes cur new at x n same here.slot.reach.inside (ap is_some here.found.1)

      -- the slot of an entry that is taken out is room for the name
      pub took_room : (n : ℕ) (new : List (StripeState V)) → new ≡ set_slot cur at None n → IsWithRoom hash place.s new q
      took_room n new e = subst (λ (l : List (StripeState V)). IsWithRoom hash place.s l q) (sym (e ∙ ap (λ (l : List (StripeState V)). set_slot l at None n) same))
          (λ max lawful. has_room hash place.s max (set_slot stripes at None n) lawful q at (keeps_slot stripes at here.slot.reach.inside None n hash q at here.slot)
          (keeps_s stripes at here.slot.reach.inside None n at.index ∙ s_at hash stripes q place of at here.slot) (freed stripes at here.slot.reach n))

      -- a call that puts a value in place of the old one, which it gives
      pub swapped : (act : Act V) (w r : V) (new : List (StripeState V)) → ((v : V) → Answers act (Some v) (Was (Some v)) (Some w))
          → ((n : Name) (v : V) → slot_in cur at ≡ Some (n, v) → (r ≡ v) × (new ≡ set_slot cur at (Some (n, w)) (len_at cur at.index)))
          → IsCallOn hash place.s stripes q act (Was (Some r)) new × ChangesContents stripes new × KeepsOthers q stripes new × KeepsFree stripes new
      swapped act w r new answers content =
          let z = content q here.found.0 found_in in (
            wrote act (Was (Some r)) w new (subst (λ (v : V). Answers act (Some here.found.0) (Was (Some v)) (Some w)) (sym z.0) (answers here.found.0)) z.1,
            slot_changes stripes cur new at _ _ same here.slot.reach z.1,
            wrote_keeps w _ new z.1,
            left_free _ _ new z.1,
          )

      -- a call that puts in place of the old value what a closure makes of it
      pub remade : (post : V → V → Type 0) (act : Act V) (new : List (StripeState V)) → ((v w : V) → Answers act (Some v) (Done v w) (Some w))
          → ((n : Name) (v : V) → slot_in cur at ≡ Some (n, v) → (w : V) × post v w × (new ≡ set_slot cur at (Some (n, w)) (len_at cur at.index)))
          → ((v w : V) × post v w × IsCallOn hash place.s stripes q act (Done v w) new) × ChangesContents stripes new × KeepsOthers q stripes new × KeepsFree stripes new
      remade post act new answers content =
          let v = here.found.0 in
          let z = content q v found_in in
          ((v, z.0, z.1, wrote act (Done v z.0) z.0 new (answers v z.0) z.2), slot_changes stripes cur new at _ _ same here.slot.reach z.2, wrote_keeps z.0 _ new z.2, left_free _ _ new z.2)

      pub took : (act : Act V) (reply : V → Reply V) (n : Name) (v : V) (new : List (StripeState V)) → ((w : V) → Answers act (Some w) (reply w) None)
          → slot_in cur at ≡ Some (n, v) → new ≡ set_slot cur at None ((stripe_at cur at.index).content.ledger - 1) → IsCallOn hash place.s stripes q act (reply v) new
      took act reply n v new answers is e =
          let same_value : here.found.0 ≡ v = (some_pair_parts _ _ _ _ (sym found_in ∙ is)).1 in
          subst (λ (x : List (StripeState V) × V). IsCallOn hash place.s stripes q act (reply x.1) x.0)
          (λ i. (sym (e ∙ ap (λ (l : List (StripeState V)). set_slot l at None ((stripe_at l at.index).content.ledger - 1)) same) i, same_value i))
          (removed hash stripes q place of act (reply here.found.0) at here.slot here.found.0 here.found.1 (answers here.found.0))
