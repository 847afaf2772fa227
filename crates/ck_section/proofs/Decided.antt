-- Calls on one name of held stripes, by what was found and written.
use Rattle.std.proofs.Common.{◌≡◌, ◌≢◌, inl, ℕ, zero, suc, ◌+◌, ◌-◌, ◌/◌, ◌^◌, ◌<◌, List, [], ◌∷◌, Option, Some, None, length, refl, sym, ◌∙◌, ap, subst}
use Rattle.std.specs.Prelude.{slice_set}
use Rattle.std.specs.FinMap.{get, find}
use Rattle.ck_model.specs.declared.history.Act.{Act}
use Rattle.ck_model.specs.declared.history.Call.TheVariants.{On}
use Rattle.ck_model.specs.declared.history.Reply.{Reply}
use Rattle.ck_model.specs.declared.contents.Content.{Content}
use Rattle.ck_model.specs.Promise.{Name, name_cmp, Answers}
use Rattle.ck_model.specs.Slots.{Slot, slot_at}
use Rattle.ck_model.specs.Numbered.{Holds}
use Rattle.ck_model.specs.Contents.{IsBucketOf, Layout, layout, Stripes, Binds, pairs_in, row_at, bindings, IsSound, Lawful}
use Rattle.ck_model.specs.Sections.{Section}
use Rattle.ck_model.proofs.Local.{Change, section_in_one}
use Rattle.ck_model.proofs.Writes.{Writes, written, stands, places, removes, replaces}
use Rattle.ck_stripe.specs.Stripe.{StripeState, bucket_of, with_slot}
use Rattle.ck_section.specs.declared.place.KeyPlace.{KeyPlace}
use Rattle.ck_stripe.specs.declared.held_slot.HeldSlot.{HeldSlot}
use Rattle.ck_stripe.specs.Stripes.{stripe_at, contents_of, IsInReach}
use Rattle.ck_section.specs.Places.{IsPlaceOf, IsSlotOf, IsNowhere}
use Rattle.ck_stripe.specs.HeldSlots.{slot_in, set_slot}
use Rattle.ck_section.specs.Calls.{IsCall}
use Rattle.ck_stripe.proofs.Tables.{holds_at}
use Rattle.ck_section.proofs.Found.{contents_set, set_here, row_bucket, row_within, sound_at, nowhere, unbound, owns, bound_in}

module _ {V : Type 0} where
  -- a call, by the parts of its effect
  abbrev pub IsCallOn : (Name → ℕ) → ℕ → List (StripeState V) → Name → Act V → Reply V → List (StripeState V) → Type 0
  IsCallOn hash s old q act reply new = IsCall (record { hash = hash; s = s; old = old; new = new }) q act reply

  free_slot : (slots : List (Slot V)) (i : ℕ) → slot_at (slice_set slots i None) i ≡ None
  free_slot [] i = refl
  free_slot (x ∷ xs) zero = refl
  free_slot (x ∷ xs) (suc i) = free_slot xs i

  free_row : (rows : List (List (Slot V))) (r i : ℕ) → slot_at (row_at (slice_set rows r (slice_set (row_at rows r) i None)) r) i ≡ None
  free_row [] r i = refl
  free_row (x ∷ xs) zero i = free_slot x i
  free_row (x ∷ xs) (suc r) i = free_row xs r i

  module _ (stripes : List (StripeState V)) (at : HeldSlot) (reach : IsInReach stripes at.index at.bucket) where
    abbrev here : StripeState V
    here = stripe_at stripes at.index

    -- a slot that was freed is free
    pub freed : (n : ℕ) → slot_in (set_slot stripes at None n) at ≡ None
    freed n =
        let c : Content V = with_slot here at.bucket at.slot None n in
        ap (λ (t : StripeState V). slot_at (bucket_of t at.bucket) at.slot) (set_here stripes at.index c reach.inside) ∙ free_row here.content.rows (at.bucket / 2 ^ here.s) at.slot

  module _ (hash : Name → ℕ) (stripes : List (StripeState V)) (q : Name) (place : KeyPlace) (of : IsPlaceOf hash stripes q place) where
    pub s_at : (at : HeldSlot) → IsSlotOf hash stripes q at → (stripe_at stripes at.index).s ≡ place.s
    s_at at slot = of.one_s at.index slot.reach.inside

    -- a call that changes nothing
    keeps : (act : Act V) (reply : Reply V) (o : Option V) → ((max : ℕ) → Lawful (layout hash place.s max) (contents_of stripes) → get (bindings (contents_of stripes)) q ≡ o) → Answers act o reply o → IsCallOn hash place.s stripes q act reply stripes
    keeps act reply o is answers max lawful = record {
      renewed = record { same = refl; lawful = lawful; power = inl (λ t u c d h g. sym (lawful.one_power t u c d h g)) };
      owns = owns hash place.s max stripes lawful q place of refl;
      step = (subst (λ (x : Option V). Answers act x reply x) (sym (is max lawful)) answers, λ p ne. refl);
    }

    pub keeps_unbound : (act : Act V) (reply : Reply V) → IsNowhere stripes q place → Answers act None reply None → IsCallOn hash place.s stripes q act reply stripes
    keeps_unbound act reply lacks answers = keeps act reply None (λ max lawful. unbound hash place.s max stripes lawful q place of refl lacks) answers

    pub keeps_bound : (act : Act V) (reply : Reply V) (at : HeldSlot) (v : V) → IsSlotOf hash stripes q at → slot_in stripes at ≡ Some (q, v) → Answers act (Some v) reply (Some v) → IsCallOn hash place.s stripes q act reply stripes
    keeps_bound act reply at v slot is answers = keeps act reply (Some v) (λ max lawful. bound_in hash place.s max stripes lawful q v at slot.reach is) answers

    -- one slot is written
    module _ (act : Act V) (reply : Reply V) (at : HeldSlot) (slot : IsSlotOf hash stripes q at) where
      abbrev in_it : StripeState V
      in_it = stripe_at stripes at.index

      abbrev r : ℕ
      r = at.bucket / 2 ^ in_it.s

      module _ (max : ℕ) (lawful : Lawful (layout hash place.s max) (contents_of stripes)) where
        abbrev k : Layout
        k = layout hash place.s max

        sound : IsSound k in_it.number in_it.content
        sound = sound_at hash place.s max stripes lawful at.index slot.reach.inside

        within : r < length in_it.content.rows
        within = row_within k in_it at.bucket sound slot.reach.own (s_at at slot)

        writes : (x : Slot V) (n : ℕ) (o o2 : Option V) → Writes k in_it.number in_it.content (written in_it.content r at.slot x n) q o o2
            → ((u : ℕ) (d : Content V) (v : V) → u ≢ in_it.number → Holds (contents_of stripes) u d → ¬ (Binds d q v))
            → Answers act o reply o2 → Section k (contents_of stripes) (On q act) reply (contents_of (set_slot stripes at x n))
        writes x n o o2 w apart answers =
            let c2 : Content V = written in_it.content r at.slot x n in
            let change : Change k (contents_of stripes) in_it.number in_it.content c2 q = record {
              lawful = lawful;
              here = holds_at stripes at.index slot.reach.inside;
              sound = w.sound;
              power = refl;
              others = w.others;
              nowhere_else = apart;
            } in
            subst (λ (ks : Stripes V). Section k (contents_of stripes) (On q act) reply ks) (sym (contents_set stripes at.index c2 slot.reach.inside lawful.distinct))
            (section_in_one k (contents_of stripes) in_it.number in_it.content c2 q change act reply (owns hash place.s max stripes lawful q place of refl)
            (subst (λ (y : Option V × Option V). Answers act y.0 reply y.1) (λ i. (sym w.was i, sym w.is i)) answers))

        -- a name that is in this slot is in no other stripe
        alone : (v : V) → slot_in stripes at ≡ Some (q, v) → (u : ℕ) (d : Content V) (w : V) → u ≢ in_it.number → Holds (contents_of stripes) u d → ¬ (Binds d q w)
        alone v is u d w ne h bound =
            ne (lawful.once u in_it.number d in_it.content q w v h (holds_at stripes at.index slot.reach.inside) bound (stands k in_it.number in_it.content sound r at.slot q v is))

      -- an unbound name is placed in a free slot
      pub placed : (v : V) → IsNowhere stripes q place → slot_in stripes at ≡ None → Answers act None reply (Some v) → IsCallOn hash place.s stripes q act reply (set_slot stripes at (Some (q, v)) (in_it.content.ledger + 1))
      placed v lacks free answers max lawful =
          let e : (stripe_at stripes at.index).s ≡ place.s = s_at at slot in
          let none : find name_cmp q (pairs_in in_it.content) ≡ None = absent (find name_cmp q (pairs_in in_it.content)) refl in
          writes max lawful (Some (q, v)) (in_it.content.ledger + 1) None (Some v)
          (places (layout hash place.s max) in_it.number in_it.content (sound max lawful) r at.slot (within max lawful) slot.below q v free none
          (subst (λ b. of_it b) (sym (row_bucket in_it at.bucket place.s slot.reach.own e)) slot.of_name))
          (λ u d w ne h. nowhere hash place.s max stripes lawful q place of refl lacks u d w h) answers
        where
          of_it : ℕ → Type 0
          of_it b = IsBucketOf hash in_it.content.power q b

          absent : (o : Option V) → find name_cmp q (pairs_in in_it.content) ≡ o → find name_cmp q (pairs_in in_it.content) ≡ None
          absent None f = f
          absent (Some w) f = absurd (nowhere hash place.s max stripes lawful q place of refl lacks in_it.number in_it.content w (holds_at stripes at.index slot.reach.inside) f)

      -- an entry is removed
      pub removed : (v : V) → slot_in stripes at ≡ Some (q, v) → Answers act (Some v) reply None → IsCallOn hash place.s stripes q act reply (set_slot stripes at None (in_it.content.ledger - 1))
      removed v is answers max lawful =
          writes max lawful None (in_it.content.ledger - 1) (Some v) None
          (removes (layout hash place.s max) in_it.number in_it.content (sound max lawful) r at.slot (within max lawful) slot.below q v is)
          (alone max lawful v is) answers

      -- an entry gets another value
      pub replaced : (v w : V) → slot_in stripes at ≡ Some (q, v) → Answers act (Some v) reply (Some w) → IsCallOn hash place.s stripes q act reply (set_slot stripes at (Some (q, w)) in_it.content.ledger)
      replaced v w is answers max lawful =
          writes max lawful (Some (q, w)) in_it.content.ledger (Some v) (Some w)
          (replaces (layout hash place.s max) in_it.number in_it.content (sound max lawful) r at.slot (within max lawful) slot.below q v w is)
          (alone max lawful v is) answers
