-- What a rename makes of held stripes: the entry of one name is taken out of its slot, and another name gets its value in a slot that is free then.
use Rattle.std.proofs.Common.{◌≡◌, ◌≢◌, ◌⊎◌, ⊎_elim, ℕ, ◌<◌, List, Option, Some, None, true, false, is_some, IfSome, IfNone, refl, sym, ◌∙◌, ap, subst}
use Rattle.std.proofs.lemmas.Option.{none-some}
use Rattle.ck_model.specs.Arithmetic.{index_of, second_of}
use Rattle.ck_model.specs.declared.history.Act.TheVariants.{Find, Insert, Erase}
use Rattle.ck_model.specs.declared.history.Reply.TheVariants.{Was, New}
use Rattle.ck_model.specs.Promise.{Name}
use Rattle.ck_bucket.specs.Bucket.{LacksName}
use Rattle.ck_stripe.specs.Stripe.{StripeState}
use Rattle.ck_section.specs.declared.place.KeyPlace.{KeyPlace}
use Rattle.ck_stripe.specs.declared.held_slot.HeldSlot.{HeldSlot}
use Rattle.ck_stripe.specs.Stripes.{stripe_at, bucket_at, IsInReach}
use Rattle.ck_section.specs.Places.{IsPlaceOf, IsSlotOf, IsNowhere, AreFull}
use Rattle.ck_stripe.specs.HeldSlots.{slot_in}
use Rattle.ck_section.specs.Entries.{IsOccupied}
use Rattle.ck_section.specs.Calls.{IsWithoutRoom, ChangesContents}
use Rattle.ck_section.specs.TwoNames.{RenamesThrough}
use Rattle.ck_section.proofs.Found.{changes_on}
use Rattle.ck_section.proofs.Decided.{IsCallOn, freed, s_at, placed}
use Rattle.ck_section.proofs.Steps.{lacked, without_room, kept, took}
use Rattle.ck_section.proofs.PutBack.{entry_taken, is_taken}
use Rattle.ck_section.proofs.Rebinding.{keeps_s, keeps_power, keeps_reach, keeps_slot, slot_other, apart_from}
use Rattle.ck_section.proofs.Rebound.{one_s, taken, given, changed_slot}

-- Whether something was found is known.
pub was_found : {A : Type 0} (o : Option A) (P : A → Type 0) → true ≡ is_some o → IfSome o P → (x : A) × P x
was_found None P e h = absurd cc
was_found (Some x) P e h = (x, h)

pub was_missed : {A : Type 0} (o : Option A) (P : Type 0) → false ≡ is_some o → IfNone o P → P
was_missed None P e h = h
was_missed (Some x) P e h = absurd cc

module _ {V : Type 0} where
  -- A slot is freed: the buckets of a name are in reach as before, and lack it as before.
  module _ (hash : Name → ℕ) (stripes : List (StripeState V)) (at : HeldSlot) (reach : IsInReach stripes at.index at.bucket) where
    abbrev one : List (StripeState V)
    one = taken stripes at

    place_after : (q : Name) (place : KeyPlace) → IsPlaceOf hash stripes q place → IsPlaceOf hash one q place
    place_after q place of = record {
      many = of.many;
      one_s = λ i l. keeps_s stripes at reach.inside None _ i ∙ of.one_s i (subst (λ n. i < n) (changed_slot stripes at None _ reach.inside).count l);
      partial = of.partial;
      first_reach = keeps_reach stripes at reach.inside None _ place.first.index place.first.bucket of.first_reach;
      first = of.first ∙ ap (λ p. index_of p (hash q)) (sym (keeps_power stripes at reach.inside None _ place.first.index));
      alternate_reach = keeps_reach stripes at reach.inside None _ place.alternate.index place.alternate.bucket of.alternate_reach;
      alternate = of.alternate ∙ ap (λ p. second_of p (hash q)) (sym (keeps_power stripes at reach.inside None _ place.alternate.index));
      one = of.one;
    }

    module _ (s : ℕ) (e : (stripe_at stripes at.index).s ≡ s) where
      lacks_after : (q : Name) (i b : ℕ) → LacksName (bucket_at stripes i b) q → LacksName (bucket_at one i b) q
      lacks_after q i b lacks j v is =
          let y : HeldSlot = record { index = i; bucket = b; slot = j } in
          let other : slot_in one y ≢ slot_in one at = λ f. none-some (q, v) (sym (freed stripes at reach _) ∙ sym f ∙ is) in
          lacks j v (sym (slot_other stripes at reach.inside None _ s e y (apart_from one y at s (keeps_s stripes at reach.inside None _ at.index ∙ e) other)) ∙ is)

      nowhere_after : (q : Name) (place : KeyPlace) → IsNowhere stripes q place → IsNowhere one q place
      nowhere_after q place lacks = record {
        first = lacks_after q place.first.index place.first.bucket lacks.first;
        alternate = lacks_after q place.alternate.index place.alternate.bucket lacks.alternate;
      }

      -- a slot that was free, or is the freed one, is free
      free_after : (q : Name) (v : V) → slot_in stripes at ≡ Some (q, v) → (y : HeldSlot) → (slot_in stripes y ≡ None) ⊎ (y ≡ at) → slot_in one y ≡ None
      free_after q v has y which = ⊎_elim
          (λ free. slot_other stripes at reach.inside None _ s e y (apart_from stripes y at s e (λ f. none-some (q, v) (sym free ∙ f ∙ has))) ∙ free)
          (λ same. subst (λ (z : HeldSlot). slot_in one z ≡ None) (sym same) (freed stripes at reach _))
          which

  module _ (hash : Name → ℕ) (a b : Name) (p1 p2 : KeyPlace) (stripes : List (StripeState V)) (of1 : IsPlaceOf hash stripes a p1) (of2 : IsPlaceOf hash stripes b p2) (different : a ≢ b) where
    -- a fact of the table of the one name is one of that of the other
    of_table : (P : ℕ → Type 0) → P p1.s → P p2.s
    of_table P = subst P (sym (one_s hash a b p1 p2 stripes of1 of2 different))

    -- the first name was not found
    pub finds_unbound : (looked : List (StripeState V)) → looked ≡ stripes → IsNowhere stripes a p1 → IsCallOn hash p2.s stripes a Find (Was None) looked
    finds_unbound looked same lacks = of_table (λ s. IsCallOn hash s stripes a Find (Was None) looked) (lacked hash stripes a p1 of1 looked same Find (Was None) lacks (refl, refl))

    -- the first name is in slot x, in stripes that stay as they are while the second is looked for
    module _ (looked again : List (StripeState V)) (first : looked ≡ stripes) (second : again ≡ looked) (x : HeldSlot) (in_x : IsOccupied hash stripes a x) where
      -- so it was found
      pub finds_first : (v : V) × IsCallOn hash p2.s stripes a Find (Was (Some v)) again
      finds_first =
          let v : V = in_x.found.0 in
          (v, of_table (λ s. IsCallOn hash s stripes a Find (Was (Some v)) again) (kept hash stripes a p1 of1 again (second ∙ first) x in_x Find (Was (Some v)) (refl, refl)))

      -- both were
      pub finds_both : (y : HeldSlot) × IsOccupied hash looked b y → ((v : V) × IsCallOn hash p2.s stripes a Find (Was (Some v)) again) × ((w : V) × IsCallOn hash p2.s stripes b Find (Was (Some w)) again)
      finds_both found =
          let in_y : IsOccupied hash stripes b found.0 = subst (λ (l : List (StripeState V)). IsOccupied hash l b found.0) first found.1 in
          let w : V = in_y.found.0 in (
            finds_first,
            (w, kept hash stripes b p2 of2 again (second ∙ first) found.0 in_y Find (Was (Some w)) (refl, refl)),
          )

      module _ (lacks : IsNowhere looked b p2) where
        lacks_b : IsNowhere stripes b p2
        lacks_b = subst (λ (l : List (StripeState V)). IsNowhere l b p2) first lacks

        -- the second was not found, and it has no slot
        pub finds_no_room : AreFull again p2 → IsWithoutRoom hash p2.s stripes b
        finds_no_room full = without_room hash stripes b p2 of2 again (second ∙ first) lacks_b (subst (λ (l : List (StripeState V)). AreFull l p2) (second ∙ first) full)

        -- y is a slot of it that is free, or is x; then the entry of x is taken
        module _ (y : HeldSlot) (of_y_then : IsSlotOf hash again b y) (which : (slot_in again y ≡ None) ⊎ (y ≡ x)) (cur : List (StripeState V)) (third : cur ≡ again)
            (mid : List (StripeState V)) (n : Name) (v : V) (has : slot_in cur x ≡ Some (n, v)) (is_mid : mid ≡ taken cur x) where
          same : cur ≡ stripes
          same = third ∙ second ∙ first

          of_y : IsSlotOf hash stripes b y
          of_y = subst (λ (l : List (StripeState V)). IsSlotOf hash l b y) (second ∙ first) of_y_then

          reach : IsInReach stripes x.index x.bucket
          reach = in_x.slot.reach

          in_s : (stripe_at stripes x.index).s ≡ p1.s
          in_s = s_at hash stripes a p1 of1 x in_x.slot

          from_mid : mid ≡ taken stripes x
          from_mid = is_taken hash stripes a p1 of1 cur same x in_x mid n v has is_mid

          at_x : slot_in stripes x ≡ Some (a, v)
          at_x = entry_taken hash stripes a p1 of1 cur same x in_x mid n v has is_mid

          pub to_reach : IsInReach mid y.index y.bucket
          to_reach = subst (λ (l : List (StripeState V)). IsInReach l y.index y.bucket) (sym from_mid) (keeps_reach stripes x reach.inside None _ y.index y.bucket of_y.reach)

          pub to_free : slot_in mid y ≡ None
          to_free = ap (λ (l : List (StripeState V)). slot_in l y) from_mid ∙ free_after hash stripes x reach p1.s in_s a v at_x y (subst (λ (l : List (StripeState V)). (slot_in l y ≡ None) ⊎ (y ≡ x)) (second ∙ first) which)

          -- the second name gets its value there
          module _ (new : List (StripeState V)) (is_new : new ≡ given mid y b v) where
            to_mid : ChangesContents stripes mid
            to_mid = subst (λ (l : List (StripeState V)). ChangesContents stripes l) (sym from_mid) (changed_slot stripes x None _ reach.inside)

            to_new : ChangesContents mid new
            to_new = subst (λ (l : List (StripeState V)). ChangesContents mid l) (sym is_new) (changed_slot mid y (Some (b, v)) _ to_reach.inside)

            place_mid : IsPlaceOf hash mid b p2
            place_mid = subst (λ (l : List (StripeState V)). IsPlaceOf hash l b p2) (sym from_mid) (place_after hash stripes x reach b p2 of2)

            slot_mid : IsSlotOf hash mid b y
            slot_mid = subst (λ (l : List (StripeState V)). IsSlotOf hash l b y) (sym from_mid) (keeps_slot stripes x reach.inside None _ hash b y of_y)

            lacks_mid : IsNowhere mid b p2
            lacks_mid = subst (λ (l : List (StripeState V)). IsNowhere l b p2) (sym from_mid) (nowhere_after hash stripes x reach p1.s in_s b p2 lacks_b)

            pub renamed : RenamesThrough (record { hash = hash; s = p2.s; old = stripes; new = new }) a b
            renamed = record {
              value = v;
              between = mid;
              erased = of_table (λ s. IsCallOn hash s stripes a Erase (Was (Some v)) mid) (took hash stripes a p1 of1 cur same x in_x Erase (λ w. Was (Some w)) n v mid (λ w. (refl, refl)) has is_mid);
              inserted = subst (λ (l : List (StripeState V)). IsCallOn hash p2.s mid b (Insert v) New l) (sym is_new) (placed hash mid b p2 place_mid (Insert v) New y slot_mid v lacks_mid to_free (refl, refl));
              first = to_mid;
              last = to_new;
            }

            pub renamed_contents : ChangesContents stripes new
            renamed_contents = changes_on stripes mid new to_mid to_new
