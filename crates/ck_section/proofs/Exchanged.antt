-- What a call on two names finds on its way: it takes both entries, and puts them back with other values.
use Rattle.std.proofs.Common.{◌≡◌, ◌≢◌, ℕ, List, Some, None, IsSome, is_some, sym, ◌∙◌, ap, subst}
use Rattle.std.proofs.lemmas.Option.{some_pair_parts}
use Rattle.ck_model.specs.Arithmetic.{partial_of}
use Rattle.ck_model.specs.declared.history.Reply.TheVariants.{DoneTwo}
use Rattle.ck_model.specs.Promise.{Name}
use Rattle.ck_stripe.specs.Stripe.{StripeState}
use Rattle.ck_section.specs.declared.place.KeyPlace.{KeyPlace}
use Rattle.ck_stripe.specs.declared.held_slot.HeldSlot.{HeldSlot}
use Rattle.ck_stripe.specs.Stripes.{IsInReach}
use Rattle.ck_section.specs.Places.{IsPlaceOf}
use Rattle.ck_stripe.specs.HeldSlots.{slot_in}
use Rattle.ck_section.specs.Entries.{IsOccupied}
use Rattle.ck_section.specs.Calls.{ChangesContents}
use Rattle.ck_section.specs.TwoNames.{IsChangeOfTwo}
use Rattle.ck_section.proofs.PutBack.{name_taken, entry_taken, is_taken, partial_taken}
use Rattle.ck_section.proofs.Rebound.{taken, given, reach1, full1, reach2, free2, reach3, free3, changed, section}

-- Slot x has the name a and slot y the name b in stripes that stay as they are while both are looked for; then the entry of x is taken.
module _ {V : Type 0} (hash : Name → ℕ) (a b : Name) (p1 p2 : KeyPlace) (stripes : List (StripeState V)) (of1 : IsPlaceOf hash stripes a p1) (of2 : IsPlaceOf hash stripes b p2) (different : a ≢ b)
    (looked cur : List (StripeState V)) (first : looked ≡ stripes) (second : cur ≡ looked) (x y : HeldSlot) (in_x : IsOccupied hash stripes a x) (in_y_then : IsOccupied hash looked b y)
    (one : List (StripeState V)) (n : Name) (v : V) (took : slot_in cur x ≡ Some (n, v)) (is_one : one ≡ taken cur x) where
  in_y : IsOccupied hash stripes b y
  in_y = subst (λ (l : List (StripeState V)). IsOccupied hash l b y) first in_y_then

  name_a : n ≡ a
  name_a = name_taken hash stripes a p1 of1 cur (second ∙ first) x in_x one n v took is_one

  at_x : slot_in stripes x ≡ Some (a, v)
  at_x = entry_taken hash stripes a p1 of1 cur (second ∙ first) x in_x one n v took is_one

  from_one : one ≡ taken stripes x
  from_one = is_taken hash stripes a p1 of1 cur (second ∙ first) x in_x one n v took is_one

  full_after : slot_in one y ≡ Some (b, in_y.found.0)
  full_after = ap (λ (l : List (StripeState V)). slot_in l y) from_one ∙ full1 hash a b p1 p2 stripes of1 of2 different x in_x.slot v at_x y in_y.slot in_y.found.0 in_y.found.1 v v

  pub partial_first : p1.partial ≡ partial_of (hash n)
  partial_first = partial_taken hash stripes a p1 of1 cur (second ∙ first) x in_x one n v took is_one

  pub second_reach : IsInReach one y.index y.bucket
  second_reach = subst (λ (l : List (StripeState V)). IsInReach l y.index y.bucket) (sym from_one) (reach1 hash a b p1 p2 stripes of1 of2 different x in_x.slot v at_x y in_y.slot in_y.found.0 in_y.found.1 v v)

  pub second_full : IsSome (slot_in one y)
  second_full = ap is_some full_after

  -- the entry of y is taken
  module _ (two : List (StripeState V)) (m : Name) (w : V) (took_too : slot_in one y ≡ Some (m, w)) (is_two : two ≡ taken one y) (v2 w2 : V) where
    name_b : m ≡ b
    name_b = (some_pair_parts _ _ _ _ (sym took_too ∙ full_after)).0

    at_y : slot_in stripes y ≡ Some (b, w)
    at_y = in_y.found.1 ∙ ap (λ (u : V). Some (b, u)) (sym (some_pair_parts _ _ _ _ (sym took_too ∙ full_after)).1)

    from_two : two ≡ taken (taken stripes x) y
    from_two = is_two ∙ ap (λ (l : List (StripeState V)). taken l y) from_one

    pub partial_second : p2.partial ≡ partial_of (hash m)
    partial_second = of2.partial ∙ ap (λ (k : Name). partial_of (hash k)) (sym name_b)

    pub first_reach : IsInReach two x.index x.bucket
    first_reach = subst (λ (l : List (StripeState V)). IsInReach l x.index x.bucket) (sym from_two) (reach2 hash a b p1 p2 stripes of1 of2 different x in_x.slot v at_x y in_y.slot w at_y v2 w2)

    pub first_free : slot_in two x ≡ None
    first_free = ap (λ (l : List (StripeState V)). slot_in l x) from_two ∙ free2 hash a b p1 p2 stripes of1 of2 different x in_x.slot v at_x y in_y.slot w at_y v2 w2

    -- x gets an entry again
    module _ (three : List (StripeState V)) (is_three : three ≡ given two x n v2) where
      from_three : three ≡ given (taken (taken stripes x) y) x a v2
      from_three = is_three ∙ (λ i. given (from_two i) x (name_a i) v2)

      pub again_reach : IsInReach three y.index y.bucket
      again_reach = subst (λ (l : List (StripeState V)). IsInReach l y.index y.bucket) (sym from_three) (reach3 hash a b p1 p2 stripes of1 of2 different x in_x.slot v at_x y in_y.slot w at_y v2 w2)

      pub again_free : slot_in three y ≡ None
      again_free = ap (λ (l : List (StripeState V)). slot_in l y) from_three ∙ free3 hash a b p1 p2 stripes of1 of2 different x in_x.slot v at_x y in_y.slot w at_y v2 w2

      -- and y
      module _ (four : List (StripeState V)) (is_four : four ≡ given three y m w2) where
        from_four : four ≡ given (given (taken (taken stripes x) y) x a v2) y b w2
        from_four = is_four ∙ (λ i. given (from_three i) y (name_b i) w2)

        pub exchanged : IsChangeOfTwo (record { hash = hash; s = p1.s; old = stripes; new = four }) a b (DoneTwo v w v2 w2)
        exchanged = subst (λ (l : List (StripeState V)). IsChangeOfTwo (record { hash = hash; s = p1.s; old = stripes; new = l }) a b (DoneTwo v w v2 w2)) (sym from_four)
            (section hash a b p1 p2 stripes of1 of2 different x in_x.slot v at_x y in_y.slot w at_y v2 w2)

        pub exchanged_contents : ChangesContents stripes four
        exchanged_contents = subst (λ (l : List (StripeState V)). ChangesContents stripes l) (sym from_four) (changed hash a b p1 p2 stripes of1 of2 different x in_x.slot v at_x y in_y.slot w at_y v2 w2)
