-- Two entries are taken and put back with other values.
use Rattle.std.proofs.Common.{◌≡◌, ◌≢◌, inl, ℕ, ◌+◌, ◌-◌, ◌/◌, ◌^◌, ◌<◌, List, Option, Some, None, length, refl, sym, ◌∙◌, subst}
use Rattle.std.specs.FinMap.{get}
use Rattle.std.proofs.lemmas.Option.{some_pair_parts}
use Rattle.ck_model.specs.declared.history.Call.TheVariants.{ChangeTwo}
use Rattle.ck_model.specs.declared.history.Reply.TheVariants.{DoneTwo, Absent}
use Rattle.ck_model.specs.Promise.{Name, AnswersTwo, Step}
use Rattle.ck_model.specs.Slots.{Slot}
use Rattle.ck_model.specs.Contents.{Layout, layout, bindings, Lawful}
use Rattle.ck_model.specs.Sections.{Section}
use Rattle.ck_stripe.specs.Stripe.{StripeState, with_slot}
use Rattle.ck_section.specs.declared.place.KeyPlace.{KeyPlace}
use Rattle.ck_stripe.specs.declared.held_slot.HeldSlot.{HeldSlot}
use Rattle.ck_stripe.specs.Stripes.{stripe_at, contents_of, IsInReach}
use Rattle.ck_section.specs.Places.{IsPlaceOf, IsSlotOf, IsNowhere}
use Rattle.ck_stripe.specs.HeldSlots.{slot_in, set_slot}
use Rattle.ck_section.specs.Calls.{ChangesContents}
use Rattle.ck_section.specs.TwoNames.{IsChangeOfTwo}
use Rattle.ck_section.proofs.Found.{unbound, owns, bound_in, set_changes, changes_on}
use Rattle.ck_section.proofs.Decided.{freed}
use Rattle.ck_section.proofs.Rebinding.{Rebinding, keeps_s, keeps_reach, keeps_slot, slot_other, apart_from, removing, placing}
use Rattle.ck_model.proofs.Identities.{power_on}

module _ {V : Type 0} where
  -- without the entry of a slot
  abbrev pub taken : List (StripeState V) → HeldSlot → List (StripeState V)
  taken stripes at = set_slot stripes at None ((stripe_at stripes at.index).content.ledger - 1)

  -- with an entry in it
  abbrev pub given : List (StripeState V) → HeldSlot → Name → V → List (StripeState V)
  given stripes at q v = set_slot stripes at (Some (q, v)) ((stripe_at stripes at.index).content.ledger + 1)

  pub changed_slot : (stripes : List (StripeState V)) (at : HeldSlot) (x : Slot V) (n : ℕ) → at.index < length stripes → ChangesContents stripes (set_slot stripes at x n)
  changed_slot stripes at x n lt = set_changes stripes at.index (with_slot (stripe_at stripes at.index) at.bucket at.slot x n) lt refl

  module _ (hash : Name → ℕ) (a b : Name) (p1 p2 : KeyPlace) (stripes : List (StripeState V)) (of1 : IsPlaceOf hash stripes a p1) (of2 : IsPlaceOf hash stripes b p2) (different : a ≢ b) where
    pub one_s : p2.s ≡ p1.s
    one_s = sym (of2.one_s p1.first.index of1.first_reach.inside) ∙ of1.one_s p1.first.index of1.first_reach.inside

    -- a call that changes nothing
    keeps_two : (v w : Option V) → AnswersTwo v w Absent v w → ((max : ℕ) → Lawful (layout hash p1.s max) (contents_of stripes) → (get (bindings (contents_of stripes)) a ≡ v) × (get (bindings (contents_of stripes)) b ≡ w)) → IsChangeOfTwo (record { hash = hash; s = p1.s; old = stripes; new = stripes }) a b Absent
    keeps_two v w answers is max lawful =
        let z = is max lawful in
        record {
          renewed = record { same = refl; lawful = lawful; power = inl (λ t u c d h g. sym (lawful.one_power t u c d h g)) };
          owns = (owns hash p1.s max stripes lawful a p1 of1 refl, owns hash p1.s max stripes lawful b p2 of2 one_s);
          step = (different, subst (λ (x : Option V × Option V). AnswersTwo x.0 x.1 Absent x.0 x.1) (λ i. (sym z.0 i, sym z.1 i)) answers, λ q n m. refl);
        }

    whether : (o : Option V) → AnswersTwo None o Absent None o
    whether o = (refl, refl, refl)

    pub first_lacks : (cur : List (StripeState V)) → cur ≡ stripes → IsNowhere stripes a p1 → IsChangeOfTwo (record { hash = hash; s = p1.s; old = stripes; new = cur }) a b Absent
    first_lacks cur same lacks = subst (λ (l : List (StripeState V)). IsChangeOfTwo (record { hash = hash; s = p1.s; old = stripes; new = l }) a b Absent) (sym same)
        (keeps_two None (get (bindings (contents_of stripes)) b) (whether _) (λ max lawful. (unbound hash p1.s max stripes lawful a p1 of1 refl lacks, refl)))

    module _ (x : HeldSlot) (sx : IsSlotOf hash stripes a x) (v : V) (ex : slot_in stripes x ≡ Some (a, v)) where
      pub second_lacks : (cur : List (StripeState V)) → cur ≡ stripes → IsNowhere stripes b p2 → IsChangeOfTwo (record { hash = hash; s = p1.s; old = stripes; new = cur }) a b Absent
      second_lacks cur same lacks = subst (λ (l : List (StripeState V)). IsChangeOfTwo (record { hash = hash; s = p1.s; old = stripes; new = l }) a b Absent) (sym same)
          (keeps_two (Some v) None (refl, refl, refl) (λ max lawful. (bound_in hash p1.s max stripes lawful a v x sx.reach ex, unbound hash p1.s max stripes lawful b p2 of2 one_s lacks)))

      module _ (y : HeldSlot) (sy : IsSlotOf hash stripes b y) (w : V) (ey : slot_in stripes y ≡ Some (b, w)) (v2 w2 : V) where
        s : ℕ
        s = p1.s

        s_x : (stripe_at stripes x.index).s ≡ p1.s
        s_x = of1.one_s x.index sx.reach.inside

        s_y : (stripe_at stripes y.index).s ≡ p1.s
        s_y = of1.one_s y.index sy.reach.inside

        x_from_y : x.index ≡ y.index → x.bucket / 2 ^ p1.s ≡ y.bucket / 2 ^ p1.s → x.slot ≡ y.slot → ⊥
        x_from_y = apart_from stripes x y p1.s s_y (λ e. different (some_pair_parts _ _ _ _ (sym ex ∙ e ∙ ey)).0)

        y_from_x : y.index ≡ x.index → y.bucket / 2 ^ p1.s ≡ x.bucket / 2 ^ p1.s → y.slot ≡ x.slot → ⊥
        y_from_x = apart_from stripes y x p1.s s_x (λ e. different (some_pair_parts _ _ _ _ (sym ex ∙ sym e ∙ ey)).0)

        abbrev pub one : List (StripeState V)
        one = taken stripes x

        abbrev pub two : List (StripeState V)
        two = taken (taken stripes x) y

        abbrev pub three : List (StripeState V)
        three = given (taken (taken stripes x) y) x a v2

        abbrev pub four : List (StripeState V)
        four = given (given (taken (taken stripes x) y) x a v2) y b w2

        in1 : (i c : ℕ) → IsInReach stripes i c → IsInReach one i c
        in1 i c r = keeps_reach stripes x sx.reach.inside None _ i c r

        pub reach1 : IsInReach one y.index y.bucket
        reach1 = in1 y.index y.bucket sy.reach

        in2 : (i c : ℕ) → IsInReach stripes i c → IsInReach two i c
        in2 i c r = keeps_reach one y reach1.inside None _ i c (in1 i c r)

        pub reach2 : IsInReach two x.index x.bucket
        reach2 = in2 x.index x.bucket sx.reach

        in3 : (i c : ℕ) → IsInReach stripes i c → IsInReach three i c
        in3 i c r = keeps_reach two x reach2.inside (Some (a, v2)) _ i c (in2 i c r)

        pub reach3 : IsInReach three y.index y.bucket
        reach3 = in3 y.index y.bucket sy.reach

        s1 : (i : ℕ) → (stripe_at stripes i).s ≡ p1.s → (stripe_at one i).s ≡ p1.s
        s1 i e = keeps_s stripes x sx.reach.inside None _ i ∙ e

        s2 : (i : ℕ) → (stripe_at stripes i).s ≡ p1.s → (stripe_at two i).s ≡ p1.s
        s2 i e = keeps_s one y reach1.inside None _ i ∙ s1 i e

        s3 : (i : ℕ) → (stripe_at stripes i).s ≡ p1.s → (stripe_at three i).s ≡ p1.s
        s3 i e = keeps_s two x reach2.inside (Some (a, v2)) _ i ∙ s2 i e

        pub full1 : slot_in one y ≡ Some (b, w)
        full1 = slot_other stripes x sx.reach.inside None _ p1.s s_x y y_from_x ∙ ey

        pub free2 : slot_in two x ≡ None
        free2 = slot_other one y reach1.inside None _ p1.s (s1 y.index s_y) x x_from_y ∙ freed stripes x sx.reach _

        pub free3 : slot_in three y ≡ None
        free3 = slot_other two x reach2.inside (Some (a, v2)) _ p1.s (s2 x.index s_x) y y_from_x ∙ freed one y reach1 _

        pub changed : ChangesContents stripes four
        changed = changes_on stripes one four (changed_slot stripes x None _ sx.reach.inside)
            (changes_on one two four (changed_slot one y None _ reach1.inside)
            (changes_on two three four (changed_slot two x (Some (a, v2)) _ reach2.inside) (changed_slot three y (Some (b, w2)) _ reach3.inside)))

        module _ (max : ℕ) (lawful : Lawful (layout hash p1.s max) (contents_of stripes)) where
          abbrev k : Layout
          k = layout hash p1.s max

          r1 : Rebinding k (contents_of stripes) (contents_of one) a (Some v) None
          r1 = removing hash p1.s max stripes lawful a x sx s_x v ex

          sy1 : IsSlotOf hash one b y
          sy1 = keeps_slot stripes x sx.reach.inside None _ hash b y sy

          r2 : Rebinding k (contents_of one) (contents_of two) b (Some w) None
          r2 = removing hash p1.s max one r1.lawful b y sy1 (s1 y.index s_y) w full1

          sx2 : IsSlotOf hash two a x
          sx2 = keeps_slot one y reach1.inside None _ hash a x (keeps_slot stripes x sx.reach.inside None _ hash a x sx)

          r3 : Rebinding k (contents_of two) (contents_of three) a None (Some v2)
          r3 = placing hash p1.s max two r2.lawful a x sx2 (s2 x.index s_x) v2 free2 (r2.others a different ∙ r1.is)

          sy3 : IsSlotOf hash three b y
          sy3 = keeps_slot two x reach2.inside (Some (a, v2)) _ hash b y (keeps_slot one y reach1.inside None _ hash b y sy1)

          r4 : Rebinding k (contents_of three) (contents_of four) b None (Some w2)
          r4 = placing hash p1.s max three r3.lawful b y sy3 (s3 y.index s_y) w2 free3 (r3.others b (λ e. different (sym e)) ∙ r2.is)

          step : Step (bindings (contents_of stripes)) (ChangeTwo a b) (DoneTwo v w v2 w2) (bindings (contents_of four))
          step =
              let was_a = r1.was in
              let was_b = sym (r1.others b (λ e. different (sym e))) ∙ r2.was in
              let is_a = r4.others a different ∙ r3.is in
              let is_b = r4.is in (
                different,
                subst (λ (z : Option V × Option V × Option V × Option V). AnswersTwo z.0 z.1 (DoneTwo v w v2 w2) z.2 z.3) (λ i. (sym was_a i, sym was_b i, sym is_a i, sym is_b i)) (v2, w2, refl, refl, refl),
                λ q n m. r4.others q m ∙ r3.others q n ∙ r2.others q m ∙ r1.others q n,
              )

          pub section : Section k (contents_of stripes) (ChangeTwo a b) (DoneTwo v w v2 w2) (contents_of four)
          section = record {
            renewed = record {
              same = r4.same ∙ r3.same ∙ r2.same ∙ r1.same;
              lawful = r4.lawful;
              power = inl (power_on (contents_of stripes) (contents_of one) (contents_of four) r1.same r1.power
                  (power_on (contents_of one) (contents_of two) (contents_of four) r2.same r2.power
                  (power_on (contents_of two) (contents_of three) (contents_of four) r3.same r3.power r4.power)));
            };
            owns = (owns hash p1.s max stripes lawful a p1 of1 refl, owns hash p1.s max stripes lawful b p2 of2 one_s);
            step = step;
          }
