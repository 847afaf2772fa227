-- An entry is taken out of its slot, and put back with another value.
use Rattle.std.proofs.Common.{◌≡◌, ◌<◌, inl, ℕ, List, Option, Some, None, is_some, Bool, false, Result, Ok, Err, MatchResult, refl, sym, ◌∙◌, ap, subst}
use Rattle.std.proofs.lemmas.Option.{some_pair_parts}
use Rattle.ck_model.specs.Arithmetic.{partial_of}
use Rattle.ck_model.specs.declared.history.Act.{Act}
use Rattle.ck_model.specs.declared.history.Act.TheVariants.{Upsert}
use Rattle.ck_model.specs.declared.history.Call.TheVariants.{On}
use Rattle.ck_model.specs.declared.history.Reply.{Reply}
use Rattle.ck_model.specs.declared.history.Reply.TheVariants.{Done}
use Rattle.ck_model.specs.Promise.{Name, Answers}
use Rattle.ck_model.specs.Contents.{Layout, layout, Lawful}
use Rattle.ck_model.specs.Sections.{Section}
use Rattle.ck_stripe.specs.Stripe.{StripeState}
use Rattle.ck_section.specs.declared.place.KeyPlace.{KeyPlace}
use Rattle.ck_stripe.specs.declared.held_slot.HeldSlot.{HeldSlot}
use Rattle.ck_stripe.specs.Stripes.{stripe_at, contents_of, IsInReach}
use Rattle.ck_section.specs.Places.{IsPlaceOf, IsSlotOf}
use Rattle.ck_stripe.specs.HeldSlots.{slot_in}
use Rattle.ck_section.specs.Entries.{IsOccupied}
use Rattle.ck_section.specs.Calls.{KeepsFree, ChangesContents}
use Rattle.ck_section.specs.Acts.{TriesUpsert}
use Rattle.ck_section.specs.RoomForAll.{KeepsOthers}
use Rattle.ck_section.proofs.Found.{owns, changes_on}
use Rattle.ck_section.proofs.Decided.{IsCallOn, freed, s_at}
use Rattle.ck_section.proofs.Rebinding.{Rebinding, keeps_s, keeps_reach, keeps_slot, removing, placing}
use Rattle.ck_model.proofs.Identities.{power_on}
use Rattle.ck_section.proofs.Rebound.{taken, given, changed_slot}
use Rattle.ck_section.proofs.KeptFree.{set_free_twice}
use Rattle.ck_section.proofs.KeptOthers.{free_where, free_with, set_keeps, keeps_on}

-- The slot has the name in stripes that stay as they are while it is looked for; then its entry is taken.
module _ {V : Type 0} (hash : Name → ℕ) (stripes : List (StripeState V)) (q : Name) (place : KeyPlace) (of : IsPlaceOf hash stripes q place) (cur : List (StripeState V)) (same : cur ≡ stripes) (at : HeldSlot) (here : IsOccupied hash stripes q at)
    (one : List (StripeState V)) (n : Name) (v : V) (took : slot_in cur at ≡ Some (n, v)) (is_one : one ≡ taken cur at) where
  was_in : slot_in stripes at ≡ Some (n, v)
  was_in = ap (λ (l : List (StripeState V)). slot_in l at) (sym same) ∙ took

  pub name_taken : n ≡ q
  name_taken = (some_pair_parts _ _ _ _ (sym was_in ∙ here.found.1)).0

  pub entry_taken : slot_in stripes at ≡ Some (q, v)
  entry_taken = was_in ∙ ap (λ (m : Name). Some (m, v)) name_taken

  pub is_taken : one ≡ taken stripes at
  is_taken = is_one ∙ ap (λ (l : List (StripeState V)). taken l at) same

  pub partial_taken : place.partial ≡ partial_of (hash n)
  partial_taken = of.partial ∙ ap (λ (m : Name). partial_of (hash m)) (sym name_taken)

  still_reach : IsInReach (taken stripes at) at.index at.bucket
  still_reach = keeps_reach stripes at here.slot.reach.inside None _ at.index at.bucket here.slot.reach

  now_free : slot_in (taken stripes at) at ≡ None
  now_free = freed stripes at here.slot.reach _

  -- what is asked of the slot where an entry is put into it
  pub ready_again : record { reach : IsInReach one at.index at.bucket; below : at.slot < 4; free : slot_in one at ≡ None; partial : place.partial ≡ partial_of (hash n) }
  ready_again = record {
    reach = subst (λ (l : List (StripeState V)). IsInReach l at.index at.bucket) (sym is_taken) still_reach;
    below = here.slot.below;
    free = ap (λ (l : List (StripeState V)). slot_in l at) is_taken ∙ now_free;
    partial = partial_taken;
  }

  -- it gets an entry again
  module _ (w : V) (two : List (StripeState V)) (is_two : two ≡ given one at n w) where
    abbrev back : List (StripeState V)
    back = given (taken stripes at) at q w

    from_two : two ≡ back
    from_two = is_two ∙ (λ i. given (is_taken i) at (name_taken i) w)

    back_changes : ChangesContents stripes back
    back_changes = changes_on stripes (taken stripes at) back (changed_slot stripes at None _ here.slot.reach.inside) (changed_slot (taken stripes at) at (Some (q, w)) _ still_reach.inside)

    pub put_back_changes : ChangesContents stripes two
    put_back_changes = subst (λ (l : List (StripeState V)). ChangesContents stripes l) (sym from_two) back_changes

    back_keeps : KeepsOthers q stripes back
    back_keeps = keeps_on q stripes (taken stripes at) back
        (set_keeps q stripes at None _ here.slot.reach.inside (free_with q _ v entry_taken) tt)
        (set_keeps q (taken stripes at) at (Some (q, w)) _ still_reach.inside (free_where q _ now_free) refl)

    pub put_back_keeps : KeepsOthers q stripes two
    put_back_keeps = subst (λ (l : List (StripeState V)). KeepsOthers q stripes l) (sym from_two) back_keeps

    pub put_back_free : KeepsFree stripes two
    put_back_free = subst (λ (l : List (StripeState V)). KeepsFree stripes l) (sym from_two)
        (set_free_twice stripes at None (Some (q, w)) _ _ here.slot.reach.inside still_reach.inside (ap is_some entry_taken))

    module _ (act : Act V) (reply : Reply V) (answers : Answers act (Some v) reply (Some w)) where
      module _ (max : ℕ) (lawful : Lawful (layout hash place.s max) (contents_of stripes)) where
        abbrev k : Layout
        k = layout hash place.s max

        in_s : (stripe_at stripes at.index).s ≡ place.s
        in_s = s_at hash stripes q place of at here.slot

        out : Rebinding k (contents_of stripes) (contents_of (taken stripes at)) q (Some v) None
        out = removing hash place.s max stripes lawful q at here.slot in_s v entry_taken

        slot_still : IsSlotOf hash (taken stripes at) q at
        slot_still = keeps_slot stripes at here.slot.reach.inside None _ hash q at here.slot

        again : Rebinding k (contents_of (taken stripes at)) (contents_of back) q None (Some w)
        again = placing hash place.s max (taken stripes at) out.lawful q at slot_still (keeps_s stripes at here.slot.reach.inside None _ at.index ∙ in_s) w now_free out.is

        section : Section k (contents_of stripes) (On q act) reply (contents_of back)
        section = record {
          renewed = record {
            same = again.same ∙ out.same;
            lawful = again.lawful;
            power = inl (power_on (contents_of stripes) (contents_of (taken stripes at)) (contents_of back) out.same out.power again.power);
          };
          owns = owns hash place.s max stripes lawful q place of refl;
          step = (subst (λ (z : Option V × Option V). Answers act z.0 reply z.1) (λ i. (sym out.was i, sym again.is i)) answers, λ p ne. again.others p ne ∙ out.others p ne);
        }

      pub put_back : IsCallOn hash place.s stripes q act reply two
      put_back = subst (λ (l : List (StripeState V)). IsCallOn hash place.s stripes q act reply l) (sym from_two) section

-- what an upsert of a bound name has done, by how its closure ended
pub tried_upsert : {V E : Type 0} (makes : V → Result V (V × E) → Type 0) (value : V) (P : Act V → Reply V → Type 0) (v w : V) (outcome : Result (Unit {0}) E) (answer : Result Bool E)
    → MatchResult outcome (λ _. makes v (Ok w)) (λ e. makes v (Err (w, e))) → MatchResult outcome (λ _. answer ≡ Ok false) (λ e. answer ≡ Err e) → P (Upsert value) (Done v w) → TriesUpsert makes value P answer
tried_upsert makes value P v w (Ok done) answer made said h = subst (TriesUpsert makes value P) (sym said) (v, w, made, h)
tried_upsert makes value P v w (Err e) answer made said h = subst (TriesUpsert makes value P) (sym said) (v, w, made, h)

-- the same of a change, which says besides that the name was bound
pub tried_change : {V E : Type 0} (changes : V → Result V (V × E) → Type 0) (v w : V) (outcome : Result (Unit {0}) E) (answer : Result Bool E)
    → MatchResult outcome (λ _. changes v (Ok w)) (λ e. changes v (Err (w, e))) → MatchResult outcome (λ _. answer ≡ Ok false) (λ e. answer ≡ Err e) → MatchResult answer (λ fresh. (fresh ≡ false) × changes v (Ok w)) (λ e. changes v (Err (w, e)))
tried_change changes v w (Ok done) answer made said = rw said (refl, made)
tried_change changes v w (Err e) answer made said = rw said made
