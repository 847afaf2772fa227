-- What a hop finds and does.
use Rattle.std.proofs.Common.{◌≡◌, ◌⊎◌, inl, inr, ⊎_elim, ℕ, zero, suc, ◌+◌, ◌/◌, ◌%◌, ◌^◌, ◌<◌, Bool, true, false, is_some, List, [], ◌∷◌, Option, Some, None, Bor, MatchBool, length, get_or, map, refl, sym, ◌∙◌, ap, subst, arith, eqb, option_map}
use Rattle.std.specs.Prelude.{unwrap_or, option_copied}
use Rattle.std.specs.Option.{option_flatten, option_eq}
use Rattle.std.specs.Bool.{OnTrue}
use Rattle.std.proofs.lemmas.Bool.{false≢true}
use Rattle.std.proofs.lemmas.Option.{none-some, some_pair_parts}
use Rattle.ck_model.specs.Arithmetic.{partial_of, index_of, second_of, alternate_of}
use Rattle.ck_model.specs.Promise.{Name}
use Rattle.ck_model.specs.Slots.{Slot, slot_at, IsFull, HasFree}
use Rattle.ck_model.specs.Contents.{layout, Lawful, IsBucketOf, IsSound}
use Rattle.ck_model.specs.Sections.{IdentitySection}
use Rattle.ck_model.proofs.Buckets.{index_below, alternate_twice, alternate_below}
use Rattle.ck_model.specs.Paths.{partial_in}
use Rattle.ck_stripe.specs.Stripe.{StripeState}
use Rattle.ck_section.specs.declared.hop.Hop.{Hop}
use Rattle.ck_stripe.specs.declared.held_slot.HeldSlot.{HeldSlot}
use Rattle.ck_stripe.specs.Stripes.{stripe_at, contents_of, IsInReach}
use Rattle.ck_section.specs.Places.{IsSlotOf}
use Rattle.ck_stripe.specs.HeldSlots.{IsLowest, at, slot_in, set_slot}
use Rattle.ck_section.specs.Hops.{source_in, IsHopIn, HasPartial, CanHop, lifted, Hops, IsNoCall}
use Rattle.ck_stripe.specs.Tables.{AreSettled}
use Rattle.ck_section.specs.Calls.{ChangesContents}
use Rattle.ck_section.proofs.Found.{row_bucket, sound_at}
use Rattle.ck_section.proofs.Steps.{unchanged, hop_changes}
use Rattle.ck_section.proofs.Rebinding.{Rebinding, keeps_s, keeps_reach, keeps_slot, slot_other, apart_from, removing, placing, identity_of_two}

-- what is in a slot of a sketch, if there is such a slot
pub flat : (r : Option (Bor (Option ℕ))) → option_flatten (option_copied r) ≡ unwrap_or (option_map (λ (x : Bor (Option ℕ)). x.now) r) None
flat None = refl
flat (Some x) = refl

no_partial : {V : Type 0} (hash : Name → ℕ) (t : ℕ) → ¬ (HasPartial {V = V} hash None t)
no_partial hash t h = none-some _ h.entry

-- the other bucket of an entry's bucket is one of its name's
pub other_bucket : (p h b t : ℕ) → (b ≡ index_of p h) ⊎ (b ≡ second_of p h) → partial_of h ≡ t → (alternate_of p t b ≡ index_of p h) ⊎ (alternate_of p t b ≡ second_of p h)
unfolding second_of
other_bucket p h b t which e = ⊎_elim
    (λ f. inr (subst (λ (x : ℕ × ℕ). alternate_of p x.0 x.1 ≡ alternate_of p (partial_of h) (index_of p h)) (λ i. (e i, sym f i)) refl))
    (λ f. inl (subst (λ (x : ℕ × ℕ). alternate_of p x.0 x.1 ≡ index_of p h) (λ i. (e i, sym f i)) (alternate_twice p (partial_of h) (index_of p h) (index_below p h))))
    which

-- The two buckets of a hop are in settled stripes of one power, of one table, that have their numbers.
pub hop_between : {V : Type 0} (s : ℕ) (stripes : List (StripeState V)) (i j : ℕ) (hop : Hop) → i < length stripes → j < length stripes → AreSettled stripes → ((n : ℕ) → n < length stripes → (stripe_at stripes n).s ≡ s)
    → ((n : ℕ) → n < length stripes → (stripe_at stripes n).content.power ≡ (stripe_at stripes 0).content.power) → hop.bucket < 2 ^ hop.power → hop.target ≡ alternate_of hop.power hop.partial hop.bucket
    → (stripe_at stripes i).number ≡ hop.bucket % 2 ^ s → (stripe_at stripes j).number ≡ hop.target % 2 ^ s → IsHopIn stripes i j hop
hop_between s stripes i j hop first second settled one_s one_power below target number_i number_j = record {
  first = first;
  second = second;
  first_settled = settled i first;
  second_settled = settled j second;
  one_s = one_s j second ∙ sym (one_s i first);
  one_power = one_power j second ∙ sym (one_power i first);
  below = below;
  target = target;
  first_own = ap (λ n. hop.bucket % 2 ^ n) (one_s i first) ∙ sym number_i;
  second_own = ap (λ n. hop.target % 2 ^ n) (one_s j second) ∙ sym number_j;
}

module _ {V : Type 0} (hash : Name → ℕ) where
  same_partial : (e : Name × V) (t : ℕ) (b : Bool) → eqb (partial_of (hash e.0)) t ≡ b → MatchBool b (HasPartial hash (Some e) t) (¬ (HasPartial hash (Some e) t))
  same_partial e t true is = record { name = e.0; value = e.1; entry = refl; partial_is = grind (arith, is) }
  same_partial e t false is = λ h. let same : e.0 ≡ h.name = (some_pair_parts _ _ _ _ h.entry).0 in let p : partial_of (hash e.0) ≡ t = ap (λ n. partial_of (hash n)) same ∙ h.partial_is in grind (arith, is, p)

  -- what a test of a sketch says of the slot
  pub test_says : (slots : List (Slot V)) (i t : ℕ) → MatchBool (option_eq eqb (get_or (map (partial_in hash) slots) i None) (Some t)) (HasPartial hash (slot_at slots i) t) (¬ (HasPartial hash (slot_at slots i) t))
  test_says [] i t = no_partial hash t
  test_says (None ∷ xs) zero t = no_partial hash t
  test_says (Some e ∷ xs) zero t = same_partial e t (eqb (partial_of (hash e.0)) t) refl
  test_says (x ∷ xs) (suc i) t = test_says xs i t

  pub test_inside : (slots : List (Slot V)) (i t : ℕ) → OnTrue (option_eq eqb (get_or (map (partial_in hash) slots) i None) (Some t)) (i < length slots)
  test_inside [] i t = tt
  test_inside (x ∷ xs) zero t = inside_first (option_eq eqb (partial_in hash x) (Some t))
    where
      inside_first : (b : Bool) → OnTrue b (0 < length (x ∷ xs))
      inside_first true = omega arith
      inside_first false = tt
  test_inside (x ∷ xs) (suc i) t = more (option_eq eqb (get_or (map (partial_in hash) xs) i None) (Some t)) (test_inside xs i t)
    where
      more : (b : Bool) → OnTrue b (i < length xs) → OnTrue b (suc i < length (x ∷ xs))
      more true h = omega arith
      more false h = tt

  -- stripes that are as they were
  pub no_step : (stripes new : List (StripeState V)) (s : ℕ) → new ≡ stripes → IsNoCall hash s stripes new
  no_step stripes new s same =
      subst (λ (l : List (StripeState V)). IsNoCall hash s stripes l) (sym same)
      (λ max lawful. record { renewed = record { same = refl; lawful = lawful; power = inl (λ t u c d h g. sym (lawful.one_power t u c d h g)) }; same_bindings = refl })

  pub not_free : (slots : List (Slot V)) → IsFull slots → ¬ (HasFree slots)
  not_free slots full free = false≢true (ap is_some (sym free.2) ∙ full free.0 free.1)

  module _ (stripes : List (StripeState V)) (i j : ℕ) (hop : Hop) where
    -- The hop cannot be made, and the stripes are as they were.
    pub not_hopped : {S : Type 0} (new : List (StripeState V)) → new ≡ stripes → ¬ (CanHop hash stripes i j hop) → S
        → record { exactly : ¬ (CanHop hash stripes i j hop); moved : new ≡ stripes; no_call : IsNoCall hash (stripe_at stripes i).s stripes new; rest : ChangesContents stripes new; stays : S }
    not_hopped new same cannot stays = record { exactly = cannot; moved = same; no_call = no_step stripes new (stripe_at stripes i).s same; rest = unchanged stripes new same; stays = stays }

    abbrev from : HeldSlot
    from = source_in i hop

    -- The entry of this name is in the hop's slot, and the target's lowest free slot is this one.
    pub record Moving (name : Name) (value : V) (slot : ℕ) : Type 0 where
      pub source_below : hop.slot < 4
      pub below : slot < 4
      pub entry : slot_in stripes from ≡ Some (name, value)
      pub partial : partial_of (hash name) ≡ hop.partial
      pub free : slot_in stripes (at j hop.target slot) ≡ None
      pub lowest : IsLowest stripes (at j hop.target slot)

    -- as calls tell that leave the stripes as they are
    pub moving : (powered seen cur : List (StripeState V)) → powered ≡ stripes → seen ≡ stripes → cur ≡ stripes → (name : Name) (value : V) (slot : ℕ) → hop.slot < 4 → slot < 4
        → HasPartial hash (slot_in powered from) hop.partial → slot_in cur from ≡ Some (name, value) → slot_in seen (at j hop.target slot) ≡ None → IsLowest seen (at j hop.target slot) → Moving name value slot
    moving powered seen cur is_powered is_seen is_cur name value slot source_below below has took free lowest =
        let to : HeldSlot = at j hop.target slot in
        let entry : slot_in stripes from ≡ Some (name, value) = ap (λ (l : List (StripeState V)). slot_in l from) (sym is_cur) ∙ took in
        let here : HasPartial hash (slot_in stripes from) hop.partial = subst (λ (l : List (StripeState V)). HasPartial hash (slot_in l from) hop.partial) is_powered has in
        let partial = ap (λ n. partial_of (hash n)) (some_pair_parts _ _ _ _ (sym entry ∙ here.entry)).0 ∙ here.partial_is in
        let still = ap (λ (l : List (StripeState V)). slot_in l to) (sym is_seen) ∙ free in
        record { source_below = source_below; below = below; entry = entry; partial = partial; free = still; lowest = subst (λ (l : List (StripeState V)). IsLowest l to) is_seen lowest }

    module _ (of : IsHopIn stripes i j hop) (same_power : (stripe_at stripes i).content.power ≡ hop.power) where
      pub source_reach : IsInReach stripes i hop.bucket
      source_reach = record { inside = of.first; settled = of.first_settled; own = (subst (λ p. hop.bucket < 2 ^ p) (sym same_power) of.below, of.first_own) }

      pub target_reach : IsInReach stripes j hop.target
      target_reach = record {
        inside = of.second;
        settled = of.second_settled;
        own = (
          subst (λ (x : ℕ × ℕ). x.0 < 2 ^ x.1) (λ z. (sym of.target z, (sym same_power ∙ sym of.one_power) z)) (alternate_below hop.power hop.partial hop.bucket),
          of.second_own,
        );
      }

      module _ (name : Name) (value : V) (slot : ℕ) (m : Moving name value slot) where
        abbrev to : HeldSlot
        to = at j hop.target slot

        apart : (s : ℕ) → (stripe_at stripes i).s ≡ s → j ≡ i → hop.target / 2 ^ s ≡ hop.bucket / 2 ^ s → slot ≡ hop.slot → ⊥
        apart s e = apart_from stripes to from s e (λ f. none-some (name, value) (sym m.free ∙ f ∙ m.entry))

        still_free : slot_in (lifted stripes i hop) to ≡ None
        still_free = slot_other stripes from of.first None _ (stripe_at stripes i).s refl to (apart (stripe_at stripes i).s refl) ∙ m.free

        moves : (max : ℕ) → Lawful (layout hash (stripe_at stripes i).s max) (contents_of stripes)
            → IdentitySection (layout hash (stripe_at stripes i).s max) (contents_of stripes) (contents_of (set_slot (lifted stripes i hop) to (Some (name, value)) ((stripe_at (lifted stripes i hop) j).content.ledger + 1)))
        moves max lawful =
            let t : StripeState V = stripe_at stripes i in
            let s : ℕ = t.s in
            let sound : IsSound (layout hash s max) t.number t.content = sound_at hash s max stripes lawful i of.first in
            let of_source : IsBucketOf hash t.content.power name hop.bucket = subst (λ b. IsBucketOf hash t.content.power name b) (row_bucket t hop.bucket s source_reach.own refl)
            (sound.placed (hop.bucket / 2 ^ s) hop.slot name value m.entry) in
            let of_target : IsBucketOf hash (stripe_at stripes j).content.power name hop.target = subst (λ (x : ℕ × ℕ). IsBucketOf hash x.0 name x.1)
            (λ z. (sym of.one_power z, (ap (λ p. alternate_of p hop.partial hop.bucket) same_power ∙ sym of.target) z))
            (other_bucket t.content.power (hash name) hop.bucket hop.partial of_source m.partial) in
            let mid : List (StripeState V) = lifted stripes i hop in
            let one : Rebinding (layout hash s max) (contents_of stripes) (contents_of mid) name (Some value) None =
            removing hash s max stripes lawful name from (record { reach = source_reach; below = m.source_below; of_name = of_source }) refl value m.entry in
            let free_slot : IsSlotOf hash mid name to = keeps_slot stripes from of.first None _ hash name to (record { reach = target_reach; below = m.below; of_name = of_target }) in
            let two = placing hash s max mid one.lawful name to free_slot (keeps_s stripes from of.first None _ j ∙ of.one_s) value still_free one.is in
            identity_of_two (layout hash s max) (contents_of stripes) (contents_of mid) _ name value one two

        -- The entry was taken out.
        module _ (mid : List (StripeState V)) (is_mid : mid ≡ lifted stripes i hop) where
          -- what is asked of its new slot
          pub ready_to : record { reach : IsInReach mid j hop.target; below : slot < 4; free : slot_in mid to ≡ None; partial : hop.partial ≡ partial_of (hash name) }
          ready_to = record {
            reach = subst (λ (l : List (StripeState V)). IsInReach l j hop.target) (sym is_mid) (keeps_reach stripes from of.first None _ j hop.target target_reach);
            below = m.below;
            free = ap (λ (l : List (StripeState V)). slot_in l to) is_mid ∙ still_free;
            partial = sym m.partial;
          }

          -- what the hop has done, once it is there
          pub hopped : {S : Type 0} (new : List (StripeState V)) → new ≡ set_slot mid to (Some (name, value)) ((stripe_at mid j).content.ledger + 1) → S
              → record { exactly : CanHop hash stripes i j hop; moved : Hops stripes i j hop new; no_call : IsNoCall hash (stripe_at stripes i).s stripes new; rest : ChangesContents stripes new; stays : S }
          hopped new put stays =
              let is_new = put ∙ ap (λ (l : List (StripeState V)). set_slot l to (Some (name, value)) ((stripe_at l j).content.ledger + 1)) is_mid in
              record {
                exactly = record { power = same_power; entry = record { name = name; value = value; entry = m.entry; partial_is = m.partial }; free = (slot, m.below, m.free) };
                moved = record { name = name; value = value; to = to; index = refl; bucket = refl; entry = m.entry; free = m.free; lowest = m.lowest; moved = is_new };
                no_call = subst (IsNoCall hash (stripe_at stripes i).s stripes) (sym is_new) moves;
                rest = hop_changes stripes stripes mid new from to None (Some (name, value)) _ _ refl of.first of.second is_mid put;
                stays = stays;
              }
