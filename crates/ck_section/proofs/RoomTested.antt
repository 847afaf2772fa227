-- What a test of room for several keys finds in held stripes, and what that is of lawful contents.
use Rattle.std.proofs.Common.{◌≡◌, ◌≢◌, ◌⊎◌, ◌↔◌, inl, inr, ⊎_elim, ℕ, zero, suc, ◌+◌, ◌*◌, ◌<◌, ◌≤◌, Bool, true, false, not, cond, ◌&&◌, ◌||◌, List, [], ◌∷◌, ◌++◌, Option, Some, None, IfSome, IfNone, is_some, is_none, length, map, take, get_or, refl, sym, ◌∙◌, ap, subst, arith}
use Rattle.std.specs.Prelude.{◌==◌, IsTrue, leb}
use Rattle.std.specs.List.{list_any}
use Rattle.std.specs.Option.{option_or}
use Rattle.std.specs.Ordering.{eq_by_cmp}
use Rattle.std.specs.FinMap.{find}
use Rattle.std.proofs.lemmas.Bool.{false≢true, leb-true, le-leb}
use Rattle.std.proofs.lemmas.List.{length-append, length-map, take_more}
use Rattle.std.proofs.lemmas.List.Elements.{filter_map-append, All-head, All-tail}
use Rattle.std.proofs.lemmas.List.Concat.{flat_map-append}
use Rattle.std.proofs.lemmas.Option.{none-some, some_pair_parts}
use Rattle.ck_model.specs.Arithmetic.{index_of, second_of}
use Rattle.ck_model.specs.Promise.{Name, name_cmp}
use Rattle.ck_model.specs.Numbered.{IsIn}
use Rattle.ck_model.specs.Slots.{Slot, slot_at, taken_in}
use Rattle.ck_model.specs.Contents.{Layout, layout, Stripes, Lawful, power_of, bucket_in}
use Rattle.ck_model.specs.Paths.{partial_in}
use Rattle.ck_model.proofs.Names.{is_name}
use Rattle.ck_model.proofs.Belongs.{found_slot}
use Rattle.ck_model.proofs.Rows.{power_held}
use Rattle.ck_bucket.specs.Bucket.{HasName, LacksName}
use Rattle.ck_stripe.specs.Stripe.{StripeState}
use Rattle.ck_stripe.specs.Stripes.{stripe_at, bucket_at, contents_of, IsInReach}
use Rattle.ck_stripe.proofs.Tables.{holds_at}
use Rattle.ck_section.specs.declared.place.KeyPlace.{KeyPlace}
use Rattle.ck_section.specs.declared.place.HeldBucket.{HeldBucket}
use Rattle.ck_section.specs.Places.{HasBoth, IsPlaceOf}
use Rattle.ck_section.specs.HeldBuckets.{numbers_of, AreInReach, pairs_there}
use Rattle.ck_section.specs.RoomForAll.{pairs_at, has_bucket, may_come, coming, HasSlots, AreSomeOf}
use Rattle.ck_section.proofs.Found.{slot_held}
use Rattle.ck_section.proofs.RoomForAll.{one, is_bucket, or_three, no_value, find_either}
use Rattle.ck_section.proofs.SeveralKeys.{names_more}

-- a name among some and one more
pub among_more : (q x : Name) (qs : List Name) → IsIn q (qs ++ x ∷ []) → IsIn q qs ⊎ (x ≡ q)
among_more q x [] among = ⊎_elim (λ e. inr e) (λ h. absurd h) among
among_more q x (y ∷ ys) among = ⊎_elim (λ e. inl (inl e)) (λ h. ⊎_elim (λ a. inl (inr a)) (λ e. inr e) (among_more q x ys h)) among

-- how many slots are taken, with one more
pub taken_more : {X : Type 0} (slots : List (Option X)) (i : ℕ) → i < length slots → length (taken_in (take (i + 1) slots)) ≡ length (taken_in (take i slots)) + one (is_some (get_or slots i None))
taken_more {X} slots i lt =
    ap (λ (l : List (Option X)). length (taken_in l)) (take_more slots i None lt) ∙ ap length (filter_map-append (λ (s : Option X). s) (take i slots) (get_or slots i None ∷ []))
    ∙ length-append (taken_in (take i slots)) (taken_in (get_or slots i None ∷ [])) ∙ ap (λ n. length (taken_in (take i slots)) + n) (alone (get_or slots i None))
  where
    alone : (o : Option X) → length (taken_in (o ∷ [])) ≡ one (is_some o)
    alone None = refl
    alone (Some x) = refl

none_not : {X : Type 0} (o : Option X) → is_none o ≡ not (is_some o)
none_not None = refl
none_not (Some x) = refl

some_or : {X : Type 0} (o p : Option X) → is_some (option_or o p) ≡ (is_some o || is_some p)
some_or None p = refl
some_or (Some x) p = refl

abbrev no_bucket : HeldBucket
no_bucket = record { index = 0; bucket = 0 }

-- the bucket at this position
abbrev pub bucket_of : List HeldBucket → ℕ → HeldBucket
bucket_of buckets i = get_or buckets i no_bucket

-- whether a bucket is one of the place's two
abbrev pub is_of : KeyPlace → HeldBucket → Bool
is_of place b = (b.bucket == place.first.bucket) || (b.bucket == place.alternate.bucket)

-- the first of two tests says yes
pub yes_first : (a : Bool) (A B : Type 0) → IsTrue a ↔ A → a ≡ true → IsTrue a ↔ (A ⊎ B)
yes_first a A B first is = (λ h. inl (first.0 h), λ h. is)

-- the first of two tests says no
pub yes_second : (a b : Bool) (A B : Type 0) → IsTrue a ↔ A → IsTrue b ↔ B → a ≡ false → IsTrue b ↔ (A ⊎ B)
yes_second a b A B first second is = (λ h. inr (second.0 h), λ h. ⊎_elim (λ p. absurd (false≢true (sym is ∙ first.1 p))) second.1 h)

module _ {V : Type 0} where
  -- stripes that were held are held still
  pub owned_still : (hash : Name → ℕ) (s : ℕ) (old new : List (StripeState V)) → new ≡ old → (qs : List Name) → ((q : Name) → IsIn q qs → HasBoth hash s old q) → (q : Name) → IsIn q qs → HasBoth hash s new q
  owned_still hash s old new same qs owned q among = subst (λ (ss : List (StripeState V)). HasBoth hash s ss q) (sym same) (owned q among)

  -- what holds of lawful stripes holds of them as they were
  pub lawful_still : (hash : Name → ℕ) (s max : ℕ) (old new : List (StripeState V)) → new ≡ old → (P : Stripes V → Type 0)
      → (Lawful (layout hash s max) (contents_of new) → P (contents_of new)) → Lawful (layout hash s max) (contents_of old) → P (contents_of old)
  lawful_still hash s max old new same P = subst (λ (ss : List (StripeState V)). Lawful (layout hash s max) (contents_of ss) → P (contents_of ss)) same

  -- one bucket of the name, or both together, have a free slot for each of the names that may come there
  abbrev pub FindsSlots : Layout → List Name → Name → Stripes V → Type 0
  FindsSlots k qs q hs = (bs : List ℕ) × AreSomeOf k hs q bs × HasSlots k hs qs bs

  -- the same of one of the place's buckets alone, and of both together
  abbrev pub HasInOne : Layout → List Name → KeyPlace → Stripes V → Type 0
  HasInOne k qs place hs = HasSlots k hs qs (place.first.bucket ∷ []) ⊎ HasSlots k hs qs (place.alternate.bucket ∷ [])

  abbrev pub HasInBoth : Layout → List Name → KeyPlace → Stripes V → Type 0
  HasInBoth k qs place hs = (place.first.bucket ≢ place.alternate.bucket) × HasSlots k hs qs (place.first.bucket ∷ place.alternate.bucket ∷ [])

  -- as many partials are seen as slots are taken
  pub taken_seen : (hash : Name → ℕ) (slots : List (Slot V)) → length (taken_in (map (partial_in hash) slots)) ≡ length (taken_in slots)
  taken_seen hash [] = refl
  taken_seen hash (None ∷ slots) = taken_seen hash slots
  taken_seen hash (Some e ∷ slots) = ap suc (taken_seen hash slots)

  -- how many names may come, with one more
  coming_more : (k : Layout) (hs : Stripes V) (bs : List ℕ) (qs : List Name) (q : Name) → coming k hs bs (qs ++ q ∷ []) ≡ coming k hs bs qs + one (may_come k hs bs q)
  coming_more k hs bs [] q = omega arith
  coming_more k hs bs (x ∷ xs) q = let rest = coming_more k hs bs xs q in omega (arith, rest)

  pub coming_next : {K : Type 0} (name : K → Name) (k : Layout) (hs : Stripes V) (bs : List ℕ) (keys : List K) (i : ℕ) (key : K) → i < length keys → key ≡ get_or keys i key
      → coming k hs bs (map name (take (i + 1) keys)) ≡ coming k hs bs (map name (take i keys)) + one (may_come k hs bs (name key))
  coming_next name k hs bs keys i key lt is = ap (coming k hs bs) (names_more name keys i key lt is) ∙ coming_more k hs bs (map name (take i keys)) (name key)

  -- how many pairs are there, with one bucket more
  pub there_more : (stripes : List (StripeState V)) (buckets : List HeldBucket) (i : ℕ) → i < length buckets
      → length (pairs_there stripes (take (i + 1) buckets)) ≡ length (pairs_there stripes (take i buckets)) + length (taken_in (bucket_at stripes (bucket_of buckets i).index (bucket_of buckets i).bucket))
  there_more stripes buckets i lt =
      let b : HeldBucket = bucket_of buckets i in
      let taken : HeldBucket → List (Name × V) = λ d. taken_in (bucket_at stripes d.index d.bucket) in
      let all : length (pairs_there stripes (take (i + 1) buckets)) ≡ length (pairs_there stripes (take i buckets) ++ (taken b ++ [])) =
      ap (λ (l : List HeldBucket). length (pairs_there stripes l)) (take_more buckets i no_bucket lt) ∙ ap length (flat_map-append taken (take i buckets) (b ∷ [])) in
      let parts : length (pairs_there stripes (take i buckets) ++ (taken b ++ [])) ≡ length (pairs_there stripes (take i buckets)) + length (taken b ++ []) = length-append (pairs_there stripes (take i buckets)) (taken b ++ []) in
      let last : length (taken b ++ []) ≡ length (taken b) + 0 = length-append (taken b) [] in
      omega (arith, all, parts, last)

  -- whether a bucket has the name
  abbrev pub has_name : List (StripeState V) → Name → HeldBucket → Bool
  has_name stripes q b = is_some (find name_cmp q (taken_in (bucket_at stripes b.index b.bucket)))

  found_there : (stripes : List (StripeState V)) (q : Name) (buckets : List HeldBucket) → is_some (find name_cmp q (pairs_there stripes buckets)) ≡ list_any (has_name stripes q) buckets
  found_there stripes q [] = refl
  found_there stripes q (b ∷ buckets) =
      let here : List (Name × V) = taken_in (bucket_at stripes b.index b.bucket) in
      ap is_some (find_either q here (pairs_there stripes buckets)) ∙ some_or (find name_cmp q here) (find name_cmp q (pairs_there stripes buckets))
      ∙ (λ z. has_name stripes q b || found_there stripes q buckets z)

  -- a name that no slot has isn't found
  lacking : (q : Name) (slots : List (Slot V)) → LacksName slots q → is_some (find name_cmp q (taken_in slots)) ≡ false
  lacking q slots lacks = ap is_some (no_value (find name_cmp q (taken_in slots)) (λ v e. let z = found_slot q slots v e in lacks z.0 v z.1))

  -- what a slot has is found
  having : (q : Name) (v : V) (slots : List (Slot V)) (i : ℕ) → slot_at slots i ≡ Some (q, v) → is_some (find name_cmp q (taken_in slots)) ≡ true
  having q v [] i is = absurd (none-some _ is)
  having q v (None ∷ slots) zero is = absurd (none-some _ is)
  having q v (None ∷ slots) (suc i) is = having q v slots i is
  having q v (Some e ∷ slots) zero is = ap (λ b. is_some (cond b (Some e.1) (find name_cmp q (taken_in slots)))) (is_name q e.0 (sym (some_pair_parts e.0 q e.1 v is).0))
  having q v (Some e ∷ slots) (suc i) is = elim (eq_by_cmp name_cmp q e.0) as (λ b. is_some (cond b (Some e.1) (find name_cmp q (taken_in slots))) ≡ true) [
    | true ↦ refl
    | false ↦ having q v slots i is
  ]

  looked : (q : Name) (slots : List (Slot V)) (o : Option ℕ) → IfSome o (HasName slots q) → IfNone o (LacksName slots q) → is_some (find name_cmp q (taken_in slots)) ≡ is_some o
  looked q slots None found absent = lacking q slots absent
  looked q slots (Some i) found absent = having q found.0 slots i found.1

  -- what a look into a bucket says of the stripes as they were
  pub name_seen : (old new : List (StripeState V)) → new ≡ old → (q : Name) (b : HeldBucket) (o : Option ℕ)
      → IfSome o (HasName (bucket_at new b.index b.bucket) q) → IfNone o (LacksName (bucket_at new b.index b.bucket) q) → has_name old q b ≡ is_some o
  name_seen old new same q b o found absent = ap (λ (ss : List (StripeState V)). has_name ss q b) (sym same) ∙ looked q (bucket_at new b.index b.bucket) o found absent

  module _ (hash : Name → ℕ) (s max : ℕ) (stripes : List (StripeState V)) (lawful : Lawful (layout hash s max) (contents_of stripes)) where
    -- each stripe has the power that the contents show,
    power_at : (i : ℕ) → i < length stripes → (stripe_at stripes i).content.power ≡ power_of (contents_of stripes)
    power_at i lt = sym (power_held (layout hash s max) (contents_of stripes) (stripe_at stripes i).number (stripe_at stripes i).content lawful (holds_at stripes i lt))

    -- and the two buckets of a place are those of the name
    first_is : (q : Name) (place : KeyPlace) → IsPlaceOf hash stripes q place → place.first.bucket ≡ index_of (power_of (contents_of stripes)) (hash q)
    first_is q place of = of.first ∙ ap (λ p. index_of p (hash q)) (power_at place.first.index of.first_reach.inside)

    second_is : (q : Name) (place : KeyPlace) → IsPlaceOf hash stripes q place → place.alternate.bucket ≡ second_of (power_of (contents_of stripes)) (hash q)
    second_is q place of = of.alternate ∙ ap (λ p. second_of p (hash q)) (power_at place.alternate.index of.alternate_reach.inside)

    own_is : (q : Name) (place : KeyPlace) → IsPlaceOf hash stripes q place → (b : ℕ)
        → ((b == place.first.bucket) || (b == place.alternate.bucket)) ≡ is_bucket (layout hash s max) (power_of (contents_of stripes)) b q
    own_is q place of b = λ z. (b == first_is q place of z) || (b == second_is q place of z)

    own_any : (q : Name) (place : KeyPlace) → IsPlaceOf hash stripes q place → (buckets : List HeldBucket)
        → list_any (is_of place) buckets ≡ has_bucket (layout hash s max) (contents_of stripes) (numbers_of buckets) q
    own_any q place of [] = refl
    own_any q place of (b ∷ buckets) =
        (λ z. own_is q place of b.bucket z || own_any q place of buckets z)
        ∙ or_three (b.bucket == index_of (power_of (contents_of stripes)) (hash q)) (b.bucket == second_of (power_of (contents_of stripes)) (hash q)) (has_bucket (layout hash s max) (contents_of stripes) (numbers_of buckets) q)

    -- one of the two buckets of the name has a property, or both together
    some_buckets : (q : Name) (P : List ℕ → Type 0) → let first = index_of (power_of (contents_of stripes)) (hash q) in let second = second_of (power_of (contents_of stripes)) (hash q) in
        ((P (first ∷ []) ⊎ P (second ∷ [])) ⊎ ((first ≢ second) × P (first ∷ second ∷ []))) ↔ ((bs : List ℕ) × AreSomeOf (layout hash s max) (contents_of stripes) q bs × P bs)
    some_buckets q P =
        let first : ℕ = index_of (power_of (contents_of stripes)) (hash q) in
        let second : ℕ = second_of (power_of (contents_of stripes)) (hash q) in (
          λ has. ⊎_elim
              (λ l. ⊎_elim
              (λ p. (first ∷ [], inl refl, p))
              (λ p. (second ∷ [], inr (inl refl), p)) l)
              (λ (p : (first ≢ second) × P (first ∷ second ∷ [])). (first ∷ second ∷ [], inr (inr (p.0, refl)), p.1)) has,
          λ (z : (bs : List ℕ) × AreSomeOf (layout hash s max) (contents_of stripes) q bs × P bs). ⊎_elim
              (λ e. inl (inl (subst P e z.2)))
              (λ r. ⊎_elim
              (λ e. inl (inr (subst P e z.2)))
              (λ (p : (first ≢ second) × (z.0 ≡ first ∷ second ∷ [])). inr (p.0, subst P p.1 z.2)) r) z.1,
        )

    -- whether a name may come, where none of the buckets is one of its two, and where a look into them tells
    pub may_not : (q : Name) (place : KeyPlace) → IsPlaceOf hash stripes q place → (buckets : List HeldBucket) → list_any (is_of place) buckets ≡ false
        → false ≡ may_come (layout hash s max) (contents_of stripes) (numbers_of buckets) q
    may_not q place of buckets out = sym (
        ap (λ h. h && is_none (find name_cmp q (pairs_at (layout hash s max) (contents_of stripes) (numbers_of buckets)))) (sym (own_any q place of buckets) ∙ out))

    -- The name finds slots where a test of its two buckets says yes.
    pub finds : (q : Name) (place : KeyPlace) → IsPlaceOf hash stripes q place → (qs : List Name) (b : Bool)
        → IsTrue b ↔ (HasInOne (layout hash s max) qs place (contents_of stripes) ⊎ HasInBoth (layout hash s max) qs place (contents_of stripes))
        → IsTrue b ↔ FindsSlots (layout hash s max) qs q (contents_of stripes)
    finds q place of qs b test =
        let Has : List ℕ → Type 0 = HasSlots (layout hash s max) (contents_of stripes) qs in
        let own = subst (λ (x : ℕ × ℕ). ((Has (x.0 ∷ []) ⊎ Has (x.1 ∷ [])) ⊎ ((x.0 ≢ x.1) × Has (x.0 ∷ x.1 ∷ []))) ↔ FindsSlots (layout hash s max) qs q (contents_of stripes))
        (λ z. (sym (first_is q place of) z, sym (second_is q place of) z)) (some_buckets q Has) in
        (λ is. own.0 (test.0 is), λ has. test.1 (own.1 has))

    module _ (one_s : (i : ℕ) → i < length stripes → (stripe_at stripes i).s ≡ s) where
      -- what is in the buckets as they are numbered in the table
      here : (buckets : List HeldBucket) → AreInReach stripes buckets → pairs_at (layout hash s max) (contents_of stripes) (numbers_of buckets) ≡ pairs_there stripes buckets
      here [] reach = refl
      here (b ∷ buckets) reach =
          let P : HeldBucket → Type 0 = λ d. IsInReach stripes d.index d.bucket in
          let first : IsInReach stripes b.index b.bucket = All-head P b buckets reach in
          let same : bucket_in (layout hash s max) (contents_of stripes) b.bucket ≡ bucket_at stripes b.index b.bucket =
          slot_held stripes b.index b.bucket 0 lawful.distinct first.inside first.own s (one_s b.index first.inside) in
          λ z. taken_in (same z) ++ here buckets (All-tail P b buckets reach) z

      pub may_by_look : (q : Name) (place : KeyPlace) → IsPlaceOf hash stripes q place → (buckets : List HeldBucket) → AreInReach stripes buckets → list_any (is_of place) buckets ≡ true
          → (stands : Bool) → stands ≡ list_any (has_name stripes q) buckets → not stands ≡ may_come (layout hash s max) (contents_of stripes) (numbers_of buckets) q
      may_by_look q place of buckets reach own stands is = sym (
          ap (λ h. h && is_none (find name_cmp q (pairs_at (layout hash s max) (contents_of stripes) (numbers_of buckets)))) (sym (own_any q place of buckets) ∙ own)
          ∙ ap (λ (es : List (Name × V)). is_none (find name_cmp q es)) (here buckets reach) ∙ none_not (find name_cmp q (pairs_there stripes buckets)) ∙ ap not (found_there stripes q buckets ∙ sym is))

      -- so many names may come, and so many slots are free
      pub fits : (buckets : List HeldBucket) → AreInReach stripes buckets → (qs : List Name) (count free : ℕ) → count ≡ coming (layout hash s max) (contents_of stripes) (numbers_of buckets) qs
          → free + length (pairs_there stripes buckets) ≡ 4 * length buckets
          → IsTrue (leb count free) ↔ HasSlots (layout hash s max) (contents_of stripes) qs (numbers_of buckets)
      fits buckets reach qs count free counted slots =
          let n : ℕ = length (pairs_at (layout hash s max) (contents_of stripes) (numbers_of buckets)) in
          let same : n ≡ length (pairs_there stripes buckets) = ap length (here buckets reach) in
          let as_many : length (numbers_of buckets) ≡ length buckets = length-map buckets _ in (
            (λ le. let few : count ≤ free = leb-true count free le in omega (arith, few, counted, slots, same, as_many)),
            (λ (few : coming (layout hash s max) (contents_of stripes) (numbers_of buckets) qs + n ≤ 4 * length (numbers_of buckets)). le-leb count free (omega (arith, few, counted, slots, same, as_many))),
          )
