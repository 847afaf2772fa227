-- Keys that are locked once there is room for each of them.
use Rattle.std.proofs.Common.{◌≡◌, ◌+◌, ◌<◌, ◌≤◌, ℕ, zero, suc, Option, Some, None, Bool, true, false, arith, List, [], ◌∷◌, ◌++◌, append_assoc, length, map, take, drop, get_or, inl, inr, refl, sym, ap, ◌∙◌, subst}
use Rattle.std.specs.Prelude.{MatchOption}
use Rattle.std.proofs.lemmas.List.{map-append, take-append-drop}
use Rattle.ck_model.specs.declared.settings.Settings.{Settings}
use Rattle.ck_model.specs.Promise.{Name}
use Rattle.ck_model.specs.Numbered.{AreDistinct}
use Rattle.ck_model.specs.Contents.{layout, Lawful}
use Rattle.ck_stripe.specs.Stripes.{contents_of}
use Rattle.ck_section.specs.RoomForAll.{HasRoomForAll, HaveRoomForAll}
use Rattle.ck_words.specs.declared.stripe_set.StripeSet.{StripeSet}
use Rattle.ck_words.specs.Words.{WordsState}
use Rattle.ck_words.specs.Passes.{PassState, IsPassOf}
use Rattle.ck_words.specs.Retries.{StaysBut, as_doubled, FindsAmong}
use Rattle.ck_words.specs.Holding.{HasReleased, IsDoubledBy}
use Rattle.ck_words.specs.Renewing.{HasRenewed}
use Rattle.ck_words.specs.Closing.{IsCaller}
use Rattle.ck_words.proofs.Staying.{stays_same, stays_then}
use Rattle.ck_words.proofs.Renewals.{renewed_none}
use Rattle.ck_core.specs.declared.view.RoomNote.{RoomNote}
use Rattle.ck_refusal.specs.declared.refusal.KeysRefused.{KeysRefused}
use Rattle.ck_refusal.specs.declared.refusal.KeysRefused.TheVariants as refused
use Rattle.ck_refusal.specs.declared.refusal.RoomFault.{RoomFault}
use Rattle.ck_refusal.specs.declared.refusal.RoomFault.TheVariants as fault
use Rattle.ck_refusal.specs.declared.refusal.Why.{Why}
use Rattle.ck_refusal.specs.declared.refusal.Why.TheVariants.{Busy, Memory, Full, LoadTooLow}
use Rattle.cuckoo_map.specs.Refusals.{IsRefused}
use Rattle.cuckoo_map.specs.Insertions.{HasSoughtRoom}
use Rattle.cuckoo_map.specs.SeveralKeys.{IsStripeOfAny, HoldsNames, RefusesNames}
use Rattle.cuckoo_map.specs.LockedKeys.{HoldsKeys}
use Rattle.cuckoo_map.specs.RoomForKeys.{SeeksRoomForEach, LacksRoomForOne, LacksRoomForAll, MakesRoomForEach, LacksRoomStill, GrowsForAll, GrowsTimes, SeeksRoom, IsNotGrown, RefusesRoomForEach, RefusesRoom}
use Rattle.cuckoo_map.proofs.Counted.{loosely, stays_counting, released_alike}
use Rattle.cuckoo_map.proofs.SeveralKeys.{names_next}
use Rattle.cuckoo_map.proofs.HeldKeys.{same_pass, lawful_at, holds_keys, none_doubled}

-- what is said of a value that is some, or none
pub match_some : {A : Type 0} (N : Type 0) (S : A → Type 0) (o : Option A) (a : A) → o ≡ Some a → MatchOption o N S → S a
match_some {A} N S o a is h = subst (λ (x : Option A). MatchOption x N S) is h

pub match_none : {A : Type 0} (N : Type 0) (S : A → Type 0) (o : Option A) → o ≡ None → MatchOption o N S → N
match_none {A} N S o is h = subst (λ (x : Option A). MatchOption x N S) is h

-- the names before a key, its own, and those behind it
names_split : {K : Type 0} (name : K → Name) (keys : List K) (i : ℕ) (k : K) → i < length keys → k ≡ get_or keys i k → map name keys ≡ map name (take i keys) ++ name k ∷ map name (drop (i + 1) keys)
names_split name keys i k inside is =
    ap (map name) (sym (take-append-drop (i + 1) keys)) ∙ (map-append name (take (i + 1) keys) (drop (i + 1) keys)
    ∙ (ap (λ qs. qs ++ map name (drop (i + 1) keys)) (names_next name keys i k inside is) ∙ append_assoc (map name (take i keys)) (name k ∷ []) (map name (drop (i + 1) keys))))

module _ {V : Type 0} (hash : Name → ℕ) (set : Settings) where
  -- room was sought for one name more
  seeks_more : (qs : List Name) (q : Name) (p m z : PassState V) → SeeksRoomForEach hash set qs p m → HasSoughtRoom hash set q m z → SeeksRoomForEach hash set (qs ++ q ∷ []) p z
  seeks_more [] q p m z seeks sought = (z, subst (λ (x : PassState V). HasSoughtRoom hash set q x z) seeks sought, refl)
  seeks_more (r ∷ qs) q p m z seeks sought = (seeks.0, seeks.1, seeks_more qs q seeks.0 m z seeks.2 sought)

  -- or the next name was refused it
  lacks_next : (qs : List Name) (q : Name) (rest : List Name) (why : Why) (p m z : PassState V) → SeeksRoomForEach hash set qs p m → IsRefused hash set q why m z → LacksRoomForOne hash set (qs ++ q ∷ rest) why p z
  lacks_next [] q rest why p m z seeks refused = inl (subst (λ (x : PassState V). IsRefused hash set q why x z) seeks refused)
  lacks_next (r ∷ qs) q rest why p m z seeks refused = inr (seeks.0, seeks.1, lacks_next qs q rest why seeks.0 m z seeks.2 refused)

  -- Of these keys, room was sought for each before this one.
  module _ {K : Type 0} (name : K → Name) (keys : List K) (i : ℕ) (k : K) (inside : i < length keys) (is : k ≡ get_or keys i k) (p m z : PassState V) (seeks : SeeksRoomForEach hash set (map name (take i keys)) p m) where
    pub sought_next : HasSoughtRoom hash set (name k) m z → SeeksRoomForEach hash set (map name (take (i + 1) keys)) p z
    sought_next sought = subst (λ qs. SeeksRoomForEach hash set qs p z) (sym (names_next name keys i k inside is)) (seeks_more (map name (take i keys)) (name k) p m z seeks sought)

    pub refused_next : (why : Why) → IsRefused hash set (name k) why m z → LacksRoomForOne hash set (map name keys) why p z
    refused_next why refused = subst (λ qs. LacksRoomForOne hash set qs why p z) (sym (names_split name keys i k inside is)) (lacks_next (map name (take i keys)) (name k) (map name (drop (i + 1) keys)) why p m z seeks refused)

-- The stripes of the names were taken from p to p1, and are held as p2.
module _ {V : Type 0} {hash : Name → ℕ} {w : WordsState} {stripes : StripeSet} {names : List Name} (p p1 p2 : PassState V) (caller : IsCaller w p) (own : IsPassOf w p1) (different : AreDistinct names)
    (h : HoldsNames hash w.settings names stripes p p1) (view : p2.view ≡ p1.view) (table : p2.table ≡ p1.table) (same : p2.stripes ≡ p1.stripes) {v : WordsState} (is : v ≡ w) where
  taken : HoldsKeys hash w stripes names p1
  taken = holds_keys p p1 caller own different h

  as_taken : p2 ≡ p1
  as_taken = same_pass p1 p2 view table same

  pub renewed_as_taken : HasRenewed hash v.settings p2
  renewed_as_taken = subst (λ (x : WordsState × PassState V). HasRenewed hash x.0.settings x.1) (λ i. (sym is i, sym as_taken i)) (renewed_none hash w.settings p1 h.unchanged)

  -- and went home
  module _ (z : PassState V) (released : HasReleased v (as_doubled p2 z) z) (doubled : IsDoubledBy p2 z) where
    home : HasReleased w p1 z
    home =
        let held : HoldsKeys hash w stripes names p2 = subst (λ (x : PassState V). HoldsKeys hash w stripes names x) (sym as_taken) taken in
        subst (λ (x : WordsState × PassState V). HasReleased x.0 x.1 z) (λ i. (is i, as_taken i)) (released_alike p2 z released (none_doubled p2 z held doubled))

    pub ends_home : IsCaller w z
    ends_home = record {
      own = home.own;
      idle = home.idle;
      alone = home.stays.others ∙ (h.stays.others ∙ caller.alone);
      number = (caller.number.0, home.stays.by ∙ (h.stays.by ∙ caller.number.1), caller.number.2);
    }

    pub found_home : FindsAmong (IsStripeOfAny hash w.settings names) p p1 → FindsAmong (IsStripeOfAny hash w.settings names) p z
    found_home found = (found.0, home.found ∙ found.1, found.2)

    pub lacks_room : FindsAmong (IsStripeOfAny hash w.settings names) p p1
        → ((max : ℕ) → Lawful (layout hash stripes.s max) (contents_of p1.stripes) → ¬ (HasRoomForAll (layout hash stripes.s max) (contents_of p1.stripes) names)) → LacksRoomForAll hash w.settings names p z
    lacks_room found none =
        ((p1, stripes, h, subst (λ n. ¬ (HasRoomForAll (layout hash n w.settings.max) (contents_of p1.stripes) names)) h.of_table (none w.settings.max (lawful_at taken)), home.stays), found_home found)

-- There was too little room for the names from p to p1, it was sought for each until p2, and they were tried again.
pub tried_again : {V : Type 0} (hash : Name → ℕ) (w : WordsState) (qs : List Name) (p p1 p2 z : PassState V) → LacksRoomForAll hash w.settings qs p p1 → SeeksRoomForEach hash w.settings qs p1 p2 → IsCaller w p2 → FindsAmong (IsStripeOfAny hash w.settings qs) p2 z
    → (taken : Option StripeSet) → MatchOption taken (IsCaller w z × LacksRoomForAll hash w.settings qs p2 z) (λ stripes. HoldsNames hash w.settings qs stripes p2 z × HaveRoomForAll hash w.settings.s z.stripes qs)
    → MatchOption taken (IsCaller w z × LacksRoomStill hash w.settings qs p z)
    (λ stripes. (m : PassState V) × IsCaller w m × MakesRoomForEach hash w.settings qs p m × HoldsNames hash w.settings qs stripes m z × FindsAmong (IsStripeOfAny hash w.settings qs) m z × HaveRoomForAll hash w.settings.s z.stripes qs)
tried_again hash w qs p p1 p2 z lacking sought caller found None h = (h.0, (p1, p2, lacking, sought, h.1))
tried_again hash w qs p p1 p2 z lacking sought caller found (Some stripes) h = (p2, caller, inr (p1, lacking, sought), h.0, found, h.1)

-- From p to z nothing was answered. It may have noted more of room, and the table may have doubled.
abbrev pub GoesOn : {V : Type 0} → PassState V → PassState V → Type 0
GoesOn {V} p z = (more : List (RoomNote V)) × StaysBut more (as_doubled p z).view z.view

module _ {V : Type 0} where
  pub goes_same : (p z : PassState V) → z ≡ p → GoesOn p z
  goes_same p z same = subst (λ (x : PassState V). GoesOn p x) (sym same) ([], stays_same p.view)

  pub goes_but : {more : List (RoomNote V)} (p z : PassState V) → StaysBut more p.view z.view → GoesOn p z
  goes_but {more} p z stays = (more, loosely stays)

  pub goes_then : (p m z : PassState V) → GoesOn p m → GoesOn m z → GoesOn p z
  goes_then p m z f g = (g.0 ++ f.0, stays_then f.0 g.0 (as_doubled p z).view (as_doubled m z).view z.view (stays_counting z.view f.1) g.1)

  goes_refused : (hash : Name → ℕ) (set : Settings) (names : List Name) (why : KeysRefused) (p z : PassState V) → RefusesNames hash set names p z why → GoesOn p z
  goes_refused hash set names (refused.Busy t) p z h = goes_but p z h.stays
  goes_refused hash set names (refused.Twice i) p z h = goes_same p z h.1

-- So it is while room is sought for the names.
module _ {V : Type 0} (hash : Name → ℕ) (set : Settings) where
  goes_sought : (q : Name) (p z : PassState V) → HasSoughtRoom hash set q p z → GoesOn p z
  goes_sought q p z h = (h.more, h.stays)

  goes_seeking : (qs : List Name) (p z : PassState V) → SeeksRoomForEach hash set qs p z → GoesOn p z
  goes_seeking [] p z h = goes_same p z h
  goes_seeking (q ∷ qs) p z h = goes_then p h.0 z (goes_sought q p h.0 h.1) (goes_seeking qs h.0 z h.2)

  goes_lacking : (qs : List Name) (why : Why) (p z : PassState V) → LacksRoomForOne hash set qs why p z → GoesOn p z
  goes_lacking [] why p z h = absurd h
  goes_lacking (q ∷ qs) why p z (inl h) = (h.more, h.stays)
  goes_lacking (q ∷ qs) why p z (inr h) = goes_then p h.0 z (goes_sought q p h.0 h.1) (goes_lacking qs why h.0 z h.2)

  module _ (qs : List Name) where
    goes_full : (p z : PassState V) → LacksRoomForAll hash set qs p z → GoesOn p z
    goes_full p z h = goes_then p h.0.0 z (goes_but p h.0.0 h.0.2.stays) (goes_but h.0.0 z h.0.4)

    goes_made : (p z : PassState V) → MakesRoomForEach hash set qs p z → GoesOn p z
    goes_made p z (inl h) = goes_same p z h
    goes_made p z (inr h) = goes_then p h.0 z (goes_full p h.0 h.1) (goes_seeking qs h.0 z h.2)

    goes_still : (p z : PassState V) → LacksRoomStill hash set qs p z → GoesOn p z
    goes_still p z h = goes_then p h.1 z (goes_then p h.0 h.1 (goes_full p h.0 h.2) (goes_seeking qs h.0 h.1 h.3)) (goes_full h.1 z h.4)

    goes_times : (n : ℕ) (p z : PassState V) → GrowsTimes hash set qs n p z → GoesOn p z
    goes_times zero p z h = goes_same p z h
    goes_times (suc n) p z h = goes_then p h.1 z (goes_then p h.0 h.1 (goes_times n p h.0 h.2) (goes_still h.0 h.1 h.3)) ([], h.4.stays)

    pub goes_seeking_room : (all : Bool) (p z : PassState V) → SeeksRoom hash set qs all p z → GoesOn p z
    goes_seeking_room false p z h = goes_then p h.1 z (goes_times h.0 p h.1 h.2) (goes_made h.1 z h.3)
    goes_seeking_room true p z h = goes_then p h.1 z (goes_times h.0 p h.1 h.2) (goes_still h.1 z h.3)

    goes_ungrown : (why : Why) (p z : PassState V) → IsNotGrown hash set qs why p z → GoesOn p z
    goes_ungrown (Busy t) p z h = goes_but p z h.stays
    goes_ungrown Memory p z h = goes_then p h.0 z (goes_but p h.0 h.1.stays) (goes_but h.0 z h.2)
    goes_ungrown Full p z h = goes_then p h.0 z (goes_but p h.0 h.1.stays) (goes_but h.0 z h.2)
    goes_ungrown LoadTooLow p z h = goes_then p h.0 z (goes_but p h.0 h.1.stays) (goes_but h.0 z h.2)

    goes_refusing : (e : RoomFault) (p z : PassState V) → RefusesRoomForEach hash set qs p z e → GoesOn p z
    goes_refusing (fault.Keys why) p z h = goes_then p h.0 z (goes_made p h.0 h.1) (goes_refused hash set qs why h.0 z h.2)
    goes_refusing (fault.Room why) p z h = goes_then p h.0 z (goes_full p h.0 h.1) (goes_lacking qs why h.0 z h.2)

    pub goes_without_room : (e : RoomFault) (p z : PassState V) → RefusesRoom hash set qs p z e → GoesOn p z
    goes_without_room e p z (inl h) = goes_then p h.1 z (goes_times h.0 p h.1 h.2) (goes_refusing e h.1 z h.3)
    goes_without_room e p z (inr h) = goes_then p h.1 z (goes_seeking_room true p h.1 h.3) (goes_ungrown h.0 h.1 z h.4)

    -- The table grew for the names once more, and the pass was told so.
    pub grows_again : (n i : ℕ) (p m m2 z : PassState V) → n ≡ i → GrowsTimes hash set qs n p m → i ≤ m.view.told → LacksRoomStill hash set qs m m2 → GrowsForAll hash set qs m2 z
        → (k : ℕ) × (k ≡ i + 1) × GrowsTimes hash set qs k p z × (i + 1 ≤ z.view.told)
    grows_again n i p m m2 z is times told lacks grows =
        let still = (goes_still m m2 lacks).1.told in
        let grown = grows.told in
        (suc n, omega arith, (m, m2, times, lacks, grows), omega arith)
