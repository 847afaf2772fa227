-- All stripes in one list, from the lock of a table to its end.
use Rattle.std.proofs.Common.{◌≡◌, ℕ, suc, ◌+◌, ◌-◌, ◌*◌, ◌^◌, ◌<◌, ◌≤◌, List, [], ◌∷◌, length, get_or, reverse, inr, ⊎_elim, refl, sym, ap, ◌∙◌, subst, arith, Some, None, Result, OnOk, IfErr, ◌++◌, take, drop, Ok, Err, OnErr, IfOk}
use Rattle.std.proofs.Math.Pow.{pow_mono}
use Rattle.std.proofs.lemmas.List.{length-map, take-append-le, take_all}
use Rattle.std.proofs.lemmas.Nat.{pow_pos}
use Rattle.std.proofs.lemmas.Result.{IfOk-weaker, IfErr-weaker}
use Rattle.std.specs.Prelude.{Option, OnSome, Bool}
use Rattle.std.specs.FinMap.{get, len, from_entries}
use Rattle.std.specs.Borrow.{Bor}
use Rattle.std.specs.Fn.{Mut}
use Rattle.ck_model.specs.declared.contents.Content.{Content}
use Rattle.ck_model.specs.declared.history.Act.{Act}
use Rattle.ck_model.specs.declared.history.Act.TheVariants.{Find}
use Rattle.ck_model.specs.declared.history.Call.TheVariants.{On}
use Rattle.ck_model.specs.declared.history.Reply.{Reply}
use Rattle.ck_model.specs.declared.history.Reply.TheVariants.{Was, Closed}
use Rattle.ck_model.specs.declared.settings.Settings.{Settings}
use Rattle.ck_model.specs.Promise.{Name, Answers, Step, After}
use Rattle.ck_model.specs.Numbered.{IsIn, numbers, Holds}
use Rattle.ck_model.specs.Contents.{Layout, layout, layout_of, Stripes, Lawful, pairs_in, pairs_of, bindings, NamesApart, power_of}
use Rattle.ck_model.specs.Paths.{HasNoRoom, IsStuck, Grounds, reason_of_lack}
use Rattle.ck_model.specs.Sections.{HasAll, Renewed, Section, IdentitySection}
use Rattle.ck_model.proofs.Numbered.{held_of_in, in_held}
use Rattle.ck_model.proofs.Counted.{len-bindings}
use Rattle.ck_model.proofs.Doubling.{pairs_apart}
use Rattle.ck_model.proofs.Rows.{power_held}
use Rattle.ck_model.specs.Doubling.{IsDoubledTo}
use Rattle.ck_stripe.specs.Stripe.{StripeState}
use Rattle.ck_stripe.proofs.Writes.{few_entries}
use Rattle.ck_stripe.specs.Stripes.{stripe_at, contents_of, settled_stripes}
use Rattle.ck_section.specs.declared.place.KeyPlace.{KeyPlace}
use Rattle.ck_model.specs.declared.lack.Lack.{Lack}
use Rattle.ck_model.specs.declared.lack.Lack.TheVariants.{Memory, Full, LoadTooLow}
use Rattle.ck_section.specs.Places.{IsPlaceOf}
use Rattle.ck_stripe.specs.Tables.{power_in, KeepsBindings, AreAllHeld, AreSettled, IsTable}
use Rattle.ck_section.specs.Room.{MakesRoom, GivesReason, GrowsForRoom, OnlyDoubles}
use Rattle.ck_section.specs.Calls.{IsWithRoom, IsWithoutRoom, ChangesContents}
use Rattle.ck_section.proofs.Decided.{IsCallOn}
use Rattle.ck_section.proofs.DoubledRoom.{stuck_full, none_before}
use Rattle.ck_stripe.proofs.Tables.{holds_at}
use Rattle.ck_stripe.proofs.Settled.{all_settled, contents_settled}
use Rattle.ck_section.proofs.Kept.{table_after, settled_after, power_kept}
use Rattle.ck_section.proofs.Tables.{power_shown, power_same}
use Rattle.ck_section.specs.Clearing.{ClearsBindings}
use Rattle.ck_section.specs.Retaining.{RetainsMap, RetainsBindings}
use Rattle.ck_model.specs.Counting.{counting}
use Rattle.ck_core.specs.Steps.{growing}
use Rattle.ck_words.specs.Words.{WordsState}
use Rattle.ck_words.specs.Passes.{EachOf, PassState, IsPassOf, numbers_of}
use Rattle.ck_words.specs.Retries.{Stays, FindsAmong}
use Rattle.ck_words.specs.Closing.{IsWhole, IsCaller}
use Rattle.ck_words.specs.Holding.{IsDoubledBy}
use Rattle.ck_words.specs.Answering.{session_of}
use Rattle.ck_words.specs.Answering.{HasDone}
use Rattle.ck_model.proofs.Counting.{length-counting, counting-at}
use Rattle.ck_words.proofs.Reversed.{in_of_reverse, bindings-reverse, lawful_reverse, held_reverse}
use Rattle.ck_words.proofs.Seating.{length-numbers, number_at}
use Rattle.ck_words.proofs.WholeTables.{lawful_held}
use Rattle.cuckoo_map.specs.Refusals.{IsStripeIn}
use Rattle.ck_refusal.specs.Faults.{why_of}
use Rattle.cuckoo_map.specs.Locking.{LockedState, locked_of, map_of, locked_power, IsSameSession, IsLocked, HasLocked, HasActed, HasChanged, HasDoubledFor, Clears, Lists, KeepsMap, HasRoomFor, KeepsRoom, LacksRoom, SeeksRoom, Retains}
use Rattle.cuckoo_map.proofs.Sizes.{renewed_same, has_all, few_of_each}
use Rattle.cuckoo_map.proofs.Counted.{one_of_lawful}

same_list : (xs ys : List ℕ) → length xs ≡ length ys → ((i : ℕ) → i < length xs → get_or xs i 0 ≡ get_or ys i 0) → xs ≡ ys
same_list [] [] e f = refl
same_list [] (y ∷ ys) e f = absurd (omega arith)
same_list (x ∷ xs) [] e f = absurd (omega arith)
same_list (x ∷ xs) (y ∷ ys) e f = λ j. f 0 (omega arith) j ∷ same_list xs ys (omega arith) (λ i l. f (suc i) (omega arith)) j

err_weaker : {A E : Type 0} (r : Result A E) {P Q : Type 0} → (P → Q) → OnErr r P → OnErr r Q
err_weaker (Ok a) f p = tt
err_weaker (Err e) f p = f p

-- What a call does to a slice of all of a list it does to the list.
pub through_slice : {X : Type 0} (P : List X → List X → Type 0) (lent old : List X) → lent ≡ old → (n : ℕ) (items new : List X) → n ≡ length new → P lent new → P old (take n (new ++ drop (length new) items))
through_slice {X} P lent old is n items new long done =
    let whole : take n (new ++ drop (length new) items) ≡ new = take-append-le n new (drop (length new) items) (omega arith) ∙ take_all n new (omega arith) in
    subst (λ (x : List X × List X). P x.0 x.1) (λ j. (is j, sym whole j)) done

module _ {V : Type 0} where
  -- nothing but what the stripes are has changed
  pub only_stripes : (p q : PassState V) → (q.table ≡ p.table) × (q.view ≡ p.view) → q ≡ record p { stripes = q.stripes }
  only_stripes p q same = λ j. record { table = same.0 j; view = same.1 j; stripes = q.stripes }

  -- and so a locked table is still in one session
  pub same_session : (w : WordsState) (p q : PassState V) → q ≡ record p { stripes = q.stripes } → (s : LockedState V) → locked_of w p ≡ s → IsSameSession s (locked_of w q)
  same_session w p q kept s is = ap (λ (x : PassState V). record (locked_of w x) { stripes = q.stripes }) kept ∙ ap (λ (x : LockedState V). record x { stripes = q.stripes }) is

  pub numbered : (s : ℕ) (ss : List (StripeState V)) → IsTable s ss → numbers_of ss ≡ counting 0 (2 ^ s)
  numbered s ss t =
      let n = length-numbers ss in
      let all = length-counting (2 ^ s) 0 in
      let count = t.count in
      same_list (numbers_of ss) (counting 0 (2 ^ s)) (omega arith) (λ i l. sym (number_at ss i (omega arith)) ∙ (t.number i (omega arith) ∙ sym (counting-at (2 ^ s) i (omega arith))))

  each_s : (s : ℕ) (ss : List (StripeState V)) → ((i : ℕ) → i < length ss → (stripe_at ss i).s ≡ s) → EachOf s ss
  each_s s [] f = tt
  each_s s (x ∷ xs) f = (f 0 (omega arith), each_s s xs (λ i l. f (suc i) (omega arith)))

  pub each_of : (s : ℕ) (ss : List (StripeState V)) → IsTable s ss → EachOf s ss
  each_of s ss t = each_s s ss t.one_s

  pub not_below : (k : Layout) (hs ks : Stripes V) → Renewed k hs ks → (t u : ℕ) (c d : Content V) → Holds hs t c → Holds ks u d → c.power ≤ d.power
  not_below k hs ks r t u c d h g = ⊎_elim (λ same. let e = same t u c d h g in omega arith) (λ more. more.1 t u c d h g) r.power

  -- all stripes were renewed, and again
  pub renewed_on : (k : Layout) (hs ks ls : Stripes V) → HasAll k hs → Renewed k hs ks → Renewed k ks ls → Renewed k hs ls
  renewed_on k hs ks ls all a b = record {
    same = b.same ∙ a.same;
    lawful = b.lawful;
    power = inr (
      all,
      (λ t u c e h g.
          let d = held_of_in ks u (subst (λ (ns : List ℕ). IsIn u ns) b.same (in_held ls u e g)) in
          let x = not_below k hs ks a t u c d.0 h d.1 in
          let y = not_below k ks ls b u u d.0 e d.1 g in
          omega arith),
    );
  }

  -- all stripes were held when they were taken
  pub had_all : (hash : Name → ℕ) (w : WordsState) (p : PassState V) → IsLocked hash w p → HasAll (layout_of hash w.settings) (reverse p.view.held)
  had_all hash w p l t lt = subst (λ (ns : List ℕ). IsIn t ns) l.renewed.same (has_all hash w.settings p (numbered w.settings.s p.stripes l.table) t lt)

  pub had_all_held : (hash : Name → ℕ) (w : WordsState) (p : PassState V) → IsLocked hash w p → HasAll (layout_of hash w.settings) p.view.held
  had_all_held hash w p l t lt = in_of_reverse p.view.held t (had_all hash w p l t lt)

  -- the table is locked
  module _ (hash : Name → ℕ) (w : WordsState) (p p1 : PassState V) (stays : Stays p.view p1.view) (whole : IsWhole hash w.settings p1) where
    abbrev k : Layout
    k = layout_of hash w.settings

    pub locked_by : IsCaller w p → IsPassOf w p1 → IsTable w.settings.s p1.stripes → AreSettled p1.stripes → IsLocked hash w p1
    locked_by caller own table settled = record {
      own = own;
      alone = stays.others ∙ caller.alone;
      number = (caller.number.0, stays.by ∙ caller.number.1, caller.number.2);
      table = table;
      settled = settled;
      shows = whole.shows;
      renewed = subst (λ (hs : Stripes V). Renewed k hs (contents_of p1.stripes)) whole.unchanged (renewed_same k (contents_of p1.stripes) (lawful_held hash w.settings p1 whole));
    }

    pub after_all : After p1.view.seen (bindings (reverse p1.view.held))
    after_all = subst (λ m. After p1.view.seen m) (sym (bindings-reverse k p1.view.held whole.shows.lawful))
        (whole.shows.all_held (λ t l. in_of_reverse p1.view.held t (subst (λ (hs : Stripes V). IsIn t (numbers hs)) whole.unchanged (has_all hash w.settings p1 whole.all t l))))

  -- all stripes of a locked table were renewed
  pub locked_again : (hash : Name → ℕ) (w : WordsState) (p q : PassState V) → IsLocked hash w p → q ≡ record p { stripes = q.stripes } → IsTable w.settings.s q.stripes → AreSettled q.stripes
      → Renewed (layout_of hash w.settings) (contents_of p.stripes) (contents_of q.stripes) → IsLocked hash w q
  locked_again hash w p q l kept table settled renewed =
      let new : IsLocked hash w (record p { stripes = q.stripes }) = record {
        own = l.own;
        alone = l.alone;
        number = l.number;
        table = table;
        settled = settled;
        shows = l.shows;
        renewed = renewed_on (layout_of hash w.settings) (reverse p.view.held) (contents_of p.stripes) (contents_of q.stripes) (had_all hash w p l) l.renewed renewed;
      } in
      subst (λ (x : PassState V). IsLocked hash w x) (sym kept) new

  -- a look-up replies with what the name is bound to
  pub found_reply : (o p o2 : Option V) → Answers Find o (Was p) o2 → p ≡ o
  found_reply (Some v) p o2 a = let e = a.0 in cc
  found_reply None p o2 a = let e = a.0 in cc

  module _ (hash : Name → ℕ) (w : WordsState) (p : PassState V) (l : IsLocked hash w p) where
    -- a call on the stripes, whatever the greatest power
    pub acted : (place : KeyPlace) → place.s ≡ w.settings.s → (q : Name) (act : Act V) (reply : Reply V) (new : List (StripeState V)) → IsCallOn hash place.s p.stripes q act reply new
        → Section (layout_of hash w.settings) (contents_of p.stripes) (On q act) reply (contents_of new)
    acted place same q act reply new call =
        subst (λ s. Section (layout hash s w.settings.max) (contents_of p.stripes) (On q act) reply (contents_of new)) same
        (call w.settings.max (subst (λ s. Lawful (layout hash s w.settings.max) (contents_of p.stripes)) (sym same) l.renewed.lawful))

    -- a look-up tells what the map has
    pub looked_up : (place : KeyPlace) → place.s ≡ w.settings.s → (q : Name) (o : Option V) → IsCallOn hash place.s p.stripes q Find (Was o) p.stripes → o ≡ get (bindings (contents_of p.stripes)) q
    looked_up place same q o call =
        let m = bindings (contents_of p.stripes) in
        found_reply (get m q) o (get m q) (acted place same q Find (Was o) p.stripes call).step.0

    -- where room was made, the name is not without it
    pub not_without : (place : KeyPlace) → place.s ≡ w.settings.s → (q : Name) (s : LockedState V) → locked_of w p ≡ s
        → ¬ (HasNoRoom (layout_of hash s.caller.table.settings) (contents_of s.stripes) q) → IsWithoutRoom hash place.s p.stripes q → ⊥
    not_without place same q s is room none =
        subst (λ (x : LockedState V). ¬ (HasNoRoom (layout_of hash x.caller.table.settings) (contents_of x.stripes) q)) (sym is) room
        (subst (λ s. HasNoRoom (layout hash s w.settings.max) (contents_of p.stripes) q) same
        (none w.settings.max (subst (λ s. Lawful (layout hash s w.settings.max) (contents_of p.stripes)) (sym same) l.renewed.lawful)))

    -- the number of names that are bound
    pub counts_locked : length (pairs_of (contents_of p.stripes)) ≡ len (bindings (contents_of p.stripes))
    counts_locked = sym (len-bindings (layout_of hash w.settings) (contents_of p.stripes) l.renewed.lawful)

    -- all pairs in the slots
    pub lists_locked : (pairs : List (Name × V)) → pairs ≡ pairs_of (contents_of p.stripes) → (s : LockedState V) → locked_of w p ≡ s → Lists pairs (map_of s)
    unfolding bindings
    lists_locked pairs all s is = record {
      same = ap from_entries all ∙ ap map_of is;
      once = subst NamesApart (sym all) (pairs_apart (layout_of hash w.settings) (contents_of p.stripes) l.renewed.lawful);
    }

    -- of which there are no more than slots
    pub few_locked : length (pairs_of (contents_of p.stripes)) ≤ 2 ^ 38
    few_locked =
        let all = few_of_each (4 * 2 ^ 26) (contents_of p.stripes) few in
        let count : length (contents_of p.stripes) ≡ 2 ^ w.settings.s = length-map p.stripes _ ∙ l.table.count in
        let many : 2 ^ w.settings.s ≤ 2 ^ 10 = pow_mono l.table.many in
        omega arith
      where
        first : StripeState V
        first = stripe_at p.stripes 0

        few : (t : ℕ) (c : Content V) → Holds (contents_of p.stripes) t c → length (pairs_in c) ≤ 4 * 2 ^ 26
        few t c held =
            let some : 0 < length p.stripes = subst (λ n. 0 < n) (sym l.table.count) (pow_pos w.settings.s) in
            let shaped = (l.renewed.lawful.sound t c held).shaped in
            let power : c.power ≡ first.content.power = l.renewed.lawful.one_power t first.number c first.content held (holds_at p.stripes 0 some) in
            subst (λ n. n ≤ 4 * 2 ^ 26) shaped.ledger (few_entries w.settings.s c shaped (subst (λ n. n ≤ 26) (sym power) l.table.most))

    -- what was done while it was locked
    pub session_done : (q : PassState V) → q ≡ p → HasDone hash w.settings (session_of q) Closed q
    session_done q same = subst (λ (x : PassState V). HasDone hash w.settings (session_of x) Closed x) (sym same)
        (λ lawful. record { renewed = l.renewed; owns = had_all hash w p l; step = (refl, refl, refl) })

    -- the doublings that were made meanwhile
    pub session_counted : (z : PassState V) → IsDoubledBy p z → (z.view.doublings ≡ p.view.doublings + (power_of (contents_of p.stripes) - power_of (reverse p.view.held)))
        × (z.view.grown_from ≡ growing p.view.grown_from (reverse p.view.held) (power_of (contents_of p.stripes) - power_of (reverse p.view.held)))
    session_counted z doubled =
        let k : Layout = layout_of hash w.settings in
        doubled.counted (power_of (reverse p.view.held)) (power_of (contents_of p.stripes))
        (λ t c h. one_of_lawful k (reverse p.view.held) (lawful_reverse k p.view.held l.shows.lawful) t c (held_reverse p.view.held t c h)) (one_of_lawful k (contents_of p.stripes) l.renewed.lawful)

  pub has_locked : (hash : Name → ℕ) (w : WordsState) (p p1 : PassState V) → IsCaller w p → Stays p.view p1.view → IsWhole hash w.settings p1 → FindsAmong (IsStripeIn w.settings) p p1 → HasLocked w p (locked_of w p1)
  has_locked hash w p p1 caller stays whole found = record {
    table = refl;
    stays = record {
      settings = stays.settings;
      by = stays.by;
      mine = stays.mine;
      others = sym caller.alone;
      heard = stays.heard;
      no_slot = stays.no_slot;
      seen = stays.seen;
      by_others = stays.by_others;
      alone = stays.alone;
      watched = stays.watched;
      told = stays.told;
      doublings = stays.doublings;
      grown_from = stays.grown_from;
    };
    found = found;
    after = after_all hash w p p1 stays whole;
    same = ap bindings whole.unchanged;
    power = ap power_of whole.unchanged;
  }

  -- a place among the stripes that s shows is one among those that are held
  pub place_held : {hash : Name → ℕ} {w : WordsState} (p : PassState V) {s : LockedState V} → locked_of w p ≡ s → (name : Name) (place : KeyPlace) → IsPlaceOf hash s.stripes name place → IsPlaceOf hash p.stripes name place
  place_held {hash} p is name place at = subst (λ (x : LockedState V). IsPlaceOf hash x.stripes name place) (sym is) at

  -- the contents of all stripes of a locked table changed
  module _ {hash : Name → ℕ} {w : WordsState} {p : PassState V} (l : IsLocked hash w p) (q : PassState V) (kept : q ≡ record p { stripes = q.stripes }) where
    -- it is still locked where they were renewed
    pub changed_locked : ChangesContents p.stripes q.stripes → Renewed (layout_of hash w.settings) (contents_of p.stripes) (contents_of q.stripes) → IsLocked hash w q
    changed_locked changes renewed =
        locked_again hash w p q l kept (table_after w.settings.s p.stripes q.stripes l.table changes) (settled_after w.settings.s p.stripes q.stripes l.settled changes) renewed

    module _ {s : LockedState V} (is : locked_of w p ≡ s) where
      -- the number of buckets stayed
      pub keeps_power : ChangesContents p.stripes q.stripes → locked_power (locked_of w q) ≡ locked_power s
      keeps_power changes = power_kept p.stripes q.stripes changes ∙ ap (λ (x : LockedState V). locked_power x) is

      -- all names were unbound
      pub clears_map : ChangesContents p.stripes q.stripes → ClearsBindings (layout_of hash w.settings) p.stripes q.stripes → Clears s (locked_of w q)
      clears_map changes clears = record {
        session = same_session w p q kept s is;
        power = keeps_power changes;
        none = (clears l.renewed.lawful).1;
      }

      -- and they were what this says of their pairs
      pub drains_map : {A E : Type 0} (P : A → Type 0) (r : Result A E) → OnOk r (ChangesContents p.stripes q.stripes) → OnOk r (ClearsBindings (layout_of hash w.settings) p.stripes q.stripes) → IfOk r P
          → IfOk r (λ pairs. P pairs × Clears s (locked_of w q))
      drains_map P (Ok pairs) changes clears says = (says, clears_map changes clears)
      drains_map P (Err e) changes clears says = tt

      -- those pairs stayed for which a closure answered true
      pub retains_map : {F K : Type 0} (g : Mut F (Bor K × (Bor V × Unit {0})) Bool) (name : K → Name) (f : F) → ChangesContents p.stripes q.stripes → RetainsBindings g name f (layout_of hash w.settings) p.stripes q.stripes
          → Retains g name f s (locked_of w q)
      retains_map g name f changes retains = record {
        session = same_session w p q kept s is;
        power = keeps_power changes;
        pairs = subst (λ (x : LockedState V). RetainsMap g name f (map_of x) (bindings (contents_of q.stripes))) is (retains l.renewed.lawful).1;
      }

    -- it is still locked where all pairs were taken out, or nothing changed
    pub drained_locked : {A E : Type 0} (r : Result A E) → OnOk r (ChangesContents p.stripes q.stripes) → OnOk r (ClearsBindings (layout_of hash w.settings) p.stripes q.stripes) → OnErr r (q ≡ p) → IsLocked hash w q
    drained_locked (Ok pairs) changes clears same = changed_locked changes (clears l.renewed.lawful).0
    drained_locked (Err e) changes clears same = subst (λ (x : PassState V). IsLocked hash w x) (sym same) l

  -- The table is locked, as s shows it. A call was made on its stripes, and nothing else changed.
  module _ {hash : Name → ℕ} {w : WordsState} {p : PassState V} {s : LockedState V} (l : IsLocked hash w p) (is : locked_of w p ≡ s) (place : KeyPlace) (same : place.s ≡ s.caller.table.settings.s)
      (name : Name) (q : PassState V) (kept : q ≡ record p { stripes = q.stripes }) (act : Act V) (reply : Reply V) where
    pub of_table : place.s ≡ w.settings.s
    of_table = same ∙ sym (ap (λ (x : LockedState V). x.caller.table.settings.s) is)

    -- it is still locked
    pub acted_locked : ChangesContents p.stripes q.stripes → IsCallOn hash place.s p.stripes name act reply q.stripes → IsLocked hash w q
    acted_locked changes call = changed_locked l q kept changes (acted hash w p l place of_table name act reply q.stripes call).renewed

    -- the call is what was done to its map
    pub has_acted : IsCallOn hash place.s p.stripes name act reply q.stripes → HasActed name s (locked_of w q) act reply
    has_acted call = record {
      session = same_session w p q kept s is;
      step = subst (λ (x : LockedState V). Step (map_of x) (On name act) reply (bindings (contents_of q.stripes))) is (acted hash w p l place of_table name act reply q.stripes call).step;
    }

    -- and the number of buckets stayed
    pub has_changed : ChangesContents p.stripes q.stripes → IsCallOn hash place.s p.stripes name act reply q.stripes → HasChanged name s (locked_of w q) act reply
    has_changed changes call = record { acted = has_acted call; power = keeps_power l q kept is changes }

    -- where the call left room for the name among the stripes, there is room for it
    pub has_room_left : ChangesContents p.stripes q.stripes → IsCallOn hash place.s p.stripes name act reply q.stripes → {A : Type 0} (o : Option A) → OnSome o (IsWithRoom hash place.s q.stripes name)
        → OnSome o (HasRoomFor hash name (locked_of w q))
    has_room_left changes call None room = tt
    has_room_left changes call (Some a) room = record {
      is = subst (λ n. ¬ (HasNoRoom (layout hash n w.settings.max) (contents_of q.stripes) name)) of_table
          (room w.settings.max (subst (λ n. Lawful (layout hash n w.settings.max) (contents_of q.stripes)) (sym of_table) (acted_locked changes call).renewed.lawful));
    }

  -- a locked table whose number of buckets stayed has not grown
  pub grows_not : (hash : Name → ℕ) (q : Name) (l m : LockedState V) → locked_power m ≡ locked_power l → HasDoubledFor hash q l m
  grows_not hash q l m same power from below = absurd (omega arith)

  -- whatever the lack, no displacement makes room
  stuck_by : (k : Layout) (min_load : ℕ) (hs : Stripes V) (q : Name) (lack : Lack) → Grounds k min_load hs q (reason_of_lack lack) → IsStuck k hs q
  stuck_by k min_load hs q Memory grounds = grounds.0
  stuck_by k min_load hs q Full grounds = grounds.0
  stuck_by k min_load hs q LoadTooLow grounds = grounds.0

  -- room was made or not, and then all stripes were settled
  pub seeks_room : (hash : Name → ℕ) (set : Settings) (q : Name) (found : Result (Unit {0}) Lack) (old mid new : List (StripeState V)) → new ≡ settled_stripes mid → IsTable set.s mid
      → KeepsBindings (layout_of hash set) old mid → OnOk found (MakesRoom (layout_of hash set) old mid q) → IfErr found (GivesReason (layout_of hash set) set.min_load old mid q)
      → OnErr found (OnlyDoubles (layout_of hash set) old mid) → GrowsForRoom (layout_of hash set) set.min_load old mid q → SeeksRoom hash set q found old new
  seeks_room hash set q found old mid new same table no_call room refused left grows =
      let k : Layout = layout_of hash set in
      let kept : contents_of new ≡ contents_of mid = ap (λ (ss : List (StripeState V)). contents_of ss) same ∙ contents_settled mid in
      let held : AreAllHeld set.s new = subst (λ (ss : List (StripeState V)). AreAllHeld set.s ss) (sym same) (all_settled set.s mid table) in
      let power : power_in new ≡ power_in mid = power_same set.s mid new table held.table kept in
      record {
        held = held;
        no_call = λ lawful. subst (λ (hs : Stripes V). IdentitySection k (contents_of old) hs) (sym kept) (no_call lawful);
        room = IfOk-weaker found _ _ (λ x makes lawful. subst (λ (hs : Stripes V). ¬ (HasNoRoom k hs q)) (sym kept) (makes lawful)) room;
        refused = IfErr-weaker found _ _ (λ lack grounds lawful. subst (λ (hs : Stripes V). Grounds k set.min_load hs q (reason_of_lack lack)) (sym kept) (grounds lawful)) refused;
        left = err_weaker found (λ only lawful. subst (λ (x : ℕ × Stripes V). IsDoubledTo k x.0 (contents_of old) x.1) (λ i. (sym power i, sym kept i)) (only lawful)) left;
        grows = λ lawful p from below. grows lawful p from (subst (λ n. p < n) power below);
      }

  -- room was looked for in a locked table
  module _ (hash : Name → ℕ) (w : WordsState) (p : PassState V) (l : IsLocked hash w p) (name : Name) (found : Result (Unit {0}) Lack) (q : PassState V) (kept : q ≡ record p { stripes = q.stripes })
      (seeks : SeeksRoom hash w.settings name found p.stripes q.stripes) where
    pub sought_locked : IsLocked hash w q
    sought_locked = locked_again hash w p q l kept seeks.held.table seeks.held.settled (seeks.no_call l.renewed.lawful).renewed

    pub keeps_map : (s : LockedState V) → locked_of w p ≡ s → KeepsMap s (locked_of w q)
    keeps_map s is = record {
      session = same_session w p q kept s is;
      same = (seeks.no_call l.renewed.lawful).same_bindings ∙ ap map_of is;
    }

    pub has_room : OnOk found (¬ (HasNoRoom (layout_of hash w.settings) (contents_of q.stripes) name))
    has_room = IfOk-weaker found _ _ (λ x room. room l.renewed.lawful) seeks.room

    some : (ss : List (StripeState V)) → IsTable w.settings.s ss → 0 < length ss
    some ss table = subst (λ n. 0 < n) (sym table.count) (pow_pos w.settings.s)

    -- a name without room had none before, where nothing was displaced
    had_none : OnlyDoubles (layout_of hash w.settings) p.stripes q.stripes → (r : Name) → HasNoRoom (layout_of hash w.settings) (contents_of q.stripes) r → HasNoRoom (layout_of hash w.settings) (contents_of p.stripes) r
    had_none only =
        let k : Layout = layout_of hash w.settings in
        let hs : Stripes V = contents_of p.stripes in
        let ks : Stripes V = contents_of q.stripes in
        let done = seeks.no_call l.renewed.lawful in
        let before = holds_at p.stripes 0 (some p.stripes l.table) in
        let now = holds_at q.stripes 0 (some q.stripes seeks.held.table) in
        let rises : power_of hs ≤ power_of ks = subst (λ (x : ℕ × ℕ). x.0 ≤ x.1) (λ i. (sym (power_held k hs _ _ l.renewed.lawful before) i, sym (power_held k ks _ _ done.renewed.lawful now) i))
        (not_below k hs ks done.renewed _ _ _ _ before now) in
        let level : power_of ks ≡ power_in q.stripes = power_shown q.stripes (some q.stripes seeks.held.table) in
        none_before k (power_in q.stripes) hs ks l.renewed.lawful done.renewed.lawful (subst (λ n. power_of hs ≤ n) level rises) level (only l.renewed.lawful) done.same_bindings

    -- the lack of room, and what has room still
    pub lacks_room : (s : LockedState V) → locked_of w p ≡ s → IfErr found (λ lack. LacksRoom hash name (why_of lack) s (locked_of w q))
    lacks_room s is = go found seeks.left seeks.refused
      where
        go : (r : Result (Unit {0}) Lack) → OnErr r (OnlyDoubles (layout_of hash w.settings) p.stripes q.stripes) → IfErr r (GivesReason (layout_of hash w.settings) w.settings.min_load p.stripes q.stripes name)
            → IfErr r (λ lack. LacksRoom hash name (why_of lack) s (locked_of w q))
        go (Ok u) only grounds = tt
        go (Err lack) only grounds =
            let k : Layout = layout_of hash w.settings in
            let stuck : HasNoRoom k (contents_of q.stripes) name = stuck_full k (contents_of q.stripes) name (stuck_by k w.settings.min_load (contents_of q.stripes) name lack (grounds l.renewed.lawful)) in
            record {
              kept = keeps_map s is;
              none = subst (λ (x : LockedState V). ¬ (HasRoomFor hash name x)) is (λ room. room.is (had_none only name stuck));
              others = subst (λ (x : LockedState V). KeepsRoom hash x (locked_of w q)) is (λ r room. record { is = λ none. room.is (had_none only r none) });
              lack = lack;
              is = refl;
              grounds = subst (λ (x : LockedState V). Grounds (layout_of hash x.caller.table.settings) x.caller.table.settings.min_load (contents_of q.stripes) name (reason_of_lack lack)) is (grounds l.renewed.lawful);
            }

    -- and the table grew for want of it alone
    pub grows_for : (s : LockedState V) → locked_of w p ≡ s → HasDoubledFor hash name s (locked_of w q)
    grows_for s is =
        let before : locked_power (locked_of w p) ≡ power_in p.stripes = power_shown p.stripes (some p.stripes l.table) in
        let after : locked_power (locked_of w q) ≡ power_in q.stripes = power_shown q.stripes (some q.stripes seeks.held.table) in
        subst (λ (x : LockedState V). HasDoubledFor hash name x (locked_of w q)) is
        (λ power from below. seeks.grows l.renewed.lawful power (subst (λ n. n ≤ power) before from) (subst (λ n. power < n) after below))

  -- what was done once room was made
  pub acted_since : (q : Name) (act : Act V) (reply : Reply V) (l m n : LockedState V) → KeepsMap l m → HasActed q m n act reply → HasActed q l n act reply
  acted_since q act reply l m n kept acts = record {
    session = acts.session ∙ ap (λ (x : LockedState V). record x { stripes = n.stripes }) kept.session;
    step = subst (λ x. Step x (On q act) reply (map_of n)) kept.same acts.step;
  }

  -- what it has grown once room was made, where the number of buckets then stayed
  pub grows_since : (hash : Name → ℕ) (q : Name) (l m n : LockedState V) → HasDoubledFor hash q l m → locked_power n ≡ locked_power m → HasDoubledFor hash q l n
  grows_since hash q l m n grows same power from below = grows power from (subst (λ x. power < x) same below)
