-- Calls on several keys whose stripes are held.
use Rattle.std.proofs.Common.{◌≡◌, ℕ, ◌-◌, ◌<◌, ◌≤◌, List, [], length, Bool, true, false, Option, Some, None, Ok, reverse, inl, refl, sym, ap, ◌∙◌, subst, arith}
use Rattle.std.specs.Prelude.{IfSome, IfNone, MatchOption, MatchBool}
use Rattle.std.specs.Bool.{OnTrue, OnFalse}
use Rattle.std.specs.FinMap.{get}
use Rattle.ck_core.specs.declared.view.View.{View}
use Rattle.ck_model.specs.declared.history.Act.{Act}
use Rattle.ck_model.specs.declared.history.Act.TheVariants.{Find}
use Rattle.ck_model.specs.declared.history.Call.TheVariants.{On, SessionOn}
use Rattle.ck_model.specs.declared.history.Reply.{Reply}
use Rattle.ck_model.specs.declared.history.Reply.TheVariants.{Was, Closed}
use Rattle.ck_model.specs.Promise.{Name, Step, bound_in}
use Rattle.ck_model.specs.Numbered.{IsIn, AreDistinct, numbers, Holds}
use Rattle.ck_model.specs.Contents.{layout, layout_of, Stripes, Lawful, bindings, power_of}
use Rattle.ck_model.specs.Sections.{Section}
use Rattle.ck_stripe.specs.Stripe.{StripeState}
use Rattle.ck_stripe.specs.Stripes.{stripe_at, contents_of}
use Rattle.ck_stripe.specs.Tables.{AreHeld}
use Rattle.ck_section.specs.Places.{HasBoth}
use Rattle.ck_model.specs.Paths.{HasNoRoom}
use Rattle.ck_section.specs.Calls.{IsWithoutRoom, ChangesContents}
use Rattle.ck_section.specs.RoomForAll.{KeepsOthers, HasRoomForAll, HaveRoomForAll}
use Rattle.ck_section.proofs.Decided.{IsCallOn}
use Rattle.ck_section.proofs.Kept.{no_spare_after, power_kept}
use Rattle.ck_section.proofs.RoomForAll.{room_kept, room_found}
use Rattle.ck_core.specs.State.{found_held}
use Rattle.ck_words.specs.declared.stripe_set.StripeSet.{StripeSet}
use Rattle.ck_words.specs.Words.{WordsState}
use Rattle.ck_words.specs.Passes.{PassState, IsPassOf}
use Rattle.ck_words.specs.Retries.{as_doubled, Stays, FindsAmong}
use Rattle.ck_words.specs.Holding.{IsDoubledBy}
use Rattle.ck_words.specs.Answering.{HasDone, HasCommitted, IsAnswered, session_on}
use Rattle.ck_words.specs.Closing.{IsCaller}
use Rattle.ck_words.proofs.Reversed.{lawful_reverse, held_reverse}
use Rattle.ck_words.proofs.Seating.{numbers-contents}
use Rattle.cuckoo_map.specs.SeveralKeys.{IsStripeOfAny, HoldsNames, IsSameButStripes, HasQueriedAll, bound_to}
use Rattle.cuckoo_map.specs.Callers.{caller_of, pass_of}
use Rattle.cuckoo_map.specs.Locking.{map_of}
use Rattle.cuckoo_map.specs.LockedKeys.{KeysState, keys_of, value_of, ActsOn, HasRoomForNames, KeepsRoom, HasLockedKeys, HoldsKeys}
use Rattle.cuckoo_map.proofs.Callers.{as_pass}
use Rattle.cuckoo_map.proofs.Sessions.{same_session, found_reply}
use Rattle.cuckoo_map.proofs.Calls.{answered_since, answered_level}
use Rattle.cuckoo_map.proofs.Counted.{one_of_lawful, growing_none}
use Rattle.cuckoo_map.specs.Needed.{DoublesNothing}

module _ {V : Type 0} where
  -- settled stripes stay so in a call
  held_after : (s : ℕ) (old new : List (StripeState V)) → AreHeld s old → ChangesContents old new → AreHeld s new
  held_after s old new h changes =
      let inside : (i : ℕ) → i < length new → i < length old = λ i l. subst (λ n. i < n) changes.count l in
      let first : (stripe_at new 0).content.power ≡ (stripe_at old 0).content.power = changes.power 0 h.some in
      record {
        some = subst (λ n. 0 < n) (sym changes.count) h.some;
        many = h.many;
        one_s = λ i l. ap (λ (t : StripeState V). t.s) (changes.each i (inside i l)) ∙ h.one_s i (inside i l);
        settled = λ i l. ap (λ (t : StripeState V). t.settled) (changes.each i (inside i l)) ∙ h.settled i (inside i l);
        one_power = λ i l. changes.power i (inside i l) ∙ h.one_power i (inside i l) ∙ sym first;
        least = subst (λ n. s ≤ n) (sym first) h.least;
        most = subst (λ n. n ≤ 26) (sym first) h.most;
        no_spare = no_spare_after old new h.no_spare changes;
        rising = λ i j lt l.
            let low : (stripe_at new i).number ≡ (stripe_at old i).number = ap (λ (t : StripeState V). t.number) (changes.each i (inside i (omega arith))) in
            let high : (stripe_at new j).number ≡ (stripe_at old j).number = ap (λ (t : StripeState V). t.number) (changes.each j (inside j l)) in
            let before = h.rising i j lt (inside j l) in
            omega arith;
      }

  -- a pass with the same fields is the same
  pub same_pass : (p q : PassState V) → q.view ≡ p.view → q.table ≡ p.table → q.stripes ≡ p.stripes → q ≡ p
  same_pass p q view table stripes = λ i. record { table = table i; view = view i; stripes = stripes i }

  -- it is another one from then on, by which names are bound to what they were
  pub bound_since : (names : List Name) (p q z : PassState V) → q.view ≡ p.view → q.table ≡ p.table → q.stripes ≡ p.stripes → q ≡ z → bound_to names z ≡ bound_to names p
  bound_since names p q z view table same there = ap (bound_to names) (sym there ∙ same_pass p q view table same)

  -- The keys are held by q, with room for all of them where there was in k.
  pub record HoldsWithRoom (hash : Name → ℕ) (w : WordsState) (stripes : StripeSet) (names : List Name) (k : KeysState V) (q : PassState V) : Type 0 where
    pub keys : HoldsKeys hash w stripes names q
    pub room : KeepsRoom hash k (keys_of w names q)

  module _ {hash : Name → ℕ} {w : WordsState} {stripes : StripeSet} {names : List Name} where
    -- what their stripes contain is lawful, in as many stripes as the set is of
    pub lawful_at : {p : PassState V} → HoldsKeys hash w stripes names p → Lawful (layout hash stripes.s w.settings.max) (contents_of p.stripes)
    lawful_at {p} l = subst (λ (s : ℕ). Lawful (layout hash s w.settings.max) (contents_of p.stripes)) (sym l.of_table) l.lawful

    -- such a pass holds the keys from then on
    pub held_since : (p q z : PassState V) → q.view ≡ p.view → q.table ≡ p.table → q.stripes ≡ p.stripes → q ≡ z → HoldsKeys hash w stripes names p → HoldsKeys hash w stripes names z
    held_since p q z view table same there = subst (λ (x : PassState V). HoldsKeys hash w stripes names x) (sym (same_pass p q view table same) ∙ there)

    -- keys whose stripes were just taken are held
    pub holds_keys : (p p2 : PassState V) → IsCaller w p → IsPassOf w p2 → AreDistinct names → HoldsNames hash w.settings names stripes p p2 → HoldsKeys hash w stripes names p2
    holds_keys p p2 caller own different h =
        let lawful : Lawful (layout_of hash w.settings) (contents_of p2.stripes) = subst (Lawful (layout_of hash w.settings)) (sym h.unchanged) (lawful_reverse (layout_of hash w.settings) p2.view.held h.shows.lawful) in
        record {
          own = own;
          alone = h.stays.others ∙ caller.alone;
          number = (caller.number.0, h.stays.by ∙ caller.number.1, caller.number.2);
          different = different;
          owned = h.owned;
          of_table = h.of_table;
          numbered = h.numbered;
          settled = h.settled;
          same = ap numbers h.unchanged;
          lawful = lawful;
          level = λ t c held. one_of_lawful (layout_of hash w.settings) (contents_of p2.stripes) lawful t c (subst (λ (hs : Stripes V). Holds hs t c) (sym h.unchanged) held);
          others = λ q out. ap (λ (hs : Stripes V). get (bindings hs) q) h.unchanged;
        }

    -- and so their caller has locked them
    pub has_locked_keys : (P : ℕ → Type 0) (p p2 : PassState V) → IsCaller w p → AreDistinct names → HoldsNames hash w.settings names stripes p p2 → FindsAmong P p p2 → HasLockedKeys P names (caller_of w p) (keys_of w names p2)
    has_locked_keys P p p2 caller different h found = record {
      names = refl;
      different = different;
      same = record { table = refl; by = h.stays.by };
      stays = subst (λ (x : PassState V). Stays x.view (pass_of (caller_of w p2)).view) (sym (as_pass caller)) (record {
        settings = h.stays.settings;
        by = h.stays.by;
        mine = h.stays.mine;
        others = sym caller.alone;
        heard = h.stays.heard;
        no_slot = h.stays.no_slot;
        seen = h.stays.seen;
        by_others = h.stays.by_others;
        alone = h.stays.alone;
        watched = h.stays.watched;
        told = h.stays.told;
        doublings = h.stays.doublings;
        grown_from = h.stays.grown_from;
      });
      found = subst (λ (x : PassState V). FindsAmong P x (pass_of (caller_of w p2))) (sym (as_pass caller)) found;
      unchanged = ap bindings h.unchanged;
    }

    -- a key of them has its stripes among these
    pub owns_name : {p : PassState V} → HoldsKeys hash w stripes names p → {k : KeysState V} → keys_of w names p ≡ k → (q : Name) → IsIn q k.names → HasBoth hash stripes.s p.stripes q
    owns_name {p} l is q named = subst (λ (s : ℕ). HasBoth hash s p.stripes q) (sym l.of_table) (l.owned q (subst (λ (x : KeysState V). IsIn q x.names) (sym is) named))

    -- The stripes are held by the pass p, and are shown as k.
    module _ {p : PassState V} (l : HoldsKeys hash w stripes names p) {k : KeysState V} (is : keys_of w names p ≡ k) where
      lawful_shown : Lawful (layout_of hash k.session.caller.table.settings) (contents_of k.session.stripes)
      lawful_shown = subst (λ (x : KeysState V). Lawful (layout_of hash x.session.caller.table.settings) (contents_of x.session.stripes)) is l.lawful

      -- whether there is room for all of the names
      pub has_room : (result : Bool) → OnTrue result (HaveRoomForAll hash stripes.s p.stripes names)
          → OnFalse result ((max : ℕ) → Lawful (layout hash stripes.s max) (contents_of p.stripes) → ¬ (HasRoomForAll (layout hash stripes.s max) (contents_of p.stripes) names))
          → MatchBool result (HasRoomForNames hash k) (¬ (HasRoomForNames hash k))
      has_room true room lacks = subst (λ (x : KeysState V). HasRoomForNames hash x) is
          (subst (λ n. HasRoomForAll (layout hash n w.settings.max) (contents_of p.stripes) names) l.of_table (room w.settings.max (lawful_at l)))
      has_room false room lacks = subst (λ (x : KeysState V). ¬ (HasRoomForNames hash x)) is
          (subst (λ n. ¬ (HasRoomForAll (layout hash n w.settings.max) (contents_of p.stripes) names)) l.of_table (lacks w.settings.max (lawful_at l)))

      -- Another pass with the same fields holds them still, and shows them so.
      module _ (q : PassState V) (view : q.view ≡ p.view) (table : q.table ≡ p.table) (as_is : q.stripes ≡ p.stripes) where
        pub held_alike : HoldsKeys hash w stripes names q
        held_alike = subst (λ (x : PassState V). HoldsKeys hash w stripes names x) (sym (same_pass p q view table as_is)) l

        pub shows_alike : keys_of w names q ≡ k
        shows_alike = ap (λ (x : PassState V). keys_of w names x) (same_pass p q view table as_is) ∙ is

    -- The stripes are held by the pass p, and are shown as k. A call on one of the names was made on those of m, which is p still, and left q.
    module _ {p : PassState V} (l : HoldsKeys hash w stripes names p) {k : KeysState V} (is : keys_of w names p ≡ k) (name : Name) (named : IsIn name k.names) {s : ℕ} (at : s ≡ stripes.s)
        (m : PassState V) (view : m.view ≡ p.view) (table : m.table ≡ p.table) (as_is : m.stripes ≡ p.stripes) where
      section : (act : Act V) (reply : Reply V) (new : List (StripeState V)) → IsCallOn hash s m.stripes name act reply new → Section (layout_of hash w.settings) (contents_of p.stripes) (On name act) reply (contents_of new)
      section act reply new call =
          let of : s ≡ w.settings.s = at ∙ l.of_table in
          let done = subst (λ (ss : List (StripeState V)). IsCallOn hash s ss name act reply new) as_is call in
          subst (λ n. Section (layout hash n w.settings.max) (contents_of p.stripes) (On name act) reply (contents_of new)) of
          (done w.settings.max (subst (λ n. Lawful (layout hash n w.settings.max) (contents_of p.stripes)) (sym of) l.lawful))

      -- a look-up tells what the name is bound to
      pub value_found : (o : Option V) (new : List (StripeState V)) → IsCallOn hash s m.stripes name Find (Was o) new → value_of k name ≡ o
      value_found o new call =
          let before : Option V = get (bindings (contents_of p.stripes)) name in
          sym (ap (λ (x : KeysState V). value_of x name) is) ∙ sym (found_reply before o _ (section Find (Was o) new call).step.0)

      pub value_found_by : {R : Type 0} (Z : Type 0) (answers : V → R → Type 0) (new : List (StripeState V)) (r : Option R)
          → IfSome r (λ a. (v : V) × answers v a × IsCallOn hash s m.stripes name Find (Was (Some v)) new) → IfNone r (Z × IsCallOn hash s m.stripes name Find (Was None) new)
          → MatchOption r (value_of k name ≡ None) (λ a. (v : V) × (value_of k name ≡ Some v) × answers v a)
      value_found_by Z answers new (Some a) bound unbound = (bound.0, value_found (Some bound.0) new bound.2, bound.1)
      value_found_by Z answers new None bound unbound = value_found None new unbound.1

      -- or that it has no slot
      pub without_slot : IsWithoutRoom hash s m.stripes name → HasNoRoom (layout_of hash k.session.caller.table.settings) (contents_of k.session.stripes) name
      without_slot none =
          let of : s ≡ w.settings.s = at ∙ l.of_table in
          let here = subst (λ (ss : List (StripeState V)). IsWithoutRoom hash s ss name) as_is none in
          subst (λ (x : KeysState V). HasNoRoom (layout_of hash x.session.caller.table.settings) (contents_of x.session.stripes) name) is
          (subst (λ n. HasNoRoom (layout hash n w.settings.max) (contents_of p.stripes) name) of
          (here w.settings.max (subst (λ n. Lawful (layout hash n w.settings.max) (contents_of p.stripes)) (sym of) l.lawful)))

      -- where there is room for all names, it has one
      pub with_slot : HasRoomForNames hash k → ¬ (IsWithoutRoom hash s m.stripes name)
      with_slot room none = room_found (layout_of hash k.session.caller.table.settings) (contents_of k.session.stripes) k.names name (lawful_shown l is) room named (without_slot none)

      module _ (q : PassState V) (view_left : q.view ≡ m.view) (table_left : q.table ≡ m.table) where
        kept : q ≡ record p { stripes = q.stripes }
        kept = λ i. record { table = (table_left ∙ table) i; view = (view_left ∙ view) i; stripes = q.stripes }

        -- they are held still, where nothing changed
        pub held_as_is : q.stripes ≡ m.stripes → HoldsKeys hash w stripes names q
        held_as_is same = held_alike l is q (view_left ∙ view) (table_left ∙ table) (same ∙ as_is)

        -- and are shown as before
        pub shows_as_is : q.stripes ≡ m.stripes → keys_of w names q ≡ k
        shows_as_is same = shows_alike l is q (view_left ∙ view) (table_left ∙ table) (same ∙ as_is)

        -- and where a call was made, which is what was done to them
        pub acted : ChangesContents m.stripes q.stripes → (act : Act V) (reply : Reply V) → IsCallOn hash s m.stripes name act reply q.stripes → ActsOn name k (keys_of w names q) act reply × HoldsKeys hash w stripes names q
        acted changed act reply call =
            let changes : ChangesContents p.stripes q.stripes = subst (λ (ss : List (StripeState V)). ChangesContents ss q.stripes) as_is changed in
            let done = section act reply q.stripes call in
            let renewed = done.renewed in
            let among : IsIn name names = subst (λ (x : KeysState V). IsIn name x.names) (sym is) named in (
              record {
                session = same_session w p q kept k.session (ap (λ (x : KeysState V). x.session) is);
                step = subst (λ (x : KeysState V). Step (map_of x.session) (On name act) reply (bindings (contents_of q.stripes))) is done.step;
              },
              subst (λ (x : PassState V). HoldsKeys hash w stripes names x) (sym kept) (record {
                own = l.own;
                alone = l.alone;
                number = l.number;
                different = l.different;
                owned = λ r i max t of. subst (IsIn t) (sym renewed.same) (l.owned r i max t of);
                of_table = l.of_table;
                numbered = sym (numbers-contents q.stripes) ∙ (renewed.same ∙ (numbers-contents p.stripes ∙ l.numbered));
                settled = held_after w.settings.s p.stripes q.stripes l.settled changes;
                same = renewed.same ∙ l.same;
                lawful = renewed.lawful;
                level = λ t c h. l.level t c h ∙ sym (power_kept p.stripes q.stripes changes);
                others = λ r out. done.step.1 r (λ e. out (subst (λ (z : Name). IsIn z names) (sym e) among)) ∙ l.others r out;
              }),
            )

        -- Where the call left the other entries where they are, there is room for all names where there was.
        pub acted_keeping : ChangesContents m.stripes q.stripes → KeepsOthers name m.stripes q.stripes → (act : Act V) (reply : Reply V) → IsCallOn hash s m.stripes name act reply q.stripes
            → ActsOn name k (keys_of w names q) act reply × HoldsWithRoom hash w stripes names k q
        acted_keeping changed keeps act reply call =
            let told = acted changed act reply call in
            let among : IsIn name names = subst (λ (x : KeysState V). IsIn name x.names) (sym is) named in (
              told.0,
              record {
                keys = told.1;
                room = subst (λ (x : KeysState V). KeepsRoom hash x (keys_of w names q)) is
                    (room_kept hash w.settings.s w.settings.max p.stripes q.stripes name names l.settled (subst (λ (ss : List (StripeState V)). ChangesContents ss q.stripes) as_is changed)
                    l.lawful told.1.lawful (subst (λ (ss : List (StripeState V)). KeepsOthers name ss q.stripes) as_is keeps) among l.different);
              },
            )

    -- what was done to them is a session on their names
    pub keys_done : (p : PassState V) → HoldsKeys hash w stripes names p → HasDone hash w.settings (session_on names p) Closed p
    keys_done p l lawful = record {
      renewed = record { same = l.same; lawful = l.lawful; power = inl (λ t u c d h g. one_of_lawful (layout_of hash w.settings) (contents_of p.stripes) l.lawful u d g ∙ sym (l.level t c h)) };
      owns = λ q i t of. subst (IsIn t) l.same (l.owned q i w.settings.max t of);
      step = (refl, l.different, refl, refl, λ q out. l.others q out);
    }

    -- and has doubled nothing
    pub none_doubled : (p z : PassState V) → HoldsKeys hash w stripes names p → IsDoubledBy p z → DoublesNothing p z
    none_doubled p z l doubled =
        let power : ℕ = power_of (contents_of p.stripes) in
        let e = doubled.counted power power (λ t c h. l.level t c (held_reverse p.view.held t c h)) (λ t c h. one_of_lawful (layout_of hash w.settings) (contents_of p.stripes) l.lawful t c h) in
        let count = e.0 in
        (omega arith, e.1 ∙ growing_none p.view.grown_from (reverse p.view.held) (power - power) (omega arith))

    -- they went home, and their caller has no stripe
    pub ends_keys : (p z : PassState V) → HoldsKeys hash w stripes names p → HasCommitted hash w (session_on names p) p z → IsCaller w z
    ends_keys p z l c = record {
      own = c.own;
      idle = c.idle;
      alone = c.others ∙ l.alone;
      number = (l.number.0, c.by ∙ l.number.1, l.number.2);
    }

    -- and the session was answered
    pub answered_keys : (p z : PassState V) (l : HoldsKeys hash w stripes names p) → HasCommitted hash w (session_on names p) p z → IsAnswered (session_on names p) Closed p z
    answered_keys p z l c = answered_level p z (none_doubled p z l c.doubled) (c.answered Closed (keys_done p l))

    -- since its stripes were taken, where nothing but what they contain may have changed between
    pub queried_keys : (p p2 p3 z : PassState V) (l : HoldsKeys hash w stripes names p3) → HoldsNames hash w.settings names stripes p p2 → IsSameButStripes p2 p3 → HasCommitted hash w (session_on names p3) p3 z
        → IsAnswered (SessionOn names (bound_to names p2) (bound_to names p3)) Closed p z
    queried_keys p p2 p3 z l h same c =
        let view : p3.view ≡ p2.view = ap (λ (x : PassState V). x.view) same in
        let there : IsAnswered (session_on names p3) Closed (as_doubled p3 z) z = c.answered Closed (keys_done p3 l) in
        let since : IsAnswered (session_on names p3) Closed (as_doubled p z) z = answered_since [] p p2 p3 z h.stays view (session_on names p3) Closed there in
        let level : IsAnswered (session_on names p3) Closed p z = answered_level p z (let made = none_doubled p3 z l c.doubled in (made.0 ∙ (ap (λ (v : View V). v.doublings) view ∙ h.stays.doublings), made.1 ∙ (ap (λ (v : View V). v.grown_from) view ∙ h.stays.grown_from))) since in
        let before : bound_in (bindings (reverse p3.view.held)) names ≡ bound_to names p2 = ap (λ (v : View V). bound_in (bindings (reverse v.held)) names) view ∙ ap (λ (hs : Stripes V). bound_in (bindings hs) names) (sym h.unchanged) in
        subst (λ (x : List (Option V)). IsAnswered (SessionOn names x (bound_to names p3)) Closed p z) before level

    -- so the call was answered, with what is so of what their names were bound to and are bound to
    pub has_queried : {A : Type 0} {P : A → List (Option V) → List (Option V) → Type 0} (p p2 p3 z : PassState V) (l : HoldsKeys hash w stripes names p3) → HoldsNames hash w.settings names stripes p p2 → IsSameButStripes p2 p3
        → FindsAmong (IsStripeOfAny hash w.settings names) p p2 → HasCommitted hash w (session_on names p3) p3 z → (a : A) → P a (bound_to names p2) (bound_to names p3) → HasQueriedAll P hash w.settings names (Ok a) p z
    has_queried p p2 p3 z l h same found c a says = record {
      answered = (bound_to names p2, bound_to names p3, says, queried_keys p p2 p3 z l h same c);
      refused = tt;
      found = (found.0, c.found ∙ (ap (λ (x : PassState V). found_held x.view) same ∙ found.1), found.2);
    }

    -- The session on the names was committed, where v is the table: the pass that held the keys was p3 before, and z behind it.
    module _ {v : WordsState} (is : v ≡ w) {p3 : PassState V} (l : HoldsKeys hash w stripes names p3) where
      pub session_done : HasDone hash v.settings (session_on names p3) Closed p3
      session_done = subst (λ (x : WordsState). HasDone hash x.settings (session_on names p3) Closed p3) (sym is) (keys_done p3 l)

      module _ {z : PassState V} (c : HasCommitted hash v (session_on names p3) p3 z) where
        committed : HasCommitted hash w (session_on names p3) p3 z
        committed = subst (λ (x : WordsState). HasCommitted hash x (session_on names p3) p3 z) is c

        pub session_ends : IsCaller w z
        session_ends = ends_keys p3 z l committed

        pub session_answered : {A : Type 0} {P : A → List (Option V) → List (Option V) → Type 0} (p p2 : PassState V) → HoldsNames hash w.settings names stripes p p2 → IsSameButStripes p2 p3 → FindsAmong (IsStripeOfAny hash w.settings names) p p2
            → (a : A) → P a (bound_to names p2) (bound_to names p3) → HasQueriedAll P hash w.settings names (Ok a) p z
        session_answered p p2 h same found a says = has_queried p p2 p3 z l h same found committed a says
