-- What a call leaves of its pass, from what its parts leave.
use Rattle.std.proofs.Common.{◌≡◌, Bool, true, false, MatchBool, MatchOption, MatchResult, if◌then◌else◌, ℕ, Option, None, IfSome, IfNone, Result, Ok, Err, IfOk, IfErr, List, [], ◌∷◌, ◌++◌, reverse, append_assoc, append-nil, sym, refl, ap, ◌∙◌, subst, arith, Some}
use Rattle.std.specs.Result.{result_ok}
use Rattle.ck_model.specs.declared.history.Act.{Act}
use Rattle.ck_model.specs.declared.history.Act.TheVariants.{Find, Change, Erase}
use Rattle.ck_model.specs.declared.history.Call.{Call}
use Rattle.ck_model.specs.declared.history.Call.TheVariants.{On}
use Rattle.ck_model.specs.declared.history.Entry.{Entry}
use Rattle.ck_model.specs.declared.history.Reply.{Reply}
use Rattle.ck_model.specs.declared.history.Reply.TheVariants.{Was, Done}
use Rattle.ck_model.specs.declared.settings.Settings.{Settings}
use Rattle.ck_model.specs.Promise.{Name, Client, StartsWith, Replied}
use Rattle.ck_model.specs.Contents.{layout, layout_of, Lawful}
use Rattle.ck_model.specs.Sections.{Owns, Section}
use Rattle.ck_model.proofs.Histories.{subhistory-append}
use Rattle.ck_stripe.specs.Stripe.{StripeState}
use Rattle.ck_section.specs.declared.place.KeyPlace.{KeyPlace}
use Rattle.ck_section.specs.Acts.{ErasesBy, ReplacesIf}
use Rattle.ck_stripe.specs.Stripes.{contents_of}
use Rattle.ck_section.specs.Places.{HasBoth, IsPlaceOf}
use Rattle.ck_section.specs.Calls.{ChangesContents}
use Rattle.ck_core.specs.declared.view.RoomNote.{RoomNote}
use Rattle.ck_core.specs.declared.view.View.{View}
use Rattle.ck_core.specs.State.{client_of}
use Rattle.ck_words.specs.Words.{WordsState}
use Rattle.ck_words.specs.Passes.{PassState, IsUnchanged}
use Rattle.ck_words.specs.Retries.{WatchesMore, Stays, StaysBut, as_doubled}
use Rattle.ck_words.proofs.Staying.{watches_on, decides_since}
use Rattle.ck_words.specs.Holding.{IsDoubledBy}
use Rattle.ck_words.specs.Answering.{HasDone, IsAnswered, IsAnsweredBut}
use Rattle.ck_words.specs.Renewing.{HasRenewed}
use Rattle.ck_words.proofs.Renewals.{renewed_none, done_then}
use Rattle.cuckoo_map.specs.declared.room.Room.{Room}
use Rattle.cuckoo_map.specs.Holding.{HoldsKeyBut, HoldsKey}
use Rattle.cuckoo_map.specs.Insertions.{HasRoom}
use Rattle.cuckoo_map.specs.Needed.{DoublesNothing, HaveOnePower}
use Rattle.cuckoo_map.proofs.Counted.{counted_alike, none_made}

joined_on : {A : Type 0} (a b c d x : List A) → x ≡ a ++ b → x ++ c ++ d ≡ a ++ (b ++ c) ++ d
joined_on a b c d x e = ap (λ l. l ++ d) (ap (λ l. l ++ c) e ∙ append_assoc a b c)

pub ap2 : {A B C : Type 0} {a a2 : A} {b b2 : B} (f : A → B → C) → a ≡ a2 → b ≡ b2 → f a b ≡ f a2 b2
ap2 f e h = λ j. f (e j) (h j)

module _ {V : Type 0} where
  -- Whatever the greatest power is, lawful stripes go from old to new by this call, with this reply.
  abbrev pub IsStep : (Name → ℕ) → ℕ → List (StripeState V) → List (StripeState V) → Call V → Reply V → Type 0
  IsStep hash s old new call reply = (max : ℕ) → Lawful (layout hash s max) (contents_of old) → Section (layout hash s max) (contents_of old) call reply (contents_of new)

  -- what a caller has seen begins with what it had seen
  pub replied_seen : {call : Call V} {reply : Reply V} {c d : Client V} → Replied call reply c d → StartsWith d.seen c.seen
  replied_seen {call} {reply} {c} a = let e : Entry V = record { by = a.by; call = call; reply = reply } in (a.answered.others ++ e ∷ [], a.answered.seen ∙ append_assoc c.seen a.answered.others (e ∷ []))

  -- to what a caller had seen came entries of others, and then the call was answered
  pub replied_since : {more : List (RoomNote V)} {v w : View V} → StaysBut more v w → (call : Call V) (reply : Reply V) (d : Client V) → Replied call reply (client_of w) d → Replied call reply (client_of v) d
  replied_since {more} {v} {w} s call reply d a =
      let e : Entry V = record { by = a.by; call = call; reply = reply } in
      let by : v.by ≡ Some a.by = sym s.by ∙ a.number in
      record {
        by = a.by;
        number = by;
        answered = record {
          others = s.seen.0 ++ a.answered.others;
          seen = a.answered.seen ∙ joined_on v.seen s.seen.0 a.answered.others (e ∷ []) w.seen s.seen.1;
          by_others = subhistory-append a.by s.seen.0 a.answered.others ∙ λ j. s.by_others a.by by j ++ a.answered.by_others j;
          legal = a.answered.legal;
          mine = a.answered.mine ∙ ap (λ l. l ++ e ∷ []) s.mine;
        };
        alone = λ one. a.alone (ap (λ (x : Settings). x.callers) s.settings ∙ one) ∙ ap (λ l. l ++ e ∷ []) (s.alone one);
      }

  -- the call was answered after the stripes were taken
  pub answered_since : (more : List (RoomNote V)) (p p1 p2 z : PassState V) → StaysBut more p.view p1.view → p2.view ≡ p1.view → (call : Call V) (reply : Reply V) → IsAnswered call reply (as_doubled p2 z) z → IsAnsweredBut more call reply (as_doubled p z) z
  answered_since more p p1 p2 z s same call reply a =
      let later : View V → View V = λ v. record v { seen = z.view.seen; mine = z.view.mine; watched = z.view.watched; steps = z.view.steps; doublings = z.view.doublings; grown_from = z.view.grown_from } in
      let rest : StaysBut [] (later p1.view) z.view = subst (λ (v : View V). StaysBut [] (later v) z.view) same a.stays in
      record {
        replied = replied_since s call reply (client_of z.view) (subst (λ (v : View V). Replied call reply (client_of v) (client_of z.view)) same a.replied);
        watched = watches_on p.view p2.view z.view (ap (λ (v : View V). v.by) same ∙ s.by) (subst (λ (v : View V). WatchesMore p.view v) (sym same) s.watched) a.watched;
        decided = decides_since p.view p2.view z.view (ap (λ (v : View V). v.by) same ∙ s.by) (subst (λ (v : View V). WatchesMore p.view v) (sym same) s.watched) a.decided;
        stays = record {
          settings = rest.settings ∙ s.settings;
          by = rest.by ∙ s.by;
          mine = refl;
          others = rest.others ∙ s.others;
          heard = (rest.heard.0 ∙ s.heard.0, rest.heard.1 ∙ s.heard.1, rest.heard.2 ∙ s.heard.2);
          no_slot = rest.no_slot ∙ s.no_slot;
          seen = ([], sym (append-nil z.view.seen));
          by_others = λ n e. refl;
          alone = λ _. refl;
          watched = ([], sym (append-nil z.view.watched), λ n e. (sym (append-nil z.view.steps), sym (append-nil z.view.mine)));
          told = (let a = s.told in let b = rest.told in omega arith);
          doublings = refl;
          grown_from = refl;
        };
      }

  -- and made no doubling
  pub answered_level : {more : List (RoomNote V)} {call : Call V} {reply : Reply V} (p z : PassState V) → DoublesNothing p z → IsAnsweredBut more call reply (as_doubled p z) z → IsAnsweredBut more call reply p z
  answered_level {more} {call} {reply} p z same a = counted_alike (λ x. IsAnsweredBut more call reply x z) p z same a

-- how many stripes there are, where w and v are one table
pub s_of : {w v : WordsState} {settings : Settings} → v ≡ w → settings ≡ v.settings → settings.s ≡ w.settings.s
s_of is same = ap (λ (x : Settings). x.s) same ∙ ap (λ (x : WordsState). x.settings.s) is

-- the stripes were held as p1, and are the same where their pass is p2
pub holds_then : {V : Type 0} {hash : Name → ℕ} {set : Settings} {q : Name} {place : KeyPlace} (p p1 : PassState V) → Stays p.view p1.view → HasBoth hash set.s p1.stripes q → IsUnchanged p1 → HaveOnePower p1.stripes → IsPlaceOf hash p1.stripes q place → place.s ≡ set.s
    → (p2 : PassState V) → p2.stripes ≡ p1.stripes → p2.view ≡ p1.view → HoldsKey hash set q place p p2
holds_then {V} {hash} {set} {q} {place} p p1 stays both unchanged one at s p2 stripes view = record {
  stays = subst (Stays p.view) (sym view) stays;
  both = subst (λ (ss : List (StripeState V)). Owns (layout_of hash set) (contents_of ss) q) (sym stripes) (both set.max);
  at = subst (λ ss. IsPlaceOf hash ss q place) (sym stripes) at;
  s = s;
  unchanged = ap contents_of stripes ∙ (unchanged ∙ ap (λ (x : View V). reverse x.held) (sym view));
  one_power = subst (λ (ss : List (StripeState V)). HaveOnePower ss) (sym stripes) one;
}

-- The pass held stripes as p1, which were renewed since they were taken, and was p2 after the call. w and v are one table.
module _ {V : Type 0} {hash : Name → ℕ} {w v : WordsState} {s : ℕ} {more : List (RoomNote V)} (p p1 : PassState V)
    (is : v ≡ w) (stays : StaysBut more p.view p1.view) (of_table : s ≡ w.settings.s) (renewed : HasRenewed hash w.settings p1) (p2 : PassState V) (same : p2.view ≡ p1.view) {call call1 : Call V} (named : call1 ≡ call) where
  does_since : (reply : Reply V) → IsStep hash s p1.stripes p2.stripes call reply → HasDone hash v.settings call1 reply p2
  does_since reply step =
      let here = subst (λ n. Lawful (layout hash n w.settings.max) (contents_of p1.stripes) → Section (layout hash n w.settings.max) (contents_of p1.stripes) call reply (contents_of p2.stripes)) of_table (step w.settings.max) in
      let done : HasDone hash w.settings call reply p2 = done_then hash w.settings p1 p2 (ap (λ (x : View V). x.held) same) renewed call reply here in
      subst (λ (x : WordsState × Call V). HasDone hash x.0.settings x.1 reply p2) (λ i. (sym is i, sym named i)) done

  says_since : {z : PassState V} → ((r : Reply V) → HasDone hash v.settings call1 r p2 → IsAnswered call1 r (as_doubled p2 z) z) → (reply : Reply V) → IsStep hash s p1.stripes p2.stripes call reply → IsAnsweredBut more call reply (as_doubled p z) z
  says_since {z} told reply step = answered_since more p p1 p2 z stays same call reply (subst (λ (x : Call V). IsAnswered x reply (as_doubled p2 z) z) named (told reply (does_since reply step)))

-- The pass held the stripes of a name.
module _ {V : Type 0} {hash : Name → ℕ} {w v : WordsState} {q : Name} {place : KeyPlace} {more : List (RoomNote V)} {p p1 : PassState V}
    (is : v ≡ w) (held : HoldsKeyBut more hash w.settings q place p p1) (p2 : PassState V) (same : p2.view ≡ p1.view) {call call1 : Call V} (named : call1 ≡ call) where
  renewed : HasRenewed hash w.settings p1
  renewed = renewed_none hash w.settings p1 held.unchanged

  -- what the call did to the stripes is what their pass has done
  pub does : (reply : Reply V) → IsStep hash place.s p1.stripes p2.stripes call reply → HasDone hash v.settings call1 reply p2
  does = does_since p p1 is held.stays held.s renewed p2 same named

  -- and is what the pass was answered by its commit, with no doubling where contents alone changed
  pub says : {z : PassState V} → ChangesContents p1.stripes p2.stripes → IsDoubledBy p2 z → ((r : Reply V) → HasDone hash v.settings call1 r p2 → IsAnswered call1 r (as_doubled p2 z) z) → (reply : Reply V) → IsStep hash place.s p1.stripes p2.stripes call reply
      → IsAnsweredBut more call reply p z
  says {z} rest doubled told reply step =
      let made : DoublesNothing p2 z = none_made p1 p2 z same rest doubled held.unchanged held.one_power in
      answered_level p z (made.0 ∙ (ap (λ (x : View V). x.doublings) same ∙ held.stays.doublings), made.1 ∙ (ap (λ (x : View V). x.grown_from) same ∙ held.stays.grown_from)) (says_since p p1 is held.stays held.s renewed p2 same named told reply step)

-- The pass held stripes with room for a name. w and v are one table.
module _ {V : Type 0} {hash : Name → ℕ} {w v : WordsState} {q : Name} {room : Room} {p p1 : PassState V} (is : v ≡ w) (has : HasRoom hash w.settings q room p p1)
    (p2 : PassState V) (same : p2.view ≡ p1.view) {call call1 : Call V} (named : call1 ≡ call) where
  pub does_there : (reply : Reply V) → IsStep hash room.spot.place.s p1.stripes p2.stripes call reply → HasDone hash v.settings call1 reply p2
  does_there = does_since p p1 is has.stays has.held.s has.held.renewed p2 same named

  pub says_there : {z : PassState V} → ((r : Reply V) → HasDone hash v.settings call1 r p2 → IsAnswered call1 r (as_doubled p2 z) z) → (reply : Reply V) → IsStep hash room.spot.place.s p1.stripes p2.stripes call reply → IsAnsweredBut has.more call reply (as_doubled p z) z
  says_there = says_since p p1 is has.stays has.held.s has.held.renewed p2 same named

-- what is said of a value, and of none
pub by_option : {A : Type 0} (o : Option A) (P : A → Type 0) (Q C : Type 0) → IfSome o P → IfNone o Q → ((a : A) → P a → C) → (Q → C) → C
by_option None P Q C p q f g = g q
by_option (Some a) P Q C p q f g = f a p

pub map_option : {A : Type 0} (o : Option A) (P R : A → Type 0) (Q S : Type 0) → IfSome o P → IfNone o Q → ((a : A) → P a → R a) → (Q → S) → MatchOption o S R
map_option None P R Q S p q f g = g q
map_option (Some a) P R Q S p q f g = f a p

-- what is said of a value, and of an error
pub by_result : {A E : Type 0} (r : Result A E) (P : A → Type 0) (Q : E → Type 0) (C : Type 0) → IfOk r P → IfErr r Q → ((a : A) → P a → C) → ((e : E) → Q e → C) → C
by_result (Ok a) P Q C p q f g = f a p
by_result (Err e) P Q C p q f g = g e q

-- what is said of a success, and of a failure
pub by_bool : (b : Bool) (P Q C : Type 0) → MatchBool b P Q → (P → C) → (Q → C) → C
by_bool true P Q C h f g = f h
by_bool false P Q C h f g = g h

pub map_bool : (b : Bool) (P Q R S : Type 0) → MatchBool b P Q → (P → R) → (Q → S) → MatchBool b R S
map_bool true P Q R S h f g = f h
map_bool false P Q R S h f g = g h

-- a closure chose between an act and a find: C holds of the act where it answered true, and else of the find
abbrev pub Chose : {V F : Type 0} → Act V → (Act V → Type 0) → Result Bool F → Type 0
Chose act C (Ok so) = C (if so then act else Find)
Chose act C (Err back) = C Find

-- which act the call on a name has that was chosen
pub chose : {V F : Type 0} (q : Name) (act : Act V) (made call : Call V) → made ≡ On q act → (o : Result Bool F)
    → MatchResult o (λ so. call ≡ (if so then made else On q Find)) (λ _. call ≡ On q Find) → Chose act (λ a. call ≡ On q a) o
chose q act made call named (Ok true) is = is ∙ named
chose q act made call named (Ok false) is = is
chose q act made call named (Err back) is = is

-- D is what an act with a reply has done, and C holds of the act that was chosen. X holds of a closure that was not called.
module _ {V F : Type 0} (D : Act V → Reply V → Type 0) (C : Act V → Type 0) (X : F → Type 0) where
  -- by `erase_fn`, whose closure answers R for a value
  module _ (R : V → Bool → Type 0) (Y : Type 0) where
    pub erased : (o : Result Bool F) → Chose Erase C o → IfOk o (λ gone. (v : V) × R v gone × D (if gone then Erase else Find) (Was (Some v))) → IfErr o (λ back. X back × D Find (Was None) × Y)
        → (act : Act V) × (r : Reply V) × C act × D act r
    erased (Ok gone) c b u = (if gone then Erase else Find, Was (Some b.0), c, b.2)
    erased (Err back) c b u = (Find, Was None, c, u.1)

    pub erasing : (A : Act V → Reply V → Type 0) → ((act : Act V) → C act → (r : Reply V) → D act r → A act r) → (o : Result Bool F) → Chose Erase C o
        → IfOk o (λ gone. (v : V) × R v gone × D (if gone then Erase else Find) (Was (Some v))) → IfErr o (λ back. X back × D Find (Was None) × Y) → IfErr o X × ErasesBy R A (result_ok o)
    erasing A told (Ok true) c b u = (tt, (b.0, b.1, told Erase c (Was (Some b.0)) b.2))
    erasing A told (Ok false) c b u = (tt, (b.0, b.1, told Find c (Was (Some b.0)) b.2))
    erasing A told (Err back) c b u = (u.0, told Find c (Was None) u.1)

  -- by `replace_if`, whose closure makes R of a value
  module _ (R : V → Option V → Type 0) where
    pub replaced : (o : Result Bool F) → Chose Change C o
        → IfOk o (λ b. (v : V) × MatchBool b ((w : V) × R v (Some w) × D Change (Done v w)) (R v None × D Find (Was (Some v)))) → IfErr o (λ back. X back × D Find (Was None))
        → (act : Act V) × (r : Reply V) × C act × D act r
    replaced (Ok true) c b u = (Change, Done b.0 b.1.0, c, b.1.2)
    replaced (Ok false) c b u = (Find, Was (Some b.0), c, b.1.1)
    replaced (Err back) c b u = (Find, Was None, c, u.1)

    pub replacing : (A : Act V → Reply V → Type 0) → ((act : Act V) → C act → (r : Reply V) → D act r → A act r) → (o : Result Bool F) → Chose Change C o
        → IfOk o (λ b. (v : V) × MatchBool b ((w : V) × R v (Some w) × D Change (Done v w)) (R v None × D Find (Was (Some v)))) → IfErr o (λ back. X back × D Find (Was None))
        → IfErr o X × ReplacesIf R A (result_ok o)
    replacing A told (Ok true) c b u = (tt, (b.0, (b.1.0, b.1.1, told Change c (Done b.0 b.1.0) b.1.2)))
    replacing A told (Ok false) c b u = (tt, (b.0, (b.1.0, told Find c (Was (Some b.0)) b.1.1)))
    replacing A told (Err back) c b u = (u.0, told Find c (Was None) u.1)

-- what is said of an answer, and of none
pub map_answer : {A E : Type 0} (o : Result A E) (P R : A → Type 0) (Q : E → Type 0) (S : Type 0) → IfOk o P → IfErr o Q → ((a : A) → P a → R a) → ((e : E) → Q e → S) → MatchOption (result_ok o) S R
map_answer (Ok a) P R Q S p q f g = f a p
map_answer (Err e) P R Q S p q f g = g e q
