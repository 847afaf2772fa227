-- The reply of a call is what the bindings before and after it tell.
use Rattle.std.proofs.Common.{◌≡◌, ◌⊎◌, ℕ, [], ◌∷◌, ◌++◌, inl, inr, append-nil, append_assoc, reverse, sym, refl, ap, ◌∙◌, subst, ⊎_elim, arith, Option, Some, None}
use Rattle.std.specs.Option.{unwrap_or}
use Rattle.std.specs.FinMap.{get, len}
use Rattle.ck_model.specs.declared.history.Act.{Act}
use Rattle.ck_model.specs.declared.history.Act.TheVariants.{Find, Insert, Assign, Update, Change, Upsert, Erase}
use Rattle.ck_model.specs.declared.history.Call.{Call}
use Rattle.ck_model.specs.declared.history.Call.TheVariants.{On, ChangeTwo, Len, SessionOn, Session}
use Rattle.ck_model.specs.declared.history.Reply.{Reply}
use Rattle.ck_model.specs.declared.history.Reply.TheVariants.{Was, New, Old, Done, DoneTwo, Absent, Count, Closed}
use Rattle.ck_model.specs.declared.history.Entry.{Entry}
use Rattle.ck_model.specs.declared.settings.Settings.{Settings}
use Rattle.ck_model.specs.Promise.{Name, Map, Answers, AnswersTwo, Step, IsLegal, Answered, Follows}
use Rattle.ck_model.specs.Contents.{layout_of, Stripes, Lawful, bindings}
use Rattle.ck_model.specs.Sections.{HasAll}
use Rattle.ck_stripe.specs.Stripes.{contents_of}
use Rattle.ck_core.specs.declared.view.View.{View}
use Rattle.ck_core.specs.declared.trace.LockStep.TheVariants.{Decided}
use Rattle.ck_core.specs.Steps.{deciding, event}
use Rattle.ck_core.specs.Steps.Label.{Decide}
use Rattle.ck_core.specs.State.{client_of, found_held}
use Rattle.ck_core.proofs.Shown.{answered}
use Rattle.ck_model.specs.declared.commit.Commit.{Commit}
use Rattle.ck_model.specs.Commits.{call_of}
use Rattle.ck_words.specs.Steps.{Steps}
use Rattle.ck_words.proofs.Staying.{read_there, watches_on}
use Rattle.ck_words.specs.Words.{WordsState}
use Rattle.ck_words.specs.Passes.{PassState, IsPassOf, Sends}
use Rattle.ck_words.specs.Retries.{WatchesMore, GivesAlone, Stays, as_doubled}
use Rattle.ck_words.specs.Answering.{HasDone, IsAnswered, HasCommitted}
use Rattle.ck_words.specs.Holding.{HasReleased}
use Rattle.ck_words.proofs.Reversed.{lawful_reverse}
use Rattle.ck_words.proofs.Telling.{doubled_decided}
use Rattle.ck_words.proofs.Rows.{found_by, gave_by, watched_step, shows_before, shows_after, decide_row}

module _ {V : Type 0} where
  -- from what the name was bound to before, and after
  abbrev pub reply_of : Act V → Option V → Option V → Reply V
  reply_of Find o p = Was o
  reply_of (Insert u) (Some v) p = Old
  reply_of (Insert u) None p = New
  reply_of (Assign u) o p = Was o
  reply_of (Update u) o p = Was o
  reply_of Change (Some v) (Some w) = Done v w
  reply_of Change (Some v) None = Absent
  reply_of Change None p = Absent
  reply_of (Upsert u) (Some v) (Some w) = Done v w
  reply_of (Upsert u) (Some v) None = New
  reply_of (Upsert u) None p = New
  reply_of Erase o p = Was o

  reply_is : (a : Act V) (o : Option V) (r : Reply V) (p : Option V) → Answers a o r p → r ≡ reply_of a o p
  reply_is Find (Some v) r p x = x.0
  reply_is Find None r p x = x.0
  reply_is (Insert u) (Some v) r p x = x.0
  reply_is (Insert u) None r p x = x.0
  reply_is (Assign u) (Some v) r p x = x.0
  reply_is (Assign u) None r p x = x.0
  reply_is (Update u) (Some v) r p x = x.0
  reply_is (Update u) None r p x = x.0
  reply_is Change (Some v) r p x = x.1 ∙ ap (reply_of Change (Some v)) (sym x.2)
  reply_is Change None r p x = x.0
  reply_is (Upsert u) (Some v) r p x = x.1 ∙ ap (reply_of (Upsert u) (Some v)) (sym x.2)
  reply_is (Upsert u) None r p x = x.0
  reply_is Erase (Some v) r p x = x.0
  reply_is Erase None r p x = x.0

  abbrev pub reply_of_two : Option V → Option V → Option V → Option V → Reply V
  reply_of_two (Some v) (Some w) (Some v2) (Some w2) = DoneTwo v w v2 w2
  reply_of_two (Some v) (Some w) (Some v2) None = Absent
  reply_of_two (Some v) (Some w) None p = Absent
  reply_of_two (Some v) None o p = Absent
  reply_of_two None b o p = Absent

  two_is : (a b : Option V) (r : Reply V) (o p : Option V) → AnswersTwo a b r o p → r ≡ reply_of_two a b o p
  two_is (Some v) (Some w) r o p x = x.2 ∙ λ j. reply_of_two (Some v) (Some w) (sym x.3 j) (sym x.4 j)
  two_is (Some v) None r o p x = x.0
  two_is None b r o p x = x.0

  -- from the map before, and after
  abbrev pub reply_to : Call V → Map V → Map V → Reply V
  reply_to (On q a) m m2 = reply_of a (get m q) (get m2 q)
  reply_to (ChangeTwo j k) m m2 = reply_of_two (get m j) (get m k) (get m2 j) (get m2 k)
  reply_to Len m m2 = Count (len m)
  reply_to (SessionOn qs a b) m m2 = Closed
  reply_to (Session a b) m m2 = Closed

  reply_told : (m : Map V) (c : Call V) (r : Reply V) (m2 : Map V) → Step m c r m2 → r ≡ reply_to c m m2
  reply_told m (On q a) r m2 s = reply_is a (get m q) r (get m2 q) s.0
  reply_told m (ChangeTwo j k) r m2 s = two_is (get m j) (get m k) r (get m2 j) (get m2 k) s.1
  reply_told m Len r m2 s = s.0
  reply_told m (SessionOn qs a b) r m2 s = s.0
  reply_told m (Session a b) r m2 s = s.0

  -- the entry of a call that the stripes of a pass did
  abbrev pub entry_for : Call V → PassState V → Entry V
  entry_for call p = record { by = unwrap_or p.view.by 0; call = call; reply = reply_to call (bindings (reverse p.view.held)) (bindings (contents_of p.stripes)) }

  module _ (hash : Name → ℕ) (w : WordsState) (call : Call V) (p : PassState V) where
    abbrev set : Settings
    set = w.settings

    reply_done : (r : Reply V) → HasDone hash set call r p → Lawful (layout_of hash set) (reverse p.view.held) → r ≡ (entry_for call p).reply
    reply_done r done l = reply_told (bindings (reverse p.view.held)) call r (bindings (contents_of p.stripes)) (done l).step

    pub its_caller : (m : ℕ) → p.view.by ≡ Some m → p.view.by ≡ Some (entry_for call p).by
    its_caller m e = e ∙ ap Some (sym (ap (λ (o : Option ℕ). unwrap_or o 0) e))

    -- an only caller has seen all before, and so has one that held all stripes
    follows : (m : ℕ) → p.view.by ≡ Some m → (t : ℕ) (ks : Stripes V) (q1 q : PassState V) → Steps hash set (Decide t ks (entry_for call p)) p.view q1.view → q.view.seen ≡ q1.view.seen → (r : Reply V) → HasDone hash set call r p
        → (set.callers ≡ 1) ⊎ HasAll (layout_of hash set) p.view.held → Follows (client_of p.view) (record { by = m; call = call; reply = r }) (client_of q.view)
    follows m by t ks q1 q d seen r done which =
        let e : Entry V = entry_for call p in
        let before = shows_before hash set (Decide t ks e) p.view q1.view d in
        let l = lawful_reverse (layout_of hash set) p.view.held before.lawful in
        let all : p.view.seen ≡ d.log = ⊎_elim (λ one. before.alone m by one) (λ held. before.all_seen held) which in
        let number : e.by ≡ m = ap (λ (o : Option ℕ). unwrap_or o 0) by in
        let same : e ≡ record { by = m; call = call; reply = r } = (λ j. record { by = number j; call = call; reply = sym (reply_done r done l) j }) in
        seen ∙ (ap (λ (v : View V). v.seen) (decide_row hash set p.view q1.view t ks e d) ∙ λ j. sym all j ++ same j ∷ [])

    -- it was decided, and nothing else happened since
    pub is_answered : (m : ℕ) → p.view.by ≡ Some m → p.view.settings ≡ set → (t : ℕ) (ks : Stripes V) (q1 q : PassState V) → Steps hash set (Decide t ks (entry_for call p)) p.view q1.view → Stays q1.view q.view → q.view.seen ≡ q1.view.seen → GivesAlone q1.view q.view
        → (r : Reply V) → HasDone hash set call r p → IsAnswered call r (as_doubled p q) q
    is_answered m by of_table t ks q1 q d s seen given r done =
        let row : q1.view ≡ gave_by (Decided (entry_for call p) ks) d.before t (deciding p.view t ks d.log (entry_for call p)) = decide_row hash set p.view q1.view t ks (entry_for call p) d in
        let before = shows_before hash set (Decide t ks (entry_for call p)) p.view q1.view d in
        let after = shows_after hash set (Decide t ks (entry_for call p)) p.view q1.view d in
        let l = lawful_reverse (layout_of hash set) p.view.held before.lawful in
        let e : Entry V = entry_for call p in
        let number : e.by ≡ m = ap (λ (o : Option ℕ). unwrap_or o 0) by in
        let own : Entry V = record { by = m; call = call; reply = r } in
        let same : e ≡ own = (λ j. record { by = number j; call = call; reply = sym (reply_done r done l) j }) in
        let told : Answered (client_of p.view) e (client_of q1.view) = answered (layout_of hash set) set.callers d.log p.view q1.view e (its_caller m by) before after (ap (λ (v : View V). v.seen) row) (ap (λ (v : View V). v.mine) row) in
        record {
          replied = record {
            by = m;
            number = by;
            answered = subst (λ x. Answered (client_of p.view) x (client_of q.view)) same (record {
              others = told.others;
              seen = seen ∙ told.seen;
              by_others = told.by_others;
              legal = subst (λ log. IsLegal log) (sym seen) told.legal;
              mine = s.mine ∙ told.mine;
            });
            alone = λ one. follows m by t ks q1 q d seen r done (inl (ap (λ (x : Settings). x.callers) (sym of_table) ∙ one));
          };
          watched = (
              let more = watched_step hash set (Decide t ks e) p.view q1.view d (Decided e ks) t in
              let first : WatchesMore p.view q1.view = (more.0, ap (λ (v : View V). v.watched) row ∙ more.1, λ n is. (ap (λ (v : View V). v.steps) row ∙ (more.2 n is).0, ap (λ (v : View V). v.mine) row ∙ (more.2 n is).1)) in
              watches_on p.view q1.view q.view (ap (λ (v : View V). v.by) row) first s.watched
              );
          decided = (
              let own = event p.view.by (Decided e ks) t in
              let one : q1.view.steps ≡ p.view.steps ++ own ∷ [] = ap (λ (v : View V). v.steps) row in
              let all : (p.view.steps ++ own ∷ []) ++ given.0 ≡ (p.view.steps ++ []) ++ own ∷ given.0 = append_assoc p.view.steps (own ∷ []) given.0 ∙ ap (λ l. l ++ own ∷ given.0) (sym (append-nil p.view.steps)) in
              (m, t, by, e, ks, [], given.0, given.1 ∙ (ap (λ l. l ++ given.0) one ∙ all), given.2)
              );
          stays = record {
            settings = s.settings ∙ ap (λ (v : View V). v.settings) row;
            by = s.by ∙ ap (λ (v : View V). v.by) row;
            mine = refl;
            others = s.others ∙ ap (λ (v : View V). v.others) row;
            heard = (s.heard.0 ∙ ap (λ (v : View V). v.heard) row, s.heard.1 ∙ ap (λ (v : View V). v.heard_told) row, s.heard.2 ∙ ap (λ (v : View V). v.heard_watched) row);
            no_slot = s.no_slot ∙ ap (λ (v : View V). v.no_slot) row;
            seen = ([], sym (append-nil q.view.seen));
            by_others = λ n e. refl;
            alone = λ _. refl;
            watched = ([], sym (append-nil q.view.watched), λ n e. (sym (append-nil q.view.steps), sym (append-nil q.view.mine)));
            told = (let a : q1.view.told ≡ p.view.told = ap (λ (v : View V). v.told) row in let b = s.told in omega arith);
            doublings = refl;
            grown_from = refl;
          };
        }

    pub has_committed : IsPassOf w p → (q1 q : PassState V) → Sends hash w (λ t ks. Decide t ks (entry_for call p)) p q1 → HasReleased w q1 q → HasCommitted hash w call p q
    has_committed own q1 q d r =
        let m = unwrap_or p.view.by 0 in
        let by : p.view.by ≡ Some m = read_there p.view.by own.2 in
        let row = decide_row hash set p.view q1.view d.0.number (reverse (contents_of p.stripes)) (entry_for call p) d.2 in
        record {
          own = r.own;
          idle = r.idle;
          answered = is_answered m by own.1 d.0.number (reverse (contents_of p.stripes)) q1 q d.2 r.stays r.seen r.given;
          follows = λ reply done all. (m, by, follows m by d.0.number (reverse (contents_of p.stripes)) q1 q d.2 r.seen reply done (inr all));
          by = r.stays.by ∙ ap (λ (v : View V). v.by) row;
          others = r.stays.others ∙ ap (λ (v : View V). v.others) row;
          found = r.found ∙ (ap found_held row ∙ found_by (Decided (entry_for call p) (reverse (contents_of p.stripes))) d.2.before d.0.number (deciding p.view d.0.number (reverse (contents_of p.stripes)) d.2.log (entry_for call p)));
          doubled = doubled_decided hash w (entry_for call p) p q1 q own.1 d r.stays;
        }

-- the call of what was said of a commit
pub has_committed_said : {K V : Type 0} (hash : Name → ℕ) (name : K → Name) (w : WordsState) (said call : Commit K V) → said ≡ call → (p : PassState V) → IsPassOf w p → (q : PassState V)
    → (q1 : PassState V) × Sends hash w (λ t ks. Decide t ks (entry_for (call_of name said) p)) p q1 × HasReleased w q1 q → HasCommitted hash w (call_of name call) p q
has_committed_said {K} {V} hash name w said call is p own q did =
    subst (λ (x : Commit K V). HasCommitted hash w (call_of name x) p q) is (has_committed hash w (call_of name said) p own did.0 q did.1 did.2)
