-- What stays as it is over steps that decide nothing.
use Rattle.std.proofs.Common.{◌≡◌, ◌≢◌, ℕ, List, [], ◌∷◌, ◌++◌, ◌⊎◌, ◌+◌, false, inl, inr, zero, suc, reverse, replicate, append-nil, append_assoc, sym, refl, ap, ◌∙◌, subst, ⊎_elim, arith, Option, Some, None, All}
use Rattle.std.specs.Option.{unwrap_or}
use Rattle.std.proofs.lemmas.List.Elements.{All-nil, All-cons, All-head, All-tail, All-append}
use Rattle.ck_model.specs.declared.settings.Settings.{Settings}
use Rattle.ck_model.specs.Promise.{Name}
use Rattle.ck_model.specs.Numbered.{IsIn}
use Rattle.ck_model.specs.Contents.{layout_of, Stripes}
use Rattle.ck_model.proofs.Histories.{subhistory-append}
use Rattle.ck_model.specs.declared.history.Entry.{Entry}
use Rattle.ck_core.specs.declared.view.RoomNote.{RoomNote}
use Rattle.ck_core.specs.declared.view.View.{View}
use Rattle.ck_core.specs.declared.trace.LockStep.TheVariants.{Took, Missed, Gave, Decided}
use Rattle.ck_core.specs.declared.trace.LockEvent.{LockEvent}
use Rattle.ck_core.specs.State.{found_held}
use Rattle.ck_core.specs.Steps.{giving, event, stepping}
use Rattle.ck_core.specs.Steps.Label.{Take, FindHeld, GiveRest}
use Rattle.ck_core.specs.Laws.{Shows}
use Rattle.ck_core.specs.Trace.{decided_in, steps_of, missed_by, missed_in}
use Rattle.ck_core.proofs.LegalTraces.{steps_append, own_append, missed_append}
use Rattle.ck_stripe.specs.Stripes.{contents_of}
use Rattle.std.proofs.lemmas.List.{reverse-reverse}
use Rattle.ck_words.specs.Passes.{PassState, IsPassOf, TakesStripe, TriesStripe, Sends, IsIdle, IsUnchanged, ShowsSeen}
use Rattle.ck_words.specs.Words.{WordsState}
use Rattle.ck_words.proofs.Rows.{found_by, shows_before, shows_after, watched_more, own_more, watched_quiet, gave, take_row, take_number, find_row, rest_row}
use Rattle.ck_words.specs.Retries.{misses, MissesAlone, WatchesMore, IsGive, GivesAlone, DecidesThenGives, Stays, StaysBut, FindsAmong, FindsLast, found_again, FindsAgain, TakesWithin}
use Rattle.ck_words.specs.Holding.{HasHeld}

-- a number that is there is the one that is read
pub read_there : (o : Option ℕ) → o ≢ None → o ≡ Some (unwrap_or o 0)
read_there None h = absurd (h refl)
read_there (Some m) h = refl

in_replicate : (n t u : ℕ) → IsIn u (replicate n t) → t ≡ u
in_replicate zero t u z = absurd z
in_replicate (suc n) t u i = ⊎_elim (λ e. e) (λ r. in_replicate n t u r) i

in_parts : (xs ys : List ℕ) (t : ℕ) → IsIn t (xs ++ ys) → IsIn t xs ⊎ IsIn t ys
in_parts [] ys t i = inr i
in_parts (x ∷ xs) ys t i = ⊎_elim (λ e. inl (inl e)) (λ r. ⊎_elim (λ a. inl (inr a)) (λ b. inr b) (in_parts xs ys t r)) i

both_times : {A : Type 0} (m n : ℕ) (x : A) → replicate n x ++ replicate m x ≡ replicate (m + n) x
both_times m zero x = ap (λ k. replicate k x) (let e : m ≡ m + 0 = omega arith in e)
both_times m (suc n) x = ap (λ l. x ∷ l) (both_times m n x) ∙ ap (λ k. replicate k x) (let e : suc (m + n) ≡ m + suc n = omega arith in e)

-- a beginning of a beginning, of histories and of traces
pub starts_on : {A : Type 0} (a b c : List A) → (more : List A) × (b ≡ a ++ more) → (more : List A) × (c ≡ b ++ more) → (more : List A) × (c ≡ a ++ more)
starts_on a b c f g = (f.0 ++ g.0, g.1 ∙ (ap (λ l. l ++ g.0) f.1 ∙ append_assoc a f.0 g.0))

module _ {V : Type 0} where
  -- the stripe was found held n times, and then m times
  pub again_later : (m n t : ℕ) (first later : List (LockEvent V)) (p : PassState V) → found_again m t later (found_again n t first p) ≡ found_again (m + n) t (first ++ later) p
  again_later m n t first later p = λ i. record p { view = record p.view { watched = append_assoc p.view.watched first later i; steps = (append_assoc p.view.steps (misses n t p.view) (misses m t p.view) ∙ ap (λ l. p.view.steps ++ l) (both_times m n (event p.view.by Missed t))) i } }

  -- what was found held then
  missed_times : (n t : ℕ) (v : View V) → missed_in (misses n t v) ≡ replicate n t
  missed_times zero t v = refl
  missed_times (suc n) t v = (λ i. missed_times n t v i ++ t ∷ []) ∙ (both_times 1 n t ∙ ap (λ k. replicate k t) (let e : 1 + n ≡ suc n = omega arith in e))

  pub found_times : (n t : ℕ) (events : List (LockEvent V)) (p : PassState V) → found_held (found_again n t events p).view ≡ replicate n t ++ found_held p.view
  found_times n t events p = missed_append p.view.steps (misses n t p.view) ∙ ap (λ l. l ++ found_held p.view) (missed_times n t p.view)

  -- and nothing was decided
  decided_never : (n t : ℕ) (v : View V) → decided_in (misses n t v) ≡ []
  decided_never zero t v = refl
  decided_never (suc n) t v = decided_never n t v

  pub watches_same : (v : View V) → WatchesMore v v
  watches_same v = ([], sym (append-nil v.watched), λ m by. (sym (append-nil v.steps), sym (append-nil v.mine)))

  pub watches_on : (u v w : View V) → v.by ≡ u.by → WatchesMore u v → WatchesMore v w → WatchesMore u w
  watches_on u v w same f g = (
    f.0 ++ g.0,
    g.1 ∙ (ap (λ l. l ++ g.0) f.1 ∙ append_assoc u.watched f.0 g.0),
    λ m by. (
      (g.2 m (same ∙ by)).0 ∙ (ap (λ l. l ++ steps_of m g.0) (f.2 m by).0 ∙ (append_assoc u.steps (steps_of m f.0) (steps_of m g.0) ∙ ap (λ l. u.steps ++ l) (sym (steps_append m f.0 g.0)))),
      (g.2 m (same ∙ by)).1
          ∙ (ap (λ l. l ++ decided_in (steps_of m g.0)) (f.2 m by).1 ∙ (append_assoc u.mine (decided_in (steps_of m f.0)) (decided_in (steps_of m g.0)) ∙ ap (λ l. u.mine ++ l) (sym (own_append m f.0 g.0)))),
    ),
  )

  -- steps that gave stripes back, and more of them
  pub gives_none : (v : View V) → GivesAlone v v
  gives_none v = ([], sym (append-nil v.steps), All-nil IsGive)

  pub gives_one : (v w : View V) (t : ℕ) (ks : Stripes V) → w.steps ≡ v.steps ++ event v.by (Gave ks) t ∷ [] → GivesAlone v w
  gives_one v w t ks one = let e = event v.by (Gave ks) t in (e ∷ [], one, All-cons IsGive e [] (let is : IsGive e = (ks, refl) in is) (All-nil IsGive))

  pub gives_on : (u v w : View V) → GivesAlone u v → GivesAlone v w → GivesAlone u w
  gives_on u v w f g = (f.0 ++ g.0, g.1 ∙ (ap (λ l. l ++ g.0) f.1 ∙ append_assoc u.steps f.0 g.0), All-append IsGive f.0 g.0 f.2 g.2)

  -- by which none was missed
  missed_never : (es : List (LockEvent V)) → All IsGive es → missed_in es ≡ []
  missed_never [] all = refl
  missed_never (e ∷ es) all = λ i. missed_never es (All-tail IsGive e es all) i ++ missed_by ((All-head IsGive e es all).1 i) e.stripe

  -- what was decided after other steps
  pub decides_since : (u v w : View V) → v.by ≡ u.by → WatchesMore u v → DecidesThenGives v w → DecidesThenGives u w
  decides_since u v w same f d =
      let by : u.by ≡ Some d.0 = sym same ∙ d.2 in
      let own = steps_of d.0 f.0 in
      let before : v.steps ++ d.5 ≡ u.steps ++ (own ++ d.5) = ap (λ l. l ++ d.5) (f.2 d.0 by).0 ∙ append_assoc u.steps own d.5 in
      (d.0, d.1, by, d.3, d.4, own ++ d.5, d.6, d.7 ∙ (λ i. before i ++ event (same i) (Decided d.3 d.4) d.1 ∷ d.6), d.8)

  -- the same of the last tries
  pub last_since : (turns t : ℕ) (p q r : PassState V) → q.view.by ≡ p.view.by → q.view.by ≢ None → WatchesMore p.view q.view → FindsLast turns t q r → FindsLast turns t p r
  last_since turns t p q r same some f l =
      let m = unwrap_or q.view.by 0 in
      let own = steps_of m f.0 in
      let before : q.view.steps ++ l.0 ≡ p.view.steps ++ (own ++ l.0) = ap (λ es. es ++ l.0) (f.2 m (sym same ∙ read_there q.view.by some)).0 ∙ append_assoc p.view.steps own l.0 in
      (own ++ l.0, l.1, l.2 ∙ (λ i. (before i ++ replicate turns (event (same i) Missed t)) ++ l.1), l.3)

  -- the last tries, behind which stripes went home
  pub last_giving : (turns t : ℕ) (p q r : PassState V) → FindsAgain turns t p q → GivesAlone q.view r.view → FindsLast turns t p r
  last_giving turns t p q r again g =
      let tried : q.view.steps ≡ (p.view.steps ++ []) ++ misses turns t p.view = ap (λ (x : PassState V). x.view.steps) again.1 ∙ λ i. sym (append-nil p.view.steps) i ++ misses turns t p.view in
      ([], g.0, g.1 ∙ ap (λ l. l ++ g.0) tried, g.2)

  -- what was found held then
  pub found_last : (turns t : ℕ) (p q : PassState V) → FindsLast turns t p q → (before : List ℕ) × (found_held q.view ≡ replicate turns t ++ before ++ found_held p.view)
  found_last turns t p q l =
      let first = p.view.steps ++ l.0 in
      let tries = misses turns t p.view in
      let all : missed_in ((first ++ tries) ++ l.1) ≡ missed_in (first ++ tries) = missed_append (first ++ tries) l.1 ∙ λ i. missed_never l.1 l.3 i ++ missed_in (first ++ tries) in
      let some : missed_in (first ++ tries) ≡ replicate turns t ++ (missed_in l.0 ++ found_held p.view) = missed_append first tries ∙ λ i. missed_times turns t p.view i ++ missed_append p.view.steps l.0 i in
      (missed_in l.0, ap missed_in l.2 ∙ (all ∙ (some ∙ sym (append_assoc (replicate turns t) (missed_in l.0) (found_held p.view)))))

  -- a moment at which stripes were held was watched ever after
  pub held_on : (s : ℕ) (start : List (LockEvent V)) (log : List (Entry V)) (before after : Stripes V) (v w : View V) → (more : List (LockEvent V)) × (w.watched ≡ v.watched ++ more) → w.by ≡ v.by → HasHeld s start log before after v → HasHeld s start log before after w
  unfolding starts_on
  held_on s start log before after v w more by h = record {
    moment = h.moment;
    step = h.step;
    since = h.since;
    watched = starts_on (h.moment ++ h.step ∷ []) v.watched w.watched h.watched more;
    own = by ∙ h.own;
    holders = λ t l. h.holders t l ∙ sym by;
    history = h.history;
    contained = h.contained;
    contain = h.contain;
  }

  -- and begins with what had been watched before
  pub held_since : (s : ℕ) (start first : List (LockEvent V)) (log : List (Entry V)) (before after : Stripes V) (v : View V) → (more : List (LockEvent V)) × (start ≡ first ++ more) → HasHeld s start log before after v → HasHeld s first log before after v
  unfolding starts_on
  held_since s start first log before after v more h = record {
    moment = h.moment;
    step = h.step;
    since = starts_on first start h.moment more h.since;
    watched = h.watched;
    own = h.own;
    holders = h.holders;
    history = h.history;
    contained = h.contained;
    contain = h.contain;
  }

  -- misses alone, and more of them
  pub alone_on : (m n t : ℕ) (v : View V) (first later : List (LockEvent V)) → MissesAlone n t v first → MissesAlone m t v later → MissesAlone (m + n) t v (first ++ later)
  alone_on m n t v first later a b k by = steps_append k first later ∙ ((λ i. a k by i ++ b k by i) ∙ both_times m n (event v.by Missed t))

  pub stays_same : (v : View V) → Stays v v
  stays_same v = record { settings = refl; by = refl; mine = refl; others = refl; heard = (refl, refl, refl); no_slot = refl; seen = ([], sym (append-nil v.seen)); by_others = λ m e. refl; alone = λ _. refl; watched = watches_same v; told = omega arith; doublings = refl; grown_from = refl }

  pub stays_then : (xs ys : List (RoomNote V)) (u v w : View V) → StaysBut xs u v → StaysBut ys v w → StaysBut (ys ++ xs) u w
  unfolding starts_on
  stays_then xs ys u v w f g = record {
    settings = g.settings ∙ f.settings;
    by = g.by ∙ f.by;
    mine = g.mine ∙ f.mine;
    others = g.others ∙ f.others;
    heard = (g.heard.0 ∙ f.heard.0, g.heard.1 ∙ f.heard.1, g.heard.2 ∙ f.heard.2);
    no_slot = g.no_slot ∙ (ap (λ l. ys ++ l) f.no_slot ∙ sym (append_assoc ys xs u.no_slot));
    seen = starts_on u.seen v.seen w.seen f.seen g.seen;
    by_others = λ m e. subhistory-append m f.seen.0 g.seen.0 ∙ λ j. f.by_others m e j ++ g.by_others m (f.by ∙ e) j;
    alone = λ one. g.alone (ap (λ (x : Settings). x.callers) f.settings ∙ one) ∙ f.alone one;
    watched = watches_on u v w f.by f.watched g.watched;
    told = (let a = f.told in let b = g.told in omega arith);
    doublings = g.doublings ∙ f.doublings;
    grown_from = g.grown_from ∙ f.grown_from;
  }

  pub stays_on : (u v w : View V) → Stays u v → Stays v w → Stays u w
  stays_on = stays_then [] []

  -- the rest of a section went home
  module _ (hash : Name → ℕ) (w : WordsState) (p q : PassState V) (g : Sends hash w (λ t _. GiveRest t) p q) where
    rest_view : q.view ≡ gave g.2.before g.0.number (giving p.view g.0.number g.2.does.1 p.view.held None)
    rest_view = rest_row hash w.settings p.view q.view g.0.number g.2

    pub stays_giving : (u : View V) → Stays u p.view → Stays u q.view
    stays_giving u s = stays_on u p.view q.view s
        (subst (Stays p.view) (sym rest_view) (record { settings = refl; by = refl; mine = refl; others = refl; heard = (refl, refl, refl); no_slot = refl; seen = ([], sym (append-nil p.view.seen)); by_others = λ m e. refl; alone = λ _. refl; watched = watched_quiet hash w.settings (GiveRest g.0.number) p.view q.view g.2 (Gave []) g.0.number refl; told = omega arith; doublings = refl; grown_from = refl }))

    pub given_rest : GivesAlone p.view q.view
    given_rest = gives_one p.view q.view g.0.number [] (ap (λ (v : View V). v.steps) rest_view)

    pub found_giving : found_held q.view ≡ found_held p.view
    found_giving = ap found_held rest_view ∙ found_by (Gave []) g.2.before g.0.number (giving p.view g.0.number g.2.does.1 p.view.held None)

    pub seen_giving : q.view.seen ≡ p.view.seen
    seen_giving = ap (λ (v : View V). v.seen) rest_view

  -- a stripe was taken
  pub stays_taking : (hash : Name → ℕ) (set : Settings) (t : ℕ) (p q : PassState V) → p.view.settings ≡ set → TakesStripe hash set t p q → Stays p.view q.view
  stays_taking hash set t p q same k =
      let shows = shows_before hash set (Take t) p.view q.view k.3 in
      let number = take_number hash set p.view q.view t k.3 in
      subst (Stays p.view) (sym (take_row hash set p.view q.view t k.3))
      (record { settings = refl; by = refl; mine = refl; others = refl; heard = (refl, refl, refl); no_slot = refl; seen = shows.seen; by_others = λ m e. shows.unseen m e shows.seen.0 shows.seen.1; alone = λ one. sym (shows.alone number.0 number.1 (ap (λ (x : Settings). x.callers) (sym same) ∙ one)); watched = watched_quiet hash set (Take t) p.view q.view k.3 Took t refl; told = omega arith; doublings = refl; grown_from = refl })

  pub not_found : (t : ℕ) (p : PassState V) → p ≡ found_again 0 t [] p
  not_found t p = sym (λ i. record p { view = record p.view { watched = append-nil p.view.watched i; steps = append-nil p.view.steps i } })

  pub found_never : (t : ℕ) (p : PassState V) → FindsAgain 0 t p p
  found_never t p = ([], not_found t p, λ m by. refl)

  -- the stripe was found held once more
  pub found_next : (hash : Name → ℕ) (w : WordsState) (n t : ℕ) (p q r : PassState V) → FindsAgain n t p q → IsPassOf w q → IsPassOf w r → TriesStripe hash w t false q r → FindsAgain (n + 1) t p r
  found_next hash w n t p q r again own1 own2 k =
      let more = watched_more hash w.settings (FindHeld t) q.view r.view k.1 (event q.view.by Missed t) in
      let own = own_more hash w.settings (FindHeld t) q.view r.view k.1 Missed t in
      let same : q.view.by ≡ p.view.by = ap (λ (x : PassState V). x.view.by) again.1 in
      let row : r.view ≡ (found_again 1 t more.0 q).view = find_row hash w.settings q.view r.view t k.1 ∙ λ i. record q.view { watched = more.1 i; steps = q.view.steps ++ event q.view.by Missed t ∷ [] } in
      let once : r ≡ found_again 1 t more.0 q = λ i. record { table = (own2.0 ∙ sym own1.0) i; view = row i; stripes = k.0 i } in
      (again.0 ++ more.0, once ∙ (ap (found_again 1 t more.0) again.1 ∙ (again_later 1 n t again.0 more.0 p ∙ ap (λ m. found_again m t (again.0 ++ more.0) p) (let e : 1 + n ≡ n + 1 = omega arith in e))), subst (λ k. MissesAlone k t p.view (again.0 ++ more.0)) (let e : 1 + n ≡ n + 1 = omega arith in e) (alone_on 1 n t p.view again.0 more.0 again.2 (λ m by. own m (same ∙ by) ∙ ap (λ o. event o Missed t ∷ []) same)))

  pub stays_finding : (n t : ℕ) (events : List (LockEvent V)) (p : PassState V) → MissesAlone n t p.view events → Stays p.view (found_again n t events p).view
  stays_finding n t events p alone = record { settings = refl; by = refl; mine = refl; others = refl; heard = (refl, refl, refl); no_slot = refl; seen = ([], sym (append-nil p.view.seen)); by_others = λ m e. refl; alone = λ _. refl; watched = (events, refl, λ m by. (ap (λ l. p.view.steps ++ l) (sym (alone m by)), sym (ap (λ l. p.view.mine ++ l) (ap decided_in (alone m by) ∙ decided_never n t p.view) ∙ append-nil p.view.mine))); told = omega arith; doublings = refl; grown_from = refl }

  module _ (hash : Name → ℕ) (set : Settings) (turns t : ℕ) (p q : PassState V) (k : TakesWithin hash set turns t p q) where
    abbrev tried : PassState V
    tried = found_again k.0 t k.2 p

    abbrev with_stripe : View V
    with_stripe = record tried.view { held = (t, k.3.3.does.1) ∷ p.view.held; seen = k.3.3.log }

    within_view : q.view ≡ stepping k.3.3.before Took t with_stripe
    within_view = take_row hash set tried.view q.view t k.3.3

    pub stays_within : p.view.settings ≡ set → Stays p.view q.view
    stays_within same = stays_on p.view tried.view q.view (stays_finding k.0 t k.2 p k.4) (stays_taking hash set t tried q same k.3)

    pub found_within : found_held q.view ≡ replicate k.0 t ++ found_held p.view
    found_within = ap found_held within_view ∙ (found_by Took k.3.3.before t with_stripe ∙ found_times k.0 t k.2 p)

    pub shows_taken : ShowsSeen hash set q
    shows_taken = subst (λ log. Shows (layout_of hash set) set.callers log q.view) (sym (ap (λ (v : View V). v.seen) within_view)) (shows_after hash set (Take t) tried.view q.view k.3.3)

  pub idle_of : (p : PassState V) → p.stripes ≡ [] → IsUnchanged p → IsIdle p
  idle_of p none u = (none, sym (reverse-reverse p.view.held) ∙ ap reverse (sym u ∙ ap contents_of none))

  pub unchanged_idle : (p : PassState V) → IsIdle p → IsUnchanged p
  unchanged_idle p i = ap contents_of i.0 ∙ ap reverse (sym i.1)

  -- the stripes that were found held
  pub among_none : (P : ℕ → Type 0) (p q : PassState V) → found_held q.view ≡ found_held p.view → FindsAmong P p q
  among_none P p q e = ([], e, (λ t z. absurd z))

  pub among_again : (P : ℕ → Type 0) (n t : ℕ) (p q : PassState V) → P t → found_held q.view ≡ replicate n t ++ found_held p.view → FindsAmong P p q
  among_again P n t p q h e = (replicate n t, e, (λ u i. subst P (in_replicate n t u i) h))

  pub among_on : (P : ℕ → Type 0) (p q r : PassState V) → FindsAmong P p q → FindsAmong P q r → FindsAmong P p r
  among_on P p q r f g = (g.0 ++ f.0, g.1 ∙ (ap (λ l. g.0 ++ l) f.1 ∙ sym (append_assoc g.0 f.0 (found_held p.view))), (λ t i. ⊎_elim (g.2 t) (f.2 t) (in_parts g.0 f.0 t i)))

  pub among_within : (P : ℕ → Type 0) (hash : Name → ℕ) (set : Settings) (turns t : ℕ) (p q : PassState V) → P t → TakesWithin hash set turns t p q → FindsAmong P p q
  among_within P hash set turns t p q h k = among_again P k.0 t p q h (found_within hash set turns t p q k)

  pub among_held : (P : ℕ → Type 0) (n t : ℕ) (p q : PassState V) → P t → FindsAgain n t p q → FindsAmong P p q
  among_held P n t p q h k = among_again P n t p q h (ap (λ (x : PassState V). found_held x.view) k.1 ∙ found_times n t k.0 p)
