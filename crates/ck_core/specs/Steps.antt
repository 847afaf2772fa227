-- The steps of the core, and their runs.
use Rattle.std.specs.Prelude.{◌≡◌, ℕ, zero, suc, ◌+◌, ◌-◌, ◌^◌, ◌<◌, ◌≤◌, max, List, [], ◌∷◌, ◌++◌, set, map, replicate, reverse, length, slice_index, Option, Some, None}
use mathlib.Core.Option.{some}
use lib.ListN.{get_elem?}
use Rattle.std.specs.FinMap.{empty}
use Rattle.ck_model.specs.declared.history.Entry.{Entry}
use Rattle.ck_model.specs.declared.history.Reason.{Reason}
use Rattle.ck_model.specs.declared.history.Reason.TheVariants.{NoRoom, Full, LoadTooLow, Memory}
use Rattle.ck_model.specs.declared.settings.Settings.{Settings}
use Rattle.ck_model.specs.Promise.{Name}
use Rattle.ck_model.specs.Numbered.{IsIn, AreDistinct, numbers, Holds, without}
use Rattle.ck_model.specs.declared.contents.Content.{Content}
use Rattle.ck_model.specs.Contents.{Layout, Stripes, empty_content, bindings, Lawful, whole, power_of}
use Rattle.ck_model.specs.Sections.{Owns, Section, IdentitySection}
use Rattle.ck_model.specs.Paths.{HasNoRoom, Grounds}
use Rattle.ck_core.specs.declared.trace.LockStep.{LockStep}
use Rattle.ck_core.specs.declared.trace.LockStep.TheVariants.{Took, Missed, Gave, Decided}
use Rattle.ck_core.specs.declared.trace.LockEvent.{LockEvent}
use Rattle.ck_core.specs.declared.view.RoomNote.{RoomNote}
use Rattle.ck_core.specs.declared.view.View.{View}
use Rattle.ck_core.specs.Trace.{steps_of}
use Rattle.ck_core.specs.State.{Configuration, HasNumber, IsPart, owned}

-- One atomic operation on the word of a stripe.
pub data Label (V : Type 0) : Type 0 where
  -- a swap(1) that brings back 0, by a caller
  Take : (t : ℕ) → Label V
  -- a swap(1) that brings back 1, by a caller
  FindHeld : (t : ℕ) → Label V
  -- a store(0) by which the content goes home unchanged; no_slot may rise
  Give : (t : ℕ) → Option (Name × Reason) → Label V
  -- a store(0) that decides a call, with the new contents of a section
  Decide : (t : ℕ) → Stripes V → Entry V → Label V
  -- as Give, after a Decide or a Renew
  GiveRest : (t : ℕ) → Label V
  -- a store(0) with the new contents of an identity section
  Renew : (t : ℕ) → Stripes V → Option (Name × Reason) → Label V
  -- a load by which history and trace are seen; told may rise to p
  Look : (t p : ℕ) → Label V
  -- a load by which a new caller gets a number that nobody has used
  Open : Label V
  -- a load that splits off what the caller has seen, was told and has watched
  Tell : Label V
  -- a load that joins another view, which holds no stripe, to the caller's
  Join : (other : ℕ) → Label V

-- the number is above each of the list
abbrev pub IsAbove : ℕ → List ℕ → Type 0
IsAbove t ts = (u : ℕ) → IsIn u ts → u < t

-- the settings of a view that is no caller's any more
abbrev pub no_settings : Settings
no_settings = record { s = 0; power = 0; max = 0; callers = 0; turns = 0; rounds = 0; min_load = 0 }

-- the number, or 0 where there is none
abbrev pub number_of : Option ℕ → ℕ
number_of None = 0
number_of (Some m) = m

-- the caller, by its number, made this step on the word of stripe t
abbrev pub event : {V : Type 0} → Option ℕ → LockStep V → ℕ → LockEvent V
event by step t = record { by = number_of by; stripe = t; step = step }

-- the longer of two beginnings of one list
abbrev pub longer : {A : Type 0} → List A → List A → List A
longer [] ys = ys
longer (x ∷ xs) [] = x ∷ xs
longer (x ∷ xs) (y ∷ ys) = x ∷ longer xs ys

module _ {V : Type 0} where
  -- the name found no room in stripes that contained this
  abbrev pub noted : Name → Reason → Stripes V → RoomNote V
  noted q why hs = record { name = q; reason = why; held = hs }

  -- the same of held stripes, of which the last taken stands first, where a name found none
  abbrev pub gaining : List (RoomNote V) → Stripes V → Option (Name × Reason) → List (RoomNote V)
  gaining l hs None = l
  gaining l hs (Some (q, why)) = noted q why (reverse hs) ∷ l

  -- what is noted of stripes that contained hs and doubled so many times
  abbrev pub growing : List (Stripes V) → Stripes V → ℕ → List (Stripes V)
  growing l hs zero = l
  growing l hs (suc n) = hs ∷ l

  -- the trace after the caller of a view made this step on the word of stripe t
  abbrev pub traced : Configuration V → View V → LockStep V → ℕ → List (LockEvent V)
  traced s v step t = s.trace ++ event v.by step t ∷ []

  -- the view after its caller made this step on the word of stripe t, with the trace watched
  abbrev pub stepping : Configuration V → LockStep V → ℕ → View V → View V
  stepping s step t v = record v { watched = traced s v step t; steps = v.steps ++ event v.by step t ∷ [] }

  -- What each step leaves.
  abbrev pub taken : Configuration V → ℕ → View V → ℕ → Content V → List (Entry V) → Configuration V
  taken s id v t c log = record {
    words = set s.words t 1;
    homes = set s.homes t None;
    views = set s.views id (stepping s Took t (record v { held = (t, c) ∷ v.held; seen = log }));
    trace = traced s v Took t;
  }

  abbrev pub missed : Configuration V → ℕ → View V → ℕ → Configuration V
  missed s id v t = record s { views = set s.views id (stepping s Missed t v); trace = traced s v Missed t }

  abbrev pub seen_as : Configuration V → ℕ → View V → Configuration V
  seen_as s id w = record s { views = set s.views id w }

  abbrev pub sent_home : LockStep V → Configuration V → ℕ → ℕ → Content V → View V → Configuration V
  sent_home step s id t c w = record { words = set s.words t 0; homes = set s.homes t (Some c); views = set s.views id (stepping s step t w); trace = traced s w step t }

  -- the view v after the stripe t with the content c, of the held stripes hs, went home
  abbrev pub giving : View V → ℕ → Content V → Stripes V → Option (Name × Reason) → View V
  giving v t c hs g = record v { held = without t hs; told = max v.told c.power; no_slot = gaining v.no_slot hs g }

  -- the same after the held stripes, which were v.held, became ks: the caller has made as many doublings as their power rose by
  abbrev pub renewing : View V → ℕ → Content V → Stripes V → Option (Name × Reason) → View V
  renewing v t c ks g = record (giving v t c ks g) { doublings = v.doublings + (power_of ks - power_of v.held); grown_from = growing v.grown_from (reverse v.held) (power_of ks - power_of v.held) }

  -- the view v after the entry e was decided with the new contents ks, of which the stripe t went home
  abbrev pub deciding : View V → ℕ → Stripes V → List (Entry V) → Entry V → View V
  deciding v t ks log e = record v { held = without t ks; seen = log ++ e ∷ []; mine = v.mine ++ e ∷ []; doublings = v.doublings + (power_of ks - power_of v.held); grown_from = growing v.grown_from (reverse v.held) (power_of ks - power_of v.held) }

  -- a caller at the opening
  abbrev pub newcomer : Settings → ℕ → ℕ → View V
  newcomer set j p = record { settings = set; by = Some j; held = []; seen = []; mine = []; told = p; doublings = 0; grown_from = []; watched = []; steps = []; no_slot = []; heard = []; heard_told = 0; heard_watched = []; others = [] }

  -- a caller that begins with the number m, which the view v has kept
  abbrev pub beginner : View V → ℕ → View V
  beginner v m = record (newcomer v.settings m v.told) { watched = v.watched; steps = steps_of m v.watched }

  -- what v has seen, was told and has watched
  abbrev pub message_of : View V → View V
  message_of v = record { settings = v.settings; by = None; held = []; seen = v.seen; mine = []; told = v.told; doublings = 0; grown_from = []; watched = v.watched; steps = []; no_slot = []; heard = []; heard_told = 0; heard_watched = []; others = [] }

  -- what a join leaves of the other view
  abbrev pub spent : View V
  spent = record { settings = no_settings; by = None; held = []; seen = []; mine = []; told = 0; doublings = 0; grown_from = []; watched = []; steps = []; no_slot = []; heard = []; heard_told = 0; heard_watched = []; others = [] }

  -- the view v has heard what w had seen, and keeps its numbers
  abbrev pub joining : View V → View V → View V
  joining v w = record v { heard = w.seen; heard_told = w.told; heard_watched = w.watched; others = owned w ++ v.others; watched = longer v.watched w.watched }

  abbrev pub split_as : Configuration V → ℕ → View V → View V → Configuration V
  split_as s id left right = record s { views = set s.views id left ++ right ∷ [] }

  abbrev pub joined : Configuration V → ℕ → View V → ℕ → Configuration V
  joined s id both other = record s { views = set (set s.views id both) other spent }

  -- no_slot may rise where the stripes give grounds
  abbrev pub HasGrounds : Layout → ℕ → Stripes V → Option (Name × Reason) → Type 0
  HasGrounds k min_load hs None = Unit {0}
  HasGrounds k min_load hs (Some (q, why)) = Grounds k min_load hs q why

  -- or where the name's stripes are held, it is unbound in them, and its buckets are full
  abbrev pub IsExcused : Layout → ℕ → Stripes V → Option (Name × Reason) → Type 0
  IsExcused k min_load hs None = Unit {0}
  IsExcused k min_load hs (Some (q, NoRoom)) = Owns k hs q × HasNoRoom k hs q
  IsExcused k min_load hs (Some (q, Full)) = Grounds k min_load hs q Full
  IsExcused k min_load hs (Some (q, LoadTooLow)) = Grounds k min_load hs q LoadTooLow
  IsExcused k min_load hs (Some (q, Memory)) = Grounds k min_load hs q Memory

  -- With this history, the caller of the view `id` may go by this step from s to s2.
  abbrev pub Transition : Layout → ℕ → List (Entry V) → ℕ → Label V → Configuration V → Configuration V → Type 0
  Transition k min_load log id (Take t) s s2 = (v : View V) × (c : Content V) × (get_elem? s.views id ≡ some v) × (t < 2 ^ k.s) × (slice_index s.words t ≡ 0) × IsAbove t (numbers v.held)
      × (get_elem? s.homes t ≡ some (Some c)) × HasNumber v × (s2 ≡ taken s id v t c log)
  Transition k min_load log id (FindHeld t) s s2 = (v : View V) × (get_elem? s.views id ≡ some v) × (t < 2 ^ k.s) × (slice_index s.words t ≡ 1) × ¬ (IsIn t (numbers v.held)) × HasNumber v
      × (s2 ≡ missed s id v t)
  Transition k min_load log id (Give t g) s s2 = (v : View V) × (c : Content V) × (get_elem? s.views id ≡ some v) × Holds v.held t c × IsExcused k min_load v.held g
      × (s2 ≡ sent_home (Gave []) s id t c (giving v t c v.held g))
  Transition k min_load log id (Decide t ks e) s s2 = (v : View V) × (c : Content V) × (get_elem? s.views id ≡ some v) × (v.by ≡ Some e.by) × Holds ks t c × Section k v.held e.call e.reply ks
      × (s2 ≡ sent_home (Decided e ks) s id t c (deciding v t ks log e))
  Transition k min_load log id (GiveRest t) s s2 = (v : View V) × (c : Content V) × (get_elem? s.views id ≡ some v) × Holds v.held t c
      × (s2 ≡ sent_home (Gave []) s id t c (giving v t c v.held None))
  Transition k min_load log id (Renew t ks g) s s2 = (v : View V) × (c : Content V) × (get_elem? s.views id ≡ some v) × Holds ks t c × IdentitySection k v.held ks × HasGrounds k min_load ks g
      × (s2 ≡ sent_home (Gave ks) s id t c (renewing v t c ks g))
  Transition k min_load log id (Look t p) s s2 = (v : View V) × (get_elem? s.views id ≡ some v) × (t < 2 ^ k.s) × (v.told ≤ p) × ((u : ℕ) (c : Content V) → IsPart s u c → p ≤ c.power)
      × (s2 ≡ seen_as s id (record v { seen = log; told = p; watched = s.trace }))
  Transition k min_load log id Open s s2 = (v : View V) × (m : ℕ) × (rest : List (ℕ × List (Entry V))) × (get_elem? s.views id ≡ some v) × (v.others ≡ (m, []) ∷ rest)
      × (s2 ≡ split_as s id (record v { others = rest }) (beginner v m))
  Transition k min_load log id Tell s s2 = (v : View V) × (get_elem? s.views id ≡ some v) × (s2 ≡ split_as s id v (message_of v))
  Transition k min_load log id (Join other) s s2 = (v : View V) × (w : View V) × (get_elem? s.views id ≡ some v) × (get_elem? s.views other ≡ some w) × ¬ (other ≡ id) × (w.held ≡ [])
      × (s2 ≡ joined s id (joining v w) other)

  -- the history after a step
  abbrev pub grown : List (Entry V) → Label V → List (Entry V)
  grown log (Decide t ks e) = log ++ e ∷ []
  grown log (Take t) = log
  grown log (FindHeld t) = log
  grown log (Give t g) = log
  grown log (GiveRest t) = log
  grown log (Renew t ks g) = log
  grown log (Look t p) = log
  grown log Open = log
  grown log Tell = log
  grown log (Join other) = log

  -- Steps of several callers, one after another, lead from s with one history to s2 with another.
  abbrev pub Execution : Layout → ℕ → List (Entry V) → Configuration V → List (ℕ × Label V) → List (Entry V) → Configuration V → Type 0
  Execution k min_load log s [] log2 s2 = (log ≡ log2) × (s ≡ s2)
  Execution k min_load log s (m ∷ ms) log2 s2 = (s1 : Configuration V) × Transition k min_load log m.0 m.1 s s1 × Execution k min_load (grown log m.1) s1 ms log2 s2

  -- the view of a caller at the opening, with the numbers that it keeps for later callers
  abbrev pub initial_view : Settings → ℕ → ℕ → List ℕ → View V
  initial_view set j p ms = record (newcomer set j p) { others = map (λ (m : ℕ). (m, [])) ms }

  -- Words 0, empty stripes of power p, which are a lawful whole, no step on a word, and callers that know nothing, whose numbers are no other's.
  pub record Opening (k : Layout) (set : Settings) (callers p : ℕ) (s : Configuration V) : Type 0 where
    pub words : s.words ≡ replicate (2 ^ k.s) 0
    pub no_step : s.trace ≡ []
    pub homes_sized : length s.homes ≡ 2 ^ k.s
    pub homes : (t : ℕ) → t < 2 ^ k.s → get_elem? s.homes t ≡ some (Some (empty_content k.s p))
    pub lawful : Lawful k (whole {V = V} k (λ _. empty_content k.s p))
    pub empty_whole : bindings (whole {V = V} k (λ _. empty_content k.s p)) ≡ empty
    pub keeper : ℕ → ℕ
    pub views : (j : ℕ) (v : View V) → get_elem? s.views j ≡ some v → (ms : List ℕ) × (v ≡ initial_view set j p ms) × AreDistinct (j ∷ ms)
        × ((m : ℕ) → IsIn m (j ∷ ms) → (m < callers) × (keeper m ≡ j))
