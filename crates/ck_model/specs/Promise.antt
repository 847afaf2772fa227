-- The promise of the map: the plain map, the histories that it can run through, and what an answered call adds to one.
use Rattle.std.specs.Prelude.{◌≡◌, ◌≢◌, ℕ, ◌==◌, List, [], ◌∷◌, ◌++◌, Option, Some, None, map, filter}
use Rattle.std.specs.declared.cmp.Ordering.{Ordering}
use Rattle.std.specs.Ordering.{nat_cmp}
use Rattle.std.specs.Cmp.Lexicographic.{slice_cmp}
use Rattle.std.specs.FinMap.{FinMap, empty, get, len, entries}
use Rattle.ck_model.specs.declared.history.Act.{Act}
use Rattle.ck_model.specs.declared.history.Act.TheVariants.{Find, Insert, Assign, Update, Change, Upsert, Erase}
use Rattle.ck_model.specs.declared.history.Call.{Call}
use Rattle.ck_model.specs.declared.history.Call.TheVariants.{On, ChangeTwo, Len, SessionOn, Session}
use Rattle.ck_model.specs.declared.history.Reply.{Reply}
use Rattle.ck_model.specs.declared.history.Reply.TheVariants.{Was, New, Old, Done, DoneTwo, Absent, Count, Closed}
use Rattle.ck_model.specs.declared.history.Entry.{Entry}
use Rattle.ck_model.specs.declared.settings.Settings.{Settings}
use Rattle.ck_model.specs.Numbered.{IsIn, AreDistinct, numbers, Holds}

-- what a key is to every definition
abbrev pub Name : Type 0
Name = List ℕ

-- the order of names, in which a map keeps them
abbrev pub name_cmp : Name → Name → Ordering
name_cmp = slice_cmp nat_cmp

-- a finite map from names to values
abbrev pub Map : Type 0 → Type 0
Map V = FinMap name_cmp V

-- What contracts see of a client of the map: what its table was opened with, its number, the history that it has seen, and its own entries.
pub record Client (V : Type 0) : Type 0 where
  pub settings : Settings
  pub by : Option ℕ
  pub seen : List (Entry V)
  pub mine : List (Entry V)

-- the list begins with this one
abbrev pub StartsWith : {A : Type 0} → List A → List A → Type 0
StartsWith {A} log start = (more : List A) × (log ≡ start ++ more)

module _ {V : Type 0} where
  -- A call on one name: what the name is bound to before it, the reply, and what the name is bound to after it.
  abbrev pub Answers : Act V → Option V → Reply V → Option V → Type 0
  Answers Find (Some v) r o = (r ≡ Was (Some v)) × (o ≡ Some v)
  Answers Find None r o = (r ≡ Was None) × (o ≡ None)
  Answers (Insert u) (Some v) r o = (r ≡ Old) × (o ≡ Some v)
  Answers (Insert u) None r o = (r ≡ New) × (o ≡ Some u)
  Answers (Assign u) (Some v) r o = (r ≡ Was (Some v)) × (o ≡ Some u)
  Answers (Assign u) None r o = (r ≡ Was None) × (o ≡ Some u)
  Answers (Update u) (Some v) r o = (r ≡ Was (Some v)) × (o ≡ Some u)
  Answers (Update u) None r o = (r ≡ Was None) × (o ≡ None)
  Answers Change (Some v) r o = (w : V) × (r ≡ Done v w) × (o ≡ Some w)
  Answers Change None r o = (r ≡ Absent) × (o ≡ None)
  Answers (Upsert u) (Some v) r o = (w : V) × (r ≡ Done v w) × (o ≡ Some w)
  Answers (Upsert u) None r o = (r ≡ New) × (o ≡ Some u)
  Answers Erase (Some v) r o = (r ≡ Was (Some v)) × (o ≡ None)
  Answers Erase None r o = (r ≡ Was None) × (o ≡ None)

  -- The same of two names: both are bound, or nothing changes.
  abbrev pub AnswersTwo : Option V → Option V → Reply V → Option V → Option V → Type 0
  AnswersTwo (Some v) (Some w) r o p = (v2 : V) × (w2 : V) × (r ≡ DoneTwo v w v2 w2) × (o ≡ Some v2) × (p ≡ Some w2)
  AnswersTwo (Some v) None r o p = (r ≡ Absent) × (o ≡ Some v) × (p ≡ None)
  AnswersTwo None b r o p = (r ≡ Absent) × (o ≡ None) × (p ≡ b)

  -- what the names are bound to, in their order
  abbrev pub bound_in : Map V → List Name → List (Option V)
  bound_in m qs = map (get m) qs

  -- The plain map goes from m to m2 by a call that got this reply.
  abbrev pub Step : Map V → Call V → Reply V → Map V → Type 0
  Step m (On k a) r m2 = Answers a (get m k) r (get m2 k) × ((q : Name) → q ≢ k → get m2 q ≡ get m q)
  Step m (ChangeTwo j k) r m2 = (j ≢ k) × AnswersTwo (get m j) (get m k) r (get m2 j) (get m2 k) × ((q : Name) → q ≢ j → q ≢ k → get m2 q ≡ get m q)
  Step m Len r m2 = (r ≡ Count (len m)) × (m2 ≡ m)
  Step m (SessionOn qs a b) r m2 = (r ≡ Closed) × AreDistinct qs × (bound_in m qs ≡ a) × (bound_in m2 qs ≡ b) × ((q : Name) → ¬ (IsIn q qs) → get m2 q ≡ get m q)
  Step m (Session a b) r m2 = (r ≡ Closed) × (entries m ≡ a) × (entries m2 ≡ b)

  -- the entries lead from m to m2, each by a step
  abbrev pub Leads : Map V → List (Entry V) → Map V → Type 0
  Leads m [] m2 = m ≡ m2
  Leads m (e ∷ es) m2 = (m1 : Map V) × Step m e.call e.reply m1 × Leads m1 es m2

  -- the history is legal, and this is the map after it
  abbrev pub After : List (Entry V) → Map V → Type 0
  After log m = Leads empty log m

  -- the plain map runs through the history from the empty map on
  abbrev pub IsLegal : List (Entry V) → Type 0
  IsLegal log = (m : Map V) × After log m

  -- the entries of one caller, in order
  abbrev pub subhistory : ℕ → List (Entry V) → List (Entry V)
  subhistory n es = filter (λ e. e.by == n) es

  -- The client has one entry more. To what it had seen come entries of others and then this one, and all of it is legal.
  pub record Answered (c : Client V) (e : Entry V) (d : Client V) : Type 0 where
    pub others : List (Entry V)
    pub seen : d.seen ≡ c.seen ++ others ++ e ∷ []
    pub by_others : subhistory e.by others ≡ []
    pub legal : IsLegal d.seen
    pub mine : d.mine ≡ c.mine ++ e ∷ []

  -- the entry follows what the client had seen, with none of others between
  abbrev pub Follows : Client V → Entry V → Client V → Type 0
  Follows c e d = d.seen ≡ c.seen ++ e ∷ []

  -- The client's call was answered by this reply. Where the table has no other client, nothing stands between.
  pub record Replied (call : Call V) (reply : Reply V) (c d : Client V) : Type 0 where
    pub by : ℕ
    pub number : c.by ≡ Some by
    pub answered : Answered c (record { by = by; call = call; reply = reply }) d
    pub alone : c.settings.callers ≡ 1 → Follows c (record { by = by; call = call; reply = reply }) d

  -- Of each client of the list, the history has these entries, in order, and it has no others.
  pub record IsInterleaving (log : List (Entry V)) (parts : List (ℕ × List (Entry V))) : Type 0 where
    pub each : (m : ℕ) (l : List (Entry V)) → Holds parts m l → subhistory m log ≡ l
    pub no_others : (m : ℕ) → ¬ (IsIn m (numbers parts)) → subhistory m log ≡ []
