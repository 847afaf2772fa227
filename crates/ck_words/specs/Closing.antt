-- All stripes at once, and the end of a table.
use Rattle.std.specs.Prelude.{◌≡◌, ℕ, ◌<◌, ◌≤◌, ◌^◌, List, [], ◌∷◌, ◌++◌, map, Some, All}
use Rattle.std.specs.List.{AllZip}
use Rattle.std.specs.Option.{unwrap_or}
use Rattle.atomic_table.specs.Seated.{TableId}
use Rattle.ck_model.specs.declared.history.Entry.{Entry}
use Rattle.ck_model.specs.declared.settings.Settings.{Settings}
use Rattle.ck_model.specs.Promise.{Name, Map, After, StartsWith, IsInterleaving}
use Rattle.ck_model.specs.Numbered.{IsIn, numbers}
use Rattle.ck_model.specs.Contents.{layout_of, Stripes, Lawful, bindings, power_of}
use Rattle.ck_model.specs.Sections.{HasAll}
use Rattle.ck_core.specs.declared.trace.LockEvent.{LockEvent}
use Rattle.ck_core.specs.Trace.{IsLegalTrace, decided_in}
use Rattle.ck_core.specs.State.{owned}
use Rattle.ck_core.specs.Steps.{newcomer}
use Rattle.ck_model.specs.Counting.{counting}
use Rattle.ck_words.specs.Words.{WordsState}
use Rattle.ck_words.specs.Passes.{PassState, IsPassOf, IsIdle, IsUnchanged, ShowsSeen, numbers_of}
use Rattle.ck_words.specs.Retries.{Stays}

module _ {V : Type 0} where
  -- The pass holds all stripes as it took them.
  pub record IsWhole (hash : Name → ℕ) (set : Settings) (p : PassState V) : Type 0 where
    pub all : numbers_of p.stripes ≡ counting 0 (2 ^ set.s)
    pub unchanged : IsUnchanged p
    pub shows : ShowsSeen hash set p

  -- the number of the caller, where it has one
  abbrev pub number_of : PassState V → ℕ
  number_of p = unwrap_or p.view.by 0

  -- the callers' numbers, each with its entries
  abbrev pub parts_of : List (PassState V) → List (ℕ × List (Entry V))
  parts_of ps = map (λ (p : PassState V). (number_of p, p.view.mine)) ps

  -- an idle pass of a caller, which keeps no other's number
  pub record IsCaller (w : WordsState) (p : PassState V) : Type 0 where
    pub own : IsPassOf w p
    pub idle : IsIdle p
    pub alone : p.view.others ≡ []
    pub number : (m : ℕ) × (p.view.by ≡ Some m) × (m < w.settings.callers)

  -- idle passes of callers, of which each number has one
  pub record AreAllPasses (w : WordsState) (ps : List (PassState V)) : Type 0 where
    pub callers : All (IsCaller w) ps
    pub all : (m : ℕ) → m < w.settings.callers → IsIn m (numbers (parts_of ps))

  -- the passes of these callers as they are dealt
  abbrev pub dealt : TableId → Settings → List ℕ → List (PassState V)
  dealt table set ms = map (λ (m : ℕ). record { table = table; view = newcomer set m set.power; stripes = [] }) ms

  -- As many passes. Each has the same entries, and has seen no less.
  abbrev pub EachStays : List (PassState V) → List (PassState V) → Type 0
  EachStays ps qs = AllZip (λ (p q : PassState V). Stays p.view q.view) ps qs

  -- the history begins with what each has seen
  abbrev pub EachSaw : List (Entry V) → List (PassState V) → Type 0
  EachSaw log ps = All (λ (p : PassState V). StartsWith log p.view.seen) ps

  -- the trace begins with what each has watched
  abbrev pub EachWatched : List (LockEvent V) → List (PassState V) → Type 0
  EachWatched trace ps = All (λ (p : PassState V). StartsWith trace p.view.watched) ps

  -- q is p with the numbers of o and their entries, after it saw the history.
  pub record Gathers (hash : Name → ℕ) (set : Settings) (p o q : PassState V) : Type 0 where
    pub by : q.view.by ≡ p.view.by
    pub mine : q.view.mine ≡ p.view.mine
    pub others : q.view.others ≡ owned o.view ++ p.view.others
    pub held : q.view.held ≡ p.view.held
    pub stripes : q.stripes ≡ p.stripes
    pub seen : StartsWith q.view.seen p.view.seen
    pub heard : StartsWith q.view.seen o.view.seen
    pub watched : StartsWith q.view.watched p.view.watched
    pub heard_watched : StartsWith q.view.watched o.view.watched
    pub shows : ShowsSeen hash set q

  -- the numbers of the passes os before these, those of the last first
  abbrev pub gathered : List (PassState V) → List (ℕ × List (Entry V)) → List (ℕ × List (Entry V))
  gathered [] l = l
  gathered (o ∷ os) l = gathered os (owned o.view ++ l)

  -- q is p with the numbers of all of os and their entries, after it saw the history.
  pub record Gathered (hash : Name → ℕ) (w : WordsState) (p : PassState V) (os : List (PassState V)) (q : PassState V) : Type 0 where
    pub own : IsPassOf w q
    pub by : q.view.by ≡ p.view.by
    pub mine : q.view.mine ≡ p.view.mine
    pub others : q.view.others ≡ gathered os p.view.others
    pub held : q.view.held ≡ p.view.held
    pub stripes : q.stripes ≡ p.stripes
    pub seen : StartsWith q.view.seen p.view.seen
    pub saw : EachSaw q.view.seen os
    pub watched : StartsWith q.view.watched p.view.watched
    pub each_watched : EachWatched q.view.watched os
    pub shows : ShowsSeen hash w.settings q

  -- What all stripes of a table with these settings may contain: a lawful whole, of a power that the table may have.
  pub record AreContentsOf (hash : Name → ℕ) (set : Settings) (hs : Stripes V) : Type 0 where
    pub lawful : Lawful (layout_of hash set) hs
    pub all : HasAll (layout_of hash set) hs
    pub power : set.power ≤ power_of hs

  -- A history of the passes' entries, of each in its order, and a legal trace, in which just these were decided in this order. They begin with what each has seen and watched. The history leaves this map, which is that of all stripes of a table with these settings.
  pub record Closes (hash : Name → ℕ) (set : Settings) (ps : List (PassState V)) (m : Map V) : Type 0 where
    pub log : List (Entry V)
    pub contents : Stripes V
    pub interleaving : IsInterleaving log (parts_of ps)
    pub saw : EachSaw log ps
    pub trace : List (LockEvent V)
    pub legal : IsLegalTrace trace
    pub decided : decided_in trace ≡ log
    pub watched : EachWatched trace ps
    pub after : After log m
    pub of_table : AreContentsOf hash set contents
    pub binds : bindings contents ≡ m
