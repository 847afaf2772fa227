-- What it leaves to take several stripes, and to give them back.
use Rattle.std.specs.Prelude.{◌≡◌, ℕ, ◌+◌, ◌-◌, ◌^◌, ◌<◌, ◌≤◌, max, List, [], ◌∷◌, ◌++◌, length, slice_index, take, reverse, Some, Result, OnOk, IfErr}
use Rattle.ck_model.specs.declared.history.Entry.{Entry}
use Rattle.ck_model.specs.Promise.{Name, StartsWith}
use Rattle.ck_model.specs.Numbered.{Holds, IsIn, numbers}
use Rattle.ck_model.specs.declared.contents.Content.{Content}
use Rattle.ck_model.specs.Contents.{Stripes}
use Rattle.ck_stripe.specs.Stripe.{StripeState}
use Rattle.ck_stripe.specs.Stripes.{contents_of, HaveNoSpare}
use Rattle.ck_stripe.specs.Tables.{power_in}
use Rattle.ck_core.specs.declared.trace.LockEvent.{LockEvent}
use Rattle.ck_core.specs.declared.view.View.{View}
use Rattle.ck_core.specs.Trace.{holder, decided_in}
use Rattle.ck_core.specs.Contained.{Contain}
use Rattle.ck_core.specs.State.{found_held}
use Rattle.ck_core.specs.Steps.{growing}
use Rattle.ck_words.specs.Words.{WordsState}
use Rattle.ck_words.specs.Passes.{PassState, EachOf, IsPassOf, IsIdle, IsUnchanged, ShowsSeen, numbers_of}
use Rattle.ck_words.specs.declared.stripe_set.StripeSet.{StripeSet}
use Rattle.ck_words.specs.StripeSets.{list_of}
use Rattle.ck_words.specs.Retries.{GivesAlone, Stays, FindsAmong, IsBusy, FindsAgain}

module _ {V : Type 0} where
  -- From p to q the stripes of these numbers were taken, in this order, with no memory to spare. The pass found none held but such ones.
  pub record HasTaken (hash : Name → ℕ) (w : WordsState) (P : ℕ → Type 0) (ns : List ℕ) (p q : PassState V) : Type 0 where
    pub own : IsPassOf w q
    pub unchanged : IsUnchanged q
    pub stays : Stays p.view q.view
    pub numbered : numbers_of q.stripes ≡ ns
    pub of_table : EachOf w.settings.s q.stripes
    pub no_spare : HaveNoSpare q.stripes
    pub found : FindsAmong P p q
    pub shows : 0 < length ns → ShowsSeen hash w.settings q

  -- From p to q the last tries found the stripe t held, as many as the settings allow. What had been taken went home.
  pub record GivesUp (w : WordsState) (P : ℕ → Type 0) (t : ℕ) (p q : PassState V) : Type 0 where
    pub own : IsPassOf w q
    pub stays : Stays p.view q.view
    pub found : FindsAmong P p q
    pub busy : IsBusy w.settings t p q
    pub asked : P t

  -- These stripes were taken, and none but such ones were found held.
  abbrev pub HasTakenAll : (Name → ℕ) → WordsState → List ℕ → PassState V → PassState V → Type 0
  HasTakenAll hash w ns p q = HasTaken hash w (λ t. IsIn t ns) ns p q

  -- From p to q the first i of these stripes were taken, and then one swap found the next held.
  abbrev pub Misses : (Name → ℕ) → WordsState → List ℕ → ℕ → PassState V → PassState V → Type 0
  Misses hash w ns i p q =
      (i < length ns) × ((r : PassState V) × HasTaken hash w (λ t. IsIn t ns) (take i ns) p r × FindsAgain 1 (slice_index ns i) r q)

  -- From q to r, where the i-th of these stripes had been missed since some p: all were taken since p, or the last tries found one held, and what had been taken went home.
  pub record TakesRest {A : Type 0} (hash : Name → ℕ) (w : WordsState) (ns : List ℕ) (i : ℕ) (result : Result A ℕ) (q r : PassState V) : Type 0 where
    pub taken : OnOk result ((p : PassState V) → Misses hash w ns i p q → HasTakenAll hash w ns p r)
    pub refused : IfErr result (λ t. (p : PassState V) → Misses hash w ns i p q → GivesUp w (λ u. IsIn u ns) t p r)

  -- The pass is of this table, holds no stripe, and may lock these.
  pub record MayLock (w : WordsState) (set : StripeSet) (p : PassState V) : Type 0 where
    pub own : IsPassOf w p
    pub idle : IsIdle p
    pub of_table : set.s ≡ w.settings.s

  -- The pass holds these stripes of its table.
  pub record HoldsSet (w : WordsState) (set : StripeSet) (p : PassState V) : Type 0 where
    pub own : IsPassOf w p
    pub of_table : set.s ≡ w.settings.s
    pub numbered : numbers_of p.stripes ≡ list_of set

  -- The pass holds the first n of these stripes of the table as they were taken, and no other.
  pub record HoldsFirst (w : WordsState) (ns : List ℕ) (n : ℕ) (p : PassState V) : Type 0 where
    pub own : IsPassOf w p
    pub inside : n ≤ length ns
    pub numbered : numbers_of p.stripes ≡ take n ns
    pub no_spare : HaveNoSpare p.stripes
    pub unchanged : IsUnchanged p

  -- From p to q all stripes went home, by steps that gave them back and did nothing else.
  pub record HasReleased (w : WordsState) (p q : PassState V) : Type 0 where
    pub own : IsPassOf w q
    pub idle : IsIdle q
    pub stays : Stays p.view q.view
    pub found : found_held q.view ≡ found_held p.view
    pub seen : q.view.seen ≡ p.view.seen
    pub given : GivesAlone p.view q.view

  -- The view's caller has watched a moment of the trace, which begins with `start`, at which it held each of 2^s stripes and this was the history. By the trace they contained `before` then, and since its next step, which was its caller's, they contain `after`.
  pub record HasHeld (s : ℕ) (start : List (LockEvent V)) (log : List (Entry V)) (before after : Stripes V) (v : View V) : Type 0 where
    pub moment : List (LockEvent V)
    pub step : LockEvent V
    pub since : StartsWith moment start
    pub watched : StartsWith v.watched (moment ++ step ∷ [])
    pub own : v.by ≡ Some step.by
    pub holders : (t : ℕ) → t < 2 ^ s → holder moment t ≡ v.by
    pub history : decided_in moment ≡ log
    pub contained : Contain s moment before
    pub contain : Contain s (moment ++ step ∷ []) after

  -- each of the stripes has this power
  abbrev pub AreOfPower : ℕ → List (StripeState V) → Type 0
  AreOfPower power stripes = (t : ℕ) (c : Content V) → Holds (contents_of stripes) t c → c.power ≡ power

  -- From p to q stripes of one power went home, and the pass was told none above it.
  abbrev pub IsToldNoMore : PassState V → PassState V → Type 0
  IsToldNoMore p q = (power : ℕ) → AreOfPower power p.stripes → q.view.told ≤ max p.view.told power

  -- From p to q all stripes went home, which have one power, and the pass was told of it.
  abbrev pub IsToldPower : PassState V → PassState V → Type 0
  IsToldPower p q = q.view.told ≡ max p.view.told (power_in p.stripes)

  -- From p to q all stripes went home, and the caller has made as many doublings more as their power rose by since they were taken, and noted what they contained then if it rose. If they were all stripes, it held all at a moment at which it had seen the history, when they contained what they did when they were taken; and from its next step on what they contain.
  pub record IsDoubledBy (p q : PassState V) : Type 0 where
    pub counted : (a b : ℕ) → ((t : ℕ) (c : Content V) → Holds p.view.held t c → c.power ≡ a) → AreOfPower b p.stripes → (q.view.doublings ≡ p.view.doublings + (b - a)) × (q.view.grown_from ≡ growing p.view.grown_from (reverse p.view.held) (b - a))
    pub held : ((t : ℕ) → t < 2 ^ p.view.settings.s → IsIn t (numbers p.view.held)) → HasHeld p.view.settings.s p.view.watched p.view.seen (reverse p.view.held) (contents_of p.stripes) q.view
