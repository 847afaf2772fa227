-- Traces of steps on the lock words.
use Rattle.std.proofs.Common.{◌≡◌, ◌≢◌, ℕ, ◌<◌, ◌≤◌, List, [], ◌∷◌, ◌++◌, append-nil, append_assoc, sym, refl, ap, ◌∙◌, subst, ⊎_elim, length, length-append, arith, Option, Some, None}
use Rattle.std.specs.Prelude.{All, if◌then◌else◌, ◌==◌}
use mathlib.Core.Logic.{dite}
use native.Mathlib.Decide.{ℕ_discrete}
use Rattle.std.proofs.lemmas.List.Elements.{All-head, All-tail, filter-append}
use Rattle.std.proofs.lemmas.List.Sums.{fold-append}
use Rattle.std.proofs.lemmas.Grind.{flat_map-append}
use Rattle.ck_model.specs.declared.history.Entry.{Entry}
use Rattle.ck_model.specs.Promise.{subhistory}
use Rattle.ck_model.specs.Numbered.{over}
use Rattle.ck_model.specs.declared.contents.Content.{Content}
use Rattle.ck_model.specs.Contents.{Stripes, empty_content}
use Rattle.ck_model.proofs.Numbered.{if_same, if_else}
use Rattle.ck_model.proofs.Histories.{subhistory-append}
use Rattle.ck_core.specs.declared.trace.LockStep.{LockStep}
use Rattle.ck_core.specs.declared.trace.LockStep.TheVariants.{Took, Missed, Gave, Decided}
use Rattle.ck_core.specs.declared.trace.LockEvent.{LockEvent}
use Rattle.ck_core.specs.State.{NoneBy, by_of}
use Rattle.ck_core.specs.Trace.{held_after, holder, Fits, IsLegalTrace, decided_by, decided_in, steps_of, missed_by, missed_in}
use Rattle.ck_core.specs.Contained.{told_by, content_in}
use Rattle.ck_core.proofs.Lists.{cut_snoc}

-- which step it is
IsTaking : {V : Type 0} → LockStep V → Type 0
IsTaking Took = Unit {0}
IsTaking step = ⊥

IsMissing : {V : Type 0} → LockStep V → Type 0
IsMissing Missed = Unit {0}
IsMissing step = ⊥

IsGiving : {V : Type 0} → LockStep V → Type 0
IsGiving (Gave ks) = Unit {0}
IsGiving step = ⊥

IsDeciding : {V : Type 0} → LockStep V → Type 0
IsDeciding (Decided x ks) = Unit {0}
IsDeciding step = ⊥

entry_of : {V : Type 0} → Entry V → LockStep V → Entry V
entry_of d (Decided x ks) = x
entry_of d step = d

module _ {V : Type 0} where
  pub taking_fits : (m : ℕ) (h : Option ℕ) → h ≡ None → Fits {V = V} Took m h
  unfolding IsTaking
  taking_fits m h is = ((λ _. is), (λ e. absurd (subst IsTaking e tt)), (λ ks e. absurd (subst IsTaking e tt)), (λ x ks e. absurd (subst IsTaking e tt)))

  pub missing_fits : (m : ℕ) (h : Option ℕ) → h ≢ None → h ≢ Some m → Fits {V = V} Missed m h
  unfolding IsMissing
  missing_fits m h some other = ((λ e. absurd (subst IsMissing e tt)), (λ _. (some, other)), (λ ks e. absurd (subst IsMissing e tt)), (λ x ks e. absurd (subst IsMissing e tt)))

  pub giving_fits : (m : ℕ) (h : Option ℕ) (ks : Stripes V) → h ≡ Some m → Fits (Gave ks) m h
  unfolding IsGiving
  giving_fits m h ks is = ((λ e. absurd (subst IsGiving e tt)), (λ e. absurd (subst IsGiving e tt)), (λ _ _. is), (λ x ls e. absurd (subst IsGiving e tt)))

  pub deciding_fits : (m : ℕ) (h : Option ℕ) (x : Entry V) (ks : Stripes V) → h ≡ Some m → x.by ≡ m → Fits (Decided x ks) m h
  unfolding IsDeciding entry_of
  deciding_fits m h x ks is own = (
    λ e. absurd (subst IsDeciding e tt),
    λ e. absurd (subst IsDeciding e tt),
    λ ls e. absurd (subst IsDeciding e tt),
    λ y ls e. (is, ap (λ (z : Entry V). z.by) (sym (ap (entry_of x) e)) ∙ own),
  )

  abbrev pub nothing : List (Entry V)
  nothing = []

  pub if_none : (m by : ℕ) → (if by == m then [] else []) ≡ nothing
  if_none m by = dite (ℕ_discrete by m) (λ is. if_same by m [] [] is) (λ other. if_else by m [] [] other)

  -- By the step the caller m gives a stripe back.
  pub record Returns (m : ℕ) (step : LockStep V) : Type 0 where
    pub fits : (h : Option ℕ) → h ≡ Some m → Fits step m h
    pub lets_go : (h : Option ℕ) → held_after step m h ≡ None

  pub returns_gave : (m : ℕ) (ks : Stripes V) → Returns m (Gave ks)
  returns_gave m ks = record { fits = λ h is. giving_fits m h ks is; lets_go = λ h. refl }

  pub returns_decided : (m : ℕ) (x : Entry V) (ks : Stripes V) → x.by ≡ m → Returns m (Decided x ks)
  returns_decided m x ks own = record { fits = λ h is. deciding_fits m h x ks is own; lets_go = λ h. refl }

  -- who holds a stripe after one step more
  holder_more : (es : List (LockEvent V)) (e : LockEvent V) (t : ℕ) → holder (es ++ e ∷ []) t ≡ (if e.stripe == t then held_after e.step e.by (holder es t) else holder es t)
  holder_more es e t = fold-append (λ (h : Option ℕ) (x : LockEvent V). if x.stripe == t then held_after x.step x.by h else h) None es (e ∷ [])

  -- who holds the stripe of the last step, and another one
  pub holder_here : (es : List (LockEvent V)) (e : LockEvent V) (t : ℕ) → e.stripe ≡ t → holder (es ++ e ∷ []) t ≡ held_after e.step e.by (holder es t)
  holder_here es e t is = holder_more es e t ∙ if_same e.stripe t (held_after e.step e.by (holder es t)) (holder es t) is

  pub holder_there : (es : List (LockEvent V)) (e : LockEvent V) (t : ℕ) → e.stripe ≢ t → holder (es ++ e ∷ []) t ≡ holder es t
  holder_there es e t apart = holder_more es e t ∙ if_else e.stripe t (held_after e.step e.by (holder es t)) (holder es t) apart

  -- a step that fits makes a legal trace longer
  pub legal_more : (es : List (LockEvent V)) (e : LockEvent V) → IsLegalTrace es → Fits e.step e.by (holder es e.stripe) → IsLegalTrace (es ++ e ∷ [])
  legal_more es e legal fits before x more is = ⊎_elim
      (λ (h : (es ≡ before) × (e ≡ x)). subst (λ (y : List (LockEvent V) × LockEvent V). Fits y.1.step y.1.by (holder y.0 y.1.stripe)) (λ i. (h.0 i, h.1 i)) fits)
      (λ (h : (rest : List (LockEvent V)) × (es ≡ before ++ x ∷ rest)). legal before x h.0 h.1)
      (cut_snoc es e before x more is)

  pub legal_none : IsLegalTrace {V = V} []
  legal_none before e more is = absurd (let l = ap length is in let m = length-append before (e ∷ more) in omega arith)

  -- a beginning of a legal trace is legal
  pub legal_start : (es start more : List (LockEvent V)) → es ≡ start ++ more → IsLegalTrace es → IsLegalTrace start
  legal_start es start more is legal before x rest e = legal before x (rest ++ more) (is ∙ (ap (λ l. l ++ more) e ∙ append_assoc before (x ∷ rest) more))

  -- the steps of one caller among more
  pub steps_append : (m : ℕ) (xs ys : List (LockEvent V)) → steps_of m (xs ++ ys) ≡ steps_of m xs ++ steps_of m ys
  steps_append m xs ys = filter-append (λ e. e.by == m) xs ys

  -- among those of others there are none
  steps_none : (m : ℕ) (es : List (LockEvent V)) → NoneBy by_of m es → steps_of m es ≡ []
  steps_none m [] others = refl
  steps_none m (e ∷ es) others = if_else e.by m (e ∷ steps_of m es) (steps_of m es) others.0 ∙ steps_none m es others.1

  pub steps_same : (m : ℕ) (xs more : List (LockEvent V)) → NoneBy by_of m more → steps_of m (xs ++ more) ≡ steps_of m xs
  steps_same m xs more others = steps_append m xs more ∙ ((λ i. steps_of m xs ++ steps_none m more others i) ∙ append-nil (steps_of m xs))

  step_own : (m : ℕ) (e : LockEvent V) → e.by ≡ m → steps_of m (e ∷ []) ≡ e ∷ []
  step_own m e own = if_same e.by m (e ∷ []) [] own

  -- among those of others and one of its own
  pub steps_last : (m : ℕ) (es : List (LockEvent V)) (e : LockEvent V) → NoneBy by_of m es → e.by ≡ m → steps_of m (es ++ e ∷ []) ≡ e ∷ []
  steps_last m es e others own = steps_append m es (e ∷ []) ∙ λ i. steps_none m es others i ++ step_own m e own i

  -- in a trace whose rest is by others, and then one more of its own
  pub steps_more : (m : ℕ) (trace watched unseen : List (LockEvent V)) (e : LockEvent V) → trace ≡ watched ++ unseen → NoneBy by_of m unseen → e.by ≡ m → steps_of m (trace ++ e ∷ []) ≡ steps_of m watched ++ e ∷ []
  steps_more m trace watched unseen e is others own = steps_append m trace (e ∷ []) ∙ λ i. (ap (steps_of m) is ∙ steps_same m watched unseen others) i ++ step_own m e own i

  -- what was missed by more steps
  pub missed_append : (xs ys : List (LockEvent V)) → missed_in (xs ++ ys) ≡ missed_in ys ++ missed_in xs
  missed_append [] ys = sym (append-nil (missed_in ys))
  missed_append (x ∷ xs) ys = (λ i. missed_append xs ys i ++ missed_by x.step x.stripe) ∙ append_assoc (missed_in ys) (missed_in xs) (missed_by x.step x.stripe)

  -- steps of callers, none of which is of any caller, are none
  pub none_left : (callers : ℕ) (xs ys : List (LockEvent V)) → All (λ (e : LockEvent V). e.by < callers) (xs ++ ys) → ((m : ℕ) → m < callers → NoneBy by_of m ys) → ys ≡ []
  none_left callers [] [] below none = refl
  none_left callers [] (e ∷ es) below none = absurd ((none e.by (All-head (λ (x : LockEvent V). x.by < callers) e es below)).0 refl)
  none_left callers (x ∷ xs) ys below none = none_left callers xs ys (All-tail (λ (e : LockEvent V). e.by < callers) x (xs ++ ys) below) none

  -- nor of one whose number is no caller's
  none_beyond : (callers m : ℕ) (es : List (LockEvent V)) → callers ≤ m → All (λ (e : LockEvent V). e.by < callers) es → NoneBy by_of m es
  none_beyond callers m [] le below = tt
  none_beyond callers m (e ∷ es) le below = (λ is. let l = All-head (λ (x : LockEvent V). x.by < callers) e es below in omega arith, none_beyond callers m es le (All-tail (λ (x : LockEvent V). x.by < callers) e es below))

  -- the entries of one's own steps
  decided_own : (m by : ℕ) (step : LockStep V) → ((x : Entry V) (ks : Stripes V) → step ≡ Decided x ks → x.by ≡ by) → (if by == m then decided_by step else []) ≡ subhistory m (decided_by step)
  decided_own m by Took own = if_none m by
  decided_own m by Missed own = if_none m by
  decided_own m by (Gave ks) own = if_none m by
  decided_own m by (Decided x ks) own = ap (λ n. if n == m then x ∷ [] else []) (sym (own x ks refl))

  own_first : (m : ℕ) (e : LockEvent V) (es : List (LockEvent V)) → decided_in (steps_of m (e ∷ es)) ≡ (if e.by == m then decided_by e.step else []) ++ decided_in (steps_of m es)
  own_first m e es = dite (ℕ_discrete e.by m)
      (λ is. ap decided_in (if_same e.by m (e ∷ steps_of m es) (steps_of m es) is) ∙ ap (λ l. l ++ decided_in (steps_of m es)) (sym (if_same e.by m (decided_by e.step) [] is)))
      (λ other. ap decided_in (if_else e.by m (e ∷ steps_of m es) (steps_of m es) other) ∙ ap (λ l. l ++ decided_in (steps_of m es)) (sym (if_else e.by m (decided_by e.step) [] other)))

  pub decides_own : (m : ℕ) (before es : List (LockEvent V)) → IsLegalTrace (before ++ es) → decided_in (steps_of m es) ≡ subhistory m (decided_in es)
  decides_own m before [] legal = refl
  decides_own m before (e ∷ es) legal =
      let rest = decides_own m (before ++ e ∷ []) es (subst IsLegalTrace (sym (append_assoc before (e ∷ []) es)) legal) in
      own_first m e es ∙ ((λ i. decided_own m e.by e.step (λ x ks is. ((legal before e es refl).3 x ks is).1) i ++ rest i) ∙ sym (subhistory-append m (decided_by e.step) (decided_in es)))

  -- a number that is no caller's has decided nothing in a legal trace of callers' steps
  pub no_others : (callers m : ℕ) (es : List (LockEvent V)) → callers ≤ m → IsLegalTrace es → All (λ (e : LockEvent V). e.by < callers) es → subhistory m (decided_in es) ≡ []
  no_others callers m es le legal below = sym (decides_own m [] es legal) ∙ ap decided_in (steps_none m es (none_beyond callers m es le below))

  -- the history of more steps
  pub decided_append : (xs ys : List (LockEvent V)) → decided_in (xs ++ ys) ≡ decided_in xs ++ decided_in ys
  decided_append xs ys = flat_map-append (λ (e : LockEvent V). decided_by e.step) xs ys

  pub own_append : (m : ℕ) (xs ys : List (LockEvent V)) → decided_in (steps_of m (xs ++ ys)) ≡ decided_in (steps_of m xs) ++ decided_in (steps_of m ys)
  own_append m xs ys = ap decided_in (steps_append m xs ys) ∙ decided_append (steps_of m xs) (steps_of m ys)

  pub decided_same : (log : List (Entry V)) (es : List (LockEvent V)) (e : LockEvent V) → decided_in es ≡ log → decided_by e.step ≡ [] → decided_in (es ++ e ∷ []) ≡ log
  decided_same log es e is none = decided_append es (e ∷ []) ∙ ((λ i. is i ++ (none i ++ [])) ∙ append-nil log)

  pub decided_more : (log : List (Entry V)) (es : List (LockEvent V)) (e : LockEvent V) (x : Entry V) → decided_in es ≡ log → decided_by e.step ≡ x ∷ [] → decided_in (es ++ e ∷ []) ≡ log ++ x ∷ []
  decided_more log es e x is one = decided_append es (e ∷ []) ∙ λ i. is i ++ (one i ++ [])

  -- but for the stripes of a list, two give the same where they are the same
  over_same : (hs : Stripes V) (w v : ℕ → Content V) (t : ℕ) → w t ≡ v t → over hs w t ≡ over hs v t
  over_same [] w v t is = is
  over_same (h ∷ hs) w v t is = λ i. if h.0 == t then h.1 else over_same hs w v t is i

  -- what a stripe contains after one step more
  pub content_more : (s p : ℕ) (es : List (LockEvent V)) (e : LockEvent V) (t : ℕ) (w : ℕ → Content V) → content_in s p es t ≡ w t → content_in s p (es ++ e ∷ []) t ≡ over (told_by e.step) w t
  content_more s p es e t w is = fold-append (λ (c : Content V) (x : LockEvent V). over (told_by x.step) (λ _. c) t) (empty_content s p) es (e ∷ []) ∙ over_same (told_by e.step) (λ _. content_in s p es t) w t is
