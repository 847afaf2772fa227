-- A history without the sessions that changed nothing.
use Rattle.std.proofs.Common.{◌≡◌, ◌≢◌, ℕ, Bool, true, false, List, [], ◌∷◌, ◌++◌, map, inl, inr, ⊎_elim, refl, sym, ap, ◌∙◌, subst}
use Rattle.std.specs.Prelude.{if◌then◌else◌, ◌==◌}
use Rattle.std.specs.FinMap.{same_entries_map}
use mathlib.Core.Logic.{dite}
use native.Mathlib.Decide.{ℕ_discrete}
use Rattle.ck_model.specs.declared.history.Call.{Call}
use Rattle.ck_model.specs.declared.history.Entry.{Entry}
use Rattle.ck_model.specs.Promise.{Map, Step, Leads, StartsWith, IsInterleaving, subhistory}
use Rattle.ck_model.specs.Numbered.{IsIn, numbers, Holds}
use Rattle.ck_model.proofs.Numbered.{if_same, if_else, dec_in, held_of_in}
use Rattle.ck_script.specs.Output.{StandAmong}
use Rattle.ck_script.specs.Answered.{IsIdleSession}

-- Whether the first entry is kept is said by the first flag, and behind the last flag all are.
abbrev pub first : List Bool → Bool
first [] = true
first (flag ∷ flags) = flag

abbrev pub rest : List Bool → List Bool
rest [] = []
rest (flag ∷ flags) = flags

-- the entry, where it is kept, and others behind it
abbrev pub kept_before : Bool → Entry ℕ → List (Entry ℕ) → List (Entry ℕ)
kept_before true e es = e ∷ es
kept_before false e es = es

-- what is kept of a caller's entries
abbrev pub kept_of : List (Entry ℕ) → List Bool → List (Entry ℕ)
kept_of [] flags = []
kept_of (e ∷ es) flags = kept_before (first flags) e (kept_of es (rest flags))

-- the callers' flags behind an entry
abbrev pub behind : Entry ℕ → (ℕ → List Bool) → ℕ → List Bool
behind e flags k = if e.by == k then rest (flags k) else flags k

-- what is kept of a history, by the flags of each caller
abbrev pub kept_in : (ℕ → List Bool) → List (Entry ℕ) → List (Entry ℕ)
kept_in flags [] = []
kept_in flags (e ∷ es) = kept_before (first (flags e.by)) e (kept_in (behind e flags) es)

-- the first entry, of its caller and of another
own_first : (e : Entry ℕ) (es : List (Entry ℕ)) (k : ℕ) → e.by ≡ k → subhistory k (e ∷ es) ≡ e ∷ subhistory k es
own_first e es k is = if_same e.by k (e ∷ subhistory k es) (subhistory k es) is

other_first : (e : Entry ℕ) (es : List (Entry ℕ)) (k : ℕ) → e.by ≢ k → subhistory k (e ∷ es) ≡ subhistory k es
other_first e es k apart = if_else e.by k (e ∷ subhistory k es) (subhistory k es) apart

-- the same where it may not be kept
own_before : (flag : Bool) (e : Entry ℕ) (es : List (Entry ℕ)) (k : ℕ) → e.by ≡ k → subhistory k (kept_before flag e es) ≡ kept_before flag e (subhistory k es)
own_before true e es k is = own_first e es k is
own_before false e es k is = refl

other_before : (flag : Bool) (e : Entry ℕ) (es : List (Entry ℕ)) (k : ℕ) → e.by ≢ k → subhistory k (kept_before flag e es) ≡ subhistory k es
other_before true e es k apart = other_first e es k apart
other_before false e es k apart = refl

-- of each caller is kept what its flags keep
pub kept_each : (log : List (Entry ℕ)) (flags : ℕ → List Bool) (k : ℕ) → subhistory k (kept_in flags log) ≡ kept_of (subhistory k log) (flags k)
kept_each [] flags k = refl
kept_each (e ∷ es) flags k = dite (ℕ_discrete e.by k)
    (λ is.
    own_before (first (flags e.by)) e (kept_in (behind e flags) es) k is
    ∙ ap (λ (l : List (Entry ℕ)). kept_before (first (flags e.by)) e l) (kept_each es (behind e flags) k ∙ ap (kept_of (subhistory k es)) (if_same e.by k (rest (flags k)) (flags k) is))
    ∙ ap (λ (n : ℕ). kept_before (first (flags n)) e (kept_of (subhistory k es) (rest (flags k)))) is
    ∙ sym (ap (λ (l : List (Entry ℕ)). kept_of l (flags k)) (own_first e es k is)))
    (λ apart.
    other_before (first (flags e.by)) e (kept_in (behind e flags) es) k apart
    ∙ kept_each es (behind e flags) k
    ∙ ap (kept_of (subhistory k es)) (if_else e.by k (rest (flags k)) (flags k) apart)
    ∙ sym (ap (λ (l : List (Entry ℕ)). kept_of l (flags k)) (other_first e es k apart)))

starts_before : (flag : Bool) (e : Entry ℕ) (log start : List (Entry ℕ)) → StartsWith log start → StartsWith (kept_before flag e log) (kept_before flag e start)
starts_before true e log start begins = (begins.0, ap (λ (l : List (Entry ℕ)). e ∷ l) begins.1)
starts_before false e log start begins = begins

-- what is kept of a beginning is a beginning of what is kept
pub kept_start : (start more : List (Entry ℕ)) (flags : ℕ → List Bool) → StartsWith (kept_in flags (start ++ more)) (kept_in flags start)
kept_start [] more flags = (kept_in flags more, refl)
kept_start (e ∷ es) more flags = starts_before (first (flags e.by)) e (kept_in (behind e flags) (es ++ more)) (kept_in (behind e flags) es) (kept_start es more (behind e flags))

among_more : (es log : List (Entry ℕ)) (e : Entry ℕ) → StandAmong es log → StandAmong es (e ∷ log)
among_more [] log e among = tt
among_more (x ∷ es) log e among = inr among

among_before : (flag : Bool) (e : Entry ℕ) (es log : List (Entry ℕ)) → StandAmong es log → StandAmong (kept_before flag e es) (e ∷ log)
among_before true e es log among = inl (refl, among)
among_before false e es log among = among_more es log e among

-- what is kept of a history stands among it
pub kept_among : (log : List (Entry ℕ)) (flags : ℕ → List Bool) → StandAmong (kept_in flags log) log
kept_among [] flags = tt
kept_among (e ∷ es) flags = among_before (first (flags e.by)) e (kept_in (behind e flags) es) es (kept_among es (behind e flags))

-- an entry that isn't kept is that of a session that changed nothing
abbrev pub IsIdleUnless : Bool → Entry ℕ → Type 0
IsIdleUnless true e = Unit {0}
IsIdleUnless false e = IsIdleSession e

-- the same of all entries of a caller
abbrev pub AreIdle : List (Entry ℕ) → List Bool → Type 0
AreIdle [] flags = Unit {0}
AreIdle (e ∷ es) flags = IsIdleUnless (first flags) e × AreIdle es (rest flags)

idle_behind : (e : Entry ℕ) (es : List (Entry ℕ)) (flags : ℕ → List Bool) → ((k : ℕ) → AreIdle (subhistory k (e ∷ es)) (flags k)) → (k : ℕ) → AreIdle (subhistory k es) (behind e flags k)
idle_behind e es flags idle k = dite (ℕ_discrete e.by k)
    (λ is.
    let own : AreIdle (e ∷ subhistory k es) (flags k) = subst (λ (l : List (Entry ℕ)). AreIdle l (flags k)) (own_first e es k is) (idle k) in
    subst (AreIdle (subhistory k es)) (sym (if_same e.by k (rest (flags k)) (flags k) is)) own.1)
    (λ apart.
    subst (AreIdle (subhistory k es)) (sym (if_else e.by k (rest (flags k)) (flags k) apart))
    (subst (λ (l : List (Entry ℕ)). AreIdle l (flags k)) (other_first e es k apart) (idle k)))

leads_before : (flag : Bool) (e : Entry ℕ) (es : List (Entry ℕ)) (m next m2 : Map ℕ) → IsIdleUnless flag e → Step m e.call e.reply next → Leads next es m2 → Leads m (kept_before flag e es) m2
leads_before true e es m next m2 idle step leads = (next, step, leads)
leads_before false e es m next m2 idle step leads =
    let ends = subst (λ (c : Call ℕ). Step m c e.reply next) idle.call step in
    subst (λ (x : Map ℕ). Leads x es m2) (same_entries_map next m (ends.2 ∙ sym ends.1)) leads

-- it leaves the same map
pub kept_leads : (start more : List (Entry ℕ)) (flags : ℕ → List Bool) (m m2 : Map ℕ) → ((k : ℕ) → AreIdle (subhistory k (start ++ more)) (flags k)) → Leads m start m2 → Leads m (kept_in flags start) m2
kept_leads [] more flags m m2 idle leads = leads
kept_leads (e ∷ es) more flags m m2 idle leads =
    let own : AreIdle (e ∷ subhistory e.by (es ++ more)) (flags e.by) = subst (λ (l : List (Entry ℕ)). AreIdle l (flags e.by)) (own_first e (es ++ more) e.by refl) (idle e.by) in
    leads_before (first (flags e.by)) e (kept_in (behind e flags) es) m leads.0 m2 own.0 leads.1
    (kept_leads es more (behind e flags) leads.0 m2 (idle_behind e (es ++ more) flags idle) leads.2)

-- what is kept of each caller's part
abbrev pub kept_parts : (ℕ → List Bool) → List (ℕ × List (Entry ℕ)) → List (ℕ × List (Entry ℕ))
kept_parts flags parts = map (λ (p : ℕ × List (Entry ℕ)). (p.0, kept_of p.1 (flags p.0))) parts

kept_there : (parts : List (ℕ × List (Entry ℕ))) (flags : ℕ → List Bool) (k : ℕ) (l : List (Entry ℕ)) → Holds (kept_parts flags parts) k l → (es : List (Entry ℕ)) × Holds parts k es × (kept_of es (flags k) ≡ l)
kept_there [] flags k l held = absurd held
kept_there (p ∷ parts) flags k l held = ⊎_elim
    (λ (here : (p.0 ≡ k) × (kept_of p.1 (flags p.0) ≡ l)). (p.1, inl (here.0, refl), ap (λ (n : ℕ). kept_of p.1 (flags n)) (sym here.0) ∙ here.1))
    (λ there. let rest = kept_there parts flags k l there in (rest.0, inr rest.1, rest.2))
    held

same_numbers : (parts : List (ℕ × List (Entry ℕ))) (flags : ℕ → List Bool) → numbers (kept_parts flags parts) ≡ numbers parts
same_numbers [] flags = refl
same_numbers (p ∷ parts) flags = ap {B = List ℕ} (λ ns. p.0 ∷ ns) (same_numbers parts flags)

module _ (log : List (Entry ℕ)) (parts : List (ℕ × List (Entry ℕ))) (flags : ℕ → List Bool) (interleaving : IsInterleaving log parts) where
  -- it is an interleaving of what is kept of the parts
  pub kept_interleaving : IsInterleaving (kept_in flags log) (kept_parts flags parts)
  kept_interleaving = record {
    each = λ k l held. let there = kept_there parts flags k l held in kept_each log flags k ∙ ap (λ (es : List (Entry ℕ)). kept_of es (flags k)) (interleaving.each k there.0 there.1) ∙ there.2;
    no_others = λ k outside.
        kept_each log flags k ∙ ap (λ (es : List (Entry ℕ)). kept_of es (flags k)) (interleaving.no_others k (λ inside. outside (subst (IsIn k) (sym (same_numbers parts flags)) inside)));
  }

  -- what isn't kept of the parts isn't kept of the history
  pub idle_in : ((k : ℕ) (es : List (Entry ℕ)) → Holds parts k es → AreIdle es (flags k)) → (k : ℕ) → AreIdle (subhistory k log) (flags k)
  idle_in idle k = dite (dec_in k (numbers parts))
      (λ inside. let there = held_of_in parts k inside in subst (λ (es : List (Entry ℕ)). AreIdle es (flags k)) (sym (interleaving.each k there.0 there.1)) (idle k there.0 there.1))
      (λ outside. subst (λ (es : List (Entry ℕ)). AreIdle es (flags k)) (sym (interleaving.no_others k outside)) tt)
