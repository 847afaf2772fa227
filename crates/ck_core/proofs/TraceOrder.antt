-- A call's entry stands in what was decided in the steps that it took.
use Rattle.std.proofs.Common.{◌≡◌, ℕ, List, [], ◌∷◌, ◌++◌, append_assoc, length, sym, ap, ◌∙◌, arith}
use mathlib.Core.Logic.{dite}
use native.Mathlib.Decide.{ℕ_discrete}
use Rattle.ck_model.specs.declared.history.Entry.{Entry}
use Rattle.ck_model.proofs.Numbered.{if_same, if_else}
use Rattle.ck_core.specs.declared.trace.LockStep.{LockStep}
use Rattle.ck_core.specs.declared.trace.LockStep.TheVariants.{Took, Missed, Gave, Decided}
use Rattle.ck_core.specs.declared.trace.LockEvent.{LockEvent}
use Rattle.ck_core.specs.Trace.{decided_by, decided_in, steps_of}
use Rattle.ck_core.specs.Order.{LawOfTraceOrder}
use Rattle.ck_core.proofs.LegalTraces.{decided_append}

module _ {V : Type 0} where
  -- the list has the entry
  abbrev Has : Entry V → List (Entry V) → Type 0
  Has e log = (first last : List (Entry V)) × (log ≡ first ++ e ∷ last)

  has_behind : (e : Entry V) (xs log : List (Entry V)) → Has e log → Has e (xs ++ log)
  has_behind e xs log h = (xs ++ h.0, h.1, ap (λ l. xs ++ l) h.2 ∙ sym (append_assoc xs h.0 (e ∷ h.1)))

  first_of : Entry V → List (Entry V) → Entry V
  first_of d [] = d
  first_of d (x ∷ xs) = x

  -- of a step and those behind it
  has_first : (e : Entry V) (step : LockStep V) (rest own : List (Entry V)) → (own ≡ e ∷ [] → Has e rest) → decided_by step ++ own ≡ e ∷ [] → Has e (decided_by step ++ rest)
  unfolding first_of
  has_first e Took rest own behind is = behind is
  has_first e Missed rest own behind is = behind is
  has_first e (Gave ks) rest own behind is = behind is
  has_first e (Decided x ks) rest own behind is = ([], rest, λ i. ap (first_of e) is i ∷ rest)

  has_decided : (m : ℕ) (e : Entry V) (es : List (LockEvent V)) → decided_in (steps_of m es) ≡ e ∷ [] → Has e (decided_in es)
  has_decided m e [] is = absurd (let l = ap length is in omega arith)
  has_decided m e (x ∷ es) is = dite (ℕ_discrete x.by m)
      (λ own. has_first e x.step (decided_in es) (decided_in (steps_of m es)) (has_decided m e es) (sym (ap decided_in (if_same x.by m (x ∷ steps_of m es) (steps_of m es) own)) ∙ is))
      (λ other. has_behind e (decided_by x.step) (decided_in es) (has_decided m e es (sym (ap decided_in (if_else x.by m (x ∷ steps_of m es) (steps_of m es) other)) ∙ is)))

pub law_of_trace_order : (V : Type 0) → LawOfTraceOrder V
law_of_trace_order V m n e e2 before during between during2 after first second =
    let a = has_decided m e during first in
    let b = has_decided n e2 during2 second in
    let xs : List (Entry V) = decided_in before in
    let ys : List (Entry V) = decided_in between in
    let zs : List (Entry V) = decided_in after in
    let split : decided_in (before ++ (during ++ (between ++ (during2 ++ after)))) ≡ xs ++ (decided_in during ++ (ys ++ (decided_in during2 ++ zs))) =
    decided_append before (during ++ (between ++ (during2 ++ after))) ∙ ap (λ l. xs ++ l)
    (decided_append during (between ++ (during2 ++ after)) ∙ ap (λ l. decided_in during ++ l)
    (decided_append between (during2 ++ after) ∙ ap (λ l. ys ++ l) (decided_append during2 after))) in (
      xs ++ a.0,
      a.1 ++ (ys ++ b.0),
      b.1 ++ zs,
      split ∙ ((λ i. xs ++ (a.2 i ++ (ys ++ (b.2 i ++ zs)))) ∙ joined xs a.0 a.1 ys b.0 b.1 zs),
    )
  where
    joined : (xs u v ys s t zs : List (Entry V)) → xs ++ ((u ++ e ∷ v) ++ (ys ++ ((s ++ e2 ∷ t) ++ zs))) ≡ (xs ++ u) ++ e ∷ ((v ++ (ys ++ s)) ++ e2 ∷ (t ++ zs))
    joined xs u v ys s t zs =
        let last : List (Entry V) = e2 ∷ (t ++ zs) in
        let rest : List (Entry V) = ys ++ ((s ++ e2 ∷ t) ++ zs) in
        let one : rest ≡ (ys ++ s) ++ last = ap (λ l. ys ++ l) (append_assoc s (e2 ∷ t) zs) ∙ sym (append_assoc ys s last) in
        let two : v ++ rest ≡ (v ++ (ys ++ s)) ++ last = ap (λ l. v ++ l) one ∙ sym (append_assoc v (ys ++ s) last) in
        let three : xs ++ ((u ++ e ∷ v) ++ rest) ≡ (xs ++ u) ++ e ∷ (v ++ rest) = ap (λ l. xs ++ l) (append_assoc u (e ∷ v) rest) ∙ sym (append_assoc xs u (e ∷ (v ++ rest))) in
        three ∙ ap (λ l. (xs ++ u) ++ e ∷ l) two
