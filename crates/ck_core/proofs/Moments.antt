-- At each moment of a run's trace, what it tells of stripes binds what was decided until then.
use Rattle.std.proofs.Common.{◌≡◌, ℕ, zero, suc, ◌^◌, ◌<◌, ◌≤◌, List, [], ◌∷◌, ◌++◌, length, length-append, append-nil, append_assoc, sym, refl, ap, ◌∙◌, subst, arith}
use Rattle.ck_model.specs.declared.history.Entry.{Entry}
use Rattle.ck_model.specs.Promise.{After}
use Rattle.ck_model.specs.Numbered.{listed}
use Rattle.ck_model.specs.declared.contents.Content.{Content}
use Rattle.ck_model.specs.Contents.{Layout, Stripes, bindings, Lawful, whole}
use Rattle.ck_core.specs.declared.trace.LockEvent.{LockEvent}
use Rattle.ck_core.specs.State.{Configuration, HistoryInvariant}
use Rattle.ck_core.specs.Trace.{decided_in}
use Rattle.ck_core.specs.Contained.{content_in}
use Rattle.ck_core.specs.Steps.{Label, grown, Execution}
use Rattle.ck_core.specs.Notes.{LawOfContents}
use Rattle.ck_core.proofs.Lists.{cancel, same_first}
use Rattle.ck_core.proofs.Keeps.{step_tells}
use Rattle.ck_core.proofs.Notes.{step_trace, one_step, run_trace}
use Rattle.ck_core.proofs.Openings.{opens, opens_with}

listed_same : {A : Type 0} (n : ℕ) (w v : ℕ → A) → ((t : ℕ) → t < n → w t ≡ v t) → listed n w ≡ listed n v
listed_same zero w v same = refl
listed_same (suc n) w v same = λ i. (n, same n (omega arith) i) ∷ listed_same n w v (λ t l. same t (omega arith)) i

module _ {V : Type 0} (k : Layout) (min_load callers p : ℕ) where
  abbrev Binds : List (LockEvent V) → Type 0
  Binds moment = Lawful k (whole k (content_in k.s p moment)) × After (decided_in moment) (bindings (whole k (content_in k.s p moment)))

  -- under the invariant, of the whole trace
  binds : (log : List (Entry V)) (s : Configuration V) (law : HistoryInvariant k callers log s) → law.opened ≡ p → Binds s.trace
  binds log s law of =
      let told : (t : ℕ) → t < 2 ^ k.s → law.contents t ≡ content_in k.s p s.trace t = λ t l. sym (subst (λ x. content_in k.s x s.trace t ≡ law.contents t) of (law.contained t l)) in
      let same : whole k law.contents ≡ whole k (content_in k.s p s.trace) = listed_same (2 ^ k.s) law.contents (content_in k.s p s.trace) told in
      (subst (Lawful k) same law.lawful, subst (λ (x : List (Entry V) × Stripes V). After x.0 (bindings x.1)) (λ i. (sym law.decided i, same i)) law.legal)

  -- A moment stands within or behind one step, where the rest follows.
  behind : (trace before more rest : List (LockEvent V)) (e : LockEvent V) (es later : List (LockEvent V)) → length es ≤ 1 → before ++ es ++ later ≡ (before ++ e ∷ more) ++ rest → trace ≡ before ++ es
      → (beyond : List (LockEvent V)) × (before ++ e ∷ more ≡ trace ++ beyond)
  behind trace before more rest e [] later short is all = (e ∷ more, ap (λ l. l ++ e ∷ more) (sym (append-nil before) ∙ sym all))
  behind trace before more rest e (x ∷ []) later short is all =
      let cut : x ∷ later ≡ e ∷ (more ++ rest) = cancel before (x ∷ later) (e ∷ (more ++ rest)) (sym (append_assoc before (x ∷ []) later) ∙ (is ∙ append_assoc before (e ∷ more) rest)) in
      let first : x ≡ e = same_first x e later (more ++ rest) cut in
      (more, sym (append_assoc before (e ∷ []) more) ∙ ap (λ l. l ++ more) ((λ i. before ++ sym first i ∷ []) ∙ sym all))
  behind trace before more rest e (x ∷ (y ∷ es)) later short is all = absurd (omega arith)

  run_binds : (ms : List (ℕ × Label V)) (log : List (Entry V)) (s : Configuration V) (log2 : List (Entry V)) (s2 : Configuration V) (law : HistoryInvariant k callers log s) → law.opened ≡ p → Execution k min_load log s ms log2 s2
      → (more rest : List (LockEvent V)) → s2.trace ≡ (s.trace ++ more) ++ rest → Binds (s.trace ++ more)
  run_binds ms log s log2 s2 law of r [] rest is = subst Binds (sym (append-nil s.trace)) (binds log s law of)
  run_binds [] log s log2 s2 law of r (e ∷ more) rest is =
      absurd (let a = ap length is in let b = length-append (s.trace ++ e ∷ more) rest in let c = length-append s.trace (e ∷ more) in let d = ap (λ (x : Configuration V). length x.trace) r.1 in omega arith)
  run_binds (m ∷ ms) log s log2 s2 law of r (e ∷ more) rest is =
      let next = step_tells k min_load callers log m.0 m.1 s r.0 law r.1 in
      let one = step_trace k min_load log m.0 m.1 s r.0 r.1 in
      let on = run_trace k min_load ms (grown log m.1) r.0 log2 s2 r.2 in
      let all : (s.trace ++ one.0) ++ on.0 ≡ (s.trace ++ e ∷ more) ++ rest = ap (λ l. l ++ on.0) (sym one.1) ∙ (sym on.1 ∙ is) in
      let far = behind r.0.trace s.trace more rest e one.0 on.0 (one_step k min_load log m.0 m.1 s r.0 r.1) all one.1 in
      subst Binds (sym far.1) (run_binds ms (grown log m.1) r.0 log2 s2 next.0 (next.1 ∙ of) r.2 far.0 rest (is ∙ ap (λ l. l ++ rest) far.1))

pub law_of_contents : {V : Type 0} → LawOfContents V
law_of_contents k min_load set callers p s ms log s2 o r moment starts =
    let none : s.trace ≡ [] = o.no_step in
    let whole_trace : s2.trace ≡ (s.trace ++ moment) ++ starts.0 = starts.1 ∙ λ i. (sym none i ++ moment) ++ starts.0 in
    subst (Binds k min_load callers p) (λ i. none i ++ moment) (run_binds k min_load callers p ms [] s log s2 (opens k set callers p s o) (opens_with k set callers p s o) r moment starts.0 whole_trace)
