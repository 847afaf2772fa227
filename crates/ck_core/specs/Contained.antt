-- What the trace tells of what stripes contain.
use Rattle.std.specs.Prelude.{◌≡◌, ℕ, List, [], fold}
use Rattle.ck_model.specs.declared.contents.Content.{Content}
use Rattle.ck_model.specs.Numbered.{Holds, over}
use Rattle.ck_model.specs.Contents.{Stripes, empty_content}
use Rattle.ck_core.specs.declared.trace.LockStep.{LockStep}
use Rattle.ck_core.specs.declared.trace.LockStep.TheVariants.{Gave, Decided}
use Rattle.ck_core.specs.declared.trace.LockEvent.{LockEvent}

module _ {V : Type 0} where
  -- what this step tells of stripes
  abbrev pub told_by : LockStep V → Stripes V
  told_by (Gave ks) = ks
  told_by (Decided x ks) = ks
  told_by step = []

  -- What stripe t, of 2^s, contains after the trace: what was told of it last, or free slots, as when the table was opened with power p.
  abbrev pub content_in : (s p : ℕ) → List (LockEvent V) → ℕ → Content V
  content_in s p es t = fold (λ c e. over (told_by e.step) (λ _. c) t) (empty_content s p) es

  -- After the trace these stripes, of 2^s, contain this.
  abbrev pub Contain : ℕ → List (LockEvent V) → Stripes V → Type 0
  Contain s es hs = (p : ℕ) × ((t : ℕ) (c : Content V) → Holds hs t c → content_in s p es t ≡ c)
