-- What a caller missed while it was busy.
use Rattle.std.proofs.Common.{◌≡◌, ℕ, ◌++◌, inl, inr, sym, ap, ◌∙◌}
use Rattle.std.specs.Prelude.{replicate}
use Rattle.std.proofs.lemmas.List.{append_cancel_right}
use Rattle.ck_core.specs.Trace.{steps_of, missed_in}
use Rattle.ck_core.proofs.LegalTraces.{missed_append}
use Rattle.ck_model.specs.Promise.{Name}
use Rattle.ck_words.specs.Retries.{WatchesMore}
use Rattle.ck_words.proofs.Staying.{found_last}
use Rattle.cuckoo_map.specs.Callers.{CallerState, pass_of}
use Rattle.ck_format.specs.declared.script.Command.{Command}
use Rattle.ck_format.specs.declared.answer.Answer.{Answer}
use Rattle.ck_format.specs.declared.answer.Answer.TheVariants as answer
use Rattle.ck_format.specs.Text.{Pairs}
use Rattle.ck_script.specs.Output.{MissesIfBusy}
use Rattle.ck_script.specs.Answered.{TriesIfBusy}

-- a caller missed one stripe at its last tries, where all found it held
pub misses_if_busy : (turns by : ℕ) (c : Command Name) (a : Answer Pairs) (p q : CallerState ℕ) (more : WatchesMore (pass_of p).view (pass_of q).view) → TriesIfBusy turns c a p q
    → q.notes.steps ≡ p.notes.steps ++ steps_of by more.0 → MissesIfBusy turns by c a more.0
misses_if_busy turns by c answer.Busy p q more tries grown =
    elim tries [
      | inl same ↦ inl same
      | inr last ↦
          let own = steps_of by more.0 in
          let found = found_last turns last.0 (pass_of p) (pass_of q) last.1 in
          inr (last.0, found.0, append_cancel_right (missed_in own) (replicate turns last.0 ++ found.0) (missed_in p.notes.steps) (sym (missed_append p.notes.steps own) ∙ (ap missed_in (sym grown) ∙ found.1)))
    ]
misses_if_busy turns by c a p q more tries grown = tt
