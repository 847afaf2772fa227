-- Grounds of refusals in one history are grounds in another.
use Rattle.std.proofs.Common.{ℕ, Bool, List, [], ◌∷◌, ◌++◌, inl, inr, ap, ◌∙◌, subst, sym}
use Rattle.std.specs.FinMap.{empty}
use Rattle.ck_model.specs.declared.history.Entry.{Entry}
use Rattle.ck_model.specs.declared.history.Reason.{Reason}
use Rattle.ck_model.specs.declared.history.Reason.TheVariants as reason
use Rattle.ck_model.specs.declared.settings.Settings.{Settings}
use Rattle.ck_model.specs.Contents.{bindings}
use Rattle.ck_model.specs.Promise.{Name, StartsWith, subhistory}
use Rattle.ck_core.specs.declared.trace.LockEvent.{LockEvent}
use Rattle.ck_words.proofs.Staying.{starts_on}
use Rattle.ck_format.specs.declared.script.Command.{Command}
use Rattle.ck_format.specs.declared.script.Command.TheVariants as command
use Rattle.ck_format.specs.declared.answer.Answer.{Answer}
use Rattle.ck_format.specs.declared.answer.Answer.TheVariants as answer
use Rattle.ck_format.specs.Text.{Pairs}
use Rattle.ck_script.specs.Output.{WasStuck, HasGroundsFor, HasGrounds}
use Rattle.ck_script.specs.Answered.{HaveLeft}
use Rattle.ck_script.proofs.Idle.{AreIdle, kept_of, kept_in, kept_each, kept_start, kept_leads}

module _ (hash : Name → ℕ) (set : Settings) (log l : List (Entry ℕ)) where
  -- what gives grounds in the one history, with these entries of the worker's, gives them in the other with those
  module _ (by : ℕ) (done kept : List (Entry ℕ)) (over : (k : Name) (why : Reason) → WasStuck hash set log by done k why → WasStuck hash set l by kept k why) where
    grounds_for_over : (k : Name) (a : Answer Pairs) → HasGroundsFor hash set log by done k a → HasGroundsFor hash set l by kept k a
    grounds_for_over k answer.Memory stuck = over k reason.Memory stuck
    grounds_for_over k answer.Full stuck = over k reason.Full stuck
    grounds_for_over k answer.Load stuck = over k reason.LoadTooLow stuck
    grounds_for_over k a none = none

    pub grounds_over : (c : Command Name) (a : Answer Pairs) → HasGrounds hash set log by done c a → HasGrounds hash set l by kept c a
    grounds_over (command.Insert k n) a grounds = grounds_for_over k a grounds
    grounds_over (command.Assign k n) a grounds = grounds_for_over k a grounds
    grounds_over (command.Add k n) a grounds = grounds_for_over k a grounds
    grounds_over c a none = none

  -- a table that was stuck in one history was so in one that begins with it
  later_stuck : (by : ℕ) (done : List (Entry ℕ)) (k : Name) (why : Reason) → StartsWith l log → WasStuck hash set log by done k why → WasStuck hash set l by done k why
  later_stuck by done k why begins stuck = record {
    start = stuck.start;
    begins = starts_on stuck.start log l stuck.begins begins;
    own = stuck.own;
    contents = stuck.contents;
    after = stuck.after;
    grounds = stuck.grounds;
  }

  -- what a worker's commands left in a history they left in one that begins with it
  pub later_left : (n by : ℕ) (done : List (Entry ℕ)) (steps : List (LockEvent ℕ)) (cs : List (Command Name)) (answers : List (Answer Pairs)) (es : List (Entry ℕ)) → StartsWith l log
      → HaveLeft hash set log n by done steps cs answers es → HaveLeft hash set l n by done steps cs answers es
  later_left n by done steps [] [] es begins h = h
  later_left n by done steps [] (a ∷ answers) es begins h = absurd h
  later_left n by done steps (c ∷ cs) [] es begins h = absurd h
  later_left n by done steps (c ∷ cs) (a ∷ answers) es begins h = (
    h.0,
    h.1,
    h.2,
    h.3,
    grounds_over by done done (λ k why. later_stuck by done k why begins) c a h.4,
    elim h.5 [
      | inl r ↦ inl (r.0, later_left n by done h.1 cs answers es begins r.1)
      | inr r ↦ inr (r.0, r.1, r.2, r.3, r.4, r.5, later_left n by (done ++ r.0 ∷ []) h.1 cs answers r.1 begins r.6)
    ],
  )

-- a table that was stuck in a history was so in what is kept of it, with what is kept of the worker's entries
pub kept_stuck : (hash : Name → ℕ) (set : Settings) (log : List (Entry ℕ)) (flags : ℕ → List Bool) → ((k : ℕ) → AreIdle (subhistory k log) (flags k))
    → (by : ℕ) (done : List (Entry ℕ)) (k : Name) (why : Reason) → WasStuck hash set log by done k why → WasStuck hash set (kept_in flags log) by (kept_of done (flags by)) k why
kept_stuck hash set log flags idle by done k why stuck =
    let start = stuck.start in
    let more = stuck.begins.0 in
    record {
      start = kept_in flags start;
      begins = subst (λ (es : List (Entry ℕ)). StartsWith (kept_in flags es) (kept_in flags start)) (sym stuck.begins.1) (kept_start start more flags);
      own = kept_each start flags by ∙ ap (λ (es : List (Entry ℕ)). kept_of es (flags by)) stuck.own;
      contents = stuck.contents;
      after = kept_leads start more flags empty (bindings stuck.contents) (λ n. subst (λ (es : List (Entry ℕ)). AreIdle (subhistory n es) (flags n)) stuck.begins.1 (idle n)) stuck.after;
      grounds = stuck.grounds;
    }
