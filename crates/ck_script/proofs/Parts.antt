-- What workers left, without the sessions of refused lists, is the entries of an output.
use Rattle.std.proofs.Common.{◌≡◌, ℕ, ◌+◌, ◌≤◌, Bool, true, false, List, [], ◌∷◌, ◌++◌, length, inl, inr, ⊎_elim, refl, sym, ap, ◌∙◌, subst, append_assoc, append-nil, arith}
use Rattle.std.specs.Prelude.{if◌then◌else◌, ◌==◌}
use Rattle.std.specs.FinMap.{empty, entries}
use Rattle.ck_model.specs.declared.history.Entry.{Entry}
use Rattle.ck_model.specs.declared.history.Reason.{Reason}
use Rattle.ck_model.specs.declared.settings.Settings.{Settings}
use Rattle.ck_model.specs.Promise.{Name, After, IsInterleaving, subhistory, StartsWith}
use Rattle.ck_model.specs.Numbered.{Holds}
use Rattle.ck_model.proofs.Numbered.{if_same, if_else}
use Rattle.ck_model.specs.Contents.{Stripes, bindings}
use Rattle.ck_core.specs.declared.trace.LockEvent.{LockEvent}
use Rattle.ck_core.specs.Trace.{IsLegalTrace, decided_in}
use Rattle.ck_words.specs.Closing.{AreContentsOf}
use Rattle.ck_format.specs.declared.script.Command.{Command}
use Rattle.ck_format.specs.declared.answer.Answer.{Answer}
use Rattle.ck_format.specs.Script.{Said, hash_of}
use Rattle.ck_format.specs.Text.{Pairs, output_text}
use Rattle.ck_script.specs.Output.{StandAmong, WasStuck, HasGrounds, AreEntriesOf, ArePartsOf, IsOutputOf}
use Rattle.ck_script.specs.Answered.{HaveLeft}
use Rattle.ck_script.proofs.Idle.{AreIdle, kept_of, kept_in, kept_parts, kept_among, kept_leads, kept_interleaving, idle_in}
use Rattle.ck_script.proofs.Grounds.{grounds_over, kept_stuck}

module _ (hash : Name → ℕ) (set : Settings) (log : List (Entry ℕ)) where
  -- what each worker left in the steps that it watched, of which the first has the number by
  abbrev pub HaveParts : (n by : ℕ) → (trace : List (LockEvent ℕ)) → List (List (Command Name)) → List (List (Answer Pairs)) → List (ℕ × List (Entry ℕ)) → Type 0
  HaveParts n by trace [] [] parts = parts ≡ []
  HaveParts n by trace (cs ∷ workers) (answers ∷ more) (part ∷ parts) =
      (part.0 ≡ by) × ((steps : List (LockEvent ℕ)) × StartsWith trace steps × HaveLeft hash set log n by [] steps cs answers part.1) × HaveParts n (by + 1) trace workers more parts
  HaveParts n by trace workers answers parts = ⊥

  -- what gives grounds in the history gives them in l, where of the worker's entries these flags keep some
  abbrev IsKept : List (Entry ℕ) → ℕ → List Bool → Type 0
  IsKept l by flags = (done : List (Entry ℕ)) (k : Name) (why : Reason) → WasStuck hash set log by done k why → WasStuck hash set l by (kept_of done flags) k why

  -- the grounds of a command, behind what is kept of the entries that are done
  kept_grounds : (l : List (Entry ℕ)) (by : ℕ) (flags more : List Bool) (done kept : List (Entry ℕ)) (c : Command Name) (a : Answer Pairs) → IsKept l by flags
      → ((xs : List (Entry ℕ)) → kept_of (done ++ xs) flags ≡ kept ++ kept_of xs more) → HasGrounds hash set log by done c a → HasGrounds hash set l by kept c a
  kept_grounds l by flags more done kept c a over same =
      let here : kept_of done flags ≡ kept = ap (λ (es : List (Entry ℕ)). kept_of es flags) (sym (append-nil done)) ∙ same [] ∙ append-nil kept in
      grounds_over hash set log l by done kept (λ k why stuck. subst (λ (es : List (Entry ℕ)). WasStuck hash set l by es k why) here (over done k why stuck)) c a

  -- Flags leave out the sessions of refused lists. What they keep of what a worker's commands left is the commands' entries in any history that keeps just these of the worker's, and in a trace that begins with the worker's steps.
  strictly : (n by : ℕ) (done : List (Entry ℕ)) (steps : List (LockEvent ℕ)) (cs : List (Command Name)) (answers : List (Answer Pairs)) (es : List (Entry ℕ)) (trace : List (LockEvent ℕ)) → StartsWith trace steps → HaveLeft hash set log n by done steps cs answers es
      → (more : List Bool) × AreIdle es more
      × ((l : List (Entry ℕ)) (flags : List Bool) (kept : List (Entry ℕ)) → IsKept l by flags → ((xs : List (Entry ℕ)) → kept_of (done ++ xs) flags ≡ kept ++ kept_of xs more)
      → AreEntriesOf hash set l n by kept trace cs answers (kept_of es more))
  strictly n by done steps [] [] es trace begins h = ([], subst (λ (l : List (Entry ℕ)). AreIdle l []) (sym h.1) tt, λ l flags kept over same. ap (λ (es : List (Entry ℕ)). kept_of es []) h.1)
  strictly n by done steps [] (a ∷ answers) es trace begins h = absurd h
  strictly n by done steps (c ∷ cs) [] es trace begins h = absurd h
  strictly n by done steps (c ∷ cs) (a ∷ answers) es trace begins h =
      let later = h.1 ++ begins.0 in
      let cut : trace ≡ h.0 ++ later = begins.1 ∙ (ap (λ l. l ++ begins.0) h.2 ∙ append_assoc h.0 h.1 begins.0) in
      elim h.5 [
        | inl r ↦
            let rest = strictly n by done h.1 cs answers es later (begins.0, refl) r.1 in
            (rest.0, rest.1, λ l flags kept over same. (h.0, later, cut, inl (r.0, h.3, kept_grounds l by flags rest.0 done kept c a over same h.4, rest.2 l flags kept over same)))
        | inr r ↦
            let rest = strictly n by (done ++ r.0 ∷ []) h.1 cs answers r.1 later (begins.0, refl) r.6 in
            let behind = λ (flags : List Bool) (xs : List (Entry ℕ)). ap (λ (l : List (Entry ℕ)). kept_of l flags) (append_assoc done (r.0 ∷ []) xs) in
            elim r.5 [
              | inl entry ↦ (
                true ∷ rest.0,
                subst (λ (l : List (Entry ℕ)). AreIdle l (true ∷ rest.0)) (sym r.2) (tt, rest.1),
                λ l flags kept over same. (
                  h.0,
                  later,
                  cut,
                  inr (
                    r.0,
                    kept_of r.1 rest.0,
                    ap (λ (l : List (Entry ℕ)). kept_of l (true ∷ rest.0)) r.2,
                    r.3,
                    r.4,
                    entry,
                    rest.2 l flags (kept ++ r.0 ∷ []) over (λ xs. behind flags xs ∙ same (r.0 ∷ xs) ∙ sym (append_assoc kept (r.0 ∷ []) (kept_of xs rest.0))),
                  ),
                ),
              )
              | inr idle ↦ (
                false ∷ rest.0,
                subst (λ (l : List (Entry ℕ)). AreIdle l (false ∷ rest.0)) (sym r.2) (idle.1, rest.1),
                λ l flags kept over same. (
                  h.0,
                  later,
                  cut,
                  inl (
                    idle.0,
                    h.3,
                    kept_grounds l by flags (false ∷ rest.0) done kept c a over same h.4,
                    subst (AreEntriesOf hash set l n by kept later cs answers) (sym (ap (λ (l : List (Entry ℕ)). kept_of l (false ∷ rest.0)) r.2))
                        (rest.2 l flags kept over (λ xs. behind flags xs ∙ same (r.0 ∷ xs))),
                  ),
                ),
              )
            ]
      ]

  -- the same of each worker, whose flags are those of its number
  all_strictly : (n by : ℕ) (trace : List (LockEvent ℕ)) (workers : List (List (Command Name))) (answers : List (List (Answer Pairs))) (parts : List (ℕ × List (Entry ℕ))) → HaveParts n by trace workers answers parts
      → (own : ℕ → List Bool) × ((k : ℕ) (es : List (Entry ℕ)) → Holds parts k es → (by ≤ k) × AreIdle es (own k))
      × ((l : List (Entry ℕ)) (flags : ℕ → List Bool) → ((k : ℕ) → by ≤ k → flags k ≡ own k) → ((k : ℕ) → IsKept l k (flags k)) → ArePartsOf hash set l n by trace workers answers (kept_parts flags parts))
  all_strictly n by trace [] [] parts h = (
    (λ k. []),
    (λ k es held. absurd (subst (λ (ps : List (ℕ × List (Entry ℕ))). Holds ps k es) h held)),
    λ l flags same over. ap (kept_parts flags) h,
  )
  all_strictly n by trace [] (a ∷ answers) parts h = absurd h
  all_strictly n by trace (cs ∷ workers) [] parts h = absurd h
  all_strictly n by trace (cs ∷ workers) (a ∷ answers) [] h = absurd h
  all_strictly n by trace (cs ∷ workers) (a ∷ answers) (part ∷ parts) h =
      let left = h.1 in
      let mine = strictly n by [] left.0 cs a part.1 trace left.1 left.2 in
      let rest = all_strictly n (by + 1) trace workers answers parts h.2 in
      let own : ℕ → List Bool = λ k. if by == k then mine.0 else rest.0 k in (
        own,
        (λ k es held. ⊎_elim
            (λ (here : (part.0 ≡ k) × (part.1 ≡ es)).
            let is = sym h.0 ∙ here.0 in
            (omega arith, subst (λ (fs : List Bool). AreIdle es fs) (sym (if_same by k mine.0 (rest.0 k) is)) (subst (λ (l : List (Entry ℕ)). AreIdle l mine.0) here.1 mine.1)))
            (λ there.
            let inside = rest.1 k es there in
            let above = inside.0 in
            (omega arith, subst (λ (fs : List Bool). AreIdle es fs) (sym (if_else by k mine.0 (rest.0 k) (λ e. omega arith))) inside.1))
            held),
        λ l flags same over.
            let is : flags part.0 ≡ mine.0 = ap flags h.0 ∙ same by (omega arith) ∙ if_same by by mine.0 (rest.0 by) refl in (
              h.0,
              subst (λ (fs : List Bool). AreEntriesOf hash set l n by [] trace cs a (kept_of part.1 fs)) (sym is)
                  (mine.2 l (flags by) [] (over by) (λ xs. ap (kept_of xs) (sym (ap flags h.0) ∙ is))),
              rest.2 l flags (λ k le. same k (omega arith) ∙ if_else by k mine.0 (rest.0 k) (λ e. omega arith)) over,
            ),
      )

-- the text of the answers and of the pairs is an output
pub output_of_parts : (said : Said) (answers : List (List (Answer Pairs))) (parts : List (ℕ × List (Entry ℕ))) (log : List (Entry ℕ)) (trace : List (LockEvent ℕ)) (contents : Stripes ℕ) (out : List ℕ)
    → HaveParts (hash_of said.keys) said.settings log (length said.workers) 0 trace said.workers answers parts → IsInterleaving log parts → IsLegalTrace trace → decided_in trace ≡ log → After log (bindings contents) → AreContentsOf (hash_of said.keys) said.settings contents
    → out ≡ output_text said.keys answers (entries (bindings contents)) → IsOutputOf said out
output_of_parts said answers parts log trace contents out have interleaving legal decided after of_table text =
    let hash = hash_of said.keys in
    let strict = all_strictly hash said.settings log (length said.workers) 0 trace said.workers answers parts have in
    let flags = strict.0 in
    let idle = idle_in log parts flags interleaving (λ k es held. (strict.1 k es held).1) in
    record {
      answers = answers;
      parts = kept_parts flags parts;
      log = kept_in flags log;
      contents = contents;
      trace = trace;
      entries_of = strict.2 (kept_in flags log) flags (λ k le. refl) (kept_stuck hash said.settings log flags idle);
      interleaving = kept_interleaving log parts flags interleaving;
      legal_trace = legal;
      order = subst (StandAmong (kept_in flags log)) (sym decided) (kept_among log flags);
      legal = kept_leads log [] flags empty (bindings contents) (λ k. subst (λ (es : List (Entry ℕ)). AreIdle (subhistory k es) (flags k)) (sym (append-nil log)) (idle k)) after;
      of_table = of_table;
      text = text;
    }
