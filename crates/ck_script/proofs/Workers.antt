-- What the workers of a run leave is its output.
use Rattle.std.proofs.Common.{◌≡◌, Result, Ok, Err, ℕ, zero, suc, ◌<◌, List, [], ◌∷◌, ◌++◌, length, map, All, refl, sym, ap, ◌∙◌, subst, add-one, arith, ◌≤◌, Some}
use Rattle.std.specs.Prelude.{Option, unwrap_or, IfOk, vec_len, get_or}
use denote.Param.Members.{Shared}
use Rattle.std.specs.Fn.{FnReturns}
use Rattle.std.specs.Fork.{GivesJobs}
use Rattle.std.specs.Global.{Vec}
use Rattle.std.specs.List.{AllZip, zip, slice_index_or}
use Rattle.std.specs.FinMap.{entries}
use Rattle.std.specs.declared.cmp.Ordering.{Ordering}
use Rattle.std.proofs.lemmas.List.{length-map, map-append}
use Rattle.std.proofs.lemmas.List.Elements.{All-append, All-map, All-pop}
use Rattle.std.proofs.lemmas.Slice.Zip.{all_zipped_more, length-zip, get_or-zip}
use Rattle.ck_model.specs.declared.history.Entry.{Entry}
use Rattle.ck_model.specs.declared.settings.Settings.{Settings}
use Rattle.ck_model.specs.Promise.{Name, Map, name_cmp, After}
use Rattle.ck_model.specs.Listing.{named, ListsInOrder}
use Rattle.ck_model.proofs.Entries.{entries_listed}
use Rattle.ck_model.specs.Numbered.{IsIn, numbers}
use Rattle.ck_model.specs.Counting.{counting}
use Rattle.ck_core.specs.declared.trace.LockEvent.{LockEvent}
use Rattle.ck_words.specs.Words.{WordsState}
use Rattle.ck_words.specs.Passes.{PassState}
use Rattle.cuckoo_map.specs.Callers.{CallerState, pass_of, callers_of, AreOthers}
use Rattle.ck_words.specs.Closing.{IsCaller, EachSaw, EachWatched, AreContentsOf, Closes, dealt, parts_of}
use Rattle.ck_model.proofs.Counting.{in_counting}
use Rattle.ck_format.specs.declared.script.Keys.{Keys}
use Rattle.ck_format.specs.declared.script.Command.{Command}
use Rattle.ck_format.specs.declared.script.Work.{Work}
use Rattle.ck_format.specs.declared.answer.Answer.{Answer}
use Rattle.ck_script.specs.declared.job.Job.{Job}
use Rattle.ck_script.specs.declared.job.Done.{Done}
use Rattle.ck_format.specs.Script.{on_names, hash_of, said_in, workers_on_names}
use Rattle.ck_format.specs.Text.{Pairs, output_text}
use Rattle.ck_script.specs.Output.{IsOutputOf}
use Rattle.ck_format.specs.Answers.{answers_on_names, lists_on_names}
use Rattle.ck_script.specs.Answered.{HaveLeft}
use Rattle.ck_script.specs.Jobs.{IsNew, IsJob, HasWorked, HasPass, AreAllHandles, IsTextAtEnd, answers_of, handles_of}
use Rattle.ck_script.proofs.Grounds.{later_left}
use Rattle.ck_script.proofs.Parts.{HaveParts, output_of_parts}

-- so the callers of passes that were dealt are new
pub dealt_new : (w : WordsState) (set : Settings) (ms : List ℕ) (cs : List (CallerState ℕ)) → cs ≡ callers_of w (dealt w.table set ms) → All IsNew cs
dealt_new w set ms cs is = subst (All IsNew) (sym is) (all_new ms)
  where
    all_new : (ms : List ℕ) → All IsNew (callers_of w (dealt w.table set ms))
    all_new [] k d lt = absurd (omega arith)
    all_new (m ∷ ms) zero d lt = record { no_entry = refl; unseen = refl; unwatched = refl }
    all_new (m ∷ ms) (suc k) d lt = all_new ms k d (omega arith)

module _ {K : Type 0} (hash : Name → ℕ) (name : K → Name) (w : WordsState) (set : Settings) where
  abbrev pub Given : ℕ → List (Vec (Command K)) → List (Job K) → Type 0
  Given a workers jobs = AllZip IsJob (zip (callers_of w (dealt w.table set (counting a (length workers)))) workers) jobs

  abbrev pub Worked : List (Job K) → List (Done K) → Type 0
  Worked jobs dones = AllZip (HasWorked hash name) jobs dones

  -- the passes of those who are done
  abbrev pub passes_left : List (Done K) → List (PassState ℕ)
  passes_left dones = map pass_of (handles_of dones)

  -- what the workers left, by their numbers, in a history and a trace that begin with what each has seen and watched
  pub done_parts : (log : List (Entry ℕ)) (trace : List (LockEvent ℕ)) (a : ℕ) (workers : List (Vec (Command K))) (jobs : List (Job K)) (dones : List (Done K)) → EachSaw log (passes_left dones) → EachWatched trace (passes_left dones)
      → Given a workers jobs → Worked jobs dones → HaveParts hash w.settings log w.settings.callers a trace (workers_on_names name workers) (lists_on_names name (answers_of dones)) (parts_of (passes_left dones))
  done_parts log trace a [] [] [] saw watched given worked = refl
  done_parts log trace a [] [] (d ∷ dones) saw watched given worked = absurd worked
  done_parts log trace a [] (j ∷ jobs) dones saw watched given worked = absurd given
  done_parts log trace a (cs ∷ workers) [] dones saw watched given worked = absurd given
  done_parts log trace a (cs ∷ workers) (j ∷ jobs) [] saw watched given worked = absurd worked
  done_parts log trace a (cs ∷ workers) (j ∷ jobs) (d ∷ dones) saw watched given worked =
      let by = ap (λ (c : CallerState ℕ). c.client.by) given.0.handle in
      let table = worked.0.same.table ∙ ap (λ (c : CallerState ℕ). c.table) given.0.handle in
      let told = d.answers.items in
      let left : HaveLeft hash w.settings d.handle.client.seen w.settings.callers a [] d.handle.notes.watched (map (on_names name) cs.items) (answers_on_names name told) d.handle.client.mine =
      subst (λ (x : WordsState × Vec (Command K)). HaveLeft hash x.0.settings d.handle.client.seen x.0.settings.callers a [] d.handle.notes.watched (map (on_names name) x.1.items) (answers_on_names name told) d.handle.client.mine) (λ i. (table i, given.0.commands i)) (worked.0.left a by) in (
        ap (λ (o : Option ℕ). unwrap_or o 0) (worked.0.same.by ∙ by),
        (
          d.handle.notes.watched,
          watched 0 (pass_of d.handle) (omega arith),
          later_left hash w.settings d.handle.client.seen log w.settings.callers a [] d.handle.notes.watched (map (on_names name) cs.items) (answers_on_names name told) d.handle.client.mine (saw 0 (pass_of d.handle) (omega arith)) left,
        ),
        subst (λ n. HaveParts hash w.settings log w.settings.callers n trace (workers_on_names name workers) (lists_on_names name (answers_of dones)) (parts_of (passes_left dones))) (sym (add-one a))
            (done_parts log trace (suc a) workers jobs dones (λ k p lt. saw (suc k) p (omega arith)) (λ k p lt. watched (suc k) p (omega arith)) given.1 worked.1),
      )

  done_tables : (a : ℕ) (workers : List (Vec (Command K))) (jobs : List (Job K)) (dones : List (Done K)) → Given a workers jobs → Worked jobs dones → All (λ (c : CallerState ℕ). c.table ≡ w) (handles_of dones)
  done_tables a [] [] [] given worked k d lt = absurd (omega arith)
  done_tables a [] [] (e ∷ dones) given worked k d lt = absurd worked
  done_tables a [] (j ∷ jobs) dones given worked k d lt = absurd given
  done_tables a (cs ∷ workers) [] dones given worked k d lt = absurd given
  done_tables a (cs ∷ workers) (j ∷ jobs) [] given worked k d lt = absurd worked
  done_tables a (cs ∷ workers) (j ∷ jobs) (e ∷ dones) given worked zero d lt = worked.0.same.table ∙ ap (λ (c : CallerState ℕ). c.table) given.0.handle
  done_tables a (cs ∷ workers) (j ∷ jobs) (e ∷ dones) given worked (suc k) d lt = done_tables (suc a) workers jobs dones given.1 worked.1 k d (omega arith)

  done_numbers : (a : ℕ) (workers : List (Vec (Command K))) (jobs : List (Job K)) (dones : List (Done K)) → Given a workers jobs → Worked jobs dones
      → numbers (parts_of (passes_left dones)) ≡ counting a (length workers)
  done_numbers a [] [] [] given worked = refl
  done_numbers a [] [] (d ∷ dones) given worked = absurd worked
  done_numbers a [] (j ∷ jobs) dones given worked = absurd given
  done_numbers a (cs ∷ workers) [] dones given worked = absurd given
  done_numbers a (cs ∷ workers) (j ∷ jobs) [] given worked = absurd worked
  done_numbers a (cs ∷ workers) (j ∷ jobs) (d ∷ dones) given worked =
      let first = ap (λ (o : Option ℕ). unwrap_or o 0) (worked.0.same.by ∙ ap (λ (c : CallerState ℕ). c.client.by) given.0.handle) in
      let rest = done_numbers (suc a) workers jobs dones given.1 worked.1 in
      λ i. first i ∷ rest i

  -- the handles of the workers are all of the table's
  pub done_handles : (workers : List (Vec (Command K))) (jobs : List (Job K)) (dones : List (Done K)) → w.settings.callers ≡ length workers → 1 ≤ w.settings.callers → Given 0 workers jobs → Worked jobs dones
      → AreAllHandles w (handles_of dones)
  done_handles workers jobs dones count some given worked = record {
    table = done_tables 0 workers jobs dones given worked;
    all = λ m lt. subst (IsIn m) (sym (done_numbers 0 workers jobs dones given worked)) (in_counting (length workers) m (omega arith));
    some = some;
  }

-- a table has a handle
pub some_handle : (w : WordsState) (cs : List (CallerState ℕ)) → AreAllHandles w cs → ¬ (length cs ≡ 0)
some_handle w [] all none = all.all 0 all.some
some_handle w (c ∷ cs) all none = omega arith

-- all handles of a table, and the last of them
module _ (w : WordsState) (cs os : List (CallerState ℕ)) (last : CallerState ℕ) (is : cs ≡ os ++ last ∷ []) (all : AreAllHandles w cs) where
  tables : All (λ (c : CallerState ℕ). c.table ≡ w) os × (last.table ≡ w)
  tables = All-pop (λ (c : CallerState ℕ). c.table ≡ w) cs os (Some last) is all.table

  passes_are : map pass_of cs ≡ map pass_of os ++ pass_of last ∷ []
  passes_are = ap (map pass_of) is ∙ map-append pass_of os (last ∷ [])

  -- the passes of the others
  pub are_others : (passes : List (PassState ℕ)) → passes ≡ map pass_of os → All HasPass os → AreOthers last passes
  are_others passes same own =
      let here : All (IsCaller w) (map pass_of os) = All-map (IsCaller w) pass_of os (λ k d lt. subst (λ (x : WordsState). IsCaller x (pass_of (get_or os k d))) (tables.0 k d lt) (own k d lt)) in
      record {
        callers = subst (λ (x : WordsState × List (PassState ℕ)). All (IsCaller x.0) x.1) (λ i. (sym tables.1 i, sym same i)) here;
        all = λ m lt. subst (λ (ps : List (PassState ℕ)). IsIn m (numbers (parts_of ps))) (passes_are ∙ ap (λ (ps : List (PassState ℕ)). ps ++ pass_of last ∷ []) (sym same)) (all.all m (subst (λ (x : WordsState). m < x.settings.callers) tables.1 lt));
      }

  -- what ended the table ended it for all
  pub closes_all : (hash : Name → ℕ) (m : Map ℕ) (passes : List (PassState ℕ)) → passes ≡ map pass_of os → Closes hash last.table.settings (passes ++ pass_of last ∷ []) m → Closes hash w.settings (map pass_of cs) m
  closes_all hash m passes same closes =
      subst (λ (x : WordsState × List (PassState ℕ)). Closes hash x.0.settings x.1 m) (λ i. (tables.1 i, (ap (λ (ps : List (PassState ℕ)). ps ++ pass_of last ∷ []) same ∙ sym passes_are) i)) closes

-- what calls returned to their jobs, list by list
module _ {K F : Type 0} (hash : Name → ℕ) (name : K → Name) (g : Shared F (Job K × Unit {0}) (Done K)) (f : F) where
  worked_each : (jobs : List (Job K)) (dones : List (Done K)) → length dones ≡ length jobs → ((i : ℕ) (j : Job K) (d : Done K) → i < length jobs → HasWorked hash name (slice_index_or jobs i j) (slice_index_or dones i d)) → AllZip (HasWorked hash name) jobs dones
  worked_each [] [] e h = tt
  worked_each [] (d ∷ dones) e h = absurd (omega arith)
  worked_each (j ∷ jobs) [] e h = absurd (omega arith)
  worked_each (j ∷ jobs) (d ∷ dones) e h = (h 0 j d (omega arith), worked_each jobs dones (omega arith) (λ i a b lt. h (suc i) a b (omega arith)))

  pub all_worked : {E : Type 0} (jobs : Vec (Job K)) (r : Result (Vec (Done K)) E) → IfOk r (λ v. vec_len v ≡ vec_len jobs) → IfOk r (λ v. GivesJobs g f jobs.items v.items)
      → ((j : Job K) (d : Done K) → FnReturns g f (j, tt) d → HasWorked hash name j d) → IfOk r (λ v. AllZip (HasWorked hash name) jobs.items v.items)
  all_worked jobs (Ok v) len gives returns =
      worked_each jobs.items v.items (omega arith) (λ i j d lt. let one = (gives i d lt).1 in subst (λ (x : Job K). HasWorked hash name x (slice_index_or v.items i d)) (sym (one.job_is j)) (returns one.job (slice_index_or v.items i d) one.call))
  all_worked jobs (Err e) len gives returns = tt

-- what holds of each of the first things holds of that of a pair
pub first_of_zip : {A B : Type 0} (P : A → Type 0) (xs : List A) (ys : List B) (i : ℕ) (p : A × B) → All P xs → (i < length (zip xs ys)) × (p ≡ slice_index_or (zip xs ys) i p) → P p.0
first_of_zip {A} {B} P xs ys i p all turn =
    let both = length-zip xs ys in
    let lt = turn.0 in
    let inside : i < length xs = omega arith in
    let there : i < length ys = omega arith in
    subst P (sym (ap (λ (q : A × B). q.0) (turn.1 ∙ get_or-zip xs ys i p inside there))) (all i p.0 inside)

-- one job more
pub job_more : {K : Type 0} (given : List (CallerState ℕ × Vec (Command K))) (jobs items : List (Job K)) (next : CallerState ℕ × Vec (Command K)) (job : Job K)
    → AllZip IsJob given jobs → IsJob next job → items ≡ jobs ++ job ∷ [] → AllZip IsJob (given ++ next ∷ []) items
job_more {K} given jobs items next job all is pushed =
    subst (λ (l : List (Job K)). AllZip IsJob (given ++ next ∷ []) l) (sym pushed) (all_zipped_more IsJob given jobs next job all is)

pub all_more : {A : Type 0} (P : A → Type 0) (xs items : List A) (x : A) → All P xs → P x → items ≡ xs ++ x ∷ [] → All P items
all_more {A} P xs items x all is pushed = subst (All P) (sym pushed) (All-append P xs (x ∷ []) all (alone x is))
  where
    alone : (x : A) → P x → All P (x ∷ [])
    alone x is zero d lt = is
    alone x is (suc k) d lt = absurd (omega arith)

-- the text of the answers, and of the pairs that a closed table gave
pub text_at_end : {K E : Type 0} (hash : Name → ℕ) (name : K → Name) (cmp : K → K → Ordering) → ((a b : K) → cmp a b ≡ name_cmp (name a) (name b)) → (keys : Keys) → hash ≡ hash_of keys
    → (set : Settings) (passes : List (PassState ℕ)) (answers : List (List (Answer Pairs))) (pairs : List (K × ℕ)) (m : Map ℕ) (r : Result (Vec ℕ) E) → Closes hash set passes m → ListsInOrder name cmp pairs m
    → IfOk r (λ text. text.items ≡ output_text keys answers (map (named name) pairs)) → IfOk r (λ text. IsTextAtEnd keys set passes answers text.items)
text_at_end hash name cmp in_order keys hashed set passes answers pairs m (Ok text) closes lists is = record {
  log = closes.log;
  contents = closes.contents;
  interleaving = closes.interleaving;
  saw = closes.saw;
  trace = closes.trace;
  legal_trace = closes.legal;
  decided = closes.decided;
  watched = closes.watched;
  legal = subst (After closes.log) (sym closes.binds) closes.after;
  of_table = subst (λ (h : Name → ℕ). AreContentsOf h set closes.contents) hashed closes.of_table;
  text_is = is ∙ ap (output_text keys answers) (entries_listed name cmp in_order pairs m lists ∙ ap entries (sym closes.binds));
}
text_at_end hash name cmp in_order keys hashed set passes answers pairs m (Err e) closes lists is = tt

module _ {K : Type 0} (hash : Name → ℕ) (name : K → Name) (w : WordsState) (set : Settings) where
  -- the jobs are those of the handles that were opened
  given_dealt : (workers : List (Vec (Command K))) (handles : List (CallerState ℕ)) (jobs : List (Job K)) → handles ≡ callers_of w (dealt w.table set (counting 0 set.callers)) → set.callers ≡ length workers
      → AllZip IsJob (zip handles workers) jobs → Given hash name w set 0 workers jobs
  given_dealt workers handles jobs is count given =
      subst (λ (cs : List (CallerState ℕ)). AllZip IsJob (zip cs workers) jobs) (is ∙ ap (λ n. callers_of w (dealt w.table set (counting 0 n))) count) given

-- The work's jobs got the handles that were opened, and those who are done handed these back.
module _ {K : Type 0} (hash : Name → ℕ) (name : K → Name) (w : WordsState) (work : Work K) (opened back : List (CallerState ℕ)) (jobs : List (Job K)) (dones : List (Done K))
    (settings : w.settings ≡ work.settings) (are_dealt : opened ≡ callers_of w (dealt w.table work.settings (counting 0 work.settings.callers))) (are_jobs : AllZip IsJob (zip opened work.workers.items) jobs)
    (worked : AllZip (HasWorked hash name) jobs dones) (are_back : back ≡ handles_of dones) where
  given : Given hash name w work.settings 0 work.workers.items jobs
  given = given_dealt hash name w work.settings work.workers.items opened jobs are_dealt work.callers are_jobs

  -- they are all of the table's
  pub all_back : AreAllHandles w back
  all_back = subst (AreAllHandles w) (sym are_back)
      (done_handles hash name w work.settings work.workers.items jobs dones (ap (λ (s : Settings). s.callers) settings ∙ work.callers) (subst (λ (s : Settings). 1 ≤ s.callers) (sym settings) work.range.caller) given worked)

  -- the text at the end is an output of the work
  pub output_of_run : {E : Type 0} (keys : Keys) (answers : List (Vec (Answer (Vec (K × ℕ))))) (r : Result (Vec ℕ) E) → hash ≡ hash_of keys → answers ≡ answers_of dones
      → (AreAllHandles w back → IfOk r (λ text. IsTextAtEnd keys w.settings (map pass_of back) (lists_on_names name answers) text.items)) → IfOk r (λ text. IsOutputOf (said_in keys name work) text.items)
  output_of_run keys answers (Ok text) hashed are_answers at_end =
      let workers = work.workers.items in
      let named_workers = workers_on_names name workers in
      let told = lists_on_names name (answers_of dones) in
      let end : IsTextAtEnd keys work.settings (map pass_of (handles_of dones)) told text.items =
      subst (λ (s : Settings). IsTextAtEnd keys s (map pass_of (handles_of dones)) told text.items) settings
      (subst (λ (cs : List (CallerState ℕ)). IsTextAtEnd keys w.settings (map pass_of cs) told text.items) are_back
      (subst (λ (lists : List (Vec (Answer (Vec (K × ℕ))))). IsTextAtEnd keys w.settings (map pass_of back) (lists_on_names name lists) text.items) are_answers (at_end all_back))) in
      let count : w.settings.callers ≡ length named_workers =
      ap (λ (s : Settings). s.callers) settings ∙ work.callers ∙ sym (length-map workers (λ (cs : Vec (Command K)). map (on_names name) cs.items)) in
      let have : HaveParts (hash_of keys) work.settings end.log (length named_workers) 0 end.trace named_workers told (parts_of (map pass_of (handles_of dones))) =
      subst (λ (x : (Name → ℕ) × Settings × ℕ). HaveParts x.0 x.1 end.log x.2 0 end.trace named_workers told (parts_of (map pass_of (handles_of dones)))) (λ i. (hashed i, settings i, count i))
      (done_parts hash name w work.settings end.log end.trace 0 workers jobs dones end.saw end.watched given worked) in
      output_of_parts (said_in keys name work) told (parts_of (map pass_of (handles_of dones))) end.log end.trace end.contents text.items have end.interleaving end.legal_trace end.decided end.legal end.of_table end.text_is
  output_of_run keys answers (Err e) hashed are_answers at_end = tt
