-- The entries that a caller's commands left, and the grounds of those that were refused.
use Rattle.std.proofs.Common.{◌≡◌, ◌⊎◌, ℕ, List, [], ◌∷◌, ◌++◌, map, sym, refl, ap, subst, inl, inr, ◌∙◌, append_assoc, append-nil, Some}
use Rattle.std.specs.Global.{Vec}
use Rattle.std.proofs.lemmas.List.{map-append, append_cancel_left}
use Rattle.ck_model.specs.declared.history.Entry.{Entry}
use Rattle.ck_model.specs.declared.history.Reason.{Reason}
use Rattle.ck_model.specs.declared.history.Reason.TheVariants as reason
use Rattle.ck_model.specs.declared.settings.Settings.{Settings}
use Rattle.ck_model.specs.Promise.{Name, After, subhistory}
use Rattle.ck_model.specs.Contents.{layout_of, Stripes, bindings}
use Rattle.ck_model.specs.Paths.{Grounds}
use Rattle.ck_model.proofs.Histories.{starts_itself}
use Rattle.ck_core.specs.declared.trace.LockEvent.{LockEvent}
use Rattle.ck_core.specs.Trace.{decided_in, steps_of}
use Rattle.ck_words.specs.Words.{WordsState}
use Rattle.ck_words.specs.Passes.{PassState}
use Rattle.ck_refusal.specs.declared.refusal.Why.{Why}
use Rattle.ck_refusal.specs.declared.refusal.Why.TheVariants.{Busy, Memory, Full, LoadTooLow}
use Rattle.cuckoo_map.specs.Refusals.{IsRefused}
use Rattle.cuckoo_map.specs.Callers.{CallerState, pass_of, IsSameCaller}
use Rattle.ck_format.specs.declared.script.Command.{Command}
use Rattle.ck_format.specs.declared.script.Command.TheVariants as command
use Rattle.ck_format.specs.declared.answer.Answer.{Answer}
use Rattle.ck_format.specs.Script.{on_names}
use Rattle.ck_format.specs.Text.{Pairs}
use Rattle.ck_format.specs.Answers.{answer_on_names, answers_on_names}
use Rattle.ck_script.specs.Output.{NeedsRoom, IsRefusal, MissesIfBusy, WasStuck, HasGroundsFor, HasGrounds}
use Rattle.ck_script.specs.Answered.{printed, PrintsWhy, CommandPrintsWhy, HasOthers, IsLeft, StaysOrGrows, SeesMore, TriesIfBusy, HaveLeft, IsAnsweredBy}
use Rattle.ck_script.specs.Jobs.{HasMade}
use Rattle.ck_script.proofs.Grounds.{later_left}
use Rattle.ck_script.proofs.Seen.{sees_own}
use Rattle.ck_script.proofs.Watched.{misses_if_busy}

-- the command is refused and its caller's entries stay, or they grow by one, which these steps decide
abbrev StaysOrDecides : (n by : ℕ) → Command Name → Answer Pairs → List (LockEvent ℕ) → List (Entry ℕ) → List (Entry ℕ) → Type 0
StaysOrDecides n by c a steps old new =
    (IsRefusal n c a × (new ≡ old))
    ⊎ ((e : Entry ℕ) × (e.by ≡ by) × (decided_in (steps_of by steps) ≡ e ∷ []) × IsLeft n c a e × (new ≡ old ++ e ∷ []))

-- where these steps decided what the caller has more
decides_more : (n by : ℕ) (c : Command Name) (a : Answer Pairs) (steps : List (LockEvent ℕ)) (old new : List (Entry ℕ)) → StaysOrGrows n by c a old new → new ≡ old ++ decided_in (steps_of by steps) → StaysOrDecides n by c a steps old new
decides_more n by c a steps old new grows decided =
    elim grows [
      | inl h ↦ inl h
      | inr h ↦ inr (h.0, h.1, append_cancel_left old (decided_in (steps_of by steps)) (h.0 ∷ []) (sym decided ∙ h.3), h.2, h.3)
    ]

module _ (hash : Name → ℕ) (set : Settings) (log : List (Entry ℕ)) (n by : ℕ) where
  -- what the last command left
  left_last : (done : List (Entry ℕ)) (steps : List (LockEvent ℕ)) (c : Command Name) (a : Answer Pairs) (new : List (Entry ℕ)) → StaysOrDecides n by c a steps [] new → MissesIfBusy set.turns by c a steps
      → HasGrounds hash set log by done c a → HaveLeft hash set log n by done steps (c ∷ []) (a ∷ []) new
  left_last done steps c a new grows misses grounds = (
    steps,
    [],
    sym (append-nil steps),
    misses,
    grounds,
    elim grows [
      | inl h ↦ inl (h.0, (refl, h.1))
      | inr h ↦ inr (h.0, [], h.4, h.1, h.2, h.3, (refl, refl))
    ],
  )

  -- one command more
  left_more : (done : List (Entry ℕ)) (steps more : List (LockEvent ℕ)) (cs : List (Command Name)) (answers : List (Answer Pairs)) (old new : List (Entry ℕ)) (c : Command Name) (a : Answer Pairs)
      → HaveLeft hash set log n by done steps cs answers old → StaysOrDecides n by c a more old new → MissesIfBusy set.turns by c a more → HasGrounds hash set log by (done ++ old) c a
      → HaveLeft hash set log n by done (steps ++ more) (cs ++ c ∷ []) (answers ++ a ∷ []) new
  left_more done steps more [] [] old new c a h grows misses grounds =
      subst (λ (l : List (LockEvent ℕ)). HaveLeft hash set log n by done (l ++ more) (c ∷ []) (a ∷ []) new) (sym h.0)
      (left_last done more c a new (subst (λ (es : List (Entry ℕ)). StaysOrDecides n by c a more es new) h.1 grows) misses
      (subst (λ (es : List (Entry ℕ)). HasGrounds hash set log by es c a) (ap (λ (es : List (Entry ℕ)). done ++ es) h.1 ∙ append-nil done) grounds))
  left_more done steps more [] (x ∷ xs) old new c a h grows misses grounds = absurd h
  left_more done steps more (d ∷ cs) [] old new c a h grows misses grounds = absurd h
  left_more done steps more (d ∷ cs) (x ∷ xs) old new c a h grows misses grounds = (
    h.0,
    h.1 ++ more,
    ap (λ l. l ++ more) h.2 ∙ append_assoc h.0 h.1 more,
    h.3,
    h.4,
    elim h.5 [
      | inl r ↦ inl (r.0, left_more done h.1 more cs xs old new c a r.1 grows misses grounds)
      | inr r ↦
          let there = subst (λ (es : List (Entry ℕ)). HasGrounds hash set log by es c a) (ap (λ (es : List (Entry ℕ)). done ++ es) r.2 ∙ sym (append_assoc done (r.0 ∷ []) r.1)) grounds in
          elim grows [
            | inl g ↦ inr (r.0, r.1, g.1 ∙ r.2, r.3, r.4, r.5, left_more (done ++ r.0 ∷ []) h.1 more cs xs r.1 r.1 c a r.6 (inl (g.0, refl)) misses there)
            | inr g ↦
                inr (
                  r.0,
                  r.1 ++ g.0 ∷ [],
                  g.4 ∙ ap (λ (es : List (Entry ℕ)). es ++ g.0 ∷ []) r.2,
                  r.3,
                  r.4,
                  r.5,
                  left_more (done ++ r.0 ∷ []) h.1 more cs xs r.1 (r.1 ++ g.0 ∷ []) c a r.6 (inr (g.0, g.1, g.2, g.3, refl)) misses there,
                )
          ]
    ],
  )

-- a command that is another's name
pub answered_as : (hash : Name → ℕ) (c d : Command Name) (a b : Answer Pairs) (p q r : CallerState ℕ) → IsAnsweredBy hash c a p q → d ≡ c → b ≡ a → r ≡ q → IsAnsweredBy hash d b p r
answered_as hash c d a b p q r h same_command same_answer same_caller =
    subst (λ (s : CallerState ℕ). IsAnsweredBy hash d b p s) (sym same_caller)
    (subst (λ (x : Answer Pairs). IsAnsweredBy hash d x p q) (sym same_answer)
    (subst (λ (x : Command Name). IsAnsweredBy hash x a p q) (sym same_command) h))

-- a worker's command more
pub left_by_one : {K : Type 0} (hash : Name → ℕ) (name : K → Name) (by : ℕ) (commands : List (Command K)) (command : Command K) (answers items : List (Answer (Vec (K × ℕ)))) (answer : Answer (Vec (K × ℕ))) (p q : CallerState ℕ)
    → p.client.by ≡ Some by → subhistory by p.client.seen ≡ p.client.mine → IsAnsweredBy hash (on_names name command) (answer_on_names name answer) p q
    → HasMade hash name by commands answers p → items ≡ answers ++ answer ∷ [] → HasMade hash name by (commands ++ command ∷ []) items q
left_by_one {K} hash name by commands command answers items answer p q number own now have pushed =
    let set = p.table.settings in
    let c = on_names name command in
    let a = answer_on_names name answer in
    let cs = map (on_names name) commands in
    let told = answers_on_names name answers in
    let more = now.watched in
    let grows = decides_more set.callers by c a more.0 p.client.mine q.client.mine (now.entries by number) (more.2 by number).1 in
    let misses = misses_if_busy set.turns by c a p q more now.busy (more.2 by number).0 in
    subst (λ (s : Settings). HaveLeft hash s q.client.seen s.callers by [] q.notes.watched (map (on_names name) (commands ++ command ∷ [])) (answers_on_names name items) q.client.mine) (sym (ap (λ (w : WordsState). w.settings) now.same.table))
    (subst (λ (l : List (LockEvent ℕ)). HaveLeft hash set q.client.seen set.callers by [] l (map (on_names name) (commands ++ command ∷ [])) (answers_on_names name items) q.client.mine) (sym more.1)
    (subst (λ (xs : List (Command Name)). HaveLeft hash set q.client.seen set.callers by [] (p.notes.watched ++ more.0) xs (answers_on_names name items) q.client.mine) (sym (map-append (on_names name) commands (command ∷ [])))
    (subst (λ (xs : List (Answer Pairs)). HaveLeft hash set q.client.seen set.callers by [] (p.notes.watched ++ more.0) (cs ++ c ∷ []) xs q.client.mine) (sym (ap (answers_on_names name) pushed ∙ map-append (answer_on_names name) answers (answer ∷ [])))
    (left_more hash set q.client.seen set.callers by [] p.notes.watched more.0 cs told p.client.mine q.client.mine c a (later_left hash set p.client.seen q.client.seen set.callers by [] p.notes.watched cs told p.client.mine now.saw have) grows misses (now.grounds by number own)))))

-- what an insertion shows that was refused
has_others : (hash : Name → ℕ) (set : Settings) (q : Name) (why : Why) (p p2 : PassState ℕ) → IsRefused hash set q why p p2 → HasOthers set.callers why
has_others hash set q (Busy t) p p2 r = r.shown.2
has_others hash set q Memory p p2 r = tt
has_others hash set q Full p p2 r = tt
has_others hash set q LoadTooLow p p2 r = tt

-- a refusal that is printed is what the caller said
prints_why : (hash : Name → ℕ) (set : Settings) (q : Name) (why : Why) (c d : CallerState ℕ) → IsRefused hash set q why (pass_of c) (pass_of d) → PrintsWhy q (printed why) c d
prints_why hash set q (Busy t) c d r = tt
prints_why hash set q Memory c d r = (r.more, r.shown.contents, r.stays.no_slot, r.shown.is_noted)
prints_why hash set q Full c d r = (r.more, r.shown.contents, r.stays.no_slot, r.shown.is_noted)
prints_why hash set q LoadTooLow c d r = (r.more, r.shown.contents, r.stays.no_slot, r.shown.is_noted)

-- a refusal that is printed as busy comes of tries that all found one stripe held
tries_if_busy : (hash : Name → ℕ) (set : Settings) (q : Name) (x : Command Name) (why : Why) (c d : CallerState ℕ) → IsRefused hash set q why (pass_of c) (pass_of d) → TriesIfBusy set.turns x (printed why) c d
tries_if_busy hash set q x (Busy t) c d r = inr (t, r.shown.1)
tries_if_busy hash set q x Memory c d r = tt
tries_if_busy hash set q x Full c d r = tt
tries_if_busy hash set q x LoadTooLow c d r = tt

-- what gives grounds is what all stripes contained at the end of what the pass has seen
was_stuck : (hash : Name → ℕ) (set : Settings) (by : ℕ) (done : List (Entry ℕ)) (q : Name) (why : Reason) (p : PassState ℕ) (hs : Stripes ℕ) → subhistory by p.view.seen ≡ done → After p.view.seen (bindings hs) → Grounds (layout_of hash set) set.min_load hs q why → WasStuck hash set p.view.seen by done q why
was_stuck hash set by done q why p hs own after grounds = record {
  start = p.view.seen;
  begins = starts_itself p.view.seen;
  own = own;
  contents = hs;
  after = after;
  grounds = grounds;
}

has_grounds : (hash : Name → ℕ) (set : Settings) (by : ℕ) (done : List (Entry ℕ)) (q : Name) (why : Why) (p p2 : PassState ℕ) → subhistory by p2.view.seen ≡ done → IsRefused hash set q why p p2 → HasGroundsFor hash set p2.view.seen by done q (printed why)
has_grounds hash set by done q (Busy t) p p2 own r = tt
has_grounds hash set by done q Memory p p2 own r = was_stuck hash set by done q reason.Memory p2 r.shown.contents own r.shown.after r.shown.grounds
has_grounds hash set by done q Full p p2 own r = was_stuck hash set by done q reason.Full p2 r.shown.contents own r.shown.after r.shown.grounds
has_grounds hash set by done q LoadTooLow p p2 own r = was_stuck hash set by done q reason.LoadTooLow p2 r.shown.contents own r.shown.after r.shown.grounds

-- what is printed for a reason refuses a command that may need room
refuses : (n : ℕ) (c : Command Name) (why : Why) → NeedsRoom c → HasOthers n why → IsRefusal n c (printed why)
refuses n c (Busy t) needs others = inl others
refuses n (command.Insert k v) Memory needs others = tt
refuses n (command.Assign k v) Memory needs others = tt
refuses n (command.Add k v) Memory needs others = tt
refuses n command.List Memory needs others = tt
refuses n c Memory needs others = needs
refuses n c Full needs others = needs
refuses n c LoadTooLow needs others = needs

-- a refused insertion
pub uninserted : (hash : Name → ℕ) (c : Command Name) (k : Name) (a : Answer Pairs) (why : Why) (p q : CallerState ℕ) → NeedsRoom c → ((b : Answer Pairs) → PrintsWhy k b p q → CommandPrintsWhy c b p q)
    → ((b : Answer Pairs) (by : ℕ) → HasGroundsFor hash p.table.settings q.client.seen by p.client.mine k b → HasGrounds hash p.table.settings q.client.seen by p.client.mine c b) → IsSameCaller p q
    → a ≡ printed why → IsRefused hash p.table.settings k why (pass_of p) (pass_of q) → IsAnsweredBy hash c a p q
uninserted hash c k a why p q needs says gives same is r =
    let set = p.table.settings in
    let own : (by : ℕ) → p.client.by ≡ Some by → SeesMore by p.client q.client = λ by number. inl (r.stays.seen.0, r.stays.seen.1, r.stays.by_others by number, r.stays.mine) in
    subst (λ (b : Answer Pairs). IsAnsweredBy hash c b p q) (sym is)
    (record {
      same = same;
      why = says (printed why) (prints_why hash set k why p q r);
      watched = r.stays.watched;
      busy = tries_if_busy hash set k c why p q r;
      saw = r.stays.seen;
      own = own;
      grounds = λ by number saw. gives (printed why) by (has_grounds hash set by p.client.mine k why (pass_of p) (pass_of q) (sees_own by p.client q.client (own by number) saw ∙ r.stays.mine) r);
      entries = λ by e. inl (refuses set.callers c why needs (has_others hash set k why (pass_of p) (pass_of q) r), r.stays.mine);
    })
