-- A list is a session that changes nothing.
use Rattle.std.proofs.Common.{◌≡◌, ℕ, Some, refl, sym, ap, ◌∙◌, subst, inl, inr}
use Rattle.std.specs.FinMap.{entries}
use Rattle.ck_model.specs.declared.history.Call.TheVariants.{Session}
use Rattle.ck_model.specs.declared.history.Reply.TheVariants.{Closed}
use Rattle.ck_model.specs.declared.history.Entry.{Entry}
use Rattle.ck_model.specs.Promise.{Name, Map}
use Rattle.ck_model.proofs.Numbered.{Some-injective}
use Rattle.ck_words.proofs.Staying.{watches_on}
use Rattle.cuckoo_map.proofs.Calls.{replied_since, replied_seen}
use Rattle.cuckoo_map.specs.Callers.{CallerState, pass_of, IsSameCaller, Replies}
use Rattle.cuckoo_map.specs.Locking.{LockedState, start_of, map_of, session_call, EndsNotes, HasLocked}
use Rattle.ck_format.specs.declared.script.Command.TheVariants as command
use Rattle.ck_format.specs.declared.answer.Answer.{Answer}
use Rattle.ck_format.specs.Text.{Pairs}
use Rattle.ck_script.specs.Answered.{IsListOf, IsLeft, TriesIfBusy, IsAnsweredBy}

-- the entry of a session that changed nothing is that of a list, or of one that found no memory
left_by_list : (n by : ℕ) (a : Answer Pairs) (start now : Map ℕ) → now ≡ start → IsListOf (entries now) a
    → IsLeft n command.List a (record { by = by; call = Session (entries start) (entries now); reply = Closed })
left_by_list n by a start now same list =
    let pairs = entries now in
    let idle = ap (λ (m : Map ℕ). Session (entries m) pairs) (sym same) in
    elim list [
      | inl is ↦ subst (λ (a : Answer Pairs). IsLeft n command.List a (record { by = by; call = Session (entries start) pairs; reply = Closed })) (sym is) (inl ((pairs, idle), (idle, refl)))
      | inr is ↦ subst (λ (a : Answer Pairs). IsLeft n command.List a (record { by = by; call = Session (entries start) pairs; reply = Closed })) (sym is) (inr (tt, record { pairs = pairs; call = idle; reply = refl }))
    ]

-- no list that was made is busy
never_busy : (turns : ℕ) (pairs : Pairs) (a : Answer Pairs) (c d : CallerState ℕ) → IsListOf pairs a → TriesIfBusy turns command.List a c d
never_busy turns pairs a c d list =
    elim list [
      | inl is ↦ subst (λ (x : Answer Pairs). TriesIfBusy turns command.List x c d) (sym is) tt
      | inr is ↦ subst (λ (x : Answer Pairs). TriesIfBusy turns command.List x c d) (sym is) tt
    ]

-- locked and unlocked, the table is left to the same caller
pub listed : (hash : Name → ℕ) (c back : CallerState ℕ) (l : LockedState ℕ) (a : Answer Pairs) → HasLocked c.table (pass_of c) l → IsListOf (entries (map_of l)) a
    → IsSameCaller l.caller back → Replies (session_call l) l.caller back Closed → EndsNotes l back → IsAnsweredBy hash command.List a c back
listed hash c back l a locked list same answered notes =
    let whole = replied_since locked.stays (session_call l) Closed back.client answered in
    let entry : Entry ℕ = record { by = whole.by; call = session_call l; reply = Closed } in
    let is_own : (by : ℕ) → c.client.by ≡ Some by → entry.by ≡ by = λ by number. Some-injective entry.by by (sym whole.number ∙ number) in
    record {
      same = record { table = same.table ∙ locked.table; by = same.by ∙ locked.stays.by };
      why = tt;
      watched = watches_on (pass_of c).view (pass_of l.caller).view (pass_of back).view locked.stays.by locked.stays.watched notes.0.watched;
      busy = never_busy c.table.settings.turns (entries (map_of l)) a c back list;
      saw = replied_seen whole;
      own = λ by number. inr (whole.answered.others, entry, whole.answered.seen, whole.answered.by_others, is_own by number, whole.answered.mine);
      grounds = λ by number own. tt;
      entries = λ by number. inr (entry, is_own by number, left_by_list c.table.settings.callers entry.by a (start_of l) (map_of l) locked.same list, whole.answered.mine);
    }
