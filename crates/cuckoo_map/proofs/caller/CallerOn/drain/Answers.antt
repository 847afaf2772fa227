use Rattle.std.proofs.Common.{ap, subst}
use Rattle.cuckoo_map.specs.Locking.{LockedState, map_of, EndsNotes}
use Rattle.cuckoo_map.proofs.Draining.{session_since, emptied_since, busy_not_memory, notes_of_look, notes_of_clear}
use Rattle.cuckoo_map.proofs.caller.CallerOn.drain.Goals as goal

pub returns-in-Ok-pairs-clause-drained : goal.returns-in-Ok-pairs-clause-drained
returns-in-Ok-pairs-clause-drained g c =
    let drained = c.in-Ok-pairs.ensures.drained in (
      map_of c.in-Ok.locked,
      drained.0,
      emptied_since c.unlock_caller-caller.result c.in-Ok.ensures.locked drained.1.session drained.1.none c.unlock_caller-caller.ensures.answered,
    )

pub returns-in-Ok-pairs-clause-notes : goal.returns-in-Ok-pairs-clause-notes
returns-in-Ok-pairs-clause-notes g c = notes_of_clear c.unlock_caller-caller.result c.in-Ok.ensures.locked c.in-Ok-pairs.ensures.drained.1 c.unlock_caller-caller.ensures.notes

-- a stripe was busy
pub returns-in-Err-clause-notes : goal.returns-in-Err-clause-notes
returns-in-Err-clause-notes g c = λ e. absurd (busy_not_memory _ e)

pub returns-in-Err-pairs-clause-notes : goal.returns-in-Err-pairs-clause-notes
returns-in-Err-pairs-clause-notes g c = λ e.
    let d = c.unlock_caller-caller.result in
    notes_of_look d c.in-Ok.ensures.locked (subst (λ (x : LockedState g.row.V.Denot). EndsNotes x d) c.in-Err-pairs.ensures.same c.unlock_caller-caller.ensures.notes)

pub returns-in-Err-pairs-clause-refused : goal.returns-in-Err-pairs-clause-refused
returns-in-Err-pairs-clause-refused g c =
    let same = c.in-Err-pairs.ensures.same in (
      map_of c.in-Ok.locked,
      session_since c.unlock_caller-caller.result c.in-Ok.ensures.locked (ap (λ (n : LockedState g.row.V.Denot). record n { stripes = c.drain-pairs.new.self.stripes }) same) (ap (λ (n : LockedState g.row.V.Denot). map_of n) same) c.unlock_caller-caller.ensures.answered,
    )
