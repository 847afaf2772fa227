use Rattle.std.proofs.Common.{rules}
use Rattle.cuckoo_map.specs.Locking.{map_of}
use Rattle.cuckoo_map.proofs.Draining.{emptied_since}
use Rattle.cuckoo_map.proofs.Draining.{notes_of_clear}
use Rattle.ck_foreign.proofs.sessions.clear_by.Goals as goal

pub returns-in-Ok : goal.returns-in-Ok
returns-in-Ok g c = record {
  same = search rules;
  cleared = (map_of c.in-Ok.locked, emptied_since c.unlock_caller.result c.in-Ok.ensures.locked c.clear.ensures.session c.clear.ensures.none c.unlock_caller.ensures.answered);
  notes = notes_of_clear c.unlock_caller.result c.in-Ok.ensures.locked c.clear.ensures c.unlock_caller.ensures.notes;
  busy = search rules;
  found = search rules;
}
