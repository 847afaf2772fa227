use Rattle.std.proofs.Common.{rules, refl, sym, subst}
use Rattle.ck_model.specs.Listing.{ListsInOrder}
use Rattle.cuckoo_map.specs.Locking.{map_of}
use Rattle.cuckoo_map.proofs.Draining.{session_since}
use Rattle.cuckoo_map.proofs.Draining.{notes_of_look}
use Rattle.ck_foreign.proofs.sessions.export_by.Goals as goal

pub returns-in-Ok-exported : goal.returns-in-Ok-exported
returns-in-Ok-exported g c = record {
  same = search rules;
  listed = (
    map_of c.in-Ok.locked,
    subst (λ pairs. ListsInOrder g.K.TableKey.name g.K.Ord.cmp pairs (map_of c.in-Ok.locked)) (sym c.of.ensures) c.in-Ok-exported.ensures.pairs,
    session_since c.unlock_caller-handle.result c.in-Ok.ensures.locked refl refl c.unlock_caller-handle.ensures.answered,
  );
  refused = search rules;
  notes = notes_of_look c.unlock_caller-handle.result c.in-Ok.ensures.locked c.unlock_caller-handle.ensures.notes;
  found = search rules;
}

pub returns-in-Err-exported : goal.returns-in-Err-exported
returns-in-Err-exported g c = record {
  same = search rules;
  listed = search rules;
  refused = (map_of c.in-Ok.locked, session_since c.unlock_caller-handle.result c.in-Ok.ensures.locked refl refl c.unlock_caller-handle.ensures.answered);
  notes = λ e. notes_of_look c.unlock_caller-handle.result c.in-Ok.ensures.locked c.unlock_caller-handle.ensures.notes;
  found = search rules;
}
