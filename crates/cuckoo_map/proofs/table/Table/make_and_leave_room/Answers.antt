use Rattle.cuckoo_map.proofs.Refusing.{refused_caller}
use Rattle.cuckoo_map.proofs.table.Table.make_and_leave_room.Goals as goal

-- no room could be made
pub returns-in-Err-clause-caller : goal.returns-in-Err-clause-caller
returns-in-Err-clause-caller g c = refused_caller c.args.since.value c.make_room.new.pass c.requires.since c.make_room.ensures.own c.in-Err.ensures.idle (c.in-Err.ensures.refused c.args.since.value c.requires.full c.requires.found)
