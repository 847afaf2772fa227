use Rattle.std.proofs.Common.{refl, Some}
use Rattle.ck_model.specs.declared.history.Act.TheVariants.{Find, Insert}
use Rattle.ck_model.specs.declared.history.Call.TheVariants.{On}
use Rattle.ck_model.specs.declared.history.Reply.TheVariants.{New, Was}
use Rattle.ck_section.proofs.Steps.{occupied_here, vacant_here}
use Rattle.ck_section.proofs.insertion.InsertWithInsertion.make.Goals as goal

pub read_entry-requires-clause-occupied : goal.read_entry-requires-clause-occupied
read_entry-requires-clause-occupied g c = occupied_here _ _ _ _ c.args.entry c.in-Occupied.at c.in-Occupied.is c.requires.entry

pub fill-requires-clause-vacant : goal.fill-requires-clause-vacant
fill-requires-clause-vacant g c = vacant_here _ _ _ _ c.args.entry c.in-Vacant.at c.in-Vacant.is c.requires.entry

pub returns-in-Occupied-clause-answered : goal.returns-in-Occupied-clause-answered
returns-in-Occupied-clause-answered g c =
    let read = c.read_entry.ensures.bound in
    (Find, Was (Some read.0), (refl, read.0, (refl, refl)), λ i. On (g.K.TableKey.name (c.of.ensures i)) Find, read.2)

pub returns-in-Vacant-clause-answered : goal.returns-in-Vacant-clause-answered
returns-in-Vacant-clause-answered g c =
    let w = c.value-made.result in
    (Insert w, New, (w, c.value-made.ensures, (refl, refl)), λ i. On (g.K.TableKey.name (c.of-in-Vacant.ensures i)) (Insert (c.of-in-Vacant-2.ensures i)), c.fill.ensures.call (Insert w) New (refl, refl))
