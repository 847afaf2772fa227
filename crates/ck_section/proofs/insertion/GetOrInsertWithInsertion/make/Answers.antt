use Rattle.std.proofs.Common.{rules, ◌≡◌, refl, Some, subst}
use Rattle.ck_model.specs.declared.history.Act.TheVariants.{Find, Insert}
use Rattle.ck_model.specs.declared.history.Call.TheVariants.{On}
use Rattle.ck_model.specs.declared.history.Reply.TheVariants.{New, Was}
use Rattle.ck_section.specs.Calls.{effect, IsCall}
use Rattle.ck_section.proofs.Steps.{occupied_here, vacant_here}
use Rattle.ck_section.proofs.insertion.GetOrInsertWithInsertion.make.Goals as goal

pub read_entry-found-requires-clause-occupied : goal.read_entry-found-requires-clause-occupied
read_entry-found-requires-clause-occupied g c = occupied_here _ _ _ _ c.args.entry c.in-Occupied.at c.in-Occupied.is c.requires.entry

pub fill-requires-clause-vacant : goal.fill-requires-clause-vacant
fill-requires-clause-vacant g c = vacant_here _ _ _ _ c.args.entry c.in-Vacant.at c.in-Vacant.is c.requires.entry

pub returns-in-Occupied-clause-answered : goal.returns-in-Occupied-clause-answered
returns-in-Occupied-clause-answered g c =
    let q = g.K.TableKey.name c.args.key in
    let found = c.read_entry-found.result in
    let read = c.read_entry-found.ensures.bound in
    let is : read.0 ≡ found = search rules in
    let call = subst (λ (v : g.row.V.Denot). IsCall (effect g.K.TableKey.hash g.H.Held.stripes c.args.place c.args.held.now c.read_entry-found.new.held) q Find (Was (Some v))) is read.2 in
    (Find, Was (Some found), (refl, (refl, refl)), λ i. On (g.K.TableKey.name (c.of.ensures i)) Find, call)

pub returns-in-Vacant-clause-answered : goal.returns-in-Vacant-clause-answered
returns-in-Vacant-clause-answered g c =
    let w = c.value-made.result in
    (Insert w, New, (c.value-made.ensures, (refl, refl)), λ i. On (g.K.TableKey.name (c.of-in-Vacant.ensures i)) (Insert (c.of-in-Vacant-2.ensures i)), c.fill.ensures.call (Insert w) New (refl, refl))
