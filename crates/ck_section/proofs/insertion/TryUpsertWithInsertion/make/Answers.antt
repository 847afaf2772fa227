use Rattle.std.proofs.Common.{refl, None}
use Rattle.ck_model.specs.declared.history.Act.TheVariants.{Find, Insert, Change}
use Rattle.ck_model.specs.declared.history.Call.TheVariants.{On}
use Rattle.ck_model.specs.declared.history.Reply.TheVariants.{New, Was, Done}
use Rattle.ck_section.proofs.Steps.{occupied_here, vacant_here, lacked}
use Rattle.ck_section.proofs.PutBack.{tried_change}
use Rattle.ck_section.proofs.insertion.TryUpsertWithInsertion.make.Goals as goal

pub try_modify_entry-outcome-requires-clause-occupied : goal.try_modify_entry-outcome-requires-clause-occupied
try_modify_entry-outcome-requires-clause-occupied g c = occupied_here _ _ _ _ c.args.entry c.in-Occupied.at c.in-Occupied.is c.requires.entry

pub fill-requires-clause-vacant : goal.fill-requires-clause-vacant
fill-requires-clause-vacant g c = vacant_here _ _ _ _ c.args.entry c.in-Vacant.at c.in-Vacant.is c.requires.entry

-- the key was bound
pub returns-in-Occupied-clause-answered : goal.returns-in-Occupied-clause-answered
returns-in-Occupied-clause-answered g c =
    let made = c.try_modify_entry-outcome.ensures.bound in
    let v = made.0 in
    let w = made.1 in
    (Change, Done v w, (refl, v, w, tried_change (goal.F-post g c.args.value.1) v w c.try_modify_entry-outcome.result c.answer_of_bound-answer.result made.2 c.answer_of_bound-answer.ensures, (refl, refl)), λ i. On (g.K.TableKey.name (c.of.ensures i)) Change, made.3 Change (Done v w) (w, refl, refl))

-- it was unbound, and the closure made this of the value that was made
pub returns-in-Ok-clause-answered : goal.returns-in-Ok-clause-answered
returns-in-Ok-clause-answered g c =
    let w = c.in-Ok.made in
    (Insert w, New, (c.make.result, w, c.make.ensures, (refl, c.in-Ok.ensures, (refl, refl))), λ i. On (g.K.TableKey.name (c.of-in-Ok.ensures i)) (Insert (c.of-in-Ok-2.ensures i)), c.fill.ensures.call (Insert w) New (refl, refl))

-- or failed
pub returns-in-Err-clause-answered : goal.returns-in-Err-clause-answered
returns-in-Err-clause-answered g c =
    let vacant = vacant_here _ _ _ _ c.args.entry c.in-Vacant.at c.in-Vacant.is c.requires.entry in (
      Find,
      Was None,
      (c.make.result, c.in-Err.field-0-0, c.make.ensures, (c.in-Err.ensures, (refl, refl))),
      λ i. On (g.K.TableKey.name (c.of-in-Err.ensures i)) Find,
      lacked _ _ _ _ c.requires.place _ refl Find (Was None) vacant.nowhere (refl, refl),
    )
