use Rattle.std.proofs.Common.{refl}
use Rattle.ck_model.specs.declared.history.Act.TheVariants.{Upsert}
use Rattle.ck_model.specs.declared.history.Call.TheVariants.{On}
use Rattle.ck_model.specs.declared.history.Reply.TheVariants.{New, Done}
use Rattle.ck_section.proofs.Steps.{occupied_here, vacant_here}
use Rattle.ck_section.specs.Acts.{IsAct}
use Rattle.ck_section.proofs.PutBack.{tried_upsert}
use Rattle.ck_section.proofs.insertion.TryUpsertInsertion.make.Goals as goal

pub try_modify_entry-outcome-requires-clause-occupied : goal.try_modify_entry-outcome-requires-clause-occupied
try_modify_entry-outcome-requires-clause-occupied g c = occupied_here _ _ _ _ c.args.entry c.in-Occupied.at c.in-Occupied.is c.requires.entry

pub returns-in-Occupied-clause-answered : goal.returns-in-Occupied-clause-answered
returns-in-Occupied-clause-answered g c =
    let made = c.try_modify_entry-outcome.ensures.bound in
    let v = made.0 in
    let w = made.1 in (
      Upsert c.args.value,
      Done v w,
      tried_upsert (goal.F-post g c.args.self.0) c.args.value (IsAct (Upsert c.args.value) (Done v w)) v w c.try_modify_entry-outcome.result c.answer_of_bound.result made.2 c.answer_of_bound.ensures (refl, refl),
      λ i. On (g.K.TableKey.name (c.of.ensures i)) (Upsert (c.of-2.ensures i)),
      made.3 (Upsert c.args.value) (Done v w) (w, refl, refl),
    )

pub returns-in-Vacant-clause-answered : goal.returns-in-Vacant-clause-answered
returns-in-Vacant-clause-answered g c =
    (Upsert c.args.value, New, (refl, refl), λ i. On (g.K.TableKey.name (c.of.ensures i)) (Upsert (c.of-2.ensures i)), c.fill.ensures.call (Upsert c.args.value) New (refl, refl))

pub fill-requires : goal.fill-requires
fill-requires g c = record { place = c.requires.place; vacant = vacant_here _ _ _ _ c.args.entry c.in-Vacant.at c.in-Vacant.is c.requires.entry }
