use Rattle.std.proofs.Common.{refl, None, Some}
use Rattle.ck_model.specs.declared.history.Act.TheVariants.{Assign}
use Rattle.ck_model.specs.declared.history.Call.TheVariants.{On}
use Rattle.ck_model.specs.declared.history.Reply.TheVariants.{Was}
use Rattle.ck_section.proofs.Steps.{occupied_here, vacant_here, swapped, ready}
use Rattle.ck_section.proofs.insertion.AssignInsertion.make.Goals as goal

pub returns-in-Occupied : goal.returns-in-Occupied
returns-in-Occupied g c =
    let made = swapped _ _ _ _ c.requires.place _ refl c.in-Occupied.at (occupied_here _ _ _ _ c.args.entry c.in-Occupied.at c.in-Occupied.is c.requires.entry) (Assign c.args.value) _ _ _ (λ v. (refl, refl)) c.replace.ensures.content in
    record {
      answered = (Assign c.args.value, Was (Some c.replace.result), (refl, refl), λ i. On (g.K.TableKey.name (c.of.ensures i)) (Assign (c.of-2.ensures i)), made.0);
      rest = made.1;
      others = made.2;
      stays = c.replace.ensures.stays;
    }

pub returns-in-Vacant-clause-answered : goal.returns-in-Vacant-clause-answered
returns-in-Vacant-clause-answered g c =
    (Assign c.args.value, Was None, (refl, refl), λ i. On (g.K.TableKey.name (c.of.ensures i)) (Assign (c.of-2.ensures i)), c.fill.ensures.call (Assign c.args.value) (Was None) (refl, refl))

pub replace-requires : goal.replace-requires
replace-requires g c = ready _ _ _ _ c.requires.place _ refl c.in-Occupied.at (occupied_here _ _ _ _ c.args.entry c.in-Occupied.at c.in-Occupied.is c.requires.entry)

pub fill-requires : goal.fill-requires
fill-requires g c = record { place = c.requires.place; vacant = vacant_here _ _ _ _ c.args.entry c.in-Vacant.at c.in-Vacant.is c.requires.entry }
