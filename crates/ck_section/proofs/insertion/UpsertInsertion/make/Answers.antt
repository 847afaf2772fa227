use Rattle.std.proofs.Common.{refl}
use Rattle.ck_model.specs.declared.history.Act.TheVariants.{Upsert}
use Rattle.ck_model.specs.declared.history.Call.TheVariants.{On}
use Rattle.ck_model.specs.declared.history.Reply.TheVariants.{New, Done}
use Rattle.ck_section.proofs.Steps.{occupied_here, vacant_here, remade, ready_for}
use Rattle.ck_section.proofs.insertion.UpsertInsertion.make.Goals as goal

pub returns-in-Occupied : goal.returns-in-Occupied
returns-in-Occupied g c =
    let made = remade _ _ _ _ c.requires.place _ refl c.in-Occupied.at (occupied_here _ _ _ _ c.args.entry c.in-Occupied.at c.in-Occupied.is c.requires.entry) _ (Upsert c.args.value) _ (λ v w. (w, refl, refl)) c.change.ensures.content in
    record {
      answered = (
        Upsert c.args.value,
        Done made.0.0 made.0.1,
        (made.0.0, made.0.1, made.0.2, (refl, refl)),
        λ i. On (g.K.TableKey.name (c.of.ensures i)) (Upsert (c.of-2.ensures i)),
        made.0.3,
      );
      rest = made.1;
      others = made.2;
      stays = c.change.ensures.stays;
    }

pub returns-in-Vacant-clause-answered : goal.returns-in-Vacant-clause-answered
returns-in-Vacant-clause-answered g c =
    (Upsert c.args.value, New, (refl, refl), λ i. On (g.K.TableKey.name (c.of.ensures i)) (Upsert (c.of-2.ensures i)), c.fill.ensures.call (Upsert c.args.value) New (refl, refl))

pub change-requires : goal.change-requires
change-requires g c = ready_for _ _ _ _ c.requires.place _ refl c.in-Occupied.at (occupied_here _ _ _ _ c.args.entry c.in-Occupied.at c.in-Occupied.is c.requires.entry) c.requires.call

pub fill-requires : goal.fill-requires
fill-requires g c = record { place = c.requires.place; vacant = vacant_here _ _ _ _ c.args.entry c.in-Vacant.at c.in-Vacant.is c.requires.entry }
