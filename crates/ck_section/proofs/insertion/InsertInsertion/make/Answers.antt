use Rattle.std.proofs.Common.{refl}
use Rattle.ck_model.specs.declared.history.Act.TheVariants.{Insert}
use Rattle.ck_model.specs.declared.history.Call.TheVariants.{On}
use Rattle.ck_model.specs.declared.history.Reply.TheVariants.{New, Old}
use Rattle.ck_section.proofs.Steps.{occupied_here, vacant_here, kept, unchanged}
use Rattle.ck_section.proofs.KeptOthers.{keeps_same}
use Rattle.ck_section.proofs.insertion.InsertInsertion.make.Goals as goal

pub returns-in-Occupied : goal.returns-in-Occupied
returns-in-Occupied g c = record {
  answered = (
    Insert c.args.value,
    Old,
    (refl, refl),
    λ i. On (g.K.TableKey.name (c.of.ensures i)) (Insert (c.of-2.ensures i)),
    kept _ _ _ _ c.requires.place _ refl c.in-Occupied.field-0 (occupied_here _ _ _ _ c.args.entry c.in-Occupied.field-0 c.in-Occupied.is c.requires.entry) (Insert c.args.value) Old (refl, refl),
  );
  rest = unchanged _ _ refl;
  others = keeps_same _ _ _ refl;
  stays = g.met.H.Held.stays_same _;
}

pub returns-in-Vacant-clause-answered : goal.returns-in-Vacant-clause-answered
returns-in-Vacant-clause-answered g c =
    (Insert c.args.value, New, (refl, refl), λ i. On (g.K.TableKey.name (c.of.ensures i)) (Insert (c.of-2.ensures i)), c.fill.ensures.call (Insert c.args.value) New (refl, refl))

pub fill-requires : goal.fill-requires
fill-requires g c = record { place = c.requires.place; vacant = vacant_here _ _ _ _ c.args.entry c.in-Vacant.at c.in-Vacant.is c.requires.entry }
