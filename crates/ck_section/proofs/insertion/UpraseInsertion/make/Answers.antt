use Rattle.std.proofs.Common.{refl, Some}
use Rattle.ck_model.specs.declared.history.Act.TheVariants.{Upsert, Erase}
use Rattle.ck_model.specs.declared.history.Call.TheVariants.{On}
use Rattle.ck_model.specs.declared.history.Reply.TheVariants.{New, Done, Was}
use Rattle.ck_section.proofs.Steps.{occupied_here, vacant_here, ready, took, took_keeps, slot_changes}
use Rattle.ck_section.proofs.PutBack.{ready_again, put_back, put_back_changes, put_back_keeps}
use Rattle.ck_section.proofs.insertion.UpraseInsertion.make.Goals as goal

pub remove-own-requires : goal.remove-own-requires
remove-own-requires g c = ready _ _ _ _ c.requires.place _ refl c.in-Occupied.at (occupied_here _ _ _ _ c.args.entry c.in-Occupied.at c.in-Occupied.is c.requires.entry)

pub put-requires : goal.put-requires
put-requires g c = ready_again _ _ _ _ c.requires.place _ refl c.in-Occupied.at (occupied_here _ _ _ _ c.args.entry c.in-Occupied.at c.in-Occupied.is c.requires.entry) _ _ c.remove-own.result.1 c.remove-own.ensures.entry c.remove-own.ensures.content

pub returns-in-Some-clause-answered : goal.returns-in-Some-clause-answered
returns-in-Some-clause-answered g c =
    let v = c.remove-own.result.1 in
    let w = c.in-Some.new in (
      Upsert c.args.value,
      Done v w,
      (v, w, c.in-Some.ensures, (refl, refl)),
      λ i. On (g.K.TableKey.name (c.of-said_key.ensures i)) (Upsert (c.of-said_value.ensures i)),
      put_back _ _ _ _ c.requires.place _ refl c.in-Occupied.at (occupied_here _ _ _ _ c.args.entry c.in-Occupied.at c.in-Occupied.is c.requires.entry) _ _ c.remove-own.result.1 c.remove-own.ensures.entry c.remove-own.ensures.content w _ c.put.ensures.content (Upsert c.args.value) (Done v w) (w, refl, refl),
    )

pub returns-in-Some-clause-rest : goal.returns-in-Some-clause-rest
returns-in-Some-clause-rest g c = put_back_changes _ _ _ _ c.requires.place _ refl c.in-Occupied.at (occupied_here _ _ _ _ c.args.entry c.in-Occupied.at c.in-Occupied.is c.requires.entry) _ _ c.remove-own.result.1 c.remove-own.ensures.entry c.remove-own.ensures.content c.in-Some.new _ c.put.ensures.content

pub returns-in-Some-clause-others : goal.returns-in-Some-clause-others
returns-in-Some-clause-others g c = put_back_keeps _ _ _ _ c.requires.place _ refl c.in-Occupied.at (occupied_here _ _ _ _ c.args.entry c.in-Occupied.at c.in-Occupied.is c.requires.entry) _ _ c.remove-own.result.1 c.remove-own.ensures.entry c.remove-own.ensures.content c.in-Some.new _ c.put.ensures.content

-- the closure made nothing
pub returns-in-Occupied-clause-answered : goal.returns-in-Occupied-clause-answered
returns-in-Occupied-clause-answered g c =
    let v = c.remove-own.result.1 in (
      Erase,
      Was (Some v),
      (v, c.in-None.ensures, (refl, refl)),
      λ i. On (g.K.TableKey.name (c.of-said_key.ensures i)) Erase,
      took _ _ _ _ c.requires.place _ refl c.in-Occupied.at (occupied_here _ _ _ _ c.args.entry c.in-Occupied.at c.in-Occupied.is c.requires.entry) Erase (λ (w : g.row.V.Denot). Was (Some w)) _ v _ (λ w. (refl, refl)) c.remove-own.ensures.entry c.remove-own.ensures.content,
    )

pub returns-in-Occupied-clause-rest : goal.returns-in-Occupied-clause-rest
returns-in-Occupied-clause-rest g c = slot_changes _ _ _ c.in-Occupied.at _ _ refl (occupied_here _ _ _ _ c.args.entry c.in-Occupied.at c.in-Occupied.is c.requires.entry).slot.reach c.remove-own.ensures.content

pub returns-in-Occupied-clause-others : goal.returns-in-Occupied-clause-others
returns-in-Occupied-clause-others g c = took_keeps _ _ _ _ c.requires.place _ refl c.in-Occupied.at (occupied_here _ _ _ _ c.args.entry c.in-Occupied.at c.in-Occupied.is c.requires.entry) _ _ c.remove-own.ensures.content

-- the key was unbound
pub returns-clause-answered : goal.returns-clause-answered
returns-clause-answered g c =
    (Upsert c.args.value, New, (refl, refl), λ i. On (g.K.TableKey.name (c.of-said_key.ensures i)) (Upsert (c.of-said_value.ensures i)), c.fill.ensures.call (Upsert c.args.value) New (refl, refl))

pub fill-requires : goal.fill-requires
fill-requires g c = record { place = c.requires.place; vacant = vacant_here _ _ _ _ c.args.entry c.in-Vacant.at c.in-Vacant.is c.requires.entry }
