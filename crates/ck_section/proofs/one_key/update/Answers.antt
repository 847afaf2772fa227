use Rattle.std.proofs.Common.{refl, None}
use Rattle.ck_model.specs.declared.history.Act.TheVariants.{Update}
use Rattle.ck_model.specs.declared.history.Reply.TheVariants.{Was}
use Rattle.ck_section.proofs.Steps.{replied_none, lacked, swapped, unchanged, ready}
use Rattle.ck_section.proofs.KeptFree.{free_same}
use Rattle.ck_section.proofs.KeptOthers.{keeps_same}
use Rattle.ck_section.proofs.one_key.update.Goals as goal

pub find_slot-requires : goal.find_slot-requires
find_slot-requires g c = c.requires

pub returns-in_err-at-clause-call : goal.returns-in_err-at-clause-call
returns-in_err-at-clause-call g c = replied_none _ _ _ _ _ _ _ c.from_residual.ensures (lacked _ _ _ _ c.requires _ c.find_slot.ensures.same (Update c.args.value) (Was None) c.in_err-at.ensures.nowhere (refl, refl))

pub returns-in_err-at-clause-rest : goal.returns-in_err-at-clause-rest
returns-in_err-at-clause-rest g c = unchanged _ _ c.find_slot.ensures.same

pub returns-in_err-at-clause-others : goal.returns-in_err-at-clause-others
returns-in_err-at-clause-others g c = keeps_same _ _ _ c.find_slot.ensures.same

pub returns-in_err-at-clause-free : goal.returns-in_err-at-clause-free
returns-in_err-at-clause-free g c = free_same _ _ c.find_slot.ensures.same

pub returns-in_err-at-clause-stays : goal.returns-in_err-at-clause-stays
returns-in_err-at-clause-stays g c = c.find_slot.ensures.stays

pub replace-requires : goal.replace-requires
replace-requires g c = ready _ _ _ _ c.requires _ c.find_slot.ensures.same c.in_ok-at.at c.in_ok-at.ensures.occupied

pub returns : goal.returns
returns g c =
    let made = swapped _ _ _ _ c.requires _ c.find_slot.ensures.same c.in_ok-at.at c.in_ok-at.ensures.occupied (Update c.args.value) _ _ _ (λ v. (refl, refl)) c.replace.ensures.content in
    record { call = made.0; same = tt; rest = made.1; others = made.2; free = made.3; stays = g.met.H.Held.stays_on _ _ _ c.find_slot.ensures.stays c.replace.ensures.stays }
