use Rattle.std.proofs.Common.{[], ◌∷◌}
use Rattle.ck_laws.proofs.Alone.{assigned, kept}
use Rattle.ck_laws.proofs.Resetting.{on_err}
use Rattle.ck_laws.proofs.ledger.put.Goals as goal

pub returns-in_err-old-clause-refused : goal.returns-in_err-old-clause-refused
returns-in_err-old-clause-refused c = on_err c.from_residual.result (kept c.args.own.now c.insert_or_assign.new.self (c.in_err-old.ensures.refused.2.stays.alone c.requires.client))

pub returns-clause-put : goal.returns-clause-put
returns-clause-put c = assigned (c.args.account ∷ []) c.args.value c.args.own.now c.insert_or_assign.new.self c.in_ok-old.old c.requires c.in_ok-old.ensures.answered
