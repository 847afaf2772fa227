use Rattle.std.proofs.Common.{[], ◌∷◌}
use Rattle.ck_laws.proofs.Alone.{found}
use Rattle.ck_laws.proofs.ledger.value_of.Goals as goal

pub returns-clause-found : goal.returns-clause-found
returns-clause-found c = found (c.args.account ∷ []) c.args.own.now c.find.new.self c.in-Ok.value c.requires c.in-Ok.ensures.answered
