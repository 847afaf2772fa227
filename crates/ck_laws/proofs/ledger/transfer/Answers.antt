use Rattle.std.proofs.Common.{[], ◌∷◌}
use Rattle.ck_laws.specs.Ledger.{moved_of}
use Rattle.ck_laws.proofs.Alone.{changed_two, transferred}
use Rattle.ck_laws.proofs.ledger.transfer.Goals as goal

pub returns-clause-moved : goal.returns-clause-moved
returns-clause-moved c = changed_two (c.args.from ∷ []) (c.args.to ∷ []) (moved_of c.args.amount) c.args.own.now c.change_two.new.own c.in-Ok.both c.requires.sole c.in-Ok.ensures.answered

pub returns-clause-sum : goal.returns-clause-sum
returns-clause-sum c = transferred (c.args.from ∷ []) (c.args.to ∷ []) c.args.own.now c.change_two.new.own c.in-Ok.both c.requires.sole c.in-Ok.ensures.sum
