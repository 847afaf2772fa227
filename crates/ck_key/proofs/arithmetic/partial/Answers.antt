use Rattle.ck_key.proofs.Folding.{partial_folded}
use Rattle.ck_key.proofs.arithmetic.partial.Goals as goal

pub returns : goal.returns
returns c = partial_folded c.args.h
