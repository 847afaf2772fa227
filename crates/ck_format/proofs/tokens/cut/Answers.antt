use Rattle.ck_format.proofs.Cuts.{split_whole, split_found, to_end}
use Rattle.ck_format.proofs.tokens.cut.Goals as goal

pub returns-in-None : goal.returns-in-None
returns-in-None c = split_whole 32 c.args.line.now c.in-None.ensures

pub returns-in-Some : goal.returns-in-Some
returns-in-Some c = rw to_end (split_found 32 c.args.line.now c.in-Some.at c.in-Some.ensures)
