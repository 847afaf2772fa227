use Rattle.std.proofs.Common.{refl}
use Rattle.ck_section.proofs.Steps.{read_kept, ready_for}
use Rattle.ck_section.proofs.one_key.read_entry.Goals as goal

pub read-requires : goal.read-requires
read-requires g c = ready_for _ _ _ _ c.requires.place _ refl c.args.at c.requires.occupied c.requires.call

pub returns-clause-bound : goal.returns-clause-bound
returns-clause-bound g c = read_kept _ _ _ _ c.requires.place _ refl c.args.at c.requires.occupied _ c.read.ensures.read _ c.read.ensures.same
