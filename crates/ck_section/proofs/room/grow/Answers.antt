use Rattle.std.proofs.Common.{◌∙◌}
use Rattle.ck_section.proofs.room.grow.Goals as goal

pub returns-in-Err-clause-same : goal.returns-in-Err-clause-same
returns-in-Err-clause-same g c = c.in-Err.ensures.kept ∙ (c.is_too_empty.ensures.same ∙ c.power-power.ensures.same)
