use Rattle.ck_laws.proofs.Alone.{same_total, transferred}
use Rattle.ck_laws.proofs.law_of_totals.Goals as goal

pub returns : goal.returns
returns c = record { step = same_total; transfer = transferred }
