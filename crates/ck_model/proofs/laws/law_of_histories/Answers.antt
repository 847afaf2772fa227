use Rattle.std.specs.FinMap.{empty}
use Rattle.ck_model.proofs.Determined.{leads_one}
use Rattle.ck_model.proofs.Histories.{legal_beginning}
use Rattle.ck_model.proofs.laws.law_of_histories.Goals as goal

pub returns : goal.returns
returns g c = record {
  beginning = legal_beginning;
  one_map = λ log. leads_one empty log;
}
