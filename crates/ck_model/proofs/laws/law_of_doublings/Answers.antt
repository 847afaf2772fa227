use Rattle.ck_model.proofs.Doubling.{bindings_doubled, lawful_doubled}
use Rattle.ck_model.proofs.laws.law_of_doublings.Goals as goal

pub returns : goal.returns
returns g c = record {
  bindings = λ k p hs ks lawful to. bindings_doubled k hs lawful p ks to;
  lawful = λ k p hs ks lawful to shape fits. lawful_doubled k hs lawful p ks to shape fits;
}
