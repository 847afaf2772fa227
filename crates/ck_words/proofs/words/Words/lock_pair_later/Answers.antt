use Rattle.std.proofs.Common.{ℕ, List, subst}
use Rattle.ck_words.specs.Holding.{TakesRest}
use Rattle.ck_words.proofs.words.Words.lock_pair_later.Goals as goal

pub returns : goal.returns
returns g c =
    subst (λ (ns : List ℕ). TakesRest g.K.TableKey.hash c.args.self.now ns c.args.i c.lock_set_later.result c.args.pass.now c.lock_set_later.new.pass) c.of_pair-set.ensures.list c.lock_set_later.ensures
