use Rattle.ck_words.proofs.Replying.{has_committed_said}
use Rattle.ck_words.proofs.guard.Guard.commit.Goals as goal

pub returns-clause-committed : goal.returns-clause-committed
returns-clause-committed g c = has_committed_said g.K.TableKey.hash g.K.TableKey.name c.args.self.now.words.now _ _ c.of-said.ensures c.args.self.now.pass.now c.args.self.now.own _ c.decide.ensures.decided
