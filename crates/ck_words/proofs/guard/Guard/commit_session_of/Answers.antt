use Rattle.std.proofs.Common.{map}
use Rattle.std.specs.declared.snapshot.Snapshot.{Snapshot}
use Rattle.ck_words.specs.Answering.{session_on}
use Rattle.ck_words.proofs.Replying.{has_committed}
use Rattle.ck_words.proofs.guard.Guard.commit_session_of.Goals as goal

pub returns-clause-committed : goal.returns-clause-committed
returns-clause-committed g c =
    let p = c.args.self.now.pass.now in
    let did = c.decide.ensures.decided in
    has_committed g.K.TableKey.hash c.args.self.now.words.now (session_on (map (λ (key : Snapshot g.row.K.Denot). g.K.TableKey.name key.value) c.args.keys.now) p) p c.args.self.now.own did.0 c.decide.new.self.pass.now did.1 did.2
