use Rattle.std.proofs.Common.{map}
use Rattle.ck_words.specs.Answering.{session_on}
use Rattle.ck_words.proofs.Replying.{entry_for}
use Rattle.ck_words.proofs.guard.Guard.commit_session_on.Given as goal

abbrev pub ghosts-decide : goal.ghosts-decide
ghosts-decide g a = record { entry = entry_for (session_on (map g.Q.Query.name a.said.now.now) a.self.now.pass.now) a.self.now.pass.now }
