use Rattle.ck_model.specs.Commits.{call_of}
use Rattle.ck_words.proofs.Replying.{entry_for}
use Rattle.ck_words.proofs.guard.Guard.commit_query.Given as goal

abbrev pub ghosts-decide : goal.ghosts-decide
ghosts-decide g a = record { entry = entry_for (call_of g.Q.Query.name a.said.now.value) a.self.now.pass.now }
