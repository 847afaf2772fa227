use Rattle.ck_words.specs.Answering.{session_of}
use Rattle.ck_words.proofs.Replying.{entry_for}
use Rattle.ck_words.proofs.guard.Guard.commit_session.Given as goal

abbrev pub ghosts-decide : goal.ghosts-decide
ghosts-decide g a = record { entry = entry_for (session_of a.self.now.pass.now) a.self.now.pass.now }
