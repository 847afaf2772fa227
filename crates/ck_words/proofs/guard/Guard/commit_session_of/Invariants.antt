use Rattle.std.proofs.Common.{map}
use Rattle.std.specs.declared.snapshot.Snapshot.{Snapshot}
use Rattle.ck_words.specs.Answering.{session_on}
use Rattle.ck_words.proofs.Replying.{entry_for}
use Rattle.ck_words.proofs.guard.Guard.commit_session_of.Given as goal

abbrev pub ghosts-decide : goal.ghosts-decide
ghosts-decide g a = record { entry = entry_for (session_on (map (λ (key : Snapshot g.row.K.Denot). g.K.TableKey.name key.value) a.said.now.now) a.self.now.pass.now) a.self.now.pass.now }
