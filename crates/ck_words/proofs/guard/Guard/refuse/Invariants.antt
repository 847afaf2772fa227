use Rattle.std.specs.Prelude.{Some}
use Rattle.ck_model.specs.Paths.{reason_of_lack}
use Rattle.ck_words.proofs.guard.Guard.refuse.Given as goal

abbrev pub ghosts-renew : goal.ghosts-renew
ghosts-renew g a = record { refused = Some (g.K.TableKey.name a.said.now.0.value, reason_of_lack a.said.now.1) }
