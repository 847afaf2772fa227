use Rattle.std.specs.Prelude.{Some}
use Rattle.ck_model.specs.declared.history.Reason.TheVariants.{NoRoom}
use Rattle.ck_words.proofs.guard.Guard.refuse_full.Given as goal

abbrev pub ghosts-give : goal.ghosts-give
ghosts-give g a = record { refused = Some (g.K.TableKey.name a.said.now, NoRoom) }
