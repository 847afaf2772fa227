use Rattle.ck_words.proofs.WholeTables.{all_of}
use Rattle.ck_words.proofs.words.Words.all.Goals as goal

pub returns-clause-all : goal.returns-clause-all
returns-clause-all g c = all_of c.all.result c.settings.result c.args.self.now.settings c.all.ensures.all c.settings.ensures.value
