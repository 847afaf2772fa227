use Rattle.ck_words.proofs.WholeTables.{whole_then, all_held_then}
use Rattle.ck_words.proofs.words.Words.settle_whole.Goals as goal

pub returns-clause-whole : goal.returns-clause-whole
returns-clause-whole g c = whole_then c.args.pass.now c.settle_each.new.pass c.settle_each.ensures.settled g.K.TableKey.hash c.args.self.now.settings c.requires.whole

pub returns-clause-table : goal.returns-clause-table
returns-clause-table g c = (all_held_then c.args.pass.now c.settle_each.new.pass c.settle_each.ensures.settled c.args.self.now.settings.s c.requires.table).table

pub returns-clause-settled : goal.returns-clause-settled
returns-clause-settled g c = (all_held_then c.args.pass.now c.settle_each.new.pass c.settle_each.ensures.settled c.args.self.now.settings.s c.requires.table).settled
