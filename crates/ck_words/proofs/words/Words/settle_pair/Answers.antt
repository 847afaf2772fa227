use Rattle.std.proofs.Common.{rules, ◌∙◌, sym}
use Rattle.ck_words.proofs.AreHeld.{numbers_then}
use Rattle.ck_words.proofs.words.Words.settle_pair.Goals as goal

pub take_emptied-requires : goal.take_emptied-requires
take_emptied-requires g c = record {
  own = c.settle_each.ensures.own;
  of_table = search rules;
  numbered = numbers_then g.K.TableKey.hash c.args.self.now.settings c.args.pass.now c.settle_each.new.pass c.settle_each.ensures.settled ∙ (c.requires.numbered ∙ sym c.of_pair-set.ensures.list);
}
