use Rattle.std.proofs.Common.{rules}
use Rattle.ck_model.specs.declared.history.Reason.TheVariants.{NoRoom}
use Rattle.ck_words.specs.StripeSets.{list_of}
use Rattle.ck_words.proofs.Guarding.{its_numbers}
use Rattle.ck_words.proofs.Releasing.{last_highest, others_left}
use Rattle.ck_words.proofs.Renewed.{refused_giving}
use Rattle.ck_words.proofs.guard.Guard.refuse_full.Goals as goal

pub give-requires-clause-holds : goal.give-requires-clause-holds
give-requires-clause-holds g c = record { own = search rules; highest = last_highest (list_of c.args.self.now.set) _ _ _ c.args.self.now.set.some c.count-last.ensures c.at.ensures.value (its_numbers c.args.self.now.pass.now.stripes c.args.self.now.numbered c.requires.locked); no_spare = search rules }

pub give-requires-clause-excused : goal.give-requires-clause-excused
give-requires-clause-excused g c = c.requires.full

pub release_first-requires : goal.release_first-requires
release_first-requires g c = record {
  own = search rules;
  inside = search rules;
  numbered = others_left (list_of c.args.self.now.set) _ _ _ c.args.self.now.set.some c.count-last.ensures c.at.ensures.value (its_numbers c.args.self.now.pass.now.stripes c.args.self.now.numbered c.requires.locked) _ _ c.give.ensures.step.1;
  no_spare = search rules;
  unchanged = search rules;
}

pub returns-clause-refused : goal.returns-clause-refused
returns-clause-refused g c = refused_giving g.K.TableKey.hash c.args.self.now.words.now c.args.self.now.pass.now c.give.new.pass (g.K.TableKey.name c.args.key.now) NoRoom c.give.ensures.step c.requires.unchanged c.release_first.new.pass c.release_first.ensures.released
