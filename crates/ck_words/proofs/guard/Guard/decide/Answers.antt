use Rattle.std.proofs.Common.{rules}
use Rattle.ck_words.specs.StripeSets.{list_of}
use Rattle.ck_words.proofs.Guarding.{its_numbers}
use Rattle.ck_words.proofs.Releasing.{last_highest, others_left}
use Rattle.ck_words.proofs.guard.Guard.decide.Goals as goal

pub decide-requires-clause-holds : goal.decide-requires-clause-holds
decide-requires-clause-holds g c = record { own = search rules; highest = last_highest (list_of c.args.self.now.set) _ _ _ c.args.self.now.set.some c.count-last.ensures c.at.ensures.value (its_numbers c.args.self.now.pass.now.stripes c.args.self.now.numbered c.requires.locked); no_spare = search rules }

pub release_first-requires : goal.release_first-requires
release_first-requires g c = record {
  own = search rules;
  inside = search rules;
  numbered = others_left (list_of c.args.self.now.set) _ _ _ c.args.self.now.set.some c.count-last.ensures c.at.ensures.value (its_numbers c.args.self.now.pass.now.stripes c.args.self.now.numbered c.requires.locked) _ _ c.decide.ensures.step.1;
  no_spare = search rules;
  unchanged = search rules;
}

pub returns-clause-decided : goal.returns-clause-decided
returns-clause-decided g c = (c.decide.new.pass, c.decide.ensures.step, c.release_first.ensures.released)
