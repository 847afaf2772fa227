use Rattle.std.proofs.Common.{rules, None}
use Rattle.ck_words.specs.StripeSets.{list_of}
use Rattle.ck_words.proofs.Guarding.{its_numbers}
use Rattle.ck_words.proofs.Releasing.{last_highest, others_left}
use Rattle.ck_words.proofs.Renewed.{released_renewed}
use Rattle.ck_words.proofs.Telling.{told_renewed, doubled_renewed}
use Rattle.ck_words.proofs.guard.Guard.renew.Goals as goal

pub renew-requires : goal.renew-requires
renew-requires g c = record { holds = record { own = c.args.self.now.own; highest = last_highest (list_of c.args.self.now.set) _ _ _ c.args.self.now.set.some c.count-last.ensures c.at.ensures.value (its_numbers c.args.self.now.pass.now.stripes c.args.self.now.numbered c.requires.locked); no_spare = c.requires.no_spare }; section = c.requires.renewed; grounds = λ _. tt }

pub release_first-requires : goal.release_first-requires
release_first-requires g c = record {
  own = search rules;
  inside = search rules;
  numbered = others_left (list_of c.args.self.now.set) _ _ _ c.args.self.now.set.some c.count-last.ensures c.at.ensures.value (its_numbers c.args.self.now.pass.now.stripes c.args.self.now.numbered c.requires.locked) _ _ c.renew.ensures.step.1;
  no_spare = search rules;
  unchanged = search rules;
}

pub returns-clause-released : goal.returns-clause-released
returns-clause-released g c = released_renewed g.K.TableKey.hash c.args.self.now.words.now c.args.self.now.pass.now c.renew.new.pass c.renew.ensures.step _ c.release_first.ensures.released

pub returns-clause-told : goal.returns-clause-told
returns-clause-told g c =
    let b = c.release_first.ensures in
    told_renewed g.K.TableKey.hash c.args.self.now.words.now None c.args.self.now.pass.now c.renew.new.pass c.release_first.new.pass c.renew.ensures.step b.released b.told

pub returns-clause-doubled : goal.returns-clause-doubled
returns-clause-doubled g c = doubled_renewed g.K.TableKey.hash c.args.self.now.words.now None c.args.self.now.pass.now c.renew.new.pass c.release_first.new.pass c.args.self.now.own.1 c.renew.ensures.step c.release_first.ensures.released.stays
