use Rattle.std.proofs.Common.{subst, Some, rules}
use Rattle.ck_model.specs.Paths.{reason_of_lack}
use Rattle.ck_words.specs.Renewing.{HasRefused}
use Rattle.ck_words.specs.StripeSets.{list_of}
use Rattle.ck_words.proofs.Guarding.{its_numbers}
use Rattle.ck_words.proofs.Releasing.{last_highest, others_left}
use Rattle.ck_words.proofs.Renewed.{refused_on}
use Rattle.ck_words.specs.Retries.{as_doubled}
use Rattle.ck_words.proofs.Telling.{told_renewed, doubled_renewed}
use Rattle.ck_words.proofs.guard.Guard.refuse.Goals as goal

pub renew-requires : goal.renew-requires
renew-requires g c = record { holds = record { own = c.args.self.now.own; highest = last_highest (list_of c.args.self.now.set) _ _ _ c.args.self.now.set.some c.count-last.ensures c.at.ensures.value (its_numbers c.args.self.now.pass.now.stripes c.args.self.now.numbered c.requires.locked); no_spare = c.requires.no_spare }; section = c.requires.renewed; grounds = search rules }

pub release_first-requires : goal.release_first-requires
release_first-requires g c = record {
  own = search rules;
  inside = search rules;
  numbered = others_left (list_of c.args.self.now.set) _ _ _ c.args.self.now.set.some c.count-last.ensures c.at.ensures.value (its_numbers c.args.self.now.pass.now.stripes c.args.self.now.numbered c.requires.locked) _ _ c.renew.ensures.step.1;
  no_spare = search rules;
  unchanged = search rules;
}

pub returns-clause-refused : goal.returns-clause-refused
returns-clause-refused g c =
    subst (λ (x : g.row.K.Denot). HasRefused c.args.self.now.words.now (g.K.TableKey.name x) (reason_of_lack c.args.lack) (as_doubled c.args.self.now.pass.now c.release_first.new.pass) c.release_first.new.pass) c.of.ensures
    (refused_on g.K.TableKey.hash c.args.self.now.words.now c.args.self.now.pass.now c.renew.new.pass _ _ c.renew.ensures.step _ c.release_first.ensures.released)

pub returns-clause-told : goal.returns-clause-told
returns-clause-told g c =
    let b = c.release_first.ensures in
    told_renewed g.K.TableKey.hash c.args.self.now.words.now (Some (g.K.TableKey.name c.of.result.value, reason_of_lack c.args.lack)) c.args.self.now.pass.now c.renew.new.pass c.release_first.new.pass c.renew.ensures.step b.released b.told

pub returns-clause-doubled : goal.returns-clause-doubled
returns-clause-doubled g c =
    doubled_renewed g.K.TableKey.hash c.args.self.now.words.now (Some (g.K.TableKey.name c.of.result.value, reason_of_lack c.args.lack)) c.args.self.now.pass.now c.renew.new.pass c.release_first.new.pass c.args.self.now.own.1 c.renew.ensures.step c.release_first.ensures.released.stays
