use Rattle.std.proofs.Common.{◌∙◌}
use Rattle.ck_words.specs.StripeSets.{list_of}
use Rattle.ck_words.proofs.Taking.{rises}
use Rattle.ck_words.proofs.AreHeld.{are_held, held_then, numbers_then, unchanged_then}
use Rattle.ck_words.proofs.words.Words.settle_taken.Goals as goal

pub returns-clause-held : goal.returns-clause-held
returns-clause-held g c =
    let h = g.K.TableKey.hash in
    let set = c.args.self.now.settings in
    let p = c.args.pass.now in
    let e = c.requires.taken.1 in
    let x = c.args.set in
    held_then h set p c.settle.new.pass c.settle.ensures.settled (are_held h set c.show_range.ensures p (list_of x) e.numbered (rises (list_of x) x.rising) x.some e.of_table e.no_spare e.unchanged (e.shows x.some))

pub returns-clause-numbers : goal.returns-clause-numbers
returns-clause-numbers g c = numbers_then g.K.TableKey.hash c.args.self.now.settings c.args.pass.now c.settle.new.pass c.settle.ensures.settled ∙ c.requires.taken.1.numbered

pub returns-clause-unchanged : goal.returns-clause-unchanged
returns-clause-unchanged g c = unchanged_then g.K.TableKey.hash c.args.self.now.settings c.args.pass.now c.settle.new.pass c.settle.ensures.settled c.requires.taken.1.unchanged
