use Rattle.std.proofs.Common.{rules, ◌∙◌, ℕ, [], ◌∷◌, take, ap, sym, arith}
use Rattle.ck_words.specs.StripeSets.{list_of}
use Rattle.ck_words.proofs.Releasing.{last_taken, leaves_all, leaves_after, leaves_none}
use Rattle.ck_words.proofs.Telling.{told_none, told_fewer}
use Rattle.ck_words.proofs.words.Words.release_first.Goals as goal

pub returns-in-0-clause-released : goal.returns-in-0-clause-released
returns-in-0-clause-released g c =
    let w = c.args.self.now in
    let p = c.args.pass.now in
    leaves_none w p p (leaves_all w [] p c.requires.own c.requires.unchanged (c.requires.numbered ∙ ap (λ n. take n (list_of c.args.set)) c.in-0.is))

pub give_rest-requires-clause-holds : goal.give_rest-requires-clause-holds
give_rest-requires-clause-holds g c = record { own = search rules; highest = (let ns = list_of c.args.set in ([], c.requires.numbered ∙ (ap (λ n. take n ns) c.in-1.is ∙ (last_taken ns 1 (omega arith) c.args.set.some ∙ ap (λ (u : ℕ). u ∷ []) (sym c.at.ensures.value))))); no_spare = search rules }

pub returns-in-1-clause-released : goal.returns-in-1-clause-released
returns-in-1-clause-released g c =
    let w = c.args.self.now in
    let p = c.args.pass.now in
    let q = c.give_rest.new.pass in
    let ns = list_of c.args.set in
    leaves_none w p q
    (leaves_after w g.K.TableKey.hash [] c.at.result p q c.requires.own c.requires.unchanged
    (c.requires.numbered ∙ (ap (λ n. take n ns) c.in-1.is ∙ (last_taken ns 1 (omega arith) c.args.set.some ∙ ap (λ (u : ℕ). u ∷ []) (sym c.at.ensures.value))))
    c.give_rest.ensures.own c.give_rest.ensures.unchanged c.give_rest.ensures.step)

pub returns-in-1-clause-told : goal.returns-in-1-clause-told
returns-in-1-clause-told g c power same =
    (told_fewer g.K.TableKey.hash c.args.self.now c.args.pass.now c.args.pass.now c.give_rest.new.pass (told_none c.args.pass.now) c.requires.unchanged c.give_rest.ensures.step power same).1
