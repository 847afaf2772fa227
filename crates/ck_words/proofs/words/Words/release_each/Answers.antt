use Rattle.std.proofs.Common.{rules, ◌≡◌, ◌∙◌, ◌-◌, ◌++◌, [], ◌∷◌, take, get_or, ap, sym, subst, arith}
use Rattle.ck_words.specs.StripeSets.{list_of}
use Rattle.ck_words.proofs.Releasing.{Leaves, last_taken, leaves_all, leaves_fewer, leaves_none}
use Rattle.ck_words.proofs.Telling.{told_none, told_fewer}
use Rattle.ck_words.proofs.words.Words.release_each.Goals as goal

pub loop-i-init : goal.loop-i-init
loop-i-init g c = record {
  leaves = leaves_all c.args.self.now (take c.args.n (list_of c.args.set)) c.args.pass.now c.requires.own c.requires.unchanged c.requires.numbered;
  no_spare = c.requires.no_spare;
  told = told_none c.args.pass.now;
}

pub give_rest-requires-clause-holds : goal.give_rest-requires-clause-holds
give_rest-requires-clause-holds g c = record { own = search rules; highest = (let ns = list_of c.args.set in let i = c.loop-i.i in (take (i - 1) ns, c.loop-i.invariant.leaves.numbered ∙ (last_taken ns i c.loop-i-test.true (omega arith) ∙ ap (λ u. take (i - 1) ns ++ u ∷ []) (sym c.number_at.ensures.value)))); no_spare = search rules }

pub loop-i-preserved : goal.loop-i-preserved
loop-i-preserved g c =
    let w = c.args.self.now in let ns = list_of c.args.set in let i = c.loop-i.i in let p = c.args.pass.now in let q = c.loop-i.pass in
    record {
      leaves = leaves_fewer w g.K.TableKey.hash (take (i - 1) ns) (get_or ns (i - 1) 0) p q c.give_rest.new.pass (subst (λ l. Leaves w l p q) (last_taken ns i c.loop-i-test.true (omega arith)) c.loop-i.invariant.leaves) c.give_rest.ensures.own c.give_rest.ensures.unchanged c.give_rest.ensures.step;
      no_spare = c.give_rest.ensures.no_spare;
      told = told_fewer g.K.TableKey.hash w p q c.give_rest.new.pass c.loop-i.invariant.told c.loop-i.invariant.leaves.unchanged c.give_rest.ensures.step;
    }

pub returns-clause-released : goal.returns-clause-released
returns-clause-released g c = let w = c.args.self.now in
    let end : c.loop-i.i ≡ 0 = omega arith in leaves_none w c.args.pass.now c.loop-i.pass (subst (λ n. Leaves w (take n (list_of c.args.set)) c.args.pass.now c.loop-i.pass) end c.loop-i.invariant.leaves)

pub returns-clause-told : goal.returns-clause-told
returns-clause-told g c power same = (c.loop-i.invariant.told power same).1
