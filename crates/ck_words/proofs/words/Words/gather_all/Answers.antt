use Rattle.ck_words.proofs.Joining.{gathered_more}
use Rattle.ck_words.proofs.Meets.{gathers}
use Rattle.std.proofs.Common.{rules, length, sym, subst}
use Rattle.std.proofs.lemmas.Iterator.Consumers.{YieldsList-turn}
use Rattle.std.proofs.lemmas.Iterator.Adapters.{YieldsList-from_vec}
use Rattle.ck_words.specs.Closing.{IsCaller}
use Rattle.ck_words.proofs.words.Words.gather_all.Goals as goal

pub loop-other-preserved : goal.loop-other-preserved
loop-other-preserved g c = gathered_more g.K.TableKey.hash c.args.self.now c.args.first.now c.in-Some.other c.loop-other.first c.look.new.pass c.loop-other.yielded c.loop-other.invariant (gathers g.K.TableKey.hash c.args.self.now c.join.new.first c.look.new.pass c.loop-other.first c.in-Some.other c.join.ensures.joined c.look.ensures.step) c.look.ensures.own

pub join-requires-clause-idle : goal.join-requires-clause-idle
join-requires-clause-idle g c =
    let turn = YieldsList-turn (YieldsList-from_vec {s = c.into_iter-other-iterator.result} c.args.others.items (search rules) (search rules)) c.loop-other.yielded c.loop-other.other-iterator c.loop-other.yielded_by c.next.result c.next.new.self c.in-Some.other c.in-Some.is c.next.ensures.steps in
    let caller : IsCaller c.args.self.now c.in-Some.other = subst (IsCaller c.args.self.now) (sym turn.1) (c.requires.callers (length c.loop-other.yielded) c.in-Some.other turn.0) in
    caller.idle

pub join-requires-clause-own : goal.join-requires-clause-own
join-requires-clause-own g c =
    let turn = YieldsList-turn (YieldsList-from_vec {s = c.into_iter-other-iterator.result} c.args.others.items (search rules) (search rules)) c.loop-other.yielded c.loop-other.other-iterator c.loop-other.yielded_by c.next.result c.next.new.self c.in-Some.other c.in-Some.is c.next.ensures.steps in
    let caller : IsCaller c.args.self.now c.in-Some.other = subst (IsCaller c.args.self.now) (sym turn.1) (c.requires.callers (length c.loop-other.yielded) c.in-Some.other turn.0) in
    (c.loop-other.invariant.own, caller.own)
