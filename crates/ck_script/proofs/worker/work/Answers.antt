use Rattle.std.proofs.Common.{◌∙◌, ◌+◌, [], ◌∷◌, rules, arith, ap, sym, subst}
use Rattle.std.proofs.lemmas.List.{map-id, length-append}
use Rattle.std.proofs.lemmas.Iterator.Consumers.{YieldsList-end}
use Rattle.std.proofs.lemmas.Iterator.Adapters.{YieldsList-from_vec}
use Rattle.ck_script.specs.Jobs.{HasMade}
use Rattle.ck_script.proofs.Seen.{sees_own}
use Rattle.ck_script.proofs.Entries.{left_by_one}
use Rattle.ck_script.proofs.worker.work.Goals as goal

pub loop-command-preserved : goal.loop-command-preserved
loop-command-preserved g c =
    let before = c.loop-command.invariant in
    let done = c.loop-command.yielded in
    let command = c.in-Some.command in
    let answer = c.answer_of-answer.result.0 in
    let p = c.loop-command.handle in
    let q = c.answer_of-answer.result.1 in
    let now = c.answer_of-answer.ensures in
    let one_more = length-append done (command ∷ []) in
    record {
      same = record { table = now.same.table ∙ before.same.table; by = now.same.by ∙ before.same.by };
      count = c.push_reserved.ensures.len ∙ ap (λ n. n + 1) before.count ∙ sym one_more;
      room = omega (arith, before.room, c.push_reserved.ensures.capacity);
      own = λ by is.
          let number = sym now.same.by ∙ is in
          sees_own by p.client q.client (now.own by number) (before.own by number);
      left = λ by is.
          let number = sym now.same.by ∙ is in
          left_by_one g.K.TableKey.hash g.K.TableKey.name by done command c.loop-command.answers.items c.push_reserved.new.self.items answer p q number (before.own by number) now (before.left by number) c.push_reserved.ensures.items;
    }

pub returns : goal.returns
returns g c =
    let before = c.loop-command.invariant in
    let end = YieldsList-end (YieldsList-from_vec {s = c.into_iter-command-iterator.result} c.args.job.commands.items (search rules) (search rules)) c.loop-command.yielded c.loop-command.command-iterator c.loop-command.yielded_by c.next.result c.next.new.self c.in-None.is c.next.ensures.steps in
    let all = sym (map-id c.loop-command.yielded) ∙ end.0 in
    record {
      same = before.same;
      left = λ by is. subst (λ commands. HasMade g.K.TableKey.hash g.K.TableKey.name by commands c.loop-command.answers.items c.loop-command.handle) all (before.left by (before.same.by ∙ is));
    }
