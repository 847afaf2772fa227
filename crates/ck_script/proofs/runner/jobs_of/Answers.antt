use Rattle.std.proofs.Common.{◌≡◌, ◌∙◌, ◌+◌, ◌∷◌, [], length, rules, ap, sym, subst}
use Rattle.std.specs.List.{AllZip, zip}
use Rattle.std.proofs.lemmas.List.{map-id, length-append}
use Rattle.std.proofs.lemmas.Iterator.{YieldsList-from_zip}
use Rattle.std.proofs.lemmas.Iterator.Consumers.{YieldsList-turn, YieldsList-end}
use Rattle.std.proofs.lemmas.Iterator.Adapters.{YieldsList-from_vec}
use Rattle.ck_script.specs.Jobs.{IsNew, IsJob, IsReadyJob}
use Rattle.ck_script.proofs.Workers.{first_of_zip, job_more, all_more}
use Rattle.ck_script.proofs.runner.jobs_of.Goals as goal

pub job_of-requires : goal.job_of-requires
job_of-requires g c =
    let first = YieldsList-from_vec {s = c.into_iter-handle-iterator.result.a} c.args.handles.items (search rules) (search rules) in
    let second = YieldsList-from_vec {s = c.into_iter-handle-iterator.result.b} c.args.workers.items (search rules) (search rules) in
    let road = YieldsList-from_zip {s = c.into_iter-handle-iterator.result} first second in
    let turn = YieldsList-turn road c.loop-handle.yielded c.loop-handle.handle-iterator c.loop-handle.yielded_by c.next.result c.next.new.self (c.in-Some.handle, c.in-Some.commands) c.in-Some.is c.next.ensures.steps in
    first_of_zip IsNew c.args.handles.items c.args.workers.items (length c.loop-handle.yielded) (c.in-Some.handle, c.in-Some.commands) c.requires.new turn

pub loop-handle-preserved : goal.loop-handle-preserved
loop-handle-preserved g c =
    let job = c.in_ok-job_of.field-0 in
    record {
      count = c.in_ok-push.ensures.len ∙ ap (λ n. n + 1) c.loop-handle.invariant.count ∙ sym (length-append c.loop-handle.yielded ((c.in-Some.handle, c.in-Some.commands) ∷ []));
      jobs = job_more c.loop-handle.yielded c.loop-handle.jobs.items c.push.new.self.items (c.in-Some.handle, c.in-Some.commands) job c.loop-handle.invariant.jobs c.in_ok-job_of.ensures.job c.in_ok-push.ensures.items;
      ready = all_more IsReadyJob c.loop-handle.jobs.items c.push.new.self.items job c.loop-handle.invariant.ready c.in_ok-job_of.ensures.ready c.in_ok-push.ensures.items;
    }

pub returns-clause-jobs : goal.returns-clause-jobs
returns-clause-jobs g c =
    let first = YieldsList-from_vec {s = c.into_iter-handle-iterator.result.a} c.args.handles.items (search rules) (search rules) in
    let second = YieldsList-from_vec {s = c.into_iter-handle-iterator.result.b} c.args.workers.items (search rules) (search rules) in
    let road = YieldsList-from_zip {s = c.into_iter-handle-iterator.result} first second in
    let end = YieldsList-end road c.loop-handle.yielded c.loop-handle.handle-iterator c.loop-handle.yielded_by c.next.result c.next.new.self c.in-None.is c.next.ensures.steps in
    let all : c.loop-handle.yielded ≡ zip c.args.handles.items c.args.workers.items = sym (map-id c.loop-handle.yielded) ∙ end.0 in
    subst (λ given. AllZip IsJob given c.loop-handle.jobs.items) all c.loop-handle.invariant.jobs
