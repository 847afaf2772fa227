use Rattle.ck_script.proofs.Workers.{dealt_new, all_back, output_of_run}
use Rattle.ck_script.proofs.runner.output_of.Goals as goal

pub jobs_of-requires-clause-new : goal.jobs_of-requires-clause-new
jobs_of-requires-clause-new g c =
    let opened = c.in_ok-handles.ensures in
    dealt_new opened.0 _ _ c.in_ok-handles.handles.items opened.2

pub text_at_end-requires : goal.text_at_end-requires
text_at_end-requires g c =
    let opened = c.in_ok-handles.ensures in (
      opened.0,
      all_back g.K.TableKey.hash g.K.TableKey.name opened.0 c.args.work c.in_ok-handles.handles.items c.in_ok-answers.handles.items c.in_ok-jobs.jobs.items c.in_ok-dones.dones.items
          opened.1 opened.2 c.in_ok-jobs.ensures.jobs c.in_ok-dones.ensures c.in_ok-answers.ensures.handles,
    )

-- The laws of keys hold in each thread, so in this one.
pub returns : goal.returns
returns g c =
    let opened = c.in_ok-handles.ensures in
    let key = g.met.K.WrittenKey g.world.𝓛 g.world.𝓜 g.world.𝓡 ((λ s x. x), (λ x. x), (λ x. x), λ x. x) in
    output_of_run g.K.TableKey.hash g.K.TableKey.name opened.0 c.args.work c.in_ok-handles.handles.items c.in_ok-answers.handles.items c.in_ok-jobs.jobs.items c.in_ok-dones.dones.items
    opened.1 opened.2 c.in_ok-jobs.ensures.jobs c.in_ok-dones.ensures c.in_ok-answers.ensures.handles g.K.WrittenKey.keys c.in_ok-answers.answers.items c.text_at_end.result key.hashed c.in_ok-answers.ensures.answers
    (λ all. rw c.deref.ensures.value at (c.text_at_end.ensures opened.0 all))
