use Rattle.std.proofs.Common.{rules}
use Rattle.ck_script.proofs.Workers.{all_worked}
use Rattle.ck_script.proofs.worker.work_all.Goals as goal

pub returns : goal.returns
returns g c =
    all_worked g.K.TableKey.hash g.K.TableKey.name _ _ c.args.jobs c.map_vec.result c.map_vec.ensures.len c.map_vec.ensures.each (λ j d called. search rules)
