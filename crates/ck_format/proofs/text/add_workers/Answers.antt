use Rattle.ck_format.proofs.WorkersText.{one_more}
use Rattle.ck_format.proofs.text.add_workers.Goals as goal

pub loop-index-preserved : goal.loop-index-preserved
loop-index-preserved g c =
    one_more g.K.TableKey.name g.K.WrittenKey.keys c.args.workers.now c.loop-index.index c.index-workers-index.result c.deref.result.now c.args.out.now.items c.loop-index.out.items c.add_worker.new.out.items
    c.loop-index-test.true c.index-workers-index.is c.deref.ensures.value c.loop-index.invariant c.in_ok-add_worker.ensures
