use Rattle.std.proofs.Common.{◌∙◌}
use Rattle.std.proofs.lemmas.Result.{err_from_is_err_and}
use Rattle.cuckoo_map.proofs.Displacing.{back_same, back_on, busy_on}
use Rattle.cuckoo_map.proofs.table.Table.search_path.Goals as goal

pub loop-bucket-init : goal.loop-bucket-init
loop-bucket-init g c = record { back = back_same c.args.self.now c.args.pass.now c.requires.own c.requires.idle; power = c.start-search.ensures.power }

pub returns-in_err-sketch : goal.returns-in_err-sketch
returns-in_err-sketch g c = record {
  back = back_on c.args.self.now c.args.pass.now c.loop-bucket.pass c.try_sketch.new.pass c.loop-bucket.invariant.back c.try_sketch.ensures.back;
  busy = (let e = err_from_is_err_and c.from_residual.result c.from_residual.ensures.1 in
      rw (e.1, e.2) (busy_on c.args.self.now _ c.args.pass.now c.loop-bucket.pass c.try_sketch.new.pass c.loop-bucket.invariant.back c.in_err-sketch.ensures.busy));
}

pub returns-in_default-2 : goal.returns-in_default-2
returns-in_default-2 g c = record {
  back = back_on c.args.self.now c.args.pass.now c.loop-bucket.pass c.try_sketch.new.pass c.loop-bucket.invariant.back c.try_sketch.ensures.back;
  busy = tt;
}

pub returns-in-Some-feed : goal.returns-in-Some-feed
returns-in-Some-feed g c = record {
  back = back_on c.args.self.now c.args.pass.now c.loop-bucket.pass c.try_sketch.new.pass c.loop-bucket.invariant.back c.try_sketch.ensures.back;
  busy = tt;
}

pub loop-bucket-preserved : goal.loop-bucket-preserved
loop-bucket-preserved g c = record {
  back = back_on c.args.self.now c.args.pass.now c.loop-bucket.pass c.try_sketch.new.pass c.loop-bucket.invariant.back c.try_sketch.ensures.back;
  power = c.feed.ensures.power ∙ c.loop-bucket.invariant.power;
}
