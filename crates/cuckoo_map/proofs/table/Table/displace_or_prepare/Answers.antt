use Rattle.std.proofs.lemmas.Result.{err_from_is_err_and}
use Rattle.cuckoo_map.proofs.Displacing.{back_on, busy_on}
use Rattle.cuckoo_map.proofs.table.Table.displace_or_prepare.Goals as goal

pub returns-in_err-follow-in-Ok-Path : goal.returns-in_err-follow-in-Ok-Path
returns-in_err-follow-in-Ok-Path g c = record {
  back = back_on c.args.self.now c.args.pass.now c.search_path.new.pass c.follow.new.pass c.search_path.ensures.back c.follow.ensures.back;
  busy = (let e = err_from_is_err_and c.from_residual.result c.from_residual.ensures.1 in
      rw (e.1, e.2) (busy_on c.args.self.now _ c.args.pass.now c.search_path.new.pass c.follow.new.pass c.search_path.ensures.back c.in_err-follow-in-Ok-Path.ensures.busy));
}

pub returns-in_ok-follow-in-Ok-Path : goal.returns-in_ok-follow-in-Ok-Path
returns-in_ok-follow-in-Ok-Path g c = record {
  back = back_on c.args.self.now c.args.pass.now c.search_path.new.pass c.follow.new.pass c.search_path.ensures.back c.follow.ensures.back;
  busy = tt;
}
