use Rattle.std.proofs.Common.{◌≡◌, take, reverse}
use Rattle.ck_path.specs.Route.{first_bucket}
use Rattle.cuckoo_map.specs.Displacing.{IsBack}
use Rattle.cuckoo_map.proofs.table.Table.follow.Given as goal

abbrev pub invariant-loop-step : goal.invariant-loop-step
invariant-loop-step g l = record {
  back : IsBack l.self l.initial.pass l.pass;
  target : l.target ≡ first_bucket (reverse (take l.step-index (reverse l.path.hops))) l.path.end;
}
