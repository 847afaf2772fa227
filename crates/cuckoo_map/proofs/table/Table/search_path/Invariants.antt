use Rattle.std.proofs.Common.{◌≡◌}
use Rattle.ck_path.specs.Queue.{steps_left}
use Rattle.cuckoo_map.specs.Displacing.{IsBack}
use Rattle.cuckoo_map.proofs.table.Table.search_path.Given as goal

abbrev pub invariant-loop-bucket : goal.invariant-loop-bucket
invariant-loop-bucket g l = record {
  back : IsBack l.self l.initial.pass l.pass;
  power : l.search.power ≡ l.power;
}

abbrev pub decreases-loop-bucket : goal.decreases-loop-bucket
decreases-loop-bucket g l = steps_left l.search
