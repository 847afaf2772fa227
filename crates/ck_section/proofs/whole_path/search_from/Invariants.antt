use Rattle.std.proofs.Common.{◌≡◌}
use Rattle.ck_path.specs.Progress.{IsSearchFed, IsSearchOver}
use Rattle.ck_path.specs.Queue.{steps_left}
use Rattle.ck_section.specs.Room.{sketch_of}
use Rattle.ck_section.proofs.Searched.{is_four}
use Rattle.ck_section.proofs.whole_path.search_from.Given as goal

abbrev pub invariant-loop-bucket : goal.invariant-loop-bucket
invariant-loop-bucket g l = record {
  power : l.search.power ≡ l.power;
  fed : IsSearchFed (is_four (sketch_of g.K.TableKey.hash l.s (g.H.Held.stripes l.fn.held))) l.power l.first l.second l.search;
  over : IsSearchOver l.power (sketch_of g.K.TableKey.hash l.s (g.H.Held.stripes l.fn.held)) l.first l.second l.search;
  same : g.H.Held.stripes l.held ≡ g.H.Held.stripes l.fn.held;
  stays : g.H.Held.stays l.fn.held l.held;
}

abbrev pub decreases-loop-bucket : goal.decreases-loop-bucket
decreases-loop-bucket g l = steps_left l.search
