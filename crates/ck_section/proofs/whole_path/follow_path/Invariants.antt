use Rattle.std.proofs.Common.{drop, reverse}
use Rattle.ck_path.specs.Route.{first_bucket}
use Rattle.ck_section.specs.Hops.{IsNoCall}
use Rattle.ck_section.specs.Calls.{ChangesContents}
use Rattle.ck_section.specs.Room.{sketch_of}
use Rattle.ck_section.proofs.Followed.{IsLeft}
use Rattle.ck_section.proofs.whole_path.follow_path.Given as goal

abbrev pub invariant-loop-hop : goal.invariant-loop-hop
invariant-loop-hop g l = record {
  left : IsLeft l.power (sketch_of g.K.TableKey.hash l.s (g.H.Held.stripes l.held)) (first_bucket l.fn.path.hops l.fn.path.end) (reverse (drop l.hop-index l.hops)) l.target;
  no_call : IsNoCall g.K.TableKey.hash l.s (g.H.Held.stripes l.fn.held) (g.H.Held.stripes l.held);
  rest : ChangesContents (g.H.Held.stripes l.fn.held) (g.H.Held.stripes l.held);
  stays : g.H.Held.stays l.fn.held l.held;
}
