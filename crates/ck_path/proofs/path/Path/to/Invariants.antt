use Rattle.std.proofs.Common.{◌≡◌, ℕ, ◌+◌, Some, reverse}
use Rattle.std.specs.Prelude.{slice_get}
use Rattle.arrayvec.specs.ArrayVec.{array_vec_len}
use Rattle.ck_path.specs.Trace.{LeadsDown}
use Rattle.ck_path.proofs.path.Path.to.Given as goal

abbrev pub invariant-loop-node : goal.invariant-loop-node
invariant-loop-node l = record {
  at : (k : ℕ) × (slice_get l.nodes k ≡ Some l.node);
  room : array_vec_len l.hops + l.node.depth ≡ l.last.depth;
  leads : LeadsDown l.nodes l.node (reverse l.hops.items) l.last;
}

abbrev pub decreases-loop-node : goal.decreases-loop-node
decreases-loop-node l = l.node.depth
