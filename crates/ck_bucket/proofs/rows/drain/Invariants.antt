use Rattle.std.proofs.Common.{◌≡◌, ℕ, ◌<◌, ◌≤◌, None, IsSome, length, slice_index_or}
use Rattle.ck_room.specs.Room.{items_of, block_of}
use Rattle.ck_bucket.proofs.rows.drain.Given as goal

abbrev pub invariant-loop-r : goal.invariant-loop-r
invariant-loop-r l = record {
  count : l.count ≡ length (items_of l.heads);
  empty : (k : ℕ) → k < l.r → slice_index_or (items_of l.heads) k None ≡ None;
  full : (k : ℕ) → l.r ≤ k → k < l.count → IsSome (slice_index_or (items_of l.heads) k None);
  block : block_of l.heads ≡ block_of l.fn.heads;
}
