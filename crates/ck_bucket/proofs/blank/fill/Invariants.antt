use Rattle.std.proofs.Common.{◌≡◌, ℕ, ◌<◌, ◌≤◌, Some, None, length, slice_index_or}
use Rattle.ck_room.specs.Room.{items_of, block_of}
use Rattle.ck_bucket.specs.Rows.{no_entry}
use Rattle.ck_bucket.proofs.blank.fill.Given as goal

abbrev pub invariant-loop-r : goal.invariant-loop-r
invariant-loop-r l = record {
  count : l.count ≡ length (items_of l.heads);
  full : (k : ℕ) → k < l.r → slice_index_or (items_of l.heads) k None ≡ Some no_entry;
  empty : (k : ℕ) → l.r ≤ k → slice_index_or (items_of l.heads) k None ≡ None;
  block : block_of l.heads ≡ block_of l.fn.heads;
}
