use Rattle.std.proofs.Common.{ℕ, ◌<◌, IsSome}
use Rattle.ck_model.specs.Slots.{slot_at}
use Rattle.ck_model.specs.Contents.{row_at}
use Rattle.ck_bucket.proofs.rows.Rows.free.Given as goal

abbrev pub invariant-loop-i : goal.invariant-loop-i
invariant-loop-i g l = (j : ℕ) → j < l.i → IsSome (slot_at (row_at l.self l.row) j)
