use Rattle.std.proofs.Common.{◌≢◌, ℕ, ◌<◌, ◌≤◌, Some}
use Rattle.ck_model.specs.Slots.{slot_at}
use Rattle.ck_model.specs.Contents.{row_at}
use Rattle.ck_bucket.proofs.rows.Rows.look.Given as goal

abbrev pub invariant-loop-i : goal.invariant-loop-i
invariant-loop-i g l = (j : ℕ) → l.i ≤ j → j < 4 → (v : g.row.V.Denot) → slot_at (row_at l.self l.row) j ≢ Some (g.Q.Query.name l.key, v)
