use Rattle.std.proofs.Common.{◌≡◌, ◌+◌, ◌≤◌, vec_len, vec_capacity}
use Rattle.ck_pool.proofs.pool.Pool.new.Given as goal

abbrev pub invariant-loop-item : goal.invariant-loop-item
invariant-loop-item g l = record {
  all : vec_len l.places + vec_len l.list ≡ vec_len l.initial.list;
  room : vec_len l.initial.list ≤ vec_capacity l.places;
}

abbrev pub decreases-loop-item : goal.decreases-loop-item
decreases-loop-item g l = vec_len l.list
