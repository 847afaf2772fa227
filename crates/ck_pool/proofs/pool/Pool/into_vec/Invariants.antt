use Rattle.std.proofs.Common.{◌≡◌, ◌+◌, ◌≤◌, vec_len, vec_capacity}
use Rattle.ck_pool.proofs.pool.Pool.into_vec.Given as goal

abbrev pub invariant-loop-place : goal.invariant-loop-place
invariant-loop-place g l = record {
  all : vec_len l.places + vec_len l.items ≡ vec_len l.initial.places;
  room : vec_len l.initial.places ≤ vec_capacity l.items;
}

abbrev pub decreases-loop-place : goal.decreases-loop-place
decreases-loop-place g l = vec_len l.places
