use Rattle.std.proofs.Common.{◌≡◌, ◌≤◌, length, map, vec_len, vec_capacity}
use Rattle.ck_foreign.proofs.opening.box_all.Given as goal

-- the values so far are in the boxes
abbrev pub invariant-loop-value : goal.invariant-loop-value
invariant-loop-value g l = record {
  made : map (λ b. b.value) l.boxes.items ≡ l.yielded;
  count : vec_len l.boxes ≡ length l.yielded;
  room : vec_capacity l.initial.boxes ≤ vec_capacity l.boxes;
}
