use Rattle.std.proofs.Common.{◌≡◌, ◌≤◌, ◌++◌, length, map, take, drop}
use Rattle.ck_foreign.proofs.pairs.Pairs.fill.Given as goal

-- the first i pairs are shown in the first i places
abbrev pub invariant-loop-i : goal.invariant-loop-i
invariant-loop-i g l = record {
  enough : l.i ≤ length l.initial.self;
  left : l.self ≡ drop l.i l.initial.self;
  shown : l.places ≡ map g.T.Shows.shown (take l.i l.initial.self) ++ drop l.i l.initial.places;
}
