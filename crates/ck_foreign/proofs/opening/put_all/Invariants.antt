use Rattle.std.proofs.Common.{◌≡◌, map, take, length}
use Rattle.std.specs.declared.option.Option.TheVariants.{Some}
use Rattle.ck_foreign.proofs.opening.put_all.Given as goal

-- the first places hold the boxes so far
abbrev pub invariant-loop-boxed : goal.invariant-loop-boxed
invariant-loop-boxed g l = record {
  count : l.at ≡ length l.yielded;
  length : length l.places ≡ length l.fn.places;
  placed : map g.P.Holds.held (take l.at l.places) ≡ map (λ b. Some b.value) l.yielded;
}
