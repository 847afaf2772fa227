use Rattle.std.proofs.Common.{◌≡◌, All, map, take}
use Rattle.std.specs.declared.option.Option.TheVariants.{None}
use Rattle.ck_foreign.proofs.opening.is_any_open.Given as goal

-- each place holds what it held, and those before the index are closed
abbrev pub invariant-loop-place : goal.invariant-loop-place
invariant-loop-place g l = record {
  kept : map g.P.Holds.held l.places ≡ map g.P.Holds.held l.fn.places;
  none : All (λ p. g.P.Holds.held p ≡ None) (take l.place-index l.fn.places);
}
