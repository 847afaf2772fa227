use Rattle.std.proofs.Common.{rules, refl, Some, None}
use Rattle.ck_foreign.specs.declared.code.Code.TheVariants as codes
use Rattle.cuckoo_c.proofs.numbers.cuckoo_pairs_next.Goals as goal

pub returns-in-Some : goal.returns-in-Some
returns-in-Some c = (codes.Done, search rules, (Some (c.in-Some.number, c.in-Some.bound), c.in-Some.ensures, (refl, refl, refl)))

pub returns-in-None : goal.returns-in-None
returns-in-None c = (codes.Absent, search rules, (None, c.in-None.ensures, (refl, refl, refl)))
