use Rattle.std.proofs.Common.{◌≡◌}
use Rattle.ck_stripe.specs.Stripes.{doubled}
use Rattle.ck_stripe.proofs.Stepwise.{changed_to}
use Rattle.ck_section.proofs.double.raise_all.Given as goal

abbrev pub invariant-loop-t : goal.invariant-loop-t
invariant-loop-t g l = record {
  stays : g.H.Held.stays l.initial.held l.held;
  doubled : g.H.Held.stripes l.held ≡ changed_to (doubled g.K.TableKey.hash) l.t (g.H.Held.stripes l.initial.held);
}
