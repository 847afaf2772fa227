use Rattle.std.proofs.Common.{◌≡◌, ◌*◌, ◌^◌, ◌≤◌}
use Rattle.ck_stripe.proofs.Totals.{entries_to}
use Rattle.ck_stripe.proofs.several.count.Given as goal

abbrev pub invariant-loop-i : goal.invariant-loop-i
invariant-loop-i g l = record {
  stays : g.H.Held.stays l.initial.held l.held;
  same : g.H.Held.stripes l.held ≡ g.H.Held.stripes l.initial.held;
  counted : l.entries ≡ entries_to l.i (g.H.Held.stripes l.initial.held);
  few : l.entries ≤ l.i * (4 * 2 ^ 26);
}
