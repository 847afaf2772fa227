use Rattle.std.proofs.Common.{◌≡◌, ◌≤◌}
use Rattle.ck_stripe.specs.Tables.{IsTable, power_in}
use Rattle.cuckoo_map.proofs.Growing.{Keeps}
use Rattle.cuckoo_map.proofs.room.growth.double_to.Given as goal

abbrev pub invariant-doublings : goal.invariant-doublings
invariant-doublings g l = record {
  table : IsTable l.s (g.H.Held.stripes l.held);
  power : power_in (g.H.Held.stripes l.held) ≡ l.counter;
  same : l.power ≤ l.before → g.H.Held.stripes l.held ≡ g.H.Held.stripes l.fn.held;
  no_call : Keeps l.s g.K.TableKey.hash l.power (g.H.Held.stripes l.fn.held) (g.H.Held.stripes l.held);
  stays : g.H.Held.stays l.fn.held l.held;
}
