use Rattle.std.proofs.Common.{◌-◌, ◌≤◌}
use Rattle.ck_model.specs.Contents.{layout, Lawful}
use Rattle.ck_stripe.specs.Stripes.{contents_of}
use Rattle.ck_stripe.specs.Tables.{IsTable, power_in}
use Rattle.ck_section.proofs.RoomMade.{Grown}
use Rattle.ck_section.proofs.room.make_room.Given as goal

abbrev pub invariant-loop-hash : goal.invariant-loop-hash
invariant-loop-hash g l = record {
  table : IsTable l.s (g.H.Held.stripes l.held);
  rising : power_in (g.H.Held.stripes l.fn.held) ≤ power_in (g.H.Held.stripes l.held);
  grown : Lawful (layout g.K.TableKey.hash l.s l.max) (contents_of (g.H.Held.stripes l.fn.held))
      → Grown g.K.TableKey.hash l.s l.max l.min_load (g.K.TableKey.name l.key) (g.H.Held.stripes l.fn.held) (g.H.Held.stripes l.held);
  stays : g.H.Held.stays l.fn.held l.held;
}

abbrev pub decreases-loop-hash : goal.decreases-loop-hash
decreases-loop-hash g l = 26 - power_in (g.H.Held.stripes l.held)
