use Rattle.std.proofs.Common.{◌≡◌, ℕ, ◌≤◌, map, take}
use Rattle.ck_model.specs.Contents.{layout, Lawful}
use Rattle.ck_stripe.specs.Stripes.{contents_of}
use Rattle.ck_section.specs.HeldBuckets.{numbers_of}
use Rattle.ck_section.specs.RoomForAll.{coming}
use Rattle.ck_section.proofs.room_for_all.count_coming.Given as goal

abbrev pub invariant-loop-i : goal.invariant-loop-i
invariant-loop-i g l = record {
  same : g.H.Held.stripes l.held ≡ g.H.Held.stripes l.initial.held;
  stays : g.H.Held.stays l.initial.held l.held;
  few : l.count ≤ l.i;
  so_far : (max : ℕ) → Lawful (layout g.K.TableKey.hash l.s max) (contents_of (g.H.Held.stripes l.initial.held))
      → l.count ≡ coming (layout g.K.TableKey.hash l.s max) (contents_of (g.H.Held.stripes l.initial.held)) (numbers_of l.at) (map g.Q.Query.name (take l.i l.keys));
}
