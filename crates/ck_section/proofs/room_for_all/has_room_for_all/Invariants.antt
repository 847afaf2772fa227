use Rattle.std.proofs.Common.{◌≡◌, ℕ, map, take}
use Rattle.ck_model.specs.Promise.{Name}
use Rattle.ck_model.specs.Numbered.{IsIn}
use Rattle.ck_model.specs.Contents.{layout, Lawful}
use Rattle.ck_stripe.specs.Stripes.{contents_of}
use Rattle.ck_section.proofs.RoomTested.{FindsSlots}
use Rattle.ck_section.proofs.room_for_all.has_room_for_all.Given as goal

abbrev pub invariant-loop-i : goal.invariant-loop-i
invariant-loop-i g l = record {
  same : g.H.Held.stripes l.held ≡ g.H.Held.stripes l.initial.held;
  stays : g.H.Held.stays l.initial.held l.held;
  so_far : (max : ℕ) → Lawful (layout g.K.TableKey.hash l.s max) (contents_of (g.H.Held.stripes l.initial.held))
      → (q : Name) → IsIn q (map g.Q.Query.name (take l.i l.keys))
      → FindsSlots (layout g.K.TableKey.hash l.s max) (map g.Q.Query.name l.keys) q (contents_of (g.H.Held.stripes l.initial.held));
}
