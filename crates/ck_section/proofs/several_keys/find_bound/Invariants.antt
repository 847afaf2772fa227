use Rattle.std.proofs.Common.{◌≡◌, ℕ, Some, length, map, take}
use Rattle.ck_model.specs.Promise.{bound_in}
use Rattle.ck_model.specs.Contents.{layout, Lawful, bindings}
use Rattle.ck_stripe.specs.Stripes.{contents_of}
use Rattle.ck_section.proofs.several_keys.find_bound.Given as goal

abbrev pub invariant-loop-i : goal.invariant-loop-i
invariant-loop-i g l = record {
  same : g.H.Held.stripes l.held ≡ g.H.Held.stripes l.initial.held;
  stays : g.H.Held.stays l.initial.held l.held;
  as_many : length l.values ≡ length l.initial.values;
  so_far : (max : ℕ) → Lawful (layout g.K.TableKey.hash l.s max) (contents_of (g.H.Held.stripes l.initial.held))
      → bound_in (bindings (contents_of (g.H.Held.stripes l.initial.held))) (map g.Q.Query.name (take l.i l.keys)) ≡ map Some (take l.i l.values);
}
