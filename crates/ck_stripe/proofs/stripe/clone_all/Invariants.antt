use Rattle.std.proofs.Common.{◌≡◌, ◌++◌, flat_map, map, take}
use Rattle.std.specs.Prelude.{vec_capacity}
use Rattle.ck_model.specs.Listing.{named}
use Rattle.ck_model.specs.Slots.{taken_in}
use Rattle.ck_stripe.proofs.stripe.clone_all.Given as goal

abbrev pub invariant-loop-row : goal.invariant-loop-row
invariant-loop-row g l = record {
  seen : map (named g.K.TableKey.name) l.pairs.items ≡ map (named g.K.TableKey.name) l.initial.pairs.items ++ flat_map taken_in (take l.row l.rows);
  room : vec_capacity l.pairs ≡ vec_capacity l.initial.pairs;
}
