use Rattle.std.proofs.Common.{◌≡◌, ◌++◌, map, take}
use Rattle.std.specs.Prelude.{vec_capacity}
use Rattle.ck_model.specs.Listing.{named}
use Rattle.ck_model.specs.Contents.{pairs_of}
use Rattle.ck_stripe.specs.Stripes.{contents_of}
use Rattle.ck_section.proofs.Cleared.{cleared}
use Rattle.ck_stripe.proofs.Stepwise.{changed_to}
use Rattle.ck_section.proofs.drain.drain_reserved.Given as goal

abbrev pub invariant-loop-i : goal.invariant-loop-i
invariant-loop-i g l = record {
  drained : l.stripes ≡ changed_to cleared l.i l.initial.stripes;
  seen : map (named g.K.TableKey.name) l.pairs.items ≡ map (named g.K.TableKey.name) l.initial.pairs.items ++ pairs_of (contents_of (take l.i l.initial.stripes));
  room : vec_capacity l.pairs ≡ vec_capacity l.initial.pairs;
}
