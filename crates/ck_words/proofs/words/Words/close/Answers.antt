use Rattle.std.proofs.Common.{sym, ap, ◌∙◌, subst, List, map, length, ◌+◌, ◌≤◌, vec_capacity}
use Rattle.ck_model.specs.Listing.{named}
use Rattle.ck_model.specs.Contents.{pairs_of}
use Rattle.ck_stripe.specs.Stripe.{StripeState}
use Rattle.ck_stripe.specs.Stripes.{contents_of}
use Rattle.ck_stripe.specs.Tables.{AreSettled}
use Rattle.ck_words.specs.Passes.{numbers_of}
use Rattle.ck_words.proofs.Ending.{callers_apart, all_back, pairs_distinct, closes}
use Rattle.ck_words.proofs.words.Words.close.Goals as goal

pub hold_with_room-requires-clause-own : goal.hold_with_room-requires-clause-own
hold_with_room-requires-clause-own g c = (callers_apart c.args.self.now c.args.others.items c.args.pass c.requires).1.own

pub hold_with_room-requires-clause-idle : goal.hold_with_room-requires-clause-idle
hold_with_room-requires-clause-idle g c = (callers_apart c.args.self.now c.args.others.items c.args.pass c.requires).1.idle

pub returns-in-Err-clause-passes : goal.returns-in-Err-clause-passes
returns-in-Err-clause-passes g c =
    all_back c.args.self.now c.args.others.items c.args.pass c.hold_with_room.new.pass c.requires c.hold_with_room.ensures.stays c.hold_with_room.ensures.own c.in-Err.ensures.idle

pub gather_all-requires-clause-own : goal.gather_all-requires-clause-own
gather_all-requires-clause-own g c = c.hold_with_room.ensures.own

pub gather_all-requires-clause-shows : goal.gather_all-requires-clause-shows
gather_all-requires-clause-shows g c = c.in-Ok.ensures.whole.shows

pub gather_all-requires-clause-callers : goal.gather_all-requires-clause-callers
gather_all-requires-clause-callers g c = (callers_apart c.args.self.now c.args.others.items c.args.pass c.requires).0

pub pour-requires-clause-own : goal.pour-requires-clause-own
pour-requires-clause-own g c = c.gather_all.ensures.own

pub pour-requires-clause-empty : goal.pour-requires-clause-empty
pour-requires-clause-empty g c = c.in-Ok.ensures.empty

pub pour-requires-clause-settled : goal.pour-requires-clause-settled
pour-requires-clause-settled g c = subst (λ (l : List (StripeState g.row.V.Denot)). AreSettled l) (sym c.gather_all.ensures.stripes) c.in-Ok.ensures.settled

pub pour-requires-clause-room : goal.pour-requires-clause-room
pour-requires-clause-room g c = subst (λ (l : List (StripeState g.row.V.Denot)). length (pairs_of (contents_of l)) + 4 ≤ vec_capacity c.in-Ok.pairs) (sym c.gather_all.ensures.stripes) c.in-Ok.ensures.room

pub pour-requires-clause-numbered : goal.pour-requires-clause-numbered
pour-requires-clause-numbered g c = ap (λ (l : List (StripeState g.row.V.Denot)). numbers_of l) c.gather_all.ensures.stripes ∙ c.in-Ok.ensures.whole.all

pub returns-in-Ok-clause-closed : goal.returns-in-Ok-clause-closed
returns-in-Ok-clause-closed g c =
    closes c.args.self.now c.args.others.items c.args.pass c.hold_with_room.new.pass c.requires c.hold_with_room.ensures.stays g.K.TableKey.hash c.gather_all.new.first c.in-Ok.ensures.whole c.gather_all.ensures
    (map (named g.K.TableKey.name) c.pour.result.items) c.pour.ensures

pub returns-in-Ok-clause-apart : goal.returns-in-Ok-clause-apart
returns-in-Ok-clause-apart g c =
    pairs_distinct c.args.self.now c.args.others.items c.args.pass c.hold_with_room.new.pass c.requires c.hold_with_room.ensures.stays g.K.TableKey.hash c.gather_all.new.first c.in-Ok.ensures.whole c.gather_all.ensures
    (map (named g.K.TableKey.name) c.pour.result.items) c.pour.ensures
