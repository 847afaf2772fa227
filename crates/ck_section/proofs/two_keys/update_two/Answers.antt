use Rattle.std.proofs.Common.{List, sym, ◌∙◌, subst}
use Rattle.ck_stripe.specs.Stripe.{StripeState}
use Rattle.ck_section.specs.Places.{IsNowhere, IsPlaceOf}
use Rattle.ck_section.proofs.Steps.{unchanged, reach_still, full_still}
use Rattle.ck_section.proofs.Rebound.{first_lacks, second_lacks}
use Rattle.ck_section.proofs.Exchanged.{partial_first, second_reach, second_full, partial_second, first_reach, first_free, again_reach, again_free, exchanged, exchanged_contents}
use Rattle.ck_section.proofs.two_keys.update_two.Goals as goal

pub returns-in_default-clause-call : goal.returns-in_default-clause-call
returns-in_default-clause-call g c =
    first_lacks _ _ _ _ _ _ c.requires.first c.requires.second c.requires.different _ c.find_slot.ensures.same c.in_default.ensures.nowhere

pub returns-in_default-find_slot-clause-call : goal.returns-in_default-find_slot-clause-call
returns-in_default-find_slot-clause-call g c =
    let here = c.in-Some.ensures.occupied in
    second_lacks _ _ _ _ _ _ c.requires.first c.requires.second c.requires.different c.in-Some.at_a here.slot here.found.0 here.found.1 _ (c.find_slot-2.ensures.same ∙ c.find_slot.ensures.same)
    (subst (λ (l : List (StripeState g.row.V.Denot)). IsNowhere l (g.Q.Query.name c.args.b) c.args.place_b) c.find_slot.ensures.same c.in_default-find_slot.ensures.nowhere)

pub remove-key_b-requires-clause-reach : goal.remove-key_b-requires-clause-reach
remove-key_b-requires-clause-reach g c =
    second_reach _ _ _ _ _ _ c.requires.first c.requires.second c.requires.different _ _ c.find_slot.ensures.same c.find_slot-2.ensures.same c.in-Some.at_a c.in-Some-find_slot.at_b c.in-Some.ensures.occupied c.in-Some-find_slot.ensures.occupied
    _ _ _ c.remove-key_a.ensures.entry c.remove-key_a.ensures.content

pub remove-key_b-requires-clause-full : goal.remove-key_b-requires-clause-full
remove-key_b-requires-clause-full g c =
    second_full _ _ _ _ _ _ c.requires.first c.requires.second c.requires.different _ _ c.find_slot.ensures.same c.find_slot-2.ensures.same c.in-Some.at_a c.in-Some-find_slot.at_b c.in-Some.ensures.occupied c.in-Some-find_slot.ensures.occupied
    _ _ _ c.remove-key_a.ensures.entry c.remove-key_a.ensures.content

pub put-requires-clause-partial : goal.put-requires-clause-partial
put-requires-clause-partial g c =
    partial_first _ _ _ _ _ _ c.requires.first c.requires.second c.requires.different _ _ c.find_slot.ensures.same c.find_slot-2.ensures.same c.in-Some.at_a c.in-Some-find_slot.at_b c.in-Some.ensures.occupied c.in-Some-find_slot.ensures.occupied
    _ _ _ c.remove-key_a.ensures.entry c.remove-key_a.ensures.content

pub put-requires-clause-reach : goal.put-requires-clause-reach
put-requires-clause-reach g c =
    first_reach _ _ _ _ _ _ c.requires.first c.requires.second c.requires.different _ _ c.find_slot.ensures.same c.find_slot-2.ensures.same c.in-Some.at_a c.in-Some-find_slot.at_b c.in-Some.ensures.occupied c.in-Some-find_slot.ensures.occupied
    _ _ _ c.remove-key_a.ensures.entry c.remove-key_a.ensures.content _ _ _ c.remove-key_b.ensures.entry c.remove-key_b.ensures.content c.f-value_a.result.0 c.f-value_a.result.1

pub put-requires-clause-free : goal.put-requires-clause-free
put-requires-clause-free g c =
    first_free _ _ _ _ _ _ c.requires.first c.requires.second c.requires.different _ _ c.find_slot.ensures.same c.find_slot-2.ensures.same c.in-Some.at_a c.in-Some-find_slot.at_b c.in-Some.ensures.occupied c.in-Some-find_slot.ensures.occupied
    _ _ _ c.remove-key_a.ensures.entry c.remove-key_a.ensures.content _ _ _ c.remove-key_b.ensures.entry c.remove-key_b.ensures.content c.f-value_a.result.0 c.f-value_a.result.1

pub put-requires-2-clause-partial : goal.put-requires-2-clause-partial
put-requires-2-clause-partial g c =
    partial_second _ _ _ _ _ _ c.requires.first c.requires.second c.requires.different _ _ c.find_slot.ensures.same c.find_slot-2.ensures.same c.in-Some.at_a c.in-Some-find_slot.at_b c.in-Some.ensures.occupied c.in-Some-find_slot.ensures.occupied
    _ _ _ c.remove-key_a.ensures.entry c.remove-key_a.ensures.content _ _ _ c.remove-key_b.ensures.entry c.remove-key_b.ensures.content c.f-value_a.result.0 c.f-value_a.result.1

pub put-requires-2-clause-reach : goal.put-requires-2-clause-reach
put-requires-2-clause-reach g c =
    again_reach _ _ _ _ _ _ c.requires.first c.requires.second c.requires.different _ _ c.find_slot.ensures.same c.find_slot-2.ensures.same c.in-Some.at_a c.in-Some-find_slot.at_b c.in-Some.ensures.occupied c.in-Some-find_slot.ensures.occupied
    _ _ _ c.remove-key_a.ensures.entry c.remove-key_a.ensures.content _ _ _ c.remove-key_b.ensures.entry c.remove-key_b.ensures.content c.f-value_a.result.0 c.f-value_a.result.1 _ c.put.ensures.content

pub put-requires-2-clause-free : goal.put-requires-2-clause-free
put-requires-2-clause-free g c =
    again_free _ _ _ _ _ _ c.requires.first c.requires.second c.requires.different _ _ c.find_slot.ensures.same c.find_slot-2.ensures.same c.in-Some.at_a c.in-Some-find_slot.at_b c.in-Some.ensures.occupied c.in-Some-find_slot.ensures.occupied
    _ _ _ c.remove-key_a.ensures.entry c.remove-key_a.ensures.content _ _ _ c.remove-key_b.ensures.entry c.remove-key_b.ensures.content c.f-value_a.result.0 c.f-value_a.result.1 _ c.put.ensures.content

pub returns-clause-call : goal.returns-clause-call
returns-clause-call g c = (
  c.remove-key_a.result.1,
  c.remove-key_b.result.1,
  c.f-value_a.result.0,
  c.f-value_a.result.1,
  c.f-value_a.ensures,
  exchanged _ _ _ _ _ _ c.requires.first c.requires.second c.requires.different _ _ c.find_slot.ensures.same c.find_slot-2.ensures.same c.in-Some.at_a c.in-Some-find_slot.at_b c.in-Some.ensures.occupied c.in-Some-find_slot.ensures.occupied
      _ _ _ c.remove-key_a.ensures.entry c.remove-key_a.ensures.content _ _ _ c.remove-key_b.ensures.entry c.remove-key_b.ensures.content c.f-value_a.result.0 c.f-value_a.result.1 _ c.put.ensures.content _ c.put-2.ensures.content,
)

pub returns-clause-rest : goal.returns-clause-rest
returns-clause-rest g c =
    exchanged_contents _ _ _ _ _ _ c.requires.first c.requires.second c.requires.different _ _ c.find_slot.ensures.same c.find_slot-2.ensures.same c.in-Some.at_a c.in-Some-find_slot.at_b c.in-Some.ensures.occupied c.in-Some-find_slot.ensures.occupied
    _ _ _ c.remove-key_a.ensures.entry c.remove-key_a.ensures.content _ _ _ c.remove-key_b.ensures.entry c.remove-key_b.ensures.content c.f-value_a.result.0 c.f-value_a.result.1 _ c.put.ensures.content _ c.put-2.ensures.content

pub returns-clause-stays : goal.returns-clause-stays
returns-clause-stays g c =
    let on = g.met.H.Held.stays_on in
    on _ _ _ c.find_slot.ensures.stays (on _ _ _ c.find_slot-2.ensures.stays (on _ _ _ c.remove-key_a.ensures.stays (on _ _ _ c.remove-key_b.ensures.stays (on _ _ _ c.put.ensures.stays c.put-2.ensures.stays))))

pub find_slot-requires : goal.find_slot-requires
find_slot-requires g c = c.requires.first

pub returns-in_default-clause-rest : goal.returns-in_default-clause-rest
returns-in_default-clause-rest g c = unchanged _ _ c.find_slot.ensures.same

pub returns-in_default-clause-stays : goal.returns-in_default-clause-stays
returns-in_default-clause-stays g c = c.find_slot.ensures.stays

pub find_slot-requires-2 : goal.find_slot-requires-2
find_slot-requires-2 g c = subst (λ (l : List (StripeState g.row.V.Denot)). IsPlaceOf g.K.TableKey.hash l (g.Q.Query.name c.args.b) c.args.place_b) (sym c.find_slot.ensures.same) c.requires.second

pub returns-in_default-find_slot-clause-rest : goal.returns-in_default-find_slot-clause-rest
returns-in_default-find_slot-clause-rest g c = unchanged _ _ (c.find_slot-2.ensures.same ∙ c.find_slot.ensures.same)

pub returns-in_default-find_slot-clause-stays : goal.returns-in_default-find_slot-clause-stays
returns-in_default-find_slot-clause-stays g c = g.met.H.Held.stays_on _ _ _ c.find_slot.ensures.stays c.find_slot-2.ensures.stays

pub remove-key_a-requires-clause-reach : goal.remove-key_a-requires-clause-reach
remove-key_a-requires-clause-reach g c = reach_still (g.H.Held.stripes c.args.held.now) (g.H.Held.stripes c.find_slot-2.new.held) (c.find_slot-2.ensures.same ∙ c.find_slot.ensures.same) c.in-Some.at_a.index c.in-Some.at_a.bucket c.in-Some.ensures.occupied.slot.reach

pub remove-key_a-requires-clause-below : goal.remove-key_a-requires-clause-below
remove-key_a-requires-clause-below g c = c.in-Some.ensures.occupied.slot.below

pub remove-key_a-requires-clause-full : goal.remove-key_a-requires-clause-full
remove-key_a-requires-clause-full g c = full_still (g.H.Held.stripes c.args.held.now) (g.H.Held.stripes c.find_slot-2.new.held) (c.find_slot-2.ensures.same ∙ c.find_slot.ensures.same) c.in-Some.at_a (g.Q.Query.name c.args.a) c.in-Some.ensures.occupied.found

pub remove-key_b-requires-clause-below : goal.remove-key_b-requires-clause-below
remove-key_b-requires-clause-below g c = c.in-Some-find_slot.ensures.occupied.slot.below

pub put-requires-clause-below : goal.put-requires-clause-below
put-requires-clause-below g c = c.in-Some.ensures.occupied.slot.below

pub put-requires-2-clause-below : goal.put-requires-2-clause-below
put-requires-2-clause-below g c = c.in-Some-find_slot.ensures.occupied.slot.below
