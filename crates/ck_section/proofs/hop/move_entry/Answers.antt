use Rattle.std.proofs.Common.{◌≡◌, List, sym, ◌∙◌, ap, subst}
use Rattle.ck_model.specs.Slots.{HasFree}
use Rattle.ck_stripe.specs.Stripe.{StripeState}
use Rattle.ck_stripe.specs.Stripes.{bucket_at}
use Rattle.ck_stripe.specs.HeldSlots.{slot_in}
use Rattle.ck_section.specs.Hops.{source_in, HasPartial, lifted}
use Rattle.ck_section.proofs.Hopped.{Moving, moving, source_reach, target_reach, ready_to, hopped, not_hopped, not_free}
use Rattle.ck_section.proofs.Steps.{reach_still, full_still}
use Rattle.ck_section.proofs.hop.move_entry.Given.{Over}
use Rattle.ck_section.proofs.hop.move_entry.Goals.{After-remove-key}
use Rattle.ck_section.proofs.hop.move_entry.Goals as goal

pub power-requires : goal.power-requires
power-requires g c = c.requires.first

pub returns-then-power-hop : goal.returns-then-power-hop
returns-then-power-hop g c = not_hopped g.K.TableKey.hash _ _ _ c.args.hop _ c.power.ensures.same (λ can. c.if-power-hop.true (c.power.ensures.value ∙ can.power)) c.power.ensures.stays

pub has_partial-requires : goal.has_partial-requires
has_partial-requires g c =
    reach_still _ _ c.power.ensures.same c.args.from c.args.hop.bucket (source_reach g.K.TableKey.hash _ _ c.args.to c.args.hop c.requires (sym c.power.ensures.value ∙ c.if-power-hop.false))

pub returns-then-not-has_partial : goal.returns-then-not-has_partial
returns-then-not-has_partial g c =
    not_hopped g.K.TableKey.hash _ _ _ c.args.hop _ (c.has_partial.ensures.same ∙ c.power.ensures.same)
    (λ can. c.if-not-has_partial.ensures.value (subst (λ (l : List (StripeState g.row.V.Denot)). HasPartial g.K.TableKey.hash (slot_in l (source_in c.args.from c.args.hop)) c.args.hop.partial) (sym c.power.ensures.same) can.entry))
    (g.met.H.Held.stays_on _ _ _ c.power.ensures.stays c.has_partial.ensures.stays)

pub free-requires : goal.free-requires
free-requires g c = record {
  reach = reach_still _ _ (c.has_partial.ensures.same ∙ c.power.ensures.same) c.args.to c.args.hop.target (target_reach g.K.TableKey.hash _ c.args.from c.args.to c.args.hop c.requires (sym c.power.ensures.value ∙ c.if-power-hop.false));
}

pub returns-in_default : goal.returns-in_default
returns-in_default g c =
    let seen = c.has_partial.ensures.same ∙ c.power.ensures.same in
    let full = not_free g.K.TableKey.hash (bucket_at (g.H.Held.stripes c.has_partial.new.held) c.args.to c.args.hop.target) c.in_default.ensures.full in
    not_hopped g.K.TableKey.hash _ _ _ c.args.hop _ (c.free.ensures.same ∙ seen) (λ can. full (subst (λ (l : List (StripeState g.row.V.Denot)). HasFree (bucket_at l c.args.to c.args.hop.target)) (sym seen) can.free))
    (g.met.H.Held.stays_on _ _ _ c.power.ensures.stays (g.met.H.Held.stays_on _ _ _ c.has_partial.ensures.stays c.free.ensures.stays))

pub remove-key-requires : goal.remove-key-requires
remove-key-requires g c =
    let same = c.free.ensures.same ∙ c.has_partial.ensures.same ∙ c.power.ensures.same in
    let has = c.if-not-has_partial.ensures.value in
    record {
      reach = reach_still _ _ same c.args.from c.args.hop.bucket (source_reach g.K.TableKey.hash _ _ c.args.to c.args.hop c.requires (sym c.power.ensures.value ∙ c.if-power-hop.false));
      below = c.if-not-has_partial.ensures.below;
      full = full_still _ _ (c.free.ensures.same ∙ c.has_partial.ensures.same) (source_in c.args.from c.args.hop) has.name (has.value, has.entry);
    }

-- the entry that is taken out, and its new slot
found : (g : Over) (c : After-remove-key g) → Moving g.K.TableKey.hash (g.H.Held.stripes c.args.held.now) c.args.from c.args.to c.args.hop (g.K.TableKey.name c.remove-key.result.0) c.remove-key.result.1 c.in-Some.slot
found g c =
    let seen = c.has_partial.ensures.same ∙ c.power.ensures.same in
    moving g.K.TableKey.hash _ _ _ c.args.hop _ _ _ c.power.ensures.same seen (c.free.ensures.same ∙ seen) _ _ _ c.if-not-has_partial.ensures.below c.in-Some.ensures.below c.if-not-has_partial.ensures.value c.remove-key.ensures.entry c.in-Some.ensures.found c.in-Some.ensures.lowest

-- what is left without it
left : (g : Over) (c : After-remove-key g) → g.H.Held.stripes c.remove-key.new.held ≡ lifted (g.H.Held.stripes c.args.held.now) c.args.from c.args.hop
left g c = c.remove-key.ensures.content ∙ ap (λ (l : List (StripeState g.row.V.Denot)). lifted l c.args.from c.args.hop) (c.free.ensures.same ∙ c.has_partial.ensures.same ∙ c.power.ensures.same)

pub put-requires : goal.put-requires
put-requires g c =
    let d = (goal.at.put-requires g c).After-remove-key in
    ready_to g.K.TableKey.hash _ _ _ c.args.hop c.requires (sym c.power.ensures.value ∙ c.if-power-hop.false) _ _ _ (found g d) _ (left g d)

pub returns : goal.returns
returns g c =
    let on = g.met.H.Held.stays_on in
    let d = (goal.at.returns g c).After-remove-key in
    hopped g.K.TableKey.hash _ _ _ c.args.hop c.requires (sym c.power.ensures.value ∙ c.if-power-hop.false) _ _ _ (found g d) _ (left g d) _ c.put.ensures.content
    (on _ _ _ c.power.ensures.stays (on _ _ _ c.has_partial.ensures.stays (on _ _ _ c.free.ensures.stays (on _ _ _ c.remove-key.ensures.stays c.put.ensures.stays))))
