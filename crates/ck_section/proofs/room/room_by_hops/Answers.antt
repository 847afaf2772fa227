use Rattle.std.proofs.Common.{◌≡◌, ℕ, List, sym, ◌∙◌, ap, subst}
use Rattle.ck_model.specs.Contents.{layout, Stripes, Lawful}
use Rattle.ck_model.specs.Paths.{HasNoRoom}
use Rattle.ck_model.specs.Sections.{IdentitySection}
use Rattle.ck_stripe.specs.Stripe.{StripeState}
use Rattle.ck_stripe.specs.Stripes.{contents_of}
use Rattle.ck_stripe.specs.Tables.{AreAllHeld}
use Rattle.ck_stripe.proofs.Settled.{all_settled, contents_settled}
use Rattle.ck_section.proofs.Tables.{false_maps}
use Rattle.ck_section.proofs.room.room_by_hops.Given.{Over}
use Rattle.ck_section.proofs.room.room_by_hops.Goals as goal

-- settling leaves the contents
same : (g : Over) (c : goal.After-displace g) → contents_of (g.H.Held.stripes c.settle_all.new.held) ≡ contents_of (g.H.Held.stripes c.has_room.new.held)
same g c = ap (λ (l : List (StripeState g.row.V.Denot)). contents_of l) c.settle_all.ensures.settled ∙ contents_settled (g.H.Held.stripes c.has_room.new.held)

pub displace-requires-clause-held : goal.displace-requires-clause-held
displace-requires-clause-held g c =
    subst (λ (l : List (StripeState g.row.V.Denot)). AreAllHeld c.args.s l) (sym c.settle_all.ensures.settled) (all_settled c.args.s (g.H.Held.stripes c.has_room.new.held) c.has_room.ensures.table)

pub returns-clause-no_call : goal.returns-clause-no_call
returns-clause-no_call g c =
    let new : List (StripeState g.row.V.Denot) = g.H.Held.stripes c.displace.new.held in
    λ max.
    let k = layout g.K.TableKey.hash c.args.s max in
    subst (λ (hs : Stripes g.row.V.Denot). Lawful k hs → IdentitySection k hs (contents_of new)) (same g c ∙ c.has_room.ensures.same) (c.displace.ensures.no_call max)

pub returns-clause-same : goal.returns-clause-same
returns-clause-same g c = false_maps c.displace.result _ _ (λ e. ap (λ (l : List (StripeState g.row.V.Denot)). contents_of l) e ∙ same g c ∙ c.has_room.ensures.same) c.displace.ensures.same

pub returns-clause-no_room : goal.returns-clause-no_room
returns-clause-no_room g c =
    let V : Type 0 = g.row.V.Denot in
    let q = g.K.TableKey.name c.args.key.now in
    false_maps c.displace.result (g.H.Held.stripes c.displace.new.held ≡ g.H.Held.stripes c.settle_all.new.held) _
    (λ e. subst (λ (hs : Stripes V). (max : ℕ) → Lawful (layout g.K.TableKey.hash c.args.s max) hs → HasNoRoom (layout g.K.TableKey.hash c.args.s max) hs q)
    (sym (ap (λ (l : List (StripeState V)). contents_of l) e ∙ same g c)) c.if-has_room.ensures.room)
    c.displace.ensures.same
