use Rattle.std.proofs.Common.{ℕ, ◌+◌, ◌%◌, ◌^◌, List, drop, get_or, reverse, sym, ◌∙◌}
use Rattle.ck_model.specs.declared.path_hop.PathHop.{PathHop}
use Rattle.ck_model.specs.Contents.{layout}
use Rattle.ck_path.specs.Route.{first_bucket}
use Rattle.ck_stripe.specs.Stripe.{StripeState}
use Rattle.ck_stripe.specs.Stripes.{contents_of}
use Rattle.ck_stripe.specs.Tables.{AreAllHeld}
use Rattle.ck_section.specs.Room.{sketch_of}
use Rattle.ck_model.proofs.Identities.{identity_on}
use Rattle.ck_section.proofs.Followed.{IsLastHop, hop_of, next_left, last_now, can_hop, hop_left, others_stay, source_free, source_four, end_free}
use Rattle.ck_section.proofs.Found.{changes_on}
use Rattle.ck_section.proofs.Kept.{all_after}
use Rattle.ck_section.proofs.Tables.{held_of, stripe_inside}
use Rattle.ck_section.proofs.whole_path.follow_path.Given.{Over}
use Rattle.ck_section.proofs.whole_path.follow_path.Goals as goal

-- what a read past the end would give
abbrev blank : PathHop
blank = record { bucket = 0; slot = 0; partial = 0 }

-- the hop that is next
abbrev next : (g : Over) → goal.After-carry_out-arg-1 g → PathHop
next g c = get_or c.hops_from_end-hops.result.now c.loop-hop.hop-index blank

last : (g : Over) (c : goal.After-carry_out-arg-1 g) → IsLastHop c.power-power.result (sketch_of g.K.TableKey.hash c.args.s (g.H.Held.stripes c.loop-hop.held)) (next g c) c.loop-hop.target
last g c = last_now c.args.path.now c.power-power.ensures.linked c.power-power.result c.power-power.ensures.value _ c.hops_from_end-hops.result.now c.loop-hop.hop-index c.loop-hop.target blank c.loop-hop-test.true c.loop-hop.invariant.left

pub carry_out-requires-clause-below : goal.carry_out-requires-clause-below
carry_out-requires-clause-below g c = (last g c).below

pub carry_out-requires-clause-target : goal.carry_out-requires-clause-target
carry_out-requires-clause-target g c = (last g c).target

pub carry_out-requires-clause-can : goal.carry_out-requires-clause-can
carry_out-requires-clause-can g c =
    let cur : List (StripeState g.row.V.Denot) = g.H.Held.stripes c.loop-hop.held in
    let rest = c.loop-hop.invariant.rest in
    let old : List (StripeState g.row.V.Denot) = g.H.Held.stripes c.args.held.now in
    let all : AreAllHeld c.args.s cur = all_after c.args.s old cur c.requires.held rest in
    let inside = stripe_inside c.args.s cur all.table (next g c).bucket in
    can_hop g.K.TableKey.hash c.args.s cur c.power-power.result (next g c) c.loop-hop.target
    (all.table.one_power ((next g c).bucket % 2 ^ c.args.s) inside ∙ rest.power 0 (held_of c.args.s old c.requires.held).some ∙ sym c.requires.path.power ∙ sym c.power-power.ensures.value) (last g c)

pub loop-hop-preserved : goal.loop-hop-preserved
loop-hop-preserved g c =
    let V : Type 0 = g.row.V.Denot in
    let hash = g.K.TableKey.hash in
    let s : ℕ = c.args.s in
    let p : ℕ = c.power-power.result in
    let old : List (StripeState V) = g.H.Held.stripes c.args.held.now in
    let cur : List (StripeState V) = g.H.Held.stripes c.loop-hop.held in
    let new : List (StripeState V) = g.H.Held.stripes c.carry_out.new.held in
    let known = c.loop-hop.invariant in
    let todo : List PathHop = c.hops_from_end-hops.result.now in
    let i : ℕ = c.loop-hop.hop-index in
    let b : ℕ = first_bucket c.args.path.now.hops c.args.path.now.end in
    let t : ℕ = c.loop-hop.target in
    let h : PathHop = get_or todo i blank in
    let all : AreAllHeld s cur = all_after s old cur c.requires.held known.rest in
    let first = stripe_inside s cur all.table h.bucket in
    let second = stripe_inside s cur all.table t in
    let is : IsLastHop p (sketch_of hash s cur) h t = last_now c.args.path.now c.power-power.ensures.linked p c.power-power.ensures.value _ todo i t blank c.loop-hop-test.true known.left in
    let hopped = c.carry_out.ensures.hopped in
    record {
      left = hop_left p (sketch_of hash s cur) (sketch_of hash s new) b (reverse (drop (i + 1) todo)) h t (others_stay hash s cur new all (hop_of p h t) is.apart first second hopped)
          (source_free hash s cur new all (hop_of p h t) is.apart first second hopped) (source_four hash s cur new all (hop_of p h t) is.apart first second hopped is.four)
          (next_left p (sketch_of hash s cur) b todo i t blank c.loop-hop-test.true known.left);
      no_call = λ max lawful.
          let one = known.no_call max lawful in
          identity_on (layout hash s max) (contents_of old) (contents_of cur) (contents_of new) one (c.carry_out.ensures.no_call max one.renewed.lawful);
      rest = changes_on old cur new known.rest c.carry_out.ensures.rest;
      stays = g.met.H.Held.stays_on _ _ _ known.stays c.carry_out.ensures.stays;
    }

pub returns-clause-free : goal.returns-clause-free
returns-clause-free g c =
    end_free g.K.TableKey.hash c.args.s (g.H.Held.stripes c.loop-hop.held) c.power-power.result (first_bucket c.args.path.now.hops c.args.path.now.end) c.hops_from_end-hops.result.now c.loop-hop.hop-index c.loop-hop.target c.loop-hop-test.false
    c.loop-hop.invariant.left
