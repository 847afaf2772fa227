use Rattle.std.proofs.Common.{◌≡◌, ℕ, ◌%◌, ◌^◌, ◌<◌, List, length, sym, ◌∙◌, ap, subst}
use Rattle.ck_model.specs.Contents.{IsBucketOf}
use Rattle.ck_path.specs.Route.{first_bucket}
use Rattle.ck_stripe.specs.Stripe.{StripeState}
use Rattle.ck_section.specs.Hops.{IsNoCall}
use Rattle.ck_stripe.specs.Tables.{power_in}
use Rattle.ck_section.proofs.Growing.{room_in}
use Rattle.ck_section.proofs.Searched.{begins_home}
use Rattle.ck_section.proofs.Tables.{held_of, stripe_inside}
use Rattle.ck_section.proofs.room.displace.Goals as goal

pub returns-in-Some-clause-no_call : goal.returns-in-Some-clause-no_call
returns-in-Some-clause-no_call g c = subst (λ (l : List (StripeState g.row.V.Denot)). IsNoCall g.K.TableKey.hash c.args.s l (g.H.Held.stripes c.follow_path.new.held)) c.find_path.ensures.same c.follow_path.ensures.no_call

pub returns-in-Some-clause-room : goal.returns-in-Some-clause-room
returns-in-Some-clause-room g c =
    let V : Type 0 = g.row.V.Denot in
    let hash = g.K.TableKey.hash in
    let q = g.K.TableKey.name c.args.key.now in
    let s : ℕ = c.args.s in
    let old : List (StripeState V) = g.H.Held.stripes c.args.held.now in
    let cur : List (StripeState V) = g.H.Held.stripes c.find_path.new.held in
    let new : List (StripeState V) = g.H.Held.stripes c.follow_path.new.held in
    let all = c.follow_path.ensures.held in
    let b : ℕ = first_bucket c.in-Some.path.hops c.in-Some.path.end in
    let home : IsBucketOf hash (power_in old) q b = begins_home hash s old q c.in-Some.path c.in-Some.ensures.path in
    let same : cur ≡ old = c.find_path.ensures.same in
    let some : 0 < length cur = subst (λ (l : List (StripeState V)). 0 < length l) (sym same) (held_of s old c.requires.held).some in
    let power : power_in new ≡ power_in old = c.follow_path.ensures.rest.power 0 some ∙ ap (λ (l : List (StripeState V)). power_in l) same in
    room_in s new all.table hash q b (subst (λ p. IsBucketOf hash p q b) (sym power) home) (all.settled (b % 2 ^ s) (stripe_inside s new all.table b)) c.follow_path.ensures.free
