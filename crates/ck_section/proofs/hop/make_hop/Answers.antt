use Rattle.std.proofs.Common.{◌≡◌, ℕ, ◌<◌, ◌%◌, ◌^◌, List, length, sym, ◌∙◌, ap, subst}
use Rattle.ck_stripe.specs.Stripe.{StripeState}
use Rattle.ck_stripe.specs.Stripes.{stripe_at}
use Rattle.ck_stripe.specs.Tables.{HasStripe}
use Rattle.ck_section.specs.Hops.{IsNoCall}
use Rattle.ck_section.specs.Calls.{ChangesContents}
use Rattle.ck_section.proofs.Hopped.{hop_between}
use Rattle.ck_section.proofs.hop.make_hop.Goals as goal

pub returns-clause-hopped : goal.returns-clause-hopped
returns-clause-hopped g c =
    let V : Type 0 = g.row.V.Denot in
    let stripes : List (StripeState V) = g.H.Held.stripes c.args.held.now in
    let held = c.requires.held in
    let i : ℕ = c.bucket_index-from.result in
    let j : ℕ = c.bucket_index-to.result in
    let first : (g.H.Held.stripes c.bucket_index-from.new.held) ≡ stripes = c.bucket_index-from.ensures.same in
    let same : (g.H.Held.stripes c.bucket_index-to.new.held) ≡ stripes = c.bucket_index-to.ensures.same ∙ first in
    let inside_j : j < length stripes = subst (λ (l : List (StripeState V)). j < length l) first c.bucket_index-to.ensures.inside in
    let number_j : (stripe_at stripes j).number ≡ c.args.hop.target % 2 ^ c.args.s = ap (λ (l : List (StripeState V)). (stripe_at l j).number) (sym first) ∙ c.bucket_index-to.ensures.number in
    let is = hop_between c.args.s stripes i j c.args.hop c.bucket_index-from.ensures.inside inside_j held.settled held.one_s held.one_power c.requires.below c.requires.target c.bucket_index-from.ensures.number number_j in
    (i, j, is, rw same at c.move_entry.ensures.exactly, rw same at c.move_entry.ensures.moved)

pub returns-clause-no_call : goal.returns-clause-no_call
returns-clause-no_call g c =
    let V : Type 0 = g.row.V.Denot in
    let stripes : List (StripeState V) = g.H.Held.stripes c.args.held.now in
    let same : (g.H.Held.stripes c.bucket_index-to.new.held) ≡ stripes = c.bucket_index-to.ensures.same ∙ c.bucket_index-from.ensures.same in
    let s : (stripe_at (g.H.Held.stripes c.bucket_index-to.new.held) c.bucket_index-from.result).s ≡ c.args.s =
    ap (λ (l : List (StripeState V)). (stripe_at l c.bucket_index-from.result).s) same ∙ c.requires.held.one_s c.bucket_index-from.result c.bucket_index-from.ensures.inside in
    subst (λ (x : ℕ × List (StripeState V)). IsNoCall g.K.TableKey.hash x.0 x.1 (g.H.Held.stripes c.move_entry.new.held)) (λ z. (s z, same z)) c.move_entry.ensures.no_call

pub returns-clause-rest : goal.returns-clause-rest
returns-clause-rest g c = subst (λ (l : List (StripeState g.row.V.Denot)). ChangesContents l (g.H.Held.stripes c.move_entry.new.held)) (c.bucket_index-to.ensures.same ∙ c.bucket_index-from.ensures.same) c.move_entry.ensures.rest

pub returns-clause-stays : goal.returns-clause-stays
returns-clause-stays g c = let on = g.met.H.Held.stays_on in on _ _ _ c.bucket_index-from.ensures.stays (on _ _ _ c.bucket_index-to.ensures.stays c.move_entry.ensures.stays)

pub bucket_index-from-requires-clause-owned : goal.bucket_index-from-requires-clause-owned
bucket_index-from-requires-clause-owned g c = c.requires.source_owned

pub bucket_index-to-requires-clause-owned : goal.bucket_index-to-requires-clause-owned
bucket_index-to-requires-clause-owned g c = subst (λ (l : List (StripeState g.row.V.Denot)). HasStripe l (c.args.hop.target % 2 ^ c.args.s)) (sym c.bucket_index-from.ensures.same) c.requires.target_owned
