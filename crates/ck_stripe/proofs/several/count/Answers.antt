use Rattle.std.proofs.Common.{inl, inr, subst, ◌≡◌, ◌<◌, ◌≤◌, ◌+◌, ◌*◌, ◌^◌, ◌∙◌, List, ap, length, sym, arith}
use Rattle.std.proofs.Math.Facts.{Fits-bits}
use Rattle.std.proofs.Math.Nat.{pow-le-pow_right}
use Rattle.ck_model.specs.Contents.{pairs_in, pairs_of, IsShaped}
use Rattle.ck_stripe.specs.Stripe.{StripeState}
use Rattle.ck_stripe.proofs.Writes.{few_entries}
use Rattle.ck_stripe.specs.Stripes.{stripe_at, contents_of}
use Rattle.ck_stripe.proofs.Totals.{entries_more, entries_all, entries-below}
use Rattle.ck_stripe.proofs.several.count.Goals as goal

pub overflow_add-entries : goal.overflow_add-entries
overflow_add-entries g c =
    let t : StripeState g.row.V.Denot = stripe_at (g.H.Held.stripes c.loop-i.held) c.loop-i.i in
    let here : t.content.ledger ≤ 4 * 2 ^ 26 = few_entries t.s t.content c.len-entries.ensures.formed.shaped c.len-entries.ensures.formed.most in
    let value : c.len-entries.result ≡ t.content.ledger = c.len-entries.ensures.value in
    let all : 2 ^ c.args.s ≤ 2 ^ 10 = pow-le-pow_right {n = 2} (omega arith) c.requires.many in
    let small : c.loop-i.entries + c.len-entries.result < 2 ^ 39 = omega (arith, c.loop-i.invariant.few) in
    Fits-bits 39 tt small

pub loop-i-preserved : goal.loop-i-preserved
loop-i-preserved g c =
    let stripes : List (StripeState g.row.V.Denot) = g.H.Held.stripes c.args.held.now in
    let i = c.loop-i.i in
    let t : StripeState g.row.V.Denot = stripe_at (g.H.Held.stripes c.loop-i.held) i in
    let shaped : IsShaped t.s t.content = c.len-entries.ensures.formed.shaped in
    let here : t.content.ledger ≤ 4 * 2 ^ 26 = few_entries t.s t.content shaped c.len-entries.ensures.formed.most in
    let value : c.len-entries.result ≡ t.content.ledger = c.len-entries.ensures.value in
    let inside : i < length stripes = omega (arith, c.requires.count) in
    let pairs : c.len-entries.result ≡ length (pairs_in (stripe_at stripes i).content) = value ∙ shaped.ledger ∙ ap (λ (l : List (StripeState g.row.V.Denot)). length (pairs_in (stripe_at l i).content)) c.loop-i.invariant.same in
    record {
      stays = g.met.H.Held.stays_on _ _ _ c.loop-i.invariant.stays c.len-entries.ensures.stays;
      same = c.len-entries.ensures.same ∙ c.loop-i.invariant.same;
      counted = ap (λ n. n + c.len-entries.result) c.loop-i.invariant.counted ∙ sym (entries_more i c.len-entries.result stripes inside pairs);
      few = omega (arith, c.loop-i.invariant.few);
    }

-- enough were counted
pub returns-then-enough-entries-clause-value : goal.returns-then-enough-entries-clause-value
returns-then-enough-entries-clause-value g c =
    let stripes : List (StripeState g.row.V.Denot) = g.H.Held.stripes c.args.held.now in
    inr (omega arith, subst (λ n. n ≤ length (pairs_of (contents_of stripes))) (sym c.loop-i.invariant.counted) (entries-below c.loop-i.i stripes))

pub returns-clause-value : goal.returns-clause-value
returns-clause-value g c =
    let stripes : List (StripeState g.row.V.Denot) = g.H.Held.stripes c.args.held.now in
    let all : 2 ^ c.args.s ≤ 2 ^ 10 = pow-le-pow_right {n = 2} (omega arith) c.requires.many in
    let end : length stripes ≤ c.loop-i.i = omega (arith, c.requires.count) in
    inl (c.loop-i.invariant.counted ∙ entries_all c.loop-i.i stripes end)

pub returns-then-enough-entries-clause-few : goal.returns-then-enough-entries-clause-few
returns-then-enough-entries-clause-few g c = let all : 2 ^ c.args.s ≤ 2 ^ 10 = pow-le-pow_right {n = 2} (omega arith) c.requires.many in omega (arith, c.loop-i.invariant.few)

pub returns-clause-few : goal.returns-clause-few
returns-clause-few g c = let all : 2 ^ c.args.s ≤ 2 ^ 10 = pow-le-pow_right {n = 2} (omega arith) c.requires.many in omega (arith, c.loop-i.invariant.few)
