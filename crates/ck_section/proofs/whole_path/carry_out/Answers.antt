use Rattle.std.proofs.Common.{◌≡◌, ℕ, ◌%◌, ◌^◌, List, sym, ◌∙◌, ap, subst}
use Rattle.ck_stripe.specs.Stripe.{StripeState}
use Rattle.ck_stripe.specs.Stripes.{stripe_at}
use Rattle.ck_section.specs.Hops.{IsHopIn, IsNoCall}
use Rattle.ck_section.proofs.Followed.{hop_in}
use Rattle.ck_section.proofs.Tables.{mask, stripe_inside}
use Rattle.ck_section.proofs.whole_path.carry_out.Goals as goal

pub move_entry-requires : goal.move_entry-requires
move_entry-requires g c =
    let stripes : List (StripeState g.row.V.Denot) = g.H.Held.stripes c.args.held.now in
    let s : ℕ = c.args.s in
    let table = c.requires.held.table in
    subst (λ n. IsHopIn stripes (c.args.hop.bucket % n) (c.args.hop.target % n) c.args.hop) (sym (mask s c.requires.held.table.many))
    (hop_in s stripes c.requires.held c.args.hop (stripe_inside s stripes table c.args.hop.bucket) (stripe_inside s stripes table c.args.hop.target) c.requires.below c.requires.target)

pub returns-clause-no_call : goal.returns-clause-no_call
returns-clause-no_call g c =
    let stripes : List (StripeState g.row.V.Denot) = g.H.Held.stripes c.args.held.now in
    let s : ℕ = c.args.s in
    let i : ℕ = c.args.hop.bucket % 2 ^ s in
    let own : (stripe_at stripes i).s ≡ s = c.requires.held.table.one_s i (stripe_inside s stripes c.requires.held.table c.args.hop.bucket) in
    subst (λ n. IsNoCall g.K.TableKey.hash n stripes (g.H.Held.stripes c.move_entry.new.held)) (ap (λ n. (stripe_at stripes (c.args.hop.bucket % n)).s) (mask s c.requires.held.table.many) ∙ own) c.move_entry.ensures.no_call
