use Rattle.std.proofs.Common.{◌≡◌, ◌<◌, ◌∙◌, List, ap, length, map, arith}
use Rattle.std.specs.Prelude.{slice_index_or}
use Rattle.ck_model.specs.declared.contents.Content.{Content}
use Rattle.ck_stripe.specs.Stripe.{StripeState}
use Rattle.ck_stripe.specs.Stripes.{no_stripe}
use Rattle.ck_section.proofs.Cleared.{cleared, changes_cleared, held_cleared, clears}
use Rattle.ck_stripe.proofs.Stepwise.{changed-long, changed-read, changed-more, changed-done}
use Rattle.ck_section.proofs.whole.clear_all.Given.{Over}
use Rattle.ck_section.proofs.whole.clear_all.Goals as goal

pub clear-requires : goal.clear-requires
clear-requires g c =
    let old : List (StripeState g.row.V.Denot) = c.args.stripes.now in
    let long = changed-long cleared c.loop-i.i old _ c.loop-i.invariant in
    let within : c.loop-i.i < length old = omega arith in
    let read = changed-read cleared c.loop-i.i old c.loop-i.stripes c.loop-i.invariant c.index-stripes-i.result no_stripe within in
    record { settled = ap (λ (x : StripeState g.row.V.Denot). x.settled) read ∙ c.requires.settled c.loop-i.i within }

pub loop-i-preserved : goal.loop-i-preserved
loop-i-preserved g c =
    let was : StripeState g.row.V.Denot = slice_index_or c.loop-i.stripes c.loop-i.i c.index-stripes-i.result in
    let done : c.clear.new.self ≡ cleared was = c.clear.ensures.rest ∙ ap (λ (x : Content g.row.V.Denot). record was { content = x }) c.clear.ensures.content in
    changed-more cleared c.loop-i.i c.args.stripes.now c.loop-i.stripes c.loop-i.invariant c.index-stripes-i.result c.clear.new.self done

all_cleared : (g : Over) (c : goal.After-loop-i g) → c.loop-i.stripes ≡ map cleared c.args.stripes.now
all_cleared g c = changed-done cleared c.loop-i.i c.args.stripes.now c.loop-i.stripes c.loop-i.invariant (omega arith)

pub returns-clause-held : goal.returns-clause-held
returns-clause-held g c = λ s table. held_cleared c.args.stripes.now c.loop-i.stripes (all_cleared g c) s table c.requires.settled

pub returns-clause-cleared : goal.returns-clause-cleared
returns-clause-cleared g c = λ s max table. clears c.args.stripes.now c.loop-i.stripes (all_cleared g c) s table g.K.TableKey.hash max

pub returns-clause-changes : goal.returns-clause-changes
returns-clause-changes g c = changes_cleared c.args.stripes.now c.loop-i.stripes (all_cleared g c)
