use Rattle.std.proofs.Common.{◌∙◌, List, sym, ap, subst, arith}
use Rattle.ck_model.specs.Contents.{layout}
use Rattle.ck_stripe.specs.Stripe.{StripeState}
use Rattle.ck_section.specs.Calls.{ChangesContents}
use Rattle.ck_stripe.specs.Tables.{IsTable}
use Rattle.ck_section.specs.Retaining.{AsksAboutStripes, RetainsBindings}
use Rattle.ck_words.specs.Passes.{PassState}
use Rattle.cuckoo_map.proofs.Sessions.{through_slice}
use Rattle.cuckoo_map.proofs.locked.pairs.retain_in.Goals as goal

pub returns-clause-asked : goal.returns-clause-asked
returns-clause-asked g c =
    let were = c.as_mut_slice.ensures.value ∙ ap (λ (p : PassState g.row.V.Denot). p.stripes) c.whole.view_is in
    through_slice (λ (a b : List (StripeState g.row.V.Denot)). AsksAboutStripes g.F.FnMut g.K.TableKey.name c.args.f.now a b c.retain_all.new.f) c.as_mut_slice.result.now c.args.whole.now.stripes were
    c.whole.inside.stripes.list.len c.whole.inside.stripes.list.items c.retain_all.new.stripes (omega arith) c.retain_all.ensures.asked

pub returns-clause-retained : goal.returns-clause-retained
returns-clause-retained g c = λ s max table.
    let were = c.as_mut_slice.ensures.value ∙ ap (λ (p : PassState g.row.V.Denot). p.stripes) c.whole.view_is in
    through_slice (λ (a b : List (StripeState g.row.V.Denot)). RetainsBindings g.F.FnMut g.K.TableKey.name c.args.f.now (layout g.K.TableKey.hash s max) a b) c.as_mut_slice.result.now c.args.whole.now.stripes were
    c.whole.inside.stripes.list.len c.whole.inside.stripes.list.items c.retain_all.new.stripes (omega arith)
    (c.retain_all.ensures.retained s max (subst (λ (ss : List (StripeState g.row.V.Denot)). IsTable s ss) (sym were) table))

pub returns-clause-changes : goal.returns-clause-changes
returns-clause-changes g c =
    let were = c.as_mut_slice.ensures.value ∙ ap (λ (p : PassState g.row.V.Denot). p.stripes) c.whole.view_is in
    through_slice (λ (a b : List (StripeState g.row.V.Denot)). ChangesContents a b) c.as_mut_slice.result.now c.args.whole.now.stripes were
    c.whole.inside.stripes.list.len c.whole.inside.stripes.list.items c.retain_all.new.stripes (omega arith) c.retain_all.ensures.changes
