use Rattle.std.proofs.Common.{◌∙◌, List, sym, ap, subst, arith}
use Rattle.std.proofs.lemmas.Result.{IfOk-weaker, on_ok_weaker}
use Rattle.ck_model.specs.Contents.{layout, Lawful, bindings}
use Rattle.ck_model.specs.Listing.{ListsInOrder}
use Rattle.ck_stripe.specs.Stripe.{StripeState}
use Rattle.ck_stripe.specs.Stripes.{contents_of}
use Rattle.ck_section.specs.Calls.{ChangesContents}
use Rattle.ck_stripe.specs.Tables.{IsTable}
use Rattle.ck_section.specs.Clearing.{ClearsBindings}
use Rattle.ck_words.specs.Passes.{PassState}
use Rattle.cuckoo_map.proofs.Sessions.{through_slice}
use Rattle.cuckoo_map.proofs.locked.pairs.drain_in.Goals as goal

pub returns-clause-pairs : goal.returns-clause-pairs
returns-clause-pairs g c =
    let V : Type 0 = g.row.V.Denot in
    let were = c.as_mut_slice.ensures.value ∙ ap (λ (p : PassState V). p.stripes) c.whole.view_is in
    IfOk-weaker c.drain_all.result _ _
    (λ pairs lists s max lawful.
    subst (λ (ss : List (StripeState V)). ListsInOrder g.K.TableKey.name g.K.Ord.cmp pairs.items (bindings (contents_of ss))) were
    (lists s max (subst (λ (ss : List (StripeState V)). Lawful (layout g.K.TableKey.hash s max) (contents_of ss)) (sym were) lawful)))
    c.drain_all.ensures.pairs

pub returns-clause-cleared : goal.returns-clause-cleared
returns-clause-cleared g c =
    let were = c.as_mut_slice.ensures.value ∙ ap (λ (p : PassState g.row.V.Denot). p.stripes) c.whole.view_is in
    on_ok_weaker c.drain_all.result
    (λ cleared s max table. through_slice (λ (a b : List (StripeState g.row.V.Denot)). ClearsBindings (layout g.K.TableKey.hash s max) a b) c.as_mut_slice.result.now c.args.whole.now.stripes were
    c.whole.inside.stripes.list.len c.whole.inside.stripes.list.items c.drain_all.new.stripes (omega arith)
    (cleared s max (subst (λ (ss : List (StripeState g.row.V.Denot)). IsTable s ss) (sym were) table)))
    c.drain_all.ensures.cleared

pub returns-clause-changes : goal.returns-clause-changes
returns-clause-changes g c =
    let were = c.as_mut_slice.ensures.value ∙ ap (λ (p : PassState g.row.V.Denot). p.stripes) c.whole.view_is in
    on_ok_weaker c.drain_all.result
    (through_slice (λ (a b : List (StripeState g.row.V.Denot)). ChangesContents a b) c.as_mut_slice.result.now c.args.whole.now.stripes were
    c.whole.inside.stripes.list.len c.whole.inside.stripes.list.items c.drain_all.new.stripes (omega arith))
    c.drain_all.ensures.changes
