use Rattle.std.proofs.Common.{◌∙◌, List, sym, ap, subst}
use Rattle.std.proofs.lemmas.Result.{IfOk-weaker}
use Rattle.ck_model.specs.Contents.{layout_of, Lawful, bindings}
use Rattle.ck_model.specs.Listing.{ListsInOrder}
use Rattle.ck_stripe.specs.Stripe.{StripeState}
use Rattle.ck_stripe.specs.Stripes.{contents_of}
use Rattle.ck_stripe.specs.Tables.{IsTable, AreSettled}
use Rattle.cuckoo_map.specs.Locking.{LockedState}
use Rattle.cuckoo_map.proofs.locked.LockedOn.export.Goals as goal

pub export-requires-clause-table : goal.export-requires-clause-table
export-requires-clause-table g c =
    ((g.T.TableRef.state c.self.inside.table).settings.s, subst (λ (ss : List (StripeState g.row.V.Denot)). IsTable (g.T.TableRef.state c.self.inside.table).settings.s ss) (sym c.stripes_of.ensures) c.self.invariant.table)

pub export-requires-clause-settled : goal.export-requires-clause-settled
export-requires-clause-settled g c = subst (λ (ss : List (StripeState g.row.V.Denot)). AreSettled ss) (sym c.stripes_of.ensures) c.self.invariant.settled

pub returns : goal.returns
returns g c =
    let V : Type 0 = g.row.V.Denot in
    let hash = g.K.TableKey.hash in
    let set = (g.T.TableRef.state c.self.inside.table).settings in
    let lawful = subst (λ (ss : List (StripeState V)). Lawful (layout_of hash set) (contents_of ss)) (sym c.stripes_of.ensures) c.self.invariant.renewed.lawful in
    let same = c.stripes_of.ensures ∙ ap (λ (l : LockedState V). l.stripes) c.self.view_is in
    record {
      pairs = IfOk-weaker c.export.result _ _
          (λ pairs lists. subst (λ (ss : List (StripeState V)). ListsInOrder g.K.TableKey.name g.K.Ord.cmp pairs.items (bindings (contents_of ss))) same (lists set.s set.max lawful))
          c.export.ensures.pairs;
    }
