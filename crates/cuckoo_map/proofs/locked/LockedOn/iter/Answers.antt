use Rattle.std.proofs.Common.{◌^◌, ◌≤◌, ◌∙◌, List, length, sym, ap, subst}
use Rattle.ck_model.specs.Promise.{Name}
use Rattle.ck_model.specs.Contents.{pairs_of}
use Rattle.ck_stripe.specs.Stripe.{StripeState}
use Rattle.ck_stripe.specs.Stripes.{contents_of}
use Rattle.cuckoo_map.proofs.Sessions.{lists_locked, few_locked}
use Rattle.cuckoo_map.proofs.locked.LockedOn.iter.Goals as goal

pub returns-clause-pairs : goal.returns-clause-pairs
returns-clause-pairs g c =
    let all = c.new.ensures ∙ ap (λ (ss : List (StripeState g.row.V.Denot)). pairs_of (contents_of ss)) c.stripes_of.ensures in
    lists_locked g.K.TableKey.hash (g.T.TableRef.state c.self.inside.table) c.self.inside.whole c.self.invariant c.new.result all c.args.self.now c.self.view_is

pub returns-clause-few : goal.returns-clause-few
returns-clause-few g c =
    let all = c.new.ensures ∙ ap (λ (ss : List (StripeState g.row.V.Denot)). pairs_of (contents_of ss)) c.stripes_of.ensures in
    subst (λ (es : List (Name × g.row.V.Denot)). length es ≤ 2 ^ 38) (sym all) (few_locked g.K.TableKey.hash (g.T.TableRef.state c.self.inside.table) c.self.inside.whole c.self.invariant)
