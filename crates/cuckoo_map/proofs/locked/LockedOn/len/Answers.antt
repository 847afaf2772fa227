use Rattle.std.proofs.Common.{◌≡◌, ◌^◌, ◌≤◌, List, length, ◌∙◌, ap, arith}
use Rattle.std.proofs.Math.Nat.{pow-le-pow_right}
use Rattle.std.specs.FinMap.{len}
use Rattle.ck_model.specs.Contents.{pairs_of}
use Rattle.ck_stripe.specs.Stripe.{StripeState}
use Rattle.ck_stripe.specs.Stripes.{contents_of}
use Rattle.cuckoo_map.specs.Locking.{LockedState, map_of}
use Rattle.cuckoo_map.proofs.Sessions.{counts_locked}
use Rattle.cuckoo_map.proofs.locked.LockedOn.len.Goals as goal

pub entries-requires : goal.entries-requires
entries-requires g c =
    let table = c.self.invariant.table in
    let few : 2 ^ (g.T.TableRef.state c.self.inside.table).settings.s ≤ 2 ^ 10 = pow-le-pow_right {n = 2} (omega arith) table.many in
    let all : length c.stripes_of.result.now ≡ length c.self.inside.whole.stripes = ap (λ (l : List (StripeState g.row.V.Denot)). length l) c.stripes_of.ensures in
    omega (arith, table.count)

pub returns : goal.returns
returns g c =
    c.entries.ensures.value
    ∙ (ap (λ (l : List (StripeState g.row.V.Denot)). length (pairs_of (contents_of l))) c.stripes_of.ensures
    ∙ (counts_locked g.K.TableKey.hash (g.T.TableRef.state c.self.inside.table) c.self.inside.whole c.self.invariant
    ∙ ap (λ (l : LockedState g.row.V.Denot). len (map_of l)) c.self.view_is))
