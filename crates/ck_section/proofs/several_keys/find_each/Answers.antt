use Rattle.std.proofs.Common.{◌≡◌, List, ◌∙◌, sym, subst, arith}
use Rattle.std.proofs.lemmas.List.{length-set}
use Rattle.std.specs.FinMap.{get}
use Rattle.ck_model.specs.Contents.{layout, Lawful, bindings}
use Rattle.ck_stripe.specs.Stripe.{StripeState}
use Rattle.ck_stripe.specs.Stripes.{contents_of}
use Rattle.ck_section.specs.Places.{HasBoth}
use Rattle.ck_section.proofs.SeveralKeys.{key_among, bound_next, bound_all}
use Rattle.ck_section.proofs.several_keys.find_each.Goals as goal

pub find_one-requires-clause-owned : goal.find_one-requires-clause-owned
find_one-requires-clause-owned g c =
    let k = c.index-keys-i.result in
    subst (λ (ss : List (StripeState g.row.V.Denot)). HasBoth g.K.TableKey.hash c.args.s ss (g.Q.Query.name k)) (sym c.loop-i.invariant.same)
    (c.requires.owned (g.Q.Query.name k) (key_among g.Q.Query.name c.args.keys.now c.loop-i.i k (omega arith) c.index-keys-i.is))

pub loop-i-preserved : goal.loop-i-preserved
loop-i-preserved g c =
    let l = c.loop-i.invariant in
    record {
      same = c.find_one.ensures.same ∙ l.same;
      stays = g.met.H.Held.stays_on _ _ _ l.stays c.find_one.ensures.stays;
      as_many = length-set c.loop-i.values c.loop-i.i c.find_one.result ∙ l.as_many;
      so_far = λ max lawful.
          let old : List (StripeState g.row.V.Denot) = g.H.Held.stripes c.args.held.now in
          let found = subst (λ (ss : List (StripeState g.row.V.Denot)). Lawful (layout g.K.TableKey.hash c.args.s max) (contents_of ss) → c.find_one.result ≡ get (bindings (contents_of ss)) (g.Q.Query.name c.index-keys-i.result)) l.same (c.find_one.ensures.value max) lawful in
          bound_next g.Q.Query.name (bindings (contents_of old)) c.args.keys.now c.loop-i.values c.loop-i.i c.index-keys-i.result c.find_one.result (omega arith) (omega arith) c.index-keys-i.is (l.so_far max lawful) found;
    }

pub returns-clause-values : goal.returns-clause-values
returns-clause-values g c max lawful =
    let l = c.loop-i.invariant in
    bound_all g.Q.Query.name (bindings (contents_of (g.H.Held.stripes c.args.held.now))) c.args.keys.now c.loop-i.values c.loop-i.i (omega arith) (l.as_many ∙ c.requires.as_many) (l.so_far max lawful)
