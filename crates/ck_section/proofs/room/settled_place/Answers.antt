use Rattle.std.proofs.Common.{◌≡◌, ℕ, ◌%◌, ◌^◌, List, sym, ◌∙◌, ap, subst}
use Rattle.ck_model.specs.Arithmetic.{index_of, alternate_of, second_of}
use Rattle.ck_model.specs.Promise.{Name}
use Rattle.ck_stripe.specs.Stripe.{StripeState}
use Rattle.ck_section.specs.declared.place.HeldBucket.{HeldBucket}
use Rattle.ck_stripe.specs.Stripes.{contents_of}
use Rattle.ck_section.specs.Places.{IsPlaceOf}
use Rattle.ck_stripe.specs.Tables.{IsTable, power_in}
use Rattle.ck_section.specs.Room.{settled_at}
use Rattle.ck_stripe.proofs.Settled.{table_alike}
use Rattle.ck_section.proofs.Growing.{alike_settled_at, both_table, both_contents, both_power, both_place}
use Rattle.ck_section.proofs.Tables.{second_by, stripe_inside}
use Rattle.ck_section.proofs.room.settled_place.Given.{Over}
use Rattle.ck_section.proofs.room.settled_place.Goals as goal

-- the two buckets are those of the hash
first : (g : Over) (c : goal.After-settled_bucket-2 g) → c.index-first.result ≡ index_of (power_in (g.H.Held.stripes c.args.held.now)) (g.K.TableKey.hash (g.K.TableKey.name c.args._key.now))
first g c = c.index-first.ensures.value ∙ (λ z. index_of (c.power-power.ensures.value z) (c.requires.hash.value z))

second : (g : Over) (c : goal.After-settled_bucket-2 g) → c.alternate-alternate.result ≡ second_of (power_in (g.H.Held.stripes c.args.held.now)) (g.K.TableKey.hash (g.K.TableKey.name c.args._key.now))
second g c =
    c.alternate-alternate.ensures.value ∙ ap (λ n. alternate_of n c.args.hash.partial c.index-first.result) c.power-power.ensures.value
    ∙ second_by (power_in (g.H.Held.stripes c.args.held.now)) (g.K.TableKey.hash (g.K.TableKey.name c.args._key.now)) c.args.hash.partial c.index-first.result c.requires.hash.partial (first g c)

-- the stripes with both of theirs settled
new : (g : Over) (c : goal.After-settled_bucket-2 g) → g.H.Held.stripes c.settled_bucket-2.new.held ≡ settled_at (settled_at (g.H.Held.stripes c.args.held.now) (c.index-first.result % 2 ^ c.args.s)) (c.alternate-alternate.result % 2 ^ c.args.s)
new g c =
    let V : Type 0 = g.row.V.Denot in
    c.settled_bucket-2.ensures.settled
    ∙ ap (λ (l : List (StripeState V)). settled_at l (c.alternate-alternate.result % 2 ^ c.args.s)) (c.settled_bucket.ensures.settled ∙ ap (λ (l : List (StripeState V)). settled_at l (c.index-first.result % 2 ^ c.args.s)) c.power-power.ensures.same)

pub settled_bucket-requires-2-clause-table : goal.settled_bucket-requires-2-clause-table
settled_bucket-requires-2-clause-table g c =
    let stripes : List (StripeState g.row.V.Denot) = g.H.Held.stripes c.args.held.now in
    let s : ℕ = c.args.s in
    let i : ℕ = c.index-first.result % 2 ^ s in
    let mid : g.H.Held.stripes c.settled_bucket.new.held ≡ settled_at stripes i = c.settled_bucket.ensures.settled ∙ ap (λ (l : List (StripeState g.row.V.Denot)). settled_at l i) c.power-power.ensures.same in
    subst (λ (l : List (StripeState g.row.V.Denot)). IsTable s l) (sym mid)
    (table_alike s stripes (settled_at stripes i) (alike_settled_at stripes i (stripe_inside s stripes c.requires.table c.index-first.result)) c.requires.table)

pub returns-clause-place : goal.returns-clause-place
returns-clause-place g c =
    let V : Type 0 = g.row.V.Denot in
    let stripes : List (StripeState V) = g.H.Held.stripes c.args.held.now in
    let hash = g.K.TableKey.hash in
    let q : Name = g.K.TableKey.name c.args._key.now in
    subst (λ (x : List (StripeState V) × (HeldBucket × HeldBucket)). IsPlaceOf hash x.0 q (record { s = c.args.s; partial = c.args.hash.partial; first = x.1.0; alternate = x.1.1 }))
    (λ z. (sym (new g c) z, (sym c.settled_bucket.ensures.bucket z, sym c.settled_bucket-2.ensures.bucket z)))
    (both_place c.args.s stripes c.requires.table hash q c.args.hash c.requires.hash c.index-first.result c.alternate-alternate.result (first g c) (second g c))

pub returns-clause-table : goal.returns-clause-table
returns-clause-table g c =
    subst (λ (l : List (StripeState g.row.V.Denot)). IsTable c.args.s l) (sym (new g c))
    (both_table c.args.s (g.H.Held.stripes c.args.held.now) c.requires.table g.K.TableKey.hash (g.K.TableKey.name c.args._key.now) c.args.hash c.requires.hash c.index-first.result c.alternate-alternate.result (first g c) (second g c))

pub returns-clause-same : goal.returns-clause-same
returns-clause-same g c =
    ap (λ (l : List (StripeState g.row.V.Denot)). contents_of l) (new g c)
    ∙ both_contents c.args.s (g.H.Held.stripes c.args.held.now) c.requires.table g.K.TableKey.hash (g.K.TableKey.name c.args._key.now) c.args.hash c.requires.hash c.index-first.result c.alternate-alternate.result (first g c) (second g c)

pub returns-clause-power : goal.returns-clause-power
returns-clause-power g c =
    ap (λ (l : List (StripeState g.row.V.Denot)). power_in l) (new g c)
    ∙ both_power c.args.s (g.H.Held.stripes c.args.held.now) c.requires.table g.K.TableKey.hash (g.K.TableKey.name c.args._key.now) c.args.hash c.requires.hash c.index-first.result c.alternate-alternate.result (first g c) (second g c)

pub returns-clause-stays : goal.returns-clause-stays
returns-clause-stays g c =
    let on = g.met.H.Held.stays_on in
    on _ _ _ c.power-power.ensures.stays (on _ _ _ c.settled_bucket.ensures.stays c.settled_bucket-2.ensures.stays)
