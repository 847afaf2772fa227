use Rattle.std.proofs.Common.{◌<◌, ◌∙◌, List, refl, ap, length, subst, arith}
use Rattle.ck_stripe.specs.Stripe.{StripeState}
use Rattle.ck_bucket.proofs.InTurn.{begins, begins_read, begins_more, begins_all}
use Rattle.ck_stripe.specs.Stripes.{no_stripe}
use Rattle.ck_section.specs.Retaining.{AsksAboutStripe}
use Rattle.ck_section.proofs.Retained.{changes_retained, retains}
use Rattle.ck_section.proofs.retain.retain_all.Goals as goal

pub loop-i-init : goal.loop-i-init
loop-i-init g c = record { asked = begins (AsksAboutStripe g.F.FnMut g.K.TableKey.name) c.args.f.now c.args.stripes.now; call = c.requires.call }

pub retain-requires-clause-settled : goal.retain-requires-clause-settled
retain-requires-clause-settled g c =
    let old : List (StripeState g.row.V.Denot) = c.args.stripes.now in
    let i = c.loop-i.i in
    let within : i < length old = omega arith in
    let read = begins_read (AsksAboutStripe g.F.FnMut g.K.TableKey.name) c.args.f.now old c.loop-i.stripes i c.loop-i.f c.loop-i.invariant.asked c.index-stripes-i.result no_stripe within in
    ap (λ (t : StripeState g.row.V.Denot). t.settled) read ∙ c.requires.settled i within

pub loop-i-preserved : goal.loop-i-preserved
loop-i-preserved g c =
    let R = AsksAboutStripe g.F.FnMut g.K.TableKey.name in
    let old : List (StripeState g.row.V.Denot) = c.args.stripes.now in
    let now : List (StripeState g.row.V.Denot) = c.loop-i.stripes in
    let i = c.loop-i.i in
    let so_far = c.loop-i.invariant.asked in
    let within : i < length old = omega arith in
    let read = begins_read R c.args.f.now old now i c.loop-i.f so_far c.index-stripes-i.result no_stripe within in
    let asks = c.retain.ensures in
    record {
      asked = begins_more R c.args.f.now old now i c.loop-i.f so_far c.retain.new.self c.retain.new.f no_stripe within
          (subst (λ (t : StripeState g.row.V.Denot). R c.loop-i.f t c.retain.new.self c.retain.new.f) read (record { asked = asks.asked; power = asks.power; rest = asks.rest; shaped = asks.formed.shaped })) _ refl;
      call = asks.call;
    }

pub returns-clause-asked : goal.returns-clause-asked
returns-clause-asked g c = begins_all (AsksAboutStripe g.F.FnMut g.K.TableKey.name) c.args.f.now c.args.stripes.now c.loop-i.stripes c.loop-i.i c.loop-i.f c.loop-i.invariant.asked (omega arith)

pub returns-clause-retained : goal.returns-clause-retained
returns-clause-retained g c = λ s max table. retains g.F.FnMut g.K.TableKey.name c.args.f.now c.args.stripes.now c.loop-i.stripes c.loop-i.f (returns-clause-asked g c) s table g.K.TableKey.hash max

pub returns-clause-changes : goal.returns-clause-changes
returns-clause-changes g c = changes_retained g.F.FnMut g.K.TableKey.name c.args.f.now c.args.stripes.now c.loop-i.stripes c.loop-i.f (returns-clause-asked g c)
