use Rattle.std.proofs.Common.{◌∙◌, sym}
use Rattle.ck_bucket.specs.Retaining.{AsksAboutRow}
use Rattle.ck_bucket.proofs.InTurn.{length-each}
use Rattle.ck_bucket.proofs.Asked.{four_after}
use Rattle.ck_stripe.proofs.Stored.{kept_rows, formed}
use Rattle.ck_stripe.proofs.stripe.Stripe.retain.Goals as goal

pub retain_rows-requires-clause-count : goal.retain_rows-requires-clause-count
retain_rows-requires-clause-count g c = c.count-count.ensures ∙ sym c.self.invariant.count

pub invariant_of-self : goal.invariant_of-self
invariant_of-self g c =
    let t = c.self.inside in
    let new = c.retain_rows.new in
    kept_rows t c.self.invariant new.rows (length-each (AsksAboutRow g.F.FnMut g.K.TableKey.name) c.args.f.now t.rows new.rows new.f c.retain_rows.ensures.asked)
    (four_after g.F.FnMut g.K.TableKey.name c.args.f.now t.rows new.rows new.f c.retain_rows.ensures.asked c.self.invariant.four)

pub returns-clause-formed : goal.returns-clause-formed
returns-clause-formed g c = formed g.K.TableKey.hash _ (invariant_of-self g c)
