use Rattle.std.proofs.Common.{◌∙◌, ap, sym, arith}
use Rattle.ck_stripe.specs.Stripe.{StripeState}
use Rattle.ck_stripe.proofs.Stored.{few_stored, formed_now, entries_shown}
use Rattle.ck_stripe.proofs.stripe.Stripe.len.Goals as goal

pub len_of_rows-requires-clause-count : goal.len_of_rows-requires-clause-count
len_of_rows-requires-clause-count g c = c.count-count.ensures ∙ sym c.self.invariant.count

pub len_of_rows-requires-clause-few : goal.len_of_rows-requires-clause-few
len_of_rows-requires-clause-few g c = omega (arith, c.count-count.ensures, few_stored c.self.inside c.self.invariant)

pub returns-clause-value : goal.returns-clause-value
returns-clause-value g c =
    c.len_of_rows.ensures ∙ entries_shown g.K.TableKey.hash c.self.inside c.self.invariant ∙ ap (λ (w : StripeState g.row.V.Denot). w.content.ledger) c.self.view_is

pub returns-clause-pairs : goal.returns-clause-pairs
returns-clause-pairs g c = returns-clause-value g c ∙ (formed_now g.K.TableKey.hash c.self.inside c.self.invariant c.args.self.now c.self.view_is).shaped.ledger
