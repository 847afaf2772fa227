use Rattle.std.proofs.Common.{◌*◌, ◌∙◌, sym, ap, arith}
use Rattle.ck_model.specs.Contents.{pairs_in}
use Rattle.ck_stripe.specs.Stripe.{StripeState}
use Rattle.ck_stripe.proofs.Stored.{few_stored, now_stored}
use Rattle.ck_stripe.proofs.stripe.Stripe.iter.Goals as goal

pub new-requires : goal.new-requires
new-requires g c = record {
  four = c.self.invariant.four;
  counted = ap (λ n. 4 * n) (c.count.ensures ∙ sym c.self.invariant.count);
  few = omega (arith, c.self.invariant.count, few_stored c.self.inside c.self.invariant);
}

pub returns : goal.returns
returns g c =
    c.new.ensures ∙ ap (λ (w : StripeState g.row.V.Denot). pairs_in w.content) (sym (now_stored g.K.TableKey.hash c.self.inside c.self.invariant c.args.self.now c.self.view_is c.requires))
