use Rattle.std.proofs.Common.{◌++◌, sym, ◌∙◌, ap}
use Rattle.ck_model.specs.Contents.{pairs_of}
use Rattle.ck_stripe.specs.Stripes.{contents_of}
use Rattle.ck_section.proofs.Listed.{rest_settled, pairs_first}
use Rattle.ck_section.proofs.iter.IterIterator.next.Goals as goal

pub loop-key-preserved : goal.loop-key-preserved
loop-key-preserved g c =
    let is = c.in_ok-stripe.ensures.cases.0 in record {
      settled = rest_settled is c.loop-key.invariant.settled;
      left = ap (λ es. es ++ pairs_of (contents_of c.in_ok-stripe.stripes.now)) c.iter-self-inside.ensures ∙ sym (pairs_first is)
          ∙ sym (ap (λ es. es ++ pairs_of (contents_of c.loop-key.self-inside.stripes.now)) c.in_default.ensures.steps.0) ∙ c.loop-key.invariant.left;
    }
