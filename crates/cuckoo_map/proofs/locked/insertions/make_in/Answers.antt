use Rattle.std.proofs.Common.{List, subst}
use Rattle.ck_stripe.specs.Stripe.{StripeState}
use Rattle.ck_section.proofs.Decided.{IsCallOn}
use Rattle.ck_section.proofs.KeptOthers.{keeps_same, keeps_since}
use Rattle.cuckoo_map.proofs.locked.insertions.make_in.Goals as goal

pub returns-in-Some-clause-call : goal.returns-in-Some-clause-call
returns-in-Some-clause-call g c =
    let made = c.make-answer.ensures.answered in (
      made.0,
      made.1,
      made.2,
      subst (λ (ss : List (StripeState g.row.V.Denot)). IsCallOn g.K.TableKey.hash c.args.place.s ss (g.K.TableKey.name c.args.key) made.0 made.1 (g.H.Held.stripes c.make-answer.new.held))
          c.find_entry.ensures.same made.4,
    )

pub returns-in-Some-clause-others : goal.returns-in-Some-clause-others
returns-in-Some-clause-others g c = keeps_since _ _ _ _ c.find_entry.ensures.same c.make-answer.ensures.others

pub returns-in-None-clause-others : goal.returns-in-None-clause-others
returns-in-None-clause-others g c = keeps_same _ _ _ c.find_entry.ensures.same
