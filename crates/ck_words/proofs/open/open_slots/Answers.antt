use Rattle.ck_words.proofs.Starting.{fresh-next}
use Rattle.ck_words.proofs.open.open_slots.Goals as goal

pub loop-number-preserved : goal.loop-number-preserved
loop-number-preserved g c = fresh-next c.args.settings c.loop-number.number _ _ c.in_ok-stripe.stripe c.loop-number.invariant c.in_ok-stripe.ensures.value c.in_ok-push.ensures.items
