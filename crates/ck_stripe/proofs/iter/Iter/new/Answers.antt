use Rattle.ck_stripe.proofs.Listed.{pairs_all}
use Rattle.ck_stripe.proofs.iter.Iter.new.Goals as goal

pub returns : goal.returns
returns g c = pairs_all c.args.rows.now
