use Rattle.ck_laws.proofs.Replying.{after_reply, after_others}
use Rattle.ck_laws.proofs.law_of_replies.Goals as goal

pub returns : goal.returns
returns g c = record { alone = after_reply; others = after_others }
