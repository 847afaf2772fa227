use Rattle.std.proofs.Common.{subst}
use Rattle.ck_words.specs.Words.{WordsState}
use Rattle.ck_words.specs.Retries.{FindsAmong}
use Rattle.cuckoo_map.specs.Refusals.{IsStripeIn}
use Rattle.cuckoo_map.proofs.table.Table.lock_all.Goals as goal

pub returns-in-Ok-clause-found : goal.returns-in-Ok-clause-found
returns-in-Ok-clause-found g c = subst (λ (w : WordsState). FindsAmong (IsStripeIn w.settings) c.args.pass.now c.lock_all.new.pass) c.self.view_is c.lock_all.ensures.found

pub returns-in-Err-clause-found : goal.returns-in-Err-clause-found
returns-in-Err-clause-found g c = subst (λ (w : WordsState). FindsAmong (IsStripeIn w.settings) c.args.pass.now c.lock_all.new.pass) c.self.view_is c.lock_all.ensures.found
