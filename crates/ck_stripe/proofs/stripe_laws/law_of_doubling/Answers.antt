use Rattle.ck_stripe.proofs.Doubled.{sound_doubled, pairs_doubled, found_doubled, sends_doubled}
use Rattle.ck_stripe.proofs.stripe_laws.law_of_doubling.Goals as goal

pub returns-clause-sound : goal.returns-clause-sound
returns-clause-sound g c = sound_doubled

pub returns-clause-pairs : goal.returns-clause-pairs
returns-clause-pairs g c = pairs_doubled

pub returns-clause-bindings : goal.returns-clause-bindings
returns-clause-bindings g c = found_doubled

pub returns-clause-sends : goal.returns-clause-sends
returns-clause-sends g c = λ k t content sound. sends_doubled k.hash k.s t content sound.shaped.least sound.shaped.rows
