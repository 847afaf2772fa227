use Rattle.ck_words.proofs.Turning.{brings}
use Rattle.ck_words.proofs.visits.bring.Goals as goal

pub returns : goal.returns
returns g c = brings c.requires.0 c.args.count c.args.i c.args.t c.args.seat.now c.turn_by.new.seat c.requires.1 c.turn_by.ensures.table c.turn_by.ensures.turned
