use Rattle.ck_laws.proofs.Acting.{get_new, get_gone, get_others}
use Rattle.ck_laws.proofs.law_of_maps.Goals as goal

pub returns : goal.returns
returns g c = record { bound = get_new; unbound = get_gone; others = get_others }
