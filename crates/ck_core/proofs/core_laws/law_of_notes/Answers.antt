use Rattle.ck_core.proofs.Notes.{law_of_room_notes, law_of_growths}
use Rattle.ck_core.proofs.core_laws.law_of_notes.Goals as goal

pub returns : goal.returns
returns g c = record { room = law_of_room_notes; growths = law_of_growths }
