use Rattle.ck_laws.proofs.Alone.{stepped, kept, found, assigned, upserting, erased, changed_two}
use Rattle.ck_laws.proofs.law_of_sole_handles.Goals as goal

pub returns : goal.returns
returns g c = record { step = stepped; same = kept; find = found; assign = assigned; upsert = upserting; erase = erased; change_two = changed_two }
