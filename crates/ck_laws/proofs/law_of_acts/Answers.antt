use Rattle.ck_laws.proofs.Acting.{finding, inserting_new, inserting_old, assigning, updating, updating_none, changing, changing_none, upserting_new, upserting_done, erasing, changing_two, changing_two_none}
use Rattle.ck_laws.proofs.law_of_acts.Goals as goal

pub returns : goal.returns
returns g c = record {
  find = finding;
  insert = inserting_new;
  insert_bound = inserting_old;
  assign = assigning;
  update = updating;
  update_unbound = updating_none;
  change = changing;
  change_unbound = changing_none;
  upsert = upserting_new;
  upsert_bound = upserting_done;
  erase = erasing;
  change_two = changing_two;
  change_two_unbound = changing_two_none;
}
