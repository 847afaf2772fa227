use Rattle.ck_laws.proofs.Examples as example
use Rattle.ck_laws.proofs.example_histories.Goals as goal

pub returns : goal.returns
returns c = record {
  transfer = example.transfer_is_legal;
  renaming = example.renaming_is_legal;
  from_nowhere = example.from_nowhere_isn't;
  two_new = example.two_new_isn't;
  lost = example.lost_change_isn't;
  erased = example.found_erased_isn't;
  half = example.half_a_transfer_isn't;
  late = example.late_session_isn't;
  twice = example.name_twice_isn't;
  miscounted = example.miscounted_isn't;
}
