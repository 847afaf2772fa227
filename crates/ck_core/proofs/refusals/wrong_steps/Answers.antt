use Rattle.ck_core.proofs.ExampleRun as example
use Rattle.ck_core.proofs.WrongResults as result
use Rattle.ck_core.proofs.WrongSteps as wrong
use Rattle.ck_core.proofs.refusals.wrong_steps.Goals as goal

pub returns : goal.returns
returns c = record {
  one_held_is_reached = example.to_one_held;
  decided_is_reached = example.to_decided;
  both_held_is_reached = example.to_both_held;
  take_below = wrong.take_below;
  take_held = wrong.take_held;
  find_own = wrong.find_own;
  one_told_is_reached = wrong.to_one_told;
  told_and_held_is_reached = wrong.to_told_and_held;
  take_by_nobody = wrong.take_by_nobody;
  find_by_nobody = wrong.find_by_nobody;
  give_not_held = wrong.give_not_held;
  give_of_another = wrong.give_of_another;
  wrong_reply = wrong.wrong_reply;
  wrong_value = wrong.wrong_value;
  without_all = wrong.without_all;
  for_another = wrong.for_another;
  undealt_number = wrong.undealt_number;
  lost_entry = wrong.lost_entry;
  no_grounds = wrong.no_grounds;
  renew_no_grounds = wrong.renew_no_grounds;
  told_above = wrong.told_above;
  no_number_left = wrong.no_number_left;
  join_a_holder = wrong.join_a_holder;
  join_itself = wrong.join_itself;
  give_other_content = result.give_other_content;
  give_rest_other_content = result.give_rest_other_content;
  give_other_stripe = result.give_other_stripe;
  give_rest_other_stripe = result.give_rest_other_stripe;
  decide_two_entries = result.decide_two_entries;
  decide_two_seen = result.decide_two_seen;
  look_told_falls = result.look_told_falls;
  open_other_number = result.open_other_number;
  open_number_again = result.open_number_again;
  one_number_twice = result.one_number_twice;
  kept_number_twice = result.kept_number_twice;
}
