-- Two calls of the example run stand in order.
use Rattle.std.proofs.Common.{[], ◌∷◌, take, drop, refl, inl, inr, arith}
use Rattle.ck_core.specs.Example.{two_stripes, settings, insertion, look_up, empty_stripe, full_stripe, start, decided, both_held, finish, steps, second_look, all_entries, more_steps, looked, ExampleCalls, ExampleOrder}
use Rattle.ck_core.proofs.ExampleRun.{found, opens, nothing_above, above_zero, runs_append, to_decided, from_decided, from_both_held}
use Rattle.ck_core.proofs.Order.{law_of_real_time}

pub calls : ExampleCalls
calls = (
  record {
    begins = (_, refl, refl, refl);
    runs = runs_append two_stripes 0 (take 4 (drop 4 steps)) (drop 8 steps) (insertion ∷ []) (insertion ∷ []) (insertion ∷ look_up ∷ []) decided both_held finish from_decided from_both_held;
    ends = (_, refl, refl, refl);
    entry = refl;
  },
  record {
    begins = (_, refl, refl, refl);
    runs = (
      _,
      (_, full_stripe, refl, omega arith, refl, nothing_above 0, refl, (0, refl), refl),
      (
        _,
        (_, empty_stripe, refl, omega arith, refl, above_zero, refl, (0, refl), refl),
        (_, (_, full_stripe, refl, refl, inr (inl (refl, refl)), found, refl), (_, (_, empty_stripe, refl, inl (refl, refl), refl), (refl, refl))),
      ),
    );
    ends = (_, refl, refl, refl);
    entry = refl;
  },
)

pub order : ExampleOrder
order = law_of_real_time two_stripes 0 settings 2 1 1 0 look_up second_look (take 4 steps) (drop 4 steps) [] more_steps [] (insertion ∷ []) (insertion ∷ look_up ∷ []) (insertion ∷ look_up ∷ []) all_entries all_entries
    start decided finish finish looked looked opens to_decided calls.0 (refl, refl) calls.1 (refl, refl)
