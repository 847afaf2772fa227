-- Answers on the names of the keys that they list.
use Rattle.std.specs.Prelude.{ℕ, List, map}
use Rattle.std.specs.Global.{Vec}
use Rattle.ck_model.specs.Promise.{Name}
use Rattle.ck_model.specs.Listing.{named}
use Rattle.ck_format.specs.declared.answer.Answer.{Answer}
use Rattle.ck_format.specs.declared.answer.Answer.TheVariants.{Value, Absent, Yes, No, New, Old, Set, Gone, Count, Listed, Busy, Memory, Full, Load}
use Rattle.ck_format.specs.Text.{Pairs}

-- the answer on the names of the keys that it lists
abbrev pub answer_on_names : {K : Type 0} → (K → Name) → Answer (Vec (K × ℕ)) → Answer Pairs
answer_on_names name (Value v) = Value v
answer_on_names name Absent = Absent
answer_on_names name Yes = Yes
answer_on_names name No = No
answer_on_names name New = New
answer_on_names name Old = Old
answer_on_names name Set = Set
answer_on_names name Gone = Gone
answer_on_names name (Count n) = Count n
answer_on_names name (Listed pairs) = Listed (map (named name) pairs.items)
answer_on_names name Busy = Busy
answer_on_names name Memory = Memory
answer_on_names name Full = Full
answer_on_names name Load = Load

abbrev pub answers_on_names : {K : Type 0} → (K → Name) → List (Answer (Vec (K × ℕ))) → List (Answer Pairs)
answers_on_names name answers = map (answer_on_names name) answers

-- those of each worker
abbrev pub lists_on_names : {K : Type 0} → (K → Name) → List (Vec (Answer (Vec (K × ℕ)))) → List (List (Answer Pairs))
lists_on_names {K} name lists = map (λ (answers : Vec (Answer (Vec (K × ℕ)))). answers_on_names name answers.items) lists
