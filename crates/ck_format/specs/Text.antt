-- The text that a run of a script writes.
use Rattle.std.specs.Prelude.{ℕ, ◌+◌, List, [], ◌∷◌, ◌++◌, length, codes, flat_map}
use Rattle.std.specs.Fmt.{decimal}
use Rattle.ck_model.specs.Promise.{Name}
use Rattle.ck_format.specs.declared.script.Keys.{Keys}
use Rattle.ck_format.specs.declared.script.Keys.TheVariants.{Num, Text}
use Rattle.ck_format.specs.Lines.{with_feed}
use Rattle.ck_format.specs.declared.answer.Answer.{Answer}
use Rattle.ck_format.specs.declared.answer.Answer.TheVariants.{Value, Absent, Yes, No, New, Old, Set, Gone, Count, Listed, Busy, Memory, Full, Load}

-- names with the numbers to which they are bound
abbrev pub Pairs : Type 0
Pairs = List (Name × ℕ)

-- a key in a text: a number's name is the list of the number alone, and a word's are its bytes
abbrev pub name_text : Keys → Name → List ℕ
name_text Num [] = []
name_text Num (n ∷ ns) = decimal n
name_text Text bytes = bytes

abbrev pub pair_text : Keys → Name × ℕ → List ℕ
pair_text keys e = name_text keys e.0 ++ 32 ∷ decimal e.1

-- a line for each pair
abbrev pub pairs_text : Keys → Pairs → List ℕ
pairs_text keys pairs = flat_map (λ (e : Name × ℕ). with_feed (pair_text keys e)) pairs

-- the line of an answer, or the lines of a list
abbrev pub answer_text : Keys → Answer Pairs → List ℕ
answer_text keys (Value v) = with_feed (codes "v " ++ decimal v)
answer_text keys Absent = with_feed (codes "none")
answer_text keys Yes = with_feed (codes "yes")
answer_text keys No = with_feed (codes "no")
answer_text keys New = with_feed (codes "new")
answer_text keys Old = with_feed (codes "old")
answer_text keys Set = with_feed (codes "set")
answer_text keys Gone = with_feed (codes "gone")
answer_text keys (Count n) = with_feed (codes "len " ++ decimal n)
answer_text keys (Listed pairs) = with_feed (codes "list " ++ decimal (length pairs)) ++ pairs_text keys pairs
answer_text keys Busy = with_feed (codes "busy")
answer_text keys Memory = with_feed (codes "memory")
answer_text keys Full = with_feed (codes "full")
answer_text keys Load = with_feed (codes "load")

-- the answers of one worker, under its number
abbrev pub worker_text : Keys → ℕ → List (Answer Pairs) → List ℕ
worker_text keys w answers = with_feed (codes "worker " ++ decimal w) ++ flat_map (answer_text keys) answers

-- those of all workers, of which the first has the number w
abbrev pub workers_text : Keys → ℕ → List (List (Answer Pairs)) → List ℕ
workers_text keys w [] = []
workers_text keys w (answers ∷ more) = worker_text keys w answers ++ workers_text keys (w + 1) more

abbrev pub map_text : Keys → Pairs → List ℕ
map_text keys pairs = with_feed (codes "map") ++ pairs_text keys pairs

-- the answers of each worker, and the pairs of the map
abbrev pub output_text : Keys → List (List (Answer Pairs)) → Pairs → List ℕ
output_text keys answers pairs = workers_text keys 1 answers ++ map_text keys pairs
