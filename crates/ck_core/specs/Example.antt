-- Two runs of two callers over two stripes: one inserts and the other finds; and one begins and meets the other.
use Rattle.std.specs.Prelude.{ℕ, List, [], ◌∷◌, ◌++◌, take, drop, Some, None}
use Rattle.ck_model.specs.declared.history.Act.TheVariants.{Find, Insert}
use Rattle.ck_model.specs.declared.history.Call.TheVariants.{On}
use Rattle.ck_model.specs.declared.history.Reply.TheVariants.{Was, New}
use Rattle.ck_model.specs.declared.history.Entry.{Entry}
use Rattle.ck_model.specs.declared.settings.Settings.{Settings}
use Rattle.ck_model.specs.declared.contents.Content.{Content}
use Rattle.ck_model.specs.Promise.{Name, IsLegal}
use Rattle.ck_model.specs.Slots.{Slot}
use Rattle.ck_model.specs.Contents.{Layout, Stripes}
use Rattle.ck_core.specs.declared.view.View.{View}
use Rattle.ck_core.specs.State.{Configuration}
use Rattle.ck_core.specs.declared.trace.LockStep.{LockStep}
use Rattle.ck_core.specs.declared.trace.LockStep.TheVariants.{Took, Missed, Gave, Decided}
use Rattle.ck_core.specs.declared.trace.LockEvent.{LockEvent}
use Rattle.ck_core.specs.Trace.{steps_of}
use Rattle.ck_core.specs.Steps.{Label, number_of, event, Opening, Execution, newcomer, initial_view, spent}
use Rattle.ck_core.specs.Order.{IsCall, StandInTime}
use Rattle.ck_core.specs.Steps.Label.{Take, FindHeld, Give, Decide, GiveRest, Renew, Look, Open, Tell, Join}

-- the hash of a name is its first number, or 0
abbrev pub first_number : Name → ℕ
first_number [] = 0
first_number (n ∷ ns) = n

-- two stripes of one bucket each
abbrev pub two_stripes : Layout
two_stripes = record { hash = first_number; s = 1; max = 1 }

abbrev pub settings : Settings
settings = record { s = 1; power = 1; max = 1; callers = 2; turns = 1; rounds = 0; min_load = 0 }

-- the name whose hash is 0; its buckets are both there are
abbrev pub zero_name : Name
zero_name = 0 ∷ []

abbrev pub insertion : Entry ℕ
insertion = record { by = 0; call = On zero_name (Insert 5); reply = New }

abbrev pub look_up : Entry ℕ
look_up = record { by = 1; call = On zero_name Find; reply = Was (Some 5) }

-- a stripe whose bucket has this in its first slot
abbrev pub stripe : Slot ℕ → ℕ → Content ℕ
stripe o n = record { power = 1; rows = (o ∷ None ∷ None ∷ None ∷ []) ∷ []; ledger = n }

abbrev pub empty_stripe : Content ℕ
empty_stripe = stripe None 0

abbrev pub full_stripe : Content ℕ
full_stripe = stripe (Some (zero_name, 5)) 1

-- both stripes, of which number 0 contains c
abbrev pub both : Content ℕ → Stripes ℕ
both c = (1, empty_stripe) ∷ (0, c) ∷ []

-- the two callers as they begin
abbrev pub first : View ℕ
first = newcomer settings 0 1

abbrev pub second : View ℕ
second = newcomer settings 1 1

-- the steps on the words
abbrev pub by_first : LockStep ℕ → ℕ → LockEvent ℕ
by_first step t = event (Some 0) step t

abbrev pub by_second : LockStep ℕ → ℕ → LockEvent ℕ
by_second step t = event (Some 1) step t

abbrev pub trace : List (LockEvent ℕ)
trace = by_first Took 0 ∷ by_second Missed 0 ∷ by_first Took 1 ∷ by_first (Decided insertion (both full_stripe)) 0 ∷ by_second Took 0
    ∷ by_second Missed 1 ∷ by_first (Gave []) 1 ∷ by_second Took 1 ∷ by_second (Decided look_up (both full_stripe)) 0 ∷ by_second (Gave []) 1 ∷ []

-- the view of one who watched this trace
abbrev pub watching : List (LockEvent ℕ) → View ℕ → View ℕ
watching events v = record v { watched = events; steps = steps_of (number_of v.by) events }

-- the view of one who watched the first n of the steps
abbrev pub watched : ℕ → View ℕ → View ℕ
watched n v = watching (take n trace) v

-- the opening
abbrev pub start : Configuration ℕ
start = record { words = 0 ∷ 0 ∷ []; homes = Some empty_stripe ∷ Some empty_stripe ∷ []; views = first ∷ second ∷ []; trace = [] }

-- the first caller has taken stripe 0
abbrev pub one_held : Configuration ℕ
one_held = record { words = 1 ∷ 0 ∷ []; homes = None ∷ Some empty_stripe ∷ []; views = watched 1 (record first { held = (0, empty_stripe) ∷ [] }) ∷ second ∷ []; trace = take 1 trace }

-- the first caller has decided its call, and still holds stripe 1
abbrev pub decided : Configuration ℕ
decided = record {
  words = 0 ∷ 1 ∷ [];
  homes = Some full_stripe ∷ None ∷ [];
  views = watched 4 (record first { held = (1, empty_stripe) ∷ []; seen = insertion ∷ []; mine = insertion ∷ [] }) ∷ watched 2 second ∷ [];
  trace = take 4 trace;
}

-- the second caller holds both stripes
abbrev pub both_held : Configuration ℕ
both_held = record {
  words = 1 ∷ 1 ∷ [];
  homes = None ∷ None ∷ [];
  views = watched 7 (record first { seen = insertion ∷ []; mine = insertion ∷ [] }) ∷ watched 8 (record second { held = both full_stripe; seen = insertion ∷ [] }) ∷ [];
  trace = take 8 trace;
}

-- all stripes are at home
abbrev pub finish : Configuration ℕ
finish = record {
  words = 0 ∷ 0 ∷ [];
  homes = Some full_stripe ∷ Some empty_stripe ∷ [];
  views = watched 7 (record first { seen = insertion ∷ []; mine = insertion ∷ [] }) ∷ watched 10 (record second { seen = insertion ∷ look_up ∷ []; mine = look_up ∷ [] }) ∷ [];
  trace = trace;
}

abbrev pub steps : List (ℕ × Label ℕ)
steps = (0, Take 0) ∷ (1, FindHeld 0) ∷ (0, Take 1) ∷ (0, Decide 0 (both full_stripe) insertion) ∷ (1, Take 0)
    ∷ (1, FindHeld 1) ∷ (0, GiveRest 1) ∷ (1, Take 1) ∷ (1, Decide 0 (both full_stripe) look_up) ∷ (1, GiveRest 1) ∷ []

-- the callers can begin so
abbrev pub ExampleOpens : Type 0
ExampleOpens = Opening two_stripes settings 2 1 start

-- the steps lead from the opening to the end, with a history of the two entries
abbrev pub ExampleRuns : Type 0
ExampleRuns = Execution two_stripes 0 [] start steps (insertion ∷ look_up ∷ []) finish

-- then the first caller looks, too
abbrev pub second_look : Entry ℕ
second_look = record { by = 0; call = On zero_name Find; reply = Was (Some 5) }

abbrev pub all_entries : List (Entry ℕ)
all_entries = insertion ∷ look_up ∷ second_look ∷ []

abbrev pub more_steps : List (ℕ × Label ℕ)
more_steps = (0, Take 0) ∷ (0, Take 1) ∷ (0, Decide 0 (both full_stripe) second_look) ∷ (0, GiveRest 1) ∷ []

abbrev pub longer_trace : List (LockEvent ℕ)
longer_trace = trace ++ by_first Took 0 ∷ by_first Took 1 ∷ by_first (Decided second_look (both full_stripe)) 0 ∷ by_first (Gave []) 1 ∷ []

-- all stripes are at home again
abbrev pub looked : Configuration ℕ
looked = record finish {
  views = watching longer_trace (record first { seen = all_entries; mine = insertion ∷ second_look ∷ [] }) ∷ watched 10 (record second { seen = insertion ∷ look_up ∷ []; mine = look_up ∷ [] }) ∷ [];
  trace = longer_trace;
}

-- the second caller's look-up, which begins when the insertion is decided, and then the first caller's are answered calls
abbrev pub ExampleCalls : Type 0
ExampleCalls = IsCall two_stripes 0 1 look_up (insertion ∷ []) decided (drop 4 steps) (insertion ∷ look_up ∷ []) finish
    × IsCall two_stripes 0 0 second_look (insertion ∷ look_up ∷ []) finish more_steps all_entries looked

abbrev pub ExampleOrder : Type 0
ExampleOrder = IsLegal all_entries × StandInTime (insertion ∷ []) (insertion ∷ look_up ∷ []) (insertion ∷ look_up ∷ []) all_entries all_entries look_up second_look

-- one caller, which keeps the number of the other
abbrev pub alone : Configuration ℕ
alone = record { words = 0 ∷ 0 ∷ []; homes = Some empty_stripe ∷ Some empty_stripe ∷ []; views = initial_view settings 0 1 (1 ∷ []) ∷ []; trace = [] }

abbrev pub short_trace : List (LockEvent ℕ)
short_trace = by_first Took 0 ∷ by_first (Gave ((0, empty_stripe) ∷ [])) 0 ∷ by_first Took 1 ∷ by_first (Gave []) 1 ∷ []

-- the other caller has begun and met the first
abbrev pub met : Configuration ℕ
met = record { words = 0 ∷ 0 ∷ []; homes = Some empty_stripe ∷ Some empty_stripe ∷ []; views = watching short_trace first ∷ record second { heard_told = 1; watched = short_trace; heard_watched = short_trace } ∷ spent ∷ []; trace = short_trace }

abbrev pub meeting : List (ℕ × Label ℕ)
meeting = (0, Open) ∷ (0, Take 0) ∷ (0, Renew 0 ((0, empty_stripe) ∷ []) None) ∷ (0, Take 1) ∷ (0, Give 1 None) ∷ (0, Tell) ∷ (1, Join 2) ∷ (1, Look 0 1) ∷ []

abbrev pub MeetingOpens : Type 0
MeetingOpens = Opening two_stripes settings 2 1 alone

abbrev pub MeetingRuns : Type 0
MeetingRuns = Execution two_stripes 0 [] alone meeting [] met
