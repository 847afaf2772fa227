-- What is in the grammar is read.
use Rattle.std.proofs.Common.{◌≡◌, ℕ, suc, zero, ◌+◌, ◌<◌, ◌≤◌, true, false, List, [], ◌∷◌, ◌++◌, length, get_or, Option, Some, None, Result, Ok, refl, sym, ap, subst, ◌∙◌, inl, inr, arith, append_assoc, length-append, add-zero}
use Rattle.std.specs.Prelude.{All, AllPairs, codes, flat_map, sum_by, slice_index_or}
use Rattle.std.specs.List.{AllZip}
use Rattle.std.specs.Option.{is_some, unwrap_or}
use Rattle.std.specs.Str.{bytes_eq}
use Rattle.std.proofs.lemmas.Bool.{lt-ltb, le-ltb, false≢true}
use Rattle.std.proofs.lemmas.List.{append-nil}
use Rattle.std.proofs.lemmas.List.Concat.{flat_map-cons}
use Rattle.std.proofs.lemmas.List.Elements.{All-head, All-tail}
use Rattle.std.proofs.lemmas.List.Folds.{list_any_none}
use Rattle.std.proofs.lemmas.List.Sums.{sum_by-cons}
use Rattle.ck_model.specs.declared.settings.Settings.{Settings}
use Rattle.ck_model.specs.Promise.{Name}
use Rattle.ck_format.specs.declared.script.Version.{Version}
use Rattle.ck_format.specs.declared.script.Version.TheVariants.{One, Two}
use Rattle.ck_format.specs.declared.script.Keys.{Keys}
use Rattle.ck_format.specs.declared.script.Keys.TheVariants.{Num, Text}
use Rattle.ck_format.specs.declared.script.Setting.{Setting}
use Rattle.ck_format.specs.declared.script.Setting.TheVariants.{S, Power, Max, Turns, Rounds, Load}
use Rattle.ck_format.specs.declared.script.Command.{Command}
use Rattle.ck_format.specs.declared.script.What.{What}
use Rattle.ck_format.specs.Script.{Said}
use Rattle.ck_format.specs.Lines.{IsLine}
use Rattle.ck_format.specs.Tokens.{tokens, IsNumber}
use Rattle.ck_format.specs.Formats.{header_of, most_workers, word_of, least_of, most_of, default_of, keys_line, Gives, IsSetting, first_of, first_word, IsSetTo, AreKeys, AreSettings}
use Rattle.ck_format.specs.Spells.{IsCommand, lines_of}
use Rattle.ck_format.specs.FirstFault.{is_given, number_given, setting_at}
use Rattle.ck_format.specs.Parse.{◌>>=◌, WordCommand, command_in, command_at}
use Rattle.ck_format.specs.SettingLines.{Found, none_given, given_to, value_of, with_number, with_keys, take_words, do_given_fit, settings_of, keys_of}
use Rattle.ck_format.specs.Blocks.{Blocks, first_block, with_command, with_worker, said_by}
use Rattle.ck_format.specs.State.{State, Header, Setting as Settings_, Block, After, step}
use Rattle.ck_format.specs.Stands.{number_found, keys_given, keys_found, AreGiven, AreCommands, block_lines, AreRead}
use Rattle.ck_format.proofs.Commands.{bytes_eq-refl, bytes_eq-no, ok_is, bind_ok, number_at-of, no_empty_number, is_read}
use Rattle.ck_format.proofs.SettingLaws.{by_setting, given_line, keys_of_line, header_name, header_keys, given_some, given_keys, given_next, given_first, no_worker, not_keys, line_name, line_keys, no_option}
use Rattle.ck_format.proofs.Steps.{read_next}

-- The lines, one behind another.

pub run : State → List (List ℕ) → Result State What
run s [] = Ok s
run s (line ∷ lines) = step s line >>= λ t. run t lines

pub run_nil : (s : State) → run s [] ≡ Ok s
unfolding run
run_nil s = refl

pub run_one : (s t : State) (line : List ℕ) (lines : List (List ℕ)) → step s line ≡ Ok t → run s (line ∷ lines) ≡ run t lines
unfolding run
run_one s t line lines e = ap (λ (r : Result State What). r >>= λ u. run u lines) e

pub run_first : (s u : State) (line : List ℕ) (lines : List (List ℕ)) → run s (line ∷ lines) ≡ Ok u → (t : State) × (step s line ≡ Ok t) × (run t lines ≡ Ok u)
unfolding run
run_first s u line lines e = bind_ok (step s line) (λ t. run t lines) u e

pub run-append : (s t : State) (xs ys : List (List ℕ)) → run s xs ≡ Ok t → run s (xs ++ ys) ≡ run t ys
run-append s t [] ys e = ap (λ (u : State). run u ys) (ok_is s t (sym (run_nil s) ∙ e))
run-append s t (x ∷ xs) ys e = let h = run_first s t x xs e in run_one s h.0 x (xs ++ ys) h.1 ∙ run-append h.0 t xs ys h.2

-- lines that are run through are read
pub run_read : (s t : State) (lines more : List (List ℕ)) → AreRead s lines → All IsLine more → run s more ≡ Ok t → AreRead t (lines ++ more)
run_read s t lines [] read each e = subst (λ (ls : List (List ℕ)). AreRead t ls) (sym (append-nil lines)) (subst (λ (u : State). AreRead u lines) (ok_is s t (sym (run_nil s) ∙ e)) read)
run_read s t lines (line ∷ more) read each e =
    let h = run_first s t line more e in
    subst (AreRead t) (append_assoc lines (line ∷ []) more)
    (run_read h.0 t (lines ++ line ∷ []) more (read_next s lines read line h.0 (All-head IsLine line more each) h.1) (All-tail IsLine line more each) h.2)

-- A line of settings.

word_setting : (t : Setting) → setting_at (word_of t) ≡ Some t
word_setting = by_setting (λ t. setting_at (word_of t) ≡ Some t) refl refl refl refl refl refl

take_line_keys : (g : Found) (k : Keys) → is_some g.keys ≡ false → take_words g (tokens (keys_line k)) ≡ Ok (with_keys g k)
take_line_keys g Num e = rw e refl
take_line_keys g Text e = rw e refl

take_line_number : (g : Found) (t : Setting) (word : List ℕ) (n : ℕ) → IsNumber word n → is_some (given_to g t) ≡ false → least_of t ≤ n → n ≤ most_of g.version t → take_words g (word_of t ∷ word ∷ []) ≡ Ok (with_number g t n)
take_line_number g t word n number none least most =
    rw (no_empty_number word n number, not_keys t, word_setting t, number_at-of word n number, none, le-ltb n (least_of t) least, le-ltb (most_of g.version t) n most) refl

setting_taken : (g : Found) (lines : List (List ℕ)) (line : List ℕ) → AreGiven g lines → IsSetting g.version line → is_given (first_word line) lines ≡ false → (h : Found) × (take_words g (tokens line) ≡ Ok h)
setting_taken g lines line given (inl (k, e)) new =
    let named : first_word line ≡ codes "keys" = ap first_word e ∙ line_name k in
    (with_keys g k, ap (λ (l : List ℕ). take_words g (tokens l)) e ∙ take_line_keys g k (sym (given_keys g lines given) ∙ ap (λ (w : List ℕ). is_given w lines) (sym named) ∙ new))
setting_taken g lines line given (inr (t, n, gives, least, most)) new =
    let named : first_word line ≡ word_of t = ap first_of gives.1 in
    (with_number g t n, ap (take_words g) gives.1 ∙ take_line_number g t gives.0 n gives.2 (sym (given_some g lines given t) ∙ ap (λ (w : List ℕ). is_given w lines) (sym named) ∙ new) least most)

-- Lines of settings.

header_version_is : (v w : Version) → header_of v ≡ header_of w → w ≡ v
header_version_is One One e = refl
header_version_is Two Two e = refl
header_version_is One Two e = absurd (false≢true (bytes_eq-refl (header_of One) (header_of Two) e))
header_version_is Two One e = absurd (false≢true (bytes_eq-refl (header_of Two) (header_of One) e))

first_line : (a b : List ℕ) (xs ys : List (List ℕ)) → a ∷ xs ≡ b ∷ ys → a ≡ b
first_line a b xs ys e = cc

header_same : (v : Version) (g : Found) (rest : List (List ℕ)) → AreGiven g (header_of v ∷ rest) → g.version ≡ v
header_same v g rest given = header_version_is v g.version (first_line (header_of v) (header_of g.version) rest given.settings given.whole)

get_or-append_left : (xs ys : List (List ℕ)) (k : ℕ) (d : List ℕ) → k < length xs → get_or (xs ++ ys) k d ≡ get_or xs k d
get_or-append_left [] ys k d lt = absurd (omega arith)
get_or-append_left (x ∷ xs) ys zero d lt = refl
get_or-append_left (x ∷ xs) ys (suc k) d lt = get_or-append_left xs ys k d (omega arith)

get_or-append_right : (xs : List (List ℕ)) (y : List ℕ) (ys : List (List ℕ)) (d : List ℕ) → get_or (xs ++ y ∷ ys) (length xs) d ≡ y
get_or-append_right [] y ys d = refl
get_or-append_right (x ∷ xs) y ys d = get_or-append_right xs y ys d

abbrev Apart : List ℕ → List ℕ → Type 0
Apart line other = ¬ (first_word line ≡ first_word other)

abbrev IsAfter : Version → List (List ℕ) → List (List ℕ) → State → Type 0
IsAfter v done todo s = (g : Found) × (run s todo ≡ Ok (Settings_ g)) × AreGiven g (header_of v ∷ (done ++ todo)) × (g.version ≡ v)

header_other : (v : Version) (line : List ℕ) → IsSetting v line → bytes_eq (first_word (header_of v)) (first_word line) ≡ false
header_other v line (inl (k, e)) = ap (bytes_eq (first_word (header_of v))) (ap first_word e ∙ line_name k) ∙ header_keys v
header_other v line (inr (t, n, gives, least, most)) = ap (bytes_eq (first_word (header_of v))) (ap first_of gives.1) ∙ header_name v t

-- no line in front has the name of the next
front_new : (v : Version) (done : List (List ℕ)) (line : List ℕ) (todo : List (List ℕ)) → AllPairs Apart (done ++ line ∷ todo) → IsSetting v line → is_given (first_word line) (header_of v ∷ done) ≡ false
front_new v done line todo once h =
    rw (header_other v line h) (list_any_none (λ l. bytes_eq (first_word l) (first_word line)) done
    (λ k d lt. bytes_eq-no (first_word (slice_index_or done k d)) (first_word line) (λ same.
    let before : slice_index_or (done ++ line ∷ todo) k d ≡ slice_index_or done k d = get_or-append_left done (line ∷ todo) k d lt in
    let here : slice_index_or (done ++ line ∷ todo) (length done) d ≡ line = get_or-append_right done line todo d in
    once k (length done) d lt (omega (arith, length-append done (line ∷ todo))) (ap first_word before ∙ same ∙ ap first_word (sym here)))))

settings_run : (v : Version) (g : Found) (done todo : List (List ℕ)) → AreGiven g (header_of v ∷ done) → g.version ≡ v → All (IsSetting v) todo → AllPairs Apart (done ++ todo) → IsAfter v done todo (Settings_ g)
settings_run v g done [] given same each once = (g, run_nil (Settings_ g), subst (λ (ls : List (List ℕ)). AreGiven g (header_of v ∷ ls)) (sym (append-nil done)) given, same)
settings_run v g done (line ∷ todo) given same each once =
    let is_setting = All-head (IsSetting v) line todo each in
    let taken = setting_taken g (header_of v ∷ done) line given (subst (λ (w : Version). IsSetting w line) (sym same) is_setting) (front_new v done line todo once is_setting) in
    let h = taken.0 in
    let next : AreGiven h (header_of v ∷ (done ++ line ∷ [])) = given_next g h (header_of v ∷ done) line given (tokens line) refl taken.1 in
    let stepped : step (Settings_ g) line ≡ Ok (Settings_ h) = rw (no_worker v line is_setting, taken.1) refl in
    let regrouped : (done ++ line ∷ []) ++ todo ≡ done ++ line ∷ todo = append_assoc done (line ∷ []) todo in
    let rest = settings_run v h (done ++ line ∷ []) todo next (header_same v h (done ++ line ∷ []) next) (All-tail (IsSetting v) line todo each) (subst (AllPairs Apart) (sym regrouped) once) in
    (rest.0, run_one (Settings_ g) (Settings_ h) line todo stepped ∙ rest.1, subst (λ (ls : List (List ℕ)). AreGiven rest.0 (header_of v ∷ ls)) regrouped rest.2, rest.3)

-- What lines of settings give is what the grammar says.

once_tail : (line : List ℕ) (lines : List (List ℕ)) → AllPairs Apart (line ∷ lines) → AllPairs Apart lines
once_tail line lines once = λ i j d lt below. once (suc i) (suc j) d (omega arith) (omega arith)

module _ (v : Version) where
  head_none : (line : List ℕ) (t : Setting) → IsSetting v line → ¬ (first_word line ≡ word_of t) → number_given t (tokens line) ≡ None
  head_none line t h other = no_option (number_given t (tokens line)) (sym (given_line v line t h) ∙ bytes_eq-no (first_word line) (word_of t) other)

  head_some : (line : List ℕ) (t : Setting) (n : ℕ) → Gives t n line → number_given t (tokens line) ≡ Some n
  head_some line t n (word, words, number) = ap (number_given t) words ∙ rw (bytes_eq-refl (word_of t) (word_of t) refl) (number_at-of word n number)

  set_value : (t : Setting) (n : ℕ) (lines : List (List ℕ)) → All (IsSetting v) lines → AllPairs Apart lines → IsSetTo lines t n → n ≡ unwrap_or (number_found t lines) (default_of t)
  set_value t n [] each once (inl any) = absurd (let below = any.2 in omega arith)
  set_value t n [] each once (inr none) = none.1
  set_value t n (line ∷ lines) each once (inl (zero, x, below, e, gives)) = rw (head_some line t n (subst (Gives t n) (sym e) gives)) refl
  set_value t n (line ∷ lines) each once (inl (suc k, x, below, e, gives)) =
      let other : ¬ (first_word line ≡ word_of t) = λ named. once zero (suc k) x (omega arith) below (named ∙ sym (ap first_of gives.1) ∙ ap first_word (sym e)) in
      rw (head_none line t (All-head (IsSetting v) line lines each) other) (set_value t n lines (All-tail (IsSetting v) line lines each) (once_tail line lines once) (inl (k, x, omega arith, e, gives)))
  set_value t n (line ∷ lines) each once (inr none) =
      rw (head_none line t (All-head (IsSetting v) line lines each) (All-head (λ l. ¬ (first_word l ≡ word_of t)) line lines none.0))
      (set_value t n lines (All-tail (IsSetting v) line lines each) (once_tail line lines once) (inr (All-tail (λ l. ¬ (first_word l ≡ word_of t)) line lines none.0, none.1)))

  no_keys_head : (line : List ℕ) → IsSetting v line → ¬ (first_word line ≡ codes "keys") → keys_given (tokens line) ≡ None
  no_keys_head line h other = no_option (keys_given (tokens line)) (sym (keys_of_line v line h) ∙ bytes_eq-no (first_word line) (codes "keys") other)

  keys_value : (keys : Keys) (lines : List (List ℕ)) → All (IsSetting v) lines → AllPairs Apart lines → AreKeys lines keys → keys ≡ unwrap_or (keys_found lines) Num
  keys_value keys [] each once (inl any) = absurd (let below = any.2 in omega arith)
  keys_value keys [] each once (inr none) = none.1
  keys_value keys (line ∷ lines) each once (inl (zero, x, below, e, says)) = rw (ap (λ (l : List ℕ). keys_given (tokens l)) (e ∙ says) ∙ line_keys keys) refl
  keys_value keys (line ∷ lines) each once (inl (suc k, x, below, e, says)) =
      let other : ¬ (first_word line ≡ codes "keys") = λ named. once zero (suc k) x (omega arith) below (named ∙ sym (line_name keys) ∙ ap first_word (sym (e ∙ says))) in
      rw (no_keys_head line (All-head (IsSetting v) line lines each) other) (keys_value keys lines (All-tail (IsSetting v) line lines each) (once_tail line lines once) (inl (k, x, omega arith, e, says)))
  keys_value keys (line ∷ lines) each once (inr none) =
      rw (no_keys_head line (All-head (IsSetting v) line lines each) (All-head (λ l. ¬ (first_word l ≡ codes "keys")) line lines none.0))
      (keys_value keys lines (All-tail (IsSetting v) line lines each) (once_tail line lines once) (inr (All-tail (λ l. ¬ (first_word l ≡ codes "keys")) line lines none.0, none.1)))

same_settings : (a : Settings) (s power max callers turns rounds load : ℕ) → a.s ≡ s → a.power ≡ power → a.max ≡ max → a.callers ≡ callers → a.turns ≡ turns → a.rounds ≡ rounds → a.min_load ≡ load
    → a ≡ record { s = s; power = power; max = max; callers = callers; turns = turns; rounds = rounds; min_load = load }
same_settings a s power max callers turns rounds load p q r t u v w = rw (← p, ← q, ← r, ← t, ← u, ← v, ← w) refl

tail_of : (a b : List ℕ) (xs ys : List (List ℕ)) → a ∷ xs ≡ b ∷ ys → xs ≡ ys
tail_of a b xs ys e = cc

-- the settings that the lines set are those that they give, which fit together
module _ (v : Version) (g : Found) (lines : List (List ℕ)) (keys : Keys) (set : Settings) (given : AreGiven g (header_of v ∷ lines)) (are : AreSettings v lines keys set) where
  same_lines : lines ≡ given.settings
  same_lines = tail_of (header_of v) (header_of g.version) lines given.settings given.whole

  value_is : (t : Setting) (n : ℕ) → IsSetTo lines t n → n ≡ value_of g t
  value_is t n h = set_value v t n lines are.each are.once h ∙ ap (λ (o : Option ℕ). unwrap_or o (default_of t)) (ap (number_found t) same_lines ∙ sym (given.numbers t))

  keys_is : keys ≡ keys_of g
  keys_is = keys_value v keys lines are.each are.once are.keys_are ∙ ap (λ (o : Option Keys). unwrap_or o Num) (ap keys_found same_lines ∙ sym given.keys)

  settings_is : set ≡ settings_of g set.callers
  settings_is =
      let s = value_is S set.s are.s in
      let power = value_is Power set.power are.power in
      let max = value_is Max set.max are.max in
      let turns = value_is Turns set.turns are.turns in
      let rounds = value_is Rounds set.rounds are.rounds in
      let load = value_is Load set.min_load are.load in
      same_settings set (value_of g S) (value_of g Power) (value_of g Max) set.callers (value_of g Turns) (value_of g Rounds) (value_of g Load) s power max refl turns rounds load

  fit_is : do_given_fit g ≡ true
  fit_is =
      let s = value_is S set.s are.s in
      let power = value_is Power set.power are.power in
      let max = value_is Max set.max are.max in
      let fit = are.stripes_fit in
      let growth = are.growth in
      let a : value_of g S ≤ value_of g Power = omega arith in
      let b : value_of g Power ≤ value_of g Max = omega arith in
      rw (le-ltb (value_of g Power) (value_of g S) a, le-ltb (value_of g Max) (value_of g Power) b) refl

-- Blocks.

pub record HoldsMore (b : Blocks) (cs : List (Command Name)) (c : Blocks) : Type 0 where
  pub version : c.version ≡ b.version
  pub keys : c.keys ≡ b.keys
  pub settings : c.settings ≡ b.settings
  pub whole : c.whole ≡ b.whole
  pub last : c.last ≡ b.last ++ cs
  pub commands : c.commands ≡ b.commands + length cs

-- a command line is no other line
no_other : (v : Version) (keys : Keys) (line word : List ℕ) (d : Command Name) → IsCommand v keys (tokens line) d → ((c : WordCommand) → command_in v keys (tokens word) ≡ Ok c → ⊥) → bytes_eq line word ≡ false
no_other v keys line word d h none =
    bytes_eq-no line word (λ same. let r = is_read v keys (tokens line) d h in none r.0 (ap (λ (l : List ℕ). command_in v keys (tokens l)) (sym same) ∙ r.1))

line_read : (v : Version) (keys : Keys) (line : List ℕ) (c : WordCommand) → command_in v keys (tokens line) ≡ Ok c → command_at v keys line ≡ Ok c
unfolding command_at
line_read v keys line c e = e

command_step : (b : Blocks) (line : List ℕ) (d : Command Name) → IsCommand b.version b.keys (tokens line) d → b.commands < 1000000
    → (c : Blocks) × (step (Block b) line ≡ Ok (Block c)) × HoldsMore b (d ∷ []) c
command_step b line d h below =
    let r = is_read b.version b.keys (tokens line) d h in
    let no_worker = no_other b.version b.keys line (codes "worker") d h (λ c e. absurd cc) in
    let no_end = no_other b.version b.keys line (codes "end") d h (λ c e. absurd cc) in (
      with_command b r.0,
      rw (no_worker, no_end, line_read b.version b.keys line r.0 r.1, lt-ltb b.commands 1000000 below) refl,
      record { version = refl; keys = refl; settings = refl; whole = refl; last = ap (λ (e : Command Name). b.last ++ e ∷ []) (sym r.2); commands = refl },
    )

holds_both : (a b c : Blocks) (cs ds : List (Command Name)) → HoldsMore a cs b → HoldsMore b ds c → HoldsMore a (cs ++ ds) c
holds_both a b c cs ds p q = record {
  version = q.version ∙ p.version;
  keys = q.keys ∙ p.keys;
  settings = q.settings ∙ p.settings;
  whole = q.whole ∙ p.whole;
  last = q.last ∙ ap (λ (xs : List (Command Name)). xs ++ ds) p.last ∙ append_assoc a.last cs ds;
  commands = let m = q.commands in let n = p.commands in omega (arith, length-append cs ds);
}

commands_run : (b : Blocks) (lines : List (List ℕ)) (cs : List (Command Name)) → AreCommands b.version b.keys lines cs → b.commands + length cs ≤ 1000000
    → (c : Blocks) × (run (Block b) lines ≡ Ok (Block c)) × HoldsMore b cs c
commands_run b [] [] are few = (b, run_nil (Block b), record { version = refl; keys = refl; settings = refl; whole = refl; last = sym (append-nil b.last); commands = omega arith })
commands_run b [] (d ∷ cs) are few = absurd are
commands_run b (line ∷ lines) [] are few = absurd are
commands_run b (line ∷ lines) (d ∷ cs) are few =
    let one = command_step b line d are.0 (omega arith) in
    let c = one.0 in
    let more = one.2 in
    let count = more.commands in
    let later : AreCommands c.version c.keys lines cs = rw (more.version, more.keys) are.1 in
    let rest = commands_run c lines cs later (omega arith) in
    (rest.0, run_one (Block b) (Block c) line lines one.1 ∙ rest.1, holds_both b c rest.0 (d ∷ []) cs more rest.2)

-- the blocks behind the last one, and the line `end`
abbrev said_behind : Blocks → List (List (Command Name)) → Said
said_behind b workers = record { keys = b.keys; settings = record b.settings { callers = b.settings.callers + length workers }; workers = b.whole ++ b.last ∷ workers }

plus_none : (set : Settings) → set ≡ record set { callers = set.callers + 0 }
plus_none set = rw (add-zero set.callers) refl

end_step : (b : Blocks) → step (Block b) (codes "end") ≡ Ok (After (said_by b))
end_step b = refl

worker_step : (b : Blocks) → b.settings.callers < most_workers b.version → step (Block b) (codes "worker") ≡ Ok (Block (with_worker b))
worker_step b below = rw (lt-ltb b.settings.callers (most_workers b.version) below) refl

said_same : (b c : Blocks) (cs : List (Command Name)) (workers : List (List (Command Name))) → HoldsMore (with_worker b) cs c → said_behind c workers ≡ said_behind b (cs ∷ workers)
said_same b c cs workers more =
    rw (more.keys, more.settings, more.whole, more.last)
    (rw (append_assoc b.whole (b.last ∷ []) (cs ∷ workers)) (ap (λ (n : ℕ). let said : Said = record { keys = b.keys; settings = record b.settings { callers = n }; workers = b.whole ++ b.last ∷ cs ∷ workers } in said) (omega arith)))

blocks_run : (b : Blocks) (blocks : List (List (List ℕ))) (workers : List (List (Command Name))) → AllZip (AreCommands b.version b.keys) blocks workers → b.settings.callers + length workers ≤ most_workers b.version
    → b.commands + sum_by length workers ≤ 1000000 → run (Block b) (flat_map block_lines blocks ++ codes "end" ∷ []) ≡ Ok (After (said_behind b workers))
blocks_run b [] [] are many few = run_one (Block b) (After (said_by b)) (codes "end") [] (end_step b) ∙ run_nil (After (said_by b)) ∙ ap (λ (set : Settings). let said : Said = record { keys = b.keys; settings = set; workers = b.whole ++ b.last ∷ [] } in let r : Result State What = Ok (After said) in r) (plus_none b.settings)
blocks_run b [] (w ∷ ws) are many few = absurd are
blocks_run b (block ∷ blocks) [] are many few = absurd are
blocks_run b (block ∷ blocks) (w ∷ ws) are many few =
    let sum = sum_by-cons length w ws in
    let first = commands_run (with_worker b) block w are.0 (omega arith) in
    let c = first.0 in
    let more = first.2 in
    let count = more.commands in
    let callers = ap (λ (set : Settings). set.callers) more.settings in
    let version = ap most_workers more.version in
    let later : AllZip (AreCommands c.version c.keys) blocks ws = rw (more.version, more.keys) are.1 in
    let rest = blocks_run c blocks ws later (omega arith) (omega arith) in
    ap (run (Block b)) (ap (λ (ls : List (List ℕ)). ls ++ codes "end" ∷ []) (flat_map-cons block_lines block blocks) ∙ append_assoc (block_lines block) (flat_map block_lines blocks) (codes "end" ∷ []))
    ∙ run_one (Block b) (Block (with_worker b)) (codes "worker") (block ++ (flat_map block_lines blocks ++ codes "end" ∷ [])) (worker_step b (omega arith))
    ∙ run-append (Block (with_worker b)) (Block c) block (flat_map block_lines blocks ++ codes "end" ∷ []) first.1
    ∙ rest
    ∙ ap (λ (said : Said). let r : Result State What = Ok (After said) in r) (said_same b c w ws more)

-- Whole scripts.

header_first : (v : Version) → step Header (header_of v) ≡ Ok (Settings_ (none_given v))
header_first One = refl
header_first Two = refl

none_version : (v : Version) → (none_given v).version ≡ v
none_version v = refl

abbrev first_of_given : Found → Blocks
first_of_given g = first_block g.version (keys_of g) (settings_of g 1)

first_step : (g : Found) → do_given_fit g ≡ true → step (Settings_ g) (codes "worker") ≡ Ok (Block (first_of_given g))
first_step g fit = rw fit refl

said_is : (said : Said) (keys : Keys) (set : Settings) (workers : List (List (Command Name))) → said.keys ≡ keys → said.settings ≡ set → said.workers ≡ workers → let other : Said = record { keys = keys; settings = set; workers = workers } in other ≡ said
said_is said keys set workers p q r = rw (← p, ← q, ← r) refl

said_first : (g : Found) (c : Blocks) (w : List (Command Name)) (ws : List (List (Command Name))) (said : Said) → HoldsMore (first_of_given g) w c → said.keys ≡ keys_of g → said.settings ≡ settings_of g said.settings.callers
    → said.settings.callers ≡ 1 + length ws → said.workers ≡ w ∷ ws → said_behind c ws ≡ said
said_first g c w ws said more keys set callers workers =
    rw (more.keys, more.settings, more.whole, more.last)
    (said_is said (keys_of g) (settings_of g (1 + length ws)) (w ∷ ws) keys (set ∙ ap (settings_of g) callers) workers)

module _ (v : Version) (said : Said) (g : Found) (lines : List (List ℕ)) (given : AreGiven g (header_of v ∷ lines)) (same : g.version ≡ v) (are : AreSettings v lines said.keys said.settings) where
  given_run : (blocks : List (List (List ℕ))) (workers : List (List (Command Name))) → said.workers ≡ workers → AllZip (AreCommands v said.keys) blocks workers → said.settings.callers ≡ length workers → 1 ≤ length workers
      → length workers ≤ most_workers v → sum_by length workers ≤ 1000000 → run (Settings_ g) (flat_map block_lines blocks ++ codes "end" ∷ []) ≡ Ok (After said)
  given_run [] [] says blocks_are callers some many few = absurd (omega arith)
  given_run [] (w ∷ ws) says blocks_are callers some many few = absurd blocks_are
  given_run (block ∷ blocks) [] says blocks_are callers some many few = absurd blocks_are
  given_run (block ∷ blocks) (w ∷ ws) says blocks_are callers some many few =
      let keys = keys_is v g lines said.keys said.settings given are in
      let sum = sum_by-cons length w ws in
      let fit = fit_is v g lines said.keys said.settings given are in
      let set = settings_is v g lines said.keys said.settings given are in
      let b = first_of_given g in
      let block_is : AreCommands b.version b.keys block w = rw (same, sym keys) blocks_are.0 in
      let first = commands_run b block w block_is (omega arith) in
      let c = first.0 in
      let more = first.2 in
      let count = more.commands in
      let held = ap (λ (s : Settings). s.callers) more.settings in
      let most = ap most_workers (more.version ∙ same) in
      let later : AllZip (AreCommands c.version c.keys) blocks ws = rw (more.version, more.keys, same, sym keys) blocks_are.1 in
      ap (run (Settings_ g)) (ap (λ (ls : List (List ℕ)). ls ++ codes "end" ∷ []) (flat_map-cons block_lines block blocks) ∙ append_assoc (block_lines block) (flat_map block_lines blocks) (codes "end" ∷ []))
      ∙ run_one (Settings_ g) (Block b) (codes "worker") (block ++ (flat_map block_lines blocks ++ codes "end" ∷ [])) (first_step g fit)
      ∙ run-append (Block b) (Block c) block (flat_map block_lines blocks ++ codes "end" ∷ []) first.1
      ∙ blocks_run c blocks ws later (omega arith) (omega arith)
      ∙ ap (λ (s : Said). let r : Result State What = Ok (After s) in r) (said_first g c w ws said more keys set (callers ∙ omega arith) says)

pub script_run : (v : Version) (settings : List (List ℕ)) (blocks : List (List (List ℕ))) (said : Said) → AreSettings v settings said.keys said.settings → AllZip (AreCommands v said.keys) blocks said.workers
    → said.settings.callers ≡ length said.workers → 1 ≤ length said.workers → length said.workers ≤ most_workers v → sum_by length said.workers ≤ 1000000 → run Header (lines_of v settings blocks) ≡ Ok (After said)
script_run v settings blocks said are blocks_are callers some many few =
    let s = settings_run v (none_given v) [] settings (given_first v) refl are.each are.once in
    run_one Header (Settings_ (none_given v)) (header_of v) ((settings ++ flat_map block_lines blocks) ++ codes "end" ∷ []) (header_first v)
    ∙ ap (run (Settings_ (none_given v))) (append_assoc settings (flat_map block_lines blocks) (codes "end" ∷ []))
    ∙ run-append (Settings_ (none_given v)) (Settings_ s.0) settings (flat_map block_lines blocks ++ codes "end" ∷ []) s.1
    ∙ given_run v said s.0 settings s.2 s.3 are blocks said.workers refl blocks_are callers some many few
