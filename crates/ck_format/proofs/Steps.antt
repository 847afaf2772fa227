-- A line more: what is known behind it, or what is wrong with it.
use Rattle.std.proofs.Common.{◌≡◌, ℕ, ◌+◌, ◌<◌, ◌≤◌, Bool, true, false, cond, eqb, List, [], ◌∷◌, ◌++◌, length, Option, Some, None, Result, Ok, Err, refl, sym, ap, subst, ◌∙◌, inl, inr, arith, append_assoc}
use Rattle.std.specs.Prelude.{◌⊎◌, ◌||◌, codes, nat_lt}
use Rattle.std.specs.List.{list_any}
use Rattle.std.specs.Result.{result_err}
use Rattle.std.specs.Str.{bytes_eq}
use Rattle.std.proofs.lemmas.Bool.{ltb-true, lt-ltb, le-ltb, false≢true}
use Rattle.std.proofs.lemmas.Bool.Decides.{nat_tests}
use Rattle.std.proofs.lemmas.List.Elements.{All-push}
use Rattle.ck_format.specs.declared.script.Version.{Version}
use Rattle.ck_format.specs.declared.script.Version.TheVariants.{One, Two}
use Rattle.ck_format.specs.declared.script.What.{What}
use Rattle.ck_format.specs.declared.script.What.TheVariants as is
use Rattle.ck_format.specs.Script.{fault_at}
use Rattle.ck_format.specs.Lines.{IsLine}
use Rattle.ck_format.specs.Tokens.{tokens}
use Rattle.ck_format.specs.Formats.{header_of, most_workers}
use Rattle.ck_format.specs.FirstFault.{option_or, is_worker, is_end, version_in, workers_in, do_fit, settings_fault, line_fault, end_fault, placed, first_fault_behind}
use Rattle.ck_format.specs.Parse.{◌>>=◌, WordCommand, command_at}
use Rattle.ck_format.specs.SettingLines.{Found, none_given, take_words, do_given_fit, settings_of, keys_of}
use Rattle.ck_format.specs.Blocks.{Blocks, first_block, with_command, take_command, with_worker, take_worker, said_by}
use Rattle.ck_format.specs.State.{State, Header, Setting as Settings, Block, After, header_step, first_worker, setting_step, block_step, step, lines_to, AreFew}
use Rattle.ck_format.specs.Stands.{AreGiven, AreBlocks, IsKnown, AreRead}
use Rattle.ck_format.proofs.Commands.{same_bytes, chosen, bind_ok, ok_line, ok_is}
use Rattle.ck_format.proofs.SettingLaws.{given_before, given_fit, given_first, given_next, words_same, count_most, count_next}
use Rattle.ck_format.proofs.BlockLaws.{blocks_first, blocks_command, blocks_worker, blocks_end, command_same, worker_same}

-- What a line leads to.

header_cases : (line : List ℕ) (to : State) → header_step line ≡ Ok to → (v : Version) × (line ≡ header_of v) × (Settings (none_given v) ≡ to)
header_cases line to e =
    elim (chosen (bytes_eq line (header_of One)) (Ok (Settings (none_given One))) _ (Ok to) e) [
      | inl h ↦ (One, same_bytes line (header_of One) h.0, ok_is (Settings (none_given One)) to h.1)
      | inr h ↦ elim (chosen (bytes_eq line (header_of Two)) (Ok (Settings (none_given Two))) (Err is.Header) (Ok to) h.1) [
        | inl h ↦ (Two, same_bytes line (header_of Two) h.0, ok_is (Settings (none_given Two)) to h.1)
        | inr h ↦ absurd (let none = h.1 in cc)
      ]
    ]

abbrev first_of : Found → Blocks
first_of g = first_block g.version (keys_of g) (settings_of g 1)

setting_cases : (g : Found) (line : List ℕ) (to : State) → setting_step g line ≡ Ok to
    → ((line ≡ codes "worker") × (do_given_fit g ≡ true) × (Block (first_of g) ≡ to)) ⊎ ((h : Found) × (take_words g (tokens line) ≡ Ok h) × (Settings h ≡ to))
setting_cases g line to e =
    elim (chosen (is_worker line) (first_worker g) (take_words g (tokens line) >>= λ h. ok_line (Settings h)) (Ok to) e) [
      | inl h ↦ elim (chosen (do_given_fit g) (Ok (Block (first_of g))) (Err is.Setting) (Ok to) h.1) [
        | inl fit ↦ inl (same_bytes line (codes "worker") h.0, fit.0, ok_is (Block (first_of g)) to fit.1)
        | inr unfit ↦ absurd (let none = unfit.1 in cc)
      ]
      | inr h ↦ let b = bind_ok (take_words g (tokens line)) (λ h. ok_line (Settings h)) to h.1 in inr (b.0, b.1, ok_is (Settings b.0) to b.2)
    ]

pub data BlockStep (b : Blocks) (line : List ℕ) (to : State) : Type 0 where
  Worker : line ≡ codes "worker" → b.settings.callers < most_workers b.version → Block (with_worker b) ≡ to → BlockStep b line to
  End : line ≡ codes "end" → After (said_by b) ≡ to → BlockStep b line to
  Said : (c : WordCommand) → is_worker line ≡ false → is_end line ≡ false → command_at b.version b.keys line ≡ Ok c → b.commands < 1000000 → Block (with_command b c) ≡ to → BlockStep b line to

counted : (b : Bool) (s r : Blocks) → cond b (ok_line s) (Err is.TooLong) ≡ Ok r → (b ≡ true) × (s ≡ r)
counted true s r e = (refl, ok_is s r e)
counted false s r e = absurd cc

block_cases : (b : Blocks) (line : List ℕ) (to : State) → block_step b line ≡ Ok to → BlockStep b line to
block_cases b line to e =
    elim (chosen (is_worker line) (take_worker b >>= λ c. ok_line (Block c)) _ (Ok to) e) [
      | inl h ↦
          let w = bind_ok (take_worker b) (λ c. ok_line (Block c)) to h.1 in
          let below = counted (nat_lt b.settings.callers (most_workers b.version)) (with_worker b) w.0 w.1 in
          Worker (same_bytes line (codes "worker") h.0) (ltb-true _ _ below.0) (ap (λ (c : Blocks). Block c) below.1 ∙ ok_is (Block w.0) to w.2)
      | inr other ↦ elim (chosen (is_end line) (Ok (After (said_by b))) (take_command b line >>= λ c. ok_line (Block c)) (Ok to) other.1) [
        | inl h ↦ End (same_bytes line (codes "end") h.0) (ok_is (After (said_by b)) to h.1)
        | inr h ↦
            let t = bind_ok (take_command b line) (λ c. ok_line (Block c)) to h.1 in
            let c = bind_ok (command_at b.version b.keys line) (λ c. cond (nat_lt b.commands 1000000) (ok_line (with_command b c)) (Err is.TooLong)) t.0 t.1 in
            let below = counted (nat_lt b.commands 1000000) (with_command b c.0) t.0 c.2 in
            Said c.0 other.0 h.0 c.1 (ltb-true _ _ below.0) (ap (λ (d : Blocks). Block d) below.1 ∙ ok_is (Block t.0) to t.2)
      ]
    ]

-- What is known.

module _ (lines : List (List ℕ)) (line : List ℕ) where
  abbrev Known : State → Type 0
  Known s = IsKnown s (lines ++ line ∷ [])

  is_line : (known : List ℕ) → line ≡ known → (s : State) → IsKnown s (lines ++ known ∷ []) → Known s
  is_line known e s h = subst (λ (l : List ℕ). IsKnown s (lines ++ l ∷ [])) (sym e) h

  known_block : (b : Blocks) (to : State) → AreBlocks b lines → BlockStep b line to → Known to
  known_block b to known (Worker e below same) = subst Known same (is_line (codes "worker") e (Block (with_worker b)) (blocks_worker b lines known below))
  known_block b to known (End e same) = subst Known same (is_line (codes "end") e (After (said_by b)) (blocks_end b lines known))
  known_block b to known (Said c no_worker no_end told below same) = subst Known same (blocks_command b lines known line c no_worker no_end told below)

  pub known_next : (from to : State) → IsKnown from lines → step from line ≡ Ok to → Known to
  known_next Header to known e =
      let h = header_cases line to e in
      let first : AreGiven (none_given h.0) (line ∷ []) = subst (λ (l : List ℕ). AreGiven (none_given h.0) (l ∷ [])) (sym h.1) (given_first h.0) in
      subst Known h.2 (subst (λ (ls : List (List ℕ)). AreGiven (none_given h.0) (ls ++ line ∷ [])) (sym known) first)
  known_next (Settings g) to known e =
      elim (setting_cases g line to e) [
        | inl h ↦ subst Known h.2 (is_line (codes "worker") h.0 (Block (first_of g)) (blocks_first g lines known h.1))
        | inr h ↦ subst Known h.2 (given_next g h.0 lines line known (tokens line) refl h.1)
      ]
  known_next (Block b) to known e = known_block b to known (block_cases b line to e)
  known_next (After said) to known e = absurd cc

-- Limits.

abbrev Fuller : State → State → Type 0
Fuller from to = (lines_to from + 1 ≤ lines_to to) × AreFew to

most_1024 : (v : Version) → most_workers v ≤ 1024
most_1024 One = omega arith
most_1024 Two = omega arith

fuller_block : (b : Blocks) (line : List ℕ) (to : State) → AreFew (Block b) → BlockStep b line to → Fuller (Block b) to
fuller_block b line to few (Worker e below same) =
    let most = most_1024 b.version in
    let workers = few.0 in
    subst (Fuller (Block b)) same (omega arith, (omega arith, few.1))
fuller_block b line to few (End e same) = let workers = few.0 in let commands = few.1 in subst (Fuller (Block b)) same (omega arith, tt)
fuller_block b line to few (Said c no_worker no_end told below same) = subst (Fuller (Block b)) same (omega arith, (few.0, omega arith))

-- each line leaves less room
pub fuller : (from to : State) (line : List ℕ) → AreFew from → step from line ≡ Ok to → Fuller from to
fuller Header to line few e = let h = header_cases line to e in subst (Fuller Header) h.2 (omega arith, tt)
fuller (Settings g) to line few e =
    elim (setting_cases g line to e) [
      | inl h ↦ let most = count_most g in subst (Fuller (Settings g)) h.2 (omega arith, (omega arith, omega arith))
      | inr h ↦ let more = count_next g h.0 (tokens line) h.1 in subst (Fuller (Settings g)) h.2 (omega arith, tt)
    ]
fuller (Block b) to line few e = fuller_block b line to few (block_cases b line to e)
fuller (After said) to line few e = absurd cc

-- What is wrong.

some_lines : (lines rest : List (List ℕ)) (header : List ℕ) → lines ≡ header ∷ rest → eqb (length lines) 0 ≡ false
some_lines lines rest header e = let more : length lines ≡ length rest + 1 = ap length e ∙ omega arith in grind (arith, nat_tests)

some_any : (p : List ℕ → Bool) (lines : List (List ℕ)) → list_any p lines ≡ true → eqb (length lines) 0 ≡ false
some_any p [] e = absurd (false≢true e)
some_any p (line ∷ lines) e = some_lines (line ∷ lines) lines line refl

header_table : (a b : Bool) (s t : State) → result_err (cond a (ok_line s) (cond b (ok_line t) (Err is.Header))) ≡ cond (a || b) None (Some is.Header)
header_table true b s t = refl
header_table false true s t = refl
header_table false false s t = refl

fit_table : (a : Bool) (s : State) → result_err (cond a (ok_line s) (Err is.Setting)) ≡ cond a None (Some is.Setting)
fit_table true s = refl
fit_table false s = refl

bind_table : {A : Type 0} (r : Result A What) (f : A → State) → result_err (r >>= λ x. ok_line (f x)) ≡ result_err r
bind_table (Ok x) f = refl
bind_table (Err w) f = refl

cond_err : {A : Type 0} (b : Bool) (r s : Result A What) → result_err (cond b r s) ≡ cond b (result_err r) (result_err s)
cond_err true r s = refl
cond_err false r s = refl

setting_same : (g : Found) (lines : List (List ℕ)) (line : List ℕ) → AreGiven g lines
    → result_err (setting_step g line) ≡ cond (is_worker line) (cond (do_fit lines) None (Some is.Setting)) (settings_fault lines (tokens line))
setting_same g lines line given =
    cond_err (is_worker line) (first_worker g) (take_words g (tokens line) >>= λ h. ok_line (Settings h))
    ∙ rw (given_fit g lines given)
    (ap (λ (w : Option What). cond (is_worker line) w (result_err (take_words g (tokens line) >>= λ h. ok_line (Settings h)))) (fit_table (do_given_fit g) (Block (first_block g.version (keys_of g) (settings_of g 1))))
    ∙ ap (λ (w : Option What). cond (is_worker line) (cond (do_given_fit g) None (Some is.Setting)) w) (bind_table (take_words g (tokens line)) (λ h. Settings h) ∙ words_same g lines given (tokens line)))

-- a line of at most 200 bytes is faulty alike, by what is known and by the lines before it
pub step_same : (s : State) (lines : List (List ℕ)) (line : List ℕ) → IsKnown s lines → length line ≤ 200 → result_err (step s line) ≡ line_fault lines line
unfolding line_fault
step_same Header lines line known short =
    rw (le-ltb 200 (length line) short, known) (header_table (bytes_eq line (header_of One)) (bytes_eq line (header_of Two)) (Settings (none_given One)) (Settings (none_given Two)))
step_same (Settings g) lines line known short =
    let before = given_before g lines known in
    rw (le-ltb 200 (length line) short, some_lines lines known.settings (header_of g.version) known.whole, before.1, before.0) (setting_same g lines line known)
step_same (Block b) lines line known short =
    rw (le-ltb 200 (length line) short, some_any is_worker lines known.begun, known.going_on, known.begun)
    (cond_err (is_worker line) (take_worker b >>= λ c. ok_line (Block c)) _
    ∙ ap (λ (w : Option What). cond (is_worker line) w (result_err (cond (is_end line) (ok_line (After (said_by b))) (take_command b line >>= λ c. ok_line (Block c))))) (bind_table (take_worker b) (λ c. Block c) ∙ worker_same b lines known)
    ∙ ap (λ (w : Option What). cond (is_worker line) (cond (nat_lt (workers_in lines) (most_workers (version_in lines))) None (Some is.TooLong)) w) (cond_err (is_end line) (ok_line (After (said_by b))) (take_command b line >>= λ c. ok_line (Block c))
    ∙ ap (λ (w : Option What). cond (is_end line) None w) (bind_table (take_command b line) (λ c. Block c) ∙ command_same b lines known line)))
step_same (After said) lines line known short =
    rw (le-ltb 200 (length line) short, some_any is_end lines known.ended, known.ended) refl

-- Lines that were read.

pub behind_line : (earlier : List (List ℕ)) (line : List ℕ) (more : List (List ℕ)) → 0 < length more
    → first_fault_behind earlier (line ∷ more) ≡ option_or (placed (length earlier + 1) (line_fault earlier line)) (first_fault_behind (earlier ++ line ∷ []) more)
unfolding first_fault_behind
behind_line earlier line [] some = absurd (omega arith)
behind_line earlier line (next ∷ more) some = refl

module _ (s : State) (lines : List (List ℕ)) (read : AreRead s lines) (line : List ℕ) where
  pub read_next : (to : State) → IsLine line → step s line ≡ Ok to → AreRead to (lines ++ line ∷ [])
  read_next to is_line e =
      let none : line_fault lines line ≡ None = sym (step_same s lines line read.known is_line.short) ∙ ap result_err e in
      record {
        known = known_next lines line s to read.known e;
        each = All-push IsLine lines line read.each is_line;
        clear = λ more some. ap (first_fault_behind []) (append_assoc lines (line ∷ []) more) ∙ read.clear (line ∷ more) (omega arith) ∙ behind_line lines line more some ∙ rw none refl;
      }

  pub fault_next : (w : What) (n : ℕ) → length line ≤ 200 → step s line ≡ Err w → n ≡ length lines + 1 → (more : List (List ℕ)) → 0 < length more → first_fault_behind lines (line ∷ more) ≡ Some (fault_at n w)
  fault_next w n short e here more some =
      let told : line_fault lines line ≡ Some w = sym (step_same s lines line read.known short) ∙ ap result_err e in
      behind_line lines line more some ∙ rw (told, here) refl

-- a line with too many bytes, ended or not
pub fault_long : (lines : List (List ℕ)) (line : List ℕ) (n : ℕ) → 200 < length line → n ≡ length lines + 1 → (more : List (List ℕ)) → first_fault_behind lines (line ∷ more) ≡ Some (fault_at n is.TooLong)
unfolding first_fault_behind line_fault end_fault
fault_long lines line n long here [] = rw (lt-ltb 200 (length line) long, here) refl
fault_long lines line n long here (next ∷ more) = rw (lt-ltb 200 (length line) long, here) refl
