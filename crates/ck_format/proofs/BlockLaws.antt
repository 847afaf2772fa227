-- Lines of blocks: what they say, and how faults are found by them.
use Rattle.std.proofs.Common.{◌≡◌, ℕ, ◌+◌, ◌<◌, ◌≤◌, Bool, true, false, cond, ltb, List, [], ◌∷◌, ◌++◌, length, Option, Some, None, Result, Ok, Err, refl, sym, ap, ◌∙◌, inl, inr, arith, append_assoc, length-append}
use Rattle.std.specs.Prelude.{◌||◌, not, codes, nat_lt, flat_map, sum_by, filter}
use Rattle.std.specs.List.{AllZip, list_any}
use Rattle.std.specs.Result.{result_err}
use Rattle.std.specs.Str.{bytes_eq}
use Rattle.std.proofs.lemmas.Bool.{false≢true, cases_Bool}
use Rattle.std.proofs.lemmas.List.{append-nil, flat_map_more}
use Rattle.std.proofs.lemmas.List.Elements.{filter-append}
use Rattle.std.proofs.lemmas.List.Folds.{list_any-append}
use Rattle.std.proofs.lemmas.List.Sums.{sum_by_push}
use Rattle.ck_format.specs.declared.script.Version.{Version}
use Rattle.ck_format.specs.declared.script.Version.TheVariants.{One, Two}
use Rattle.ck_format.specs.declared.script.Keys.{Keys}
use Rattle.ck_format.specs.declared.script.Keys.TheVariants.{Text}
use Rattle.ck_format.specs.declared.script.What.{What}
use Rattle.ck_format.specs.declared.script.What.TheVariants as is
use Rattle.ck_format.specs.Script.{on_names}
use Rattle.ck_format.specs.Tokens.{tokens}
use Rattle.ck_format.specs.Formats.{header_of, most_workers, keys_line, AreSettings}
use Rattle.ck_format.specs.Spells.{IsCommand}
use Rattle.ck_format.specs.FirstFault.{option_or, is_worker, is_end, version_in, workers_in, commands_in, command_fault}
use Rattle.ck_format.specs.Parse.{◌>>=◌, WordCommand, name_of, command_at}
use Rattle.ck_format.specs.SettingLines.{Found, do_given_fit, settings_of, keys_of}
use Rattle.ck_format.specs.Blocks.{Blocks, first_block, with_command, take_command, with_worker, take_worker, said_by}
use Rattle.ck_format.specs.Stands.{AreGiven, AreCommands, block_lines, AreBlocks, AreScript}
use Rattle.ck_format.proofs.Commands.{bytes_eq-no, ok_line, line_says, line_fault-same}
use Rattle.ck_format.proofs.SettingLaws.{header_version, given_before, keys_in-push, given_settings}

-- One line more.

or_false : (b : Bool) → (b || (false || false)) ≡ b
or_false true = refl
or_false false = refl

or_true : (b : Bool) → (b || (true || false)) ≡ true
or_true true = refl
or_true false = refl

pub any_no : (p : List ℕ → Bool) (lines : List (List ℕ)) (line : List ℕ) (b : Bool) → list_any p lines ≡ b → p line ≡ false → list_any p (lines ++ line ∷ []) ≡ b
any_no p lines line b before differs = list_any-append p lines (line ∷ []) ∙ rw (before, differs) (or_false b)

pub any_yes : (p : List ℕ → Bool) (lines : List (List ℕ)) (line : List ℕ) → p line ≡ true → list_any p (lines ++ line ∷ []) ≡ true
any_yes p lines line is = list_any-append p lines (line ∷ []) ∙ rw is (or_true (list_any p lines))

abbrev one_if : Bool → ℕ
one_if b = cond b 1 0

length-one : (p : List ℕ → Bool) (line : List ℕ) → length (filter p (line ∷ [])) ≡ one_if (p line)
length-one p line = elim (cases_Bool (p line)) [ inl h ↦ rw h refl | inr h ↦ rw h refl ]

count-push : (p : List ℕ → Bool) (lines : List (List ℕ)) (line : List ℕ) → length (filter p (lines ++ line ∷ [])) ≡ length (filter p lines) + one_if (p line)
count-push p lines line = ap length (filter-append p lines (line ∷ [])) ∙ length-append (filter p lines) (filter p (line ∷ [])) ∙ ap (λ (n : ℕ). length (filter p lines) + n) (length-one p line)

count_none : (p : List ℕ → Bool) (lines : List (List ℕ)) → list_any p lines ≡ false → length (filter p lines) ≡ 0
count_none p [] e = refl
count_none p (line ∷ lines) e = elim (cases_Bool (p line)) [ inl h ↦ absurd (false≢true (sym e ∙ rw h refl)) | inr h ↦ rw h (count_none p lines (rw h at e)) ]

-- behind the first line `worker`, each line that is none counts as a command line
commands-push : (lines : List (List ℕ)) (line : List ℕ) → list_any is_worker lines ≡ true → commands_in (lines ++ line ∷ []) ≡ commands_in lines + one_if (not (is_worker line))
commands-push [] line e = absurd (false≢true e)
commands-push (l ∷ lines) line e =
    elim (cases_Bool (is_worker l)) [
      | inl h ↦ rw h (count-push (λ x. not (is_worker x)) lines line)
      | inr h ↦ rw h (commands-push lines line (rw h at e))
    ]

commands_first : (lines : List (List ℕ)) (line : List ℕ) → list_any is_worker lines ≡ false → is_worker line ≡ true → commands_in (lines ++ line ∷ []) ≡ 0
commands_first [] line e is = rw is refl
commands_first (l ∷ lines) line e is =
    elim (cases_Bool (is_worker l)) [
      | inl h ↦ absurd (false≢true (sym e ∙ rw h refl))
      | inr h ↦ rw h (commands_first lines line (rw h at e) is)
    ]

version-push : (v : Version) (lines rest : List (List ℕ)) (line : List ℕ) → lines ≡ header_of v ∷ rest → version_in (lines ++ line ∷ []) ≡ v
version-push v lines rest line e = ap (λ (ls : List (List ℕ)). version_in (ls ++ line ∷ [])) e ∙ header_version v (rest ++ line ∷ [])

zip-push : {A B : Type 0} (R : A → B → Type 0) (xs : List A) (ys : List B) (x : A) (y : B) → AllZip R xs ys → R x y → AllZip R (xs ++ x ∷ []) (ys ++ y ∷ [])
zip-push R [] [] x y h one = (one, tt)
zip-push R [] (b ∷ ys) x y h one = absurd h
zip-push R (a ∷ xs) [] x y h one = absurd h
zip-push R (a ∷ xs) (b ∷ ys) x y h one = (h.0, zip-push R xs ys x y h.1 one)

abbrev worker : List ℕ
worker = codes "worker"

some_workers : (v : Version) → 1 ≤ most_workers v
some_workers One = omega arith
some_workers Two = omega arith

no_keys_command : (v : Version) (keys : Keys) (c : WordCommand) → command_at v keys (keys_line Text) ≡ Ok c → ⊥
unfolding command_at
no_keys_command v keys c e = absurd cc

-- a command line doesn't say which keys there are
no_keys_line : (v : Version) (keys : Keys) (line : List ℕ) (c : WordCommand) → command_at v keys line ≡ Ok c → bytes_eq line (keys_line Text) ≡ false
no_keys_line v keys line c told = bytes_eq-no line (keys_line Text) (λ e. no_keys_command v keys c (ap (command_at v keys) (sym e) ∙ told))

count_table : (b : Bool) (s : Blocks) → result_err (cond b (ok_line s) (Err is.TooLong)) ≡ cond b None (Some is.TooLong)
count_table true s = refl
count_table false s = refl

command_table : (r : Result WordCommand What) (b : Bool) (f : WordCommand → Blocks) → result_err (r >>= λ c. cond b (ok_line (f c)) (Err is.TooLong)) ≡ option_or (result_err r) (cond b None (Some is.TooLong))
command_table (Ok c) b f = count_table b (f c)
command_table (Err w) b f = refl

-- The first line `worker`.

pub blocks_first : (g : Found) (lines : List (List ℕ)) → AreGiven g lines → do_given_fit g ≡ true → AreBlocks (first_block g.version (keys_of g) (settings_of g 1)) (lines ++ worker ∷ [])
blocks_first g lines given fit =
    let before = given_before g lines given in
    record {
      settings = given.settings;
      blocks = [];
      last = [];
      whole = ap (λ (ls : List (List ℕ)). ls ++ worker ∷ []) (given.whole ∙ sym (append-nil (header_of g.version ∷ given.settings)));
      settings_are = given_settings g lines given fit;
      whole_are = tt;
      last_are = tt;
      callers = refl;
      many = some_workers g.version;
      count = refl;
      few = omega arith;
      version_is = version-push g.version lines given.settings worker given.whole;
      keys_are = keys_in-push lines worker (keys_of g) given.keys_are refl;
      workers_are = count-push is_worker lines worker ∙ ap (λ (n : ℕ). n + 1) (count_none is_worker lines before.0);
      commands_are = commands_first lines worker before.0 refl;
      begun = any_yes is_worker lines worker refl;
      going_on = any_no is_end lines worker false before.1 refl;
    }

-- A further line.

module _ (b : Blocks) (lines : List (List ℕ)) (known : AreBlocks b lines) where
  abbrev front : List (List ℕ)
  front = header_of b.version ∷ known.settings ++ flat_map block_lines known.blocks

  starts : (r : List (List ℕ)) × (lines ≡ header_of b.version ∷ r)
  starts = ((known.settings ++ flat_map block_lines known.blocks) ++ block_lines known.last, known.whole)

  pub blocks_version : (line : List ℕ) → version_in (lines ++ line ∷ []) ≡ b.version
  blocks_version line = version-push b.version lines starts.0 line starts.1

  pub blocks_command : (line : List ℕ) (c : WordCommand) → is_worker line ≡ false → is_end line ≡ false → command_at b.version b.keys line ≡ Ok c → b.commands < 1000000 → AreBlocks (with_command b c) (lines ++ line ∷ [])
  blocks_command line c no_worker no_end told below =
      record {
        settings = known.settings;
        blocks = known.blocks;
        last = known.last ++ line ∷ [];
        whole = ap (λ (ls : List (List ℕ)). ls ++ line ∷ []) known.whole ∙ append_assoc front (block_lines known.last) (line ∷ []);
        settings_are = known.settings_are;
        whole_are = known.whole_are;
        last_are = zip-push (λ l d. IsCommand b.version b.keys (tokens l) d) known.last b.last line (on_names (name_of b.keys) c) known.last_are (line_says b.version b.keys line c told);
        callers = known.callers;
        many = known.many;
        count = let more : length (b.last ++ on_names (name_of b.keys) c ∷ []) ≡ length b.last + 1 = length-append b.last (on_names (name_of b.keys) c ∷ []) in let old = known.count in omega arith;
        few = omega arith;
        version_is = blocks_version line;
        keys_are = keys_in-push lines line b.keys known.keys_are (no_keys_line b.version b.keys line c told);
        workers_are = count-push is_worker lines line ∙ rw no_worker (let same = known.workers_are in omega arith);
        commands_are = commands-push lines line known.begun ∙ rw no_worker (ap (λ (n : ℕ). n + 1) known.commands_are);
        begun = any_no is_worker lines line true known.begun no_worker;
        going_on = any_no is_end lines line false known.going_on no_end;
      }

  settings_same : AreSettings b.version known.settings b.keys (with_worker b).settings
  settings_same = let old = known.settings_are in record {
    each = old.each;
    once = old.once;
    keys_are = old.keys_are;
    s = old.s;
    power = old.power;
    max = old.max;
    turns = old.turns;
    rounds = old.rounds;
    load = old.load;
    stripes_fit = old.stripes_fit;
    growth = old.growth;
  }

  blocks_whole : AllZip (AreCommands b.version b.keys) (known.blocks ++ known.last ∷ []) (b.whole ++ b.last ∷ [])
  blocks_whole = zip-push (AreCommands b.version b.keys) known.blocks b.whole known.last b.last known.whole_are known.last_are

  blocks_count : b.commands ≡ sum_by length (b.whole ++ b.last ∷ [])
  blocks_count = known.count ∙ sym (sum_by_push length b.whole b.last)

  blocks_lines : (line : List ℕ) → lines ++ line ∷ [] ≡ (header_of b.version ∷ known.settings ++ flat_map block_lines (known.blocks ++ known.last ∷ [])) ++ line ∷ []
  blocks_lines line = ap (λ (ls : List (List ℕ)). ls ++ line ∷ []) (known.whole ∙ flat_map_more block_lines (header_of b.version ∷ known.settings) known.blocks known.last)

  pub blocks_worker : b.settings.callers < most_workers b.version → AreBlocks (with_worker b) (lines ++ worker ∷ [])
  blocks_worker below =
      record {
        settings = known.settings;
        blocks = known.blocks ++ known.last ∷ [];
        last = [];
        whole = blocks_lines worker;
        settings_are = settings_same;
        whole_are = blocks_whole;
        last_are = tt;
        callers = let old = known.callers in let more : length (b.whole ++ b.last ∷ []) ≡ length b.whole + 1 = length-append b.whole (b.last ∷ []) in omega arith;
        many = omega arith;
        count = let old = blocks_count in omega arith;
        few = known.few;
        version_is = blocks_version worker;
        keys_are = keys_in-push lines worker b.keys known.keys_are refl;
        workers_are = count-push is_worker lines worker ∙ ap (λ (n : ℕ). n + 1) known.workers_are;
        commands_are = commands-push lines worker known.begun ∙ (let same = known.commands_are in omega arith);
        begun = any_yes is_worker lines worker refl;
        going_on = any_no is_end lines worker false known.going_on refl;
      }

  pub blocks_end : AreScript (said_by b) (lines ++ codes "end" ∷ [])
  blocks_end =
      let size : length (b.whole ++ b.last ∷ []) ≡ length b.whole + 1 = length-append b.whole (b.last ∷ []) in
      let callers = known.callers in
      let many = known.many in
      record {
        version = b.version;
        settings = known.settings;
        blocks = known.blocks ++ known.last ∷ [];
        whole = blocks_lines (codes "end");
        settings_are = known.settings_are;
        blocks_are = blocks_whole;
        callers = omega arith;
        some = omega arith;
        many = omega arith;
        few = let same = blocks_count in let few = known.few in omega arith;
        ended = any_yes is_end lines (codes "end") refl;
      }

  -- Faults: those of the code are the first ones.

  pub command_same : (line : List ℕ) → result_err (take_command b line) ≡ command_fault lines line
  command_same line =
      rw (known.version_is, known.keys_are, known.commands_are)
      (command_table (command_at b.version b.keys line) (ltb b.commands 1000000) (with_command b)
      ∙ ap (λ (w : Option What). option_or w (cond (ltb b.commands 1000000) None (Some is.TooLong))) (line_fault-same b.version b.keys line))

  pub worker_same : result_err (take_worker b) ≡ cond (nat_lt (workers_in lines) (most_workers (version_in lines))) None (Some is.TooLong)
  worker_same = rw (known.workers_are, known.version_is) (count_table (ltb b.settings.callers (most_workers b.version)) (with_worker b))
