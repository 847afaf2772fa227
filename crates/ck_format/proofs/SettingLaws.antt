-- Lines of settings: what they give, the code's way, the first fault's and the grammar's.
use Rattle.std.proofs.Common.{◌≡◌, ℕ, suc, ◌+◌, ◌≤◌, Bool, true, false, cond, List, [], ◌∷◌, ◌++◌, get_or, Option, Some, None, Ok, Err, refl, sym, ap, subst, ◌∙◌, inl, inr, arith}
use Rattle.std.specs.Prelude.{All, Any, AllPairs, ◌&&◌, ◌||◌, not, codes, nat_lt}
use Rattle.std.specs.List.{list_any, join_with_byte}
use Rattle.std.specs.Option.{is_some, unwrap_or}
use Rattle.std.specs.Result.{result_err}
use Rattle.std.specs.Str.{bytes_eq}
use Rattle.std.proofs.lemmas.Bool.{ltb-false, false≢true, cases_Bool}
use Rattle.std.proofs.lemmas.List.Elements.{All-nil, All-cons, All-head, All-tail, All-push, All-weaker}
use Rattle.std.proofs.lemmas.List.Folds.{list_any-append, list_any_none, list_any_at}
use Rattle.std.proofs.lemmas.List.Quantifiers.{all_pairs_push}
use Rattle.std.proofs.lemmas.List.Splits.{join_with_byte-slice_split}
use Rattle.ck_format.specs.declared.script.Version.{Version}
use Rattle.ck_format.specs.declared.script.Version.TheVariants.{One, Two}
use Rattle.ck_format.specs.declared.script.Keys.{Keys}
use Rattle.ck_format.specs.declared.script.Keys.TheVariants.{Num, Text}
use Rattle.ck_format.specs.declared.script.Setting.{Setting}
use Rattle.ck_format.specs.declared.script.Setting.TheVariants.{S, Power, Max, Turns, Rounds, Load}
use Rattle.ck_format.specs.declared.script.What.TheVariants as is
use Rattle.ck_format.specs.Tokens.{tokens, number_at}
use Rattle.ck_format.specs.Formats.{header_of, word_of, least_of, most_of, default_of, keys_line, Gives, IsSetting, first_of, first_word, IsSetTo, AreKeys, AreSettings}
use Rattle.ck_format.specs.FirstFault.{option_or, is_empty, is_worker, is_end, version_in, keys_in, is_given, number_given, number_in, do_fit, setting_at, setting_fault, settings_fault}
use Rattle.ck_format.specs.SettingLines.{Found, none_given, given_to, value_of, with_number, take_setting, keys_at, with_keys, take_keys, take_words, do_given_fit, settings_of, keys_of, one_if_some, count_of}
use Rattle.ck_format.specs.Stands.{number_found, keys_given, keys_found, AreGiven}
use Rattle.ck_format.proofs.Commands.{same_bytes, bytes_eq-refl, bytes_eq-no, chosen, or_no, and_both, some_is, ok_line, ok_is, guard_ok, number_some, number_at-of}

-- A line of settings.

-- what holds at each setting holds at all
pub by_setting : (P : Setting → Type 0) → P S → P Power → P Max → P Turns → P Rounds → P Load → (t : Setting) → P t
by_setting P s power max turns rounds load S = s
by_setting P s power max turns rounds load Power = power
by_setting P s power max turns rounds load Max = max
by_setting P s power max turns rounds load Turns = turns
by_setting P s power max turns rounds load Rounds = rounds
by_setting P s power max turns rounds load Load = load

-- a line is its words and the spaces between them
pub line_of_words : (line : List ℕ) (ws : List (List ℕ)) → tokens line ≡ ws → line ≡ join_with_byte 32 ws
line_of_words line ws e = sym (join_with_byte-slice_split 32 line) ∙ ap (join_with_byte 32) e

abbrev gives_number : Setting → List ℕ → Bool
gives_number setting line = is_some (number_given setting (tokens line))

keys_given_none : (k : Keys) (t : Setting) → bytes_eq (first_word (keys_line k)) (word_of t) ≡ gives_number t (keys_line k)
keys_given_none Num = by_setting (λ t. bytes_eq (first_word (keys_line Num)) (word_of t) ≡ gives_number t (keys_line Num)) refl refl refl refl refl refl
keys_given_none Text = by_setting (λ t. bytes_eq (first_word (keys_line Text)) (word_of t) ≡ gives_number t (keys_line Text)) refl refl refl refl refl refl

some_if : (b : Bool) (n : ℕ) → b ≡ is_some (cond b (Some n) None)
some_if true n = refl
some_if false n = refl

-- a setting's line has the name of a setting just where it gives it a number
pub given_line : (v : Version) (line : List ℕ) (t : Setting) → IsSetting v line → bytes_eq (first_word line) (word_of t) ≡ gives_number t line
given_line v line t (inl h) = ap (λ (l : List ℕ). bytes_eq (first_word l) (word_of t)) h.1 ∙ keys_given_none h.0 t ∙ ap (gives_number t) (sym h.1)
given_line v line t (inr h) =
    let gives = h.2 in
    rw (gives.1, number_at-of gives.0 h.1 gives.2) (some_if (bytes_eq (word_of h.0) (word_of t)) h.1)

abbrev gives_keys : List ℕ → Bool
gives_keys line = is_some (keys_given (tokens line))

pub not_keys : (t : Setting) → bytes_eq (word_of t) (codes "keys") ≡ false
not_keys = by_setting (λ t. bytes_eq (word_of t) (codes "keys") ≡ false) refl refl refl refl refl refl

no_keys_word : (t : Setting) (word : List ℕ) → keys_given (word_of t ∷ word ∷ []) ≡ None
no_keys_word t word = by_setting (λ u. keys_given (word_of u ∷ word ∷ []) ≡ None) refl refl refl refl refl refl t

own_keys : (k : Keys) → bytes_eq (first_word (keys_line k)) (codes "keys") ≡ gives_keys (keys_line k)
own_keys Num = refl
own_keys Text = refl

pub keys_of_line : (v : Version) (line : List ℕ) → IsSetting v line → bytes_eq (first_word line) (codes "keys") ≡ gives_keys line
keys_of_line v line (inl h) = ap (λ (l : List ℕ). bytes_eq (first_word l) (codes "keys")) h.1 ∙ own_keys h.0 ∙ ap gives_keys (sym h.1)
keys_of_line v line (inr h) = let gives = h.2 in rw gives.1 (not_keys h.0 ∙ sym (ap is_some (no_keys_word h.0 gives.0)))

abbrev second_of : List (List ℕ) → Bool
second_of (a ∷ b ∷ ws) = true
second_of ws = false

two_words : (v : Version) (line : List ℕ) → IsSetting v line → second_of (tokens line) ≡ true
two_words v line (inl (Num, e)) = ap (λ (l : List ℕ). second_of (tokens l)) e
two_words v line (inl (Text, e)) = ap (λ (l : List ℕ). second_of (tokens l)) e
two_words v line (inr h) = ap second_of (h.2).1

one_word : (line word : List ℕ) → second_of (tokens word) ≡ false → second_of (tokens line) ≡ true → bytes_eq line word ≡ false
one_word line word one two = bytes_eq-no line word (λ e. false≢true (sym one ∙ ap (λ (l : List ℕ). second_of (tokens l)) (sym e) ∙ two))

pub no_worker : (v : Version) (line : List ℕ) → IsSetting v line → is_worker line ≡ false
no_worker v line h = one_word line (codes "worker") refl (two_words v line h)

pub no_end : (v : Version) (line : List ℕ) → IsSetting v line → is_end line ≡ false
no_end v line h = one_word line (codes "end") refl (two_words v line h)

-- Many lines.

or_some : {A : Type 0} (a b : Option A) → (is_some a || is_some b) ≡ is_some (option_or a b)
or_some None b = refl
or_some (Some x) b = refl

found_given : (v : Version) (t : Setting) (lines : List (List ℕ)) → All (IsSetting v) lines → is_given (word_of t) lines ≡ is_some (number_found t lines)
found_given v t [] each = refl
found_given v t (line ∷ lines) each =
    rw (given_line v line t (All-head (IsSetting v) line lines each), found_given v t lines (All-tail (IsSetting v) line lines each)) (or_some (number_given t (tokens line)) (number_found t lines))

found_keys : (v : Version) (lines : List (List ℕ)) → All (IsSetting v) lines → is_given (codes "keys") lines ≡ is_some (keys_found lines)
found_keys v [] each = refl
found_keys v (line ∷ lines) each =
    rw (keys_of_line v line (All-head (IsSetting v) line lines each), found_keys v lines (All-tail (IsSetting v) line lines each)) (or_some (keys_given (tokens line)) (keys_found lines))

or_or : {A : Type 0} (a b c : Option A) → option_or a (option_or b c) ≡ option_or (option_or a b) c
or_or None b c = refl
or_or (Some x) b c = refl

or_none : {A : Type 0} (a : Option A) → option_or a None ≡ a
or_none None = refl
or_none (Some x) = refl

number_found-push : (t : Setting) (lines : List (List ℕ)) (line : List ℕ) → number_found t (lines ++ line ∷ []) ≡ option_or (number_found t lines) (number_given t (tokens line))
number_found-push t [] line = or_none (number_given t (tokens line))
number_found-push t (l ∷ lines) line = ap (option_or (number_given t (tokens l))) (number_found-push t lines line) ∙ or_or (number_given t (tokens l)) (number_found t lines) (number_given t (tokens line))

keys_found-push : (lines : List (List ℕ)) (line : List ℕ) → keys_found (lines ++ line ∷ []) ≡ option_or (keys_found lines) (keys_given (tokens line))
keys_found-push [] line = or_none (keys_given (tokens line))
keys_found-push (l ∷ lines) line = ap (option_or (keys_given (tokens l))) (keys_found-push lines line) ∙ or_or (keys_given (tokens l)) (keys_found lines) (keys_given (tokens line))

unwrap_or-or : (a b : Option ℕ) (d : ℕ) → unwrap_or a (unwrap_or b d) ≡ unwrap_or (option_or a b) d
unwrap_or-or None b d = refl
unwrap_or-or (Some x) b d = refl

number_in-found : (t : Setting) (lines : List (List ℕ)) → number_in t lines ≡ unwrap_or (number_found t lines) (default_of t)
number_in-found t [] = refl
number_in-found t (line ∷ lines) = ap (unwrap_or (number_given t (tokens line))) (number_in-found t lines) ∙ unwrap_or-or (number_given t (tokens line)) (number_found t lines) (default_of t)

-- The first line.

header_gives : (v : Version) (t : Setting) → number_given t (tokens (header_of v)) ≡ None
header_gives One = by_setting (λ t. number_given t (tokens (header_of One)) ≡ None) refl refl refl refl refl refl
header_gives Two = by_setting (λ t. number_given t (tokens (header_of Two)) ≡ None) refl refl refl refl refl refl

pub header_name : (v : Version) (t : Setting) → bytes_eq (first_word (header_of v)) (word_of t) ≡ false
header_name One = by_setting (λ t. bytes_eq (first_word (header_of One)) (word_of t) ≡ false) refl refl refl refl refl refl
header_name Two = by_setting (λ t. bytes_eq (first_word (header_of Two)) (word_of t) ≡ false) refl refl refl refl refl refl

pub header_keys : (v : Version) → bytes_eq (first_word (header_of v)) (codes "keys") ≡ false
header_keys One = refl
header_keys Two = refl

pub header_version : (v : Version) (lines : List (List ℕ)) → version_in (header_of v ∷ lines) ≡ v
header_version One lines = refl
header_version Two lines = refl

header_no : (v : Version) → (is_worker (header_of v) ≡ false) × (is_end (header_of v) ≡ false)
header_no One = (refl, refl)
header_no Two = (refl, refl)

-- What is known behind lines of settings.

module _ (g : Found) (lines : List (List ℕ)) (given : AreGiven g lines) where
  pub given_version : version_in lines ≡ g.version
  given_version = ap version_in given.whole ∙ header_version g.version given.settings

  pub given_before : (list_any is_worker lines ≡ false) × (list_any is_end lines ≡ false)
  given_before =
      let no = header_no g.version in (
        ap (list_any is_worker) given.whole ∙ rw no.0 (list_any_none is_worker given.settings (All-weaker (IsSetting g.version) _ (no_worker g.version) given.settings given.each)),
        ap (list_any is_end) given.whole ∙ rw no.1 (list_any_none is_end given.settings (All-weaker (IsSetting g.version) _ (no_end g.version) given.settings given.each)),
      )

  pub given_some : (t : Setting) → is_given (word_of t) lines ≡ is_some (given_to g t)
  given_some t =
      ap (is_given (word_of t)) given.whole ∙ rw (header_name g.version t) (found_given g.version t given.settings given.each) ∙ ap is_some (sym (given.numbers t))

  pub given_keys : is_given (codes "keys") lines ≡ is_some g.keys
  given_keys = ap (is_given (codes "keys")) given.whole ∙ rw (header_keys g.version) (found_keys g.version given.settings given.each) ∙ ap is_some (sym given.keys)

  given_number : (t : Setting) → number_in t lines ≡ value_of g t
  given_number t =
      ap (number_in t) given.whole ∙ rw (header_gives g.version t) (number_in-found t given.settings) ∙ ap (λ (o : Option ℕ). unwrap_or o (default_of t)) (sym (given.numbers t))

  pub given_fit : do_fit lines ≡ do_given_fit g
  given_fit = rw (given_number S, given_number Power, given_number Max) refl

-- Faults: those of the code are the first ones.

keys_table : (g : Found) (a b : Bool) → result_err (take_keys g (cond a (Some Num) (cond b (Some Text) None))) ≡ cond ((a || b) && not (is_some g.keys)) None (Some is.Setting)
keys_table g true b = elim (cases_Bool (is_some g.keys)) [ inl h ↦ rw h refl | inr h ↦ rw h refl ]
keys_table g false true = elim (cases_Bool (is_some g.keys)) [ inl h ↦ rw h refl | inr h ↦ rw h refl ]
keys_table g false false = refl

range_table : (b : Bool) (h : Found) → result_err (cond b (Err is.Setting) (ok_line h)) ≡ cond b (Some is.Setting) None
range_table true h = refl
range_table false h = refl

setting_same : (g : Found) (lines : List (List ℕ)) → AreGiven g lines → (t : Option Setting) (n : Option ℕ) → result_err (take_setting g t n) ≡ setting_fault lines t n
setting_same g lines given None n = refl
setting_same g lines given (Some t) None = refl
setting_same g lines given (Some t) (Some n) =
    rw (given_some g lines given t, given_version g lines given) (range_table (is_some (given_to g t) || nat_lt n (least_of t) || nat_lt (most_of g.version t) n) (with_number g t n))

keys_same : (g : Found) (lines : List (List ℕ)) → AreGiven g lines → (name word : List ℕ) → name ≡ codes "keys"
    → result_err (take_keys g (keys_at word)) ≡ cond ((bytes_eq word (codes "num") || bytes_eq word (codes "text")) && not (is_given name lines)) None (Some is.Setting)
keys_same g lines given name word e =
    let told : is_given name lines ≡ is_some g.keys = ap (λ (w : List ℕ). is_given w lines) e ∙ given_keys g lines given in
    rw told (keys_table g (bytes_eq word (codes "num")) (bytes_eq word (codes "text")))

pub words_same : (g : Found) (lines : List (List ℕ)) → AreGiven g lines → (ws : List (List ℕ)) → result_err (take_words g ws) ≡ settings_fault lines ws
words_same g lines given [] = refl
words_same g lines given (name ∷ []) = refl
words_same g lines given (name ∷ word ∷ []) =
    elim (cases_Bool (is_empty word)) [
      | inl none ↦ rw none refl
      | inr some ↦ elim (cases_Bool (bytes_eq name (codes "keys"))) [
        | inl h ↦ rw (some, h) (keys_same g lines given name word (same_bytes name (codes "keys") h))
        | inr h ↦ rw (some, h) (setting_same g lines given (setting_at name) (number_at word))
      ]
    ]
words_same g lines given (name ∷ a ∷ b ∷ words) = refl

-- A line that is taken.

module _ (g : Found) (lines : List (List ℕ)) (given : AreGiven g lines) (line : List ℕ) where
  -- no earlier line has this name
  is_new : (name : List ℕ) → is_given name lines ≡ false → first_word line ≡ name
      → AllPairs (λ l other. ¬ (first_word l ≡ first_word other)) (given.settings ++ line ∷ [])
  is_new name none named =
      let later : is_given name given.settings ≡ false = (or_no (bytes_eq (first_word (header_of g.version)) name) (is_given name given.settings) (sym (ap (is_given name) given.whole) ∙ none)).1 in
      all_pairs_push (λ l other. ¬ (first_word l ≡ first_word other)) given.settings line given.once
      (λ k d lt same. false≢true (sym later ∙ list_any_at (λ l. bytes_eq (first_word l) name) given.settings k d lt (bytes_eq-refl (first_word (get_or given.settings k d)) name (same ∙ named))))

  pushed : (v : Version) → v ≡ g.version → lines ++ line ∷ [] ≡ header_of v ∷ (given.settings ++ line ∷ [])
  pushed v same = ap (λ (ls : List (List ℕ)). ls ++ line ∷ []) given.whole ∙ ap (λ (w : Version). header_of w ∷ (given.settings ++ line ∷ [])) (sym same)

abbrev has_text : List (List ℕ) → Bool
has_text lines = list_any (λ line. bytes_eq line (keys_line Text)) lines

number_version : (g : Found) (t : Setting) (n : ℕ) → (with_number g t n).version ≡ g.version
number_version g t n = by_setting (λ u. (with_number g u n).version ≡ g.version) refl refl refl refl refl refl t

number_keys : (g : Found) (t : Setting) (n : ℕ) → (with_number g t n).keys ≡ g.keys
number_keys g t n = by_setting (λ u. (with_number g u n).keys ≡ g.keys) refl refl refl refl refl refl t

number_put : (g : Found) (t : Setting) (n : ℕ) (u : Setting) → given_to (with_number g t n) u ≡ cond (bytes_eq (word_of t) (word_of u)) (Some n) (given_to g u)
number_put g S n S = refl
number_put g Power n Power = refl
number_put g Max n Max = refl
number_put g Turns n Turns = refl
number_put g Rounds n Rounds = refl
number_put g Load n Load = refl
number_put g t n u = refl

same_word : (t u : Setting) → bytes_eq (word_of t) (word_of u) ≡ true → t ≡ u
same_word S S e = refl
same_word Power Power e = refl
same_word Max Max e = refl
same_word Turns Turns e = refl
same_word Rounds Rounds e = refl
same_word Load Load e = refl
same_word t u e = absurd (false≢true e)

pub no_option : {X : Type 0} (o : Option X) → is_some o ≡ false → o ≡ None
no_option None e = refl
no_option (Some x) e = absurd (false≢true (sym e))

or_false : (b : Bool) → (b || (false || false)) ≡ b
or_false true = refl
or_false false = refl

pub keys_in-push : (lines : List (List ℕ)) (line : List ℕ) (k : Keys) → keys_in lines ≡ k → bytes_eq line (keys_line Text) ≡ false → keys_in (lines ++ line ∷ []) ≡ k
keys_in-push lines line k before other =
    rw (list_any-append (λ l. bytes_eq l (keys_line Text)) lines (line ∷ []), other) (rw or_false before)

number_more : (g : Found) (settings : List (List ℕ)) (line word : List ℕ) (t : Setting) (n : ℕ) (u : Setting) → tokens line ≡ word_of t ∷ word ∷ [] → number_at word ≡ Some n
    → given_to g t ≡ None → given_to g t ≡ number_found t settings → given_to g u ≡ number_found u settings
    → cond (bytes_eq (word_of t) (word_of u)) (Some n) (given_to g u) ≡ option_or (number_found u settings) (number_given u (tokens line))
number_more g settings line word t n u words number none first other =
    elim (cases_Bool (bytes_eq (word_of t) (word_of u))) [
      | inl h ↦
          let empty : number_found u settings ≡ None = sym (subst (λ (s : Setting). given_to g s ≡ number_found s settings) (same_word t u h) first) ∙ subst (λ (s : Setting). given_to g s ≡ None) (same_word t u h) none in
          rw (h, empty, words, h, number) refl
      | inr h ↦ rw (h, words, h, other) (sym (or_none (number_found u settings)))
    ]

setting_put : (g : Found) (lines : List (List ℕ)) → AreGiven g lines → (line word : List ℕ) (t : Setting) (n : ℕ) → tokens line ≡ word_of t ∷ word ∷ [] → number_at word ≡ Some n
    → given_to g t ≡ None → least_of t ≤ n → n ≤ most_of g.version t → AreGiven (with_number g t n) (lines ++ line ∷ [])
setting_put g lines given line word t n words number none least most =
    let v = g.version in
    let is_setting : IsSetting v line = inr (t, n, (word, words, number_some word n number), least, most) in
    let version = number_version g t n in
    let named : first_word line ≡ word_of t = ap first_of words in
    let is_none : is_given (word_of t) lines ≡ false = given_some g lines given t ∙ ap is_some none in
    let no_text : bytes_eq line (keys_line Text) ≡ false = bytes_eq-no line (keys_line Text) (λ e. false≢true (sym (not_keys t) ∙ ap (λ (w : List ℕ). bytes_eq w (codes "keys")) (sym named ∙ ap first_word e))) in
    record {
      settings = given.settings ++ line ∷ [];
      whole = pushed g lines given line (with_number g t n).version version;
      each = subst (λ (w : Version). All (IsSetting w) (given.settings ++ line ∷ [])) (sym version) (All-push (IsSetting v) given.settings line given.each is_setting);
      once = is_new g lines given line (word_of t) is_none named;
      numbers = λ u. number_put g t n u ∙ number_more g given.settings line word t n u words number none (given.numbers t) (given.numbers u) ∙ sym (number_found-push u given.settings line);
      keys = number_keys g t n ∙ given.keys ∙ sym (keys_found-push given.settings line ∙ ap (λ (ws : List (List ℕ)). option_or (keys_found given.settings) (keys_given ws)) words ∙ ap (option_or (keys_found given.settings)) (no_keys_word t word) ∙ or_none (keys_found given.settings));
      keys_are = keys_in-push lines line (keys_of (with_number g t n)) (given.keys_are ∙ ap (λ (o : Option Keys). unwrap_or o Num) (sym (number_keys g t n))) no_text;
    }

keys_some : (word : List ℕ) (k : Keys) → keys_at word ≡ Some k → (name : List ℕ) → name ≡ codes "keys" → join_with_byte 32 (name ∷ word ∷ []) ≡ keys_line k
keys_some word k e name named =
    elim (chosen (bytes_eq word (codes "num")) (Some Num) (cond (bytes_eq word (codes "text")) (Some Text) None) (Some k) e) [
      | inl h ↦ ap (λ (w : List ℕ). join_with_byte 32 (w ∷ word ∷ [])) named ∙ ap (λ (w : List ℕ). join_with_byte 32 (codes "keys" ∷ w ∷ [])) (same_bytes word (codes "num") h.0) ∙ ap keys_line (some_is Num k h.1)
      | inr h ↦ elim (chosen (bytes_eq word (codes "text")) (Some Text) None (Some k) h.1) [
        | inl h ↦ ap (λ (w : List ℕ). join_with_byte 32 (w ∷ word ∷ [])) named ∙ ap (λ (w : List ℕ). join_with_byte 32 (codes "keys" ∷ w ∷ [])) (same_bytes word (codes "text") h.0) ∙ ap keys_line (some_is Text k h.1)
        | inr h ↦ absurd (let no = h.1 in cc)
      ]
    ]

pub line_keys : (k : Keys) → keys_given (tokens (keys_line k)) ≡ Some k
line_keys Num = refl
line_keys Text = refl

pub line_name : (k : Keys) → first_word (keys_line k) ≡ codes "keys"
line_name Num = refl
line_name Text = refl

keys_no : (u : Setting) → bytes_eq (codes "keys") (word_of u) ≡ false
keys_no = by_setting (λ u. bytes_eq (codes "keys") (word_of u) ≡ false) refl refl refl refl refl refl

line_names : (k : Keys) (u : Setting) → bytes_eq (first_word (keys_line k)) (word_of u) ≡ false
line_names k u = ap (λ (w : List ℕ). bytes_eq w (word_of u)) (line_name k) ∙ keys_no u

num_no_text : (b : Bool) → cond b Text Num ≡ Num → b ≡ false
num_no_text true e = absurd cc
num_no_text false e = refl

no_text_before : (lines : List (List ℕ)) → keys_in lines ≡ Num → has_text lines ≡ false
no_text_before lines e = num_no_text (has_text lines) e

line_numbers : (k : Keys) (u : Setting) → number_given u (tokens (keys_line k)) ≡ None
line_numbers k u = no_option (number_given u (tokens (keys_line k))) (sym (keys_given_none k u) ∙ line_names k u)

line_text : (k : Keys) (rest : Bool) → cond (rest || (bytes_eq (keys_line k) (keys_line Text) || false)) Text Num ≡ cond rest Text k
line_text Num true = refl
line_text Num false = refl
line_text Text true = refl
line_text Text false = refl

keys_put : (g : Found) (lines : List (List ℕ)) → AreGiven g lines → (line : List ℕ) (k : Keys) → line ≡ keys_line k → g.keys ≡ None → AreGiven (with_keys g k) (lines ++ line ∷ [])
keys_put g lines given line k is_line none =
    let v = g.version in
    let words : tokens line ≡ tokens (keys_line k) = ap tokens is_line in
    let named : first_word line ≡ codes "keys" = ap first_word is_line ∙ line_name k in
    let is_none : is_given (codes "keys") lines ≡ false = given_keys g lines given ∙ ap is_some none in
    let no_text : has_text lines ≡ false = no_text_before lines (given.keys_are ∙ ap (λ (o : Option Keys). unwrap_or o Num) none) in
    record {
      settings = given.settings ++ line ∷ [];
      whole = pushed g lines given line v refl;
      each = All-push (IsSetting v) given.settings line given.each (inl (k, is_line));
      once = is_new g lines given line (codes "keys") is_none named;
      numbers = λ u. given.numbers u ∙ sym (number_found-push u given.settings line ∙ ap (λ (ws : List (List ℕ)). option_or (number_found u given.settings) (number_given u ws)) words ∙ ap (option_or (number_found u given.settings)) (line_numbers k u) ∙ or_none (number_found u given.settings));
      keys = sym (keys_found-push given.settings line ∙ ap (λ (o : Option Keys). option_or o (keys_given (tokens line))) (sym given.keys ∙ none) ∙ ap keys_given words ∙ line_keys k);
      keys_are = rw (list_any-append (λ l. bytes_eq l (keys_line Text)) lines (line ∷ []), no_text, is_line) (line_text k false);
    }

keys_taken : (g : Found) (o : Option Keys) (h : Found) → take_keys g o ≡ Ok h → (k : Keys) × (o ≡ Some k) × (g.keys ≡ None) × (with_keys g k ≡ h)
keys_taken g None h e = absurd cc
keys_taken g (Some k) h e = let b = guard_ok (is_some g.keys) is.Setting (ok_line (with_keys g k)) h e in (k, refl, no_option g.keys b.0, ok_is (with_keys g k) h b.1)

setting_taken : (g : Found) (o : Option Setting) (m : Option ℕ) (h : Found) → take_setting g o m ≡ Ok h
    → (t : Setting) × (n : ℕ) × (o ≡ Some t) × (m ≡ Some n) × (given_to g t ≡ None) × (least_of t ≤ n) × (n ≤ most_of g.version t) × (with_number g t n ≡ h)
setting_taken g None m h e = absurd cc
setting_taken g (Some t) None h e = absurd cc
setting_taken g (Some t) (Some n) h e =
    let b = guard_ok (is_some (given_to g t) || nat_lt n (least_of t) || nat_lt (most_of g.version t) n) is.Setting (ok_line (with_number g t n)) h e in
    let c = or_no _ _ b.0 in
    let d = or_no _ _ c.0 in
    (t, n, refl, refl, no_option (given_to g t) d.0, ltb-false n (least_of t) d.1, ltb-false (most_of g.version t) n c.1, ok_is (with_number g t n) h b.1)

-- the setting that a name is found to be has this name
setting_name : (name : List ℕ) (t : Setting) → setting_at name ≡ Some t → name ≡ word_of t
setting_name name t e =
    let P : Setting → Type 0 = λ u. name ≡ word_of u in
    elim (chosen (bytes_eq name (codes "s")) (Some S) _ (Some t) e) [
      | inl h ↦ subst P (some_is S t h.1) (same_bytes name (codes "s") h.0)
      | inr h ↦ elim (chosen (bytes_eq name (codes "power")) (Some Power) _ (Some t) h.1) [
        | inl h ↦ subst P (some_is Power t h.1) (same_bytes name (codes "power") h.0)
        | inr h ↦ elim (chosen (bytes_eq name (codes "max")) (Some Max) _ (Some t) h.1) [
          | inl h ↦ subst P (some_is Max t h.1) (same_bytes name (codes "max") h.0)
          | inr h ↦ elim (chosen (bytes_eq name (codes "turns")) (Some Turns) _ (Some t) h.1) [
            | inl h ↦ subst P (some_is Turns t h.1) (same_bytes name (codes "turns") h.0)
            | inr h ↦ elim (chosen (bytes_eq name (codes "rounds")) (Some Rounds) _ (Some t) h.1) [
              | inl h ↦ subst P (some_is Rounds t h.1) (same_bytes name (codes "rounds") h.0)
              | inr h ↦ elim (chosen (bytes_eq name (codes "load")) (Some Load) None (Some t) h.1) [
                | inl h ↦ subst P (some_is Load t h.1) (same_bytes name (codes "load") h.0)
                | inr h ↦ absurd (let no = h.1 in cc)
              ]
            ]
          ]
        ]
      ]
    ]

pub given_next : (g h : Found) (lines : List (List ℕ)) (line : List ℕ) → AreGiven g lines → (ws : List (List ℕ)) → tokens line ≡ ws → take_words g ws ≡ Ok h → AreGiven h (lines ++ line ∷ [])
given_next g h lines line given [] words e = absurd cc
given_next g h lines line given (name ∷ []) words e = absurd cc
given_next g h lines line given (name ∷ a ∷ b ∷ ws) words e = absurd cc
given_next g h lines line given (name ∷ word ∷ []) words e =
    let b = guard_ok (is_empty word) is.Command (cond (bytes_eq name (codes "keys")) (take_keys g (keys_at word)) (take_setting g (setting_at name) (number_at word))) h e in
    elim (chosen (bytes_eq name (codes "keys")) (take_keys g (keys_at word)) (take_setting g (setting_at name) (number_at word)) (Ok h) b.1) [
      | inl k ↦
          let t = keys_taken g (keys_at word) h k.1 in
          subst (λ (f : Found). AreGiven f (lines ++ line ∷ [])) t.3 (keys_put g lines given line t.0 (line_of_words line (name ∷ word ∷ []) words ∙ keys_some word t.0 t.1 name (same_bytes name (codes "keys") k.0)) t.2)
      | inr k ↦
          let t = setting_taken g (setting_at name) (number_at word) h k.1 in
          let named : name ≡ word_of t.0 = setting_name name t.0 t.2 in
          subst (λ (f : Found). AreGiven f (lines ++ line ∷ [])) t.7 (setting_put g lines given line word t.0 t.1 (words ∙ ap (λ (w : List ℕ). w ∷ word ∷ []) named) t.3 t.4 t.5 t.6)
    ]

-- Behind line 1 nothing is given.
pub given_first : (v : Version) → AreGiven (none_given v) (header_of v ∷ [])
given_first One = record { settings = []; whole = refl; each = All-nil (IsSetting One); once = λ i j d lt below. absurd (omega arith); numbers = elim [ S ↦ refl | Power ↦ refl | Max ↦ refl | Turns ↦ refl | Rounds ↦ refl | Load ↦ refl ]; keys = refl; keys_are = refl }
given_first Two = record { settings = []; whole = refl; each = All-nil (IsSetting Two); once = λ i j d lt below. absurd (omega arith); numbers = elim [ S ↦ refl | Power ↦ refl | Max ↦ refl | Turns ↦ refl | Rounds ↦ refl | Load ↦ refl ]; keys = refl; keys_are = refl }

-- The settings are set.

module _ (v : Version) where
  same_line : (line : List ℕ) (t : Setting) → IsSetting v line → number_given t (tokens line) ≡ None → ¬ (first_word line ≡ word_of t)
  same_line line t h none = λ named. false≢true (sym (given_line v line t h ∙ ap is_some none) ∙ bytes_eq-refl (first_word line) (word_of t) named)

  number_words : (line : List ℕ) (t : Setting) (n : ℕ) → (ws : List (List ℕ)) → tokens line ≡ ws → number_given t ws ≡ Some n → Gives t n line
  number_words line t n [] words e = absurd cc
  number_words line t n (name ∷ []) words e = absurd cc
  number_words line t n (name ∷ a ∷ b ∷ ws) words e = absurd cc
  number_words line t n (name ∷ word ∷ []) words e =
      elim (chosen (bytes_eq name (word_of t)) (number_at word) None (Some n) e) [
        | inl h ↦ (word, words ∙ ap (λ (w : List ℕ). w ∷ word ∷ []) (same_bytes name (word_of t) h.0), number_some word n h.1)
        | inr h ↦ absurd (let no = h.1 in cc)
      ]

  any_there : (P : List ℕ → Type 0) (line : List ℕ) (lines : List (List ℕ)) → Any P lines → Any P (line ∷ lines)
  any_there P line lines h = (suc h.0, h.1, omega arith, h.3, h.4)

  set_to_by : (t : Setting) (line : List ℕ) (lines : List (List ℕ)) → IsSetting v line → (o : Option ℕ) → number_given t (tokens line) ≡ o → IsSetTo lines t (unwrap_or (number_found t lines) (default_of t))
      → IsSetTo (line ∷ lines) t (unwrap_or (option_or o (number_found t lines)) (default_of t))
  set_to_by t line lines h (Some n) e later = inl (0, line, omega arith, refl, number_words line t n (tokens line) refl e)
  set_to_by t line lines h None e (inl later) = inl (any_there (Gives t (unwrap_or (number_found t lines) (default_of t))) line lines later)
  set_to_by t line lines h None e (inr later) = inr (All-cons (λ l. ¬ (first_word l ≡ word_of t)) line lines (same_line line t h e) later.0, later.1)

  set_to : (t : Setting) (lines : List (List ℕ)) → All (IsSetting v) lines → IsSetTo lines t (unwrap_or (number_found t lines) (default_of t))
  set_to t [] each = inr (All-nil (λ line. ¬ (first_word line ≡ word_of t)), refl)
  set_to t (line ∷ lines) each = set_to_by t line lines (All-head (IsSetting v) line lines each) (number_given t (tokens line)) refl (set_to t lines (All-tail (IsSetting v) line lines each))

  keys_words : (line : List ℕ) (k : Keys) (ws : List (List ℕ)) → tokens line ≡ ws → keys_given ws ≡ Some k → line ≡ keys_line k
  keys_words line k [] words e = absurd cc
  keys_words line k (name ∷ []) words e = absurd cc
  keys_words line k (name ∷ a ∷ b ∷ ws) words e = absurd cc
  keys_words line k (name ∷ word ∷ []) words e =
      elim (chosen (bytes_eq name (codes "keys")) (keys_at word) None (Some k) e) [
        | inl h ↦ line_of_words line (name ∷ word ∷ []) words ∙ keys_some word k h.1 name (same_bytes name (codes "keys") h.0)
        | inr h ↦ absurd (let no = h.1 in cc)
      ]

  said_by_line : (line : List ℕ) (lines : List (List ℕ)) → IsSetting v line → (o : Option Keys) → keys_given (tokens line) ≡ o → AreKeys lines (unwrap_or (keys_found lines) Num)
      → AreKeys (line ∷ lines) (unwrap_or (option_or o (keys_found lines)) Num)
  said_by_line line lines h (Some k) e later = inl (0, line, omega arith, refl, keys_words line k (tokens line) refl e)
  said_by_line line lines h None e (inl later) = inl (any_there (λ l. l ≡ keys_line (unwrap_or (keys_found lines) Num)) line lines later)
  said_by_line line lines h None e (inr later) =
      let other : ¬ (first_word line ≡ codes "keys") = λ named. false≢true (sym (keys_of_line v line h ∙ ap is_some e) ∙ bytes_eq-refl (first_word line) (codes "keys") named) in
      inr (All-cons (λ l. ¬ (first_word l ≡ codes "keys")) line lines other later.0, later.1)

  keys_said : (lines : List (List ℕ)) → All (IsSetting v) lines → AreKeys lines (unwrap_or (keys_found lines) Num)
  keys_said [] each = inr (All-nil (λ line. ¬ (first_word line ≡ codes "keys")), refl)
  keys_said (line ∷ lines) each = said_by_line line lines (All-head (IsSetting v) line lines each) (keys_given (tokens line)) refl (keys_said lines (All-tail (IsSetting v) line lines each))

not_yes : (b : Bool) → not b ≡ true → b ≡ false
not_yes true e = absurd (false≢true e)
not_yes false e = refl

pub given_settings : (g : Found) (lines : List (List ℕ)) (given : AreGiven g lines) → do_given_fit g ≡ true → AreSettings g.version given.settings (keys_of g) (settings_of g 1)
given_settings g lines given fit =
    let set : (t : Setting) → IsSetTo given.settings t (value_of g t) = λ t. subst (λ (o : Option ℕ). IsSetTo given.settings t (unwrap_or o (default_of t))) (sym (given.numbers t)) (set_to g.version t given.settings given.each) in
    let fits = and_both _ _ fit in
    record {
      each = given.each;
      once = given.once;
      keys_are = subst (λ (o : Option Keys). AreKeys given.settings (unwrap_or o Num)) (sym given.keys) (keys_said g.version given.settings given.each);
      s = set S;
      power = set Power;
      max = set Max;
      turns = set Turns;
      rounds = set Rounds;
      load = set Load;
      stripes_fit = ltb-false (value_of g Power) (value_of g S) (not_yes _ fits.0);
      growth = ltb-false (value_of g Max) (value_of g Power) (not_yes _ fits.1);
    }

-- How much is given.

count_number : (g : Found) (t : Setting) (n : ℕ) → given_to g t ≡ None → count_of (with_number g t n) ≡ count_of g + 1
count_number g S n none = let zero_of : one_if_some g.s ≡ 0 = ap one_if_some none in omega arith
count_number g Power n none = let zero_of : one_if_some g.power ≡ 0 = ap one_if_some none in omega arith
count_number g Max n none = let zero_of : one_if_some g.max ≡ 0 = ap one_if_some none in omega arith
count_number g Turns n none = let zero_of : one_if_some g.turns ≡ 0 = ap one_if_some none in omega arith
count_number g Rounds n none = let zero_of : one_if_some g.rounds ≡ 0 = ap one_if_some none in omega arith
count_number g Load n none = let zero_of : one_if_some g.load ≡ 0 = ap one_if_some none in omega arith

pub count_next : (g h : Found) (ws : List (List ℕ)) → take_words g ws ≡ Ok h → count_of h ≡ count_of g + 1
count_next g h [] e = absurd cc
count_next g h (name ∷ []) e = absurd cc
count_next g h (name ∷ a ∷ b ∷ ws) e = absurd cc
count_next g h (name ∷ word ∷ []) e =
    let b = guard_ok (is_empty word) is.Command (cond (bytes_eq name (codes "keys")) (take_keys g (keys_at word)) (take_setting g (setting_at name) (number_at word))) h e in
    elim (chosen (bytes_eq name (codes "keys")) (take_keys g (keys_at word)) (take_setting g (setting_at name) (number_at word)) (Ok h) b.1) [
      | inl k ↦ let t = keys_taken g (keys_at word) h k.1 in let zero_of : one_if_some g.keys ≡ 0 = ap one_if_some t.2 in sym (ap count_of t.3) ∙ omega arith
      | inr k ↦ let t = setting_taken g (setting_at name) (number_at word) h k.1 in sym (ap count_of t.7) ∙ count_number g t.0 t.1 t.4
    ]

one_most : {A : Type 0} (o : Option A) → one_if_some o ≤ 1
one_most None = omega arith
one_most (Some x) = omega arith

pub count_most : (g : Found) → count_of g ≤ 7
count_most g =
    let a = one_most g.keys in
    let b = one_most g.s in
    let c = one_most g.power in
    let d = one_most g.max in
    let e = one_most g.turns in
    let f = one_most g.rounds in
    let h = one_most g.load in
    omega arith
