-- What a command line says: the code's way, the first fault's and the grammar's.
use Rattle.std.proofs.Common.{◌≡◌, ℕ, ◌^◌, ◌<◌, ◌≤◌, Bool, true, false, cond, ltb, eqb, List, [], ◌∷◌, length, Option, Some, None, Result, Ok, Err, refl, sym, ap, subst, ◌∙◌, inl, inr, arith}
use Rattle.std.specs.Prelude.{All, ◌⊎◌, ◌≢◌, ◌&&◌, ◌||◌, codes}
use Rattle.std.specs.List.{list_any, list_all}
use Rattle.std.specs.Option.{ok_or, is_some}
use Rattle.std.specs.Result.{result_err}
use Rattle.std.specs.Str.{bytes_eq, all_ascii_digits}
use Rattle.std.specs.Fmt.{decimal}
use Rattle.std.specs.Str.Parse.{digits_value}
use Rattle.std.proofs.lemmas.Bool.{ltb-true, ltb-false, lt-ltb, le-ltb, false≢true, cases_Bool, false_from_ne_true}
use Rattle.std.proofs.lemmas.Bool.Decides.{nat_tests}
use Rattle.std.proofs.lemmas.Slice.Eq.{bytes_eq-Decides}
use Rattle.std.proofs.lemmas.List.Elements.{All-nil, All-cons, All-head, All-tail}
use Rattle.ck_model.specs.Promise.{Name}
use Rattle.ck_format.specs.declared.script.Version.{Version}
use Rattle.ck_format.specs.declared.script.Version.TheVariants.{One, Two}
use Rattle.ck_format.specs.declared.script.Keys.{Keys}
use Rattle.ck_format.specs.declared.script.Keys.TheVariants.{Num, Text}
use Rattle.ck_format.specs.declared.script.Command.{Command}
use Rattle.ck_format.specs.declared.script.Command.TheVariants.{Find, Has, Insert, Assign, Update, Add, Erase, Len, List as Lists, Move}
use Rattle.ck_format.specs.declared.script.What.{What}
use Rattle.ck_format.specs.declared.script.What.TheVariants as is
use Rattle.ck_format.specs.Script.{on_names}
use Rattle.ck_format.specs.Tokens.{tokens, number_at, begins_as_number, is_printed, IsNumber, IsText, IsKey}
use Rattle.ck_format.specs.Spells.{AreNameAndKey, AreNameAndPair, AreMoveAndTwo, IsCommand}
use Rattle.ck_format.specs.FirstFault.{option_or, is_empty, number_fault, key_fault, Operand, Key, Number, operands_of_move, operands_of, behind_fault, tokens_fault}
use Rattle.ck_format.proofs.Numbers.{written}
use Rattle.ck_format.specs.Parse.{command_at, ◌>>=◌, unless, name_of, WordCommand, number_or_fault, alone_command, key_command, pair_command, with_key, with_pair, number_behind, moved, move_command, has_moves, command_in, SaysOnNames}

-- Small facts.

pub same_bytes : (a b : List ℕ) → bytes_eq a b ≡ true → a ≡ b
same_bytes a b e = (bytes_eq-Decides a b).0 e

pub bytes_eq-refl : (a b : List ℕ) → a ≡ b → bytes_eq a b ≡ true
bytes_eq-refl a b e = (bytes_eq-Decides a b).1 e

pub bytes_eq-no : (a b : List ℕ) → (a ≡ b → ⊥) → bytes_eq a b ≡ false
bytes_eq-no a b h = false_from_ne_true _ (λ e. h (same_bytes a b e))

pub chosen : {X : Type 0} (b : Bool) (x y z : X) → cond b x y ≡ z → ((b ≡ true) × (x ≡ z)) ⊎ ((b ≡ false) × (y ≡ z))
chosen true x y z e = inl (refl, e)
chosen false x y z e = inr (refl, e)

pub or_no : (a b : Bool) → (a || b) ≡ false → (a ≡ false) × (b ≡ false)
or_no true b e = absurd (false≢true (sym e))
or_no false b e = (refl, e)

pub or_yes : (a b : Bool) → (a || b) ≡ true → (a ≡ true) ⊎ (b ≡ true)
or_yes true b e = inl refl
or_yes false b e = inr e

pub and_both : (a b : Bool) → (a && b) ≡ true → (a ≡ true) × (b ≡ true)
and_both true b e = (refl, e)
and_both false b e = absurd (false≢true e)

pub some_is : {X : Type 0} (a b : X) → let t : Option X = Some a in let u : Option X = Some b in t ≡ u → a ≡ b
some_is a b e = cc

abbrev pub ok_line : {A : Type 0} → A → Result A What
ok_line x = Ok x

pub ok_is : {A : Type 0} (x y : A) → ok_line x ≡ ok_line y → x ≡ y
ok_is x y e = cc

pub bind_ok : {A B E : Type 0} (r : Result A E) (f : A → Result B E) (y : B) → (r >>= f) ≡ Ok y → (x : A) × (r ≡ Ok x) × (f x ≡ Ok y)
bind_ok (Ok x) f y e = (x, refl, e)
bind_ok (Err d) f y e = absurd cc

pub unless_ok : {A : Type 0} (o : Option What) (r : Result A What) (x : A) → unless o r ≡ Ok x → (o ≡ None) × (r ≡ Ok x)
unless_ok None r x e = (refl, e)
unless_ok (Some w) r x e = absurd cc

pub or_ok : {A : Type 0} (o : Option A) (d : What) (x : A) → ok_or o d ≡ Ok x → o ≡ Some x
or_ok (Some y) d x e = cc
or_ok None d x e = absurd cc

pub guard_ok : {A : Type 0} (b : Bool) (d : What) (r : Result A What) (y : A) → cond b (Err d) r ≡ Ok y → (b ≡ false) × (r ≡ Ok y)
guard_ok true d r y e = absurd cc
guard_ok false d r y e = (refl, e)

-- Numbers.

pub number_some : (word : List ℕ) (n : ℕ) → number_at word ≡ Some n → IsNumber word n
number_some word n e =
    elim (chosen (begins_as_number word && all_ascii_digits word && ltb (digits_value 10 word) (2 ^ 64)) (Some (digits_value 10 word)) None (Some n) e) [
      | inl h ↦
          let a = and_both _ _ h.0 in
          let b = and_both _ _ a.0 in
          let same : digits_value 10 word ≡ n = some_is (digits_value 10 word) n h.1 in
          record { begins = b.0; digits = b.1; value = sym same; fits = rw (← same) (ltb-true _ _ a.1) }
      | inr h ↦ absurd cc
    ]

pub number_at-of : (word : List ℕ) (n : ℕ) → IsNumber word n → number_at word ≡ Some n
number_at-of word n h =
    let small : digits_value 10 word < 2 ^ 64 = subst (λ (m : ℕ). m < 2 ^ 64) h.value h.fits in
    rw (h.begins, h.digits, lt-ltb (digits_value 10 word) (2 ^ 64) small) (ap Some (sym h.value))

pub number_or_fault-of : (word : List ℕ) (n : ℕ) → IsNumber word n → number_or_fault word ≡ Ok n
number_or_fault-of word n h = ap (λ (o : Option ℕ). ok_or o is.Number) (number_at-of word n h)

number_law : (word : List ℕ) (n : ℕ) → number_or_fault word ≡ Ok n → IsNumber word n
number_law word n e = number_some word n (or_ok (number_at word) is.Number n e)

some_bytes : (word : List ℕ) → begins_as_number word ≡ true → eqb (length word) 0 ≡ false
some_bytes [] h = absurd (false≢true h)
some_bytes (b ∷ bytes) h = grind (arith, nat_tests)

pub no_empty_number : (word : List ℕ) (n : ℕ) → IsNumber word n → is_empty word ≡ false
no_empty_number word n h = some_bytes word h.begins

some_option : {X : Type 0} (o : Option X) → is_some o ≡ true → (x : X) × (o ≡ Some x)
some_option (Some x) e = (x, refl)
some_option None e = absurd (false≢true e)

-- Keys.

number_key : (word : List ℕ) → number_fault word ≡ None → IsKey Num word (digits_value 10 word ∷ [])
number_key word e =
    elim (chosen (is_some (number_at word)) None (Some is.Number) None e) [
      | inl h ↦ let n = some_option (number_at word) h.0 in let is_number = number_some word n.0 n.1 in
          (n.0, is_number, ap (λ (m : ℕ). m ∷ []) (sym is_number.value))
      | inr h ↦ absurd cc
    ]

all_of_list : (p : ℕ → Bool) (xs : List ℕ) → list_all p xs ≡ true → All (λ x. p x ≡ true) xs
all_of_list p [] e = All-nil (λ x. p x ≡ true)
all_of_list p (x ∷ xs) e = let h = and_both (p x) (list_all p xs) e in All-cons (λ x. p x ≡ true) x xs h.0 (all_of_list p xs h.1)

list_of_all : (p : ℕ → Bool) (xs : List ℕ) → All (λ x. p x ≡ true) xs → list_all p xs ≡ true
list_of_all p [] h = refl
list_of_all p (x ∷ xs) h = rw (All-head (λ x. p x ≡ true) x xs h, list_of_all p xs (All-tail (λ x. p x ≡ true) x xs h)) refl

some_length : (word : List ℕ) → is_empty word ≡ false → 1 ≤ length word
some_length [] e = absurd (false≢true (sym e))
some_length (b ∷ bytes) e = omega arith

text_key : (word : List ℕ) → key_fault Text word ≡ None → is_empty word ≡ false → IsText word
text_key word e some =
    elim (chosen (list_all is_printed word) (cond (ltb 64 (length word)) (Some is.TooLong) None) (Some is.Command) None e) [
      | inl h ↦
          elim (chosen (ltb 64 (length word)) (Some is.TooLong) None None h.1) [
            | inl long ↦ absurd (let no = long.1 in cc)
            | inr short ↦ record { some = some_length word some; short = ltb-false 64 (length word) short.0; printed = all_of_list is_printed word h.0 }
          ]
      | inr h ↦ absurd (let no = h.1 in cc)
    ]

-- a word with which nothing is wrong is the key of its name
pub key_law : (keys : Keys) (word : List ℕ) → key_fault keys word ≡ None → is_empty word ≡ false → IsKey keys word (name_of keys word)
key_law Num word e some = number_key word e
key_law Text word e some = (text_key word e some, refl)

text_some : (word : List ℕ) → 1 ≤ length word → is_empty word ≡ false
text_some [] h = absurd (omega arith)
text_some (b ∷ bytes) h = grind (arith, nat_tests)

-- and only such a word is
pub key_of : (keys : Keys) (word : List ℕ) (q : Name) → IsKey keys word q → (key_fault keys word ≡ None) × (is_empty word ≡ false) × (q ≡ name_of keys word)
key_of Num word q (n, h, e) = (rw (number_at-of word n h) refl, no_empty_number word n h, e ∙ ap (λ (m : ℕ). m ∷ []) h.value)
key_of Text word q (h, e) = (rw (list_of_all is_printed word h.printed, le-ltb 64 (length word) h.short) refl, text_some word h.some, e)

-- Names: what stands behind one that is told from the others.

abbrev Operands : Type 0
Operands = Option (List Operand)

abbrev table : Version → Bool → Bool → Bool → Bool → Operands
table v a b c d = cond a (Some (Key ∷ [])) (cond b (Some (Key ∷ Number ∷ [])) (cond c (Some []) (cond d (operands_of_move v) None)))

other_alone : (v : Version) (keys : Keys) (a b d : Bool) → behind_fault keys (table v a b false d) [] ≡ Some is.Command
other_alone v keys true b d = refl
other_alone v keys false true d = refl
other_alone v keys false false false = refl
other_alone One keys false false true = refl
other_alone Two keys false false true = refl

other_key : (v : Version) (keys : Keys) (b c d : Bool) (x : List ℕ) → behind_fault keys (table v false b c d) (x ∷ []) ≡ Some is.Command
other_key v keys true c d x = refl
other_key v keys false true d x = refl
other_key v keys false false false x = refl
other_key One keys false false true x = refl
other_key Two keys false false true x = refl

other_pair : (v : Version) (keys : Keys) (a c d : Bool) (x y : List ℕ) → behind_fault keys (table v a false c d) (x ∷ y ∷ []) ≡ Some is.Command
other_pair v keys true c d x y = refl
other_pair v keys false true d x y = refl
other_pair v keys false false false x y = refl
other_pair One keys false false true x y = refl
other_pair Two keys false false true x y = refl

other_move : (v : Version) (keys : Keys) (a b c d : Bool) (x y z : List ℕ) → (has_moves v && d) ≡ false → behind_fault keys (table v a b c d) (x ∷ y ∷ z ∷ []) ≡ Some is.Command
other_move v keys true b c d x y z e = refl
other_move v keys false true c d x y z e = refl
other_move v keys false false true d x y z e = refl
other_move v keys false false false false x y z e = refl
other_move One keys false false false true x y z e = refl
other_move Two keys false false false true x y z e = absurd (false≢true (sym e))

other_more : (v : Version) (keys : Keys) (a b c d : Bool) (words : List (List ℕ)) → 3 < length words → behind_fault keys (table v a b c d) words ≡ Some is.Command
other_more v keys true b c d words h = let no : eqb (length words) 1 ≡ false = grind (arith, nat_tests) in rw no refl
other_more v keys false true c d words h = let no : eqb (length words) 2 ≡ false = grind (arith, nat_tests) in rw no refl
other_more v keys false false true d words h = let no : eqb (length words) 0 ≡ false = grind (arith, nat_tests) in rw no refl
other_more v keys false false false false words h = refl
other_more One keys false false false true words h = refl
other_more Two keys false false false true words h = let no : eqb (length words) 3 ≡ false = grind (arith, nat_tests) in rw no refl

-- a name for which a table has a command, and the operands behind it, or a name that none of the table's is
abbrev IsNamed : {A : Type 0} → Version → List ℕ → Option A → List Operand → Type 0
IsNamed {A} v name command operands = (c : A) × (command ≡ Some c) × (operands_of v name ≡ Some operands)

-- the name is this word, for which the table has the command, or another, of which this is known
named : {A Other : Type 0} (v : Version) (name word : List ℕ) (command : List ℕ → Option A) (c : A) (operands : List Operand) → command word ≡ Some c → operands_of v word ≡ Some operands
    → (bytes_eq name word ≡ false → IsNamed v name (command name) operands ⊎ Other) → IsNamed v name (command name) operands ⊎ Other
named v name word command c operands is behind other =
    elim (cases_Bool (bytes_eq name word)) [
      | inl h ↦ let e = same_bytes name word h in inl (c, ap command e ∙ is, ap (operands_of v) e ∙ behind)
      | inr h ↦ other h
    ]

alone_named : (v : Version) (name : List ℕ) → IsNamed v name (alone_command name) [] ⊎ ((alone_command name ≡ None) × ((keys : Keys) → behind_fault keys (operands_of v name) [] ≡ Some is.Command))
alone_named v name =
    named v name (codes "len") alone_command Len [] refl refl (λ a. named v name (codes "list") alone_command Lists [] refl refl (λ b.
    inr (rw (a, b) refl, λ keys. rw (a, b) (other_alone v keys _ _ _))))

key_named : (v : Version) (name : List ℕ) → IsNamed v name (key_command name) (Key ∷ []) ⊎ ((key_command name ≡ None) × ((keys : Keys) (x : List ℕ) → behind_fault keys (operands_of v name) (x ∷ []) ≡ Some is.Command))
key_named v name =
    named v name (codes "find") key_command Find (Key ∷ []) refl refl (λ a. named v name (codes "has") key_command Has (Key ∷ []) refl refl (λ b. named v name (codes "erase") key_command Erase (Key ∷ []) refl refl (λ d.
    inr (rw (a, b, d) refl, λ keys x. rw (a, b, d) (other_key v keys _ _ _ x)))))

pair_named : (v : Version) (name : List ℕ) → IsNamed v name (pair_command name) (Key ∷ Number ∷ []) ⊎ ((pair_command name ≡ None) × ((keys : Keys) (x y : List ℕ) → behind_fault keys (operands_of v name) (x ∷ y ∷ []) ≡ Some is.Command))
pair_named v name =
    named v name (codes "insert") pair_command Insert (Key ∷ Number ∷ []) refl refl (λ a. named v name (codes "assign") pair_command Assign (Key ∷ Number ∷ []) refl refl (λ b.
    named v name (codes "update") pair_command Update (Key ∷ Number ∷ []) refl refl (λ d. named v name (codes "add") pair_command Add (Key ∷ Number ∷ []) refl refl (λ f.
    inr (rw (a, b, d, f) refl, λ keys x y. rw (a, b, d, f) (other_pair v keys _ _ _ x y))))))

-- Faults: those of the code are the first ones.

abbrev SameFault : Version → Keys → List (List ℕ) → Type 0
SameFault v keys ws = result_err (command_in v keys ws) ≡ tokens_fault v keys ws

fault_alone : (v : Version) (keys : Keys) (name : List ℕ) → SameFault v keys (name ∷ [])
fault_alone v keys name =
    elim (alone_named v name) [
      | inl h ↦ rw (h.1, h.2) refl
      | inr h ↦ rw (h.0, h.1 keys) refl
    ]

key_tail : (o : Option What) (c : WordCommand) → result_err (unless o (ok_line c)) ≡ option_or (option_or o None) None
key_tail None c = refl
key_tail (Some w) c = refl

fault_key : (v : Version) (keys : Keys) (name key : List ℕ) → SameFault v keys (name ∷ key ∷ [])
fault_key v keys name key =
    elim (cases_Bool (is_empty key)) [
      | inl none ↦ rw none refl
      | inr some ↦ elim (key_named v name) [
        | inl h ↦ rw (some, h.1, h.2) (key_tail (key_fault keys key) (h.0 key))
        | inr h ↦ rw (some, h.0, h.1 keys key) refl
      ]
    ]

number_tail : (o : Option ℕ) (f : ℕ → WordCommand) → result_err (ok_or o is.Number >>= λ n. ok_line (f n)) ≡ option_or (cond (is_some o) None (Some is.Number)) None
number_tail None f = refl
number_tail (Some n) f = refl

pair_tail : (k : Option What) (o : Option ℕ) (f : ℕ → WordCommand) → result_err (unless k (ok_or o is.Number) >>= λ n. ok_line (f n)) ≡ option_or (option_or k (option_or (cond (is_some o) None (Some is.Number)) None)) None
pair_tail None None f = refl
pair_tail None (Some n) f = refl
pair_tail (Some w) o f = refl

or_empty : (a b : Bool) → (a || b || false) ≡ (a || b)
or_empty true b = refl
or_empty false true = refl
or_empty false false = refl

fault_pair : (v : Version) (keys : Keys) (name key number : List ℕ) → SameFault v keys (name ∷ key ∷ number ∷ [])
fault_pair v keys name key number =
    elim (cases_Bool (is_empty key)) [
      | inl none ↦ rw none refl
      | inr some ↦ elim (cases_Bool (is_empty number)) [
        | inl none ↦ rw (some, none) refl
        | inr more ↦ elim (pair_named v name) [
          | inl h ↦ rw (some, more, h.1, h.2) (pair_tail (key_fault keys key) (number_at number) (h.0 key))
          | inr h ↦ rw (some, more, h.0, h.1 keys key number) refl
        ]
      ]
    ]

move_tail : (j k : Option What) (o : Option ℕ) (same : Bool) (f : ℕ → WordCommand)
    → result_err (unless j (unless k (ok_or o is.Number)) >>= λ n. cond same (Err is.Command) (ok_line (f n)))
    ≡ option_or (option_or j (option_or k (option_or (cond (is_some o) None (Some is.Number)) None))) (cond same (Some is.Command) None)
move_tail (Some w) k o same f = refl
move_tail None (Some w) o same f = refl
move_tail None None None same f = refl
move_tail None None (Some n) true f = refl
move_tail None None (Some n) false f = refl

move_operands : (v : Version) (name : List ℕ) → (has_moves v && bytes_eq name (codes "move")) ≡ true → operands_of v name ≡ Some (Key ∷ Key ∷ Number ∷ [])
move_operands One name e = absurd (false≢true e)
move_operands Two name e = ap (operands_of Two) (same_bytes name (codes "move") e)

fault_move : (v : Version) (keys : Keys) (name source target number : List ℕ) → SameFault v keys (name ∷ source ∷ target ∷ number ∷ [])
fault_move v keys name source target number =
    elim (cases_Bool (is_empty source)) [
      | inl none ↦ rw none refl
      | inr some ↦ elim (cases_Bool (is_empty target)) [
        | inl none ↦ rw (some, none) refl
        | inr more ↦ elim (cases_Bool (is_empty number)) [
          | inl none ↦ rw (some, more, none) refl
          | inr all ↦ elim (cases_Bool (has_moves v && bytes_eq name (codes "move"))) [
            | inl h ↦ rw (some, more, all, h, move_operands v name h) (move_tail (key_fault keys source) (key_fault keys target) (number_at number) (bytes_eq source target) (Move source target))
            | inr h ↦ rw (some, more, all, h) (sym (other_move v keys _ _ _ _ source target number h))
          ]
        ]
      ]
    ]

many_words : (v : Version) (keys : Keys) (name : List ℕ) (words : List (List ℕ)) → 3 < length words → tokens_fault v keys (name ∷ words) ≡ Some is.Command
many_words v keys name words h =
    elim (cases_Bool (list_any is_empty words)) [
      | inl none ↦ rw none refl
      | inr some ↦ rw some (other_more v keys _ _ _ _ words h)
    ]

pub same_fault : (v : Version) (keys : Keys) (ws : List (List ℕ)) → result_err (command_in v keys ws) ≡ tokens_fault v keys ws
same_fault v keys [] = refl
same_fault v keys (name ∷ []) = fault_alone v keys name
same_fault v keys (name ∷ key ∷ []) = fault_key v keys name key
same_fault v keys (name ∷ key ∷ number ∷ []) = fault_pair v keys name key number
same_fault v keys (name ∷ source ∷ target ∷ number ∷ []) = fault_move v keys name source target number
same_fault v keys (name ∷ a ∷ b ∷ c ∷ d ∷ words) = sym (many_words v keys name (a ∷ b ∷ c ∷ d ∷ words) (omega arith))

-- What is read is in the grammar.

abbrev pub Says : Version → Keys → List (List ℕ) → WordCommand → Type 0
Says v keys ws c = IsCommand v keys ws (on_names (name_of keys) c)

-- what a table gives has this where its first line's has it, and where another line's has it
told : {X : Type 0} (P : X → Type 0) (b : Bool) (x y : X) (rest : Option X) → cond b (Some x) rest ≡ Some y → (b ≡ true → P x) → (rest ≡ Some y → P y) → P y
told P true x y rest e here later = subst P (some_is x y e) (here refl)
told P false x y rest e here later = later e

alone_law : (v : Version) (keys : Keys) (name : List ℕ) (c : WordCommand) → alone_command name ≡ Some c → Says v keys (name ∷ []) c
alone_law v keys name c e =
    let alone = λ (known : List ℕ) (h : bytes_eq name known ≡ true). ap (λ (w : List ℕ). w ∷ []) (same_bytes name known h) in
    told (Says v keys (name ∷ [])) (bytes_eq name (codes "len")) Len c _ e (alone (codes "len")) (λ e.
    told (Says v keys (name ∷ [])) (bytes_eq name (codes "list")) Lists c None e (alone (codes "list")) (λ e. absurd cc))

module _ (v : Version) (keys : Keys) (name key : List ℕ) (fine : key_fault keys key ≡ None) (some : is_empty key ≡ false) where
  abbrev is_key : IsKey keys key (name_of keys key)
  is_key = key_law keys key fine some

  key_words : (known : List ℕ) → bytes_eq name known ≡ true → AreNameAndKey keys known (name ∷ key ∷ []) (name_of keys key)
  key_words known h = (key, ap (λ (w : List ℕ). w ∷ key ∷ []) (same_bytes name known h), is_key)

  key_command_law : (f : List ℕ → WordCommand) → key_command name ≡ Some f → Says v keys (name ∷ key ∷ []) (f key)
  key_command_law f e =
      let P : (List ℕ → WordCommand) → Type 0 = λ f. Says v keys (name ∷ key ∷ []) (f key) in
      told P (bytes_eq name (codes "find")) Find f _ e (key_words (codes "find")) (λ e. told P (bytes_eq name (codes "has")) Has f _ e (key_words (codes "has")) (λ e.
      told P (bytes_eq name (codes "erase")) Erase f None e (key_words (codes "erase")) (λ e. absurd cc)))

  module _ (word : List ℕ) (n : ℕ) (number : IsNumber word n) where
    pair_words : (known : List ℕ) → bytes_eq name known ≡ true → AreNameAndPair keys known (name ∷ key ∷ word ∷ []) (name_of keys key) n
    pair_words known h = (key, word, ap (λ (w : List ℕ). w ∷ key ∷ word ∷ []) (same_bytes name known h), is_key, number)

    pair_command_law : (f : List ℕ → ℕ → WordCommand) → pair_command name ≡ Some f → Says v keys (name ∷ key ∷ word ∷ []) (f key n)
    pair_command_law f e =
        let P : (List ℕ → ℕ → WordCommand) → Type 0 = λ f. Says v keys (name ∷ key ∷ word ∷ []) (f key n) in
        told P (bytes_eq name (codes "insert")) Insert f _ e (pair_words (codes "insert")) (λ e. told P (bytes_eq name (codes "assign")) Assign f _ e (pair_words (codes "assign")) (λ e.
        told P (bytes_eq name (codes "update")) Update f _ e (pair_words (codes "update")) (λ e. told P (bytes_eq name (codes "add")) Add f None e (pair_words (codes "add")) (λ e. absurd cc))))

key_says : (v : Version) (keys : Keys) (name key : List ℕ) (c : WordCommand) → command_in v keys (name ∷ key ∷ []) ≡ Ok c → Says v keys (name ∷ key ∷ []) c
key_says v keys name key c e =
    let g = guard_ok (is_empty key) is.Command (with_key (key_command name) key (key_fault keys key)) c e in
    let f = bind_ok (ok_or (key_command name) is.Command) (λ f. unless (key_fault keys key) (ok_line (f key))) c g.1 in
    let u = unless_ok (key_fault keys key) (ok_line (f.0 key)) c f.2 in
    subst (Says v keys (name ∷ key ∷ [])) (ok_is (f.0 key) c u.1) (key_command_law v keys name key u.0 g.0 f.0 (or_ok (key_command name) is.Command f.0 f.1))

pair_says : (v : Version) (keys : Keys) (name key number : List ℕ) (c : WordCommand) → command_in v keys (name ∷ key ∷ number ∷ []) ≡ Ok c → Says v keys (name ∷ key ∷ number ∷ []) c
pair_says v keys name key number c e =
    let g = guard_ok (is_empty key || is_empty number) is.Command (with_pair (pair_command name) key (number_behind keys key number)) c e in
    let f = bind_ok (ok_or (pair_command name) is.Command) (λ f. number_behind keys key number >>= λ n. ok_line (f key n)) c g.1 in
    let n = bind_ok (number_behind keys key number) (λ n. ok_line (f.0 key n)) c f.2 in
    let u = unless_ok (key_fault keys key) (number_or_fault number) n.0 n.1 in
    subst (Says v keys (name ∷ key ∷ number ∷ [])) (ok_is (f.0 key n.0) c n.2)
    (pair_command_law v keys name key u.0 (or_no _ _ g.0).0 number n.0 (number_law number n.0 u.1) f.0 (or_ok (pair_command name) is.Command f.0 f.1))

moves_two : (v : Version) → has_moves v ≡ true → v ≡ Two
moves_two One e = absurd (false≢true e)
moves_two Two e = refl

number_name : (a b : ℕ) → let x : Name = a ∷ [] in let y : Name = b ∷ [] in x ≡ y → a ≡ b
number_name a b e = cc

names_differ : (keys : Keys) (a b : List ℕ) → key_fault keys a ≡ None → key_fault keys b ≡ None → is_empty a ≡ false → is_empty b ≡ false → name_of keys a ≡ name_of keys b → a ≡ b
names_differ Num a b p q r s e =
    let x = number_key a p in
    let y = number_key b q in
    let same : x.0 ≡ y.0 = number_name x.0 y.0 (sym x.2 ∙ e ∙ y.2) in
    sym (written a x.0 x.1) ∙ ap decimal same ∙ written b y.0 y.1
names_differ Text a b p q r s e = e

move_says : (v : Version) (keys : Keys) (name source target number : List ℕ) (c : WordCommand) → command_in v keys (name ∷ source ∷ target ∷ number ∷ []) ≡ Ok c → Says v keys (name ∷ source ∷ target ∷ number ∷ []) c
move_says v keys name source target number c e =
    let ws = name ∷ source ∷ target ∷ number ∷ [] in
    let g = guard_ok (is_empty source || is_empty target || is_empty number) is.Command _ c e in
    let some = or_no _ _ (or_no _ _ g.0).0 in
    elim (chosen (has_moves v && bytes_eq name (codes "move")) (move_command keys source target number) (Err is.Command) (Ok c) g.1) [
      | inl h ↦
          let b = and_both _ _ h.0 in
          let n = bind_ok (unless (key_fault keys source) (number_behind keys target number)) (λ n. moved source target n) c h.1 in
          let u = unless_ok (key_fault keys source) (number_behind keys target number) n.0 n.1 in
          let t = unless_ok (key_fault keys target) (number_or_fault number) n.0 u.1 in
          let m = guard_ok (bytes_eq source target) is.Command (ok_line (Move source target n.0)) c n.2 in
          let differ : name_of keys source ≢ name_of keys target = λ same. false≢true (sym m.0 ∙ bytes_eq-refl source target (names_differ keys source target u.0 t.0 some.0 some.1 same)) in
          subst (Says v keys ws) (ok_is (Move source target n.0) c m.1) (
            moves_two v b.0,
            (
              source,
              target,
              number,
              ap (λ (w : List ℕ). w ∷ source ∷ target ∷ number ∷ []) (same_bytes name (codes "move") b.1),
              key_law keys source u.0 some.0,
              key_law keys target t.0 some.1,
              differ,
              number_law number n.0 t.1,
            ),
          )
      | inr h ↦ absurd (let no = h.1 in cc)
    ]

pub says : (v : Version) (keys : Keys) (ws : List (List ℕ)) (c : WordCommand) → command_in v keys ws ≡ Ok c → Says v keys ws c
says v keys [] c e = absurd cc
says v keys (name ∷ []) c e = alone_law v keys name c (or_ok (alone_command name) is.Command c e)
says v keys (name ∷ key ∷ []) c e = key_says v keys name key c e
says v keys (name ∷ key ∷ number ∷ []) c e = pair_says v keys name key number c e
says v keys (name ∷ source ∷ target ∷ number ∷ []) c e = move_says v keys name source target number c e
says v keys (name ∷ a ∷ b ∷ c ∷ d ∷ words) x e = absurd cc

-- What is in the grammar is read.

module _ (v : Version) (keys : Keys) where
  abbrev pub IsRead : List (List ℕ) → Command Name → Type 0
  IsRead ws d = (c : WordCommand) × (command_in v keys ws ≡ Ok c) × (d ≡ on_names (name_of keys) c)

  read_key : (name : List ℕ) (f : List ℕ → WordCommand) → key_command name ≡ Some f → (ws : List (List ℕ)) (k : Name) → AreNameAndKey keys name ws k
      → (key : List ℕ) × (command_in v keys ws ≡ Ok (f key)) × (k ≡ name_of keys key)
  read_key name f named ws k (key, e, is_key) =
      let fine = key_of keys key k is_key in
      (key, ap (command_in v keys) e ∙ rw (fine.1, named, fine.0) refl, fine.2)

  read_pair : (name : List ℕ) (f : List ℕ → ℕ → WordCommand) → pair_command name ≡ Some f → (ws : List (List ℕ)) (k : Name) (n : ℕ) → AreNameAndPair keys name ws k n
      → (key : List ℕ) × (command_in v keys ws ≡ Ok (f key n)) × (k ≡ name_of keys key)
  read_pair name f named ws k n (key, number, e, is_key, is_number) =
      let fine = key_of keys key k is_key in
      (key, ap (command_in v keys) e ∙ rw (fine.1, no_empty_number number n is_number, named, fine.0, number_or_fault-of number n is_number) refl, fine.2)

  read_move : (ws : List (List ℕ)) (j k : Name) (n : ℕ) → v ≡ Two → AreMoveAndTwo keys ws j k n → IsRead ws (Move j k n)
  read_move ws j k n two (source, target, number, e, is_source, is_target, differ, is_number) =
      let s = key_of keys source j is_source in
      let t = key_of keys target k is_target in
      let no : bytes_eq source target ≡ false = bytes_eq-no source target (λ same. differ (s.2 ∙ ap (name_of keys) same ∙ sym t.2)) in (
        Move source target n,
        ap (command_in v keys) e ∙ rw (two, s.1, t.1, no_empty_number number n is_number, s.0, t.0, number_or_fault-of number n is_number, no) refl,
        rw (s.2, t.2) refl,
      )

  pub is_read : (ws : List (List ℕ)) (d : Command Name) → IsCommand v keys ws d → IsRead ws d
  is_read ws (Find k) h = let r = read_key (codes "find") Find refl ws k h in (Find r.0, r.1, ap Find r.2)
  is_read ws (Has k) h = let r = read_key (codes "has") Has refl ws k h in (Has r.0, r.1, ap Has r.2)
  is_read ws (Erase k) h = let r = read_key (codes "erase") Erase refl ws k h in (Erase r.0, r.1, ap Erase r.2)
  is_read ws (Insert k n) h = let r = read_pair (codes "insert") Insert refl ws k n h in (Insert r.0 n, r.1, ap (λ (q : Name). Insert q n) r.2)
  is_read ws (Assign k n) h = let r = read_pair (codes "assign") Assign refl ws k n h in (Assign r.0 n, r.1, ap (λ (q : Name). Assign q n) r.2)
  is_read ws (Update k n) h = let r = read_pair (codes "update") Update refl ws k n h in (Update r.0 n, r.1, ap (λ (q : Name). Update q n) r.2)
  is_read ws (Add k n) h = let r = read_pair (codes "add") Add refl ws k n h in (Add r.0 n, r.1, ap (λ (q : Name). Add q n) r.2)
  is_read ws Len h = (Len, ap (command_in v keys) h, refl)
  is_read ws Lists h = (Lists, ap (command_in v keys) h, refl)
  is_read ws (Move j k n) h = read_move ws j k n h.0 h.1

  -- the words are one command
  pub one_command : (ws : List (List ℕ)) (a b : Command Name) → IsCommand v keys ws a → IsCommand v keys ws b → a ≡ b
  one_command ws a b p q =
      let x = is_read ws a p in
      let y = is_read ws b q in
      x.2 ∙ ap (on_names (name_of keys)) (ok_is x.0 y.0 (sym x.1 ∙ y.1)) ∙ sym y.2

-- the command of this name on a key and a number, and the same on the key's name
pub says_pair : (keys : Keys) (command : Option (List ℕ → ℕ → WordCommand)) (make : List ℕ → ℕ → WordCommand) (key word : List ℕ) (n : ℕ) (c : Command Name) → command ≡ Some make → number_behind keys key word ≡ Ok n
    → c ≡ on_names (name_of keys) (make key n) → SaysOnNames keys (with_pair command key (number_behind keys key word)) c
says_pair keys command make key word n c named number same =
    record { words = make key n; told = rw (named, number) refl; same = same }

-- The same of a line.

pub line_says : (v : Version) (keys : Keys) (line : List ℕ) (c : WordCommand) → command_at v keys line ≡ Ok c → IsCommand v keys (tokens line) (on_names (name_of keys) c)
unfolding command_at
line_says v keys line c e = says v keys (tokens line) c e

pub line_fault-same : (v : Version) (keys : Keys) (line : List ℕ) → result_err (command_at v keys line) ≡ tokens_fault v keys (tokens line)
unfolding command_at
line_fault-same v keys line = same_fault v keys (tokens line)
