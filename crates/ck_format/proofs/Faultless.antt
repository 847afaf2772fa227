-- Bytes without a fault are a script.
use Rattle.std.proofs.Common.{◌≡◌, ℕ, ◌+◌, ◌<◌, ◌≤◌, true, false, ltb, eqb, List, [], ◌∷◌, ◌++◌, length, Option, Some, None, Result, Ok, Err, refl, sym, ap, subst, ◌∙◌, inl, inr, arith, append_assoc, length-append}
use Rattle.std.specs.Prelude.{All, ◌&&◌, flat_map}
use Rattle.std.specs.List.{list_any, join_with_byte, onto_first}
use Rattle.std.specs.Result.{result_err}
use Rattle.std.proofs.lemmas.Bool.{ltb-false, false≢true, cases_Bool, eqb-true}
use Rattle.std.proofs.lemmas.List.{append-nil, nil_from_length}
use Rattle.std.proofs.lemmas.List.Concat.{flat_map-cons}
use Rattle.std.proofs.lemmas.List.Elements.{All-nil, All-cons, All-head, All-tail}
use Rattle.std.proofs.lemmas.List.Splits.{join_with_byte-slice_split, slice_split-cons_yes, slice_split-cons_no}
use Rattle.ck_format.specs.declared.script.What.{What}
use Rattle.ck_format.specs.declared.script.ScriptFault.{ScriptFault}
use Rattle.ck_format.specs.Script.{Said}
use Rattle.ck_format.specs.Lines.{is_feed, parts, with_feed, IsLine}
use Rattle.ck_format.specs.Spells.{Spells, lines_of}
use Rattle.ck_format.specs.FirstFault.{option_or, placed, is_end, line_fault, end_fault, first_fault, first_fault_behind}
use Rattle.ck_format.specs.State.{State, Header, Setting as Settings, Block, After, step}
use Rattle.ck_format.specs.Stands.{IsKnown, AreRead, AreScript}
use Rattle.ck_format.proofs.Cuts.{some_part}
use Rattle.ck_format.proofs.Commands.{and_both, ok_is}
use Rattle.ck_format.proofs.Steps.{behind_line, step_same, read_next}
use Rattle.ck_format.proofs.Reading.{NoFeed, open_lines, script_spells, last_part, whole_end, parts_behind}
use Rattle.ck_format.proofs.Grammar.{run, run_read, script_run}

-- The parts of an input.

onto_no_feed : (b : ℕ) (ps : List (List ℕ)) → is_feed b ≡ false → All NoFeed ps → All NoFeed (onto_first b ps)
onto_no_feed b [] other all = All-cons NoFeed (b ∷ []) [] (All-cons (λ x. is_feed x ≡ false) b [] other (All-nil (λ x. is_feed x ≡ false))) (All-nil NoFeed)
onto_no_feed b (p ∷ ps) other all = All-cons NoFeed (b ∷ p) ps (All-cons (λ x. is_feed x ≡ false) b p other (All-head NoFeed p ps all)) (All-tail NoFeed p ps all)

parts_no_feed : (bytes : List ℕ) → All NoFeed (parts bytes)
parts_no_feed [] = All-cons NoFeed [] [] (All-nil (λ x. is_feed x ≡ false)) (All-nil NoFeed)
parts_no_feed (b ∷ bytes) =
    elim (cases_Bool (is_feed b)) [
      | inl feed ↦ subst (All NoFeed) (sym (slice_split-cons_yes is_feed b bytes feed)) (All-cons NoFeed [] (parts bytes) (All-nil (λ x. is_feed x ≡ false)) (parts_no_feed bytes))
      | inr other ↦ subst (All NoFeed) (sym (slice_split-cons_no is_feed b bytes other)) (onto_no_feed b (parts bytes) other (parts_no_feed bytes))
    ]

join_ended : (lines : List (List ℕ)) → join_with_byte 10 (lines ++ [] ∷ []) ≡ flat_map with_feed lines
join_ended [] = refl
join_ended (x ∷ []) = sym (append-nil (x ++ 10 ∷ []))
join_ended (x ∷ y ∷ lines) = ap (λ (t : List ℕ). x ++ 10 ∷ t) (join_ended (y ∷ lines)) ∙ sym (append_assoc x (10 ∷ []) (flat_map with_feed (y ∷ lines))) ∙ sym (flat_map-cons with_feed x (y ∷ lines))

-- Faults that there are not.

neither : (n : ℕ) (a : Option What) (b : Option ScriptFault) → option_or (placed n a) b ≡ None → (a ≡ None) × (b ≡ None)
neither n None b e = (refl, e)
neither n (Some w) b e = absurd cc

not_placed : (n : ℕ) (a : Option What) → placed n a ≡ None → a ≡ None
not_placed n None e = refl
not_placed n (Some w) e = absurd cc

is_ok : (r : Result State What) → result_err r ≡ None → (s : State) × (r ≡ Ok s)
is_ok (Ok s) e = (s, refl)
is_ok (Err w) e = absurd cc

short_line : (lines : List (List ℕ)) (line : List ℕ) → line_fault lines line ≡ None → length line ≤ 200
unfolding line_fault
short_line lines line e = elim (cases_Bool (ltb 200 (length line))) [ inl long ↦ absurd (let told = rw long at e in cc) | inr short ↦ ltb-false 200 (length line) short ]

whole_script : (lines : List (List ℕ)) (rest : List ℕ) → end_fault lines rest ≡ None → (list_any is_end lines ≡ true) × (rest ≡ [])
unfolding end_fault
whole_script lines rest e =
    elim (cases_Bool (ltb 200 (length rest))) [
      | inl long ↦ absurd (let told = rw long at e in cc)
      | inr short ↦ elim (cases_Bool (list_any is_end lines && eqb (length rest) 0)) [
        | inl all ↦ let b = and_both _ _ all in (b.0, nil_from_length rest (eqb-true _ _ b.1))
        | inr cut ↦ absurd (let told = rw (short, cut) at e in cc)
      ]
    ]

-- Lines without a fault are read to the end.
pub record IsReadTo (lines ps : List (List ℕ)) : Type 0 where
  pub more : List (List ℕ)
  pub rest : List ℕ
  pub state : State
  pub whole : ps ≡ more ++ rest ∷ []
  pub read : AreRead state (lines ++ more)
  pub ends : end_fault (lines ++ more) rest ≡ None

read_to : (s : State) (lines : List (List ℕ)) → AreRead s lines → (ps : List (List ℕ)) → 0 < length ps → All NoFeed ps → first_fault_behind lines ps ≡ None → IsReadTo lines ps
read_to s lines read [] some feeds e = absurd (omega arith)
read_to s lines read (rest ∷ []) some feeds e =
    let none = not_placed (length lines + 1) (end_fault lines rest) (sym (last_part lines rest) ∙ e) in
    record { more = []; rest = rest; state = s; whole = refl; read = subst (AreRead s) (sym (append-nil lines)) read; ends = ap (λ (ls : List (List ℕ)). end_fault ls rest) (append-nil lines) ∙ none }
read_to s lines read (line ∷ next ∷ ps) some feeds e =
    let none = neither (length lines + 1) (line_fault lines line) (first_fault_behind (lines ++ line ∷ []) (next ∷ ps)) (sym (behind_line lines line (next ∷ ps) (omega arith)) ∙ e) in
    let short = short_line lines line none.0 in
    let ok = is_ok (step s line) (step_same s lines line read.known short ∙ none.0) in
    let is_line : IsLine line = record { no_feed = All-head NoFeed line (next ∷ ps) feeds; short = short } in
    let r = read_to ok.0 (lines ++ line ∷ []) (read_next s lines read line ok.0 is_line ok.1) (next ∷ ps) (omega arith) (All-tail NoFeed line (next ∷ ps) feeds) none.1 in
    let regrouped : (lines ++ line ∷ []) ++ r.more ≡ lines ++ line ∷ r.more = append_assoc lines (line ∷ []) r.more in
    record {
      more = line ∷ r.more;
      rest = r.rest;
      state = r.state;
      whole = ap (λ (ls : List (List ℕ)). line ∷ ls) r.whole;
      read = subst (AreRead r.state) regrouped r.read;
      ends = ap (λ (ls : List (List ℕ)). end_fault ls r.rest) (sym regrouped) ∙ r.ends;
    }

pub read_none : AreRead Header []
read_none = record { known = refl; each = All-nil IsLine; clear = λ more some. refl }

ended_said : (s : State) (lines : List (List ℕ)) → IsKnown s lines → list_any is_end lines ≡ true → (said : Said) × AreScript said lines
ended_said (After said) lines known ended = (said, known)
ended_said Header lines known ended = absurd (false≢true (sym (open_lines Header lines known refl) ∙ ended))
ended_said (Settings g) lines known ended = absurd (false≢true (sym (open_lines (Settings g) lines known refl) ∙ ended))
ended_said (Block b) lines known ended = absurd (false≢true (sym (open_lines (Block b) lines known refl) ∙ ended))

pub faultless : (bytes : List ℕ) → first_fault bytes ≡ None → (said : Said) × Spells bytes said
faultless bytes e =
    let r = read_to Header [] read_none (parts bytes) (some_part is_feed bytes) (parts_no_feed bytes) e in
    let ends = whole_script r.more r.rest r.ends in
    let said = ended_said r.state r.more r.read.known ends.0 in
    let cut : parts bytes ≡ r.more ++ [] ∷ [] = r.whole ∙ ap (λ (rest : List ℕ). r.more ++ rest ∷ []) ends.1 in
    let whole : bytes ≡ flat_map with_feed r.more = sym (join_with_byte-slice_split 10 bytes) ∙ ap (join_with_byte 10) cut ∙ join_ended r.more in
    (said.0, script_spells r.more said.0 bytes said.1 r.read.each whole)

-- A script has no fault.

pub record IsSpelledBy (bytes : List ℕ) (said : Said) (lines : List (List ℕ)) : Type 0 where
  pub cut : parts bytes ≡ lines ++ [] ∷ []
  pub each : All IsLine lines
  pub runs : run Header lines ≡ Ok (After said)

spelled_by : (bytes : List ℕ) (said : Said) → Spells bytes said → (lines : List (List ℕ)) × IsSpelledBy bytes said lines
spelled_by bytes said h =
    let lines = lines_of h.version h.settings h.blocks in (
      lines,
      record {
        cut = ap parts (h.whole ∙ sym (append-nil (flat_map with_feed lines))) ∙ parts_behind lines [] h.each;
        each = h.each;
        runs = script_run h.version h.settings h.blocks said h.settings_are h.blocks_are h.callers h.some h.many h.few;
      },
    )

pub spelled_faultless : (bytes : List ℕ) (said : Said) → Spells bytes said → first_fault bytes ≡ None
spelled_faultless bytes said h =
    let s = spelled_by bytes said h in
    let lines = s.0 in
    let read : AreRead (After said) lines = run_read Header (After said) [] lines read_none s.1.each s.1.runs in
    ap (first_fault_behind []) s.1.cut ∙ read.clear ([] ∷ []) (omega arith) ∙ last_part lines []
    ∙ ap (placed (length lines + 1)) (whole_end lines [] (omega arith) (rw read.known.ended refl))

cons_first : (x y : List ℕ) (xs ys : List (List ℕ)) → x ∷ xs ≡ y ∷ ys → x ≡ y
cons_first x y xs ys e = cc

cons_rest : (x y : List ℕ) (xs ys : List (List ℕ)) → x ∷ xs ≡ y ∷ ys → xs ≡ ys
cons_rest x y xs ys e = cc

last_same : (xs ys : List (List ℕ)) → xs ++ [] ∷ [] ≡ ys ++ [] ∷ [] → xs ≡ ys
last_same [] [] e = refl
last_same [] (y ∷ ys) e = absurd (let short = ap length e in omega (arith, length-append ys ([] ∷ [])))
last_same (x ∷ xs) [] e = absurd (let short = ap length e in omega (arith, length-append xs ([] ∷ [])))
last_same (x ∷ xs) (y ∷ ys) e =
    let first : x ≡ y = cons_first x y (xs ++ [] ∷ []) (ys ++ [] ∷ []) e in
    let rest = last_same xs ys (cons_rest x y (xs ++ [] ∷ []) (ys ++ [] ∷ []) e) in
    cc

after_is : (a b : Said) → After a ≡ After b → a ≡ b
after_is a b e = cc

-- bytes are one script
pub one_script : (bytes : List ℕ) (this that : Said) → Spells bytes this → Spells bytes that → this ≡ that
one_script bytes this that p q =
    let a = spelled_by bytes this p in
    let b = spelled_by bytes that q in
    let same : a.0 ≡ b.0 = last_same a.0 b.0 (sym a.1.cut ∙ b.1.cut) in
    after_is this that (ok_is (After this) (After that) (sym a.1.runs ∙ ap (run Header) same ∙ b.1.runs))
