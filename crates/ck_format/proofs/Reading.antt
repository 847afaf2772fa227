-- What the reader keeps of the bytes that it took.
use Rattle.std.proofs.Common.{◌≡◌, ℕ, ◌+◌, ◌<◌, ◌≤◌, Bool, true, false, eqb, List, [], ◌∷◌, ◌++◌, length, Option, Some, None, Result, Ok, Err, refl, sym, ap, subst, ◌∙◌, inl, inr, arith, append_assoc, length-append}
use Rattle.std.specs.Prelude.{All, ◌&&◌, flat_map, IfOk, IfErr}
use Rattle.std.specs.List.{list_any, onto_first}
use Rattle.std.proofs.lemmas.Bool.{le-ltb, false≢true, cases_Bool, eqb-true}
use Rattle.std.proofs.lemmas.Grind.{flat_map-append}
use Rattle.std.proofs.lemmas.List.{append-nil, nil_from_length}
use Rattle.std.proofs.lemmas.List.Concat.{flat_map-cons}
use Rattle.std.proofs.lemmas.List.Elements.{All-append, All-head, All-tail}
use Rattle.std.proofs.lemmas.List.Splits.{slice_split_at, slice_split_none, slice_split-cons_no}
use Rattle.ck_format.specs.declared.script.What.{What}
use Rattle.ck_format.specs.declared.script.What.TheVariants as is
use Rattle.ck_format.specs.declared.script.ScriptFault.{ScriptFault}
use Rattle.ck_format.specs.declared.script.Script.{Script}
use Rattle.ck_format.specs.declared.stage.Stage.{Stage}
use Rattle.ck_format.specs.declared.stage.Stage.TheVariants as after
use Rattle.ck_format.specs.declared.reader.Place.{Place}
use Rattle.ck_format.specs.declared.reader.ScriptReader.{ScriptReader}
use Rattle.ck_format.specs.Script.{fault_at, OnTextFault, Said, said_of}
use Rattle.ck_format.specs.Lines.{is_feed, parts, with_feed, IsLine}
use Rattle.ck_format.specs.Spells.{Spells}
use Rattle.ck_format.specs.FirstFault.{is_end, placed, end_fault, first_fault, first_fault_behind, EndsIn}
use Rattle.ck_format.specs.State.{State, Header, Setting as Settings, Block, After, parse_state, step, has_ended}
use Rattle.ck_format.specs.Stands.{IsKnown, AreScript}
use Rattle.ck_format.specs.Taken.{StandsBehind, IsInScript, HasTakenLines, FaultOf, StopsWithin}
use Rattle.ck_format.proofs.Cuts.{some_part}
use Rattle.ck_format.proofs.SettingLaws.{given_before}
use Rattle.ck_format.proofs.Steps.{fuller, read_next, fault_next, fault_long}

abbrev pub NoFeed : List ℕ → Type 0
NoFeed xs = All (λ b. is_feed b ≡ false) xs

-- Faults of the text.

pub on_text_fault-map : (what : What) {P Q : Type 0} → (P → Q) → OnTextFault what P → OnTextFault what Q
on_text_fault-map is.Memory f h = tt
on_text_fault-map is.Read f h = tt
on_text_fault-map is.Header f h = f h
on_text_fault-map is.Setting f h = f h
on_text_fault-map is.Command f h = f h
on_text_fault-map is.Number f h = f h
on_text_fault-map is.TooLong f h = f h
on_text_fault-map is.Truncated f h = f h

pub on_text_fault-any : (what : What) {P : Type 0} → P → OnTextFault what P
on_text_fault-any is.Memory h = tt
on_text_fault-any is.Read h = tt
on_text_fault-any is.Header h = h
on_text_fault-any is.Setting h = h
on_text_fault-any is.Command h = h
on_text_fault-any is.Number h = h
on_text_fault-any is.TooLong h = h
on_text_fault-any is.Truncated h = h

-- A line is taken.

pub place_next : (p : Place) (new : Stage) (line : List ℕ) → step (parse_state p.stage) line ≡ Ok (parse_state new) → NoFeed line → length line ≤ 200
    → (lines : List (List ℕ)) → StandsBehind p lines → StandsBehind (record { stage = new; number = p.number + 1 }) (lines ++ line ∷ [])
place_next p new line told no_feed short lines stands =
    let number = stands.number in
    record {
      read = read_next (parse_state p.stage) lines stands.read line (parse_state new) (record { no_feed = no_feed; short = short }) told;
      number = let more : length (lines ++ line ∷ []) ≡ length lines + 1 = length-append lines (line ∷ []) in omega arith;
    }

pub place_limits : (p : Place) (new : Stage) (line : List ℕ) → step (parse_state p.stage) line ≡ Ok (parse_state new) → IsInScript p → IsInScript (record { stage = new; number = p.number + 1 })
place_limits p new line told limits =
    let more = fuller (parse_state p.stage) (parse_state new) line limits.few told in
    let number = limits.number in
    record { number = let room = more.0 in omega arith; few = more.1 }

pub place_fault : (p : Place) (line : List ℕ) (what : What) (n : ℕ) → n ≡ p.number → OnTextFault what (step (parse_state p.stage) line ≡ Err what) → length line ≤ 200
    → (lines more : List (List ℕ)) → StandsBehind p lines → 0 < length more → OnTextFault what (first_fault_behind lines (line ∷ more) ≡ Some (fault_at n what))
place_fault p line what n here e short lines more stands some =
    on_text_fault-map what (λ told. fault_next (parse_state p.stage) lines stands.read line what n short told (here ∙ stands.number) more some) e

pub place_long : (p : Place) (line : List ℕ) (n : ℕ) → n ≡ p.number → 200 < length line → (lines more : List (List ℕ)) → StandsBehind p lines → 0 < length more
    → first_fault_behind lines (line ∷ more) ≡ Some (fault_at n is.TooLong)
place_long p line n here long lines more stands some = fault_long lines line n long (here ∙ stands.number) more

pub as_fault : (e : ScriptFault) (n : ℕ) (what : What) (x : Option ScriptFault) → e ≡ fault_at n what → OnTextFault what (x ≡ Some (fault_at n what)) → OnTextFault e.what (x ≡ Some e)
as_fault e n what x same h = subst (λ (f : ScriptFault). OnTextFault f.what (x ≡ Some f)) (sym same) h

-- Bytes and lines.

-- whole lines, and then the rest of the bytes
pub parts_behind : (lines : List (List ℕ)) (ys : List ℕ) → All IsLine lines → parts (flat_map with_feed lines ++ ys) ≡ lines ++ parts ys
parts_behind [] ys each = refl
parts_behind (line ∷ lines) ys each =
    let is_line : IsLine line = All-head IsLine line lines each in
    let regrouped : flat_map with_feed (line ∷ lines) ++ ys ≡ line ++ 10 ∷ (flat_map with_feed lines ++ ys) =
    ap (λ (xs : List ℕ). xs ++ ys) (flat_map-cons with_feed line lines ∙ append_assoc line (10 ∷ []) (flat_map with_feed lines)) ∙ append_assoc line (10 ∷ flat_map with_feed lines) ys in
    ap parts regrouped
    ∙ slice_split_at is_feed line 10 (flat_map with_feed lines ++ ys) is_line.no_feed refl
    ∙ ap (λ (ps : List (List ℕ)). line ∷ ps) (parts_behind lines ys (All-tail IsLine line lines each))

parts_line : (line rest : List ℕ) → NoFeed line → parts (line ++ 10 ∷ rest) ≡ line ∷ parts rest
parts_line line rest h = slice_split_at is_feed line 10 rest h refl

cons_of : (ps : List (List ℕ)) → 0 < length ps → (h : List ℕ) × (t : List (List ℕ)) × (ps ≡ h ∷ t)
cons_of [] some = absurd (omega arith)
cons_of (h ∷ t) some = (h, t, refl)

-- the first part begins by bytes that have no line feed
first_part : (xs ys : List ℕ) → NoFeed xs → (h : List ℕ) × (t : List (List ℕ)) × (parts (xs ++ ys) ≡ (xs ++ h) ∷ t)
first_part [] ys none = cons_of (parts ys) (some_part is_feed ys)
first_part (x ∷ xs) ys none =
    let r = first_part xs ys (All-tail (λ b. is_feed b ≡ false) x xs none) in
    (r.0, r.1, slice_split-cons_no is_feed x (xs ++ ys) (All-head (λ b. is_feed b ≡ false) x xs none) ∙ ap (onto_first x) r.2)

pub last_part : (lines : List (List ℕ)) (rest : List ℕ) → first_fault_behind lines (rest ∷ []) ≡ placed (length lines + 1) (end_fault lines rest)
unfolding first_fault_behind
last_part lines rest = refl

pub whole_end : (lines : List (List ℕ)) (rest : List ℕ) → length rest ≤ 200 → (list_any is_end lines && eqb (length rest) 0) ≡ true → end_fault lines rest ≡ None
unfolding end_fault
whole_end lines rest short all = rw (le-ltb 200 (length rest) short, all) refl

open_end : (lines : List (List ℕ)) (rest : List ℕ) → length rest ≤ 200 → (list_any is_end lines && eqb (length rest) 0) ≡ false → end_fault lines rest ≡ Some is.Truncated
unfolding end_fault
open_end lines rest short cut = rw (le-ltb 200 (length rest) short, cut) refl

module _ (r : ScriptReader) (bytes : List ℕ) (taken : HasTakenLines r bytes) where
  -- the first fault of the bytes and of others is that behind the lines
  fault_behind : (rest : List ℕ) → first_fault (bytes ++ rest) ≡ first_fault_behind taken.lines (parts (r.front.items ++ rest))
  fault_behind rest =
      let read = taken.stands.read in
      ap first_fault (ap (λ (xs : List ℕ). xs ++ rest) taken.whole ∙ append_assoc (flat_map with_feed taken.lines) r.front.items rest)
      ∙ ap (first_fault_behind []) (parts_behind taken.lines (r.front.items ++ rest) read.each)
      ∙ read.clear (parts (r.front.items ++ rest)) (some_part is_feed (r.front.items ++ rest))

  fault_at_end : IsLine r.front.items → first_fault bytes ≡ placed (length taken.lines + 1) (end_fault taken.lines r.front.items)
  fault_at_end front =
      ap first_fault (sym (append-nil bytes)) ∙ fault_behind []
      ∙ ap (λ (xs : List ℕ). first_fault_behind taken.lines (parts xs)) (append-nil r.front.items)
      ∙ ap (first_fault_behind taken.lines) (slice_split_none is_feed r.front.items front.no_feed)
      ∙ last_part taken.lines r.front.items

  parts_taken : IsLine r.front.items → parts bytes ≡ taken.lines ++ r.front.items ∷ []
  parts_taken front =
      ap parts taken.whole ∙ parts_behind taken.lines r.front.items taken.stands.read.each
      ∙ ap (λ (ps : List (List ℕ)). taken.lines ++ ps) (slice_split_none is_feed r.front.items front.no_feed)

  -- the bytes end in the reader's line
  pub ends_here : IsLine r.front.items → (n : ℕ) → n ≡ r.place.number → EndsIn bytes n
  ends_here front n here =
      let number = taken.stands.number in
      let at_end = fault_at_end front in
      elim (cases_Bool (list_any is_end taken.lines && eqb (length r.front.items) 0)) [
        | inl all ↦ inr (
          at_end ∙ ap (placed (length taken.lines + 1)) (whole_end taken.lines r.front.items front.short all),
          here ∙ number ∙ sym (ap length (parts_taken front) ∙ length-append taken.lines (r.front.items ∷ [])),
        )
        | inr cut ↦ inl (at_end ∙ ap (placed (length taken.lines + 1)) (open_end taken.lines r.front.items front.short cut) ∙ ap (λ (k : ℕ). Some (fault_at k is.Truncated)) (sym (here ∙ number)))
      ]

-- A reader that took more.

abbrev pub Takes : ScriptReader → List ℕ → ScriptReader → Type 0
Takes r piece s = (bytes : List ℕ) → HasTakenLines r bytes → HasTakenLines s (bytes ++ piece)

-- more of a line
pub takes_piece : (r s : ScriptReader) (piece : List ℕ) → s.place ≡ r.place → s.front.items ≡ r.front.items ++ piece → Takes r piece s
takes_piece r s piece place front bytes taken = record {
  lines = taken.lines;
  whole = ap (λ (xs : List ℕ). xs ++ piece) taken.whole ∙ append_assoc (flat_map with_feed taken.lines) r.front.items piece ∙ ap (λ (xs : List ℕ). flat_map with_feed taken.lines ++ xs) (sym front);
  stands = subst (λ (p : Place). StandsBehind p taken.lines) (sym place) taken.stands;
}

-- the rest of a line and its line feed
pub takes_line : (r s : ScriptReader) (piece line : List ℕ) → r.front.items ++ piece ≡ line → s.front.items ≡ []
    → ((lines : List (List ℕ)) → StandsBehind r.place lines → StandsBehind s.place (lines ++ line ∷ [])) → Takes r (piece ++ 10 ∷ []) s
takes_line r s piece line whole empty next bytes taken = record {
  lines = taken.lines ++ line ∷ [];
  whole =
      ap (λ (xs : List ℕ). xs ++ (piece ++ 10 ∷ [])) taken.whole
      ∙ append_assoc (flat_map with_feed taken.lines) r.front.items (piece ++ 10 ∷ [])
      ∙ ap (λ (xs : List ℕ). flat_map with_feed taken.lines ++ xs) (sym (append_assoc r.front.items piece (10 ∷ [])) ∙ ap with_feed whole ∙ sym (append-nil (with_feed line)))
      ∙ sym (flat_map-append with_feed taken.lines (line ∷ []))
      ∙ sym (append-nil (flat_map with_feed (taken.lines ++ line ∷ [])))
      ∙ ap (λ (xs : List ℕ). flat_map with_feed (taken.lines ++ line ∷ []) ++ xs) (sym empty);
  stands = next taken.lines taken.stands;
}

pub takes_both : (r s t : ScriptReader) (a b : List ℕ) → Takes r a s → Takes s b t → Takes r (a ++ b) t
takes_both r s t a b first second bytes taken = subst (HasTakenLines t) (append_assoc bytes a b) (second (bytes ++ a) (first bytes taken))

pub takes_none : (r : ScriptReader) → Takes r [] r
takes_none r bytes taken = subst (HasTakenLines r) (sym (append-nil bytes)) taken

-- Faults of what a reader takes.

pub fault_piece : (r : ScriptReader) (piece : List ℕ) (e : ScriptFault) → NoFeed r.front.items → NoFeed piece → 200 < length r.front.items + length piece → e ≡ fault_at r.place.number is.TooLong → FaultOf r piece e
fault_piece r piece e none more long same bytes taken rest =
    let whole = r.front.items ++ piece in
    let p = first_part whole rest (All-append (λ b. is_feed b ≡ false) r.front.items piece none more) in
    let told : first_fault ((bytes ++ piece) ++ rest) ≡ first_fault_behind taken.lines ((whole ++ p.0) ∷ p.1) =
    ap first_fault (append_assoc bytes piece rest) ∙ fault_behind r bytes taken (piece ++ rest)
    ∙ ap (λ (xs : List ℕ). first_fault_behind taken.lines (parts xs)) (sym (append_assoc r.front.items piece rest)) ∙ ap (first_fault_behind taken.lines) p.2 in
    let longer : 200 < length (whole ++ p.0) = omega (arith, length-append whole p.0, length-append r.front.items piece) in
    as_fault e r.place.number is.TooLong (first_fault ((bytes ++ piece) ++ rest)) same (told ∙ fault_long taken.lines (whole ++ p.0) r.place.number longer taken.stands.number p.1)

pub fault_line : (r : ScriptReader) (piece line : List ℕ) (e : ScriptFault) → r.front.items ++ piece ≡ line → NoFeed line
    → ((lines more : List (List ℕ)) → StandsBehind r.place lines → 0 < length more → OnTextFault e.what (first_fault_behind lines (line ∷ more) ≡ Some e)) → FaultOf r (piece ++ 10 ∷ []) e
fault_line r piece line e whole none next bytes taken rest =
    let told : first_fault ((bytes ++ (piece ++ 10 ∷ [])) ++ rest) ≡ first_fault_behind taken.lines (line ∷ parts rest) =
    ap first_fault (append_assoc bytes (piece ++ 10 ∷ []) rest) ∙ fault_behind r bytes taken ((piece ++ 10 ∷ []) ++ rest)
    ∙ ap (λ (xs : List ℕ). first_fault_behind taken.lines (parts xs)) (ap (λ (xs : List ℕ). r.front.items ++ xs) (append_assoc piece (10 ∷ []) rest) ∙ sym (append_assoc r.front.items piece (10 ∷ rest)) ∙ ap (λ (xs : List ℕ). xs ++ 10 ∷ rest) whole)
    ∙ ap (first_fault_behind taken.lines) (parts_line line rest none) in
    on_text_fault-map e.what (λ h. told ∙ h) (next taken.lines (parts rest) taken.stands (some_part is_feed rest))

pub fault_more : (r : ScriptReader) (a b : List ℕ) (e : ScriptFault) → FaultOf r a e → FaultOf r (a ++ b) e
fault_more r a b e h bytes taken more =
    subst (λ (xs : List ℕ). OnTextFault e.what (first_fault xs ≡ Some e)) (sym (append_assoc (bytes ++ a) b more) ∙ ap (λ (xs : List ℕ). xs ++ more) (append_assoc bytes a b)) (h bytes taken (b ++ more))

pub fault_after : (r s : ScriptReader) (a b : List ℕ) (e : ScriptFault) → Takes r a s → FaultOf s b e → FaultOf r (a ++ b) e
fault_after r s a b e first h bytes taken more =
    subst (λ (xs : List ℕ). OnTextFault e.what (first_fault (xs ++ more) ≡ Some e)) (append_assoc bytes a b) (h (bytes ++ a) (first bytes taken) more)

-- Where a reader stops for want of memory.

pub stops_here : (r : ScriptReader) (piece : List ℕ) (n : ℕ) → IsLine r.front.items → n ≡ r.place.number → StopsWithin r piece n
stops_here r piece n front here bytes taken = ([], piece, refl, subst (λ (xs : List ℕ). EndsIn xs n) (sym (append-nil bytes)) (ends_here r bytes taken front n here))

pub stops_more : (r : ScriptReader) (a b : List ℕ) (n : ℕ) → StopsWithin r a n → StopsWithin r (a ++ b) n
stops_more r a b n h bytes taken =
    let s = h bytes taken in
    (s.0, s.1 ++ b, ap (λ (xs : List ℕ). xs ++ b) s.2 ∙ append_assoc s.0 s.1 b, s.3)

pub stops_after : (r s : ScriptReader) (a b : List ℕ) (n : ℕ) → Takes r a s → StopsWithin s b n → StopsWithin r (a ++ b) n
stops_after r s a b n first h bytes taken =
    let t = h (bytes ++ a) (first bytes taken) in
    (a ++ t.0, t.1, ap (λ (xs : List ℕ). a ++ xs) t.2 ∙ sym (append_assoc a t.0 t.1), subst (λ (xs : List ℕ). EndsIn xs n) (append_assoc bytes a t.0) t.3)

-- A block, up to here.

pub record HasFed (start : ScriptReader) (block : List ℕ) (r : ScriptReader) (rest : List ℕ) : Type 0 where
  pub fed : List ℕ
  pub whole : block ≡ fed ++ rest
  pub takes : Takes start fed r

pub fed_none : (r : ScriptReader) (block : List ℕ) → HasFed r block r block
fed_none r block = record { fed = []; whole = refl; takes = takes_none r }

-- a piece more was fed
pub fed_more : (start r s : ScriptReader) (block rest piece left : List ℕ) → HasFed start block r rest → rest ≡ piece ++ left → Takes r piece s → HasFed start block s left
fed_more start r s block rest piece left before cut more = record {
  fed = before.fed ++ piece;
  whole = before.whole ∙ ap (λ (xs : List ℕ). before.fed ++ xs) cut ∙ sym (append_assoc before.fed piece left);
  takes = takes_both start r s before.fed piece before.takes more;
}

pub fed_fault : (start r : ScriptReader) (block rest piece left : List ℕ) (e : ScriptFault) → HasFed start block r rest → rest ≡ piece ++ left → FaultOf r piece e → FaultOf start block e
fed_fault start r block rest piece left e before cut h =
    subst (λ (xs : List ℕ). FaultOf start xs e) (sym (before.whole ∙ ap (λ (xs : List ℕ). before.fed ++ xs) cut))
    (fault_after start r before.fed (piece ++ left) e before.takes (fault_more r piece left e h))

pub fed_stops : (start r : ScriptReader) (block rest piece left : List ℕ) (n : ℕ) → HasFed start block r rest → rest ≡ piece ++ left → StopsWithin r piece n → StopsWithin start block n
fed_stops start r block rest piece left n before cut h =
    subst (λ (xs : List ℕ). StopsWithin start xs n) (sym (before.whole ∙ ap (λ (xs : List ℕ). before.fed ++ xs) cut))
    (stops_after start r before.fed (piece ++ left) n before.takes (stops_more r piece left n h))

-- The same of what a function returned.

pub line_fault_of : (r : ScriptReader) (piece line : List ℕ) (result : Result (Unit {0}) ScriptFault) → r.front.items ++ piece ≡ line → NoFeed line
    → IfErr result (λ e. (lines more : List (List ℕ)) → StandsBehind r.place lines → 0 < length more → OnTextFault e.what (first_fault_behind lines (line ∷ more) ≡ Some e))
    → IfErr result (λ e. FaultOf r (piece ++ 10 ∷ []) e)
line_fault_of r piece line (Ok done) whole none h = tt
line_fault_of r piece line (Err e) whole none h = fault_line r piece line e whole none h

abbrev pub StopsForMemory : ScriptReader → List ℕ → ScriptFault → Type 0
StopsForMemory r piece e = e.what ≡ is.Memory → StopsWithin r piece e.line

pub line_stops_of : (r : ScriptReader) (piece : List ℕ) (result : Result (Unit {0}) ScriptFault) → IsLine r.front.items → IfErr result (λ e. e.line ≡ r.place.number) → IfErr result (StopsForMemory r piece)
line_stops_of r piece (Ok done) front here = tt
line_stops_of r piece (Err e) front here = λ refused. stops_here r piece e.line front here

pub line_takes_of : (r s : ScriptReader) (piece line : List ℕ) (result : Result (Unit {0}) ScriptFault) → r.front.items ++ piece ≡ line → s.front.items ≡ []
    → IfOk result (λ done. (lines : List (List ℕ)) → StandsBehind r.place lines → StandsBehind s.place (lines ++ line ∷ [])) → IfOk result (λ done. Takes r (piece ++ 10 ∷ []) s)
line_takes_of r s piece line (Ok done) whole empty next = takes_line r s piece line whole empty next
line_takes_of r s piece line (Err e) whole empty next = tt

pub last_fault_of : (start r : ScriptReader) (block rest : List ℕ) (result : Result (Unit {0}) ScriptFault) → HasFed start block r rest → IfErr result (λ e. FaultOf r rest e) → IfErr result (λ e. FaultOf start block e)
last_fault_of start r block rest (Ok done) before h = tt
last_fault_of start r block rest (Err e) before h = fed_fault start r block rest rest [] e before (sym (append-nil rest)) h

pub last_stops_of : (start r : ScriptReader) (block rest : List ℕ) (result : Result (Unit {0}) ScriptFault) → HasFed start block r rest → IfErr result (StopsForMemory r rest) → IfErr result (StopsForMemory start block)
last_stops_of start r block rest (Ok done) before h = tt
last_stops_of start r block rest (Err e) before h = λ refused. fed_stops start r block rest rest [] e.line before (sym (append-nil rest)) (h refused)

pub last_takes_of : (start r s : ScriptReader) (block rest : List ℕ) (result : Result (Unit {0}) ScriptFault) → HasFed start block r rest → IfOk result (λ done. Takes r rest s) → IfOk result (λ done. Takes start block s)
last_takes_of start r s block rest (Ok done) before h = subst (λ (xs : List ℕ). Takes start xs s) (sym before.whole) (takes_both start r s before.fed rest before.takes h)
last_takes_of start r s block rest (Err e) before h = tt

-- The end of the input.

pub open_lines : (s : State) (lines : List (List ℕ)) → IsKnown s lines → has_ended s ≡ false → list_any is_end lines ≡ false
open_lines Header lines known open_state = ap (list_any is_end) known
open_lines (Settings g) lines known open_state = (given_before g lines known).1
open_lines (Block b) lines known open_state = known.going_on
open_lines (After said) lines known open_state = absurd (false≢true (sym open_state))

and_no : (a b : Bool) → b ≡ false → (a && b) ≡ false
and_no true b e = e
and_no false b e = refl

module _ (r : ScriptReader) (front : IsLine r.front.items) (fault : ScriptFault) (same : fault ≡ fault_at r.place.number is.Truncated) (bytes : List ℕ) (taken : HasTakenLines r bytes) where
  truncated : (list_any is_end taken.lines && eqb (length r.front.items) 0) ≡ false → first_fault bytes ≡ Some fault
  truncated cut =
      fault_at_end r bytes taken front
      ∙ ap (placed (length taken.lines + 1)) (open_end taken.lines r.front.items front.short cut)
      ∙ ap (λ (k : ℕ). Some (fault_at k is.Truncated)) (sym taken.stands.number) ∙ ap Some (sym same)

  -- within a line
  pub ends_within : eqb (length r.front.items) 0 ≡ false → first_fault bytes ≡ Some fault
  ends_within some = truncated (and_no (list_any is_end taken.lines) _ some)

  -- in front of the line feed of `end`
  pub ends_early : has_ended (parse_state r.place.stage) ≡ false → first_fault bytes ≡ Some fault
  ends_early open_state = truncated (rw (open_lines (parse_state r.place.stage) taken.lines taken.stands.read.known open_state) refl)

pub script_spells : (lines : List (List ℕ)) (said : Said) (bytes : List ℕ) → AreScript said lines → All IsLine lines → bytes ≡ flat_map with_feed lines → Spells bytes said
script_spells lines said bytes script each whole = record {
  version = script.version;
  settings = script.settings;
  blocks = script.blocks;
  whole = whole ∙ ap (flat_map with_feed) script.whole;
  each = subst (All IsLine) script.whole each;
  settings_are = script.settings_are;
  blocks_are = script.blocks_are;
  callers = script.callers;
  some = script.some;
  many = script.many;
  few = script.few;
}

-- right behind the line `end`
pub ends_whole : (r : ScriptReader) (script : Script) → r.front.items ≡ [] → r.place.stage ≡ after.After script → (bytes : List ℕ) → HasTakenLines r bytes → Spells bytes (said_of script)
ends_whole r script empty stage bytes taken =
    let known : AreScript (said_of script) taken.lines = subst (λ (s : Stage). IsKnown (parse_state s) taken.lines) stage taken.stands.read.known in
    script_spells taken.lines (said_of script) bytes known taken.stands.read.each
    (taken.whole ∙ ap (λ (xs : List ℕ). flat_map with_feed taken.lines ++ xs) empty ∙ append-nil (flat_map with_feed taken.lines))

pub no_bytes : (n : ℕ) (xs : List ℕ) → n ≡ length xs → eqb n 0 ≡ true → xs ≡ []
no_bytes n xs same e = nil_from_length xs (sym same ∙ eqb-true n 0 e)

pub some_bytes : (n : ℕ) (xs : List ℕ) → n ≡ length xs → eqb n 0 ≡ false → eqb (length xs) 0 ≡ false
some_bytes n xs same e = ap (λ (k : ℕ). eqb k 0) (sym same) ∙ e
