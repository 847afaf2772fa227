-- The rows of a stripe, split.
use Rattle.std.proofs.Common.{◌≡◌, ℕ, zero, suc, Bool, true, false, not, cond, refl, sym, ◌∙◌, ap, subst, ◌+◌, ◌-◌, ◌*◌, ◌^◌, ◌%◌, ◌<◌, ◌≤◌, List, [], ◌∷◌, ◌++◌, Some, None, length, map, get_or, take, drop, set, replicate, arith}
use Rattle.std.specs.Prelude.{flat_map, All}
use Rattle.std.specs.List.{enumerate_from}
use Rattle.std.specs.List.Sorted.{IsPermutation}
use Rattle.std.proofs.lemmas.List.{append_assoc, append-nil, length-append, length-map, length-take, length-drop, length-replicate, replicate-append-replicate, get_or-map, get_or-replicate, get_or_append_left, get_or-append_right, set-append_left, set-append_right, take_all, drop_all}
use Rattle.std.proofs.lemmas.Nat.{one_shl}
use Rattle.std.proofs.lemmas.List.FromFn.{length-enumerate_from, get_or-enumerate_from}
use Rattle.std.proofs.lemmas.List.Concat.{flat_map-append}
use Rattle.std.proofs.lemmas.List.Elements.{All-append, All-map}
use Rattle.std.proofs.lemmas.List.Sorted.{IsPermutation-refl, IsPermutation-sym, IsPermutation-trans, IsPermutation-append, IsPermutation-append_left, IsPermutation-append_right, IsPermutation-append_comm, IsPermutation-middle, IsPermutation-cons}
use Rattle.ck_model.specs.Promise.{Name}
use Rattle.ck_model.specs.Slots.{Slot, taken_in}
use Rattle.ck_bucket.specs.Bucket.{kept_if, low_row, high_row}
use Rattle.ck_stripe.specs.Doubling.{low_rows, high_rows, split_rows}

-- a shift counts the rows
pub rows_counted : (s p n : ℕ) → n ≡ 2 ^ (p - s) → p < 26 → 1 * 2 ^ (p - s) % 2 ^ 64 ≡ n
rows_counted s p n count low = one_shl (p - s) 64 (omega arith) ∙ sym count

swapped : {X : Type 0} (a b c d : List X) → IsPermutation ((a ++ b) ++ (c ++ d)) ((a ++ c) ++ (b ++ d))
swapped a b c d =
    subst (λ xs. IsPermutation xs ((a ++ c) ++ (b ++ d))) (sym (append_assoc a b (c ++ d)))
    (subst (IsPermutation (a ++ (b ++ (c ++ d)))) (sym (append_assoc a c (b ++ d)))
    (IsPermutation-append_right a (b ++ (c ++ d)) (c ++ (b ++ d))
    (subst (λ xs. IsPermutation xs (c ++ (b ++ d))) (append_assoc b c d)
    (subst (IsPermutation ((b ++ c) ++ d)) (append_assoc c b d)
    (IsPermutation-append_left d (b ++ c) (c ++ b) (IsPermutation-append_comm b c))))))

module _ {V : Type 0} where
  -- a row is what passes a test and what fails it
  row_moved : (test : Name → Bool) (row : List (Slot V)) → IsPermutation (taken_in row) (taken_in (map (kept_if (λ n. not (test n))) row) ++ taken_in (map (kept_if test) row))
  row_moved test [] = IsPermutation-refl []
  row_moved test (None ∷ row) = row_moved test row
  row_moved test (Some e ∷ row) = go (test e.0) (row_moved test row)
    where
      low : List (Name × V)
      low = taken_in (map (kept_if (λ n. not (test n))) row)

      high : List (Name × V)
      high = taken_in (map (kept_if test) row)

      go : (b : Bool) → IsPermutation (taken_in row) (low ++ high) → IsPermutation (e ∷ taken_in row) (taken_in (cond (not b) (Some e) None ∷ map (kept_if (λ n. not (test n))) row) ++ taken_in (cond b (Some e) None ∷ map (kept_if test) row))
      go true rest = IsPermutation-trans (e ∷ taken_in row) (e ∷ (low ++ high)) (low ++ e ∷ high) (IsPermutation-cons e (taken_in row) (low ++ high) rest) (IsPermutation-sym (low ++ e ∷ high) (e ∷ (low ++ high)) (IsPermutation-middle low e high))
      go false rest = IsPermutation-cons e (taken_in row) (low ++ high) rest

  -- and so are all rows
  rows_moved : (hash : Name → ℕ) (s t p from : ℕ) (rows : List (List (Slot V)))
      → IsPermutation (flat_map taken_in rows) (flat_map taken_in (low_rows hash s t p from rows) ++ flat_map taken_in (high_rows hash s t p from rows))
  rows_moved hash s t p from [] = IsPermutation-refl []
  rows_moved hash s t p from (row ∷ rows) =
      let low : List (Name × V) = taken_in (low_row hash p (from * 2 ^ s + t) row) in
      let high : List (Name × V) = taken_in (high_row hash p (from * 2 ^ s + t) row) in
      let lows : List (Name × V) = flat_map taken_in (low_rows hash s t p (from + 1) rows) in
      let highs : List (Name × V) = flat_map taken_in (high_rows hash s t p (from + 1) rows) in
      IsPermutation-trans (taken_in row ++ flat_map taken_in rows) ((low ++ high) ++ (lows ++ highs)) ((low ++ lows) ++ (high ++ highs))
      (IsPermutation-append (taken_in row) (low ++ high) (flat_map taken_in rows) (lows ++ highs) (row_moved _ row) (rows_moved hash s t p (from + 1) rows))
      (swapped low high lows highs)

  pub length-lows : (hash : Name → ℕ) (s t p : ℕ) (rows : List (List (Slot V))) → length (low_rows hash s t p 0 rows) ≡ length rows
  length-lows hash s t p rows = length-map (enumerate_from 0 rows) _ ∙ length-enumerate_from 0 rows

  pub length-highs : (hash : Name → ℕ) (s t p : ℕ) (rows : List (List (Slot V))) → length (high_rows hash s t p 0 rows) ≡ length rows
  length-highs hash s t p rows = length-map (enumerate_from 0 rows) _ ∙ length-enumerate_from 0 rows

  numbered : (rows : List (List (Slot V))) (i : ℕ) → i < length rows → get_or (enumerate_from 0 rows) i (0, []) ≡ (i, get_or rows i [])
  numbered rows i lt =
      let z : 0 + i ≡ i = omega arith in
      get_or-enumerate_from 0 rows i (0, []) lt ∙ ap (λ n. (n, get_or rows i [])) z

  pub low_at : (hash : Name → ℕ) (s t p : ℕ) (rows : List (List (Slot V))) (i : ℕ) → i < length rows → get_or (low_rows hash s t p 0 rows) i [] ≡ low_row hash p (i * 2 ^ s + t) (get_or rows i [])
  low_at hash s t p rows i lt =
      let f : ℕ × List (Slot V) → List (Slot V) = λ e. low_row hash p (e.0 * 2 ^ s + t) e.1 in
      get_or-map f (enumerate_from 0 rows) i (0, []) [] (subst (λ n. i < n) (sym (length-enumerate_from 0 rows)) lt) ∙ ap f (numbered rows i lt)

  pub high_at : (hash : Name → ℕ) (s t p : ℕ) (rows : List (List (Slot V))) (i : ℕ) → i < length rows → get_or (high_rows hash s t p 0 rows) i [] ≡ high_row hash p (i * 2 ^ s + t) (get_or rows i [])
  high_at hash s t p rows i lt =
      let f : ℕ × List (Slot V) → List (Slot V) = λ e. high_row hash p (e.0 * 2 ^ s + t) e.1 in
      get_or-map f (enumerate_from 0 rows) i (0, []) [] (subst (λ n. i < n) (sym (length-enumerate_from 0 rows)) lt) ∙ ap f (numbered rows i lt)

  -- all pairs are kept
  pub split_moved : (hash : Name → ℕ) (s t p : ℕ) (rows : List (List (Slot V))) → IsPermutation (flat_map taken_in rows) (flat_map taken_in (split_rows hash s t p rows))
  unfolding split_rows
  split_moved hash s t p rows =
      subst (IsPermutation (flat_map taken_in rows)) (sym (flat_map-append taken_in (low_rows hash s t p 0 rows) (high_rows hash s t p 0 rows))) (rows_moved hash s t p 0 rows)

  pub length-split : (hash : Name → ℕ) (s t p : ℕ) (rows : List (List (Slot V))) → length (split_rows hash s t p rows) ≡ 2 * length rows
  unfolding split_rows
  length-split hash s t p rows =
      let both = length-append (low_rows hash s t p 0 rows) (high_rows hash s t p 0 rows) in
      let low = length-lows hash s t p rows in
      let high = length-highs hash s t p rows in
      omega arith

  mapped_four : (f : ℕ × List (Slot V) → List (Slot V)) → ((e : ℕ × List (Slot V)) → length (f e) ≡ length e.1) → (rows : List (List (Slot V))) → All (λ (row : List (Slot V)). length row ≡ 4) rows → All (λ (row : List (Slot V)). length row ≡ 4) (map f (enumerate_from 0 rows))
  mapped_four f same rows four =
      All-map (λ (row : List (Slot V)). length row ≡ 4) f (enumerate_from 0 rows)
      (λ i d lt.
      let within : i < length rows = subst (λ n. i < n) (length-enumerate_from 0 rows) lt in
      same (get_or (enumerate_from 0 rows) i d) ∙ ap (λ (e : ℕ × List (Slot V)). length e.1) (get_or-enumerate_from 0 rows i d within) ∙ four i d.1 within)

  pub four-split : (hash : Name → ℕ) (s t p : ℕ) (rows : List (List (Slot V))) → All (λ (row : List (Slot V)). length row ≡ 4) rows → All (λ (row : List (Slot V)). length row ≡ 4) (split_rows hash s t p rows)
  unfolding split_rows
  four-split hash s t p rows four =
      All-append (λ (row : List (Slot V)). length row ≡ 4) (low_rows hash s t p 0 rows) (high_rows hash s t p 0 rows)
      (mapped_four _ (λ e. length-map e.1 _) rows four) (mapped_four _ (λ e. length-map e.1 _) rows four)

-- the first r elements of one list, and then those of another
abbrev pub front : {X : Type 0} → List X → List X → ℕ → List X
front new old r = take r new ++ drop r old

module _ {X : Type 0} where
  front_next : (new old : List X) (r : ℕ) (d : X) → length new ≡ length old → r < length old → set (front new old r) r (get_or new r d) ≡ front new old (suc r)
  front_next [] [] r d e lt = absurd (omega arith)
  front_next [] (x ∷ xs) r d e lt = absurd (omega arith)
  front_next (y ∷ ys) [] r d e lt = absurd (omega arith)
  front_next (y ∷ ys) (x ∷ xs) zero d e lt = refl
  front_next (y ∷ ys) (x ∷ xs) (suc r) d e lt = ap (λ zs. y ∷ zs) (front_next ys xs r d (omega arith) (omega arith))

  pub front_step : (new old : List X) (r : ℕ) (d : X) → length new ≡ length old → r < length old → set (front new old r) r (get_or new r d) ≡ front new old (r + 1)
  front_step new old r d e lt = let next : suc r ≡ r + 1 = omega arith in front_next new old r d e lt ∙ ap (front new old) next

  pub length-front : (new old : List X) (r : ℕ) → length new ≡ length old → r ≤ length old → length (front new old r) ≡ length old
  length-front new old r e le = let a = length-append (take r new) (drop r old) in let t = length-take r new in let d = length-drop r old in omega arith

  -- element r is still the old one
  pub front_at : (new old : List X) (r : ℕ) (d : X) → length new ≡ length old → r < length old → get_or (front new old r) r d ≡ get_or old r d
  front_at [] [] r d e lt = absurd (omega arith)
  front_at [] (x ∷ xs) r d e lt = absurd (omega arith)
  front_at (y ∷ ys) [] r d e lt = absurd (omega arith)
  front_at (y ∷ ys) (x ∷ xs) zero d e lt = refl
  front_at (y ∷ ys) (x ∷ xs) (suc r) d e lt = front_at ys xs r d (omega arith) (omega arith)

  pub front_done : (new old : List X) (r : ℕ) → length new ≡ length old → r ≡ length old → front new old r ≡ new
  front_done new old r e all = ap (λ ys. ys ++ drop r old) (take_all r new (omega arith)) ∙ ap (λ ys. new ++ ys) (drop_all r old (omega arith)) ∙ append-nil new

module _ {V : Type 0} where
  -- as many rows of free slots
  abbrev pub free_rows : List (List (Slot V)) → List (List (Slot V))
  free_rows rows = replicate (length rows) (replicate 4 None)

  pub length-free : (rows : List (List (Slot V))) → length (free_rows rows) ≡ length rows
  length-free rows = length-replicate (length rows) (replicate 4 None)

  pub free_at : (rows : List (List (Slot V))) (r : ℕ) → r < length rows → get_or (free_rows rows) r [] ≡ replicate 4 None
  free_at rows r lt = get_or-replicate (length rows) r (replicate 4 None) [] lt

  -- the first r rows are emptied
  abbrev pub emptied_to : List (List (Slot V)) → ℕ → List (List (Slot V))
  emptied_to rows r = front (free_rows rows) rows r

  module _ (rows now : List (List (Slot V))) (r : ℕ) (is : now ≡ emptied_to rows r) where
    pub length-emptied : r ≤ length rows → length now ≡ length rows
    length-emptied le = ap length is ∙ length-front (free_rows rows) rows r (length-free rows) le

    -- row r is still full
    pub emptied_at : r < length rows → get_or now r [] ≡ get_or rows r []
    emptied_at lt = ap (λ ys. get_or ys r []) is ∙ front_at (free_rows rows) rows r [] (length-free rows) lt

    pub emptied_step : (after : List (List (Slot V))) → r < length rows → after ≡ set now r (replicate 4 None) → after ≡ emptied_to rows (r + 1)
    emptied_step after lt wrote =
        wrote ∙ ap (λ ys. set ys r (replicate 4 None)) is ∙ ap (set (emptied_to rows r) r) (sym (free_at rows r lt))
        ∙ front_step (free_rows rows) rows r [] (length-free rows) lt

    pub emptied_done : r ≡ length rows → now ≡ free_rows rows
    emptied_done all = is ∙ front_done (free_rows rows) rows r (length-free rows) all

module _ {V : Type 0} (hash : Name → ℕ) (s t p : ℕ) (rows : List (List (Slot V))) where
  abbrev lows : List (List (Slot V))
  lows = low_rows hash s t p 0 rows

  abbrev highs : List (List (Slot V))
  highs = high_rows hash s t p 0 rows

  low_long : length lows ≡ length (free_rows rows)
  low_long = length-lows hash s t p rows ∙ sym (length-free rows)

  high_long : length highs ≡ length (free_rows rows)
  high_long = length-highs hash s t p rows ∙ sym (length-free rows)

  -- the rows of the doubled stripe, once the first r rows were moved there
  abbrev pub split_to : ℕ → List (List (Slot V))
  split_to r = front lows (free_rows rows) r ++ front highs (free_rows rows) r

  pub split_start : (now : List (List (Slot V))) → now ≡ replicate (2 * length rows) (replicate 4 None) → now ≡ split_to 0
  split_start now free =
      let twice : 2 * length rows ≡ length rows + length rows = omega arith in
      free ∙ ap (λ n. replicate n (replicate 4 None)) twice ∙ sym (replicate-append-replicate (length rows) (length rows) (replicate 4 None))

  module _ (now : List (List (Slot V))) (r : ℕ) (is : now ≡ split_to r) where
    low_front : r ≤ length rows → length (front lows (free_rows rows) r) ≡ length rows
    low_front le = length-front lows (free_rows rows) r low_long (subst (λ n. r ≤ n) (sym (length-free rows)) le) ∙ length-free rows

    high_front : r ≤ length rows → length (front highs (free_rows rows) r) ≡ length rows
    high_front le = length-front highs (free_rows rows) r high_long (subst (λ n. r ≤ n) (sym (length-free rows)) le) ∙ length-free rows

    length-split_to : r ≤ length rows → length now ≡ 2 * length rows
    length-split_to le =
        let both = ap length is ∙ length-append (front lows (free_rows rows) r) (front highs (free_rows rows) r) in
        let low = low_front le in
        let high = high_front le in
        omega arith

    module _ (lt : r < length rows) where
      -- the two rows that row r is moved to are there
      pub both_below : (r < length now) × (length rows + r < length now)
      both_below = let long = length-split_to (omega arith) in (omega arith, omega arith)

      inside : r < length (free_rows rows)
      inside = subst (λ n. r < n) (sym (length-free rows)) lt

      -- the two rows that row r is moved to are free
      pub low_free : get_or now r [] ≡ replicate 4 None
      low_free =
          ap (λ ys. get_or ys r []) is
          ∙ get_or_append_left (front lows (free_rows rows) r) (front highs (free_rows rows) r) [] r (subst (λ n. r < n) (sym (low_front (omega arith))) lt)
          ∙ front_at lows (free_rows rows) r [] low_long inside ∙ free_at rows r lt

      pub high_free : get_or now (length rows + r) [] ≡ replicate 4 None
      high_free =
          let back : length rows + r - length rows ≡ r = omega arith in
          ap (λ ys. get_or ys (length rows + r) []) is
          ∙ get_or-append_right (front lows (free_rows rows) r) (front highs (free_rows rows) r) (length rows) (length rows + r) [] (low_front (omega arith)) (omega arith)
          ∙ ap (λ n. get_or (front highs (free_rows rows) r) n []) back
          ∙ front_at highs (free_rows rows) r [] high_long inside ∙ free_at rows r lt

      -- row r is moved
      pub split_step : (after : List (List (Slot V))) (b : ℕ) (row : List (Slot V)) → b ≡ r * 2 ^ s + t → row ≡ get_or rows r []
          → after ≡ set (set now r (low_row hash p b row)) (length rows + r) (high_row hash p b row) → after ≡ split_to (r + 1)
      split_step after b row at read wrote =
          let low : low_row hash p b row ≡ get_or lows r [] = ap (λ n. low_row hash p n row) at ∙ ap (low_row hash p (r * 2 ^ s + t)) read ∙ sym (low_at hash s t p rows r lt) in
          let high : high_row hash p b row ≡ get_or highs r [] = ap (λ n. high_row hash p n row) at ∙ ap (high_row hash p (r * 2 ^ s + t)) read ∙ sym (high_at hash s t p rows r lt) in
          let back : length rows + r - length rows ≡ r = omega arith in
          wrote
          ∙ (λ j. set (set (is j) r (low j)) (length rows + r) (high j))
          ∙ ap (λ ys. set ys (length rows + r) (get_or highs r []))
          (set-append_left (front lows (free_rows rows) r) (front highs (free_rows rows) r) r (get_or lows r []) (subst (λ n. r < n) (sym (low_front (omega arith))) lt)
          ∙ ap (λ ys. ys ++ front highs (free_rows rows) r) (front_step lows (free_rows rows) r [] low_long inside))
          ∙ set-append_right (front lows (free_rows rows) (r + 1)) (front highs (free_rows rows) r) (length rows) (length rows + r) (get_or highs r [])
          (length-front lows (free_rows rows) (r + 1) low_long (omega (arith, inside)) ∙ length-free rows) (omega arith)
          ∙ ap (λ n. front lows (free_rows rows) (r + 1) ++ set (front highs (free_rows rows) r) n (get_or highs r [])) back
          ∙ ap (λ ys. front lows (free_rows rows) (r + 1) ++ ys) (front_step highs (free_rows rows) r [] high_long inside)

    pub split_done : r ≡ length rows → now ≡ split_rows hash s t p rows
    unfolding split_rows
    split_done all =
        let end : r ≡ length (free_rows rows) = all ∙ sym (length-free rows) in
        is ∙ (λ j. front_done lows (free_rows rows) r low_long end j ++ front_done highs (free_rows rows) r high_long end j)
