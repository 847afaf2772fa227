-- Lemmas on what is seen of rows, and on their heads.
use Rattle.std.proofs.Common.{IsSome, is_some, ◌≡◌, ◌≢◌, ℕ, ◌+◌, ◌*◌, ◌/◌, ◌%◌, ◌^◌, ◌<◌, ◌≤◌, List, [], Option, Some, None, true, false, refl, sym, ◌∙◌, ap, subst, map, get_or, slice_index, slice_index_or, option_map, replicate, set, length, arith, ◌⊎◌, inl, inr}
use Rattle.std.proofs.lemmas.Bool.{cases_eq, cases_lt}
use Rattle.std.proofs.lemmas.List.{get_or-set_same, get_or-set_other, length-set, length-map, length-replicate, get_or-replicate, get_or_past, set-get_or, get_or-map, map-set}
use Rattle.std.proofs.lemmas.Option.{same_Some, none-some}
use Rattle.ck_model.specs.Arithmetic.{partial_of}
use Rattle.ck_model.specs.Promise.{Name}
use Rattle.ck_model.specs.Listing.{named}
use Rattle.ck_model.specs.Slots.{Slot, slot_at}
use Rattle.ck_model.specs.Contents.{row_at}
use Rattle.ck_model.specs.Paths.{partial_in}
use Rattle.ck_bucket.specs.declared.head.Head.{Head}
use Rattle.ck_bucket.specs.Bucket.{seen_slots, ReplacesValue}
use Rattle.ck_bucket.specs.Rows.{in_fours, no_entry, IsHeadOf, KeepsHeads}
use Rattle.ck_bucket.proofs.Fours.{length-fours, fours-at, fours-set, fours-free, free-at}
use Rattle.ck_bucket.proofs.SeenSlots.{seen-at, seen-set, partials-set, partials-clear, partials-replaced}

module _ {V : Type 0} {hash : Name → ℕ} where
  -- a flag says whether the slot is taken
  pub flag-at : {head : Head} {row : List (Slot V)} (told : IsHeadOf hash head row) (i : ℕ) → i < 4 → get_or head.taken i false ≡ is_some (slot_at row i)
  flag-at {row} told i below = ap (λ flags. get_or flags i false) told.flags ∙ get_or-map is_some row i None false (omega (arith, told.partials.four))

  pub partial-seen : {head : Head} {row : List (Slot V)} (told : IsHeadOf hash head row) (i : ℕ) → i < 4 → get_or head.taken i false ≡ true → Some (slice_index head.partials i) ≡ partial_in hash (slot_at row i)
  partial-seen {head} {row} told i below flag = go (slot_at row i) refl (sym (flag-at told i below) ∙ flag)
    where
      go : (s : Slot V) → slot_at row i ≡ s → is_some s ≡ true → Some (slice_index head.partials i) ≡ partial_in hash s
      go None is full = cc
      go (Some e) is full = ap Some (told.partials.partial i e.0 e.1 is)

  pub head-put : {head : Head} {row : List (Slot V)} (told : IsHeadOf hash head row) (i t : ℕ) (n : Name) (v : V) → i < 4 → t ≡ partial_of (hash n)
      → IsHeadOf hash (record { partials = set head.partials i t; taken = set head.taken i true }) (set row i (Some (n, v)))
  head-put {head} {row} told i t n v below is = record {
    wide = length-set head.partials i t ∙ told.wide;
    flags = ap (λ flags. set flags i true) told.flags ∙ sym (map-set is_some row i (Some (n, v)));
    partials = partials-set hash head.partials row i t n v below told.wide is told.partials;
  }

  pub head-clear : {head : Head} {row : List (Slot V)} (told : IsHeadOf hash head row) (i : ℕ) → IsHeadOf hash (record { partials = head.partials; taken = set head.taken i false }) (set row i None)
  head-clear {head} {row} told i = record {
    wide = told.wide;
    flags = ap (λ flags. set flags i false) told.flags ∙ sym (map-set is_some row i None);
    partials = partials-clear hash head.partials row i told.partials;
  }

  -- a taken slot gets another value
  pub head-kept : {head : Head} {row : List (Slot V)} (told : IsHeadOf hash head row) (i : ℕ) (n : Name) (old value : V) → i < 4 → slot_at row i ≡ Some (n, old) → IsHeadOf hash head (set row i (Some (n, value)))
  head-kept {head} {row} told i n old value below was =
      let flag : get_or (map is_some row) i false ≡ true = get_or-map is_some row i None false (omega (arith, told.partials.four)) ∙ ap is_some was in
      record {
        wide = told.wide;
        flags = told.flags ∙ sym (map-set is_some row i (Some (n, value)) ∙ ap (set (map is_some row) i) (sym flag) ∙ set-get_or (map is_some row) i false);
        partials = partials-replaced hash head.partials row _ i value old told.partials (record { name = n; was = was; is = refl });
      }

  -- a head and a slot of its row are written
  pub kept-set : {heads : List (Option Head)} {slots : List (Slot V)} (kept : KeepsHeads hash heads slots) (r i : ℕ) (head : Head) (s : Slot V) → r < length (in_fours slots) → i < 4
      → IsHeadOf hash head (set (row_at (in_fours slots) r) i s) → KeepsHeads hash (set heads r (Some head)) (set slots (r * 4 + i) s)
  kept-set {heads} {slots} kept r i head s within below told = record {
    four = length-set slots (r * 4 + i) s ∙ kept.four ∙ ap (λ n. 4 * n) (sym (length-set heads r (Some head)));
    few = omega (arith, kept.few, length-set heads r (Some head));
    head = λ q l. go q (omega (arith, l, length-set heads r (Some head))) (cases_eq q r);
  }
    where
      count : length (in_fours slots) ≡ length heads
      count = length-fours (length heads) slots kept.four

      is : in_fours (set slots (r * 4 + i) s) ≡ set (in_fours slots) r (set (row_at (in_fours slots) r) i s)
      is = fours-set slots r i (r * 4 + i) s refl below within

      go : (q : ℕ) → q < length heads → (q ≡ r) ⊎ (q ≢ r) → (h : Head) × (slice_index_or (set heads r (Some head)) q None ≡ Some h) × IsHeadOf hash h (row_at (in_fours (set slots (r * 4 + i) s)) q)
      go q l (inl same) = (
        head,
        rw same (get_or-set_same heads r (Some head) None (omega (arith, count))),
        rw (is, same) (rw (get_or-set_same (in_fours slots) r (set (row_at (in_fours slots) r) i s) [] within) told),
      )
      go q l (inr other) = let was = kept.head q l in (
        was.0,
        get_or-set_other heads r q (Some head) None other ∙ was.1,
        rw is (rw (get_or-set_other (in_fours slots) r q (set (row_at (in_fours slots) r) i s) [] other) was.2),
      )

none_from : {X : Type 0} (o : Option X) → is_some o ≡ false → o ≡ None
none_from None e = refl
none_from (Some x) e = cc

is_some-map : {X Y : Type 0} (f : X → Y) (o : Option X) → is_some (option_map f o) ≡ is_some o
is_some-map f None = refl
is_some-map f (Some x) = refl

-- what is known where row r of these rows is read
pub record IsRow {K V : Type 0} (name : K → Name) (hash : Name → ℕ) (heads : List (Option Head)) (items : List (Option (K × V))) (rows : List (List (Slot V))) (r : ℕ) : Type 0 where
  pub view : in_fours (seen_slots name items) ≡ rows
  pub kept : KeepsHeads hash heads (seen_slots name items)
  pub within : r < length rows

pub read_row : {K V : Type 0} {name : K → Name} {hash : Name → ℕ} {heads : List (Option Head)} {items : List (Option (K × V))} {rows : List (List (Slot V))} {r : ℕ}
    → in_fours (seen_slots name items) ≡ rows → KeepsHeads hash heads (seen_slots name items) → r < length rows → IsRow name hash heads items rows r
read_row view kept within = record { view = view; kept = kept; within = within }

module _ {K V : Type 0} {name : K → Name} {hash : Name → ℕ} {heads : List (Option Head)} {items : List (Option (K × V))} {rows : List (List (Slot V))} {r : ℕ} (row : IsRow name hash heads items rows r) where
  inside : r < length (in_fours (seen_slots name items))
  inside = rw row.view row.within

  told : (h : Head) × (slice_index_or heads r None ≡ Some h) × IsHeadOf hash h (row_at rows r)
  told = let was = row.kept.head r (omega (arith, inside, length-fours (length heads) (seen_slots name items) row.kept.four)) in
      (was.0, was.1, subst (λ rs. IsHeadOf hash was.0 (row_at rs r)) row.view was.2)

  pub head-there : IsSome (slice_index_or heads r None)
  head-there = ap is_some told.1

  pub head-told : {head : Head} → slice_index_or heads r None ≡ Some head → IsHeadOf hash head (row_at rows r)
  head-told {head} is = subst (λ h. IsHeadOf hash h (row_at rows r)) (same_Some _ _ (sym told.1 ∙ is)) told.2

  pub row-four : length (row_at rows r) ≡ 4
  row-four = told.2.partials.four

  -- a slot of the row as it is seen
  pub slot-seen : (i : ℕ) → i < 4 → slot_at (row_at rows r) i ≡ option_map (named name) (slice_index_or items (r * 4 + i) None)
  slot-seen i below = ap (λ rs. slot_at (row_at rs r) i) (sym row.view) ∙ fours-at (seen_slots name items) r i (r * 4 + i) refl below inside ∙ seen-at name items (r * 4 + i)

  -- the flag of a slot that is taken, and of a place that is full
  pub slot-taken : {head : Head} → slice_index_or heads r None ≡ Some head → (i : ℕ) → i < 4 → get_or head.taken i false ≡ true → IsSome (slot_at (row_at rows r) i)
  slot-taken is i below flag = sym (flag-at (head-told is) i below) ∙ flag

  pub slot-free : {head : Head} → slice_index_or heads r None ≡ Some head → (i : ℕ) → i < 4 → get_or head.taken i false ≡ false → slot_at (row_at rows r) i ≡ None
  slot-free is i below flag = none_from _ (sym (flag-at (head-told is) i below) ∙ flag)

  pub place-full : (i : ℕ) → i < 4 → IsSome (slot_at (row_at rows r) i) → IsSome (slice_index_or items (r * 4 + i) None)
  place-full i below full = sym (is_some-map (named name) (slice_index_or items (r * 4 + i) None)) ∙ ap is_some (sym (slot-seen i below)) ∙ full

  pub place-empty : (i : ℕ) → i < 4 → slot_at (row_at rows r) i ≡ None → slice_index_or items (r * 4 + i) None ≡ None
  place-empty i below free = none_from _ (sym (is_some-map (named name) (slice_index_or items (r * 4 + i) None)) ∙ ap is_some (sym (slot-seen i below) ∙ free))

  -- place i of the row is written
  module _ {after : List (Option (K × V))} (i : ℕ) (o : Option (K × V)) (below : i < 4) (put : after ≡ set items (r * 4 + i) o) where
    pub rows-set : in_fours (seen_slots name after) ≡ set rows r (set (row_at rows r) i (option_map (named name) o))
    rows-set = ap (λ xs. in_fours (seen_slots name xs)) put ∙ ap in_fours (seen-set name items (r * 4 + i) o)
        ∙ fours-set (seen_slots name items) r i (r * 4 + i) (option_map (named name) o) refl below inside
        ∙ ap (λ rs. set rs r (set (row_at rs r) i (option_map (named name) o))) row.view

    pub heads-set : (head : Head) → IsHeadOf hash head (set (row_at rows r) i (option_map (named name) o)) → KeepsHeads hash (set heads r (Some head)) (seen_slots name after)
    heads-set head is = rw (put, seen-set name items (r * 4 + i) o)
        (kept-set row.kept r i head (option_map (named name) o) inside below (rw row.view is))

  pub row-below : r < 2 ^ 26
  row-below = omega (arith, inside, row.kept.few, length-fours (length heads) (seen_slots name items) row.kept.four)

  -- the value of place i of the row is written, beside its key
  module _ {after : List (Option (K × V))} (i : ℕ) (e : K × V) (value : V) (below : i < 4) (is : slice_index_or items (r * 4 + i) None ≡ Some e) (put : after ≡ set items (r * 4 + i) (Some (e.0, value))) where
    row-written : row_at (in_fours (seen_slots name after)) r ≡ set (row_at rows r) i (Some (name e.0, value))
    row-written = ap (λ rs. row_at rs r) (rows-set i (Some (e.0, value)) below put) ∙ get_or-set_same rows r _ [] row.within

    seen : slot_at (row_at rows r) i ≡ Some (name e.0, e.1)
    seen = slot-seen i below ∙ ap (option_map (named name)) is

    pub value-replaced : (old : V) → old ≡ e.1 → ReplacesValue (row_at rows r) (row_at (in_fours (seen_slots name after)) r) i value old
    value-replaced old same = record { name = name e.0; was = seen ∙ ap (λ v. Some (name e.0, v)) (sym same); is = row-written }

    pub value-rest : in_fours (seen_slots name after) ≡ set rows r (row_at (in_fours (seen_slots name after)) r)
    value-rest = rows-set i (Some (e.0, value)) below put ∙ ap (set rows r) (sym row-written)

    pub value-kept : KeepsHeads hash heads (seen_slots name after)
    value-kept = subst (λ hs. KeepsHeads hash hs (seen_slots name after)) (ap (set heads r) (sym told.1) ∙ set-get_or heads r None)
        (heads-set i (Some (e.0, value)) below put told.0 (head-kept told.2 i (name e.0) e.1 value below seen))

-- the head of a row of free slots
free-told : {V : Type 0} (hash : Name → ℕ) → IsHeadOf {V = V} hash no_entry (replicate 4 None)
free-told hash = record {
  wide = refl;
  flags = refl;
  partials = record { four = refl; partial = λ i n v e. absurd (none-some _ (sym (free-at i) ∙ e)) };
}

-- rows that are opened
pub kept-free : {K V : Type 0} (name : K → Name) (hash : Name → ℕ) (heads : List (Option Head)) (items : List (Option (K × V))) (n m : ℕ) → n ≤ 2 ^ 26 → m ≡ n * 4 → n ≡ length heads
    → ((r : ℕ) → r < n → slice_index_or heads r None ≡ Some no_entry) → items ≡ replicate m None → KeepsHeads hash heads (seen_slots name items)
kept-free {V} name hash heads items n m few is count full empty = rw empty (record {
  four = length-map (replicate m None) (option_map (named name)) ∙ length-replicate m None ∙ omega arith;
  few = omega arith;
  head = λ r l. (
    no_entry,
    full r (omega (arith, l)),
    rw (fours-free (named name) n m is) (rw (get_or-replicate n r (replicate {A = Slot V} 4 None) [] (omega (arith, l))) (free-told hash)),
  );
})

module _ {K V : Type 0} {heads : List (Option Head)} {rows : List (List (Slot V))} {hash : Name → ℕ} (name : K → Name) (items : List (Option (K × V))) (view : in_fours (seen_slots name items) ≡ rows) (kept : KeepsHeads hash heads (seen_slots name items)) where
  -- there are as many heads as rows
  pub heads-count : length rows ≡ length heads
  heads-count = ap length (sym view) ∙ length-fours (length heads) (seen_slots name items) kept.four

  -- where each slot of each row is free, each place is empty
  pub places-free : ((r : ℕ) → r < length rows → row_at rows r ≡ replicate 4 None) → (j : ℕ) → slice_index_or items j None ≡ None
  places-free free j = go (cases_lt (j / 4) (length rows))
    where
      go : (j / 4 < length rows) ⊎ (length rows ≤ j / 4) → slice_index_or items j None ≡ None
      go (inl within) =
          let same : j / 4 * 4 + j % 4 ≡ j = omega arith in
          let below : j % 4 < 4 = omega arith in
          subst (λ k. slice_index_or items k None ≡ None) same
          (place-empty (read_row view kept within) (j % 4) below (ap (λ row. slot_at row (j % 4)) (free (j / 4) within) ∙ free-at (j % 4)))
      go (inr past) = get_or_past items j None (omega (arith, heads-count, sym (length-map items (option_map (named name))) ∙ kept.four))
