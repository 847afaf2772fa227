-- The slots of rows of four, counted through.
use Rattle.std.proofs.Common.{◌≡◌, ℕ, zero, suc, ◌+◌, ◌-◌, ◌*◌, ◌/◌, ◌%◌, ◌<◌, ◌≤◌, List, [], ◌∷◌, ◌++◌, Option, Some, None, sym, refl, ◌∙◌, ap, length, option_map, arith}
use Rattle.std.specs.Prelude.{flat_map, drop, All}
use Rattle.std.specs.Option.{option_to_list}
use Rattle.std.proofs.lemmas.List.{length-append, get_or_append_left, get_or-append_right, drop_more, drop_all}
use Rattle.std.proofs.lemmas.List.Elements.{All-tail, filter_map-append}
use Rattle.ck_model.specs.Promise.{Name}
use Rattle.ck_model.specs.Listing.{named}
use Rattle.ck_model.specs.Slots.{Slot, slot_at, taken_in}
use Rattle.ck_model.specs.Contents.{row_at}
use Rattle.ck_stripe.specs.Iter.{slots_of, pairs_from, HasSlots}

abbrev IsFour : {X : Type 0} → List X → Type 0
IsFour row = length row ≡ 4

module _ {V : Type 0} where
  length-slots : (rows : List (List (Slot V))) → All IsFour rows → length (slots_of rows) ≡ 4 * length rows
  length-slots [] four = refl
  length-slots (row ∷ rows) four =
      let here : length row ≡ 4 = four 0 [] (omega arith) in
      let rest = length-slots rows (All-tail IsFour row rows four) in
      omega (arith, length-append row (slots_of rows))

  -- slot i of row r has this number among them
  slot_counted : (rows : List (List (Slot V))) → All IsFour rows → (r i n : ℕ) → n ≡ 4 * r + i → i < 4 → r < length rows → slot_at (slots_of rows) n ≡ slot_at (row_at rows r) i
  slot_counted [] four r i n is below lt = absurd (omega arith)
  slot_counted (row ∷ rows) four zero i n is below lt =
      let here : length row ≡ 4 = four 0 [] (omega arith) in
      let same : n ≡ i = omega arith in
      ap (λ m. slot_at (row ++ slots_of rows) m) same ∙ get_or_append_left row (slots_of rows) None i (omega arith)
  slot_counted (row ∷ rows) four (suc r) i n is below lt =
      let here : length row ≡ 4 = four 0 [] (omega arith) in
      get_or-append_right row (slots_of rows) 4 n None here (omega arith) ∙ slot_counted rows (All-tail IsFour row rows four) r i (n - 4) (omega arith) below (omega arith)

  pub pairs_all : (rows : List (List (Slot V))) → pairs_from 0 rows ≡ flat_map taken_in rows
  pairs_all [] = refl
  pairs_all (row ∷ rows) = filter_map-append (λ (s : Slot V). s) row (slots_of rows) ∙ ap (λ es. taken_in row ++ es) (pairs_all rows)

  module _ (rows : List (List (Slot V))) (count n : ℕ) (has : HasSlots rows count) where
    pub none_left : count ≤ n → pairs_from n rows ≡ []
    none_left le = ap taken_in (drop_all n (slots_of rows) (omega (arith, length-slots rows has.four, has.counted)))

    module _ (lt : n < count) where
      in_rows : n / 4 < length rows
      in_rows = omega (arith, has.counted)

      -- the pair of one slot, and those of the slots behind it
      slot_next : pairs_from n rows ≡ option_to_list (slot_at (row_at rows (n / 4)) (n % 4)) ++ pairs_from (n + 1) rows
      slot_next =
          let slots : List (Slot V) = slots_of rows in
          ap taken_in (drop_more slots n None (omega (arith, length-slots rows has.four, has.counted)))
          ∙ split (slot_at slots n) (drop (n + 1) slots)
          ∙ ap (λ s. option_to_list s ++ pairs_from (n + 1) rows) (slot_counted rows has.four (n / 4) (n % 4) n (omega arith) (omega arith) in_rows)
        where
          split : (s : Slot V) (slots : List (Slot V)) → taken_in (s ∷ slots) ≡ option_to_list s ++ taken_in slots
          split None slots = refl
          split (Some e) slots = refl

      -- what was found in the slot
      module _ {K : Type 0} (name : K → Name) (found : Option (K × V)) (is : option_map (named name) found ≡ slot_at (row_at rows (n / 4)) (n % 4)) where
        pub next_left : pairs_from n rows ≡ option_to_list (option_map (named name) found) ++ pairs_from (n + 1) rows
        next_left = slot_next ∙ ap (λ s. option_to_list s ++ pairs_from (n + 1) rows) (sym is)
