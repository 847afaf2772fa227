-- How many entries rows have, and rows with none.
use Rattle.std.proofs.Common.{◌≡◌, ℕ, zero, suc, refl, sym, ◌∙◌, ap, subst, ◌+◌, ◌-◌, ◌*◌, ◌/◌, ◌^◌, ◌<◌, ◌≤◌, List, [], ◌∷◌, Option, Some, None, IsSome, length, get_or, set, replicate, arith}
use Rattle.std.specs.Prelude.{flat_map, All}
use Rattle.std.specs.Option.{option_to_list}
use Rattle.std.proofs.Math.Pow.{pow_mono}
use Rattle.std.proofs.lemmas.Nat.{pow_pos, div_below}
use Rattle.std.proofs.lemmas.Bool.{true≢false}
use Rattle.std.proofs.lemmas.Option.{none-some}
use Rattle.std.proofs.lemmas.List.{length-append, length-replicate}
use Rattle.std.proofs.lemmas.List.Elements.{All-replicate}
use Rattle.ck_model.specs.declared.contents.Content.{Content}
use Rattle.ck_model.specs.Promise.{Name}
use Rattle.ck_model.specs.Slots.{Slot, slot_at, taken_in}
use Rattle.ck_model.specs.Contents.{Layout, row_at, empty_content, NamesApart, IsShaped, IsSound}
use Rattle.ck_stripe.specs.Stripe.{StripeState, HasBucket}
use Rattle.ck_stripe.proofs.Doubled.{all_buckets}

-- the number of pairs, where one row is written
pub count_rows : {X : Type 0} (rows : List (List (Option X))) (r : ℕ) (row : List (Option X)) → r < length rows
    → length (flat_map taken_in (set rows r row)) + length (taken_in (get_or rows r [])) ≡ length (flat_map taken_in rows) + length (taken_in row)
count_rows [] r row lt = absurd (omega arith)
count_rows (x ∷ rows) zero row lt =
    let a = length-append (taken_in row) (flat_map taken_in rows) in
    let b = length-append (taken_in x) (flat_map taken_in rows) in
    omega arith
count_rows (x ∷ rows) (suc r) row lt =
    let a = length-append (taken_in x) (flat_map taken_in (set rows r row)) in
    let b = length-append (taken_in x) (flat_map taken_in rows) in
    let again = count_rows rows r row (omega arith) in
    omega arith

-- and where one slot is written
pub count_slots : {X : Type 0} (slots : List (Option X)) (i : ℕ) (o : Option X) → i < length slots
    → length (taken_in (set slots i o)) + length (option_to_list (get_or slots i None)) ≡ length (taken_in slots) + length (option_to_list o)
count_slots [] i o lt = absurd (omega arith)
count_slots (None ∷ slots) zero None lt = refl
count_slots (None ∷ slots) zero (Some e) lt = omega arith
count_slots (Some x ∷ slots) zero None lt = omega arith
count_slots (Some x ∷ slots) zero (Some e) lt = refl
count_slots (None ∷ slots) (suc i) o lt = count_slots slots i o (omega arith)
count_slots (Some x ∷ slots) (suc i) o lt = let again = count_slots slots i o (omega arith) in omega arith

few_taken : {X : Type 0} (slots : List (Option X)) → length (taken_in slots) ≤ length slots
few_taken [] = omega arith
few_taken (None ∷ slots) = let again = few_taken slots in omega arith
few_taken (Some x ∷ slots) = let again = few_taken slots in omega arith

pub few_pairs : {X : Type 0} (rows : List (List (Option X))) → All (λ (row : List (Option X)). length row ≡ 4) rows → length (flat_map taken_in rows) ≤ 4 * length rows
few_pairs [] four = omega arith
few_pairs (row ∷ rows) four =
    let a = length-append (taken_in row) (flat_map taken_in rows) in
    let b = few_taken row in
    let c : length row ≡ 4 = four 0 [] (omega arith) in
    let again = few_pairs rows (λ i d lt. four (suc i) d (omega arith)) in
    omega arith

pub no_pairs : (X : Type 0) (n : ℕ) → flat_map (taken_in {X = X}) (replicate n (replicate 4 None)) ≡ []
no_pairs W zero = refl
no_pairs W (suc n) = no_pairs W n

no_entry : (V : Type 0) (n r i : ℕ) → slot_at {V = V} (row_at {V = V} (replicate n (replicate 4 None)) r) i ≡ None
no_entry W zero r i = refl
no_entry W (suc n) zero i = free 4 i
  where
    free : (m j : ℕ) → slot_at {V = W} (replicate m None) j ≡ None
    free zero j = refl
    free (suc m) zero = refl
    free (suc m) (suc j) = free m j
no_entry W (suc n) (suc r) i = no_entry W n r i

pub one_full : {X : Type 0} (o : Option X) → IsSome o → length (option_to_list o) ≡ 1
one_full None h = absurd (true≢false (sym h))
one_full (Some x) h = refl

module _ {V : Type 0} where
  pub row_below : (t : StripeState V) (b : ℕ) → IsShaped t.s t.content → HasBucket t b → b / 2 ^ t.s < length t.content.rows
  row_below t b shaped own =
      let all : 2 ^ t.content.power ≡ length t.content.rows * 2 ^ t.s = all_buckets t.s t.content.power (length t.content.rows) shaped.least shaped.rows in
      div_below b (2 ^ t.s) (length t.content.rows) (pow_pos t.s) (subst (λ n. b < n) all own.0)

  pub few_entries : (s : ℕ) (c : Content V) → IsShaped s c → c.power ≤ 26 → c.ledger ≤ 4 * 2 ^ 26
  few_entries s c shaped most =
      let few = few_pairs c.rows shaped.four in
      let rows = shaped.rows in
      let less : c.power - s ≤ 26 = omega (arith, most) in
      let end : 2 ^ (c.power - s) ≤ 2 ^ 26 = pow_mono less in
      let is = shaped.ledger in
      omega arith

  shaped_empty : (s power : ℕ) → s ≤ power → IsShaped s (empty_content {V = V} s power)
  shaped_empty s power least = record {
    least = least;
    rows = length-replicate (2 ^ (power - s)) (replicate 4 None);
    four = All-replicate (λ (row : List (Slot V)). length row ≡ 4) (2 ^ (power - s)) (replicate 4 None) refl;
    ledger = sym (ap length (no_pairs (Name × V) (2 ^ (power - s))));
  }

  -- an empty content is sound
  pub sound_empty : (k : Layout) (t s power : ℕ) → k.s ≡ s → t < 2 ^ s → s ≤ power → power ≤ k.max → IsSound {V = V} k t (empty_content s power)
  sound_empty k t s power same below least most = record {
    number = subst (λ n. t < 2 ^ n) (sym same) below;
    most = most;
    shaped = subst (λ n. IsShaped n (empty_content {V = V} s power)) (sym same) (shaped_empty s power least);
    placed = λ r i q v e. absurd (none-some _ (sym (no_entry V (2 ^ (power - s)) r i) ∙ e));
    apart = subst NamesApart (sym (no_pairs (Name × V) (2 ^ (power - s)))) tt;
  }
