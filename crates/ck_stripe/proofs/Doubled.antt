-- A content doubled.
use Rattle.std.proofs.Common.{◌≡◌, ◌⊎◌, inl, inr, ℕ, zero, suc, Bool, true, false, not, cond, refl, sym, ◌∙◌, ap, subst, ◌+◌, ◌-◌, ◌*◌, ◌/◌, ◌^◌, ◌<◌, ◌≤◌, List, [], ◌∷◌, ◌++◌, Option, Some, None, length, map, get_or, arith}
use Rattle.std.specs.FinMap.{find}
use Rattle.std.specs.List.Sorted.{IsPermutation}
use Rattle.std.proofs.Math.Nat.{mul_comm, add-mul, add-mul-div_right}
use Rattle.std.proofs.lemmas.Nat.{pow-add, pow_pos, div_below, div-add-mod'}
use Rattle.std.proofs.lemmas.Bool.{cases_lt, not-true}
use Rattle.std.proofs.lemmas.Option.{none-some, same_Some}
use Rattle.std.proofs.lemmas.List.{get_or_append_left, get_or-append_right, get_or_past}
use Rattle.std.proofs.lemmas.List.Sorted.{length_permutation}
use Rattle.ck_model.specs.Arithmetic.{index_of, second_of}
use Rattle.ck_model.specs.Promise.{Name, name_cmp}
use Rattle.ck_model.specs.Slots.{Slot, slot_at}
use Rattle.ck_model.specs.declared.contents.Content.{Content}
use Rattle.ck_model.specs.Contents.{Layout, row_at, pairs_in, IsBucketOf, IsShaped, IsSound}
use Rattle.ck_key.specs.Doubling.{grown_of, rises_of}
use Rattle.ck_key.proofs.Doubling.{grown_own, stays_at, rises_to}
use Rattle.ck_bucket.specs.Bucket.{kept_if, low_row, high_row}
use Rattle.ck_stripe.specs.Doubling.{low_rows, high_rows, split_rows, doubled_content, SendsEach}
use Rattle.ck_stripe.proofs.Splits.{split_moved, length-lows, length-highs, length-split, low_at, high_at, four-split}
use Rattle.ck_model.proofs.Pairs.{apart-permuted, find-permuted}

own_at : (p b h target : ℕ) → grown_of p b h ≡ target → (target ≡ index_of (p + 1) h) ⊎ (target ≡ second_of (p + 1) h)
own_at p b h target e = go (grown_own p b h)
  where
    go : (grown_of p b h ≡ index_of (p + 1) h) ⊎ (grown_of p b h ≡ second_of (p + 1) h) → (target ≡ index_of (p + 1) h) ⊎ (target ≡ second_of (p + 1) h)
    go (inl f) = inl (sym e ∙ f)
    go (inr f) = inr (sym e ∙ f)

slot_map : {X : Type 0} (f : Option X → Option X) → f None ≡ None → (row : List (Option X)) (i : ℕ) → get_or (map f row) i None ≡ f (get_or row i None)
slot_map f e [] i = sym e
slot_map f e (x ∷ row) zero = refl
slot_map f e (x ∷ row) (suc i) = slot_map f e row i

-- 2^(p - s) rows of each of 2^s stripes are 2^p buckets
pub all_buckets : (s p n : ℕ) → s ≤ p → n ≡ 2 ^ (p - s) → 2 ^ p ≡ n * 2 ^ s
all_buckets s p n le is =
    let e : p ≡ (p - s) + s = omega arith in
    ap (λ x. 2 ^ x) e ∙ pow-add 2 (p - s) s ∙ ap (λ x. x * 2 ^ s) (sym is)

pub twice_rows : (s p n : ℕ) → s ≤ p → n ≡ 2 ^ (p - s) → 2 * n ≡ 2 ^ (p + 1 - s)
twice_rows s p n le is =
    let up : p + 1 - s ≡ (p - s) + 1 = omega arith in
    ap (λ x. 2 * x) is ∙ mul_comm 2 (2 ^ (p - s)) ∙ sym (pow-add 2 (p - s) 1) ∙ ap (λ x. 2 ^ x) (sym up)

module _ {V : Type 0} where
  kept_passes : (test : Name → Bool) (q : Name) (v : V) → test q ≡ true → kept_if test (Some (q, v)) ≡ Some (q, v)
  kept_passes test q v e = ap (λ b. cond b (Some (q, v)) None) e

  -- what a slot keeps has passed the test and was there
  passed : (test : Name → Bool) (slot : Slot V) (q : Name) (v : V) → kept_if test slot ≡ Some (q, v) → (test q ≡ true) × (slot ≡ Some (q, v))
  passed test None q v e = absurd (none-some _ e)
  passed test (Some x) q v e = go (test x.0) refl e
    where
      go : (b : Bool) → test x.0 ≡ b → cond b (Some x) None ≡ Some (q, v) → (test q ≡ true) × (Some x ≡ Some (q, v))
      go true s h = (ap (λ (y : Name × V). test y.0) (sym (same_Some x (q, v) h)) ∙ s, h)
      go false s h = absurd (none-some _ h)

  kept_slot : (test : Name → Bool) (row : List (Slot V)) (i : ℕ) (q : Name) (v : V) → slot_at (map (kept_if test) row) i ≡ Some (q, v) → (test q ≡ true) × (slot_at row i ≡ Some (q, v))
  kept_slot test row i q v e = passed test (slot_at row i) q v (sym (slot_map (kept_if test) refl row i) ∙ e)

  -- each entry stands in a bucket of its name
  abbrev pub ArePlaced : (Name → ℕ) → ℕ → ℕ → Content V → Type 0
  ArePlaced hash s t c = (r i : ℕ) (q : Name) (v : V) → slot_at (row_at c.rows r) i ≡ Some (q, v) → IsBucketOf hash c.power q (r * 2 ^ s + t)

  placed_doubled : (hash : Name → ℕ) (s t : ℕ) (c : Content V) → s ≤ c.power → length c.rows ≡ 2 ^ (c.power - s) → ArePlaced hash s t c → ArePlaced hash s t (doubled_content hash s t c)
  unfolding split_rows
  placed_doubled hash s t c least long placed r i q v at = go (cases_lt r (length c.rows))
    where
      lows : List (List (Slot V))
      lows = low_rows hash s t c.power 0 c.rows

      highs : List (List (Slot V))
      highs = high_rows hash s t c.power 0 c.rows

      Own : Type 0
      Own = IsBucketOf hash (c.power + 1) q (r * 2 ^ s + t)

      low : r < length c.rows → Own
      low lt =
          let row : get_or (lows ++ highs) r [] ≡ low_row hash c.power (r * 2 ^ s + t) (get_or c.rows r []) =
          get_or_append_left lows highs [] r (subst (λ n. r < n) (sym (length-lows hash s t c.power c.rows)) lt) ∙ low_at hash s t c.power c.rows r lt in
          let was = kept_slot (λ n. not (rises_of c.power (r * 2 ^ s + t) (hash n))) (get_or c.rows r []) i q v (ap (λ (x : List (Slot V)). slot_at x i) (sym row) ∙ at) in
          own_at c.power (r * 2 ^ s + t) (hash q) (r * 2 ^ s + t) (stays_at c.power (r * 2 ^ s + t) (hash q) (not-true _ was.0))

      up : (n : ℕ) → n ≡ r - length c.rows → length c.rows ≤ r → n * 2 ^ s + t + 2 ^ c.power ≡ r * 2 ^ s + t
      up n is le =
          let all : 2 ^ c.power ≡ length c.rows * 2 ^ s = all_buckets s c.power (length c.rows) least long in
          let sum : n + length c.rows ≡ r = omega arith in
          let parts : r * 2 ^ s ≡ n * 2 ^ s + length c.rows * 2 ^ s = ap (λ x. x * 2 ^ s) (sym sum) ∙ add-mul n (length c.rows) (2 ^ s) in
          omega arith

      high : length c.rows ≤ r → (n : ℕ) → n ≡ r - length c.rows → (n < length c.rows) ⊎ (length c.rows ≤ n) → Own
      high le n is (inl lt) =
          let row : get_or (lows ++ highs) r [] ≡ high_row hash c.power (n * 2 ^ s + t) (get_or c.rows n []) =
          get_or-append_right lows highs (length c.rows) r [] (length-lows hash s t c.power c.rows) le ∙ ap (λ x. get_or highs x []) (sym is) ∙ high_at hash s t c.power c.rows n lt in
          let was = kept_slot (λ x. rises_of c.power (n * 2 ^ s + t) (hash x)) (get_or c.rows n []) i q v (ap (λ (x : List (Slot V)). slot_at x i) (sym row) ∙ at) in
          own_at c.power (n * 2 ^ s + t) (hash q) (r * 2 ^ s + t) (rises_to c.power (n * 2 ^ s + t) (hash q) (placed n i q v was.1) was.0 ∙ up n is le)
      high le n is (inr past) =
          let row : get_or (lows ++ highs) r [] ≡ [] =
          get_or-append_right lows highs (length c.rows) r [] (length-lows hash s t c.power c.rows) le ∙ ap (λ x. get_or highs x []) (sym is)
          ∙ get_or_past highs n [] (subst (λ x. x ≤ n) (sym (length-highs hash s t c.power c.rows)) past) in
          absurd (none-some _ (ap (λ (x : List (Slot V)). slot_at x i) (sym row) ∙ at))

      go : (r < length c.rows) ⊎ (length c.rows ≤ r) → Own
      go (inl lt) = low lt
      go (inr le) = high le (r - length c.rows) refl (cases_lt (r - length c.rows) (length c.rows))

  pub sends_doubled : (hash : Name → ℕ) (s t : ℕ) (c : Content V) → s ≤ c.power → length c.rows ≡ 2 ^ (c.power - s) → SendsEach hash s t c (doubled_content hash s t c)
  unfolding split_rows
  sends_doubled hash s t c least long b i q v below own of_name at = go (rises_of c.power b (hash q)) refl
    where
      lows : List (List (Slot V))
      lows = low_rows hash s t c.power 0 c.rows

      highs : List (List (Slot V))
      highs = high_rows hash s t c.power 0 c.rows

      r : ℕ
      r = b / 2 ^ s

      size : 2 ^ c.power ≡ length c.rows * 2 ^ s
      size = all_buckets s c.power (length c.rows) least long

      lt : r < length c.rows
      lt = div_below b (2 ^ s) (length c.rows) (pow_pos s) (subst (λ n. b < n) size below)

      whole : r * 2 ^ s + t ≡ b
      whole = ap (λ n. r * 2 ^ s + n) (sym own) ∙ div-add-mod' b (2 ^ s)

      go : (up : Bool) → rises_of c.power b (hash q) ≡ up → slot_at (row_at (lows ++ highs) (grown_of c.power b (hash q) / 2 ^ s)) i ≡ Some (q, v)
      go false e =
          ap (λ n. slot_at (row_at (lows ++ highs) (n / 2 ^ s)) i) (stays_at c.power b (hash q) e)
          ∙ ap (λ (row : List (Slot V)). slot_at row i) (get_or_append_left lows highs [] r (subst (λ n. r < n) (sym (length-lows hash s t c.power c.rows)) lt) ∙ low_at hash s t c.power c.rows r lt)
          ∙ ap (λ n. slot_at (low_row hash c.power n (row_at c.rows r)) i) whole
          ∙ slot_map (kept_if (λ n. not (rises_of c.power b (hash n)))) refl (row_at c.rows r) i
          ∙ ap (kept_if (λ n. not (rises_of c.power b (hash n)))) at
          ∙ kept_passes (λ n. not (rises_of c.power b (hash n))) q v (ap not e)
      go true e =
          let up : grown_of c.power b (hash q) / 2 ^ s ≡ r + length c.rows =
          ap (λ n. n / 2 ^ s) (rises_to c.power b (hash q) of_name e ∙ ap (λ n. b + n) size) ∙ add-mul-div_right b (length c.rows) (pow_pos s) in
          let past : length c.rows ≤ r + length c.rows = omega arith in
          let back : r + length c.rows - length c.rows ≡ r = omega arith in
          ap (λ n. slot_at (row_at (lows ++ highs) n) i) up
          ∙ ap (λ (row : List (Slot V)). slot_at row i) (get_or-append_right lows highs (length c.rows) (r + length c.rows) [] (length-lows hash s t c.power c.rows) past ∙ ap (λ n. get_or highs n []) back ∙ high_at hash s t c.power c.rows r lt)
          ∙ ap (λ n. slot_at (high_row hash c.power n (row_at c.rows r)) i) whole
          ∙ slot_map (kept_if (λ n. rises_of c.power b (hash n))) refl (row_at c.rows r) i
          ∙ ap (kept_if (λ n. rises_of c.power b (hash n))) at
          ∙ kept_passes (λ n. rises_of c.power b (hash n)) q v e

  pub pairs_doubled : (hash : Name → ℕ) (s t : ℕ) (c : Content V) → IsPermutation (pairs_in c) (pairs_in (doubled_content hash s t c))
  pairs_doubled hash s t c = split_moved hash s t c.power c.rows

  pub shaped_doubled : (hash : Name → ℕ) (s t : ℕ) (c : Content V) → IsShaped s c → IsShaped s (doubled_content hash s t c)
  shaped_doubled hash s t c shaped = record {
    least = omega (arith, shaped.least);
    rows = length-split hash s t c.power c.rows ∙ twice_rows s c.power (length c.rows) shaped.least shaped.rows;
    four = four-split hash s t c.power c.rows shaped.four;
    ledger = shaped.ledger ∙ sym (length_permutation _ _ (pairs_doubled hash s t c));
  }

  pub sound_doubled : (k : Layout) (t : ℕ) (c : Content V) → IsSound k t c → c.power < k.max → IsSound k t (doubled_content k.hash k.s t c)
  sound_doubled k t c sound below = record {
    number = sound.number;
    most = omega arith;
    shaped = shaped_doubled k.hash k.s t c sound.shaped;
    placed = placed_doubled k.hash k.s t c sound.shaped.least sound.shaped.rows sound.placed;
    apart = apart-permuted (pairs_in c) (pairs_in (doubled_content k.hash k.s t c)) (pairs_doubled k.hash k.s t c) sound.apart;
  }

  -- it has the same of each name
  pub found_doubled : (k : Layout) (t : ℕ) (c : Content V) → IsSound k t c → (q : Name) → find name_cmp q (pairs_in (doubled_content k.hash k.s t c)) ≡ find name_cmp q (pairs_in c)
  found_doubled k t c sound q = find-permuted (pairs_in c) (pairs_in (doubled_content k.hash k.s t c)) sound.apart (pairs_doubled k.hash k.s t c) q
