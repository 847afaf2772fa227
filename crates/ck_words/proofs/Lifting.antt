-- Stripes leave the slots of a seat for a list, from the lowest on, and come back.
use Rattle.std.proofs.Common.{◌≡◌, ℕ, suc, ◌+◌, ◌-◌, ◌<◌, ◌≤◌, List, [], ◌∷◌, ◌++◌, map, length, get_or, reverse, take, drop, drop-cons, add-one, append-nil, append_assoc, length-append, length-drop, refl, sym, ap, ◌∙◌, subst, arith, Some, None}
use Rattle.std.proofs.lemmas.List.{length-map, reverse-append, reverse-reverse, length-reverse, take_more}
use Rattle.atomic_table.specs.Table.{rest, turned}
use Rattle.atomic_table.specs.Seated.{TableId}
use Rattle.ck_model.specs.Numbered.{numbers}
use Rattle.ck_stripe.specs.Stripe.{StripeState}
use Rattle.ck_stripe.specs.Stripes.{no_stripe, stripe_at}
use Rattle.ck_words.specs.Rule.{StripeSlot, Hand}
use Rattle.ck_model.specs.Counting.{counting}
use Rattle.ck_core.specs.Steps.{IsAbove}
use Rattle.ck_words.specs.Passes.{EachOf, Falls, IsSeated, rotated, slot_of, stripes_in, held_in, numbers_of}
use Rattle.ck_words.specs.Lifting.{emptied, IsEmptied}
use Rattle.ck_model.proofs.Counting.{length-counting, counting-at, counting-more}
use Rattle.ck_words.proofs.Reversed.{map-append, map-reverse, reverse-cons}
use Rattle.ck_words.proofs.Seating.{length-numbers, number_at, stripes-slots, each_append}
use Rattle.ck_words.proofs.Turning.{rotated-append}

length-emptied : (V : Type 0) (t : ℕ) → length (emptied {V = V} (reverse (counting 0 t))) ≡ t
length-emptied V t = let empty : ℕ → ℕ × StripeSlot V = λ n. (n, None) in length-map (reverse (counting 0 t)) empty ∙ (length-reverse (counting 0 t) ∙ length-counting t 0)

module _ {V : Type 0} where
  -- what was in the first slot
  pub came_out : (ms : List (ℕ × StripeSlot V)) (t : ℕ) (s : StripeState V) (o : StripeSlot V) → ms ≡ (t, Some s) ∷ rest ms → ms ≡ (t, o) ∷ rest ms → o ≡ Some s
  came_out ms t s o is found = ap first (sym found ∙ is)
    where
      first : List (ℕ × StripeSlot V) → StripeSlot V
      first [] = None
      first (x ∷ xs) = x.1

  -- the slots after the first t stripes left them: those are behind, and were turned to the front
  abbrev pub lifted_to : ℕ → List (StripeState V) → List (ℕ × StripeSlot V)
  lifted_to t rs = emptied (reverse (counting 0 t)) ++ map slot_of (reverse (drop t rs))

  -- the slots of those that are left but for stripe t
  abbrev pub others_from : ℕ → List (StripeState V) → List (ℕ × StripeSlot V)
  others_from t rs = emptied (reverse (counting 0 t)) ++ map slot_of (reverse (drop (suc t) rs))

  pub lifted_all : (n : ℕ) (rs : List (StripeState V)) → length rs ≤ n → lifted_to n rs ≡ emptied (reverse (counting 0 n))
  lifted_all n rs l = ap (λ (xs : List (StripeState V)). emptied (reverse (counting 0 n)) ++ map slot_of (reverse xs)) (none_left n rs l) ∙ append-nil (emptied (reverse (counting 0 n)))
    where
      none_left : (n : ℕ) (xs : List (StripeState V)) → length xs ≤ n → drop n xs ≡ []
      none_left n xs l = no_length (drop n xs) (length-drop n xs ∙ (omega arith))
        where
          no_length : (ys : List (StripeState V)) → length ys ≡ 0 → ys ≡ []
          no_length [] e = refl
          no_length (y ∷ ys) e = absurd (omega arith)

  last_of_rest : (t : ℕ) (rs : List (StripeState V)) → t < length rs → map slot_of (reverse (drop t rs)) ≡ map slot_of (reverse (drop (suc t) rs)) ++ slot_of (stripe_at rs t) ∷ []
  last_of_rest t rs l =
      ap (λ (xs : List (StripeState V)). map slot_of (reverse xs)) (drop-cons rs t no_stripe l)
      ∙ (ap (map slot_of) (reverse-cons (stripe_at rs t) (drop (suc t) rs)) ∙ map-append slot_of (reverse (drop (suc t) rs)) (stripe_at rs t ∷ []))

  emptied-next : (t : ℕ) → emptied {V = V} (reverse (counting 0 (t + 1))) ≡ (t, None) ∷ emptied (reverse (counting 0 t))
  emptied-next t = ap (λ ns. emptied {V = V} (reverse ns)) (sym (counting-more t)) ∙ ap (λ ns. emptied {V = V} ns) (reverse-append (counting 0 t) (t ∷ []))

  count_others : (t : ℕ) (rs : List (StripeState V)) → t < length rs → length (others_from t rs) ≡ length rs - 1
  count_others t rs l =
      let e : List (ℕ × StripeSlot V) = emptied (reverse (counting 0 t)) in
      let b : List (ℕ × StripeSlot V) = map slot_of (reverse (drop (suc t) rs)) in
      let left = length-map (reverse (drop (suc t) rs)) (slot_of {V = V}) in
      let turn = length-reverse (drop (suc t) rs) in
      let rest = length-drop (suc t) rs in
      length-append e b ∙ (let first = length-emptied V t in omega arith)

  -- its number is its position
  pub counted_number : (n t : ℕ) (rs : List (StripeState V)) → numbers_of rs ≡ counting 0 n → t < n → (stripe_at rs t).number ≡ t
  counted_number n t rs named l =
      let count : length rs ≡ n = sym (length-numbers rs) ∙ (ap length named ∙ length-counting n 0) in
      number_at rs t (omega arith) ∙ (ap (λ (ns : List ℕ). get_or ns t 0) named ∙ counting-at n t l)

  pub count_of : (n : ℕ) (rs : List (StripeState V)) → numbers_of rs ≡ counting 0 n → length rs ≡ n
  count_of n rs named = sym (length-numbers rs) ∙ (ap length named ∙ length-counting n 0)

  -- the slot of stripe t comes to the front
  pub brought : (n t : ℕ) (rs : List (StripeState V)) (ms ms2 : List (ℕ × StripeSlot V)) → numbers_of rs ≡ counting 0 n → t < n → ms ≡ lifted_to t rs → ms2 ≡ rotated (n - 1) ms → ms2 ≡ (t, Some (stripe_at rs t)) ∷ others_from t rs
  brought n t rs ms ms2 named l is turn =
      let count : length rs ≡ n = count_of n rs named in
      let inside : t < length rs = omega arith in
      let front : List (ℕ × StripeSlot V) = emptied (reverse (counting 0 t)) in
      let back : List (ℕ × StripeSlot V) = map slot_of (reverse (drop (suc t) rs)) in
      let split : ms ≡ others_from t rs ++ slot_of (stripe_at rs t) ∷ [] = is ∙ (ap (λ l. front ++ l) (last_of_rest t rs inside) ∙ sym (append_assoc front back (slot_of (stripe_at rs t) ∷ []))) in
      let many : n - 1 ≡ length (others_from t rs) = (let c = count_others t rs inside in omega arith) in
      turn ∙ ((λ j. rotated (many j) (split j)) ∙ (rotated-append (others_from t rs) (slot_of (stripe_at rs t) ∷ []) ∙ λ j. (counted_number n t rs named l j, Some (stripe_at rs t)) ∷ others_from t rs))

  pub in_front : (t : ℕ) (s : StripeState V) (ms others : List (ℕ × StripeSlot V)) → ms ≡ (t, Some s) ∷ others → ms ≡ (t, Some s) ∷ rest ms
  in_front t s ms others e = e ∙ λ j. (t, Some s) ∷ rest (sym e j)

  -- and the stripe leaves it
  pub lifted_more : (t : ℕ) (rs : List (StripeState V)) (s : StripeState V) (ms ms2 : List (ℕ × StripeSlot V)) → ms ≡ (t, Some s) ∷ others_from t rs → ms2 ≡ (t, None) ∷ rest ms → ms2 ≡ lifted_to (t + 1) rs
  lifted_more t rs s ms ms2 front out =
      out ∙ ((λ j. (t, None) ∷ rest (front j)) ∙ λ j. sym (emptied-next t) j ++ map slot_of (reverse (drop (sym (add-one t) j) rs)))

  -- the highest slot that is empty comes first
  first_empty : (t : ℕ) (rs : List (StripeState V)) (ms : List (ℕ × StripeSlot V)) → 0 < t → ms ≡ lifted_to t rs → ms ≡ (t - 1, None) ∷ (emptied (reverse (counting 0 (t - 1))) ++ map slot_of (reverse (drop t rs)))
  first_empty t rs ms some is =
      let same : t ≡ t - 1 + 1 = omega arith in
      let first : emptied {V = V} (reverse (counting 0 t)) ≡ (t - 1, None) ∷ emptied (reverse (counting 0 (t - 1))) = ap (λ n. emptied {V = V} (reverse (counting 0 n))) same ∙ emptied-next (t - 1) in
      is ∙ ap (λ (l : List (ℕ × StripeSlot V)). l ++ map slot_of (reverse (drop t rs))) first

  pub empty_front : (t : ℕ) (rs : List (StripeState V)) (ms : List (ℕ × StripeSlot V)) → 0 < t → ms ≡ lifted_to t rs → ms ≡ (t - 1, None) ∷ rest ms
  empty_front t rs ms some is = let e = first_empty t rs ms some is in e ∙ λ j. (t - 1, None) ∷ rest (sym e j)

  -- a stripe comes back into it, and it goes behind the others
  pub lowered_more : (n t : ℕ) (rs : List (StripeState V)) (s : StripeState V) (ms ms2 ms3 : List (ℕ × StripeSlot V)) → numbers_of rs ≡ counting 0 n → 0 < t → t ≤ n → s ≡ stripe_at rs (t - 1) → ms ≡ lifted_to t rs → ms2 ≡ (t - 1, Some s) ∷ rest ms → ms3 ≡ turned ms2
      → ms3 ≡ lifted_to (t - 1) rs
  lowered_more n t rs s ms ms2 ms3 named some most made is put turn =
      let count : length rs ≡ n = count_of n rs named in
      let front : List (ℕ × StripeSlot V) = emptied (reverse (counting 0 (t - 1))) in
      let back : List (ℕ × StripeSlot V) = map slot_of (reverse (drop t rs)) in
      let slot : (t - 1, Some s) ≡ slot_of (stripe_at rs (t - 1)) = λ j. (sym (counted_number n (t - 1) rs named (omega arith)) j, Some (made j)) in
      let same : t ≡ suc (t - 1) = omega arith in
      turn
      ∙ (ap turned (put ∙ λ j. slot j ∷ rest (first_empty t rs ms some is j))
      ∙ (append_assoc front back (slot_of (stripe_at rs (t - 1)) ∷ [])
      ∙ ap (λ (l : List (ℕ × StripeSlot V)). front ++ l) ((λ j. map slot_of (reverse (drop (same j) rs)) ++ slot_of (stripe_at rs (t - 1)) ∷ []) ∙ sym (last_of_rest (t - 1) rs (omega arith)))))

  -- what a list has but for its last, and the last
  parted : (xs ys : List (StripeState V)) (x y : StripeState V) → xs ++ x ∷ [] ≡ ys ++ y ∷ [] → (xs ≡ ys) × (x ≡ y)
  parted xs ys x y e =
      let turned : x ∷ reverse xs ≡ y ∷ reverse ys = sym (reverse-append xs (x ∷ [])) ∙ (ap reverse e ∙ reverse-append ys (y ∷ [])) in (
        sym (reverse-reverse xs) ∙ (ap (λ (l : List (StripeState V)). reverse (drop 1 l)) turned ∙ reverse-reverse ys),
        ap (λ (l : List (StripeState V)). get_or l 0 x) turned,
      )

  -- the last of the first t stripes leaves the list
  pub popped : (t : ℕ) (rs xs ys : List (StripeState V)) (s : StripeState V) → 0 < t → t ≤ length rs → xs ≡ take t rs → xs ≡ ys ++ s ∷ [] → (ys ≡ take (t - 1) rs) × (s ≡ stripe_at rs (t - 1))
  popped t rs xs ys s some most is out =
      let same : t ≡ t - 1 + 1 = omega arith in
      parted ys (take (t - 1) rs) s (stripe_at rs (t - 1)) (sym out ∙ (is ∙ (ap (λ n. take n rs) same ∙ take_more rs (t - 1) no_stripe (omega arith))))

  pub listed_more : (t : ℕ) (rs xs ys : List (StripeState V)) (s : StripeState V) → t < length rs → xs ≡ take t rs → s ≡ stripe_at rs t → ys ≡ xs ++ s ∷ [] → ys ≡ take (t + 1) rs
  listed_more t rs xs ys s l is made after = after ∙ ((λ j. is j ++ made j ∷ []) ∙ sym (take_more rs t no_stripe l))

  -- the slots are empty, all of them
  pub is_emptied : (z : TableId) (n : ℕ) (me me2 : Hand V) → IsSeated z me → z.slots ≡ n → numbers_of (held_in me.1) ≡ counting 0 n → me2.0 ≡ me.0 → me2.1 ≡ emptied (reverse (counting 0 n)) → IsEmptied z me2
  is_emptied z n me me2 s many named view slots =
      let held : numbers me2.0.held ≡ numbers me.0.held = ap (λ v. numbers v.held) view in
      let falling : numbers_of (stripes_in me.1) ≡ reverse (counting 0 n) = sym (reverse-reverse (numbers_of (stripes_in me.1))) ∙ ap reverse (sym (map-reverse (λ (x : StripeState V). x.number) (stripes_in me.1)) ∙ named) in
      let all : numbers me2.0.held ≡ reverse (counting 0 n) = held ∙ (s.held ∙ falling) in
      record {
        empty = slots ∙ ap emptied (sym all);
        all = all ∙ ap (λ m. reverse (counting 0 m)) (sym many);
        falls = subst Falls (sym held) s.falls;
        below = subst (IsAbove z.slots) (sym held) s.below;
      }

  each_reverse : (n : ℕ) (ss : List (StripeState V)) → EachOf n ss → EachOf n (reverse ss)
  each_reverse n [] e = tt
  each_reverse n (s ∷ ss) e = subst (EachOf n) (sym (reverse-cons s ss)) (each_append n (reverse ss) s (each_reverse n ss e.1) e.0)

  -- and full again
  pub seated_again : (z z2 : TableId) (n : ℕ) (me me2 : Hand V) (rs : List (StripeState V)) → IsEmptied z me → z.slots ≡ n → numbers_of rs ≡ counting 0 n → EachOf me.0.settings.s rs → z2 ≡ z → me2.0 ≡ me.0 → me2.1 ≡ map slot_of (reverse rs) → IsSeated z2 me2
  seated_again z z2 n me me2 rs e many named each same view slots =
      let held : numbers me2.0.held ≡ numbers me.0.held = ap (λ v. numbers v.held) view in
      let stripes : reverse rs ≡ stripes_in me2.1 = sym (stripes-slots (reverse rs)) ∙ ap stripes_in (sym slots) in
      let turned_numbers : reverse (counting 0 n) ≡ numbers_of (reverse rs) = ap reverse (sym named) ∙ sym (map-reverse (λ (x : StripeState V). x.number) rs) in
      let new : IsSeated z me2 = record {
        full = slots ∙ ap (map slot_of) stripes;
        held = held ∙ (e.all ∙ (ap (λ m. reverse (counting 0 m)) many ∙ (turned_numbers ∙ ap (λ (l : List (StripeState V)). numbers_of l) stripes)));
        falls = subst Falls (sym held) e.falls;
        below = subst (IsAbove z.slots) (sym held) e.below;
        one_s = subst (λ (x : ℕ × List (StripeState V)). EachOf x.0 x.1) (λ j. (sym (ap (λ v. v.settings.s) view) j, stripes j)) (each_reverse me.0.settings.s rs each);
      } in
      subst (λ (x : TableId). IsSeated x me2) (sym same) new

  pub held_again : (me2 : Hand V) (rs : List (StripeState V)) → me2.1 ≡ map slot_of (reverse rs) → held_in me2.1 ≡ rs
  held_again me2 rs slots = ap held_in slots ∙ (ap reverse (stripes-slots (reverse rs)) ∙ reverse-reverse rs)
