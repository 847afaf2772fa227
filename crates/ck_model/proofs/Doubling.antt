-- What a table that doubled from lawful contents keeps.
use Rattle.std.proofs.Common.{◌≡◌, inl, inr, ⊎_elim, ℕ, zero, suc, ◌+◌, ◌-◌, ◌*◌, ◌/◌, ◌%◌, ◌^◌, ◌<◌, ◌≤◌, Bool, true, false, cond, eqb, List, [], ◌∷◌, ◌++◌, length, Some, None, refl, sym, ◌∙◌, ap, subst, arith}
use Rattle.std.specs.Prelude.{flat_map}
use Rattle.std.specs.Ordering.{eq_by_cmp}
use Rattle.std.specs.FinMap.{find, get}
use Rattle.std.specs.List.Sorted.{IsPermutation}
use Rattle.std.proofs.Math.Nat.{mul-le-mul_right}
use Rattle.std.proofs.lemmas.Bool.{false≢true}
use Rattle.std.proofs.lemmas.List.Sums.{sum_by-append}
use Rattle.std.proofs.lemmas.Nat.{pow-add, div-add-mod', div-mul-add, mod-mul-add}
use Rattle.std.proofs.lemmas.Option.{none-some, same_Some}
use Rattle.ck_model.specs.Arithmetic.{index_of, second_of}
use Rattle.ck_model.specs.Promise.{Name, Map, name_cmp}
use Rattle.ck_model.specs.Slots.{Slot, slot_at, taken_in}
use Rattle.ck_model.specs.Numbered.{IsIn, AreDistinct, numbers, Holds}
use Rattle.ck_model.specs.declared.contents.Content.{Content}
use Rattle.ck_model.specs.Contents.{Layout, Stripes, row_at, rows_of, pairs_in, pairs_of, power_of, bucket_in, bindings, Binds, NamesApart, IsBucketOf, IsShaped, IsSound, Lawful}
use Rattle.ck_model.specs.Doubling.{bucket_after, IsDoubledTo}
use Rattle.ck_model.proofs.Numbered.{in_held, held_of_in, one_content}
use Rattle.ck_model.proofs.Names.{is_name}
use Rattle.ck_model.proofs.Found.{Once, found_first, found_second, present, bound_where, bound_from}
use Rattle.ck_model.proofs.Belongs.{found_entry}
use Rattle.ck_model.proofs.Counted.{names_apart}
use Rattle.ck_model.proofs.Pairs.{times, once_from_apart, apart_from_once, none_from_times, apart-permuted, from_entries-permuted}
use Rattle.ck_model.proofs.Rows.{rows_held, held_there, power_held}
use Rattle.ck_model.proofs.Writes.{row_inside}

-- the bucket to which an entry goes is one of its name
bucket_own : (hash : Name → ℕ) (p p2 : ℕ) (q : Name) (b : ℕ) → IsBucketOf hash p2 q (bucket_after hash p p2 q b)
bucket_own hash p p2 q b = go (eqb b (index_of p (hash q)))
  where
    go : (first : Bool) → IsBucketOf hash p2 q (cond first (index_of p2 (hash q)) (second_of p2 (hash q)))
    go true = inl refl
    go false = inr refl

-- a bucket by its row and its stripe
below_all : (r t s p n : ℕ) → s ≤ p → n ≡ 2 ^ (p - s) → t < 2 ^ s → r < n → r * 2 ^ s + t < 2 ^ p
below_all r t s p n least is small inside =
    let parts : (p - s) + s ≡ p = omega arith in
    let size : 2 ^ p ≡ n * 2 ^ s = ap (λ x. 2 ^ x) (sym parts) ∙ pow-add 2 (p - s) s ∙ ap (λ x. x * 2 ^ s) (sym is) in
    let more : (r + 1) * 2 ^ s ≤ n * 2 ^ s = mul-le-mul_right (2 ^ s) (omega arith) in
    omega arith

module _ {V : Type 0} where
  times-append : (q : Name) (xs ys : List (Name × V)) → times q (xs ++ ys) ≡ times q xs + times q ys
  times-append q xs ys = sum_by-append (λ (e : Name × V). cond (eq_by_cmp name_cmp q e.0) 1 0) xs ys

  found_times : (q : Name) (es : List (Name × V)) (v : V) → find name_cmp q es ≡ Some v → 1 ≤ times q es
  found_times q es v e = go (times q es) refl
    where
      go : (n : ℕ) → times q es ≡ n → 1 ≤ times q es
      go zero t = absurd (none-some v (sym (none_from_times q es t) ∙ e))
      go (suc n) t = omega arith

  -- names that are apart are so in each part, and are not in both
  apart_parts : (xs ys : List (Name × V)) → NamesApart (xs ++ ys) → NamesApart xs × NamesApart ys × ((q : Name) (v w : V) → find name_cmp q xs ≡ Some v → find name_cmp q ys ≡ Some w → ⊥)
  apart_parts xs ys a = (
    apart_from_once xs (λ q. let n = once_from_apart (xs ++ ys) a q in let e = times-append q xs ys in omega arith),
    apart_from_once ys (λ q. let n = once_from_apart (xs ++ ys) a q in let e = times-append q xs ys in omega arith),
    λ q v w f g. let n = once_from_apart (xs ++ ys) a q in let e = times-append q xs ys in let x = found_times q xs v f in let y = found_times q ys w g in omega arith,
  )

  each_apart : (ks : Stripes V) → NamesApart (pairs_of ks) → (t : ℕ) (c : Content V) → Holds ks t c → NamesApart (pairs_in c)
  each_apart [] a t c h = absurd h
  each_apart (x ∷ xs) a t c h =
      let parts = apart_parts (pairs_in x.1) (pairs_of xs) a in
      ⊎_elim (λ (e : (x.0 ≡ t) × (x.1 ≡ c)). subst (λ (d : Content V). NamesApart (pairs_in d)) e.1 parts.0) (λ r. each_apart xs parts.1 t c r) h

  once_apart : (ks : Stripes V) → NamesApart (pairs_of ks) → Once ks
  once_apart [] a t u c d q v w h g b e = absurd h
  once_apart (x ∷ xs) a t u c d q v w h g b e =
      let parts = apart_parts (pairs_in x.1) (pairs_of xs) a in
      ⊎_elim
      (λ (f : (x.0 ≡ t) × (x.1 ≡ c)). ⊎_elim (λ (f2 : (x.0 ≡ u) × (x.1 ≡ d)). sym f.0 ∙ f2.0)
      (λ r. let z = present xs u d q w r e in absurd (parts.2 q v z.0 (subst (λ (y : Content V). Binds y q v) (sym f.1) b) z.1)) g)
      (λ l. ⊎_elim (λ (f2 : (x.0 ≡ u) × (x.1 ≡ d)). let z = present xs t c q v l b in absurd (parts.2 q w z.0 (subst (λ (y : Content V). Binds y q w) (sym f2.1) e) z.1))
      (λ r. once_apart xs parts.1 t u c d q v w l r b e) g)
      h

  -- what stands in a slot is found
  slot_found : (q : Name) (v : V) (slots : List (Slot V)) (i : ℕ) → slot_at slots i ≡ Some (q, v) → (w : V) × (find name_cmp q (taken_in slots) ≡ Some w)
  slot_found q v [] i is = absurd (none-some (q, v) is)
  slot_found q v (None ∷ slots) zero is = absurd (none-some (q, v) is)
  slot_found q v (None ∷ slots) (suc i) is = slot_found q v slots i is
  slot_found q v (Some x ∷ slots) i is = go (eq_by_cmp name_cmp q x.0) refl i is (slot_found q v slots)
    where
      go : (b : Bool) → eq_by_cmp name_cmp q x.0 ≡ b → (i : ℕ) → slot_at (Some x ∷ slots) i ≡ Some (q, v) → ((j : ℕ) → slot_at slots j ≡ Some (q, v) → (w : V) × (find name_cmp q (taken_in slots) ≡ Some w))
          → (w : V) × (cond b (Some x.1) (find name_cmp q (taken_in slots)) ≡ Some w)
      go true s i is again = (x.1, refl)
      go false s zero is again = absurd (false≢true (sym s ∙ is_name q x.0 (sym (ap (λ (y : Name × V). y.0) (same_Some x (q, v) is)))))
      go false s (suc i) is again = again i is

  row_found : (q : Name) (v : V) (rows : List (List (Slot V))) (r i : ℕ) → slot_at (row_at rows r) i ≡ Some (q, v) → (w : V) × (find name_cmp q (flat_map taken_in rows) ≡ Some w)
  row_found q v [] r i is = absurd (none-some (q, v) is)
  row_found q v (row ∷ rows) zero i is = let z = slot_found q v row i is in (z.0, found_first q z.0 (taken_in row) (flat_map taken_in rows) z.1)
  row_found q v (row ∷ rows) (suc r) i is = let z = row_found q v rows r i is in found_second q z.0 (taken_in row) (flat_map taken_in rows) z.1

  -- a name stands in one row
  same_row : (q : Name) (v w : V) (rows : List (List (Slot V))) → NamesApart (flat_map taken_in rows) → (r u i j : ℕ) → slot_at (row_at rows r) i ≡ Some (q, v) → slot_at (row_at rows u) j ≡ Some (q, w) → r ≡ u
  same_row q v w [] a r u i j f g = absurd (none-some (q, v) f)
  same_row q v w (row ∷ rows) a zero zero i j f g = refl
  same_row q v w (row ∷ rows) a zero (suc u) i j f g =
      let x = slot_found q v row i f in let y = row_found q w rows u j g in absurd ((apart_parts (taken_in row) (flat_map taken_in rows) a).2 q x.0 y.0 x.1 y.1)
  same_row q v w (row ∷ rows) a (suc r) zero i j f g =
      let x = slot_found q w row j g in let y = row_found q v rows r i f in absurd ((apart_parts (taken_in row) (flat_map taken_in rows) a).2 q x.0 y.0 x.1 y.1)
  same_row q v w (row ∷ rows) a (suc r) (suc u) i j f g = ap suc (same_row q v w rows (apart_parts (taken_in row) (flat_map taken_in rows) a).1 r u i j f g)

module _ {V : Type 0} (k : Layout) (hs : Stripes V) (lawful : Lawful k hs) where
  -- no name stands in two pairs of lawful contents
  pub pairs_apart : NamesApart (pairs_of hs)
  pairs_apart = names_apart hs lawful.distinct lawful.once (λ t c h. (lawful.sound t c h).apart)

  -- nor does their order matter
  pub bindings-permuted : (ks : Stripes V) → IsPermutation (pairs_of hs) (pairs_of ks) → bindings ks ≡ bindings hs
  unfolding bindings
  bindings-permuted ks moved = from_entries-permuted (pairs_of hs) (pairs_of ks) pairs_apart moved

  -- an entry of a stripe is one of a bucket
  in_bucket : (t : ℕ) (c : Content V) (r j : ℕ) (q : Name) (v : V) → Holds hs t c → slot_at (row_at c.rows r) j ≡ Some (q, v) → (b : ℕ) × (b < 2 ^ power_of hs) × (slot_at (bucket_in k hs b) j ≡ Some (q, v))
  in_bucket t c r j q v h at =
      let sound : IsSound k t c = lawful.sound t c h in
      let b : ℕ = r * 2 ^ k.s + t in
      let rows : rows_of hs (b % 2 ^ k.s) ≡ c.rows = ap (rows_of hs) (mod-mul-add r (2 ^ k.s) t sound.number) ∙ rows_held hs t c lawful.distinct h in
      let below : b < 2 ^ c.power = below_all r t k.s c.power (length c.rows) sound.shaped.least sound.shaped.rows sound.number (row_inside c.rows r j (q, v) at) in (
        b,
        subst (λ n. b < 2 ^ n) (sym (power_held k hs t c lawful h)) below,
        ap (λ (l : List (List (Slot V))). slot_at (row_at l (b / 2 ^ k.s)) j) rows ∙ ap (λ n. slot_at (row_at c.rows n) j) (div-mul-add r (2 ^ k.s) t sound.number) ∙ at,
      )

  module _ (p : ℕ) (ks : Stripes V) (to : IsDoubledTo k p hs ks) where
    pub bindings_doubled : bindings ks ≡ bindings hs
    bindings_doubled = bindings-permuted ks to.pairs

    apart : NamesApart (pairs_of ks)
    apart = apart-permuted (pairs_of hs) (pairs_of ks) to.pairs pairs_apart

    distinct : AreDistinct (numbers ks)
    distinct = subst AreDistinct (sym to.same) lawful.distinct

    number : (t : ℕ) (c : Content V) → Holds ks t c → t < 2 ^ k.s
    number t c h = let z = held_of_in hs t (subst (IsIn t) to.same (in_held ks t c h)) in (lawful.sound t z.0 z.1).number

    -- each entry stands where the doubling sent it
    placed : (t : ℕ) (c : Content V) → Holds ks t c → (r i : ℕ) (q : Name) (v : V) → slot_at (row_at c.rows r) i ≡ Some (q, v) → IsBucketOf k.hash c.power q (r * 2 ^ k.s + t)
    placed t c h r i q v at =
        let here = row_found q v c.rows r i at in
        let bound : get (bindings hs) q ≡ Some here.0 = ap (λ (m : Map V). get m q) (sym bindings_doubled) ∙ bound_from ks (once_apart ks apart) distinct t c q here.0 h here.1 in
        let was = bound_where hs q here.0 bound in
        let slot = found_entry q was.1.rows here.0 was.3 in
        let b = in_bucket was.0 was.1 slot.0 slot.1 q here.0 was.2 slot.2 in
        let next : ℕ = bucket_after k.hash (power_of hs) p q b.0 in
        let there : slot_at (bucket_in k ks next) slot.1 ≡ Some (q, here.0) = to.sends b.0 slot.1 q here.0 b.1 b.2 in
        let d = held_there ks (next % 2 ^ k.s) (next / 2 ^ k.s) slot.1 (q, here.0) there in
        let in_d : slot_at (row_at d.0.rows (next / 2 ^ k.s)) slot.1 ≡ Some (q, here.0) = ap (λ (l : List (List (Slot V))). slot_at (row_at l (next / 2 ^ k.s)) slot.1) (sym d.2) ∙ there in
        let found_d = row_found q here.0 d.0.rows (next / 2 ^ k.s) slot.1 in_d in
        let stripe : t ≡ next % 2 ^ k.s = once_apart ks apart t (next % 2 ^ k.s) c d.0 q here.0 found_d.0 h d.1 here.1 found_d.1 in
        let same : d.0 ≡ c = one_content ks distinct t d.0 c (subst (λ n. Holds ks n d.0) (sym stripe) d.1) h in
        let row : r ≡ next / 2 ^ k.s = same_row q v here.0 c.rows (each_apart ks apart t c h) r (next / 2 ^ k.s) i slot.1 at
        (subst (λ (x : Content V). slot_at (row_at x.rows (next / 2 ^ k.s)) slot.1 ≡ Some (q, here.0)) same in_d) in
        let whole : r * 2 ^ k.s + t ≡ next = (λ z. row z * 2 ^ k.s + stripe z) ∙ div-add-mod' next (2 ^ k.s) in
        subst (λ (x : ℕ × ℕ). IsBucketOf k.hash x.0 q x.1) (λ z. (sym (to.power t c h) z, sym whole z)) (bucket_own k.hash (power_of hs) p q b.0)

    pub lawful_doubled : ((t : ℕ) (c : Content V) → Holds ks t c → IsShaped k.s c) → p ≤ k.max → Lawful k ks
    lawful_doubled shaped fits = record {
      distinct = distinct;
      sound = λ t c h. record {
        number = number t c h;
        most = subst (λ n. n ≤ k.max) (sym (to.power t c h)) fits;
        shaped = shaped t c h;
        placed = placed t c h;
        apart = each_apart ks apart t c h;
      };
      once = once_apart ks apart;
      one_power = λ t u c d h g. to.power t c h ∙ sym (to.power u d g);
    }
