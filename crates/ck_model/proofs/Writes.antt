-- One slot of a sound stripe is written: an entry is placed, removed, or gets another value.
use Rattle.std.proofs.Common.{◌≡◌, ◌≢◌, ◌⊎◌, inl, inr, slice_index_or, ℕ, ◌+◌, ◌-◌, ◌*◌, ◌^◌, ◌<◌, zero, suc, length, List, [], ◌∷◌, ◌++◌, Option, Some, None, refl, sym, ◌∙◌, ap, subst, arith}
use Rattle.std.specs.Prelude.{slice_set}
use Rattle.std.specs.Option.{option_to_list}
use Rattle.std.specs.FinMap.{find}
use Rattle.std.proofs.lemmas.List.{length-set, get_or-set_same, get_or-set_other}
use Rattle.std.proofs.lemmas.List.Elements.{All-set}
use Rattle.std.proofs.lemmas.Bool.{cases_eq}
use Rattle.std.proofs.lemmas.Option.{none-some, some_pair_parts}
use Rattle.ck_model.specs.Promise.{Name, name_cmp}
use Rattle.ck_model.specs.Slots.{Slot, slot_at}
use Rattle.ck_model.specs.declared.contents.Content.{Content}
use Rattle.ck_model.specs.Contents.{Layout, row_at, pairs_in, IsBucketOf, NamesApart, IsSound}
use Rattle.ck_model.proofs.Belongs.{found_entry}
use Rattle.ck_model.proofs.Moves.{Between, slot_between, row_between, length-between, IsOf, value_in, find-between, find-between_other, apart-between, apart_without}

-- a slot that is not free is one of the slots
pub slot_inside : {X : Type 0} (slots : List (Option X)) (i : ℕ) (e : X) → slice_index_or slots i None ≡ Some e → i < length slots
slot_inside [] i e is = absurd (none-some e is)
slot_inside (o ∷ slots) zero e is = omega arith
slot_inside (o ∷ slots) (suc i) e is = let z = slot_inside slots i e is in omega arith

-- a row with a slot that is not free is one of the rows
pub row_inside : {X : Type 0} (rows : List (List (Option X))) (r i : ℕ) (e : X) → slice_index_or (slice_index_or rows r []) i None ≡ Some e → r < length rows
row_inside [] r i e is = absurd (none-some e is)
row_inside (row ∷ rows) zero i e is = omega arith
row_inside (row ∷ rows) (suc r) i e is = let z = row_inside rows r i e is in omega arith

module _ {V : Type 0} where
  -- Pairs of different names become others, in which the name q is bound otherwise and each other name as before.
  pub record Rebinds (es fs : List (Name × V)) (q : Name) (o o2 : Option V) : Type 0 where
    pub apart : NamesApart fs
    pub was : find name_cmp q es ≡ o
    pub is : find name_cmp q fs ≡ o2
    pub others : (x : Name) → x ≢ q → find name_cmp x fs ≡ find name_cmp x es

  rebinds : (es fs : List (Name × V)) (q : Name) (o o2 : Slot V) (b : Between es fs o o2) → IsOf q o → IsOf q o2 → NamesApart (b.before ++ b.after) → find name_cmp q (b.before ++ b.after) ≡ None
      → Rebinds es fs q (value_in o) (value_in o2)
  rebinds es fs q o o2 b of of2 apart none = record {
    apart = subst NamesApart (sym b.is) (apart-between q b.before o2 b.after of2 none apart);
    was = ap (find name_cmp q) b.was ∙ find-between q b.before o b.after of none;
    is = ap (find name_cmp q) b.is ∙ find-between q b.before o2 b.after of2 none;
    others = λ x ne. ap (find name_cmp x) b.is ∙ find-between_other q x b.before o2 b.after of2 ne ∙ sym (find-between_other q x b.before o b.after of ne) ∙ sym (ap (find name_cmp x) b.was);
  }

  -- the content with a slot of a row written, and with this ledger
  abbrev pub written : Content V → ℕ → ℕ → Slot V → ℕ → Content V
  written c r i s n = record { power = c.power; rows = slice_set c.rows r (slice_set (row_at c.rows r) i s); ledger = n }

  -- The content of the stripe t becomes another sound one, in which the name q is bound otherwise and each other name as before.
  pub record Writes (k : Layout) (t : ℕ) (c c2 : Content V) (q : Name) (o o2 : Option V) : Type 0 where
    pub sound : IsSound k t c2
    pub power : c2.power ≡ c.power
    pub was : find name_cmp q (pairs_in c) ≡ o
    pub is : find name_cmp q (pairs_in c2) ≡ o2
    pub others : (x : Name) → x ≢ q → find name_cmp x (pairs_in c2) ≡ find name_cmp x (pairs_in c)

  module _ (k : Layout) (t : ℕ) (c : Content V) (sound : IsSound k t c) where
    -- what stands in a slot is the binding
    pub stands : (r i : ℕ) (q : Name) (v : V) → slot_at (row_at c.rows r) i ≡ Some (q, v) → find name_cmp q (pairs_in c) ≡ Some v
    stands r i q v is =
        let inside : r < length c.rows = row_inside c.rows r i (q, v) is in
        let b : Between (pairs_in c) (pairs_in (written c r i None 0)) (slot_at (row_at c.rows r) i) None =
        row_between c.rows r (slice_set (row_at c.rows r) i None) _ None inside (slot_between (row_at c.rows r) i None (slot_inside (row_at c.rows r) i (q, v) is)) in
        let whole : pairs_in c ≡ b.before ++ ((q, v) ∷ b.after) = b.was ∙ ap (λ (o : Slot V). b.before ++ (option_to_list o ++ b.after)) is in
        let alone = apart_without q v b.before b.after (subst NamesApart whole sound.apart) in
        ap (find name_cmp q) whole ∙ find-between q b.before (Some (q, v)) b.after refl alone.1

    -- a name that stands in no slot of its buckets is unbound
    pub unbound_in_buckets : (q : Name) → ((r i : ℕ) (v : V) → IsBucketOf k.hash c.power q (r * 2 ^ k.s + t) → slot_at (row_at c.rows r) i ≢ Some (q, v)) → find name_cmp q (pairs_in c) ≡ None
    unbound_in_buckets q lacks = go (find name_cmp q (pairs_in c)) refl
      where
        go : (o : Option V) → find name_cmp q (pairs_in c) ≡ o → find name_cmp q (pairs_in c) ≡ None
        go None e = e
        go (Some v) e = let z = found_entry q c.rows v e in absurd (lacks z.0 z.1 v (sound.placed z.0 z.1 q v z.2) z.2)

    -- an unbound name stands in no slot
    pub not_in_slots : (q : Name) → find name_cmp q (pairs_in c) ≡ None → (r i : ℕ) (v : V) → slot_at (row_at c.rows r) i ≢ Some (q, v)
    not_in_slots q none r i v is = none-some v (sym none ∙ stands r i q v is)

    module _ (r i : ℕ) (within : r < length c.rows) (below : i < 4) where
      abbrev row : List (Slot V)
      row = row_at c.rows r

      row-four : length row ≡ 4
      row-four = sound.shaped.four r [] within

      inside : i < length row
      inside = subst (λ n. i < n) (sym row-four) below

      around : (o s : Slot V) → slot_at row i ≡ o → Between (pairs_in c) (pairs_in (written c r i s 0)) o s
      around o s is = subst (λ (p : Slot V). Between (pairs_in c) (pairs_in (written c r i s 0)) p s) is (row_between c.rows r (slice_set row i s) (slot_at row i) s within (slot_between row i s inside))

      placed_after : (s : Slot V) → ((q : Name) (v : V) → s ≡ Some (q, v) → IsBucketOf k.hash c.power q (r * 2 ^ k.s + t))
          → (n j : ℕ) (q : Name) (v : V) → slot_at (row_at (slice_set c.rows r (slice_set row i s)) n) j ≡ Some (q, v) → IsBucketOf k.hash c.power q (n * 2 ^ k.s + t)
      placed_after s of n j q v is = at_row (cases_eq n r)
        where
          at_slot : (j ≡ i) ⊎ (j ≢ i) → slot_at (slice_set row i s) j ≡ Some (q, v) → IsBucketOf k.hash c.power q (r * 2 ^ k.s + t)
          at_slot (inl same) e = of q v (sym (ap (slot_at (slice_set row i s)) same ∙ get_or-set_same row i s None inside) ∙ e)
          at_slot (inr apart) e = sound.placed r j q v (sym (get_or-set_other row i j s None apart) ∙ e)

          at_row : (n ≡ r) ⊎ (n ≢ r) → IsBucketOf k.hash c.power q (n * 2 ^ k.s + t)
          at_row (inl same) = subst (λ m. IsBucketOf k.hash c.power q (m * 2 ^ k.s + t)) (sym same)
              (at_slot (cases_eq j i) (ap (λ l. slot_at l j) (sym (ap (row_at (slice_set c.rows r (slice_set row i s))) same ∙ get_or-set_same c.rows r (slice_set row i s) [] within)) ∙ is))
          at_row (inr apart) = sound.placed n j q v (ap (λ l. slot_at l j) (sym (get_or-set_other c.rows r n (slice_set row i s) [] apart)) ∙ is)

      sound_after : (s : Slot V) (n : ℕ) → ((q : Name) (v : V) → s ≡ Some (q, v) → IsBucketOf k.hash c.power q (r * 2 ^ k.s + t)) → NamesApart (pairs_in (written c r i s 0)) → n ≡ length (pairs_in (written c r i s 0))
          → IsSound k t (written c r i s n)
      sound_after s n of apart ledger = record {
        number = sound.number;
        most = sound.most;
        shaped = record {
          least = sound.shaped.least;
          rows = length-set c.rows r (slice_set row i s) ∙ sound.shaped.rows;
          four = All-set (λ (x : List (Slot V)). length x ≡ 4) c.rows r (slice_set row i s) (length-set row i s ∙ row-four) sound.shaped.four;
          ledger = ledger;
        };
        placed = placed_after s of;
        apart = apart;
      }

      -- an unbound name is placed in a free slot of one of its buckets
      pub places : (q : Name) (v : V) → slot_at row i ≡ None → find name_cmp q (pairs_in c) ≡ None → IsBucketOf k.hash c.power q (r * 2 ^ k.s + t)
          → Writes k t c (written c r i (Some (q, v)) (c.ledger + 1)) q None (Some v)
      places q v free none of =
          let b : Between (pairs_in c) (pairs_in (written c r i (Some (q, v)) 0)) None (Some (q, v)) = around None (Some (q, v)) free in
          let z = rebinds (pairs_in c) _ q None (Some (q, v)) b tt refl (subst NamesApart b.was sound.apart) (ap (find name_cmp q) (sym b.was) ∙ none) in
          let more : length (pairs_in (written c r i (Some (q, v)) 0)) ≡ length (pairs_in c) + 1 = ap length b.is ∙ length-between b.before (q, v) b.after ∙ ap (λ es. length es + 1) (sym b.was) in
          record {
            sound = sound_after (Some (q, v)) (c.ledger + 1) (λ p w e. subst (λ (n : Name). IsBucketOf k.hash c.power n (r * 2 ^ k.s + t)) (some_pair_parts _ _ _ _ e).0 of) z.apart (ap (λ n. n + 1) sound.shaped.ledger ∙ sym more);
            power = refl;
            was = z.was;
            is = z.is;
            others = z.others;
          }

      -- what stands alone in its slot
      alone_in : (q : Name) (v : V) (s : Slot V) (b : Between (pairs_in c) (pairs_in (written c r i s 0)) (Some (q, v)) s) → NamesApart (b.before ++ b.after) × (find name_cmp q (b.before ++ b.after) ≡ None)
      alone_in q v s b = apart_without q v b.before b.after (subst NamesApart b.was sound.apart)

      -- an entry is removed
      pub removes : (q : Name) (v : V) → slot_at row i ≡ Some (q, v) → Writes k t c (written c r i None (c.ledger - 1)) q (Some v) None
      removes q v is =
          let b : Between (pairs_in c) (pairs_in (written c r i None 0)) (Some (q, v)) None = around (Some (q, v)) None is in
          let alone = alone_in q v None b in
          let z = rebinds (pairs_in c) _ q (Some (q, v)) None b refl tt alone.0 alone.1 in
          let less : length (pairs_in c) ≡ length (pairs_in (written c r i None 0)) + 1 = ap length b.was ∙ length-between b.before (q, v) b.after ∙ ap (λ es. length es + 1) (sym b.is) in
          let count : c.ledger ≡ length (pairs_in c) = sound.shaped.ledger in
          record {
            sound = sound_after None (c.ledger - 1) (λ p w e. absurd (none-some _ e)) z.apart (omega (arith, less, count));
            power = refl;
            was = z.was;
            is = z.is;
            others = z.others;
          }

      -- an entry gets another value
      pub replaces : (q : Name) (v w : V) → slot_at row i ≡ Some (q, v) → Writes k t c (written c r i (Some (q, w)) c.ledger) q (Some v) (Some w)
      replaces q v w is =
          let b : Between (pairs_in c) (pairs_in (written c r i (Some (q, w)) 0)) (Some (q, v)) (Some (q, w)) = around (Some (q, v)) (Some (q, w)) is in
          let alone = alone_in q v (Some (q, w)) b in
          let z = rebinds (pairs_in c) _ q (Some (q, v)) (Some (q, w)) b refl refl alone.0 alone.1 in
          let same : length (pairs_in c) ≡ length (pairs_in (written c r i (Some (q, w)) 0)) =
          ap length b.was ∙ length-between b.before (q, v) b.after ∙ sym (ap length b.is ∙ length-between b.before (q, w) b.after) in
          record {
            sound = sound_after (Some (q, w)) c.ledger (λ p u e. subst (λ (n : Name). IsBucketOf k.hash c.power n (r * 2 ^ k.s + t)) (some_pair_parts _ _ _ _ e).0 (sound.placed r i q v is)) z.apart (sound.shaped.ledger ∙ same);
            power = refl;
            was = z.was;
            is = z.is;
            others = z.others;
          }

    -- a stripe with an entry has a ledger that can fall
    pub ledger_of_taken : (r i : ℕ) (q : Name) (v : V) → slot_at (row_at c.rows r) i ≡ Some (q, v) → 0 < c.ledger
    ledger_of_taken r i q v is = go (pairs_in c) refl (stands r i q v is)
      where
        go : (es : List (Name × V)) → pairs_in c ≡ es → find name_cmp q es ≡ Some v → 0 < c.ledger
        go [] e f = absurd (none-some v f)
        go (x ∷ es) e f = let n : c.ledger ≡ length (x ∷ es) = sound.shaped.ledger ∙ ap length e in omega (arith, n)
