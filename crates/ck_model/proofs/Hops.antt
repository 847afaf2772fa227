-- An entry goes to a free slot of its other bucket in the same stripe.
use Rattle.std.proofs.Common.{◌≡◌, ◌≢◌, ◌⊎◌, inl, inr, ℕ, ◌+◌, ◌-◌, ◌*◌, ◌^◌, ◌<◌, length, List, [], Some, None, sym, ◌∙◌, ap, subst, arith}
use Rattle.std.specs.Prelude.{slice_set}
use Rattle.std.specs.FinMap.{find}
use mathlib.Core.Logic.{dite}
use Rattle.std.proofs.lemmas.List.{length-set, get_or-set_same, get_or-set_other}
use Rattle.std.proofs.lemmas.Bool.{cases_eq}
use Rattle.ck_model.specs.Promise.{Name, name_cmp}
use Rattle.ck_model.specs.Slots.{Slot, slot_at}
use Rattle.ck_model.specs.declared.contents.Content.{Content}
use Rattle.ck_model.specs.Contents.{Layout, row_at, pairs_in, IsBucketOf, IsSound}
use Rattle.ck_model.proofs.Names.{dec_name}
use Rattle.ck_model.proofs.Writes.{Writes, written, places, removes, ledger_of_taken, slot_inside, row_inside}

-- a slot that is freed, and each that was free, is free
still_free : {V : Type 0} (rows : List (List (Slot V))) (r i n j : ℕ) → r < length rows → i < length (row_at rows r) → slot_at (row_at rows n) j ≡ None
    → slot_at (row_at (slice_set rows r (slice_set (row_at rows r) i None)) n) j ≡ None
still_free {V} rows r i n j within inside free = go (cases_eq n r)
  where
    old : List (Slot V)
    old = row_at rows r

    at_slot : (j ≡ i) ⊎ (j ≢ i) → n ≡ r → slot_at (slice_set old i None) j ≡ None
    at_slot (inl same) e = ap (slot_at (slice_set old i None)) same ∙ get_or-set_same old i None None inside
    at_slot (inr apart) e = get_or-set_other old i j None None apart ∙ ap (λ m. slot_at (row_at rows m) j) (sym e) ∙ free

    go : (n ≡ r) ⊎ (n ≢ r) → slot_at (row_at (slice_set rows r (slice_set old i None)) n) j ≡ None
    go (inl same) =
        ap (λ m. slot_at (row_at (slice_set rows r (slice_set old i None)) m) j) same ∙ ap (λ (row : List (Slot V)). slot_at row j) (get_or-set_same rows r (slice_set old i None) [] within) ∙ at_slot (cases_eq j i) same
    go (inr apart) = ap (λ (row : List (Slot V)). slot_at row j) (get_or-set_other rows r n (slice_set old i None) [] apart) ∙ free

module _ {V : Type 0} where
  -- the content after the entry of slot i of row r went to slot j of row n
  abbrev pub hopped : Content V → ℕ → ℕ → ℕ → ℕ → Name × V → Content V
  hopped c r i n j e = written (written c r i None c.ledger) n j (Some e) c.ledger

  -- A hop leaves a sound stripe that binds what it bound.
  pub hops : (k : Layout) (t : ℕ) (c : Content V) → IsSound k t c → (r i n j : ℕ) (q : Name) (v : V) → slot_at (row_at c.rows r) i ≡ Some (q, v) → i < 4 → n < length c.rows → j < 4 → slot_at (row_at c.rows n) j ≡ None
      → IsBucketOf k.hash c.power q (n * 2 ^ k.s + t)
      → IsSound k t (hopped c r i n j (q, v)) × ((x : Name) → find name_cmp x (pairs_in (hopped c r i n j (q, v))) ≡ find name_cmp x (pairs_in c))
  hops k t c sound r i n j q v is small within below free of =
      let inside : r < length c.rows = row_inside c.rows r i (q, v) is in
      let mid : Content V = written c r i None (c.ledger - 1) in
      let out : Writes k t c mid q (Some v) None = removes k t c sound r i inside small q v is in
      let length_same : n < length mid.rows = subst (λ m. n < m) (sym (length-set c.rows r _)) within in
      let into : Writes k t mid (written mid n j (Some (q, v)) (c.ledger - 1 + 1)) q None (Some v) =
      places k t mid out.sound n j length_same below q v (still_free c.rows r i n j inside (slot_inside (row_at c.rows r) i (q, v) is) free) out.is of in
      let taken : 0 < c.ledger = ledger_of_taken k t c sound r i q v is in
      let count : c.ledger - 1 + 1 ≡ c.ledger = omega arith in (
        subst (λ m. IsSound k t (written mid n j (Some (q, v)) m)) count into.sound,
        λ x. dite (dec_name x q)
            (λ e. subst (λ (y : Name). find name_cmp y (pairs_in (hopped c r i n j (q, v))) ≡ find name_cmp y (pairs_in c)) (sym e) (into.is ∙ sym out.was))
            (λ ne. into.others x ne ∙ out.others x ne),
      )
