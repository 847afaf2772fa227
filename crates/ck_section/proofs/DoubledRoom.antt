-- A name that has room in a table has it still when the table has doubled.
use Rattle.std.proofs.Common.{◌≡◌, ◌≢◌, ⊎_elim, ℕ, ◌+◌, ◌-◌, ◌*◌, ◌/◌, ◌%◌, ◌^◌, ◌<◌, ◌≤◌, inl, inr, List, [], length, Option, Some, None, IsSome, sym, refl, ◌∙◌, ap, subst, arith}
use mathlib.Core.Logic.{dite}
use native.Mathlib.Decide.{ℕ_discrete}
use Rattle.std.specs.Prelude.{slice_set}
use Rattle.std.specs.FinMap.{get}
use Rattle.std.proofs.lemmas.Bool.{false≢true}
use Rattle.std.proofs.lemmas.List.{get_or-set_same, get_or-set_other}
use Rattle.std.proofs.lemmas.Nat.{mod-mul-add, div-mul-add, div-add-mod'}
use Rattle.ck_model.specs.Arithmetic.{index_of, second_of}
use Rattle.ck_model.specs.Promise.{Name, Map}
use Rattle.ck_model.specs.Slots.{Slot, slot_at, IsFull}
use Rattle.ck_model.specs.Numbered.{Holds}
use Rattle.ck_model.specs.declared.contents.Content.{Content}
use Rattle.ck_model.specs.Contents.{Layout, Stripes, Binds, IsBucketOf, IsSound, Lawful, row_at, rows_of, bindings, bucket_in, power_of}
use Rattle.ck_model.specs.Doubling.{bucket_after, IsDoubledTo}
use Rattle.ck_model.specs.Paths.{HasNoRoom, IsStuck}
use Rattle.ck_model.proofs.Belongs.{found_entry}
use Rattle.ck_model.proofs.Buckets.{index_below, second_below, index_lower, second_lower}
use Rattle.ck_model.proofs.Found.{bound_where, bound_from}
use Rattle.ck_model.proofs.Numbered.{one_content}
use Rattle.ck_model.proofs.Rows.{rows_held, held_there, power_held}
use Rattle.ck_model.proofs.Writes.{row_inside, written, stands, not_in_slots, removes}
use Rattle.ck_section.proofs.Doublings.{after_first, after_second, is_second}

-- a bucket after a doubling, by what it was before
after_lower : (hash : Name → ℕ) (p p2 : ℕ) (q : Name) (b : ℕ) → p ≤ p2 → IsBucketOf hash p q b → bucket_after hash p p2 q b % 2 ^ p ≡ b
after_lower hash p p2 q b le home = dite (ℕ_discrete b (index_of p (hash q)))
    (λ e. ap (λ n. n % 2 ^ p) (after_first hash q p p2 b e) ∙ index_lower p p2 (hash q) le ∙ sym e)
    (λ ne. ap (λ n. n % 2 ^ p) (after_second hash q p p2 b ne) ∙ second_lower p p2 (hash q) le ∙ sym (is_second hash q p b home ne))

module _ {V : Type 0} (k : Layout) where
  -- no name stands in two slots of a stripe
  one_slot : (t : ℕ) (c : Content V) → IsSound k t c → (r i p j : ℕ) (q : Name) (v w : V) → i < 4 → slot_at (row_at c.rows r) i ≡ Some (q, v) → slot_at (row_at c.rows p) j ≡ Some (q, w) → (p ≡ r) × (j ≡ i)
  one_slot t c sound r i p j q v w below one two =
      let within : r < length c.rows = row_inside c.rows r i (q, v) one in
      let gone = removes k t c sound r i within below q v one in
      let row : List (Slot V) = slice_set (row_at c.rows r) i None in
      let lacks : (x y : ℕ) → slot_at (row_at (slice_set c.rows r row) x) y ≢ Some (q, w) = λ x y. not_in_slots k t (written c r i None (c.ledger - 1)) gone.sound q gone.is x y w in
      dite (ℕ_discrete p r)
      (λ e. dite (ℕ_discrete j i)
      (λ f. (e, f))
      (λ ne. absurd (lacks r j (ap (λ (l : List (Slot V)). slot_at l j) (get_or-set_same c.rows r row [] within) ∙ get_or-set_other (row_at c.rows r) i j None None ne
      ∙ ap (λ n. slot_at (row_at c.rows n) j) (sym e) ∙ two))))
      (λ ne. absurd (lacks p j (ap (λ (l : List (Slot V)). slot_at l j) (get_or-set_other c.rows r p row [] ne) ∙ two)))

  -- where no displacement makes room, there is none
  pub stuck_full : (hs : Stripes V) (q : Name) → IsStuck k hs q → HasNoRoom k hs q
  stuck_full hs q stuck = record { unbound = stuck.unbound; full = λ b of i below. go b of i below (slot_at (bucket_in k hs b) i) refl }
    where
      go : (b : ℕ) → IsBucketOf k.hash (power_of hs) q b → (i : ℕ) → i < 4 → (o : Option (Name × V)) → slot_at (bucket_in k hs b) i ≡ o → IsSome o
      go b of i below None is = absurd (stuck.no_path b [] of (omega arith) (i, below, is))
      go b of i below (Some e) is = refl

  module _ (hs : Stripes V) (lawful : Lawful k hs) where
    -- the stripe of an entry that stands in a bucket
    held_in : (b i : ℕ) (q : Name) (v : V) → slot_at (bucket_in k hs b) i ≡ Some (q, v) → (c : Content V) × Holds hs (b % 2 ^ k.s) c × (slot_at (row_at c.rows (b / 2 ^ k.s)) i ≡ Some (q, v))
    held_in b i q v is =
        let d = held_there hs (b % 2 ^ k.s) (b / 2 ^ k.s) i (q, v) is in
        (d.0, d.1, ap (λ (l : List (List (Slot V))). slot_at (row_at l (b / 2 ^ k.s)) i) (sym d.2) ∙ is)

    binds_in : (b i : ℕ) (q : Name) (v : V) (c : Content V) → Holds hs (b % 2 ^ k.s) c → slot_at (row_at c.rows (b / 2 ^ k.s)) i ≡ Some (q, v) → Binds c q v
    binds_in b i q v c h is = stands k (b % 2 ^ k.s) c (lawful.sound (b % 2 ^ k.s) c h) (b / 2 ^ k.s) i q v is

    -- what stands in a bucket is bound
    bound_there : (b i : ℕ) (q : Name) (v : V) → slot_at (bucket_in k hs b) i ≡ Some (q, v) → get (bindings hs) q ≡ Some v
    bound_there b i q v is =
        let d = held_in b i q v is in
        bound_from hs lawful.once lawful.distinct (b % 2 ^ k.s) d.0 q v d.1 (binds_in b i q v d.0 d.1 d.2)

    -- what is bound stands in a bucket of its name
    stands_where : (q : Name) (v : V) → get (bindings hs) q ≡ Some v → (b i : ℕ) × IsBucketOf k.hash (power_of hs) q b × (slot_at (bucket_in k hs b) i ≡ Some (q, v))
    stands_where q v bound =
        let d = bound_where hs q v bound in
        let slot = found_entry q d.1.rows v d.3 in
        let sound = lawful.sound d.0 d.1 d.2 in
        let b : ℕ = slot.0 * 2 ^ k.s + d.0 in (
          b,
          slot.1,
          subst (λ n. IsBucketOf k.hash n q b) (sym (power_held k hs d.0 d.1 lawful d.2)) (sound.placed slot.0 slot.1 q v slot.2),
          ap (λ (l : List (List (Slot V))). slot_at (row_at l (b / 2 ^ k.s)) slot.1) (ap (rows_of hs) (mod-mul-add slot.0 (2 ^ k.s) d.0 sound.number) ∙ rows_held hs d.0 d.1 lawful.distinct d.2)
              ∙ ap (λ n. slot_at (row_at d.1.rows n) slot.1) (div-mul-add slot.0 (2 ^ k.s) d.0 sound.number) ∙ slot.2,
        )

    -- no name stands in two slots
    one_place : (b i c j : ℕ) (q : Name) (v w : V) → i < 4 → slot_at (bucket_in k hs b) i ≡ Some (q, v) → slot_at (bucket_in k hs c) j ≡ Some (q, w) → (c ≡ b) × (j ≡ i)
    one_place b i c j q v w below first second =
        let d = held_in b i q v first in
        let e = held_in c j q w second in
        let stripe : c % 2 ^ k.s ≡ b % 2 ^ k.s = lawful.once (c % 2 ^ k.s) (b % 2 ^ k.s) e.0 d.0 q w v e.1 d.1 (binds_in c j q w e.0 e.1 e.2) (binds_in b i q v d.0 d.1 d.2) in
        let same : e.0 ≡ d.0 = one_content hs lawful.distinct (b % 2 ^ k.s) e.0 d.0 (subst (λ n. Holds hs n e.0) stripe e.1) d.1 in
        let one = one_slot (b % 2 ^ k.s) d.0 (lawful.sound (b % 2 ^ k.s) d.0 d.1) (b / 2 ^ k.s) i (c / 2 ^ k.s) j q v w below d.2
        (subst (λ (x : Content V). slot_at (row_at x.rows (c / 2 ^ k.s)) j ≡ Some (q, w)) same e.2) in
        (sym (div-add-mod' c (2 ^ k.s)) ∙ (λ z. one.0 z * 2 ^ k.s + stripe z) ∙ div-add-mod' b (2 ^ k.s), one.1)

  module _ (p : ℕ) (hs ks : Stripes V) (lawful : Lawful k hs) (after : Lawful k ks) (rises : power_of hs ≤ p) (level : power_of ks ≡ p) (to : IsDoubledTo k p hs ks) (kept : bindings ks ≡ bindings hs) where
    below_power : (q : Name) (b : ℕ) → IsBucketOf k.hash (power_of hs) q b → b < 2 ^ power_of hs
    below_power q b home = ⊎_elim
        (λ e. subst (λ n. n < 2 ^ power_of hs) (sym e) (index_below (power_of hs) (k.hash q)))
        (λ e. subst (λ n. n < 2 ^ power_of hs) (sym e) (second_below (power_of hs) (k.hash q))) home

    -- an entry of a bucket was in the same slot of the bucket from which this one comes
    came : (c i : ℕ) (q : Name) (v : V) → i < 4 → slot_at (bucket_in k ks c) i ≡ Some (q, v) → slot_at (bucket_in k hs (c % 2 ^ power_of hs)) i ≡ Some (q, v)
    came c i q v below is =
        let was = stands_where hs lawful q v (ap (λ (m : Map V). get m q) (sym kept) ∙ bound_there ks after c i q v is) in
        let one = one_place ks after c i (bucket_after k.hash (power_of hs) p q was.0) was.1 q v v below is (to.sends was.0 was.1 q v (below_power q was.0 was.2) was.3) in
        let from : was.0 ≡ c % 2 ^ power_of hs = sym (after_lower k.hash (power_of hs) p q was.0 rises was.2) ∙ ap (λ n. n % 2 ^ power_of hs) one.0 in
        subst (λ (x : ℕ × ℕ). slot_at (bucket_in k hs x.0) x.1 ≡ Some (q, v)) (λ z. (from z, one.1 z)) was.3

    -- a bucket that is full came from a full one
    full_before : (c b : ℕ) → c % 2 ^ power_of hs ≡ b → IsFull (bucket_in k ks c) → IsFull (bucket_in k hs b)
    full_before c b lower full i below = go (slot_at (bucket_in k ks c) i) refl (full i below)
      where
        go : (o : Option (Name × V)) → slot_at (bucket_in k ks c) i ≡ o → IsSome o → IsSome (slot_at (bucket_in k hs b) i)
        go None is some = absurd (false≢true some)
        go (Some e) is some = subst (λ (o : Option (Name × V)). IsSome o) (sym (ap (λ n. slot_at (bucket_in k hs n) i) (sym lower) ∙ came c i e.0 e.1 below is)) refl

    -- a name without room had none before
    pub none_before : (q : Name) → HasNoRoom k ks q → HasNoRoom k hs q
    none_before q none = record {
      unbound = ap (λ (m : Map V). get m q) (sym kept) ∙ none.unbound;
      full = λ b of. ⊎_elim
          (λ e. full_before (index_of p (k.hash q)) b (index_lower (power_of hs) p (k.hash q) rises ∙ sym e) (none.full (index_of p (k.hash q)) (inl (ap (λ n. index_of n (k.hash q)) (sym level)))))
          (λ e. full_before (second_of p (k.hash q)) b (second_lower (power_of hs) p (k.hash q) rises ∙ sym e) (none.full (second_of p (k.hash q)) (inr (ap (λ n. second_of n (k.hash q)) (sym level)))))
          of;
    }
