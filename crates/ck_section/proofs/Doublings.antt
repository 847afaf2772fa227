-- Doublings, one after another.
use Rattle.std.proofs.Common.{◌≡◌, ◌≢◌, ⊎_elim, ℕ, ◌/◌, ◌%◌, ◌^◌, ◌<◌, ◌≤◌, List, Some, refl, sym, ◌∙◌, ap, subst}
use mathlib.Core.Logic.{dite}
use native.Mathlib.Decide.{ℕ_discrete}
use Rattle.std.proofs.lemmas.Nat.{div-add-mod'}
use Rattle.std.proofs.lemmas.List.Sorted.{IsPermutation-refl, IsPermutation-trans}
use Rattle.ck_model.specs.Arithmetic.{index_of, second_of}
use Rattle.ck_model.specs.Promise.{Name}
use Rattle.ck_model.specs.Numbered.{Holds}
use Rattle.ck_model.specs.Slots.{Slot, slot_at}
use Rattle.ck_model.specs.declared.contents.Content.{Content}
use Rattle.ck_model.specs.Contents.{Layout, Stripes, Lawful, IsBucketOf, power_of, row_at, rows_of, bucket_in}
use Rattle.ck_model.specs.Doubling.{bucket_after, IsDoubledTo}
use Rattle.ck_model.proofs.Buckets.{index_below, second_below, index_lower, second_lower}
use Rattle.ck_model.proofs.Numbered.{if_same, if_else}
use Rattle.ck_model.proofs.Rows.{held_there, power_held}

module _ (hash : Name → ℕ) (q : Name) where
  pub after_first : (p p2 b : ℕ) → b ≡ index_of p (hash q) → bucket_after hash p p2 q b ≡ index_of p2 (hash q)
  after_first p p2 b e = if_same b (index_of p (hash q)) (index_of p2 (hash q)) (second_of p2 (hash q)) e

  pub after_second : (p p2 b : ℕ) → b ≢ index_of p (hash q) → bucket_after hash p p2 q b ≡ second_of p2 (hash q)
  after_second p p2 b ne = if_else b (index_of p (hash q)) (index_of p2 (hash q)) (second_of p2 (hash q)) ne

  pub is_second : (p b : ℕ) → IsBucketOf hash p q b → b ≢ index_of p (hash q) → b ≡ second_of p (hash q)
  is_second p b home ne = ⊎_elim (λ e. absurd (ne e)) (λ e. e) home

  -- a bucket at the power at which it is one
  pub after_none : (p b : ℕ) → IsBucketOf hash p q b → bucket_after hash p p q b ≡ b
  after_none p b home = dite (ℕ_discrete b (index_of p (hash q)))
      (λ e. after_first p p b e ∙ sym e)
      (λ ne. after_second p p b ne ∙ sym (is_second p b home ne))

  pub after_below : (p p2 b : ℕ) → bucket_after hash p p2 q b < 2 ^ p2
  after_below p p2 b = dite (ℕ_discrete b (index_of p (hash q)))
      (λ e. subst (λ n. n < 2 ^ p2) (sym (after_first p p2 b e)) (index_below p2 (hash q)))
      (λ ne. subst (λ n. n < 2 ^ p2) (sym (after_second p p2 b ne)) (second_below p2 (hash q)))

  -- from power to power a bucket goes where it goes at once
  pub after_on : (p p2 p3 b : ℕ) → p ≤ p2 → IsBucketOf hash p q b → bucket_after hash p2 p3 q (bucket_after hash p p2 q b) ≡ bucket_after hash p p3 q b
  after_on p p2 p3 b le home = dite (ℕ_discrete b (index_of p (hash q)))
      (λ e. after_first p2 p3 (bucket_after hash p p2 q b) (after_first p p2 b e) ∙ sym (after_first p p3 b e))
      (λ ne. let two : b ≡ second_of p (hash q) = is_second p b home ne in
      let mid : bucket_after hash p p2 q b ≡ second_of p2 (hash q) = after_second p p2 b ne in
      after_second p2 p3 (bucket_after hash p p2 q b) (λ f. ne (two ∙ sym (second_lower p p2 (hash q) le) ∙ ap (λ n. n % 2 ^ p) (sym mid ∙ f) ∙ index_lower p p2 (hash q) le))
      ∙ sym (after_second p p3 b ne))

module _ {V : Type 0} (k : Layout) where
  module _ (hs : Stripes V) (lawful : Lawful k hs) where
    -- an entry of lawful stripes stands in a bucket of its name
    pub home : (b i : ℕ) (q : Name) (v : V) → slot_at (bucket_in k hs b) i ≡ Some (q, v) → IsBucketOf k.hash (power_of hs) q b
    home b i q v is =
        let t : ℕ = b % 2 ^ k.s in
        let held : (c : Content V) × Holds hs t c × (rows_of hs t ≡ c.rows) = held_there hs t (b / 2 ^ k.s) i (q, v) is in
        let in_rows : slot_at (row_at held.0.rows (b / 2 ^ k.s)) i ≡ Some (q, v) = subst (λ (rows : List (List (Slot V))). slot_at (row_at rows (b / 2 ^ k.s)) i ≡ Some (q, v)) held.2 is in
        subst (λ (x : ℕ × ℕ). IsBucketOf k.hash x.0 q x.1) (λ z. (sym (power_held k hs t held.0 lawful held.1) z, div-add-mod' b (2 ^ k.s) z))
        ((lawful.sound t held.0 held.1).placed (b / 2 ^ k.s) i q v in_rows)

    -- before any doubling
    pub doubled_none : IsDoubledTo k (power_of hs) hs hs
    doubled_none = record {
      same = refl;
      power = λ t c h. sym (power_held k hs t c lawful h);
      sends = λ b i q v lt is. subst (λ n. slot_at (bucket_in k hs n) i ≡ Some (q, v)) (sym (after_none k.hash q (power_of hs) b (home b i q v is))) is;
      pairs = IsPermutation-refl _;
    }

    -- a doubling after others
    pub doubled_on : (p p2 : ℕ) (ks ls : Stripes V) → power_of hs ≤ p → power_of ks ≡ p → IsDoubledTo k p hs ks → IsDoubledTo k p2 ks ls → IsDoubledTo k p2 hs ls
    doubled_on p p2 ks ls le power one two = record {
      same = two.same ∙ one.same;
      power = two.power;
      sends = λ b i q v lt is.
          let mid : ℕ = bucket_after k.hash (power_of hs) p q b in
          let below : mid < 2 ^ power_of ks = subst (λ n. mid < 2 ^ n) (sym power) (after_below k.hash q (power_of hs) p b) in
          let there : slot_at (bucket_in k ls (bucket_after k.hash (power_of ks) p2 q mid)) i ≡ Some (q, v) = two.sends mid i q v below (one.sends b i q v lt is) in
          subst (λ n. slot_at (bucket_in k ls n) i ≡ Some (q, v)) (ap (λ n. bucket_after k.hash n p2 q mid) power ∙ after_on k.hash q (power_of hs) p p2 b le (home b i q v is)) there;
      pairs = IsPermutation-trans _ _ _ one.pairs two.pairs;
    }
