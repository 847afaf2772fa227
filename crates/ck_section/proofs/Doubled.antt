-- All contents of a table, doubled.
use Rattle.std.proofs.Common.{◌≡◌, ◌⊎◌, inl, inr, ⊎_elim, ℕ, ◌+◌, ◌*◌, ◌/◌, ◌%◌, ◌^◌, ◌<◌, Bool, true, false, List, [], ◌∷◌, Some, map, refl, sym, ◌∙◌, ap, subst, arith}
use Rattle.std.specs.FinMap.{find}
use Rattle.std.specs.List.Sorted.{IsPermutation}
use Rattle.std.proofs.Math.Nat.{add-mul-mod_self_right}
use Rattle.std.proofs.lemmas.Nat.{div-add-mod'}
use Rattle.std.proofs.lemmas.List.Sorted.{IsPermutation-refl, IsPermutation-append}
use Rattle.ck_model.specs.Arithmetic.{index_of, second_of}
use Rattle.ck_model.specs.Promise.{Name, name_cmp}
use Rattle.ck_model.specs.Slots.{Slot, slot_at}
use Rattle.ck_model.specs.Numbered.{AreDistinct, numbers, Holds}
use Rattle.ck_model.specs.declared.contents.Content.{Content}
use Rattle.ck_model.specs.Contents.{Layout, Stripes, row_at, rows_of, pairs_in, pairs_of, power_of, bucket_in, Binds, IsBucketOf, IsSound, Lawful}
use Rattle.ck_model.specs.Sections.{HasAll, IdentitySection}
use Rattle.ck_model.specs.Doubling.{bucket_after, IsDoubledTo}
use Rattle.ck_model.proofs.Rows.{rows_held, held_there, power_held}
use Rattle.ck_model.proofs.Doubling.{bindings-permuted}
use Rattle.ck_key.specs.Doubling.{grown_of, rises_of}
use Rattle.ck_key.proofs.Doubling.{stays_at, rises_to}
use Rattle.ck_stripe.specs.Doubling.{doubled_content}
use Rattle.ck_stripe.proofs.Doubled.{all_buckets, pairs_doubled, sound_doubled, found_doubled, sends_doubled}

-- the bucket of the next power is one of the same stripe
same_stripe : (s p b h n : ℕ) → 2 ^ p ≡ n * 2 ^ s → (b ≡ index_of p h) ⊎ (b ≡ second_of p h) → grown_of p b h % 2 ^ s ≡ b % 2 ^ s
same_stripe s p b h n size of = go (rises_of p b h) refl
  where
    go : (up : Bool) → rises_of p b h ≡ up → grown_of p b h % 2 ^ s ≡ b % 2 ^ s
    go false e = ap (λ x. x % 2 ^ s) (stays_at p b h e)
    go true e = ap (λ x. x % 2 ^ s) (rises_to p b h of e ∙ ap (λ x. b + x) size) ∙ add-mul-mod_self_right b n (2 ^ s)

module _ {V : Type 0} (k : Layout) where
  -- each content at the next power
  abbrev pub doubled_all : Stripes V → Stripes V
  doubled_all hs = map (λ (h : ℕ × Content V). (h.0, doubled_content k.hash k.s h.0 h.1)) hs

  pub numbers-doubled : (hs : Stripes V) → numbers (doubled_all hs) ≡ numbers hs
  numbers-doubled [] = refl
  numbers-doubled (h ∷ hs) = ap {B = List ℕ} (λ l. h.0 ∷ l) (numbers-doubled hs)

  held_before : (hs : Stripes V) (t : ℕ) (d : Content V) → Holds (doubled_all hs) t d → (c : Content V) × Holds hs t c × (d ≡ doubled_content k.hash k.s t c)
  held_before [] t d h = absurd h
  held_before (x ∷ hs) t d h = ⊎_elim
      (λ (e : (x.0 ≡ t) × (doubled_content k.hash k.s x.0 x.1 ≡ d)). (x.1, inl (e.0, refl), sym e.1 ∙ ap (λ n. doubled_content k.hash k.s n x.1) e.0))
      (λ r. let z = held_before hs t d r in (z.0, inr z.1, z.2)) h

  held_after : (hs : Stripes V) (t : ℕ) (c : Content V) → Holds hs t c → Holds (doubled_all hs) t (doubled_content k.hash k.s t c)
  held_after [] t c h = absurd h
  held_after (x ∷ hs) t c h = ⊎_elim
      (λ (e : (x.0 ≡ t) × (x.1 ≡ c)). inl (e.0, λ i. doubled_content k.hash k.s (e.0 i) (e.1 i)))
      (λ r. inr (held_after hs t c r)) h

  pub pairs-doubled : (hs : Stripes V) → IsPermutation (pairs_of hs) (pairs_of (doubled_all hs))
  pairs-doubled [] = IsPermutation-refl []
  pairs-doubled (h ∷ hs) = IsPermutation-append (pairs_in h.1) (pairs_in (doubled_content k.hash k.s h.0 h.1)) (pairs_of hs) (pairs_of (doubled_all hs))
      (pairs_doubled k.hash k.s h.0 h.1) (pairs-doubled hs)

  module _ (hs : Stripes V) (lawful : Lawful k hs) (below : power_of hs < k.max) where
    -- they were of one power
    power_before : (t : ℕ) (c : Content V) → Holds hs t c → c.power ≡ power_of hs
    power_before t c h = sym (power_held k hs t c lawful h)

    power_after : (t : ℕ) (d : Content V) → Holds (doubled_all hs) t d → d.power ≡ power_of hs + 1
    power_after t d h = let z = held_before hs t d h in ap (λ (x : Content V). x.power) z.2 ∙ ap (λ n. n + 1) (power_before t z.0 z.1)

    bound_before : (t : ℕ) (d : Content V) (q : Name) (v : V) → Holds (doubled_all hs) t d → Binds d q v → (c : Content V) × Holds hs t c × Binds c q v
    bound_before t d q v h b =
        let z = held_before hs t d h in
        (z.0, z.1, sym (found_doubled k t z.0 (lawful.sound t z.0 z.1) q) ∙ ap (λ (x : Content V). find name_cmp q (pairs_in x)) (sym z.2) ∙ b)

    pub lawful_doubled : Lawful k (doubled_all hs)
    lawful_doubled = record {
      distinct = subst AreDistinct (sym (numbers-doubled hs)) lawful.distinct;
      sound = λ t d h.
          let z = held_before hs t d h in
          subst (λ (x : Content V). IsSound k t x) (sym z.2) (sound_doubled k t z.0 (lawful.sound t z.0 z.1) (subst (λ n. n < k.max) (sym (power_before t z.0 z.1)) below));
      once = λ t u c d q v w h g b e. let x = bound_before t c q v h b in let y = bound_before u d q w g e in lawful.once t u x.0 y.0 q v w x.1 y.1 x.2 y.2;
      one_power = λ t u c d h g. power_after t c h ∙ sym (power_after u d g);
    }

    pub section_doubled : HasAll k hs → IdentitySection k hs (doubled_all hs)
    section_doubled all = record {
      renewed = record {
        same = numbers-doubled hs;
        lawful = lawful_doubled;
        power = inr (all, λ t u c d h g. let before = power_before t c h in let after = power_after u d g in omega arith);
      };
      same_bindings = bindings-permuted k hs lawful (doubled_all hs) (pairs-doubled hs);
    }

    -- each entry goes to its name's bucket
    sends_all : (b i : ℕ) (q : Name) (v : V) → b < 2 ^ power_of hs → slot_at (bucket_in k hs b) i ≡ Some (q, v)
        → slot_at (bucket_in k (doubled_all hs) (bucket_after k.hash (power_of hs) (power_of hs + 1) q b)) i ≡ Some (q, v)
    unfolding grown_of
    sends_all b i q v small is =
        let t : ℕ = b % 2 ^ k.s in
        let z = held_there hs t (b / 2 ^ k.s) i (q, v) is in
        let c : Content V = z.0 in
        let sound : IsSound k t c = lawful.sound t c z.1 in
        let power : power_of hs ≡ c.power = sym (power_before t c z.1) in
        let at : slot_at (row_at c.rows (b / 2 ^ k.s)) i ≡ Some (q, v) = ap (λ (rows : List (List (Slot V))). slot_at (row_at rows (b / 2 ^ k.s)) i) (sym z.2) ∙ is in
        let of : IsBucketOf k.hash c.power q b = subst (λ n. IsBucketOf k.hash c.power q n) (div-add-mod' b (2 ^ k.s)) (sound.placed (b / 2 ^ k.s) i q v at) in
        let next : ℕ = grown_of c.power b (k.hash q) in
        let stripe : next % 2 ^ k.s ≡ t = same_stripe k.s c.power b (k.hash q) _ (all_buckets k.s c.power _ sound.shaped.least sound.shaped.rows) of in
        let rows : rows_of (doubled_all hs) (next % 2 ^ k.s) ≡ (doubled_content k.hash k.s t c).rows =
        ap (λ n. rows_of (doubled_all hs) n) stripe ∙ rows_held (doubled_all hs) t (doubled_content k.hash k.s t c) lawful_doubled.distinct (held_after hs t c z.1) in
        ap (λ p. slot_at (bucket_in k (doubled_all hs) (bucket_after k.hash p (p + 1) q b)) i) power
        ∙ ap (λ (l : List (List (Slot V))). slot_at (row_at l (next / 2 ^ k.s)) i) rows
        ∙ sends_doubled k.hash k.s t c sound.shaped.least sound.shaped.rows b i q v (subst (λ p. b < 2 ^ p) power small) refl of at

    pub is_doubled : IsDoubledTo k (power_of hs + 1) hs (doubled_all hs)
    is_doubled = record { same = numbers-doubled hs; power = power_after; sends = sends_all; pairs = pairs-doubled hs }
