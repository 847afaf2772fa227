-- What settles, displaces and doubles all stripes of a table, and what is known of room for a name then.
use Rattle.std.proofs.Common.{◌≡◌, ⊎_elim, ℕ, zero, suc, ◌%◌, ◌^◌, ◌<◌, Bool, true, false, ltb, MatchBool, List, [], ◌∷◌, Option, Some, None, IfSome, IfNone, is_some, length, refl, sym, ◌∙◌, ap, subst, arith}
use mathlib.Core.Logic.{dite}
use native.Mathlib.Decide.{ℕ_discrete}
use Rattle.std.proofs.Math.Nat.{mod-lt}
use Rattle.std.proofs.lemmas.Bool.{ltb-true, lt-ltb, false≢true}
use Rattle.std.proofs.lemmas.Nat.{pow_pos}
use Rattle.std.proofs.lemmas.List.{length-set, get_or-set_same, get_or-set_other}
use Rattle.ck_key.specs.declared.key_hash.KeyHash.{KeyHash}
use Rattle.ck_key.specs.Hashes.{IsHashOf}
use Rattle.ck_model.specs.Arithmetic.{index_of, second_of}
use Rattle.ck_model.specs.Promise.{Name}
use Rattle.ck_model.specs.Slots.{HasFree}
use Rattle.ck_model.specs.Contents.{Stripes, IsBucketOf}
use Rattle.ck_model.proofs.Buckets.{index_below, second_below}
use Rattle.ck_stripe.specs.Stripe.{StripeState}
use Rattle.ck_stripe.specs.Stripes.{no_stripe, stripe_at, bucket_at, contents_of, IsInReach}
use Rattle.ck_section.specs.Places.{IsPlaceOf}
use Rattle.ck_stripe.specs.Tables.{IsTable, power_in}
use Rattle.ck_section.specs.Calls.{IsWithRoom}
use Rattle.ck_section.specs.Room.{settled_at}
use Rattle.ck_stripe.proofs.Settled.{form, AreAlike, table_alike}
use Rattle.ck_section.proofs.Found.{has_room}
use Rattle.ck_section.proofs.Tables.{stripe_inside}

module _ {V : Type 0} where
  -- One stripe is settled.
  module _ (stripes : List (StripeState V)) (i : ℕ) (inside : i < length stripes) where
    settled_here : stripe_at (settled_at stripes i) i ≡ record (stripe_at stripes i) { settled = true }
    settled_here = get_or-set_same stripes i (record (stripe_at stripes i) { settled = true }) no_stripe inside

    pub settled_flag : (stripe_at (settled_at stripes i) i).settled ≡ true
    settled_flag = ap (λ (t : StripeState V). t.settled) settled_here

    pub settled_still : (j : ℕ) → (stripe_at stripes j).settled ≡ true → (stripe_at (settled_at stripes i) j).settled ≡ true
    settled_still j is = dite (ℕ_discrete j i)
        (λ e. subst (λ n. (stripe_at (settled_at stripes i) n).settled ≡ true) (sym e) settled_flag)
        (λ ne. ap (λ (t : StripeState V). t.settled) (get_or-set_other stripes i j (record (stripe_at stripes i) { settled = true }) no_stripe ne) ∙ is)

    pub alike_settled_at : AreAlike stripes (settled_at stripes i)
    alike_settled_at = record {
      count = length-set stripes i (record (stripe_at stripes i) { settled = true });
      each = λ j l. dite (ℕ_discrete j i)
          (λ e. subst (λ n. form (stripe_at (settled_at stripes i) n) ≡ form (stripe_at stripes n)) (sym e) (ap form settled_here))
          (λ ne. ap form (get_or-set_other stripes i j (record (stripe_at stripes i) { settled = true }) no_stripe ne));
    }

  pub contents_settled_at : (stripes : List (StripeState V)) (i : ℕ) → contents_of (settled_at stripes i) ≡ contents_of stripes
  contents_settled_at [] i = refl
  contents_settled_at (t ∷ ts) zero = refl
  contents_settled_at (t ∷ ts) (suc i) = ap (λ (hs : Stripes V). (t.number, t.content) ∷ hs) (contents_settled_at ts i)

  module _ (s : ℕ) (old : List (StripeState V)) (table : IsTable s old) (hash : Name → ℕ) (q : Name) where
    power_at : (i : ℕ) → i < length old → (stripe_at old i).content.power ≡ power_in old
    power_at i l = table.one_power i l

    inside_of : (b : ℕ) → b % 2 ^ s < length old
    inside_of b = subst (λ n. b % 2 ^ s < n) (sym table.count) (mod-lt b (pow_pos s))

    -- a bucket of a settled stripe is in reach
    pub reach_in : (b : ℕ) → b < 2 ^ power_in old → (stripe_at old (b % 2 ^ s)).settled ≡ true → IsInReach old (b % 2 ^ s) b
    reach_in b below settled = record {
      inside = inside_of b;
      settled = settled;
      own = (
        subst (λ n. b < 2 ^ n) (sym (power_at (b % 2 ^ s) (inside_of b))) below,
        ap (λ n. b % 2 ^ n) (table.one_s (b % 2 ^ s) (inside_of b)) ∙ sym (table.number (b % 2 ^ s) (inside_of b)),
      );
    }

    -- where the name may be
    pub place_in : (h : KeyHash) (first second : ℕ) → IsHashOf hash q h → first ≡ index_of (power_in old) (hash q) → second ≡ second_of (power_in old) (hash q)
        → (stripe_at old (first % 2 ^ s)).settled ≡ true → (stripe_at old (second % 2 ^ s)).settled ≡ true
        → IsPlaceOf hash old q (record { s = s; partial = h.partial; first = record { index = first % 2 ^ s; bucket = first }; alternate = record { index = second % 2 ^ s; bucket = second } })
    place_in h first second of one two one_settled two_settled = record {
      many = table.many;
      one_s = table.one_s;
      partial = of.partial;
      first_reach = reach_in first (subst (λ n. n < 2 ^ power_in old) (sym one) (index_below (power_in old) (hash q))) one_settled;
      first = one ∙ ap (λ p. index_of p (hash q)) (sym (power_at (first % 2 ^ s) (inside_of first)));
      alternate_reach = reach_in second (subst (λ n. n < 2 ^ power_in old) (sym two) (second_below (power_in old) (hash q))) two_settled;
      alternate = two ∙ ap (λ p. second_of p (hash q)) (sym (power_at (second % 2 ^ s) (inside_of second)));
      one = λ e. ap (λ n. n % 2 ^ s) e;
    }

    -- a bucket of the name with a free slot is room
    pub room_in : (b : ℕ) → IsBucketOf hash (power_in old) q b → (stripe_at old (b % 2 ^ s)).settled ≡ true → HasFree (bucket_at old (b % 2 ^ s) b) → IsWithRoom hash s old q
    room_in b of settled free max lawful =
        let below : b < 2 ^ power_in old = ⊎_elim
        (λ e. subst (λ n. n < 2 ^ power_in old) (sym e) (index_below (power_in old) (hash q)))
        (λ e. subst (λ n. n < 2 ^ power_in old) (sym e) (second_below (power_in old) (hash q))) of in
        has_room hash s max old lawful q (record { index = b % 2 ^ s; bucket = b; slot = free.0 })
        (record {
          reach = reach_in b below settled;
          below = free.1;
          of_name = subst (λ p. IsBucketOf hash p q b) (sym (power_at (b % 2 ^ s) (inside_of b))) of;
        })
        (table.one_s (b % 2 ^ s) (inside_of b)) free.2

  -- The stripes of the name's two buckets are settled, and nothing else changes.
  module _ (s : ℕ) (old : List (StripeState V)) (table : IsTable s old) (hash : Name → ℕ) (q : Name) (h : KeyHash) (of : IsHashOf hash q h) (first second : ℕ) (one : first ≡ index_of (power_in old) (hash q)) (two : second ≡ second_of (power_in old) (hash q)) where
    abbrev i : ℕ
    i = first % 2 ^ s

    abbrev j : ℕ
    j = second % 2 ^ s

    abbrev mid : List (StripeState V)
    mid = settled_at old i

    abbrev pub both : List (StripeState V)
    both = settled_at mid j

    mid_table : IsTable s mid
    mid_table = table_alike s old mid (alike_settled_at old i (stripe_inside s old table first)) table

    in_mid : j < length mid
    in_mid = subst (λ n. j < n) (sym (alike_settled_at old i (stripe_inside s old table first)).count) (stripe_inside s old table second)

    pub both_table : IsTable s both
    both_table = table_alike s mid both (alike_settled_at mid j in_mid) mid_table

    pub both_contents : contents_of both ≡ contents_of old
    both_contents = contents_settled_at mid j ∙ contents_settled_at old i

    some : 0 < length old
    some = subst (λ n. 0 < n) (sym table.count) (pow_pos s)

    pub both_power : power_in both ≡ power_in old
    both_power =
        ap (λ (x : ℕ × ℕ × ℕ × ℕ). x.2) ((alike_settled_at mid j in_mid).each 0 (subst (λ n. 0 < n) (sym (alike_settled_at old i (stripe_inside s old table first)).count) some))
        ∙ ap (λ (x : ℕ × ℕ × ℕ × ℕ). x.2) ((alike_settled_at old i (stripe_inside s old table first)).each 0 some)

    first_flag : (stripe_at both i).settled ≡ true
    first_flag = settled_still mid j in_mid i (settled_flag old i (stripe_inside s old table first))

    second_flag : (stripe_at both j).settled ≡ true
    second_flag = settled_flag mid j in_mid

    first_of : first ≡ index_of (power_in both) (hash q)
    first_of = one ∙ ap (λ p. index_of p (hash q)) (sym both_power)

    second_there : second ≡ second_of (power_in both) (hash q)
    second_there = two ∙ ap (λ p. second_of p (hash q)) (sym both_power)

    pub both_place : IsPlaceOf hash both q (record { s = s; partial = h.partial; first = record { index = i; bucket = first }; alternate = record { index = j; bucket = second } })
    both_place = place_in s both both_table hash q h first second of first_of second_there first_flag second_flag

-- what a test says
pub test_says : (a b x y : ℕ) → a ≡ x → b ≡ y → MatchBool (ltb a b) (x < y) (¬ (x < y))
test_says a b x y e f = go (ltb a b) refl
  where
    go : (t : Bool) → ltb a b ≡ t → MatchBool t (x < y) (¬ (x < y))
    go true is = let lt : a < b = ltb-true a b is in omega arith
    go false is = λ lt. (let low : a < b = omega arith in false≢true (sym is ∙ lt-ltb a b low))

-- an option by its test
pub option_says : {A : Type 0} (o : Option A) (P Q : Type 0) → IfSome o (λ _. P) → IfNone o Q → MatchBool (is_some o) P Q
option_says None P Q p q = q
option_says (Some a) P Q p q = p
