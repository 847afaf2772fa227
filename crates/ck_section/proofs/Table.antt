-- All stripes of a table: their memory, their doubling and their entries.
use Rattle.std.proofs.Common.{◌≡◌, ℕ, zero, suc, ◌+◌, ◌^◌, ◌<◌, ◌≤◌, List, [], ◌∷◌, ◌++◌, length, take, map, refl, sym, ◌∙◌, ap, subst, append_assoc, add-one, arith}
use Rattle.std.proofs.Math.Pow.{pow_mono}
use Rattle.std.specs.FinMap.{from_entries}
use Rattle.std.specs.declared.cmp.Ordering.{Ordering}
use Rattle.std.proofs.lemmas.Nat.{pow_pos}
use Rattle.std.proofs.lemmas.List.{length-map, get_or-map}
use Rattle.ck_model.specs.Promise.{Name}
use Rattle.ck_model.specs.Listing.{named, ListsInOrder}
use Rattle.ck_model.specs.Contents.{layout, Stripes, Lawful, NamesApart, pairs_in, pairs_of, bindings, power_of}
use Rattle.ck_model.specs.Sections.{IdentitySection}
use Rattle.ck_model.specs.Doubling.{IsDoubledTo}
use Rattle.ck_model.proofs.Doubling.{pairs_apart}
use Rattle.ck_stripe.specs.Stripe.{StripeState, HasNoSpare, IsReserved, reserved}
use Rattle.ck_stripe.specs.Stripes.{no_stripe, stripe_at, contents_of, HaveNoSpare, shrunk_stripes, reserved_stripes, doubled, doubled_stripes}
use Rattle.ck_stripe.specs.Tables.{AreSettled, IsTable}
use Rattle.ck_section.specs.Doublings.{AreReserved, DoublesEach, Grows}
use Rattle.ck_stripe.proofs.Totals.{pairs-next}
use Rattle.ck_stripe.proofs.Tables.{has_all}
use Rattle.ck_stripe.proofs.Stepwise.{changed_to}
use Rattle.ck_section.proofs.Doubled.{doubled_all, section_doubled, is_doubled}

module _ {V : Type 0} where
  -- Memory for a doubling of the first n stripes is reserved.
  pub settled_partly : (n : ℕ) (stripes now : List (StripeState V)) → now ≡ changed_to reserved n stripes → AreSettled stripes → AreSettled now
  settled_partly n stripes now is settled = subst AreSettled (sym is) (go n stripes settled)
    where
      go : (n : ℕ) (stripes : List (StripeState V)) → AreSettled stripes → AreSettled (changed_to reserved n stripes)
      go zero ts settled i l = settled i l
      go (suc n) [] settled i l = settled i l
      go (suc n) (t ∷ ts) settled zero l = settled 0 (omega arith)
      go (suc n) (t ∷ ts) settled (suc i) l = go n ts (λ j k. settled (suc j) (omega arith)) i (omega arith)

  -- and is given back
  pub given_back : (n : ℕ) (stripes now : List (StripeState V)) → now ≡ changed_to reserved n stripes → HaveNoSpare stripes → shrunk_stripes now ≡ stripes
  given_back n stripes now is spare = ap shrunk_stripes is ∙ go n stripes spare
    where
      go : (n : ℕ) (stripes : List (StripeState V)) → HaveNoSpare stripes → shrunk_stripes (changed_to reserved n stripes) ≡ stripes
      go zero [] spare = refl
      go zero (t ∷ ts) spare = λ j. record t { room = sym (spare 0 (omega arith)) j } ∷ go zero ts (λ i l. spare (suc i) (omega arith)) j
      go (suc n) [] spare = refl
      go (suc n) (t ∷ ts) spare = λ j. record t { room = sym (spare 0 (omega arith)) j } ∷ go n ts (λ i l. spare (suc i) (omega arith)) j

  -- There is memory for a doubling of each.
  module _ (old mid : List (StripeState V)) (is : mid ≡ reserved_stripes old) where
    pub count_reserved : length mid ≡ length old
    count_reserved = ap length is ∙ length-map old reserved

    pub reserved_at : (i : ℕ) → i < length mid → stripe_at mid i ≡ reserved (stripe_at old i)
    reserved_at i l = ap (λ (x : List (StripeState V)). stripe_at x i) is ∙ get_or-map reserved old i no_stripe no_stripe (subst (λ n. i < n) count_reserved l)

    pub settled_reserved : AreSettled old → AreSettled mid
    settled_reserved settled i l = ap (λ (t : StripeState V). t.settled) (reserved_at i l) ∙ settled i (subst (λ n. i < n) count_reserved l)

    pub are_reserved : AreReserved mid
    are_reserved i l = subst IsReserved (sym (reserved_at i l)) refl

  contents_doubled : (hash : Name → ℕ) (s max : ℕ) (stripes : List (StripeState V)) → ((i : ℕ) → i < length stripes → (stripe_at stripes i).s ≡ s)
      → contents_of (doubled_stripes hash (reserved_stripes stripes)) ≡ doubled_all (layout hash s max) (contents_of stripes)
  contents_doubled hash s max [] of = refl
  contents_doubled hash s max (t ∷ ts) of =
      let here : t.s ≡ s = of 0 (omega arith) in
      let rest = contents_doubled hash s max ts (λ i l. of (suc i) (omega arith)) in
      λ j. (t.number, (doubled hash (record t { s = here j })).content) ∷ rest j

  power_first : (stripes : List (StripeState V)) → power_of (contents_of stripes) ≡ (stripe_at stripes 0).content.power
  power_first [] = refl
  power_first (t ∷ ts) = refl

  module _ (hash : Name → ℕ) (s : ℕ) (old mid new : List (StripeState V)) (before : mid ≡ reserved_stripes old) (after : new ≡ doubled_stripes hash mid) where
    is : new ≡ doubled_stripes hash (reserved_stripes old)
    is = after ∙ ap (doubled_stripes hash) before

    count_new : length new ≡ length old
    count_new = ap length is ∙ length-map (reserved_stripes old) (doubled hash) ∙ length-map old reserved

    raised : (i : ℕ) → i < length old → stripe_at new i ≡ doubled hash (reserved (stripe_at old i))
    raised i l =
        ap (λ (x : List (StripeState V)). stripe_at x i) after ∙ get_or-map (doubled hash) mid i no_stripe no_stripe (subst (λ n. i < n) (sym (count_reserved old mid before)) l)
        ∙ ap (doubled hash) (reserved_at old mid before i (subst (λ n. i < n) (sym (count_reserved old mid before)) l))

    pub doubles : DoublesEach hash old new
    doubles = record { count = count_new; each = raised; power = λ i l. ap (λ (t : StripeState V). t.content.power) (raised i l) }

    module _ (table : IsTable s old) where
      some : 0 < length old
      some = subst (λ n. 0 < n) (sym table.count) (pow_pos s)

      pub table_doubled : (stripe_at old 0).content.power < 26 → IsTable s new
      table_doubled below = record {
        many = table.many;
        count = count_new ∙ table.count;
        number = λ i l. ap (λ (t : StripeState V). t.number) (raised i (inside i l)) ∙ table.number i (inside i l);
        one_s = λ i l. ap (λ (t : StripeState V). t.s) (raised i (inside i l)) ∙ table.one_s i (inside i l);
        one_power = λ i l. doubles.power i (inside i l) ∙ ap (λ n. n + 1) (table.one_power i (inside i l)) ∙ sym (doubles.power 0 some);
        least = subst (λ n. s ≤ n) (sym (doubles.power 0 some)) (omega (arith, table.least));
        most = subst (λ n. n ≤ 26) (sym (doubles.power 0 some)) (omega arith);
        no_spare = λ i l. subst HasNoSpare (sym (raised i (inside i l))) refl;
      }
        where
          inside : (i : ℕ) → i < length new → i < length old
          inside i l = subst (λ n. i < n) count_new l

      contents_new : (max : ℕ) → contents_of new ≡ doubled_all (layout hash s max) (contents_of old)
      contents_new max = ap contents_of is ∙ contents_doubled hash s max old (λ i l. table.one_s i l)

      pub grows : Grows hash s old new
      grows = record {
        doubled = λ max below lawful. subst (λ (x : ℕ × Stripes V). IsDoubledTo (layout hash s max) (x.0 + 1) (contents_of old) x.1) (λ z. (power_first old z, sym (contents_new max) z))
            (is_doubled (layout hash s max) (contents_of old) lawful (subst (λ n. n < max) (sym (power_first old)) below));
        no_call = λ max below lawful. subst (IdentitySection (layout hash s max) (contents_of old)) (sym (contents_new max))
            (section_doubled (layout hash s max) (contents_of old) lawful (subst (λ n. n < max) (sym (power_first old)) below) (has_all hash s max old table));
      }

module _ {V : Type 0} where
  -- the pairs of stripe i are pushed behind those of the stripes before it
  pub pairs_more : {K : Type 0} (name : K → Name) (pairs after start : List (K × V)) (i : ℕ) (stripes : List (StripeState V)) (t : StripeState V) → i < length stripes → t ≡ stripe_at stripes i
      → map (named name) pairs ≡ map (named name) start ++ pairs_of (contents_of (take i stripes)) → map (named name) after ≡ map (named name) pairs ++ pairs_in t.content
      → map (named name) after ≡ map (named name) start ++ pairs_of (contents_of (take (i + 1) stripes))
  pairs_more name pairs after start i stripes t lt is seen pushed =
      pushed ∙ ap (λ es. es ++ pairs_in t.content) seen
      ∙ append_assoc (map (named name) start) (pairs_of (contents_of (take i stripes))) (pairs_in t.content)
      ∙ ap (λ es. map (named name) start ++ es)
      (ap (λ (u : StripeState V). pairs_of (contents_of (take i stripes)) ++ pairs_in u.content) is ∙ sym (pairs-next i stripes lt) ∙ ap (λ n. pairs_of (contents_of (take n stripes))) (sym (add-one i)))

  pub few_stripes : (s : ℕ) (stripes : List (StripeState V)) → IsTable s stripes → length stripes ≤ 2 ^ 10
  few_stripes s stripes table =
      let few : 2 ^ s ≤ 2 ^ 10 = pow_mono table.many in
      omega (arith, table.count)

  -- the pairs of all stripes, once they are sorted, list the map
  pub lists_bindings : {K : Type 0} (name : K → Name) (cmp : K → K → Ordering) (hash : Name → ℕ) (s max : ℕ) (stripes : List (StripeState V)) → Lawful (layout hash s max) (contents_of stripes)
      → (before after : List (K × V)) → map (named name) before ≡ pairs_of (contents_of stripes) → (NamesApart (map (named name) before) → ListsInOrder name cmp after (from_entries (map (named name) before)))
      → ListsInOrder name cmp after (bindings (contents_of stripes))
  unfolding bindings
  lists_bindings name cmp hash s max stripes lawful before after all sorted =
      subst (λ es. ListsInOrder name cmp after (from_entries es)) all (sorted (subst NamesApart (sym all) (pairs_apart (layout hash s max) (contents_of stripes) lawful)))
