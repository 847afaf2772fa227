-- Stripes that were taken and settled are held as calls need them.
use Rattle.std.proofs.Common.{◌≡◌, ℕ, zero, suc, ◌<◌, ◌≤◌, true, List, [], ◌∷◌, length, get_or, sym, refl, ap, ◌∙◌, subst, arith}
use Rattle.ck_model.specs.declared.settings.Settings.{Settings}
use Rattle.ck_model.specs.Promise.{Name}
use Rattle.ck_model.specs.Ranges.{AreInRange}
use Rattle.ck_model.specs.Contents.{layout_of, Lawful}
use Rattle.ck_stripe.specs.Stripe.{StripeState}
use Rattle.ck_stripe.specs.Stripes.{stripe_at, contents_of, HaveNoSpare, settled_stripes}
use Rattle.ck_stripe.specs.Tables.{AreHeld}
use Rattle.ck_stripe.proofs.Tables.{holds_at}
use Rattle.ck_stripe.proofs.Settled.{contents_settled}
use Rattle.ck_words.specs.Passes.{EachOf, PassState, IsUnchanged, ShowsSeen, numbers_of}
use Rattle.ck_words.proofs.Lending.{each_at}
use Rattle.ck_words.proofs.Seating.{length-numbers, number_at}
use Rattle.ck_words.proofs.Reversed.{lawful_reverse}
use Rattle.ck_words.proofs.Spare.{spare_settled}

-- the numbers of the list rise
abbrev pub Rise : List ℕ → Type 0
Rise ns = (i j : ℕ) → i < j → j < length ns → get_or ns i 0 < get_or ns j 0

module _ {V : Type 0} where
  each_settled : (n : ℕ) (ss : List (StripeState V)) → EachOf n ss → EachOf n (settled_stripes ss)
  each_settled n [] e = tt
  each_settled n (s ∷ ss) e = (e.0, each_settled n ss e.1)

  settled_at : (ss : List (StripeState V)) (i : ℕ) → i < length (settled_stripes ss) → (stripe_at (settled_stripes ss) i).settled ≡ true
  settled_at [] i h = absurd (omega arith)
  settled_at (s ∷ ss) zero h = refl
  settled_at (s ∷ ss) (suc i) h = settled_at ss i (omega arith)

  -- settled stripes stay as they are
  pub settled_same : (ss : List (StripeState V)) → ((i : ℕ) → i < length ss → (stripe_at ss i).settled ≡ true) → settled_stripes ss ≡ ss
  settled_same [] all = refl
  settled_same (s ∷ ss) all = λ j. record s { settled = sym (all 0 (omega arith)) j } ∷ settled_same ss (λ i l. all (suc i) (omega arith)) j

  pub numbers_settled : (ss : List (StripeState V)) → numbers_of (settled_stripes ss) ≡ numbers_of ss
  numbers_settled [] = refl
  numbers_settled (s ∷ ss) = ap {B = List ℕ} (λ l. s.number ∷ l) (numbers_settled ss)

  -- stripes with these numbers, whose contents are lawful
  module _ (hash : Name → ℕ) (set : Settings) (range : AreInRange set) (ss : List (StripeState V)) (ns : List ℕ) (named : numbers_of ss ≡ ns) (many : 0 < length ns) (lawful : Lawful (layout_of hash set) (contents_of ss)) where
    pub count_of : length ss ≡ length ns
    count_of = sym (length-numbers ss) ∙ ap length named

    pub some_of : 0 < length ss
    some_of = let count = count_of in omega arith

    pub one_power_of : (i : ℕ) → i < length ss → (stripe_at ss i).content.power ≡ (stripe_at ss 0).content.power
    one_power_of i h = lawful.one_power (stripe_at ss i).number (stripe_at ss 0).number (stripe_at ss i).content (stripe_at ss 0).content (holds_at ss i h) (holds_at ss 0 some_of)

    pub least_of : set.s ≤ (stripe_at ss 0).content.power
    least_of = (lawful.sound (stripe_at ss 0).number (stripe_at ss 0).content (holds_at ss 0 some_of)).shaped.least

    pub most_of : (stripe_at ss 0).content.power ≤ 26
    most_of = let a = (lawful.sound (stripe_at ss 0).number (stripe_at ss 0).content (holds_at ss 0 some_of)).most in let b = range.max in omega arith

  -- what stripes contain that are as they were taken is lawful
  pub lawful_taken : (hash : Name → ℕ) (set : Settings) (p : PassState V) → IsUnchanged p → ShowsSeen hash set p → Lawful (layout_of hash set) (contents_of p.stripes)
  lawful_taken hash set p unchanged shows = subst (λ hs. Lawful (layout_of hash set) hs) (sym unchanged) (lawful_reverse (layout_of hash set) p.view.held shows.lawful)

  pub are_held : (hash : Name → ℕ) (set : Settings) → AreInRange set → (p : PassState V) (ns : List ℕ) → numbers_of p.stripes ≡ ns → Rise ns → 0 < length ns → EachOf set.s p.stripes → HaveNoSpare p.stripes → IsUnchanged p → ShowsSeen hash set p
      → AreHeld set.s (settled_stripes p.stripes)
  are_held hash set range p ns numbered rise some each spare unchanged shows =
      let ss : List (StripeState V) = settled_stripes p.stripes in
      let named : numbers_of ss ≡ ns = numbers_settled p.stripes ∙ numbered in
      let lawful : Lawful (layout_of hash set) (contents_of ss) = subst (λ hs. Lawful (layout_of hash set) hs) (sym (contents_settled p.stripes)) (lawful_taken hash set p unchanged shows) in
      let count : length ss ≡ length ns = count_of hash set range ss ns named some lawful in
      record {
        some = some_of hash set range ss ns named some lawful;
        many = range.stripes;
        one_s = each_at set.s ss (each_settled set.s p.stripes each);
        settled = settled_at p.stripes;
        one_power = one_power_of hash set range ss ns named some lawful;
        least = least_of hash set range ss ns named some lawful;
        most = most_of hash set range ss ns named some lawful;
        no_spare = spare_settled p.stripes spare;
        rising = λ i j a b. let l = rise i j a (omega arith) in let x = number_at ss i (omega arith) in let y = number_at ss j b in let e = ap (λ ms. get_or ms i 0) named in let f = ap (λ ms. get_or ms j 0) named in omega arith;
      }

  -- after the stripes were settled
  module _ (hash : Name → ℕ) (set : Settings) (p q : PassState V) (settled : q ≡ record p { stripes = settled_stripes p.stripes }) where
    pub held_then : AreHeld set.s (settled_stripes p.stripes) → AreHeld set.s q.stripes
    held_then h = subst (λ (x : PassState V). AreHeld set.s x.stripes) (sym settled) h

    pub numbers_then : numbers_of q.stripes ≡ numbers_of p.stripes
    numbers_then = ap (λ (x : PassState V). numbers_of x.stripes) settled ∙ numbers_settled p.stripes

    pub unchanged_then : IsUnchanged p → IsUnchanged q
    unchanged_then u = subst IsUnchanged (sym settled) (contents_settled p.stripes ∙ u)
