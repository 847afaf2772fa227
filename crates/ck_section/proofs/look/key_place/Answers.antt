use Rattle.std.proofs.Common.{◌≡◌, ℕ, ◌*◌, ◌^◌, ◌%◌, ◌≤◌, List, inl, inr, refl, sym, ◌∙◌, subst}
use Rattle.ck_model.specs.Arithmetic.{partial_of, index_of, second_of, alternate_of}
use Rattle.ck_model.proofs.Buckets.{index_lower, second_lower}
use Rattle.ck_stripe.specs.Stripe.{StripeState}
use Rattle.ck_stripe.specs.Stripes.{stripe_at}
use Rattle.ck_stripe.specs.Tables.{HasStripe}
use Rattle.ck_section.proofs.Owned.{has_stripe}
use Rattle.ck_section.proofs.Tables.{mask}
use Rattle.ck_section.proofs.look.key_place.Given.{Over}
use Rattle.ck_section.proofs.look.key_place.Goals.{After-index-first}
use Rattle.ck_section.proofs.look.key_place.Goals as goal

-- the stripe of a first bucket
first_number : (s p h n : ℕ) → s ≤ 10 → s ≤ p → n ≡ index_of p h → n % (1 * 2 ^ s % 18446744073709551616) ≡ index_of s h
first_number s p h n few le e = (λ i. e i % mask s few i) ∙ index_lower s p h le

second_number : (s p h n : ℕ) → s ≤ 10 → s ≤ p → n ≡ alternate_of p (partial_of h) (index_of p h) → n % (1 * 2 ^ s % 18446744073709551616) ≡ second_of s h
unfolding second_of
second_number s p h n few le e = (λ i. e i % mask s few i) ∙ second_lower s p h le

-- a stripe that was held is held still
held_still : {V : Type 0} (old new : List (StripeState V)) → new ≡ old → (t u : ℕ) → u ≡ t → HasStripe old t → HasStripe new u
held_still old new same t u is = subst (λ (z : List (StripeState _) × ℕ). HasStripe z.0 z.1) (λ i. (sym same i, sym is i))

-- the first bucket is that of the hash
first : (g : Over) (c : After-index-first g) → c.index-first.result ≡ index_of (stripe_at (g.H.Held.stripes c.args.held.now) 0).content.power (g.K.TableKey.hash (g.Q.Query.name c.args._key))
first g c = c.index-first.ensures.value ∙ (λ i. index_of (c.power-power.ensures.value i) (c.requires.hash.value i))

pub position-requires : goal.position-requires
position-requires g c =
    held_still _ _ c.power-power.ensures.same _ _ (first_number c.args.s _ _ c.index-first.result c.requires.held.many c.requires.held.least (first g (goal.at.position-requires g c).After-index-first)) (has_stripe _ _ (c.requires.owned 0 _ (inl refl)))

pub position-requires-2 : goal.position-requires-2
position-requires-2 g c =
    let index = first g (goal.at.position-requires-2 g c).After-index-first in
    let alternate = c.alternate-alternate.ensures.value ∙ (λ i. alternate_of (c.power-power.ensures.value i) (c.requires.hash.partial i) (index i)) in
    held_still _ _ (c.position.ensures.same ∙ c.power-power.ensures.same) _ _ (second_number c.args.s _ _ c.alternate-alternate.result c.requires.held.many c.requires.held.least alternate) (has_stripe _ _ (c.requires.owned 0 _ (inr refl)))

pub returns-clause-stays : goal.returns-clause-stays
returns-clause-stays g c = let on = g.met.H.Held.stays_on in on _ _ _ c.power-power.ensures.stays (on _ _ _ c.position.ensures.stays c.position-2.ensures.stays)
