-- All stripes of a table.
use Rattle.std.proofs.Common.{◌≡◌, ℕ, ◌%◌, ◌^◌, ◌<◌, ◌≤◌, List, length, inl, inr, refl, sym, ◌∙◌, ap, subst, Bor, Option, Some, None, IfNone}
use Rattle.std.specs.Prelude.{slice_index_or, IfSome}
use Rattle.std.specs.Option.{option_copied}
use Rattle.ck_model.specs.declared.history.Act.TheVariants.{Find}
use Rattle.ck_model.specs.declared.history.Reply.TheVariants.{Was}
use Rattle.ck_model.specs.Promise.{Name}
use Rattle.ck_model.specs.Slots.{slot_at}
use Rattle.ck_model.specs.Contents.{IsBucketOf}
use Rattle.ck_bucket.specs.Bucket.{LacksName}
use Rattle.ck_stripe.specs.Stripe.{StripeState, bucket_of}
use Rattle.ck_section.specs.declared.place.KeyPlace.{KeyPlace}
use Rattle.ck_stripe.specs.Stripes.{stripe_at, bucket_at, IsInReach}
use Rattle.ck_section.specs.Places.{IsPlaceOf}
use Rattle.ck_stripe.specs.HeldSlots.{at}
use Rattle.ck_section.specs.Entries.{IsOccupied}
use Rattle.ck_stripe.specs.Tables.{AreAllHeld}
use Rattle.ck_stripe.proofs.Tables.{stripe_read}
use Rattle.ck_section.proofs.Decided.{IsCallOn}
use Rattle.ck_section.proofs.Steps.{lacked, kept}

module _ {V : Type 0} where
  -- its power, as it was read
  pub power_read : (stripes : List (StripeState V)) (i : ℕ) (t : StripeState V) (p : ℕ) → i < length stripes → t ≡ slice_index_or stripes i t → p ≡ t.content.power → p ≡ (stripe_at stripes i).content.power
  power_read stripes i t p lt is e = e ∙ ap (λ (u : StripeState V). u.content.power) (stripe_read stripes i t lt is)

  -- which is at least s
  pub least_read : (stripes : List (StripeState V)) (i : ℕ) (t : StripeState V) (p s : ℕ) → i < length stripes → t ≡ slice_index_or stripes i t → p ≡ t.content.power → (stripe_at stripes i).s ≡ s → t.s ≤ t.content.power → s ≤ p
  least_read stripes i t p s lt is e own least =
      let same : t.s ≡ s = ap (λ (u : StripeState V). u.s) (stripe_read stripes i t lt is) ∙ own in
      subst (λ n. s ≤ n) (sym e) (subst (λ n. n ≤ t.content.power) same least)

  -- a bucket is in reach of the stripe that its number names
  pub reach_of_all : (s : ℕ) (stripes : List (StripeState V)) → AreAllHeld s stripes → (i b : ℕ) → i < length stripes → b < 2 ^ (stripe_at stripes i).content.power → b % 2 ^ s ≡ i → IsInReach stripes i b
  reach_of_all s stripes all i b lt below low = record {
    inside = lt;
    settled = all.settled i lt;
    own = (below, ap (λ n. b % 2 ^ n) (all.table.one_s i lt) ∙ low ∙ sym (all.table.number i lt));
  }

  -- what a look into a bucket shows
  abbrev pub FindsIn : StripeState V → ℕ → Name → V → Type 0
  FindsIn stripe b q v = (slot : ℕ) × (slot < 4) × (slot_at (bucket_of stripe b) slot ≡ Some (q, v))

  module _ (hash : Name → ℕ) (stripes : List (StripeState V)) (q : Name) (place : KeyPlace) (of : IsPlaceOf hash stripes q place) where
    -- a look-up of the name that finds this
    abbrev pub IsFound : Option V → Type 0
    IsFound o = IsCallOn hash place.s stripes q Find (Was o) stripes

    found_at : (i b : ℕ) → IsInReach stripes i b → IsBucketOf hash (stripe_at stripes i).content.power q b → (t : StripeState V) → t ≡ stripe_at stripes i → (v : V) → FindsIn t b q v → IsFound (Some v)
    found_at i b reach own t is v found =
        let here : IsOccupied hash stripes q (at i b found.0) = record {
          slot = record { reach = reach; below = found.1; of_name = own };
          found = (v, ap (λ (u : StripeState V). slot_at (bucket_of u b) found.0) (sym is) ∙ found.2);
        } in
        kept hash stripes q place of stripes refl (at i b found.0) here Find (Was (Some v)) (refl, refl)

    pub found_first : (t : StripeState V) → t ≡ stripe_at stripes place.first.index → (v : V) → FindsIn t place.first.bucket q v → IsFound (Some v)
    found_first = found_at place.first.index place.first.bucket of.first_reach (inl of.first)

    found_second : (t : StripeState V) → t ≡ stripe_at stripes place.alternate.index → (v : V) → FindsIn t place.alternate.bucket q v → IsFound (Some v)
    found_second = found_at place.alternate.index place.alternate.bucket of.alternate_reach (inr of.alternate)

    abbrev pub LacksFirst : Type 0
    LacksFirst = LacksName (bucket_at stripes place.first.index place.first.bucket) q

    not_found : LacksFirst → LacksName (bucket_at stripes place.alternate.index place.alternate.bucket) q → IsFound None
    not_found first alternate = lacked hash stripes q place of stripes refl Find (Was None) (record { first = first; alternate = alternate }) (refl, refl)

    -- both buckets are one
    pub not_found_once : LacksFirst → place.first.bucket ≡ place.alternate.bucket → IsFound None
    not_found_once first one = not_found first
        (subst (λ b. LacksName (bucket_at stripes place.alternate.index b) q) one (subst (λ i. LacksName (bucket_at stripes i place.first.bucket) q) (of.one one) first))

    pub found_then : LacksFirst → (t : StripeState V) → t ≡ stripe_at stripes place.alternate.index → (o : Option (Bor V)) → IfSome o (λ v. FindsIn t place.alternate.bucket q v.now) → IfNone o (LacksName (bucket_of t place.alternate.bucket) q)
        → IsFound (option_copied o)
    found_then first t is None some none = not_found first (subst (λ (u : StripeState V). LacksName (bucket_of u place.alternate.bucket) q) is none)
    found_then first t is (Some v) some none = found_second t is v.now some
