-- Stripes that a call holds, as a list.
use Rattle.std.specs.Prelude.{◌≡◌, ℕ, true, false, ◌<◌, List, [], length, map, slice_index_or, slice_set}
use Rattle.ck_model.specs.Contents.{Stripes}
use Rattle.ck_model.specs.Promise.{Name}
use Rattle.ck_model.specs.Slots.{Slot}
use Rattle.ck_model.specs.declared.contents.Content.{Content}
use Rattle.ck_stripe.specs.Doubling.{doubled_content}
use Rattle.ck_stripe.specs.Stripe.{StripeState, HasBucket, bucket_of, HasNoSpare, shrunk, reserved}

module _ {V : Type 0} where
  -- what stands for a stripe past the end
  abbrev pub no_stripe : StripeState V
  no_stripe = record { number = 0; s = 0; content = record { power = 0; rows = []; ledger = 0 }; settled = true; room = 0 }

  abbrev pub stripe_at : List (StripeState V) → ℕ → StripeState V
  stripe_at stripes i = slice_index_or stripes i no_stripe

  -- the slots of bucket b of stripe i
  abbrev pub bucket_at : List (StripeState V) → ℕ → ℕ → List (Slot V)
  bucket_at stripes i b = bucket_of (stripe_at stripes i) b

  -- stripe i with this content
  abbrev pub set_content : List (StripeState V) → ℕ → Content V → List (StripeState V)
  set_content stripes i c = slice_set stripes i (record (stripe_at stripes i) { content = c })

  -- the number of entries of stripe i
  abbrev pub len_at : List (StripeState V) → ℕ → ℕ
  len_at stripes i = (stripe_at stripes i).content.ledger

  -- the stripes with no doubling left to carry out
  abbrev pub settled_stripes : List (StripeState V) → List (StripeState V)
  settled_stripes stripes = map (λ (stripe : StripeState V). record stripe { settled = true }) stripes

  -- each has memory for its rows, and for none besides
  abbrev pub HaveNoSpare : List (StripeState V) → Type 0
  HaveNoSpare stripes = (i : ℕ) → i < length stripes → HasNoSpare (stripe_at stripes i)

  -- the stripes with memory for their rows alone
  abbrev pub shrunk_stripes : List (StripeState V) → List (StripeState V)
  shrunk_stripes stripes = map shrunk stripes

  -- the stripes with memory for a doubling of each
  abbrev pub reserved_stripes : List (StripeState V) → List (StripeState V)
  reserved_stripes stripes = map reserved stripes

  -- the stripe at the next power, not yet settled
  abbrev pub doubled : (Name → ℕ) → StripeState V → StripeState V
  doubled hash t = record t { content = doubled_content hash t.s t.number t.content; settled = false }

  -- each stripe so
  abbrev pub doubled_stripes : (Name → ℕ) → List (StripeState V) → List (StripeState V)
  doubled_stripes hash stripes = map (doubled hash) stripes

  -- the contents by the numbers of their stripes
  abbrev pub contents_of : List (StripeState V) → Stripes V
  contents_of stripes = map (λ (t : StripeState V). (t.number, t.content)) stripes

  -- bucket b is one of stripe i, and may be looked into
  pub record IsInReach (stripes : List (StripeState V)) (i b : ℕ) : Type 0 where
    pub inside : i < length stripes
    pub settled : (stripe_at stripes i).settled ≡ true
    pub own : HasBucket (stripe_at stripes i) b
