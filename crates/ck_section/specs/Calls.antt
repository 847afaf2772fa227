-- What a call on held stripes does to them.
use Rattle.std.specs.Prelude.{◌≡◌, ℕ, ◌<◌, List, None, length}
use Rattle.ck_model.specs.declared.history.Act.{Act}
use Rattle.ck_model.specs.declared.history.Call.TheVariants.{On}
use Rattle.ck_model.specs.declared.history.Reply.{Reply}
use Rattle.ck_model.specs.Promise.{Name}
use Rattle.ck_model.specs.Slots.{slot_at}
use Rattle.ck_model.specs.Contents.{layout, Lawful}
use Rattle.ck_model.specs.Sections.{Section}
use Rattle.ck_model.specs.Paths.{HasNoRoom}
use Rattle.ck_stripe.specs.Stripe.{StripeState}
use Rattle.ck_section.specs.declared.place.KeyPlace.{KeyPlace}
use Rattle.ck_stripe.specs.Stripes.{stripe_at, bucket_at, contents_of}

-- The stripes of a table of 2^s that a call held, before and after it, where names have these hashes.
pub record Effect (V : Type 0) : Type 0 where
  pub hash : Name → ℕ
  pub s : ℕ
  pub old : List (StripeState V)
  pub new : List (StripeState V)

module _ {V : Type 0} where
  -- the effect of a call on a key of this place
  abbrev pub effect : {H : Type 0} → (Name → ℕ) → (H → List (StripeState V)) → KeyPlace → H → H → Effect V
  effect hash stripes place old new = record { hash = hash; s = place.s; old = stripes old; new = stripes new }

  -- Whatever the greatest power is, lawful stripes go from old to new by this act on the name, with this reply.
  abbrev pub IsCall : Effect V → Name → Act V → Reply V → Type 0
  IsCall e q act reply = (max : ℕ) → Lawful (layout e.hash e.s max) (contents_of e.old) → Section (layout e.hash e.s max) (contents_of e.old) (On q act) reply (contents_of e.new)

  -- In lawful stripes the name is unbound and its buckets are full.
  abbrev pub IsWithoutRoom : (Name → ℕ) → ℕ → List (StripeState V) → Name → Type 0
  IsWithoutRoom hash s stripes q = (max : ℕ) → Lawful (layout hash s max) (contents_of stripes) → HasNoRoom (layout hash s max) (contents_of stripes) q

  -- In lawful stripes the name is bound or one of its buckets has a free slot.
  abbrev pub IsWithRoom : (Name → ℕ) → ℕ → List (StripeState V) → Name → Type 0
  IsWithRoom hash s stripes q = (max : ℕ) → Lawful (layout hash s max) (contents_of stripes) → ¬ (HasNoRoom (layout hash s max) (contents_of stripes) q)

  -- each slot that was free is free
  abbrev pub KeepsFree : List (StripeState V) → List (StripeState V) → Type 0
  KeepsFree old new = (i b slot : ℕ) → slot_at (bucket_at old i b) slot ≡ None → slot_at (bucket_at new i b) slot ≡ None

  -- nothing but contents differs, and the powers stay
  pub record ChangesContents (old new : List (StripeState V)) : Type 0 where
    pub count : length new ≡ length old
    pub each : (i : ℕ) → i < length old → stripe_at new i ≡ record (stripe_at old i) { content = (stripe_at new i).content }
    pub power : (i : ℕ) → i < length old → (stripe_at new i).content.power ≡ (stripe_at old i).content.power
