-- A table grows for want of room for a name.
use Rattle.std.specs.Prelude.{◌≡◌, ℕ, ◌+◌, ◌^◌, ◌<◌, ◌≤◌, List, ◌∷◌, reverse}
use Rattle.ck_model.specs.declared.contents.Content.{Content}
use Rattle.ck_model.specs.declared.history.Entry.{Entry}
use Rattle.ck_model.specs.declared.history.Reason.TheVariants.{Memory}
use Rattle.ck_model.specs.declared.settings.Settings.{Settings}
use Rattle.ck_model.specs.Promise.{Name, After, StartsWith}
use Rattle.ck_model.specs.Numbered.{IsIn, numbers, Holds}
use Rattle.ck_model.specs.Contents.{layout_of, Stripes, bindings, power_of}
use Rattle.ck_model.specs.Doubling.{IsDoubledTo}
use Rattle.ck_model.specs.Paths.{Grounds}
use Rattle.ck_stripe.specs.Stripe.{StripeState}
use Rattle.ck_stripe.specs.Stripes.{contents_of}
use Rattle.ck_words.specs.Passes.{PassState}
use Rattle.ck_words.specs.Holding.{AreOfPower, HasHeld}

module _ {V : Type 0} where
  -- From p to p2 the caller made no doubling.
  abbrev pub DoublesNothing : PassState V → PassState V → Type 0
  DoublesNothing p p2 = (p2.view.doublings ≡ p.view.doublings) × (p2.view.grown_from ≡ p.view.grown_from)

  -- What all stripes contained, doubled up to this power, lacks nothing but memory to make room for the name: no displacement makes it, the power isn't the greatest, and enough slots are taken.
  abbrev pub NeedsToGrow : (Name → ℕ) → Settings → Name → Stripes V → ℕ → Type 0
  NeedsToGrow hash set q hs power = (ks : Stripes V) × IsDoubledTo (layout_of hash set) power hs ks × Grounds (layout_of hash set) set.min_load ks q Memory

  -- Each doubling from one power to another was needed for the name by what all stripes contained.
  abbrev pub DoublesFor : (Name → ℕ) → Settings → Name → Stripes V → ℕ → ℕ → Type 0
  DoublesFor hash set q hs low high = (power : ℕ) → low ≤ power → power < high → NeedsToGrow hash set q hs power

  -- What all stripes contained when the caller made the table double, which it noted then. The trace tells it: they contained it at a moment since p at which the caller held them all. It binds what the history left then, at no lower power than p was told. From there on the table needed so many doublings to have room for the name.
  pub record NeedsDoublings (hash : Name → ℕ) (set : Settings) (q : Name) (doublings : ℕ) (p p2 : PassState V) : Type 0 where
    pub log : List (Entry V)
    pub contents : Stripes V
    pub since : StartsWith log p.view.seen
    pub seen : StartsWith p2.view.seen log
    pub after : After log (bindings contents)
    pub held : (now : Stripes V) × HasHeld set.s p.view.watched log contents now p2.view
    pub told : p.view.told ≤ power_of contents
    pub noted : p2.view.grown_from ≡ contents ∷ p.view.grown_from
    pub each : DoublesFor hash set q contents (power_of contents) (power_of contents + doublings)

  -- From p to p2 the caller made the table double no more often than it had to for the name.
  pub record HasGrownFor (hash : Name → ℕ) (set : Settings) (q : Name) (p p2 : PassState V) : Type 0 where
    pub doublings : ℕ
    pub made : p2.view.doublings ≡ p.view.doublings + doublings
    pub none : doublings ≡ 0 → p2.view.grown_from ≡ p.view.grown_from
    pub needed : 0 < doublings → NeedsDoublings hash set q doublings p p2

  -- the stripes have one power
  abbrev pub HaveOnePower : List (StripeState V) → Type 0
  HaveOnePower stripes = AreOfPower (power_of (contents_of stripes)) stripes

  -- The stripes that the pass holds had one power when it took them, and have one. If they have doubled since, they are all stripes, which contained what the history leaves, at no lower power than the pass was told, and each doubling was needed for the name.
  pub record HoldsGrown (hash : Name → ℕ) (set : Settings) (q : Name) (p : PassState V) : Type 0 where
    pub before : (t : ℕ) (c : Content V) → Holds p.view.held t c → c.power ≡ power_of (reverse p.view.held)
    pub now : HaveOnePower p.stripes
    pub after : power_of (reverse p.view.held) < power_of (contents_of p.stripes) → After p.view.seen (bindings (reverse p.view.held))
    pub all : power_of (reverse p.view.held) < power_of (contents_of p.stripes) → (p.view.settings ≡ set) × ((t : ℕ) → t < 2 ^ set.s → IsIn t (numbers p.view.held))
    pub told : power_of (reverse p.view.held) < power_of (contents_of p.stripes) → p.view.told ≤ power_of (reverse p.view.held)
    pub needed : DoublesFor hash set q (reverse p.view.held) (power_of (reverse p.view.held)) (power_of (contents_of p.stripes))
