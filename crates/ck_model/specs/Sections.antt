-- What a decision on held stripes may do to them.
use Rattle.std.specs.Prelude.{◌≡◌, ◌⊎◌, ℕ, ◌^◌, ◌<◌, ◌≤◌}
use Rattle.ck_model.specs.declared.history.Call.{Call}
use Rattle.ck_model.specs.declared.history.Call.TheVariants.{On, ChangeTwo, Len, SessionOn, Session}
use Rattle.ck_model.specs.declared.history.Reply.{Reply}
use Rattle.ck_model.specs.Promise.{Name, Step}
use Rattle.ck_model.specs.Numbered.{IsIn, numbers, Holds}
use Rattle.ck_model.specs.declared.contents.Content.{Content}
use Rattle.ck_model.specs.Contents.{Layout, Stripes, IsStripeOf, Lawful, bindings}

module _ {V : Type 0} where
  -- the stripes of the name are held
  abbrev pub Owns : Layout → Stripes V → Name → Type 0
  Owns k hs q = (t : ℕ) → IsStripeOf k q t → IsIn t (numbers hs)

  -- all stripes are held
  abbrev pub HasAll : Layout → Stripes V → Type 0
  HasAll k hs = (t : ℕ) → t < 2 ^ k.s → IsIn t (numbers hs)

  -- the stripes that the call needs are held
  abbrev pub OwnsCall : Layout → Stripes V → Call V → Type 0
  OwnsCall k hs (On q a) = Owns k hs q
  OwnsCall k hs (ChangeTwo p q) = Owns k hs p × Owns k hs q
  OwnsCall k hs Len = HasAll k hs
  OwnsCall k hs (SessionOn qs a b) = (q : Name) → IsIn q qs → Owns k hs q
  OwnsCall k hs (Session a b) = HasAll k hs

  -- New contents of the same stripes: lawful by themselves, with the old power, or with a power not below it where all stripes are held.
  pub record Renewed (k : Layout) (hs ks : Stripes V) : Type 0 where
    pub same : numbers ks ≡ numbers hs
    pub lawful : Lawful k ks
    pub power : ((t u : ℕ) (c d : Content V) → Holds hs t c → Holds ks u d → d.power ≡ c.power)
        ⊎ (HasAll k hs × ((t u : ℕ) (c d : Content V) → Holds hs t c → Holds ks u d → c.power ≤ d.power))

  -- the held stripes go from hs to ks by a call with this reply
  pub record Section (k : Layout) (hs : Stripes V) (call : Call V) (reply : Reply V) (ks : Stripes V) : Type 0 where
    pub renewed : Renewed k hs ks
    pub owns : OwnsCall k hs call
    pub step : Step (bindings hs) call reply (bindings ks)

  -- they go from hs to ks by no call
  pub record IdentitySection (k : Layout) (hs ks : Stripes V) : Type 0 where
    pub renewed : Renewed k hs ks
    pub same_bindings : bindings ks ≡ bindings hs
