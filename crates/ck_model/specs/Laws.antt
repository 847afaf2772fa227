-- What is proved of the definitions.
use Rattle.std.specs.Prelude.{◌≡◌, ◌⊎◌, ◌↔◌, ℕ, ◌+◌, ◌^◌, ◌%◌, ◌<◌, ◌≤◌, List, None}
use Rattle.std.specs.FinMap.{get}
use Rattle.ck_model.specs.declared.history.Call.{Call}
use Rattle.ck_model.specs.declared.history.Call.TheVariants.{On, ChangeTwo, Len, SessionOn, Session}
use Rattle.ck_model.specs.declared.history.Reply.{Reply}
use Rattle.ck_model.specs.declared.history.Reply.TheVariants.{Closed}
use Rattle.ck_model.specs.declared.history.Entry.{Entry}
use Rattle.ck_model.specs.Arithmetic.{index_of, second_of, alternate_of}
use Rattle.ck_model.specs.Promise.{Name, Map, bound_in, Step, After, IsLegal, StartsWith}
use Rattle.ck_model.specs.Numbered.{IsIn, AreDistinct, Holds, over}
use Rattle.ck_model.specs.declared.contents.Content.{Content}
use Rattle.ck_model.specs.Contents.{Layout, Stripes, bindings, IsShaped, Lawful, whole}
use Rattle.ck_model.specs.Sections.{Section, IdentitySection}
use Rattle.ck_model.specs.Doubling.{IsDoubledTo}

-- the call speaks of the name
abbrev pub SpeaksOf : {V : Type 0} → Call V → Name → Type 0
SpeaksOf (On k a) q = q ≡ k
SpeaksOf (ChangeTwo j k) q = (q ≡ j) ⊎ (q ≡ k)
SpeaksOf Len q = ⊥
SpeaksOf (SessionOn qs a b) q = IsIn q qs
SpeaksOf (Session a b) q = Unit {0}

-- the stripes are stripes of the whole
abbrev pub ArePartOf : {V : Type 0} → Layout → (ℕ → Content V) → Stripes V → Type 0
ArePartOf {V} k w hs = (t : ℕ) (c : Content V) → Holds hs t c → (t < 2 ^ k.s) × (w t ≡ c)

module _ (V : Type 0) where
  -- call and reply determine what a step leaves
  abbrev pub StepsAreDetermined : Type 0
  StepsAreDetermined = (m a b : Map V) (call : Call V) (reply : Reply V) → Step m call reply a → Step m call reply b → a ≡ b

  -- a step leaves the names of which the call doesn't speak
  abbrev pub StepsLeaveOthers : Type 0
  StepsLeaveOthers = (m m2 : Map V) (call : Call V) (reply : Reply V) → Step m call reply m2 → (q : Name) → ¬ (SpeaksOf call q) → get m2 q ≡ get m q

  -- a step is a session on any different names that are all of which its call speaks
  abbrev pub StepsAreSessions : Type 0
  StepsAreSessions = (m m2 : Map V) (call : Call V) (reply : Reply V) → Step m call reply m2 → (qs : List Name) → AreDistinct qs → ((q : Name) → SpeaksOf call q → IsIn q qs)
      → Step m (SessionOn qs (bound_in m qs) (bound_in m2 qs)) Closed m2

  -- a session on all names is one on any different names that are all that were bound or are
  abbrev pub SessionsAreOfAllNames : Type 0
  SessionsAreOfAllNames = (m m2 : Map V) (a b : List (Name × V)) → Step m (Session a b) Closed m2 → (qs : List Name) → AreDistinct qs → ((q : Name) → ¬ (IsIn q qs) → (get m q ≡ None) × (get m2 q ≡ None))
      → Step m (SessionOn qs (bound_in m qs) (bound_in m2 qs)) Closed m2

  -- a beginning of a legal history is legal
  abbrev pub BeginningsAreLegal : Type 0
  BeginningsAreLegal = (log start : List (Entry V)) → IsLegal log → StartsWith log start → IsLegal start

  -- a legal history leads to one map
  abbrev pub HistoriesLeadToOneMap : Type 0
  HistoriesLeadToOneMap = (log : List (Entry V)) (m m2 : Map V) → After log m → After log m2 → m ≡ m2

  -- A section of stripes of a lawful whole leaves a lawful whole and is a step of its bindings, whatever the other stripes contain.
  abbrev pub SectionsAreSteps : Type 0
  SectionsAreSteps = (k : Layout) (w : ℕ → Content V) (hs ks : Stripes V) (call : Call V) (reply : Reply V) → Lawful k (whole k w) → ArePartOf k w hs → Section k hs call reply ks
      → Lawful k (whole k (over ks w)) × Step (bindings (whole k w)) call reply (bindings (whole k (over ks w)))

  -- an identity section leaves a lawful whole with the same bindings
  abbrev pub IdentitySectionsKeepBindings : Type 0
  IdentitySectionsKeepBindings = (k : Layout) (w : ℕ → Content V) (hs ks : Stripes V) → Lawful k (whole k w) → ArePartOf k w hs → IdentitySection k hs ks
      → Lawful k (whole k (over ks w)) × (bindings (whole k (over ks w)) ≡ bindings (whole k w))

  -- a table that doubled binds what it bound
  abbrev pub DoublingsKeepBindings : Type 0
  DoublingsKeepBindings = (k : Layout) (p : ℕ) (hs ks : Stripes V) → Lawful k hs → IsDoubledTo k p hs ks → bindings ks ≡ bindings hs

  -- where the buckets and the ledger of each stripe have their shape, and the power may be, it is lawful
  abbrev pub DoublingsKeepLawful : Type 0
  DoublingsKeepLawful = (k : Layout) (p : ℕ) (hs ks : Stripes V) → Lawful k hs → IsDoubledTo k p hs ks → ((t : ℕ) (c : Content V) → Holds ks t c → IsShaped k.s c) → p ≤ k.max → Lawful k ks

-- the alternate of a bucket's alternate is the bucket
abbrev pub AlternateTwice : Type 0
AlternateTwice = (p t b : ℕ) → b < 2 ^ p → alternate_of p t (alternate_of p t b) ≡ b

-- at one power more the alternate is, modulo the old power, the old alternate
abbrev pub AlternateAtNextPower : Type 0
AlternateAtNextPower = (p t b : ℕ) → alternate_of (p + 1) t b % 2 ^ p ≡ alternate_of p t (b % 2 ^ p)

-- a bucket is its own alternate exactly where the power divides the partial plus one
abbrev pub AlternateItself : Type 0
AlternateItself = (p t b : ℕ) → p ≤ 64 → b < 2 ^ p → (alternate_of p t b ≡ b) ↔ ((t + 1) % 2 ^ p ≡ 0)

-- the stripes of a hash are those of its buckets at every power
abbrev pub StripesStay : Type 0
StripesStay = (s p h : ℕ) → s ≤ p → (index_of p h % 2 ^ s ≡ index_of s h) × (second_of p h % 2 ^ s ≡ second_of s h)
