-- Which pairs stay where a closure is asked about each.
use Rattle.std.specs.Prelude.{◌≡◌, Bool, List, map}
use Rattle.std.specs.Borrow.{Bor}
use Rattle.std.specs.Fn.{Mut}
use Rattle.std.specs.FinMap.{from_entries}
use Rattle.std.specs.Map.Calls.{RetainsPairs}
use Rattle.ck_model.specs.Promise.{Name, Map}
use Rattle.ck_model.specs.Listing.{named}
use Rattle.ck_model.specs.Contents.{Layout, Lawful, NamesApart, bindings, IsShaped}
use Rattle.ck_model.specs.Sections.{Renewed}
use Rattle.ck_bucket.specs.Retaining.{EachInTurn, CalledAtPair, AsksAboutRows}
use Rattle.ck_stripe.specs.Stripe.{StripeState}
use Rattle.ck_stripe.specs.Stripes.{contents_of}

module _ {F K V : Type 0} (g : Mut F (Bor K × (Bor V × Unit {0})) Bool) (name : K → Name) where
  -- The closure was asked about each pair of a stripe, row by row, which left f as f' and t as u.
  pub record AsksAboutStripe (f : F) (t u : StripeState V) (f' : F) : Type 0 where
    pub asked : AsksAboutRows g name f t.content.rows u.content.rows f'
    pub power : u.content.power ≡ t.content.power
    pub rest : u ≡ record t { content = u.content }
    pub shaped : IsShaped u.s u.content

  -- and so stripe by stripe
  abbrev pub AsksAboutStripes : F → List (StripeState V) → List (StripeState V) → F → Type 0
  AsksAboutStripes = EachInTurn AsksAboutStripe

module _ {F K V : Type 0} (g : Mut F (Bor K × (Bor V × Unit {0})) Bool) (name : K → Name) (f : F) where
  -- The closure f was asked about each pair of old once, one after the other, and new has those for which it answered true.
  pub record RetainsMap (old new : Map V) : Type 0 where
    pub all : List (K × V)
    pub lists : from_entries (map (named name) all) ≡ old
    pub once : NamesApart (map (named name) all)
    pub kept : List (K × V)
    pub asked : RetainsPairs (CalledAtPair g) f all kept
    pub left : from_entries (map (named name) kept) ≡ new

  -- Lawful stripes go from old to new, and the closure was asked so about the pairs that they bind.
  abbrev pub RetainsBindings : Layout → List (StripeState V) → List (StripeState V) → Type 0
  RetainsBindings k old new =
      Lawful k (contents_of old) → Renewed k (contents_of old) (contents_of new) × RetainsMap (bindings (contents_of old)) (bindings (contents_of new))
