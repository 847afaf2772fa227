-- Displacement paths among all stripes of a table, and what makes room for a name in it.
use Rattle.std.specs.Prelude.{◌≡◌, ℕ, true, ◌%◌, ◌^◌, ◌<◌, ◌≤◌, List, [], ◌∷◌, length, map, slice_set}
use Rattle.ck_model.specs.declared.history.Reason.TheVariants as Reasons
use Rattle.ck_model.specs.declared.path_hop.PathHop.{PathHop}
use Rattle.ck_model.specs.Arithmetic.{index_of, second_of}
use Rattle.ck_model.specs.Promise.{Name}
use Rattle.ck_model.specs.Contents.{Layout, layout, Stripes, Lawful}
use Rattle.ck_model.specs.Doubling.{IsDoubledTo}
use Rattle.ck_model.specs.Paths.{HasNoRoom, HasNoPath, IsTooEmpty, Grounds, partial_in, reason_of_lack}
use Rattle.ck_model.specs.Sketches.{Sketch, IsSketchPathFrom}
use Rattle.ck_path.specs.Route.{Route, first_bucket, VisitsOnce, IsShortestPath}
use Rattle.ck_stripe.specs.Stripe.{StripeState}
use Rattle.ck_model.specs.declared.lack.Lack.{Lack}
use Rattle.ck_model.specs.declared.lack.Lack.TheVariants.{Memory, Full, LoadTooLow}
use Rattle.ck_stripe.specs.Stripes.{stripe_at, bucket_at, contents_of}
use Rattle.ck_stripe.specs.Tables.{power_in}

-- each bucket of the hops and their end has four slots
abbrev pub HaveFour : (ℕ → Sketch) → List PathHop → ℕ → Type 0
HaveFour sketches [] end = length (sketches end) ≡ 4
HaveFour sketches (h ∷ hops) end = (length (sketches h.bucket) ≡ 4) × HaveFour sketches hops end

module _ {V : Type 0} where
  -- what a search sees of bucket b of a table of 2^s stripes, each held at the index of its number
  abbrev pub sketch_of : (Name → ℕ) → ℕ → List (StripeState V) → ℕ → Sketch
  sketch_of hash s stripes b = map (partial_in hash) (bucket_at stripes (b % 2 ^ s) b)

  -- a shortest path from a bucket of the name
  abbrev pub IsPathFor : (Name → ℕ) → ℕ → List (StripeState V) → Name → Route → Type 0
  IsPathFor hash s stripes q route =
      IsShortestPath (power_in stripes) (sketch_of hash s stripes) (index_of (power_in stripes) (hash q)) (second_of (power_in stripes) (hash q)) route

  -- in lawful stripes no displacement of at most four hops makes room for the name
  abbrev pub IsWithoutPath : (Name → ℕ) → ℕ → List (StripeState V) → Name → Type 0
  IsWithoutPath hash s stripes q = (max : ℕ) → Lawful (layout hash s max) (contents_of stripes) → HasNoPath (layout hash s max) (contents_of stripes) q

  -- a path of these stripes, which visits no bucket twice
  pub record IsPathIn (hash : Name → ℕ) (s : ℕ) (stripes : List (StripeState V)) (route : Route) : Type 0 where
    pub power : route.power ≡ power_in stripes
    pub path : IsSketchPathFrom (power_in stripes) (sketch_of hash s stripes) (first_bucket route.hops route.end) route.hops route.end
    pub once : VisitsOnce route.hops route.end
    pub four : HaveFour (sketch_of hash s stripes) route.hops route.end

  -- stripe i with no doubling left
  abbrev pub settled_at : List (StripeState V) → ℕ → List (StripeState V)
  settled_at stripes i = slice_set stripes i (record (stripe_at stripes i) { settled = true })

  -- Why the stripes of a table don't grow: at the greatest power, with fewer per cent of the slots taken than they must have, or for want of memory alone.
  abbrev pub IsLack : ℕ → ℕ → List (StripeState V) → Lack → Type 0
  IsLack max min_load stripes Full = max ≤ power_in stripes
  IsLack max min_load stripes LoadTooLow = (power_in stripes < max) × IsTooEmpty min_load (contents_of stripes)
  IsLack max min_load stripes Memory = (power_in stripes < max) × ¬ (IsTooEmpty min_load (contents_of stripes))

  -- What was lawful has room for the name: it is bound or one of its buckets has a free slot.
  abbrev pub MakesRoom : Layout → List (StripeState V) → List (StripeState V) → Name → Type 0
  MakesRoom k old new q = Lawful k (contents_of old) → ¬ (HasNoRoom k (contents_of new) q)

  -- What was lawful gives this reason to refuse the name.
  abbrev pub GivesReason : Layout → ℕ → List (StripeState V) → List (StripeState V) → Name → Lack → Type 0
  GivesReason k min_load old new q why = Lawful k (contents_of old) → Grounds k min_load (contents_of new) q (reason_of_lack why)

  -- Lawful stripes have doubled so often as their powers say, and nothing else was done to them: each entry has kept its slot.
  abbrev pub OnlyDoubles : Layout → List (StripeState V) → List (StripeState V) → Type 0
  OnlyDoubles k old new = Lawful k (contents_of old) → IsDoubledTo k (power_in new) (contents_of old) (contents_of new)

  -- Lawful stripes have doubled only where no path for the name existed and the load was high enough: at each power from that of old on, below that of new, growing alone could make room.
  abbrev pub GrowsForRoom : Layout → ℕ → List (StripeState V) → List (StripeState V) → Name → Type 0
  GrowsForRoom k min_load old new q = Lawful k (contents_of old) → (p : ℕ) → power_in old ≤ p → p < power_in new
      → (ks : Stripes V) × IsDoubledTo k p (contents_of old) ks × Grounds k min_load ks q Reasons.Memory
