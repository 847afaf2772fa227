-- Displacement paths over contents, and grounds for a refusal.
use Rattle.std.specs.Prelude.{◌≡◌, ◌≢◌, ℕ, ◌*◌, ◌^◌, ◌<◌, ◌≤◌, List, [], ◌∷◌, length, map, Option, option_map, Some, None}
use Rattle.std.specs.FinMap.{get}
use Rattle.ck_model.specs.declared.history.Reason.{Reason}
use Rattle.ck_model.specs.declared.history.Reason.TheVariants.{NoRoom, Full, LoadTooLow, Memory}
use Rattle.ck_model.specs.declared.lack.Lack.{Lack}
use Rattle.ck_model.specs.declared.lack.Lack.TheVariants as lacks
use Rattle.ck_model.specs.Arithmetic.{alternate_of, partial_of}
use Rattle.ck_model.specs.Promise.{Name}
use Rattle.ck_model.specs.Slots.{Slot, slot_at, IsFull, HasFree}
use Rattle.ck_model.specs.Sketches.{Sketch}
use Rattle.ck_model.specs.Contents.{Layout, Stripes, IsBucketOf, Lawful, bindings, pairs_of, power_of, bucket_in}
use Rattle.ck_model.specs.Sections.{HasAll}

-- the reason why a table that lacks this makes no room
abbrev pub reason_of_lack : Lack → Reason
reason_of_lack lacks.Memory = Memory
reason_of_lack lacks.Full = Full
reason_of_lack lacks.LoadTooLow = LoadTooLow

module _ {V : Type 0} where
  -- the name is unbound and its buckets are full
  pub record HasNoRoom (k : Layout) (hs : Stripes V) (q : Name) : Type 0 where
    pub unbound : get (bindings hs) q ≡ None
    pub full : (b : ℕ) → IsBucketOf k.hash (power_of hs) q b → IsFull (bucket_in k hs b)

  -- bucket b has an entry whose other bucket is c
  abbrev pub LeadsTo : Layout → Stripes V → ℕ → ℕ → Type 0
  LeadsTo k hs b c = (i : ℕ) × (q : Name) × (v : V) × (slot_at (bucket_in k hs b) i ≡ Some (q, v)) × (c ≡ alternate_of (power_of hs) (partial_of (k.hash q)) b)

  -- A displacement path, from bucket b over the listed ones: each but the last is full and has an entry whose other bucket is the next, and the last has a free slot.
  abbrev pub IsPathFrom : Layout → Stripes V → ℕ → List ℕ → Type 0
  IsPathFrom k hs b [] = HasFree (bucket_in k hs b)
  IsPathFrom k hs b (c ∷ cs) = IsFull (bucket_in k hs b) × LeadsTo k hs b c × IsPathFrom k hs c cs

  -- the partial that a sketch shows of a slot
  abbrev pub partial_in : (Name → ℕ) → Slot V → Option ℕ
  partial_in hash slot = option_map (λ (e : Name × V). partial_of (hash e.0)) slot

  -- what a search sees of bucket b
  abbrev pub sketch_in : Layout → Stripes V → ℕ → Sketch
  sketch_in k hs b = map (partial_in k.hash) (bucket_in k hs b)

  -- no path of at most four hops begins at a bucket of the name
  abbrev pub HasNoPath : Layout → Stripes V → Name → Type 0
  HasNoPath k hs q = (b : ℕ) (cs : List ℕ) → IsBucketOf k.hash (power_of hs) q b → length cs ≤ 4 → ¬ (IsPathFrom k hs b cs)

  -- the contents are a lawful whole in which the name is unbound, and no displacement makes room for it
  pub record IsStuck (k : Layout) (hs : Stripes V) (q : Name) : Type 0 where
    pub lawful : Lawful k hs
    pub all : HasAll k hs
    pub unbound : get (bindings hs) q ≡ None
    pub no_path : HasNoPath k hs q

  -- fewer per cent of the slots are taken than the table must have to grow
  abbrev pub IsTooEmpty : ℕ → Stripes V → Type 0
  IsTooEmpty min_load hs = 100 * length (pairs_of hs) < min_load * (4 * 2 ^ power_of hs)

  -- the contents give this reason to refuse the name
  abbrev pub Grounds : Layout → ℕ → Stripes V → Name → Reason → Type 0
  Grounds k min_load hs q Full = IsStuck k hs q × (power_of hs ≡ k.max)
  Grounds k min_load hs q LoadTooLow = IsStuck k hs q × (power_of hs ≢ k.max) × IsTooEmpty min_load hs
  Grounds k min_load hs q Memory = IsStuck k hs q × (power_of hs ≢ k.max) × ¬ (IsTooEmpty min_load hs)
  Grounds k min_load hs q NoRoom = ⊥
