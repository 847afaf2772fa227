-- What a table contains after it has doubled.
use Rattle.std.specs.Prelude.{◌≡◌, ℕ, ◌^◌, ◌<◌, ◌==◌, if◌then◌else◌, Some}
use Rattle.std.specs.List.Sorted.{IsPermutation}
use Rattle.ck_model.specs.Arithmetic.{index_of, second_of}
use Rattle.ck_model.specs.Promise.{Name}
use Rattle.ck_model.specs.Numbered.{numbers, Holds}
use Rattle.ck_model.specs.Slots.{slot_at}
use Rattle.ck_model.specs.declared.contents.Content.{Content}
use Rattle.ck_model.specs.Contents.{Layout, Stripes, pairs_of, power_of, bucket_in}

-- the bucket at power p2 of an entry that stands in bucket b at power p: from its name's first bucket it goes to the first, from any other to the alternate one
abbrev pub bucket_after : (Name → ℕ) → ℕ → ℕ → Name → ℕ → ℕ
bucket_after hash p p2 q b = if b == index_of p (hash q) then index_of p2 (hash q) else second_of p2 (hash q)

module _ {V : Type 0} where
  -- From hs to ks the table doubled until its power was p: each entry went to its bucket there and has kept its slot, and there is no other entry.
  pub record IsDoubledTo (k : Layout) (p : ℕ) (hs ks : Stripes V) : Type 0 where
    pub same : numbers ks ≡ numbers hs
    pub power : (t : ℕ) (c : Content V) → Holds ks t c → c.power ≡ p
    pub sends : (b i : ℕ) (q : Name) (v : V) → b < 2 ^ power_of hs → slot_at (bucket_in k hs b) i ≡ Some (q, v)
        → slot_at (bucket_in k ks (bucket_after k.hash (power_of hs) p q b)) i ≡ Some (q, v)
    pub pairs : IsPermutation (pairs_of hs) (pairs_of ks)
