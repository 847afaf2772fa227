-- What a doubling of the table makes of the content of stripe t, one of 2^s. Row r of it is the bucket r * 2^s + t.
use Rattle.std.specs.Prelude.{◌≡◌, ℕ, ◌+◌, ◌*◌, ◌/◌, ◌%◌, ◌^◌, ◌<◌, List, ◌++◌, Some, map}
use Rattle.std.specs.List.{enumerate_from}
use Rattle.ck_model.specs.Promise.{Name}
use Rattle.ck_model.specs.Slots.{Slot, slot_at}
use Rattle.ck_model.specs.declared.contents.Content.{Content}
use Rattle.ck_model.specs.Contents.{row_at, IsBucketOf}
use Rattle.ck_key.specs.Doubling.{grown_of}
use Rattle.ck_bucket.specs.Bucket.{low_row, high_row}

-- what stays in each of the rows, of which the first is row `from`, where a table of 2^p buckets doubles
abbrev pub low_rows : {V : Type 0} → (Name → ℕ) → ℕ → ℕ → ℕ → ℕ → List (List (Slot V)) → List (List (Slot V))
low_rows {V} hash s t p from rows = map (λ (e : ℕ × List (Slot V)). low_row hash p (e.0 * 2 ^ s + t) e.1) (enumerate_from from rows)

-- what leaves each of them
abbrev pub high_rows : {V : Type 0} → (Name → ℕ) → ℕ → ℕ → ℕ → ℕ → List (List (Slot V)) → List (List (Slot V))
high_rows {V} hash s t p from rows = map (λ (e : ℕ × List (Slot V)). high_row hash p (e.0 * 2 ^ s + t) e.1) (enumerate_from from rows)

-- the rows after the doubling: first those that were there, then those that stand 2^p buckets above them
unfoldable pub split_rows : {V : Type 0} → (Name → ℕ) → ℕ → ℕ → ℕ → List (List (Slot V)) → List (List (Slot V))
split_rows hash s t p rows = low_rows hash s t p 0 rows ++ high_rows hash s t p 0 rows

-- the content at the next power
abbrev pub doubled_content : {V : Type 0} → (Name → ℕ) → ℕ → ℕ → Content V → Content V
doubled_content hash s t c = record { power = c.power + 1; rows = split_rows hash s t c.power c.rows; ledger = c.ledger }

-- From old to new each entry keeps its slot. One in its name's first bucket goes to the first bucket at the next power, any other to the alternate one.
abbrev pub SendsEach : {V : Type 0} → (Name → ℕ) → ℕ → ℕ → Content V → Content V → Type 0
SendsEach {V} hash s t old new =
    (b i : ℕ) (q : Name) (v : V) → b < 2 ^ old.power → b % 2 ^ s ≡ t → IsBucketOf hash old.power q b → slot_at (row_at old.rows (b / 2 ^ s)) i ≡ Some (q, v)
    → slot_at (row_at new.rows (grown_of old.power b (hash q) / 2 ^ s)) i ≡ Some (q, v)
