-- Where a table that doubles sends the entries of a bucket.
use Rattle.std.specs.Prelude.{ℕ, Bool, not, ◌==◌, if◌then◌else◌, ◌+◌}
use Rattle.ck_model.specs.Arithmetic.{index_of, second_of}

-- the bucket at power p + 1 of an entry of hash h that stands in bucket b at power p: from its first bucket to its first, from any other to its alternate
unfoldable pub grown_of : ℕ → ℕ → ℕ → ℕ
grown_of p b h = if b == index_of p h then index_of (p + 1) h else second_of (p + 1) h

-- whether it leaves b
unfoldable pub rises_of : ℕ → ℕ → ℕ → Bool
rises_of p b h = not (grown_of p b h == b)
