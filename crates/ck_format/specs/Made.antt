-- The script that is made of a seed: of so many workers, with so many command lines each.
use Rattle.std.specs.Prelude.{◌≡◌, ℕ, ◌+◌, ◌*◌, ◌%◌, List, ◌∷◌, ◌++◌, codes, flat_map, nat_lt, if◌then◌else◌}
use Rattle.std.specs.Fmt.{decimal}
use Rattle.rand_pcg.specs.Lcg.{Lcg, advance, increment_of, started}
use Rattle.rand_pcg.specs.Pcg.{multiplier_64, pcg32}
use Rattle.ck_model.specs.Counting.{counting}
use Rattle.ck_format.specs.Lines.{with_feed}

-- the generator of a seed: stream 54
unfoldable pub generator_of : ℕ → Lcg
generator_of seed = started 64 multiplier_64 seed (increment_of 64 54)

-- word number i, from 0, of those that a generator will give
unfoldable pub nth_word : Lcg → ℕ → ℕ
nth_word g i = (pcg32 (advance 64 multiplier_64 i g)).0

-- word number i of a seed
abbrev pub word_at : ℕ → ℕ → ℕ
word_at seed i = nth_word (generator_of seed) i

-- the command `add` on a key and a number
abbrev pub add_text : ℕ → ℕ → List ℕ
add_text k n = codes "add " ++ decimal k ++ 32 ∷ decimal n

-- command line number i over a sequence of words: it takes two of them
abbrev pub line_over : (ℕ → ℕ) → ℕ → List ℕ
line_over words i = add_text (words (2 * i) % 64) (words (2 * i + 1) % 1000)

-- command line number i of a seed
abbrev pub made_line : ℕ → ℕ → List ℕ
made_line seed i = line_over (word_at seed) i

-- line 1: the second format is for more than 256 workers
abbrev pub made_header : ℕ → List ℕ
made_header workers = if nat_lt 256 workers then codes "cuckoo 2" else codes "cuckoo 1"

-- the block of worker number w, from 0, of a seed
abbrev pub made_block : ℕ → ℕ → ℕ → List ℕ
made_block seed lines w =
    with_feed (codes "worker") ++ flat_map (λ j. with_feed (made_line seed (w * lines + j))) (counting 0 lines)

-- the whole script
abbrev pub made_text : ℕ → ℕ → ℕ → List ℕ
made_text seed workers lines =
    with_feed (made_header workers) ++ flat_map (made_block seed lines) (counting 0 workers) ++ with_feed (codes "end")

-- a text begins by this front
abbrev pub BeginsBy : List ℕ → List ℕ → Type 0
BeginsBy front text = (rest : List ℕ) × (text ≡ front ++ rest)

-- The rest is for private contracts and proofs alone.

-- command line number i of those that a generator will make
unfoldable pub nth_line : Lcg → ℕ → List ℕ
nth_line g i = line_over (nth_word g) i

-- the generator behind so many command lines
unfoldable pub after_lines : ℕ → Lcg → Lcg
after_lines n g = advance 64 multiplier_64 (2 * n) g

-- the block of a worker whose command lines a generator will make
abbrev pub block_text : Lcg → ℕ → List ℕ
block_text g lines = with_feed (codes "worker") ++ flat_map (λ j. with_feed (nth_line g j)) (counting 0 lines)
