-- The stripes of a pass by their numbers.
use Rattle.std.proofs.Common.{◌≡◌, ℕ, ◌<◌, List, length, get_or, sym, ap, ◌∙◌, arith}
use Rattle.ck_stripe.specs.Stripes.{stripe_at}
use Rattle.ck_words.specs.Passes.{PassState, numbers_of}
use Rattle.ck_words.proofs.Seating.{length-numbers, number_at}

module _ {V : Type 0} where
  -- stripe i of them, and how many there are
  pub counts : (p : PassState V) (ns : List ℕ) → numbers_of p.stripes ≡ ns → length p.stripes ≡ length ns
  counts p ns numbered = sym (length-numbers p.stripes) ∙ ap length numbered

  pub named : (p : PassState V) (ns : List ℕ) (i : ℕ) → numbers_of p.stripes ≡ ns → i < length ns → (stripe_at p.stripes i).number ≡ get_or ns i 0
  named p ns i numbered inside = let n = counts p ns numbered in number_at p.stripes i (omega arith) ∙ ap (λ (l : List ℕ). get_or l i 0) numbered
