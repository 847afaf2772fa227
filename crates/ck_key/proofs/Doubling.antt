-- Laws of where a doubling sends an entry.
use Rattle.std.proofs.Common.{Bool, true, false, not, ◌==◌, cond, ◌⊎◌, inl, inr, refl, ◌≡◌, ℕ, ◌+◌, ◌^◌, ◌%◌, ◌<◌, arith, sym, ◌∙◌, ap, subst}
use Rattle.std.proofs.lemmas.Bool.{true≢false}
use Rattle.std.proofs.lemmas.Bool.Decides.{Decides-eqb}
use Rattle.ck_model.specs.Arithmetic.{index_of, second_of}
use Rattle.ck_model.proofs.Buckets.{index_below, second_below, index_lower, second_lower, next_power}
use Rattle.ck_key.specs.Doubling.{grown_of, rises_of}

-- where an entry of bucket b goes is one of its two buckets at the next power
pub grown_own : (p b h : ℕ) → (grown_of p b h ≡ index_of (p + 1) h) ⊎ (grown_of p b h ≡ second_of (p + 1) h)
unfolding grown_of
grown_own p b h = go (b == index_of p h)
  where
    go : (t : Bool) → (cond t (index_of (p + 1) h) (second_of (p + 1) h) ≡ index_of (p + 1) h) ⊎ (cond t (index_of (p + 1) h) (second_of (p + 1) h) ≡ second_of (p + 1) h)
    go true = inl refl
    go false = inr refl

grown_below : (p b h : ℕ) → grown_of p b h < 2 ^ (p + 1)
grown_below p b h = go (grown_own p b h)
  where
    go : (grown_of p b h ≡ index_of (p + 1) h) ⊎ (grown_of p b h ≡ second_of (p + 1) h) → grown_of p b h < 2 ^ (p + 1)
    go (inl e) = subst (λ n. n < 2 ^ (p + 1)) (sym e) (index_below (p + 1) h)
    go (inr e) = subst (λ n. n < 2 ^ (p + 1)) (sym e) (second_below (p + 1) h)

-- and stands above its old one
grown_lower : (p b h : ℕ) → (b ≡ index_of p h) ⊎ (b ≡ second_of p h) → grown_of p b h % 2 ^ p ≡ b
unfolding grown_of
grown_lower p b h own = go (b == index_of p h) refl own
  where
    go : (t : Bool) → (b == index_of p h) ≡ t → (b ≡ index_of p h) ⊎ (b ≡ second_of p h) → cond t (index_of (p + 1) h) (second_of (p + 1) h) % 2 ^ p ≡ b
    go true e own = index_lower p (p + 1) h (omega arith) ∙ sym ((Decides-eqb b (index_of p h)).0 e)
    go false e (inl first) = absurd (true≢false (sym ((Decides-eqb b (index_of p h)).1 first) ∙ e))
    go false e (inr second) = second_lower p (p + 1) h (omega arith) ∙ sym second

-- an entry that does not rise stays in its bucket
pub stays_at : (p b h : ℕ) → rises_of p b h ≡ false → grown_of p b h ≡ b
unfolding rises_of
stays_at p b h e = go (grown_of p b h == b) refl e
  where
    go : (t : Bool) → (grown_of p b h == b) ≡ t → not t ≡ false → grown_of p b h ≡ b
    go true s e = (Decides-eqb (grown_of p b h) b).0 s
    go false s e = absurd (true≢false e)

-- and one that rises goes 2^p higher
pub rises_to : (p b h : ℕ) → (b ≡ index_of p h) ⊎ (b ≡ second_of p h) → rises_of p b h ≡ true → grown_of p b h ≡ b + 2 ^ p
unfolding rises_of
rises_to p b h own e = go (next_power p (grown_of p b h) b (grown_below p b h) (grown_lower p b h own)) e
  where
    go : (grown_of p b h ≡ b) ⊎ (grown_of p b h ≡ b + 2 ^ p) → not (grown_of p b h == b) ≡ true → grown_of p b h ≡ b + 2 ^ p
    go (inl same) e = absurd (true≢false (sym e ∙ ap not ((Decides-eqb (grown_of p b h) b).1 same)))
    go (inr up) e = up
