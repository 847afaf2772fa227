-- The tokens that the code cuts a line into. Only the proofs need this file.
use Rattle.std.specs.Prelude.{◌≡◌, ℕ, ◌<◌, List, [], ◌∷◌, length}
use Rattle.ck_format.specs.declared.tokens.Tokens.{Tokens}
use Rattle.ck_format.specs.declared.tokens.Tokens.TheVariants.{One, Two, Three, Four, More}

-- these are the tokens of the list, or there are more than four
abbrev pub AreTokens : Tokens → List (List ℕ) → Type 0
AreTokens (One a) ws = ws ≡ a.now ∷ []
AreTokens (Two a b) ws = ws ≡ a.now ∷ b.now ∷ []
AreTokens (Three a b c) ws = ws ≡ a.now ∷ b.now ∷ c.now ∷ []
AreTokens (Four a b c d) ws = ws ≡ a.now ∷ b.now ∷ c.now ∷ d.now ∷ []
AreTokens More ws = 4 < length ws
