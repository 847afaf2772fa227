-- What a caller has seen of its own entries.
use Rattle.std.proofs.Common.{◌≡◌, ℕ, List, [], ◌∷◌, ◌++◌, inl, inr, sym, ap, ◌∙◌, subst, append-nil}
use Rattle.ck_model.specs.declared.history.Entry.{Entry}
use Rattle.ck_model.specs.Promise.{Client, subhistory}
use Rattle.ck_model.proofs.Histories.{subhistory-append, subhistory-own}
use Rattle.ck_script.specs.Answered.{SeesMore}

-- what has none of the caller's entries adds none to them
own_same : (by : ℕ) (log more : List (Entry ℕ)) → subhistory by more ≡ [] → subhistory by (log ++ more) ≡ subhistory by log
own_same by log more none = subhistory-append by log more ∙ ap (λ (es : List (Entry ℕ)). subhistory by log ++ es) none ∙ append-nil (subhistory by log)

-- a client that has seen all of its own entries has, where it sees more
pub sees_own : (by : ℕ) (c d : Client ℕ) → SeesMore by c d → subhistory by c.seen ≡ c.mine → subhistory by d.seen ≡ d.mine
sees_own by c d more own =
    elim more [
      | inl h ↦ ap (subhistory by) h.1 ∙ own_same by c.seen h.0 h.2 ∙ own ∙ sym h.3
      | inr h ↦
          ap (subhistory by) h.2
          ∙ subhistory-own by (c.seen ++ h.0) h.1 h.4
          ∙ ap (λ (es : List (Entry ℕ)). es ++ h.1 ∷ []) (own_same by c.seen h.0 (subst (λ (n : ℕ). subhistory n h.0 ≡ []) h.4 h.3) ∙ own)
          ∙ sym h.5
    ]
