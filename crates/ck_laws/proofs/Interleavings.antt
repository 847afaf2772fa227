-- What holds of the entries of each caller holds of all entries of an interleaving.
use Rattle.std.proofs.Common.{◌≡◌, ℕ, List, [], ◌∷◌, ◌++◌, append_assoc, ◌∙◌, sym, refl, subst, cond}
use mathlib.Core.Logic.{dite}
use Rattle.std.specs.Prelude.{◌==◌, Bool, true, false}
use Rattle.ck_model.specs.declared.history.Entry.{Entry}
use Rattle.ck_model.specs.Promise.{subhistory, IsInterleaving}
use Rattle.ck_model.specs.Numbered.{numbers, Holds}
use Rattle.ck_model.proofs.Numbered.{dec_in, held_of_in, if_same}
use Rattle.ck_laws.specs.Laws.{IsOfPart, EntriesStandInParts}

-- each of the list is so
abbrev pub Every : {A : Type 0} → (A → Type 0) → List A → Type 0
Every P [] = Unit {0}
Every P (x ∷ xs) = P x × Every P xs

module _ {V : Type 0} (P : Entry V → Type 0) where
  head_of : (x : Entry V) (xs : List (Entry V)) → Every P (subhistory x.by (x ∷ xs)) → P x
  head_of x xs h = first (subst (λ (l : List (Entry V)). Every P l) (if_same x.by x.by (x ∷ subhistory x.by xs) (subhistory x.by xs) refl) h)
    where
      first : Every P (x ∷ subhistory x.by xs) → P x
      first h = h.0

  tail_of : (m : ℕ) (x : Entry V) (xs : List (Entry V)) → Every P (subhistory m (x ∷ xs)) → Every P (subhistory m xs)
  tail_of m x xs h = by (x.by == m) h
    where
      by : (b : Bool) → Every P (cond b (x ∷ subhistory m xs) (subhistory m xs)) → Every P (subhistory m xs)
      by true h = h.1
      by false h = h

  of_each : (log : List (Entry V)) → ((m : ℕ) → Every P (subhistory m log)) → Every P log
  of_each [] h = tt
  of_each (x ∷ xs) h = (head_of x xs (h x.by), of_each xs (λ m. tail_of m x xs (h m)))

  pub all_interleaved : (log : List (Entry V)) (parts : List (ℕ × List (Entry V))) → IsInterleaving log parts → ((m : ℕ) (l : List (Entry V)) → Holds parts m l → Every P l) → Every P log
  all_interleaved log parts woven each = of_each log (λ m. dite (dec_in m (numbers parts))
      (λ i. let z = held_of_in parts m i in subst (λ (l : List (Entry V)). Every P l) (sym (woven.each m z.0 z.1)) (each m z.0 z.1))
      (λ out. subst (λ (l : List (Entry V)). Every P l) (sym (woven.no_others m out)) tt))

  -- one of the list is so
  pub every_at : (before after : List (Entry V)) (e : Entry V) → Every P (before ++ e ∷ after) → P e
  every_at [] after e h = h.0
  every_at (x ∷ xs) after e h = every_at xs after e h.1

module _ {V : Type 0} where
  -- the rest of a part
  rest_of : (parts : List (ℕ × List (Entry V))) (m : ℕ) (l before rest : List (Entry V)) → Holds parts m l → l ≡ before ++ rest → Every (IsOfPart parts) rest
  rest_of parts m l before [] h e = tt
  rest_of parts m l before (x ∷ xs) h e = ((m, l, h, before, xs, e), rest_of parts m l (before ++ x ∷ []) xs h (e ∙ sym (append_assoc before (x ∷ []) xs)))

  pub in_parts : EntriesStandInParts V
  in_parts log before after e parts woven is =
      let all = all_interleaved (IsOfPart parts) log parts woven (λ m l h. rest_of parts m l [] l h refl) in
      every_at (IsOfPart parts) before after e (subst (λ (x : List (Entry V)). Every (IsOfPart parts) x) is all)
