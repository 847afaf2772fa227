-- A stripe of a set was found held, and is tried again.
use Rattle.std.proofs.Common.{refl, ◌≡◌, ℕ, ◌+◌, ◌-◌, ◌^◌, ◌<◌, ◌≤◌, false, List, [], take, length, get_or, sym, ap, ◌∙◌, subst, arith}
use Rattle.std.specs.List.Sorted.{IsStrictlyIncreasing}
use Rattle.ck_model.specs.Promise.{Name}
use Rattle.ck_model.specs.Numbered.{IsIn, numbers}
use Rattle.ck_stripe.specs.Stripes.{HaveNoSpare}
use Rattle.ck_core.specs.Steps.{IsAbove}
use Rattle.ck_words.specs.Words.{WordsState}
use Rattle.ck_words.specs.Passes.{MayTake, PassState, IsPassOf, IsUnchanged, TakesStripe, TriesStripe, numbers_of}
use Rattle.ck_words.specs.Retries.{TakesWithin, found_again, FindsAgain}
use Rattle.ck_words.specs.Holding.{HasTaken, GivesUp, HasReleased, Misses}
use Rattle.ck_words.proofs.Staying.{not_found, found_never, found_next}
use Rattle.ck_words.proofs.Taking.{in_list, above_first, above_taken, next_first, one_taken, given_up, takes_later, found_later}

module _ {V : Type 0} (hash : Name → ℕ) (w : WordsState) (ns : List ℕ) (i t : ℕ) (is : t ≡ get_or ns i 0) (p q : PassState V) where
  asked : i < length ns → IsIn t ns
  asked inside = subst (λ u. IsIn u ns) (sym is) (in_list ns i inside)

  -- the first of them were taken
  module _ (rising : IsStrictlyIncreasing ns) (inside : i < length ns) (taken : HasTaken hash w (λ u. IsIn u ns) (take i ns) p q) where
    pub above_next : IsAbove t (numbers q.view.held)
    above_next = above_taken hash w (λ u. IsIn u ns) (take i ns) t p q taken (subst (λ u. IsAbove u (take i ns)) (sym is) (above_first ns i rising inside))

    pub next_taken : (turns : ℕ) (r : PassState V) → TakesWithin hash w.settings turns t q r → IsPassOf w r → IsUnchanged r → HasTaken hash w (λ u. IsIn u ns) (take (i + 1) ns) p r
    next_taken turns r k own unchanged = subst (λ ms. HasTaken hash w (λ u. IsIn u ns) ms p r) (next_first ns i t inside is) (one_taken hash w (λ u. IsIn u ns) (take i ns) t p q taken turns r (asked inside) k own unchanged)

    -- what is asked of a take of the next
    pub ready_next : (s : ℕ) → s ≡ w.settings.s → t < 2 ^ s → MayTake w t q
    ready_next s of_table below = record { own = taken.own; inside = subst (λ n. t < 2 ^ n) of_table below; above = above_next; unchanged = taken.unchanged }

    -- one swap took it,
    pub next_swapped : (r : PassState V) → TakesStripe hash w.settings t q r → IsPassOf w r → IsUnchanged r → HasTaken hash w (λ u. IsIn u ns) (take (i + 1) ns) p r
    next_swapped r k own unchanged = next_taken 1 r (0, omega arith, [], subst (λ (x : PassState V). TakesStripe hash w.settings t x r) (not_found t q) k, λ m by. refl) own unchanged

    -- or found it held
    pub next_missed : (r : PassState V) → TriesStripe hash w t false q r → IsPassOf w r → Misses hash w ns i p r
    next_missed r k own = (inside, (q, taken, subst (λ u. FindsAgain 1 u q r) is (found_next hash w 0 t q q r (found_never t q) taken.own own k)))

    pub next_refused : (r s : PassState V) → 1 ≤ w.settings.turns → FindsAgain w.settings.turns t q r → HasReleased w r s → GivesUp w (λ u. IsIn u ns) t p s
    next_refused r s some again released = given_up hash w (λ u. IsIn u ns) (take i ns) t p q taken r s some (asked inside) again released

    pub still_first : (n : ℕ) (r : PassState V) → FindsAgain n t q r → numbers_of r.stripes ≡ take i ns
    still_first n r again = ap (λ (x : PassState V). numbers_of x.stripes) again.1 ∙ taken.numbered

    pub still_spare : (n : ℕ) (r : PassState V) → FindsAgain n t q r → HaveNoSpare r.stripes
    still_spare n r again = subst (λ (x : PassState V). HaveNoSpare x.stripes) (sym again.1) taken.no_spare

  -- and the next was found held once
  module _ (rising : IsStrictlyIncreasing ns) (some : 1 ≤ w.settings.turns) (missed : Misses hash w ns i p q) where
    before : PassState V
    before = missed.1.0

    again : FindsAgain 1 t missed.1.0 q
    again = subst (λ u. FindsAgain 1 u missed.1.0 q) (sym is) missed.1.2

    pub above_missed : IsAbove t (numbers q.view.held)
    above_missed = subst (λ (x : PassState V). IsAbove t (numbers x.view.held)) (sym again.1)
        (above_taken hash w (λ u. IsIn u ns) (take i ns) t p missed.1.0 missed.1.1 (subst (λ u. IsAbove u (take i ns)) (sym is) (above_first ns i rising missed.0)))

    pub later_taken : (r : PassState V) → TakesWithin hash w.settings (w.settings.turns - 1) t q r → IsPassOf w r → IsUnchanged r → HasTaken hash w (λ u. IsIn u ns) (take (i + 1) ns) p r
    later_taken r k own unchanged = subst (λ ms. HasTaken hash w (λ u. IsIn u ns) ms p r) (next_first ns i t missed.0 is)
        (one_taken hash w (λ u. IsIn u ns) (take i ns) t p missed.1.0 missed.1.1 w.settings.turns r (asked missed.0) (takes_later hash w.settings w.settings.turns t missed.1.0 q r some again k) own unchanged)

    pub later_first : (n : ℕ) (r : PassState V) → FindsAgain n t q r → numbers_of r.stripes ≡ take i ns
    later_first n r more = ap (λ (x : PassState V). numbers_of x.stripes) more.1 ∙ (ap (λ (x : PassState V). numbers_of x.stripes) again.1 ∙ missed.1.1.numbered)

    pub later_spare : (n : ℕ) (r : PassState V) → FindsAgain n t q r → HaveNoSpare r.stripes
    later_spare n r more = subst (λ (x : PassState V). HaveNoSpare x.stripes) (sym (more.1 ∙ ap (λ (x : PassState V). found_again n t more.0 x) again.1)) missed.1.1.no_spare

    pub later_refused : (r s : PassState V) → FindsAgain (w.settings.turns - 1) t q r → HasReleased w r s → GivesUp w (λ u. IsIn u ns) t p s
    later_refused r s more released = given_up hash w (λ u. IsIn u ns) (take i ns) t p missed.1.0 missed.1.1 r s some (asked missed.0) (found_later w.settings.turns t missed.1.0 q r some again more) released
