-- Stripes are taken, one after another.
use Rattle.std.proofs.Common.{◌≢◌, ◌≡◌, ℕ, zero, suc, ◌+◌, ◌-◌, ◌<◌, ◌≤◌, Bool, true, false, List, [], ◌∷◌, ◌++◌, take, length, get_or, replicate, refl, sym, ap, ◌∙◌, subst, ⊎_elim, inl, inr, arith}
use Rattle.std.proofs.Math.Nat.{eq-or-lt_of_le}
use Rattle.std.proofs.lemmas.List.{take_more}
use Rattle.std.specs.Prelude.{MatchBool}
use Rattle.std.specs.List.Sorted.{IsStrictlyIncreasing}
use Rattle.ck_model.specs.Promise.{Name}
use Rattle.ck_model.specs.declared.settings.Settings.{Settings}
use Rattle.ck_model.specs.Numbered.{IsIn, numbers}
use Rattle.ck_stripe.specs.Stripe.{StripeState}
use Rattle.ck_core.specs.declared.trace.LockStep.TheVariants.{Missed}
use Rattle.ck_core.specs.State.{found_held}
use Rattle.ck_core.specs.Steps.{IsAbove, event}
use Rattle.ck_words.specs.Words.{WordsState}
use Rattle.ck_words.specs.Passes.{PassState, EachOf, IsPassOf, IsIdle, IsUnchanged, TakesStripe, numbers_of}
use Rattle.ck_words.specs.Retries.{Stays, TakesWithin, MissesAlone, found_again, FindsAgain, HasMissed}
use Rattle.ck_words.specs.Holding.{HasTaken, GivesUp, HasReleased}
use Rattle.ck_words.proofs.Reversed.{map-append, in_reverse}
use Rattle.ck_words.proofs.Seating.{each_append, numbers-contents}
use Rattle.ck_words.proofs.Spare.{spare_none, spare_push}
use Rattle.ck_words.proofs.Staying.{last_since, last_giving, alone_on, found_times, again_later, stays_same, stays_on, stays_within, stays_finding, shows_taken, unchanged_idle, among_none, among_on, among_within, among_held}

-- a number of the list stands in it
pub in_list : (ts : List ℕ) (i : ℕ) → i < length ts → IsIn (get_or ts i 0) ts
in_list [] i l = absurd (omega arith)
in_list (t ∷ ts) zero l = inl refl
in_list (t ∷ ts) (suc i) l = inr (in_list ts i (omega arith))

-- where a number of the first n stands
in_first : (ts : List ℕ) (n t : ℕ) → IsIn t (take n ts) → (i : ℕ) × (i < n) × (i < length ts) × (get_or ts i 0 ≡ t)
in_first ts zero t z = absurd z
in_first [] (suc n) t z = absurd z
in_first (u ∷ ts) (suc n) t z = ⊎_elim (λ e. (0, omega arith, omega arith, e)) (λ r. let x = in_first ts n t r in (suc x.0, omega arith, omega arith, x.3)) z

-- the numbers rise
pub rises : (ts : List ℕ) → IsStrictlyIncreasing ts → (i j : ℕ) → i < j → j < length ts → get_or ts i 0 < get_or ts j 0
rises ts up i zero a b = absurd (omega arith)
rises ts up i (suc j) a b =
    let next : get_or ts j 0 < get_or ts (suc j) 0 = subst (λ k. get_or ts j 0 < get_or ts k 0) (let e : j + 1 ≡ suc j = omega arith in e) (up j (omega arith)) in
    ⊎_elim (λ (e : i ≡ j). subst (λ k. get_or ts k 0 < get_or ts (suc j) 0) (sym e) next) (λ (l : i < j). let x = rises ts up i j l (omega arith) in omega arith) (eq-or-lt_of_le {n = i} {m = j} (omega arith))

-- the next of rising numbers is above those before it
pub above_first : (ts : List ℕ) (n : ℕ) → IsStrictlyIncreasing ts → n < length ts → IsAbove (get_or ts n 0) (take n ts)
above_first ts n up l u i = let x = in_first ts n u i in let r = rises ts up x.0 n x.1 l in let e = x.3 in omega arith

-- the first numbers, and the next of them
pub next_first : (ts : List ℕ) (i t : ℕ) → i < length ts → t ≡ get_or ts i 0 → take i ts ++ t ∷ [] ≡ take (i + 1) ts
next_first ts i t l e = ap (λ u. take i ts ++ u ∷ []) e ∙ sym (take_more ts i 0 l)

module _ {V : Type 0} where
  -- what is held has the numbers of the stripes
  numbered_of_held : (p : PassState V) → IsUnchanged p → (t : ℕ) → IsIn t (numbers p.view.held) → IsIn t (numbers_of p.stripes)
  numbered_of_held p u t i = subst (IsIn t) (ap numbers (sym u) ∙ numbers-contents p.stripes) (in_reverse p.view.held t i)

  -- the stripe was found held once, and then n times
  found_then : (n t : ℕ) (p q r : PassState V) → FindsAgain 1 t p q → FindsAgain n t q r → FindsAgain (suc n) t p r
  found_then n t p q r again more =
      let same : q.view.by ≡ p.view.by = ap (λ (x : PassState V). x.view.by) again.1 in
      (again.0 ++ more.0, more.1 ∙ (ap (found_again n t more.0) again.1 ∙ (again_later n 1 t again.0 more.0 p ∙ ap (λ m. found_again m t (again.0 ++ more.0) p) (let e : n + 1 ≡ suc n = omega arith in e))), subst (λ m. MissesAlone m t p.view (again.0 ++ more.0)) (let e : n + 1 ≡ suc n = omega arith in e) (alone_on n 1 t p.view again.0 more.0 again.2 (λ m by. more.2 m (same ∙ by) ∙ ap (λ o. replicate n (event o Missed t)) same)))

  pub takes_later : (hash : Name → ℕ) (set : Settings) (turns t : ℕ) (p q r : PassState V) → 1 ≤ turns → FindsAgain 1 t p q → TakesWithin hash set (turns - 1) t q r → TakesWithin hash set turns t p r
  takes_later hash set turns t p q r some again k =
      let l = k.1 in
      let all = found_then k.0 t p q (found_again k.0 t k.2 q) again (k.2, refl, k.4) in
      (suc k.0, omega arith, all.0, subst (λ (x : PassState V). TakesStripe hash set t x r) all.1 k.3, all.2)

  pub found_later : (turns t : ℕ) (p q r : PassState V) → 1 ≤ turns → FindsAgain 1 t p q → FindsAgain (turns - 1) t q r → FindsAgain turns t p r
  found_later turns t p q r some again more = subst (λ n. FindsAgain n t p r) (let e : suc (turns - 1) ≡ turns = omega arith in e) (found_then (turns - 1) t p q r again more)

  pub tries_later : (hash : Name → ℕ) (set : Settings) (turns t : ℕ) (p q r : PassState V) (taken : Bool) → 1 ≤ turns → FindsAgain 1 t p q → MatchBool taken (TakesWithin hash set (turns - 1) t q r) (FindsAgain (turns - 1) t q r)
      → MatchBool taken (TakesWithin hash set turns t p r) (FindsAgain turns t p r)
  tries_later hash set turns t p q r true some again k = takes_later hash set turns t p q r some again k
  tries_later hash set turns t p q r false some again k = found_later turns t p q r some again k

-- where a stripe was found held, the caller isn't the only one
pub found_by_two : {V : Type 0} (w : WordsState) (turns t : ℕ) (p : PassState V) (more : List ℕ) → 1 ≤ turns → IsPassOf w p → found_held p.view ≡ replicate turns t ++ more → w.settings.callers ≢ 1
found_by_two w zero t p more some own found one = omega arith
found_by_two w (suc n) t p more some own found one = let l = ap length (sym found ∙ own.3 one) in omega arith

-- and another held it each time
pub has_missed : {V : Type 0} (w : WordsState) (turns t : ℕ) (q : PassState V) (more : List ℕ) → IsPassOf w q → found_held q.view ≡ replicate turns t ++ more → HasMissed turns t q
has_missed w turns t q more own found = record { legal = own.6.legal; missed = λ m by. (more, own.6.missed m by ∙ found) }

module _ {V : Type 0} (hash : Name → ℕ) (w : WordsState) (P : ℕ → Type 0) where
  pub none_taken : (p : PassState V) → IsPassOf w p → IsIdle p → HasTaken hash w P [] p p
  none_taken p own idle = record {
    own = own;
    unchanged = unchanged_idle p idle;
    stays = stays_same p.view;
    numbered = ap (λ (l : List (StripeState V)). numbers_of l) idle.0;
    of_table = subst (λ (l : List (StripeState V)). EachOf w.settings.s l) (sym idle.0) tt;
    no_spare = spare_none p.stripes idle.0;
    found = among_none P p p refl;
    shows = λ l. absurd (omega arith);
  }

  module _ (ns : List ℕ) (t : ℕ) (p q : PassState V) (h : HasTaken hash w P ns p q) where
    pub above_taken : IsAbove t ns → IsAbove t (numbers q.view.held)
    above_taken a u i = a u (subst (IsIn u) h.numbered (numbered_of_held q h.unchanged u i))

    pub one_taken : (turns : ℕ) (r : PassState V) → P t → TakesWithin hash w.settings turns t q r → IsPassOf w r → IsUnchanged r → HasTaken hash w P (ns ++ t ∷ []) p r
    one_taken turns r asked k own unchanged = record {
      own = own;
      unchanged = unchanged;
      stays = stays_on p.view q.view r.view h.stays (stays_within hash w.settings turns t q r k h.own.1);
      numbered = ap (λ (l : List (StripeState V)). numbers_of l) k.3.2 ∙ (map-append (λ (x : StripeState V). x.number) q.stripes (k.3.0 ∷ []) ∙ λ i. h.numbered i ++ k.3.1.0 i ∷ []);
      of_table = subst (λ (l : List (StripeState V)). EachOf w.settings.s l) (sym k.3.2) (each_append w.settings.s q.stripes k.3.0 h.of_table k.3.1.1);
      no_spare = spare_push q.stripes r.stripes k.3.0 k.3.2 h.no_spare k.3.1.2;
      found = among_on P p q r h.found (among_within P hash w.settings turns t q r asked k);
      shows = λ _. shows_taken hash w.settings turns t q r k;
    }

    -- the stripe was found held to the end, and the others went home
    pub given_up : (r s : PassState V) → 1 ≤ w.settings.turns → P t → FindsAgain w.settings.turns t q r → HasReleased w r s → GivesUp w P t p s
    given_up r s some asked again released =
        let turns = w.settings.turns in
        let found : found_held s.view ≡ replicate turns t ++ found_held q.view = released.found ∙ (ap (λ (x : PassState V). found_held x.view) again.1 ∙ found_times turns t again.0 q) in
        let tried : Stays q.view r.view = subst (λ (x : PassState V). Stays q.view x.view) (sym again.1) (stays_finding turns t again.0 q again.2) in
        record {
          own = released.own;
          stays = stays_on p.view r.view s.view (stays_on p.view q.view r.view h.stays tried) released.stays;
          found = among_on P p r s (among_on P p q r h.found (among_held P turns t q r asked again)) (among_none P r s released.found);
          busy = (
            released.idle,
            last_since turns t p q s h.stays.by h.own.2 h.stays.watched (last_giving turns t q r s again released.given),
            found_by_two w turns t s (found_held q.view) some released.own found,
            has_missed w turns t s (found_held q.view) released.own found,
          );
          asked = asked;
        }
