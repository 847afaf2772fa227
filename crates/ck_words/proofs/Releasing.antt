-- Stripes go home as they were, one after another.
use Rattle.std.proofs.Common.{◌≡◌, ℕ, ◌+◌, ◌-◌, ◌<◌, ◌≤◌, List, [], ◌∷◌, ◌++◌, take, get_or, drop, length, reverse, refl, arith, sym, ap, ◌∙◌}
use Rattle.std.proofs.lemmas.List.{reverse-append, reverse-reverse, take_all, take_more}
use Rattle.ck_model.specs.Promise.{Name}
use Rattle.ck_stripe.specs.Stripe.{StripeState}
use Rattle.ck_core.specs.State.{found_held}
use Rattle.ck_core.specs.Steps.Label.{GiveRest}
use Rattle.ck_words.specs.Words.{WordsState}
use Rattle.ck_words.specs.Passes.{PassState, IsPassOf, IsIdle, IsUnchanged, IsHighest, Sends, numbers_of}
use Rattle.ck_words.specs.Retries.{GivesAlone, Stays}
use Rattle.ck_words.specs.Holding.{HasReleased}
use Rattle.ck_words.proofs.Reversed.{map-append}
use Rattle.ck_words.proofs.Staying.{gives_none, gives_on, stays_same, stays_giving, given_rest, found_giving, seen_giving, idle_of}

front : (ns : List ℕ) (t : ℕ) → reverse (drop 1 (reverse (ns ++ t ∷ []))) ≡ ns
front ns t = ap (λ (l : List ℕ). reverse (drop 1 l)) (reverse-append ns (t ∷ [])) ∙ reverse-reverse ns

-- the last of the first i numbers
pub last_taken : (ns : List ℕ) (i : ℕ) → 0 < i → i ≤ length ns → take i ns ≡ take (i - 1) ns ++ get_or ns (i - 1) 0 ∷ []
last_taken ns i some inside = ap (λ k. take k ns) (let e : i ≡ i - 1 + 1 = omega arith in e) ∙ take_more ns (i - 1) 0 (omega arith)

-- all numbers, with the last apart
last_of_all : (ns : List ℕ) (i t : ℕ) → 0 < length ns → i ≡ length ns - 1 → t ≡ get_or ns i 0 → ns ≡ take i ns ++ t ∷ []
last_of_all ns i t some last is =
    let all : take (i + 1) ns ≡ ns = take_all (i + 1) ns (omega arith) in
    sym all ∙ (take_more ns i 0 (omega arith) ∙ ap (λ u. take i ns ++ u ∷ []) (sym is))

module _ {V : Type 0} where
  no_numbers : (ss : List (StripeState V)) → numbers_of ss ≡ [] → ss ≡ []
  no_numbers [] e = refl
  no_numbers (s ∷ ss) e = absurd (cons_nil s.number (numbers_of ss) e) where
    cons_nil : (n : ℕ) (ns : List ℕ) → ¬ (n ∷ ns ≡ [])
    cons_nil n ns e = let l = ap length e in omega arith

  -- the numbers that are left after the highest stripe went home
  numbers_left : (ns : List ℕ) (t : ℕ) (ss rest : List (StripeState V)) (stripe : StripeState V) → ss ≡ rest ++ stripe ∷ [] → numbers_of ss ≡ ns ++ t ∷ [] → numbers_of rest ≡ ns
  numbers_left ns t ss rest stripe split e =
      let numbered : numbers_of rest ++ stripe.number ∷ [] ≡ ns ++ t ∷ [] = sym (map-append (λ (x : StripeState V). x.number) rest (stripe ∷ [])) ∙ (ap (λ (l : List (StripeState V)). numbers_of l) (sym split) ∙ e) in
      sym (front (numbers_of rest) stripe.number) ∙ (ap (λ (l : List ℕ). reverse (drop 1 (reverse l))) numbered ∙ front ns t)

  -- The stripes have these numbers, of which t is the last.
  module _ (ns : List ℕ) (n t : ℕ) (ss : List (StripeState V)) (some : 0 < length ns) (count : n ≡ length ns) (is : t ≡ get_or ns (n - 1) 0) (numbered : numbers_of ss ≡ ns) where
    last_apart : numbers_of ss ≡ take (n - 1) ns ++ t ∷ []
    last_apart = numbered ∙ last_of_all ns (n - 1) t some (omega arith) is

    pub last_highest : IsHighest t ss
    last_highest = (take (n - 1) ns, last_apart)

    -- once it went home
    pub others_left : (rest : List (StripeState V)) (stripe : StripeState V) → ss ≡ rest ++ stripe ∷ [] → numbers_of rest ≡ take (n - 1) ns
    others_left rest stripe split = numbers_left (take (n - 1) ns) t ss rest stripe split last_apart

  -- From p to q some went home as they were. Those of these numbers are left.
  pub record Leaves (w : WordsState) (ns : List ℕ) (p q : PassState V) : Type 0 where
    pub own : IsPassOf w q
    pub unchanged : IsUnchanged q
    pub numbered : numbers_of q.stripes ≡ ns
    pub stays : Stays p.view q.view
    pub found : found_held q.view ≡ found_held p.view
    pub seen : q.view.seen ≡ p.view.seen
    pub given : GivesAlone p.view q.view

  module _ (w : WordsState) where
    pub leaves_all : (ns : List ℕ) (p : PassState V) → IsPassOf w p → IsUnchanged p → numbers_of p.stripes ≡ ns → Leaves w ns p p
    leaves_all ns p own unchanged numbered = record { own = own; unchanged = unchanged; numbered = numbered; stays = stays_same p.view; found = refl; seen = refl; given = gives_none p.view }

    pub leaves_fewer : (hash : Name → ℕ) (ns : List ℕ) (t : ℕ) (p q r : PassState V) → Leaves w (ns ++ t ∷ []) p q → IsPassOf w r → IsUnchanged r → Sends hash w (λ t _. GiveRest t) q r → Leaves w ns p r
    leaves_fewer hash ns t p q r h own unchanged g = record {
      own = own;
      unchanged = unchanged;
      numbered = numbers_left ns t q.stripes r.stripes g.0 g.1 h.numbered;
      stays = stays_giving hash w q r g p.view h.stays;
      found = found_giving hash w q r g ∙ h.found;
      seen = seen_giving hash w q r g ∙ h.seen;
      given = gives_on p.view q.view r.view h.given (given_rest hash w q r g);
    }

    pub leaves_after : (hash : Name → ℕ) (ns : List ℕ) (t : ℕ) (p q : PassState V) → IsPassOf w p → IsUnchanged p → numbers_of p.stripes ≡ ns ++ t ∷ [] → IsPassOf w q → IsUnchanged q → Sends hash w (λ t _. GiveRest t) p q → Leaves w ns p q
    leaves_after hash ns t p q own unchanged numbered own2 unchanged2 g = leaves_fewer hash ns t p p q (leaves_all (ns ++ t ∷ []) p own unchanged numbered) own2 unchanged2 g

    pub leaves_none : (p q : PassState V) → Leaves w [] p q → HasReleased w p q
    leaves_none p q h = record { own = h.own; idle = idle_of q (no_numbers q.stripes h.numbered) h.unchanged; stays = h.stays; found = h.found; seen = h.seen; given = h.given }

    pub released_idle : (p : PassState V) → IsPassOf w p → IsIdle p → HasReleased w p p
    released_idle p own idle = record { own = own; idle = idle; stays = stays_same p.view; found = refl; seen = refl; given = gives_none p.view }
