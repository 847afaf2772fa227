-- The slots of a pass as a stripe comes and goes.
use Rattle.std.proofs.Common.{◌≡◌, ℕ, zero, suc, ◌<◌, ◌≤◌, List, [], ◌∷◌, ◌++◌, map, length, length-append, get_or, drop, reverse, sym, refl, ap, ◌∙◌, subst, ⊎_elim, inl, inr, arith, Some}
use Rattle.std.proofs.lemmas.List.{reverse-append, reverse-reverse}
use Rattle.atomic_table.specs.Seated.{TableId}
use Rattle.ck_model.specs.Numbered.{IsIn, numbers, without}
use Rattle.ck_model.specs.declared.contents.Content.{Content}
use Rattle.ck_model.specs.declared.settings.Settings.{Settings}
use Rattle.ck_model.specs.Contents.{Stripes}
use Rattle.ck_model.proofs.Numbered.{if_same, if_else}
use Rattle.ck_stripe.specs.Stripe.{StripeState}
use Rattle.ck_stripe.specs.Stripes.{stripe_at, contents_of}
use Rattle.ck_core.specs.declared.view.View.{View}
use Rattle.ck_core.specs.Steps.{IsAbove}
use Rattle.ck_words.specs.Rule.{StripeSlot, Hand, IsAtHome}
use Rattle.ck_words.specs.Plays.{stripe_in, contents_in}
use Rattle.ck_words.specs.Passes.{Falls, stripes_in, held_in, slot_of, numbers_of, EachOf, IsSeated, IsReady, IsHighest}
use Rattle.ck_words.proofs.Reversed.{map-reverse, reverse-cons}

-- the first of a list, or another
abbrev first_of : {A : Type 0} → A → List A → A
first_of d [] = d
first_of d (x ∷ xs) = x

module _ {V : Type 0} where
  pub stripes-slots : (ss : List (StripeState V)) → stripes_in (map slot_of ss) ≡ ss
  stripes-slots [] = refl
  stripes-slots (s ∷ ss) = ap {B = List (StripeState V)} (λ l. s ∷ l) (stripes-slots ss)

  pub numbers-contents : (ss : List (StripeState V)) → numbers (contents_of ss) ≡ numbers_of ss
  numbers-contents [] = refl
  numbers-contents (x ∷ xs) = ap {B = List ℕ} (λ l. x.number ∷ l) (numbers-contents xs)

  pub length-numbers : (ss : List (StripeState V)) → length (numbers_of ss) ≡ length ss
  length-numbers [] = refl
  length-numbers (s ∷ ss) = ap suc (length-numbers ss)

  pub number_at : (ss : List (StripeState V)) (i : ℕ) → i < length ss → (stripe_at ss i).number ≡ get_or (numbers_of ss) i 0
  number_at [] i h = absurd (omega arith)
  number_at (s ∷ ss) zero h = refl
  number_at (s ∷ ss) (suc i) h = number_at ss i (omega arith)

  pub each_append : (n : ℕ) (xs : List (StripeState V)) (y : StripeState V) → EachOf n xs → y.s ≡ n → EachOf n (xs ++ y ∷ [])
  each_append n [] y a p = (p, tt)
  each_append n (x ∷ xs) y a p = (a.0, each_append n xs y a.1 p)

  -- a stripe was taken: it is before the others
  pub seated_take : (z : TableId) (v w : View V) (has : List (ℕ × StripeSlot V)) (t : ℕ) (stripe : StripeState V) → IsSeated z (v, has) → IsAbove t (numbers v.held) → t < z.slots → IsAtHome v.settings.s t stripe
      → w.settings ≡ v.settings → numbers w.held ≡ t ∷ numbers v.held → IsSeated z (w, (t, Some stripe) ∷ has)
  seated_take z v w has t stripe s above inside own settings held =
      let same : v.settings.s ≡ w.settings.s = sym (ap (λ (x : Settings). x.s) settings) in
      record {
        full = λ i. (sym own.0 i, Some stripe) ∷ s.full i;
        held = held ∙ λ i. sym own.0 i ∷ s.held i;
        falls = subst Falls (sym held) (above, s.falls);
        below = subst (IsAbove z.slots) (sym held) (λ u i. ⊎_elim (λ (h : t ≡ u). subst (λ x. x < z.slots) h inside) (λ r. s.below u r) i);
        one_s = subst (λ n. EachOf n (stripe ∷ stripes_in has)) same (own.1, s.one_s);
      }

  contents-slots : (ss : List (StripeState V)) → contents_in (map slot_of ss) ≡ contents_of ss
  contents-slots [] = refl
  contents-slots (s ∷ ss) = ap {B = Stripes V} (λ l. (s.number, s.content) ∷ l) (contents-slots ss)

  pub contents-turned : (slots : List (ℕ × StripeSlot V)) → reverse (contents_of (held_in slots)) ≡ contents_of (stripes_in slots)
  contents-turned slots = ap reverse (map-reverse (λ (x : StripeState V). (x.number, x.content)) (stripes_in slots)) ∙ reverse-reverse (contents_of (stripes_in slots))

  without_none : (t : ℕ) (hs : Stripes V) → ¬ (IsIn t (numbers hs)) → without t hs ≡ hs
  without_none t [] out = refl
  without_none t (h ∷ hs) out = if_else h.0 t (without t hs) (h ∷ without t hs) (λ e. out (inl e)) ∙ ap {B = Stripes V} (λ l. h ∷ l) (without_none t hs (λ i. out (inr i)))

  without-first : (t : ℕ) (c : Content V) (hs : Stripes V) → ¬ (IsIn t (numbers hs)) → without t ((t, c) ∷ hs) ≡ hs
  without-first t c hs out = if_same t t (without t hs) ((t, c) ∷ without t hs) refl ∙ without_none t hs out

  -- The stripe that a pass took last, number t.
  pub record Last (z : TableId) (v : View V) (has : List (ℕ × StripeSlot V)) (t : ℕ) : Type 0 where
    pub stripe : StripeState V
    pub out : List (ℕ × StripeSlot V)
    pub split : held_in has ≡ held_in out ++ stripe ∷ []
    pub own : (stripe.number ≡ t) × (stripe.s ≡ v.settings.s)
    pub front : has ≡ (t, Some stripe) ∷ out
    pub now : contents_in has ≡ reverse (contents_of (held_in has))
    pub first : reverse (contents_of (held_in has)) ≡ (t, stripe.content) ∷ reverse (contents_of (held_in out))
    pub inside : t < z.slots
    pub others : without t (reverse (contents_of (held_in has))) ≡ reverse (contents_of (held_in out))
    pub left : (w : View V) → w.settings ≡ v.settings → w.held ≡ reverse (contents_of (held_in out)) → IsSeated z (w, out)

  highest_first : (ss : List (StripeState V)) (t : ℕ) → IsHighest t (reverse ss) → (others : List ℕ) × (numbers_of ss ≡ t ∷ others)
  highest_first ss t h = (
    reverse h.0,
    sym (reverse-reverse (numbers_of ss)) ∙ (ap reverse (sym (map-reverse (λ (x : StripeState V). x.number) ss) ∙ h.1) ∙ reverse-append h.0 (t ∷ [])),
  )

  pub last : (z : TableId) (v : View V) (has : List (ℕ × StripeSlot V)) (t : ℕ) → IsSeated z (v, has) → IsHighest t (held_in has) → Last z v has t
  last z v [] t s h = absurd (let e = ap length h.1 in let l = length-append h.0 (t ∷ []) in omega arith)
  last z v (x ∷ xs) t s h =
      let stripe : StripeState V = stripe_in x in
      let behind : List (StripeState V) = stripes_in xs in
      let number : stripe.number ≡ t = ap (first_of {A = ℕ} t) (highest_first (stripe ∷ behind) t h).1 in
      let slot : x ≡ (t, Some stripe) = ap (first_of x) s.full ∙ λ i. (number i, Some stripe) in
      let falls : Falls (stripe.number ∷ numbers_of behind) = subst Falls s.held s.falls in
      let below : IsAbove z.slots (stripe.number ∷ numbers_of behind) = subst (IsAbove z.slots) s.held s.below in
      let first : reverse (contents_of (held_in (x ∷ xs))) ≡ (t, stripe.content) ∷ reverse (contents_of (held_in xs)) = contents-turned (x ∷ xs) ∙ λ i. (number i, stripe.content) ∷ sym (contents-turned xs) i in
      let nums : numbers (reverse (contents_of (held_in xs))) ≡ numbers_of behind = ap numbers (contents-turned xs) ∙ numbers-contents behind in
      let apart : ¬ (IsIn t (numbers (reverse (contents_of (held_in xs))))) = λ i. let l = falls.0 t (subst (IsIn t) nums i) in omega arith in
      record {
        stripe = stripe;
        out = xs;
        split = reverse-cons stripe behind;
        own = (number, s.one_s.0);
        front = λ i. slot i ∷ xs;
        now = ap contents_in s.full ∙ (contents-slots (stripe ∷ behind) ∙ sym (contents-turned (x ∷ xs)));
        first = first;
        inside = below t (inl number);
        others = ap (without t) first ∙ without-first t stripe.content (reverse (contents_of (held_in xs))) apart;
        left = λ w settings held.
            let told : numbers w.held ≡ numbers_of behind = ap numbers held ∙ nums in
            record {
              full = ap (drop 1) s.full;
              held = told;
              falls = subst Falls (sym told) falls.1;
              below = subst (IsAbove z.slots) (sym told) (λ u i. below u (inr i));
              one_s = subst (λ n. EachOf n behind) (sym (ap (λ (y : Settings). y.s) settings)) s.one_s.1;
            };
      }

  pub empty_seat : (slots : List (ℕ × StripeSlot V)) → slots ≡ map slot_of (stripes_in slots) → held_in slots ≡ [] → slots ≡ []
  empty_seat slots full none = full ∙ ap (map slot_of) (sym (reverse-reverse (stripes_in slots)) ∙ ap reverse none)

  -- the view changed in what doesn't concern the slots
  pub seated_view : (z z2 : TableId) (me me2 : Hand V) (w : View V) → IsSeated z me → w.held ≡ me.0.held → w.settings ≡ me.0.settings → z2 ≡ z → me2 ≡ (w, me.1) → IsSeated z2 me2
  seated_view z z2 me me2 w s held settings same is =
      let told : numbers w.held ≡ numbers me.0.held = ap numbers held in
      let new : IsSeated z (w, me.1) = record {
        full = s.full;
        held = told ∙ s.held;
        falls = subst Falls (sym told) s.falls;
        below = subst (IsAbove z.slots) (sym told) s.below;
        one_s = subst (λ n. EachOf n (stripes_in me.1)) (sym (ap (λ (x : Settings). x.s) settings)) s.one_s;
      } in
      subst (λ (x : TableId × Hand V). IsSeated x.0 x.1) (λ i. (sym same i, sym is i)) new

  -- a pass whose seat alone changed
  pub ready_on : {z z2 : TableId} {me me2 : Hand V} {list : List (StripeState V)} {capacity : ℕ} → IsReady z me list capacity → z2 ≡ z → IsSeated z2 me2 → IsReady z2 me2 list capacity
  ready_on {z} {z2} {me} {me2} {list} {capacity} r same s = record { seated = s; empty = r.empty; room = subst (λ (x : TableId). x.slots ≤ capacity) (sym same) r.room }

  -- a pass that holds nothing
  pub seated_none : (z : TableId) (me : Hand V) → me.1 ≡ [] → me.0.held ≡ [] → IsSeated z me
  seated_none z me none held =
      let told : [] ≡ numbers me.0.held = sym (ap numbers held) in
      let new : IsSeated z (me.0, []) = record { full = refl; held = sym told; falls = subst Falls told tt; below = subst (IsAbove z.slots) told (λ u i. absurd i); one_s = tt } in
      subst (λ (x : Hand V). IsSeated z x) (λ i. (me.0, sym none i)) new
