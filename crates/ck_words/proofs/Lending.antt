-- The stripes of a pass are lent to calls.
use Rattle.std.proofs.Common.{◌≡◌, ℕ, ◌%◌, ◌^◌, ◌<◌, List, [], ◌∷◌, zero, suc, length, get_or, reverse, refl, sym, ap, ◌∙◌, subst, arith}
use Rattle.std.specs.Prelude.{slice_set}
use Rattle.std.proofs.lemmas.List.{get_or_default, length-set}
use Rattle.ck_model.specs.Numbered.{IsIn, numbers}
use Rattle.ck_stripe.specs.Stripe.{StripeState}
use Rattle.ck_stripe.specs.Stripes.{no_stripe, stripe_at, contents_of}
use Rattle.ck_stripe.specs.Numbered.{IsSame}
use Rattle.ck_words.specs.Words.{WordsState}
use Rattle.ck_words.specs.Passes.{PassState, EachOf, IsSeated, IsPassOf, stripes_in, held_in, state_of, numbers_of}
use Rattle.ck_words.specs.InPlace.{StripeSeat, HoldsAt, Puts}
use Rattle.ck_words.proofs.Settling.{counts, named}
use Rattle.ck_words.proofs.Reversed.{reverse-cons, map-reverse, in_of_reverse}
use Rattle.ck_words.proofs.Seating.{each_append, numbers-contents}
use Rattle.ck_words.proofs.Taking.{in_list}
use Rattle.ck_words.proofs.Turning.{stands_at, same_numbers, put_here}

module _ {V : Type 0} where
  each_reverse : (n : ℕ) (ss : List (StripeState V)) → EachOf n ss → EachOf n (reverse ss)
  each_reverse n [] e = tt
  each_reverse n (s ∷ ss) e = subst (EachOf n) (sym (reverse-cons s ss)) (each_append n (reverse ss) s (each_reverse n ss e.1) e.0)

  pub each_at : (n : ℕ) (ss : List (StripeState V)) → EachOf n ss → (i : ℕ) → i < length ss → (stripe_at ss i).s ≡ n
  each_at n [] e i h = absurd (omega arith)
  each_at n (s ∷ ss) e zero h = e.0
  each_at n (s ∷ ss) e (suc i) h = each_at n ss e.1 i (omega arith)

module _ {V : Type 0} (old : StripeSeat V) (p : PassState V) (is : state_of old.table_id old.me ≡ p) (w : WordsState) (own : IsPassOf w p) (ns : List ℕ) (numbered : numbers_of p.stripes ≡ ns) where
  -- stripe i of the pass is the one of the i-th number
  pub lends : (view : WordsState) (i n t : ℕ) → view ≡ w → IsSeated old.table_id old.me → i < length p.stripes → n ≡ length ns → t ≡ get_or ns i 0 → HoldsAt view.table n i t old
  lends view i n t same s inside count number =
      let all = counts p ns numbered in
      stands_at old p view.table n i t s is (own.0 ∙ sym (ap (λ (x : WordsState). x.table) same)) (omega arith) (omega arith) (named p ns i numbered (omega arith) ∙ sym number)

  -- stripe i of the pass is the one that has this bucket
  pub lends_own : (view : WordsState) (i n t b s : ℕ) → view ≡ w → IsSeated old.table_id old.me → n ≡ length ns → s ≡ w.settings.s → i < length p.stripes → (stripe_at p.stripes i).number ≡ b % 2 ^ (stripe_at p.stripes i).s → t ≡ b % 2 ^ s
      → HoldsAt view.table n i t old
  lends_own view i n t b s same seated count is_s inside has number =
      let all = counts p ns numbered in
      let each : EachOf old.me.0.settings.s p.stripes = subst (λ (q : PassState V). EachOf old.me.0.settings.s q.stripes) is (each_reverse old.me.0.settings.s (stripes_in old.me.1) seated.one_s) in
      let one : old.me.0.settings.s ≡ w.settings.s = ap (λ (q : PassState V). q.view.settings.s) is ∙ ap (λ set. set.s) own.1 in
      let of : (stripe_at p.stripes i).s ≡ s = each_at old.me.0.settings.s p.stripes each i inside ∙ (one ∙ sym is_s) in
      stands_at old p view.table n i t seated is (own.0 ∙ sym (ap (λ (x : WordsState). x.table) same)) (omega arith) (omega arith) (has ∙ (ap (λ m. b % 2 ^ m) of ∙ sym number))

  -- the numbers are below that of the slots
  pub lent_below : (i t : ℕ) → IsSeated old.table_id old.me → i < length ns → t ≡ get_or ns i 0 → t < old.table_id.slots
  lent_below i t seated inside number =
      let xs : List (StripeState V) = stripes_in old.me.1 in
      let same : ns ≡ numbers (reverse (contents_of xs)) = sym numbered ∙ (sym (ap (λ (q : PassState V). numbers_of q.stripes) is) ∙ (sym (numbers-contents (reverse xs)) ∙ ap numbers (map-reverse (λ (s : StripeState V). (s.number, s.content)) xs))) in
      let there : IsIn t (numbers (reverse (contents_of xs))) = subst (IsIn t) same (subst (λ u. IsIn u ns) (sym number) (in_list ns i inside)) in
      seated.below t (subst (IsIn t) (numbers-contents xs ∙ sym seated.held) (in_of_reverse (contents_of xs) t there))

  module _ (new : StripeSeat V) (i : ℕ) (stripe : StripeState V) (puts : Puts i stripe old new) where
    pub still_own : IsPassOf w (state_of new.table_id new.me)
    still_own = subst (IsPassOf w) (sym (λ i. record { table = (puts.table ∙ ap (λ (q : PassState V). q.table) is) i; view = (puts.view ∙ ap (λ (q : PassState V). q.view) is) i; stripes = held_in new.me.1 })) own

    pub still_numbered : numbers_of (state_of new.table_id new.me).stripes ≡ ns
    still_numbered = same_numbers old new i stripe puts ∙ (ap (λ (q : PassState V). numbers_of q.stripes) is ∙ numbered)

    -- what is known of stripes that are lent
    pub still_lent : {T : Type 0} → T → record { own : IsPassOf w (state_of new.table_id new.me); numbered : numbers_of (state_of new.table_id new.me).stripes ≡ ns; of_table : T }
    still_lent of_table = record { own = still_own; numbered = still_numbered; of_table = of_table }

-- what is asked of a visitor that comes to stripe i of the pass: it may come, and the stripe keeps its number
module _ {V R : Type 0} (may : StripeState V → Type 0) (does : StripeState V → R → StripeState V → Type 0) where
  abbrev Keeps : StripeState V → Type 0
  Keeps t = (r : R) (after : StripeState V) → does t r after → IsSame (λ (x : StripeState V). x.number) (λ (x : StripeState V). x.s) t after

  pub may_visit : {S : Type 0} → S → (old : StripeSeat V) (p : PassState V) → state_of old.table_id old.me ≡ p → (i : ℕ) → may (stripe_at p.stripes i) → Keeps (stripe_at p.stripes i)
      → record { seat : S; may : may (stripe_at (held_in old.me.1) i); keeps : Keeps (stripe_at (held_in old.me.1) i) }
  may_visit seat old p is i comes keeps =
      let there : stripe_at p.stripes i ≡ stripe_at (held_in old.me.1) i = ap (λ (q : PassState V). stripe_at q.stripes i) (sym is) in
      record { seat = seat; may = subst may there comes; keeps = subst Keeps there keeps }

-- a visitor at stripe i left this one there
module _ {V : Type 0} (old new : StripeSeat V) (p : PassState V) (is : state_of old.table_id old.me ≡ p) (i : ℕ) (inside : i < length p.stripes) (after : StripeState V) (puts : Puts i after old new) where
  found_there : (d : StripeState V) → stripe_at (held_in old.me.1) i ≡ get_or p.stripes i d
  found_there d = ap (λ (q : PassState V). stripe_at q.stripes i) is ∙ get_or_default p.stripes i no_stripe d inside

  left_there : (d : StripeState V) → after ≡ get_or (held_in new.me.1) i d
  left_there d =
      let before : i < length (held_in old.me.1) = subst (λ (q : PassState V). i < length q.stripes) (sym is) inside in
      let count : length (held_in new.me.1) ≡ length (held_in old.me.1) = ap length puts.stripes ∙ length-set (held_in old.me.1) i after in
      sym (put_here old new i after before puts) ∙ get_or_default (held_in new.me.1) i no_stripe d (omega arith)

  -- what the visit leaves; x, y, z and w are not of the seat
  pub visited_there : {X Y Z W : Type 0} (x : X) (y : Y) (z : Z) (w : W) (does : StripeState V → StripeState V → Type 0) → does (stripe_at (held_in old.me.1) i) after → record {
    visited : (d : StripeState V) → does (get_or p.stripes i d) (get_or (held_in new.me.1) i d);
    others : (d : StripeState V) → held_in new.me.1 ≡ slice_set p.stripes i (get_or (held_in new.me.1) i d);
    stays : (x ≡ x) × (new.me.0 ≡ p.view) × (new.table_id ≡ p.table) × (y ≡ y) × (z ≡ z) × (w ≡ w);
  }
  visited_there x y z w does did = record {
    visited = λ d. subst (λ (z : StripeState V × StripeState V). does z.0 z.1) (λ j. (found_there d j, left_there d j)) did;
    others = λ d. puts.stripes ∙ λ j. slice_set (is j).stripes i (left_there d j);
    stays = (refl, puts.view ∙ ap (λ (q : PassState V). q.view) is, puts.table ∙ ap (λ (q : PassState V). q.table) is, refl, refl, refl);
  }
