-- One of the slots is brought to the front, and back.
use Rattle.std.proofs.Common.{◌≡◌, ℕ, suc, zero, ◌+◌, ◌-◌, ◌<◌, List, [], ◌∷◌, ◌++◌, map, length, set, reverse, append-nil, append_assoc, refl, sym, ap, ◌∙◌, subst, length-append, arith, Some}
use Rattle.atomic_table.specs.Table.{rest, turned}
use Rattle.atomic_table.specs.Seated.{TableId}
use Rattle.std.proofs.lemmas.List.{reverse-append, reverse-reverse, length-reverse}
use Rattle.ck_core.specs.declared.view.View.{View}
use Rattle.ck_stripe.specs.Stripe.{StripeState}
use Rattle.ck_stripe.specs.Stripes.{stripe_at}
use Rattle.ck_words.specs.Rule.{StripeSlot, Hand}
use Rattle.ck_words.specs.Passes.{PassState, EachOf, IsSeated, rotated, slot_of, state_of, stripes_in, held_in, numbers_of}
use Rattle.ck_words.specs.InPlace.{StripeSeat, HoldsAt, Brings, Puts}
use Rattle.ck_words.proofs.Reversed.{map-append, map-reverse, reverse-cons}
use Rattle.ck_words.proofs.Seating.{stripes-slots}

module _ {A : Type 0} where
  rotated-turned : (n : ℕ) (l : List (ℕ × A)) → rotated n (turned l) ≡ turned (rotated n l)
  rotated-turned zero l = refl
  rotated-turned (suc n) l = ap turned (rotated-turned n l)

  pub rotated-append : (xs ys : List (ℕ × A)) → rotated (length xs) (xs ++ ys) ≡ ys ++ xs
  rotated-append [] ys = sym (append-nil ys)
  rotated-append (x ∷ xs) ys = sym (rotated-turned (length xs) (x ∷ (xs ++ ys))) ∙ (ap (rotated (length xs)) (append_assoc xs ys (x ∷ [])) ∙ (rotated-append xs (ys ++ x ∷ []) ∙ append_assoc ys (x ∷ []) xs))

module _ {V : Type 0} where
  -- where stripe i is
  record Spot (ss : List (StripeState V)) (i : ℕ) : Type 0 where
    before : List (StripeState V)
    here : StripeState V
    behind : List (StripeState V)
    split : ss ≡ before ++ here ∷ behind
    at : length before ≡ i

  spot : (ss : List (StripeState V)) (i : ℕ) → i < length ss → Spot ss i
  spot [] i h = absurd (omega arith)
  spot (s ∷ ss) zero h = record { before = []; here = s; behind = ss; split = refl; at = refl }
  spot (s ∷ ss) (suc i) h = let p = spot ss i (omega arith) in record { before = s ∷ p.before; here = p.here; behind = p.behind; split = ap (λ l. s ∷ l) p.split; at = ap suc p.at }

  at-here : (xs : List (StripeState V)) (z : StripeState V) (ys : List (StripeState V)) → stripe_at (xs ++ z ∷ ys) (length xs) ≡ z
  at-here [] z ys = refl
  at-here (x ∷ xs) z ys = at-here xs z ys

  set-here : (xs : List (StripeState V)) (y z : StripeState V) (ys : List (StripeState V)) → xs ++ z ∷ ys ≡ set (xs ++ y ∷ ys) (length xs) z
  set-here [] y z ys = refl
  set-here (x ∷ xs) y z ys = ap (λ l. x ∷ l) (set-here xs y z ys)

  numbers-here : (xs : List (StripeState V)) (y z : StripeState V) (ys : List (StripeState V)) → z.number ≡ y.number → numbers_of (xs ++ z ∷ ys) ≡ numbers_of (xs ++ y ∷ ys)
  numbers-here [] y z ys e = ap (λ n. n ∷ numbers_of ys) e
  numbers-here (x ∷ xs) y z ys e = ap {B = List ℕ} (λ l. x.number ∷ l) (numbers-here xs y z ys e)

  each-here : (s : ℕ) (xs : List (StripeState V)) (y z : StripeState V) (ys : List (StripeState V)) → z.s ≡ y.s → EachOf s (xs ++ y ∷ ys) → EachOf s (xs ++ z ∷ ys)
  each-here s [] y z ys e a = (e ∙ a.0, a.1)
  each-here s (x ∷ xs) y z ys e a = (a.0, each-here s xs y z ys e a.1)

  reverse-around : (xs : List (StripeState V)) (z : StripeState V) (ys : List (StripeState V)) → reverse (xs ++ z ∷ ys) ≡ reverse ys ++ z ∷ reverse xs
  reverse-around xs z ys = reverse-append xs (z ∷ ys) ∙ (ap (λ (l : List (StripeState V)). l ++ reverse xs) (reverse-cons z ys) ∙ append_assoc (reverse ys) (z ∷ []) (reverse xs))

  count-slots : (ss : List (StripeState V)) → length (map slot_of ss) ≡ length ss
  count-slots [] = refl
  count-slots (s ∷ ss) = ap suc (count-slots ss)

  -- the slots of stripes xs, z and ys, and what is left of them when z comes first
  abbrev slots_of : List (StripeState V) → StripeState V → List (StripeState V) → List (ℕ × StripeSlot V)
  slots_of xs z ys = map slot_of (reverse ys ++ z ∷ reverse xs)

  abbrev others_of : List (StripeState V) → List (StripeState V) → List (ℕ × StripeSlot V)
  others_of xs ys = map slot_of (reverse xs) ++ map slot_of (reverse ys)

  come : (xs : List (StripeState V)) (z : StripeState V) (ys : List (StripeState V)) (n : ℕ) → n ≡ length ys → rotated n (slots_of xs z ys) ≡ slot_of z ∷ others_of xs ys
  come xs z ys n count =
      let same : n ≡ length (map slot_of (reverse ys)) = count ∙ sym (count-slots (reverse ys) ∙ length-reverse ys) in
      (λ j. rotated (same j) (map-append slot_of (reverse ys) (z ∷ reverse xs) j)) ∙ rotated-append (map slot_of (reverse ys)) (slot_of z ∷ map slot_of (reverse xs))

  go : (xs : List (StripeState V)) (z : StripeState V) (ys : List (StripeState V)) (n : ℕ) → n ≡ length xs + 1 → rotated n (slot_of z ∷ others_of xs ys) ≡ slots_of xs z ys
  go xs z ys n count =
      let same : n ≡ length (slot_of z ∷ map slot_of (reverse xs)) = (let c = count-slots (reverse xs) in let r = length-reverse xs in omega arith) in
      ap (λ m. rotated m (slot_of z ∷ others_of xs ys)) same ∙ (rotated-append (slot_of z ∷ map slot_of (reverse xs)) (map slot_of (reverse ys)) ∙ sym (map-append slot_of (reverse ys) (z ∷ reverse xs)))

  held-slots : (xs : List (StripeState V)) (z : StripeState V) (ys : List (StripeState V)) → held_in (slots_of xs z ys) ≡ xs ++ z ∷ ys
  held-slots xs z ys = ap reverse (stripes-slots (reverse ys ++ z ∷ reverse xs) ∙ sym (reverse-around xs z ys)) ∙ reverse-reverse (xs ++ z ∷ ys)

  -- the slots with another stripe of that number
  put : (old after : StripeSeat V) (xs : List (StripeState V)) (y z : StripeState V) (ys : List (StripeState V)) (i : ℕ) → old.me.1 ≡ slots_of xs y ys → length xs ≡ i → z.number ≡ y.number → z.s ≡ y.s
      → after.table_id ≡ old.table_id → after.me ≡ (old.me.0, slots_of xs z ys) → Puts i z old after
  put old after xs y z ys i was at number same_s table me =
      let slots : slots_of xs z ys ≡ after.me.1 = sym (ap (λ (m : Hand V). m.1) me) in
      let before : stripes_in old.me.1 ≡ reverse ys ++ y ∷ reverse xs = ap stripes_in was ∙ stripes-slots (reverse ys ++ y ∷ reverse xs) in
      let now : reverse ys ++ z ∷ reverse xs ≡ stripes_in after.me.1 = sym (stripes-slots (reverse ys ++ z ∷ reverse xs)) ∙ ap stripes_in slots in
      record {
        stripes = sym (ap held_in slots) ∙ (held-slots xs z ys ∙ (set-here xs y z ys ∙ λ j. set ((sym (held-slots xs y ys) ∙ sym (ap held_in was)) j) (at j) z));
        full = sym slots ∙ ap (map slot_of) now;
        numbered = ap numbers_of (sym now) ∙ (numbers-here (reverse ys) y z (reverse xs) number ∙ ap numbers_of (sym before));
        each_of = λ s a. subst (EachOf s) now (each-here s (reverse ys) y z (reverse xs) same_s (subst (EachOf s) before a));
        table = table;
        view = ap (λ (m : Hand V). m.0) me;
      }

  pub brings : (table : TableId) (n i t : ℕ) (old new : StripeSeat V) → HoldsAt table n i t old → new.table_id ≡ old.table_id → new.me ≡ (old.me.0, rotated (n - 1 - i) old.me.1) → Brings i t old new
  brings table n i t old new h same me =
      let count = h.count in
      let inside = h.inside in
      let p = spot (held_in old.me.1) i (omega arith) in
      let here : stripe_at (held_in old.me.1) i ≡ p.here = (λ j. stripe_at (p.split j) (sym p.at j)) ∙ at-here p.before p.here p.behind in
      let number : p.here.number ≡ t = ap (λ (s : StripeState V). s.number) (sym here) ∙ h.number in
      let was : old.me.1 ≡ slots_of p.before p.here p.behind = h.full ∙ ap (map slot_of) (sym (reverse-reverse (stripes_in old.me.1)) ∙ (ap reverse p.split ∙ reverse-around p.before p.here p.behind)) in
      let left : n - 1 - i ≡ length p.behind = (let a = length-append p.before (p.here ∷ p.behind) in let b = ap length p.split in let d = p.at in omega arith) in
      let come_first : new.me.1 ≡ slot_of p.here ∷ others_of p.before p.behind = ap (λ (m : Hand V). m.1) me ∙ ((λ j. rotated (n - 1 - i) (was j)) ∙ come p.before p.here p.behind (n - 1 - i) left) in
      let others : rest new.me.1 ≡ others_of p.before p.behind = ap rest come_first in
      record {
        table = same;
        front = come_first ∙ λ j. (number j, Some (sym here j)) ∷ sym others j;
        back = λ stripe after own own_s table_after me_after.
            let slot : (t, Some stripe) ≡ slot_of stripe = λ j. (sym (own ∙ h.number) j, Some stripe) in
            let gone : rotated (i + 1) ((t, Some stripe) ∷ rest new.me.1) ≡ slots_of p.before stripe p.behind = (λ j. rotated (i + 1) (slot j ∷ others j)) ∙ go p.before stripe p.behind (i + 1) (let d = p.at in omega arith) in
            put old after p.before p.here stripe p.behind i was p.at (own ∙ ap (λ (s : StripeState V). s.number) here) (own_s ∙ ap (λ (s : StripeState V). s.s) here) (table_after ∙ same)
            (me_after ∙ λ j. (ap (λ (m : Hand V). m.0) me j, gone j));
      }

  -- the stripe that was brought to the front went back, with what was made of it
  pub puts : (i t : ℕ) (old new after : StripeSeat V) (made stripe : StripeState V) → Brings i t old new → stripe.number ≡ (stripe_at (held_in old.me.1) i).number → stripe.s ≡ (stripe_at (held_in old.me.1) i).s → made ≡ stripe
      → after.table_id ≡ new.table_id → after.me ≡ (new.me.0, rotated (i + 1) ((t, Some made) ∷ rest new.me.1)) → Puts i stripe old after
  puts i t old new after made stripe b number own_s is table me = b.back stripe after number own_s table (me ∙ λ j. (new.me.0, rotated (i + 1) ((t, Some (is j)) ∷ rest new.me.1)))

  -- a pass after an act on one of its stripes
  pub seated_puts : (old new : StripeSeat V) (i : ℕ) (stripe : StripeState V) → Puts i stripe old new → IsSeated old.table_id old.me → IsSeated new.table_id new.me
  seated_puts old new i stripe p s =
      let next : IsSeated old.table_id (old.me.0, new.me.1) = record { full = p.full; held = s.held ∙ sym p.numbered; falls = s.falls; below = s.below; one_s = p.each_of old.me.0.settings.s s.one_s } in
      subst (λ (x : TableId × View V). IsSeated x.0 (x.1, new.me.1)) (λ j. (sym p.table j, sym p.view j)) next

  pub same_numbers : (old new : StripeSeat V) (i : ℕ) (stripe : StripeState V) → Puts i stripe old new → numbers_of (held_in new.me.1) ≡ numbers_of (held_in old.me.1)
  same_numbers old new i stripe p =
      let number : StripeState V → ℕ = λ s. s.number in
      map-reverse number (stripes_in new.me.1) ∙ (ap reverse p.numbered ∙ sym (map-reverse number (stripes_in old.me.1)))

  -- stripe i of those that the pass has
  pub stands_at : (seat : StripeSeat V) (p : PassState V) (table : TableId) (n i t : ℕ) → IsSeated seat.table_id seat.me → state_of seat.table_id seat.me ≡ p → p.table ≡ table → length p.stripes ≡ n → i < n → (stripe_at p.stripes i).number ≡ t
      → HoldsAt table n i t seat
  stands_at seat p table n i t s is own count inside number = record {
    own = ap (λ (q : PassState V). q.table) is ∙ own;
    full = s.full;
    count = ap (λ (q : PassState V). length q.stripes) is ∙ count;
    inside = inside;
    number = ap (λ (q : PassState V). (stripe_at q.stripes i).number) is ∙ number;
  }

  pub room_of : (old here new : StripeState V) → old ≡ here → new ≡ record here { room = new.room } → new ≡ record old { room = new.room }
  room_of old here new same is = is ∙ λ j. record (sym same j) { room = new.room }

  set-at : (ss : List (StripeState V)) (i : ℕ) (x : StripeState V) → i < length ss → stripe_at (set ss i x) i ≡ x
  set-at [] i x h = absurd (omega arith)
  set-at (s ∷ ss) zero x h = refl
  set-at (s ∷ ss) (suc i) x h = set-at ss i x (omega arith)

  -- the stripe that was put
  pub put_here : (old new : StripeSeat V) (i : ℕ) (stripe : StripeState V) → i < length (held_in old.me.1) → Puts i stripe old new → stripe_at (held_in new.me.1) i ≡ stripe
  put_here old new i stripe h p = ap (λ (l : List (StripeState V)). stripe_at l i) p.stripes ∙ set-at (held_in old.me.1) i stripe h
