-- The hops of a path, from its end backwards: what each finds, and what it leaves of the path.
use Rattle.std.proofs.Common.{◌≡◌, ◌≢◌, ℕ, suc, ◌+◌, ◌-◌, ◌*◌, ◌/◌, ◌%◌, ◌^◌, ◌<◌, ◌≤◌, true, IsTrue, List, [], ◌∷◌, ◌++◌, Some, None, length, map, drop, get_or, reverse, add-one, refl, sym, ◌∙◌, ap, subst}
use mathlib.Core.Logic.{dite}
use native.Mathlib.Decide.{ℕ_discrete}
use Rattle.std.specs.Prelude.{slice_get, slice_set}
use Rattle.std.proofs.lemmas.List.{length-set, length-map, get_or-set_same, get_or-set_other, drop_all}
use Rattle.std.proofs.lemmas.Grind.{reverse_onto}
use Rattle.std.proofs.Math.Seq.{drop-cons}
use Rattle.std.proofs.lemmas.Nat.{div-add-mod'}
use Rattle.ck_model.specs.declared.path_hop.PathHop.{PathHop}
use Rattle.ck_model.specs.declared.contents.Content.{Content}
use Rattle.ck_model.specs.Arithmetic.{alternate_of}
use Rattle.ck_model.specs.Promise.{Name}
use Rattle.ck_model.specs.Slots.{Slot, HasFree}
use Rattle.ck_model.specs.Contents.{row_at}
use Rattle.ck_model.specs.Sketches.{Sketch, has_free, IsSketchPathFrom}
use Rattle.ck_model.proofs.Buckets.{alternate_below}
use Rattle.ck_model.proofs.Sketches.{free_of, full_of}
use Rattle.ck_model.proofs.Writes.{row_inside, slot_inside}
use Rattle.ck_model.specs.Paths.{partial_in}
use Rattle.ck_path.specs.Route.{Route, first_bucket, AreLinked, IsLinked, Avoids, VisitsOnce}
use Rattle.ck_path.proofs.Shown.{free_shown, free_there, entry_there}
use Rattle.ck_stripe.specs.Stripe.{StripeState, bucket_of, with_slot}
use Rattle.ck_section.specs.declared.hop.Hop.{Hop}
use Rattle.ck_stripe.specs.declared.held_slot.HeldSlot.{HeldSlot}
use Rattle.ck_stripe.specs.Stripes.{no_stripe, stripe_at, bucket_at}
use Rattle.ck_stripe.specs.HeldSlots.{slot_in, set_slot}
use Rattle.ck_stripe.specs.Tables.{AreAllHeld}
use Rattle.ck_section.specs.Hops.{source_in, IsHopIn, CanHop, Hops, lifted}
use Rattle.ck_section.specs.Room.{HaveFour, sketch_of}
use Rattle.ck_section.proofs.Found.{set_here}
use Rattle.ck_section.proofs.Rebinding.{keeps_s}
use Rattle.ck_section.proofs.Hopped.{hop_between}

-- the hop of a table of 2^p buckets
abbrev pub hop_of : ℕ → PathHop → ℕ → Hop
hop_of p h t = record { power = p; bucket = h.bucket; slot = h.slot; partial = h.partial; target = t }

-- a bucket that is not one of these
avoids_last : (b : ℕ) (hs : List PathHop) (h : PathHop) (t : ℕ) → Avoids b (hs ++ (h ∷ [])) t → (b ≢ h.bucket) × (b ≢ t) × Avoids b hs h.bucket
avoids_last b [] h t avoids = (avoids.0, avoids.1, avoids.0)
avoids_last b (g ∷ gs) h t avoids = let z = avoids_last b gs h t avoids.1 in (z.0, z.1, (avoids.0, z.2))

-- the last of some hops, and the bucket to which it goes
pub record IsLastHop (p : ℕ) (sketches : ℕ → Sketch) (h : PathHop) (t : ℕ) : Type 0 where
  pub below : h.bucket < 2 ^ p
  pub target : t ≡ alternate_of p h.partial h.bucket
  pub apart : h.bucket ≢ t
  pub entry : slice_get (sketches h.bucket) h.slot ≡ Some (Some h.partial)
  pub four : length (sketches h.bucket) ≡ 4
  pub free : IsTrue (has_free (sketches t))
  pub four_there : length (sketches t) ≡ 4

pub last_hop : (p : ℕ) (sketches : ℕ → Sketch) (b : ℕ) (hs : List PathHop) (h : PathHop) (t : ℕ) → b < 2 ^ p → IsSketchPathFrom p sketches b (hs ++ (h ∷ [])) t → VisitsOnce (hs ++ (h ∷ [])) t
    → HaveFour sketches (hs ++ (h ∷ [])) t → IsLastHop p sketches h t
last_hop p sketches b [] h t below path once four = record {
  below = subst (λ n. n < 2 ^ p) (sym path.0) below;
  target = sym path.2.0 ∙ ap (alternate_of p h.partial) (sym path.0);
  apart = once.0;
  entry = subst (λ n. slice_get (sketches n) h.slot ≡ Some (Some h.partial)) (sym path.0) (full_of (sketches b) h.slot (Some h.partial) path.1).1;
  four = four.0;
  free = subst (λ n. IsTrue (has_free (sketches n))) path.2.0 (free_of (sketches (alternate_of p h.partial b)) path.2.1);
  four_there = four.1;
}
last_hop p sketches b (g ∷ gs) h t below path once four = last_hop p sketches (alternate_of p g.partial b) gs h t (alternate_below p g.partial b) path.2 once.1 four.1

-- What is left of a path whose last hop was carried out: it ends at the bucket that the hop has left.
pub record IsLeft (p : ℕ) (sketches : ℕ → Sketch) (b : ℕ) (hs : List PathHop) (t : ℕ) : Type 0 where
  pub path : IsSketchPathFrom p sketches b hs t
  pub once : VisitsOnce hs t
  pub four : HaveFour sketches hs t

pub hop_left : (p : ℕ) (before after : ℕ → Sketch) (b : ℕ) (hs : List PathHop) (h : PathHop) (t : ℕ) → ((c : ℕ) → c ≢ h.bucket → c ≢ t → after c ≡ before c) → IsTrue (has_free (after h.bucket)) → length (after h.bucket) ≡ 4
    → IsLeft p before b (hs ++ (h ∷ [])) t → IsLeft p after b hs h.bucket
hop_left p before after b [] h t others free four left = record {
  path = (sym left.path.0, (after b, refl, subst (λ n. IsTrue (has_free (after n))) left.path.0 free));
  once = tt;
  four = four;
}
hop_left p before after b (g ∷ gs) h t others free four left =
    let next : ℕ = alternate_of p g.partial b in
    let rest : IsLeft p after next gs h.bucket = hop_left p before after next gs h t others free four (record { path = left.path.2; once = left.once.1; four = left.four.1 }) in
    let far = avoids_last g.bucket gs h t left.once.0 in
    let same : after g.bucket ≡ before g.bucket = others g.bucket far.0 far.1 in
    let same_b : after b ≡ before b = subst (λ n. after n ≡ before n) left.path.0 same in
    record {
      path = (
        left.path.0,
        (left.path.1.0, same_b ∙ left.path.1.1, left.path.1.2, left.path.1.3),
        rest.path,
      );
      once = (far.2, rest.once);
      four = (ap (λ (k : Sketch). length k) same ∙ left.four.0, rest.four);
    }

module _ {V : Type 0} where
  -- another bucket than the one that is written stays as it is
  bucket_other : (stripes : List (StripeState V)) (at : HeldSlot) → at.index < length stripes → (x : Slot V) (n s : ℕ) → (stripe_at stripes at.index).s ≡ s → at.index ≡ at.bucket % 2 ^ s
      → (c : ℕ) → c ≢ at.bucket → bucket_at (set_slot stripes at x n) (c % 2 ^ s) c ≡ bucket_at stripes (c % 2 ^ s) c
  bucket_other stripes at inside x n s e own c ne =
      let t : StripeState V = stripe_at stripes at.index in
      let content : Content V = with_slot t at.bucket at.slot x n in
      let i : ℕ = c % 2 ^ s in
      dite (ℕ_discrete i at.index)
      (λ same. let row : c / 2 ^ t.s ≢ at.bucket / 2 ^ t.s = λ f. ne (
      sym (div-add-mod' c (2 ^ s))
      ∙ (λ z. (ap (λ m. c / 2 ^ m) (sym e) ∙ f ∙ ap (λ m. at.bucket / 2 ^ m) e) z * 2 ^ s + (same ∙ own) z)
      ∙ div-add-mod' at.bucket (2 ^ s)) in
      let left : bucket_at (set_slot stripes at x n) i c ≡ row_at content.rows (c / 2 ^ t.s) = ap (λ j. bucket_at (set_slot stripes at x n) j c) same ∙ ap (λ (u : StripeState V). bucket_of u c) (set_here stripes at.index content inside) in
      let right : bucket_at stripes i c ≡ row_at t.content.rows (c / 2 ^ t.s) = ap (λ j. bucket_at stripes j c) same in
      left ∙ get_or-set_other t.content.rows (at.bucket / 2 ^ t.s) (c / 2 ^ t.s) (slice_set (bucket_of t at.bucket) at.slot x) [] row ∙ sym right)
      (λ ne. ap (λ (u : StripeState V). bucket_of u c) (get_or-set_other stripes at.index i (record t { content = content }) no_stripe ne))

  -- the bucket that is written, of which a slot was taken
  bucket_here : (stripes : List (StripeState V)) (at : HeldSlot) → at.index < length stripes → (x : Slot V) (n : ℕ) (e : Name × V) → slot_in stripes at ≡ Some e
      → bucket_at (set_slot stripes at x n) at.index at.bucket ≡ slice_set (bucket_at stripes at.index at.bucket) at.slot x
  bucket_here stripes at inside x n e is =
      let t : StripeState V = stripe_at stripes at.index in
      let content : Content V = with_slot t at.bucket at.slot x n in
      let r : ℕ = at.bucket / 2 ^ t.s in
      ap (λ (u : StripeState V). bucket_of u at.bucket) (set_here stripes at.index content inside)
      ∙ get_or-set_same t.content.rows r (slice_set (bucket_of t at.bucket) at.slot x) [] (row_inside t.content.rows r at.slot e is)

  module _ (hash : Name → ℕ) (s : ℕ) (old new : List (StripeState V)) (all : AreAllHeld s old) (hop : Hop) (apart : hop.bucket ≢ hop.target)
      (first : hop.bucket % 2 ^ s < length old) (second : hop.target % 2 ^ s < length old) (hops : Hops old (hop.bucket % 2 ^ s) (hop.target % 2 ^ s) hop new) where
    abbrev i : ℕ
    i = hop.bucket % 2 ^ s

    abbrev from : HeldSlot
    from = source_in i hop

    abbrev mid : List (StripeState V)
    mid = lifted old i hop

    in_mid : hops.to.index < length mid
    in_mid = subst (λ (z : ℕ × ℕ). z.0 < z.1) (λ k. (sym hops.index k, sym (length-set old i (record (stripe_at old i) { content = with_slot (stripe_at old i) hop.bucket hop.slot None ((stripe_at old i).content.ledger - 1) })) k)) second

    s_mid : (stripe_at mid hops.to.index).s ≡ s
    s_mid = keeps_s old from first None _ hops.to.index ∙ ap (λ n. (stripe_at old n).s) hops.index ∙ all.table.one_s (hop.target % 2 ^ s) second

    own_mid : hops.to.index ≡ hops.to.bucket % 2 ^ s
    own_mid = hops.index ∙ ap (λ n. n % 2 ^ s) (sym hops.bucket)

    after_mid : (c : ℕ) → c ≢ hop.target → bucket_at new (c % 2 ^ s) c ≡ bucket_at mid (c % 2 ^ s) c
    after_mid c ne =
        ap (λ (l : List (StripeState V)). bucket_at l (c % 2 ^ s) c) hops.moved
        ∙ bucket_other mid hops.to in_mid (Some (hops.name, hops.value)) _ s s_mid own_mid c (λ e. ne (e ∙ hops.bucket))

    -- Of the buckets the two of the hop alone change,
    pub others_stay : (c : ℕ) → c ≢ hop.bucket → c ≢ hop.target → sketch_of hash s new c ≡ sketch_of hash s old c
    others_stay c ne nt = ap (map (partial_in hash)) (after_mid c nt ∙ bucket_other old from first None _ s (all.table.one_s i first) refl c ne)

    source_after : bucket_at new i hop.bucket ≡ slice_set (bucket_at old i hop.bucket) hop.slot None
    source_after = after_mid hop.bucket apart ∙ bucket_here old from first None _ (hops.name, hops.value) hops.entry

    -- and the one that it has left has a free slot.
    pub source_free : IsTrue (has_free (sketch_of hash s new hop.bucket))
    source_free =
        let slots : List (Slot V) = bucket_at old i hop.bucket in
        let inside : hop.slot < length slots = slot_inside slots hop.slot (hops.name, hops.value) hops.entry in
        subst (λ (l : List (Slot V)). has_free (map (partial_in hash) l) ≡ true) (sym source_after)
        (free_shown hash (slice_set slots hop.slot None) hop.slot (subst (λ n. hop.slot < n) (sym (length-set slots hop.slot None)) inside) (get_or-set_same slots hop.slot None None inside))

    pub source_four : length (sketch_of hash s old hop.bucket) ≡ 4 → length (sketch_of hash s new hop.bucket) ≡ 4
    source_four four =
        let slots : List (Slot V) = bucket_at old i hop.bucket in
        length-map (bucket_at new i hop.bucket) (partial_in hash) ∙ ap (λ (l : List (Slot V)). length l) source_after ∙ length-set slots hop.slot None ∙ sym (length-map slots (partial_in hash)) ∙ four

  -- what a sketch of four slots shows
  pub free_in : (hash : Name → ℕ) (s : ℕ) (stripes : List (StripeState V)) (b : ℕ) → IsTrue (has_free (sketch_of hash s stripes b)) → length (sketch_of hash s stripes b) ≡ 4 → HasFree (bucket_at stripes (b % 2 ^ s) b)
  free_in hash s stripes b free four =
      let slots : List (Slot V) = bucket_at stripes (b % 2 ^ s) b in
      let is = free_there hash slots free in
      (is.0, subst (λ n. is.0 < n) (sym (length-map slots (partial_in hash)) ∙ four) is.1, is.2)

  -- the last hop of a path can be done
  pub can_hop : (hash : Name → ℕ) (s : ℕ) (stripes : List (StripeState V)) (p : ℕ) (h : PathHop) (t : ℕ) → (stripe_at stripes (h.bucket % 2 ^ s)).content.power ≡ p → IsLastHop p (sketch_of hash s stripes) h t
      → CanHop hash stripes (h.bucket % 2 ^ s) (t % 2 ^ s) (hop_of p h t)
  can_hop hash s stripes p h t power last =
      let slots : List (Slot V) = bucket_at stripes (h.bucket % 2 ^ s) h.bucket in
      let entry = entry_there hash slots h.slot h.partial last.entry in
      record {
        power = power;
        entry = record { name = entry.0; value = entry.1; entry = entry.2; partial_is = sym entry.3 };
        free = free_in hash s stripes t last.free last.four_there;
      }

  -- the two buckets of a hop are in the stripes of their numbers
  pub hop_in : (s : ℕ) (stripes : List (StripeState V)) → AreAllHeld s stripes → (hop : Hop) → hop.bucket % 2 ^ s < length stripes → hop.target % 2 ^ s < length stripes → hop.bucket < 2 ^ hop.power
      → hop.target ≡ alternate_of hop.power hop.partial hop.bucket → IsHopIn stripes (hop.bucket % 2 ^ s) (hop.target % 2 ^ s) hop
  hop_in s stripes all hop first second below target =
      let table = all.table in
      hop_between s stripes _ _ hop first second all.settled table.one_s table.one_power below target (table.number _ first) (table.number _ second)

-- the hop that is next, from the end backwards
pub next_left : (p : ℕ) (sketches : ℕ → Sketch) (b : ℕ) (todo : List PathHop) (i t : ℕ) (d : PathHop) → i < length todo → IsLeft p sketches b (reverse (drop i todo)) t
    → IsLeft p sketches b (reverse (drop (i + 1) todo) ++ (get_or todo i d ∷ [])) t
next_left p sketches b todo i t d lt left =
    subst (λ (hs : List PathHop). IsLeft p sketches b hs t) (ap reverse (drop-cons todo i d lt) ∙ reverse_onto (drop (suc i) todo) (get_or todo i d) [] ∙ ap (λ n. reverse (drop n todo) ++ (get_or todo i d ∷ [])) (sym (add-one i))) left

start_below : (p : ℕ) (hops : List PathHop) (end : ℕ) → AreLinked p hops end → first_bucket hops end < 2 ^ p
start_below p [] end linked = linked
start_below p (h ∷ hops) end linked = linked.0

-- the bucket at which a path begins is one of the table
pub begins_below : (route : Route) → IsLinked route → first_bucket route.hops route.end < 2 ^ route.power
begins_below route linked = start_below route.power route.hops route.end linked.linked

-- what it finds
pub last_now : (route : Route) → IsLinked route → (p : ℕ) → p ≡ route.power → (sketches : ℕ → Sketch) (todo : List PathHop) (i t : ℕ) (d : PathHop) → i < length todo
    → IsLeft p sketches (first_bucket route.hops route.end) (reverse (drop i todo)) t → IsLastHop p sketches (get_or todo i d) t
last_now route linked p power sketches todo i t d lt left =
    let b : ℕ = first_bucket route.hops route.end in
    let next = next_left p sketches b todo i t d lt left in
    last_hop p sketches b (reverse (drop (i + 1) todo)) (get_or todo i d) t (subst (λ n. b < 2 ^ n) (sym power) (begins_below route linked)) next.path next.once next.four

-- With no hop left, the bucket at which the path begins has a free slot.
pub end_free : {V : Type 0} (hash : Name → ℕ) (s : ℕ) (stripes : List (StripeState V)) (p b : ℕ) (todo : List PathHop) (i t : ℕ) → length todo ≤ i → IsLeft p (sketch_of hash s stripes) b (reverse (drop i todo)) t
    → HasFree (bucket_at stripes (b % 2 ^ s) b)
end_free hash s stripes p b todo i t past left =
    let none : IsLeft p (sketch_of hash s stripes) b [] t = subst (λ (hs : List PathHop). IsLeft p (sketch_of hash s stripes) b hs t) (ap reverse (drop_all i todo past)) left in
    free_in hash s stripes b (free_of (sketch_of hash s stripes b) none.path.1) (subst (λ n. length (sketch_of hash s stripes n) ≡ 4) (sym none.path.0) none.four)
