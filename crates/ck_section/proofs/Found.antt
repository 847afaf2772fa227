-- Held stripes and their contents.
use Rattle.std.proofs.Common.{◌≡◌, ◌≢◌, inl, inr, ⊎_elim, ℕ, zero, suc, ◌+◌, ◌-◌, ◌*◌, ◌/◌, ◌%◌, ◌^◌, ◌<◌, ◌≤◌, List, [], ◌∷◌, Option, Some, None, IsSome, length, refl, sym, ◌∙◌, ap, subst, arith}
use mathlib.Core.Logic.{dite}
use native.Mathlib.Decide.{ℕ_discrete}
use Rattle.std.specs.FinMap.{get}
use Rattle.std.proofs.lemmas.List.{length-set, get_or-set_same, get_or-set_other}
use Rattle.std.proofs.lemmas.Nat.{pow-add, pow_pos, div-add-mod', div_below, div-mul-add, mod-mul-add}
use Rattle.std.proofs.lemmas.Option.{none-some}
use Rattle.ck_model.specs.Arithmetic.{index_of, second_of}
use Rattle.ck_model.specs.Promise.{Name}
use Rattle.ck_model.specs.Slots.{Slot, slot_at, IsFull}
use Rattle.ck_model.specs.Numbered.{IsIn, AreDistinct, numbers, Holds, with_content}
use Rattle.ck_model.specs.declared.contents.Content.{Content}
use Rattle.ck_model.specs.Contents.{Layout, layout, Stripes, Binds, row_at, rows_of, bindings, bucket_in, power_of, IsBucketOf, IsSound, Lawful}
use Rattle.ck_model.specs.Sections.{Owns}
use Rattle.ck_model.specs.Paths.{HasNoRoom}
use Rattle.ck_model.proofs.Buckets.{index_lower, second_lower}
use Rattle.ck_model.proofs.Numbered.{in_held, one_content, if_same, if_else}
use Rattle.ck_model.proofs.Belongs.{found_entry}
use Rattle.ck_model.proofs.Found.{bound_where, bound_from}
use Rattle.ck_model.proofs.Rows.{rows_held, power_held}
use Rattle.ck_model.proofs.Writes.{stands}
use Rattle.ck_stripe.specs.Stripe.{StripeState, HasBucket}
use Rattle.ck_section.specs.declared.place.KeyPlace.{KeyPlace}
use Rattle.ck_stripe.specs.declared.held_slot.HeldSlot.{HeldSlot}
use Rattle.ck_stripe.specs.Stripes.{no_stripe, stripe_at, bucket_at, set_content, contents_of, IsInReach}
use Rattle.ck_section.specs.Places.{IsPlaceOf, IsSlotOf, IsNowhere, AreFull}
use Rattle.ck_stripe.specs.HeldSlots.{slot_in}
use Rattle.ck_section.specs.Calls.{ChangesContents}
use Rattle.ck_stripe.proofs.Tables.{holds_at}

module _ {V : Type 0} where
  with_miss : (t : ℕ) (c : Content V) (hs : Stripes V) → ¬ (IsIn t (numbers hs)) → with_content t c hs ≡ hs
  with_miss t c [] out = refl
  with_miss t c (h ∷ hs) out =
      ap (λ (d : Content V). (h.0, d) ∷ with_content t c hs) (if_else h.0 t c h.1 (λ e. out (inl e))) ∙ ap (λ (ks : Stripes V). h ∷ ks) (with_miss t c hs (λ i. out (inr i)))

  -- where one stripe gets another content, so do the contents
  pub contents_set : (stripes : List (StripeState V)) (i : ℕ) (c : Content V) → i < length stripes → AreDistinct (numbers (contents_of stripes))
      → contents_of (set_content stripes i c) ≡ with_content (stripe_at stripes i).number c (contents_of stripes)
  contents_set [] i c lt apart = absurd (omega arith)
  contents_set (t ∷ ts) zero c lt apart = sym (
      ap (λ (d : Content V). (t.number, d) ∷ with_content t.number c (contents_of ts)) (if_same t.number t.number c t.content refl)
      ∙ ap (λ (ks : Stripes V). (t.number, c) ∷ ks) (with_miss t.number c (contents_of ts) apart.0))
  contents_set (t ∷ ts) (suc i) c lt apart =
      let u : ℕ = (stripe_at ts i).number in
      let other : t.number ≢ u = λ e. apart.0 (subst (λ n. IsIn n (numbers (contents_of ts))) (sym e) (in_held (contents_of ts) u (stripe_at ts i).content (holds_at ts i (omega arith)))) in
      ap (λ (ks : Stripes V). (t.number, t.content) ∷ ks) (contents_set ts i c (omega arith) apart.1)
      ∙ ap (λ (d : Content V). (t.number, d) ∷ with_content u c (contents_of ts)) (sym (if_else t.number u c t.content other))

  -- a stripe that gets another content
  pub set_here : (stripes : List (StripeState V)) (i : ℕ) (c : Content V) → i < length stripes → stripe_at (set_content stripes i c) i ≡ record (stripe_at stripes i) { content = c }
  set_here stripes i c lt = get_or-set_same stripes i (record (stripe_at stripes i) { content = c }) no_stripe lt

  pub set_changes : (stripes : List (StripeState V)) (i : ℕ) (c : Content V) → i < length stripes → c.power ≡ (stripe_at stripes i).content.power → ChangesContents stripes (set_content stripes i c)
  set_changes stripes i c lt keeps = record {
    count = length-set stripes i (record (stripe_at stripes i) { content = c });
    each = λ j l. dite (ℕ_discrete j i)
        (λ e. let S : ℕ → Type 0 = λ n. stripe_at (set_content stripes i c) n ≡ record (stripe_at stripes n) { content = (stripe_at (set_content stripes i c) n).content } in
        subst S (sym e) (set_here stripes i c lt ∙ ap (λ (t : StripeState V). record (stripe_at stripes i) { content = t.content }) (sym (set_here stripes i c lt))))
        (λ ne. let same : stripe_at (set_content stripes i c) j ≡ stripe_at stripes j = get_or-set_other stripes i j (record (stripe_at stripes i) { content = c }) no_stripe ne in
        same ∙ ap (λ (t : StripeState V). record (stripe_at stripes j) { content = t.content }) (sym same));
    power = λ j l. dite (ℕ_discrete j i)
        (λ e. let S : ℕ → Type 0 = λ n. (stripe_at (set_content stripes i c) n).content.power ≡ (stripe_at stripes n).content.power in
        subst S (sym e) (ap (λ (t : StripeState V). t.content.power) (set_here stripes i c lt) ∙ keeps))
        (λ ne. ap (λ (t : StripeState V). t.content.power) (get_or-set_other stripes i j (record (stripe_at stripes i) { content = c }) no_stripe ne));
  }

  pub changes_none : (stripes : List (StripeState V)) → ChangesContents stripes stripes
  changes_none stripes = record { count = refl; each = λ j l. refl; power = λ j l. refl }

  pub changes_on : (a b c : List (StripeState V)) → ChangesContents a b → ChangesContents b c → ChangesContents a c
  changes_on a b c one two = record {
    count = two.count ∙ one.count;
    each = λ j l. two.each j (subst (λ n. j < n) (sym one.count) l) ∙ ap (λ (t : StripeState V). record t { content = (stripe_at c j).content }) (one.each j l);
    power = λ j l. two.power j (subst (λ n. j < n) (sym one.count) l) ∙ one.power j l;
  }

  -- a slot of a held stripe is one of the contents
  pub slot_held : (stripes : List (StripeState V)) (i b j : ℕ) → AreDistinct (numbers (contents_of stripes)) → i < length stripes → HasBucket (stripe_at stripes i) b → (s : ℕ) → (stripe_at stripes i).s ≡ s
      → row_at (rows_of (contents_of stripes) (b % 2 ^ s)) (b / 2 ^ s) ≡ bucket_at stripes i b
  slot_held stripes i b j apart lt own s e =
      let t : StripeState V = stripe_at stripes i in
      let number : b % 2 ^ s ≡ t.number = ap (λ n. b % 2 ^ n) (sym e) ∙ own.1 in
      ap (λ n. row_at (rows_of (contents_of stripes) n) (b / 2 ^ s)) number
      ∙ ap (λ (rows : List (List (Slot V))). row_at rows (b / 2 ^ s)) (rows_held (contents_of stripes) t.number t.content apart (holds_at stripes i lt))
      ∙ ap (λ n. row_at t.content.rows (b / 2 ^ n)) (sym e)

  -- a bucket by its row and its stripe
  pub row_bucket : (t : StripeState V) (b s : ℕ) → HasBucket t b → t.s ≡ s → b / 2 ^ t.s * 2 ^ s + t.number ≡ b
  row_bucket t b s own e = subst (λ n. b / 2 ^ t.s * 2 ^ n + t.number ≡ b) e (ap (λ n. b / 2 ^ t.s * 2 ^ t.s + n) (sym own.1) ∙ div-add-mod' b (2 ^ t.s))

  -- its row is one of the rows
  pub row_within : (k : Layout) (t : StripeState V) (b : ℕ) → IsSound k t.number t.content → HasBucket t b → t.s ≡ k.s → b / 2 ^ t.s < length t.content.rows
  row_within k t b sound own e =
      let p : ℕ = t.content.power in
      let least : k.s ≤ p = sound.shaped.least in
      let split : (p - k.s) + k.s ≡ p = omega arith in
      let below : b < 2 ^ (p - k.s) * 2 ^ k.s = subst (λ n. b < n) (ap (λ n. 2 ^ n) (sym split) ∙ pow-add 2 (p - k.s) k.s) own.0 in
      let row : b / 2 ^ k.s < 2 ^ (p - k.s) = div_below b (2 ^ k.s) (2 ^ (p - k.s)) (pow_pos k.s) below in
      subst (λ (x : ℕ × ℕ). b / 2 ^ x.0 < x.1) (λ i. (sym e i, sym sound.shaped.rows i)) row

  module _ (hash : Name → ℕ) (s max : ℕ) (stripes : List (StripeState V)) (lawful : Lawful (layout hash s max) (contents_of stripes)) where
    abbrev k : Layout
    k = layout hash s max

    abbrev hs : Stripes V
    hs = contents_of stripes

    pub sound_at : (i : ℕ) → i < length stripes → IsSound k (stripe_at stripes i).number (stripe_at stripes i).content
    sound_at i lt = lawful.sound (stripe_at stripes i).number (stripe_at stripes i).content (holds_at stripes i lt)

    -- an entry of a bucket that is held is in it
    in_bucket : (i b : ℕ) → IsInReach stripes i b → (stripe_at stripes i).s ≡ s → (u : ℕ) (d : Content V) (r j : ℕ) (q : Name) (v : V) → Holds hs u d → r * 2 ^ s + u ≡ b → slot_at (row_at d.rows r) j ≡ Some (q, v)
        → slot_at (bucket_at stripes i b) j ≡ Some (q, v)
    in_bucket i b reach e u d r j q v h at is =
        let t : StripeState V = stripe_at stripes i in
        let small : u < 2 ^ s = (lawful.sound u d h).number in
        let row : r ≡ b / 2 ^ t.s = sym (div-mul-add r (2 ^ s) u small) ∙ ap (λ n. n / 2 ^ s) at ∙ ap (λ n. b / 2 ^ n) (sym e) in
        let number : u ≡ t.number = sym (mod-mul-add r (2 ^ s) u small) ∙ ap (λ n. n % 2 ^ s) at ∙ ap (λ n. b % 2 ^ n) (sym e) ∙ reach.own.1 in
        let same : d ≡ t.content = one_content hs lawful.distinct t.number d t.content (subst (λ n. Holds hs n d) number h) (holds_at stripes i reach.inside) in
        subst (λ (x : Content V × ℕ). slot_at (row_at x.0.rows x.1) j ≡ Some (q, v)) (λ z. (same z, row z)) is

    module _ (q : Name) (place : KeyPlace) (of : IsPlaceOf hash stripes q place) where
      abbrev one : StripeState V
      one = stripe_at stripes place.first.index

      abbrev two : StripeState V
      two = stripe_at stripes place.alternate.index

      -- a name that its two buckets lack is in no held stripe
      pub nowhere : place.s ≡ s → IsNowhere stripes q place → (u : ℕ) (d : Content V) (v : V) → Holds hs u d → ¬ (Binds d q v)
      nowhere e lacks u d v h bound =
          let z = found_entry q d.rows v bound in
          let placed : IsBucketOf hash d.power q (z.0 * 2 ^ s + u) = (lawful.sound u d h).placed z.0 z.1 q v z.2 in
          ⊎_elim
          (λ f. lacks.first z.1 v (in_bucket place.first.index place.first.bucket of.first_reach (of.one_s place.first.index of.first_reach.inside ∙ e) u d z.0 z.1 q v h
          (f ∙ ap (λ p. index_of p (hash q)) (lawful.one_power u one.number d one.content h (holds_at stripes place.first.index of.first_reach.inside)) ∙ sym of.first) z.2))
          (λ f. lacks.alternate z.1 v (in_bucket place.alternate.index place.alternate.bucket of.alternate_reach (of.one_s place.alternate.index of.alternate_reach.inside ∙ e) u d z.0 z.1 q v h
          (f ∙ ap (λ p. second_of p (hash q)) (lawful.one_power u two.number d two.content h (holds_at stripes place.alternate.index of.alternate_reach.inside)) ∙ sym of.alternate) z.2))
          placed

      pub unbound : place.s ≡ s → IsNowhere stripes q place → get (bindings hs) q ≡ None
      unbound e lacks = go (get (bindings hs) q) refl
        where
          go : (o : Option V) → get (bindings hs) q ≡ o → get (bindings hs) q ≡ None
          go None f = f
          go (Some v) f = let z = bound_where hs q v f in absurd (nowhere e lacks z.0 z.1 v z.2 z.3)

      -- the stripes of the name are held
      pub owns : place.s ≡ s → Owns k hs q
      owns e t which = ⊎_elim
          (λ f. let p : ℕ = one.content.power in
          let at : one.s ≡ s = of.one_s place.first.index of.first_reach.inside ∙ e in
          let least : s ≤ p = (sound_at place.first.index of.first_reach.inside).shaped.least in
          let number : one.number ≡ t = sym of.first_reach.own.1 ∙ ap (λ n. place.first.bucket % 2 ^ n) at ∙ ap (λ n. n % 2 ^ s) of.first ∙ index_lower s p (hash q) least ∙ sym f in
          subst (λ n. IsIn n (numbers hs)) number (in_held hs one.number one.content (holds_at stripes place.first.index of.first_reach.inside)))
          (λ f. let p : ℕ = two.content.power in
          let at : two.s ≡ s = of.one_s place.alternate.index of.alternate_reach.inside ∙ e in
          let least : s ≤ p = (sound_at place.alternate.index of.alternate_reach.inside).shaped.least in
          let number : two.number ≡ t = sym of.alternate_reach.own.1 ∙ ap (λ n. place.alternate.bucket % 2 ^ n) at ∙ ap (λ n. n % 2 ^ s) of.alternate ∙ second_lower s p (hash q) least ∙ sym f in
          subst (λ n. IsIn n (numbers hs)) number (in_held hs two.number two.content (holds_at stripes place.alternate.index of.alternate_reach.inside)))
          which

      -- an unbound name whose buckets are full has no room
      pub no_room : place.s ≡ s → IsNowhere stripes q place → AreFull stripes place → HasNoRoom k hs q
      no_room e lacks full = record {
        unbound = unbound e lacks;
        full = λ b which. ⊎_elim
            (λ f. let at : one.s ≡ s = of.one_s place.first.index of.first_reach.inside ∙ e in
            let same : b ≡ place.first.bucket = f ∙ ap (λ p. index_of p (hash q)) (power_held k hs one.number one.content lawful (holds_at stripes place.first.index of.first_reach.inside)) ∙ sym of.first in
            let B : ℕ → Type 0 = λ n. IsFull (bucket_in k hs n) in
            subst B (sym same) (subst IsFull (sym (slot_held stripes place.first.index place.first.bucket 0 lawful.distinct of.first_reach.inside of.first_reach.own s at)) full.first))
            (λ f. let at : two.s ≡ s = of.one_s place.alternate.index of.alternate_reach.inside ∙ e in
            let same : b ≡ place.alternate.bucket = f ∙ ap (λ p. second_of p (hash q)) (power_held k hs two.number two.content lawful (holds_at stripes place.alternate.index of.alternate_reach.inside)) ∙ sym of.alternate in
            let B : ℕ → Type 0 = λ n. IsFull (bucket_in k hs n) in
            subst B (sym same) (subst IsFull (sym (slot_held stripes place.alternate.index place.alternate.bucket 0 lawful.distinct of.alternate_reach.inside of.alternate_reach.own s at)) full.alternate))
            which;
      }

    -- what stands in a held slot is the binding
    pub bound_in : (q : Name) (v : V) (at : HeldSlot) → IsInReach stripes at.index at.bucket → slot_in stripes at ≡ Some (q, v) → get (bindings hs) q ≡ Some v
    bound_in q v at reach is =
        let t : StripeState V = stripe_at stripes at.index in
        bound_from hs lawful.once lawful.distinct t.number t.content q v (holds_at stripes at.index reach.inside)
        (stands k t.number t.content (sound_at at.index reach.inside) (at.bucket / 2 ^ t.s) at.slot q v is)

    -- a free slot of a bucket of the name is room
    pub has_room : (q : Name) (at : HeldSlot) → IsSlotOf hash stripes q at → (stripe_at stripes at.index).s ≡ s → slot_in stripes at ≡ None → ¬ (HasNoRoom k hs q)
    has_room q at of e free h =
        let t : StripeState V = stripe_at stripes at.index in
        let powers : t.content.power ≡ power_of hs = sym (power_held k hs t.number t.content lawful (holds_at stripes at.index of.reach.inside)) in
        let full : IsFull (bucket_in k hs at.bucket) = h.full at.bucket (subst (λ p. IsBucketOf hash p q at.bucket) powers of.of_name) in
        let some : IsSome (slot_in stripes at) = subst IsFull (slot_held stripes at.index at.bucket 0 lawful.distinct of.reach.inside of.reach.own s e) full at.slot of.below in
        let none : IsSome {T = Name × V} None = subst (λ (o : Slot V). IsSome o) free some in
        cc

    -- a bound name needs none
    pub bound_room : (q : Name) (v : V) (at : HeldSlot) → IsInReach stripes at.index at.bucket → slot_in stripes at ≡ Some (q, v) → ¬ (HasNoRoom k hs q)
    bound_room q v at reach is h = none-some v (sym h.unbound ∙ bound_in q v at reach is)
