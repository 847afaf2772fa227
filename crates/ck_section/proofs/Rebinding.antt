-- One slot of held stripes is written: what becomes of their bindings, and of the other slots.
use Rattle.std.proofs.Common.{◌≡◌, ◌≢◌, inl, ⊎_elim, ℕ, zero, suc, ◌+◌, ◌-◌, ◌/◌, ◌%◌, ◌^◌, ◌<◌, List, [], ◌∷◌, Option, Some, None, length, refl, sym, ◌∙◌, ap, subst}
use mathlib.Core.Logic.{dite}
use native.Mathlib.Decide.{ℕ_discrete}
use Rattle.std.specs.Prelude.{slice_set}
use Rattle.std.specs.FinMap.{get, find}
use Rattle.std.proofs.lemmas.List.{length-set, get_or-set_other}
use Rattle.std.proofs.lemmas.Option.{none-some}
use Rattle.ck_model.specs.declared.contents.Content.{Content}
use Rattle.ck_model.specs.Promise.{Name, name_cmp}
use Rattle.ck_model.specs.Slots.{Slot, slot_at}
use Rattle.ck_model.specs.Numbered.{numbers, Holds}
use Rattle.ck_model.specs.Contents.{Layout, layout, Stripes, Binds, IsBucketOf, pairs_in, row_at, bindings, IsSound, Lawful}
use Rattle.ck_model.specs.Sections.{IdentitySection}
use Rattle.ck_model.proofs.Numbered.{numbers-with, holds_with}
use Rattle.ck_model.proofs.Names.{dec_name, maps_alike}
use Rattle.ck_model.proofs.Found.{bound_from}
use Rattle.ck_model.proofs.Identities.{power_on}
use Rattle.ck_model.proofs.Local.{Change, after_lawful, before_at, after_at, else_at}
use Rattle.ck_model.proofs.Writes.{Writes, written, stands, places, removes}
use Rattle.ck_stripe.specs.Stripe.{StripeState, bucket_of, with_slot}
use Rattle.ck_stripe.specs.declared.held_slot.HeldSlot.{HeldSlot}
use Rattle.ck_stripe.specs.Stripes.{no_stripe, stripe_at, bucket_at, set_content, contents_of, IsInReach}
use Rattle.ck_section.specs.Places.{IsSlotOf}
use Rattle.ck_stripe.specs.HeldSlots.{slot_in, set_slot}
use Rattle.ck_stripe.proofs.Tables.{holds_at}
use Rattle.ck_section.proofs.Found.{contents_set, set_here, row_bucket, row_within, sound_at}

module _ {V : Type 0} where
  -- Lawful stripes become others of their numbers and power, in which the name q is bound otherwise and each other name as before.
  pub record Rebinding (k : Layout) (hs ks : Stripes V) (q : Name) (o o2 : Option V) : Type 0 where
    pub same : numbers ks ≡ numbers hs
    pub lawful : Lawful k ks
    pub power : (t u : ℕ) (c d : Content V) → Holds hs t c → Holds ks u d → d.power ≡ c.power
    pub was : get (bindings hs) q ≡ o
    pub is : get (bindings ks) q ≡ o2
    pub others : (x : Name) → x ≢ q → get (bindings ks) x ≡ get (bindings hs) x

  -- what a stripe keeps where another one, or this one, gets another content
  pub keeps_of : {A : Type 0} (f : StripeState V → A) (stripes : List (StripeState V)) (i : ℕ) (c : Content V) → i < length stripes → f (record (stripe_at stripes i) { content = c }) ≡ f (stripe_at stripes i)
      → (j : ℕ) → f (stripe_at (set_content stripes i c) j) ≡ f (stripe_at stripes j)
  keeps_of f stripes i c lt same j = dite (ℕ_discrete j i)
      (λ e. subst (λ n. f (stripe_at (set_content stripes i c) n) ≡ f (stripe_at stripes n)) (sym e) (ap f (set_here stripes i c lt) ∙ same))
      (λ ne. ap f (get_or-set_other stripes i j (record (stripe_at stripes i) { content = c }) no_stripe ne))

  module _ (stripes : List (StripeState V)) (at : HeldSlot) (inside : at.index < length stripes) (x : Slot V) (n : ℕ) where
    abbrev put_in : List (StripeState V)
    put_in = set_slot stripes at x n

    abbrev content : Content V
    content = with_slot (stripe_at stripes at.index) at.bucket at.slot x n

    pub keeps_s : (j : ℕ) → (stripe_at put_in j).s ≡ (stripe_at stripes j).s
    keeps_s j = keeps_of (λ (t : StripeState V). t.s) stripes at.index content inside refl j

    pub keeps_power : (j : ℕ) → (stripe_at put_in j).content.power ≡ (stripe_at stripes j).content.power
    keeps_power j = keeps_of (λ (t : StripeState V). t.content.power) stripes at.index content inside refl j

    pub keeps_reach : (i b : ℕ) → IsInReach stripes i b → IsInReach put_in i b
    keeps_reach i b reach = record {
      inside = subst (λ m. i < m) (sym (length-set stripes at.index (record (stripe_at stripes at.index) { content = content }))) reach.inside;
      settled = keeps_of (λ (t : StripeState V). t.settled) stripes at.index content inside refl i ∙ reach.settled;
      own = (
        subst (λ p. b < 2 ^ p) (sym (keeps_power i)) reach.own.0,
        ap (λ m. b % 2 ^ m) (keeps_s i) ∙ reach.own.1 ∙ sym (keeps_of (λ (t : StripeState V). t.number) stripes at.index content inside refl i),
      );
    }

    pub keeps_slot : (hash : Name → ℕ) (q : Name) (y : HeldSlot) → IsSlotOf hash stripes q y → IsSlotOf hash put_in q y
    keeps_slot hash q y of = record {
      reach = keeps_reach y.index y.bucket of.reach;
      below = of.below;
      of_name = subst (λ p. IsBucketOf hash p q y.bucket) (sym (keeps_power y.index)) of.of_name;
    }

    -- another slot stays as it is
    pub slot_other : (s : ℕ) → (stripe_at stripes at.index).s ≡ s → (y : HeldSlot) → (y.index ≡ at.index → y.bucket / 2 ^ s ≡ at.bucket / 2 ^ s → y.slot ≡ at.slot → ⊥) → slot_in put_in y ≡ slot_in stripes y
    slot_other s e y apart = dite (ℕ_discrete y.index at.index)
        (λ same. let t : StripeState V = stripe_at stripes at.index in
        let r : ℕ = at.bucket / 2 ^ t.s in
        let rows : List (List (Slot V)) = t.content.rows in
        let left : slot_in put_in y ≡ slot_at (row_at content.rows (y.bucket / 2 ^ t.s)) y.slot = ap (λ j. slot_at (bucket_at put_in j y.bucket) y.slot) same ∙ ap (λ (u : StripeState V). slot_at (bucket_of u y.bucket) y.slot) (set_here stripes at.index content inside) in
        let right : slot_in stripes y ≡ slot_at (row_at rows (y.bucket / 2 ^ t.s)) y.slot = ap (λ j. slot_at (bucket_at stripes j y.bucket) y.slot) same in
        left ∙ in_rows rows r at.slot x (y.bucket / 2 ^ t.s) y.slot (λ a b. apart same (ap (λ m. y.bucket / 2 ^ m) (sym e) ∙ a ∙ ap (λ m. at.bucket / 2 ^ m) e) b) ∙ sym right)
        (λ ne. ap (λ (u : StripeState V). slot_at (bucket_of u y.bucket) y.slot) (get_or-set_other stripes at.index y.index (record (stripe_at stripes at.index) { content = content }) no_stripe ne))
      where
        in_rows : (rows : List (List (Slot V))) (r i : ℕ) (z : Slot V) (r2 j : ℕ) → (r2 ≡ r → j ≡ i → ⊥) → slot_at (row_at (slice_set rows r (slice_set (row_at rows r) i z)) r2) j ≡ slot_at (row_at rows r2) j
        in_rows [] r i z r2 j ne = refl
        in_rows (l ∷ ls) zero i z zero j ne = get_or-set_other l i j z None (λ e2. ne refl e2)
        in_rows (l ∷ ls) zero i z (suc r2) j ne = refl
        in_rows (l ∷ ls) (suc r) i z zero j ne = refl
        in_rows (l ∷ ls) (suc r) i z (suc r2) j ne = in_rows ls r i z r2 j (λ a b. ne (ap suc a) b)

  -- slots with different things in them are different slots
  pub apart_from : (stripes : List (StripeState V)) (y at : HeldSlot) (s : ℕ) → (stripe_at stripes at.index).s ≡ s → slot_in stripes y ≢ slot_in stripes at → y.index ≡ at.index → y.bucket / 2 ^ s ≡ at.bucket / 2 ^ s → y.slot ≡ at.slot → ⊥
  apart_from stripes y at s e ne a b c = ne (
      ap (λ j. slot_at (bucket_at stripes j y.bucket) y.slot) a
      ∙ ap (λ m. slot_at (row_at (stripe_at stripes at.index).content.rows m) y.slot) (ap (λ m. y.bucket / 2 ^ m) e ∙ b ∙ ap (λ m. at.bucket / 2 ^ m) (sym e))
      ∙ ap (λ m. slot_at (bucket_at stripes at.index at.bucket) m) c)

  module _ (hash : Name → ℕ) (s max : ℕ) (stripes : List (StripeState V)) (lawful : Lawful (layout hash s max) (contents_of stripes)) (q : Name) (at : HeldSlot) (slot : IsSlotOf hash stripes q at) (e : (stripe_at stripes at.index).s ≡ s) where
    abbrev k : Layout
    k = layout hash s max

    abbrev t : StripeState V
    t = stripe_at stripes at.index

    abbrev r : ℕ
    r = at.bucket / 2 ^ t.s

    sound : IsSound k t.number t.content
    sound = sound_at hash s max stripes lawful at.index slot.reach.inside

    within : r < length t.content.rows
    within = row_within k t at.bucket sound slot.reach.own e

    rebinds : (x : Slot V) (n : ℕ) (o o2 : Option V) → Writes k t.number t.content (written t.content r at.slot x n) q o o2
        → ((u : ℕ) (d : Content V) (v : V) → u ≢ t.number → Holds (contents_of stripes) u d → ¬ (Binds d q v))
        → Rebinding k (contents_of stripes) (contents_of (set_slot stripes at x n)) q o o2
    rebinds x n o o2 w apart =
        let hs : Stripes V = contents_of stripes in
        let c2 : Content V = written t.content r at.slot x n in
        let change : Change k hs t.number t.content c2 q = record { lawful = lawful; here = holds_at stripes at.index slot.reach.inside; sound = w.sound; power = refl; others = w.others; nowhere_else = apart } in
        subst (λ (ks : Stripes V). Rebinding k hs ks q o o2) (sym (contents_set stripes at.index c2 slot.reach.inside lawful.distinct)) (record {
          same = numbers-with t.number c2 hs;
          lawful = after_lawful k hs t.number t.content c2 q change;
          power = λ a u c d h g. ⊎_elim
              (λ (f : (u ≡ t.number) × (c2 ≡ d)). ap (λ (y : Content V). y.power) (sym f.1) ∙ lawful.one_power t.number a t.content c (holds_at stripes at.index slot.reach.inside) h)
              (λ (f : (u ≢ t.number) × Holds hs u d). lawful.one_power u a d c f.1 h)
              (holds_with t.number c2 hs u d g);
          was = before_at k hs t.number t.content c2 q change ∙ w.was;
          is = after_at k hs t.number t.content c2 q change ∙ w.is;
          others = else_at k hs t.number t.content c2 q change;
        })

    -- an entry is removed
    pub removing : (v : V) → slot_in stripes at ≡ Some (q, v) → Rebinding k (contents_of stripes) (contents_of (set_slot stripes at None (t.content.ledger - 1))) q (Some v) None
    removing v is = rebinds None (t.content.ledger - 1) (Some v) None (removes k t.number t.content sound r at.slot within slot.below q v is)
        (λ u d w ne h bound. ne (lawful.once u t.number d t.content q w v h (holds_at stripes at.index slot.reach.inside) bound (stands k t.number t.content sound r at.slot q v is)))

    -- an unbound name is placed
    pub placing : (v : V) → slot_in stripes at ≡ None → get (bindings (contents_of stripes)) q ≡ None → Rebinding k (contents_of stripes) (contents_of (set_slot stripes at (Some (q, v)) (t.content.ledger + 1))) q None (Some v)
    placing v free none = rebinds (Some (q, v)) (t.content.ledger + 1) None (Some v)
        (places k t.number t.content sound r at.slot within slot.below q v free (absent (find name_cmp q (pairs_in t.content)) refl) (subst of_it (sym (row_bucket t at.bucket s slot.reach.own e)) slot.of_name))
        (λ u d w ne h bound. nowhere u d w h bound)
      where
        nowhere : (u : ℕ) (d : Content V) (w : V) → Holds (contents_of stripes) u d → ¬ (Binds d q w)
        nowhere u d w h bound = none-some w (sym none ∙ bound_from (contents_of stripes) lawful.once lawful.distinct u d q w h bound)

        of_it : ℕ → Type 0
        of_it b = IsBucketOf hash t.content.power q b

        absent : (o : Option V) → find name_cmp q (pairs_in t.content) ≡ o → find name_cmp q (pairs_in t.content) ≡ None
        absent None f = f
        absent (Some w) f = absurd (nowhere t.number t.content w (holds_at stripes at.index slot.reach.inside) f)

  -- a name that is unbound and bound again as it was
  pub identity_of_two : (k : Layout) (hs ks ls : Stripes V) (q : Name) (v : V) → Rebinding k hs ks q (Some v) None → Rebinding k ks ls q None (Some v) → IdentitySection k hs ls
  identity_of_two k hs ks ls q v one two = record {
    renewed = record { same = two.same ∙ one.same; lawful = two.lawful; power = inl (power_on hs ks ls one.same one.power two.power) };
    same_bindings = maps_alike (bindings ls) (bindings hs) (λ x. dite (dec_name x q)
        (λ f. let B : Name → Type 0 = λ y. get (bindings ls) y ≡ get (bindings hs) y in subst B (sym f) (two.is ∙ sym one.was))
        (λ ne. two.others x ne ∙ one.others x ne));
  }
