-- All stripes of a table, cleared.
use Rattle.std.proofs.Common.{◌≡◌, inl, inr, ⊎_elim, ℕ, ◌-◌, ◌^◌, ◌<◌, List, [], ◌∷◌, ◌++◌, suc, length, map, refl, sym, ◌∙◌, ap, subst, arith}
use Rattle.std.specs.FinMap.{find, empty, from_entries}
use Rattle.std.proofs.lemmas.Option.{none-some}
use Rattle.std.proofs.lemmas.List.{length-map, get_or-map}
use Rattle.ck_model.specs.Promise.{Name, name_cmp}
use Rattle.ck_model.specs.Numbered.{AreDistinct, numbers, Holds}
use Rattle.ck_model.specs.declared.contents.Content.{Content}
use Rattle.ck_model.specs.Contents.{Layout, layout, Stripes, empty_content, pairs_of, bindings, Binds, IsSound, Lawful}
use Rattle.ck_model.specs.Sections.{Renewed}
use Rattle.ck_model.proofs.Fresh.{no_pairs, sound-fresh}
use Rattle.ck_stripe.specs.Stripe.{StripeState}
use Rattle.ck_stripe.specs.Stripes.{no_stripe, stripe_at, contents_of}
use Rattle.ck_stripe.specs.Tables.{AreAllHeld, AreSettled, IsTable}
use Rattle.ck_section.specs.Clearing.{ClearsBindings}
use Rattle.ck_section.specs.Calls.{ChangesContents}
use Rattle.ck_section.proofs.Kept.{all_after}

module _ {V : Type 0} where
  binds_nothing : (s p : ℕ) (q : Name) (v : V) → ¬ (Binds (empty_content s p) q v)
  binds_nothing s p q v b = absurd (none-some v (ap (find name_cmp q) (sym (no_pairs (2 ^ (p - s)))) ∙ b))

  module _ (k : Layout) where
    -- each content with no entry
    abbrev pub emptied : Stripes V → Stripes V
    emptied hs = map (λ (h : ℕ × Content V). (h.0, empty_content k.s h.1.power)) hs

    numbers-emptied : (hs : Stripes V) → numbers (emptied hs) ≡ numbers hs
    numbers-emptied [] = refl
    numbers-emptied (h ∷ hs) = ap {B = List ℕ} (λ l. h.0 ∷ l) (numbers-emptied hs)

    held_before : (hs : Stripes V) (t : ℕ) (d : Content V) → Holds (emptied hs) t d → (c : Content V) × Holds hs t c × (d ≡ empty_content k.s c.power)
    held_before [] t d h = absurd h
    held_before (x ∷ hs) t d h = ⊎_elim
        (λ (e : (x.0 ≡ t) × (empty_content k.s x.1.power ≡ d)). (x.1, inl (e.0, refl), sym e.1))
        (λ r. let z = held_before hs t d r in (z.0, inr z.1, z.2)) h

    pairs-emptied : (hs : Stripes V) → pairs_of (emptied hs) ≡ []
    pairs-emptied [] = refl
    pairs-emptied (h ∷ hs) = λ j. no_pairs {V = V} (2 ^ (h.1.power - k.s)) j ++ pairs-emptied hs j

    none_bound : (hs : Stripes V) → bindings (emptied hs) ≡ empty
    unfolding bindings
    none_bound hs = ap from_entries (pairs-emptied hs)

    module _ (hs : Stripes V) (lawful : Lawful k hs) where
      lawful_emptied : Lawful k (emptied hs)
      lawful_emptied = record {
        distinct = subst AreDistinct (sym (numbers-emptied hs)) lawful.distinct;
        sound = λ t d h.
            let z = held_before hs t d h in
            let was : IsSound k t z.0 = lawful.sound t z.0 z.1 in
            subst (λ (x : Content V). IsSound k t x) (sym z.2) (sound-fresh k t z.0.power was.number was.shaped.least was.most);
        once = λ t u c d q v w h g b e. let z = held_before hs t c h in absurd (binds_nothing k.s z.0.power q v (subst (λ (x : Content V). Binds x q v) z.2 b));
        one_power = λ t u c d h g.
            let x = held_before hs t c h in
            let y = held_before hs u d g in
            ap (λ (n : Content V). n.power) x.2 ∙ lawful.one_power t u x.0 y.0 x.1 y.1 ∙ sym (ap (λ (n : Content V). n.power) y.2);
      }

      renewed_emptied : Renewed k hs (emptied hs)
      renewed_emptied = record {
        same = numbers-emptied hs;
        lawful = lawful_emptied;
        power = inl (λ t u c d h g. let y = held_before hs u d g in ap (λ (n : Content V). n.power) y.2 ∙ lawful.one_power u t y.0 c y.1 h);
      }

  -- the stripe with no entry
  abbrev pub cleared : StripeState V → StripeState V
  cleared t = record t { content = empty_content t.s t.content.power }

  contents_cleared : (k : Layout) (stripes : List (StripeState V)) → ((i : ℕ) → i < length stripes → (stripe_at stripes i).s ≡ k.s) → contents_of (map cleared stripes) ≡ emptied k (contents_of stripes)
  contents_cleared k [] of = refl
  contents_cleared k (t ∷ ts) of =
      let here : t.s ≡ k.s = of 0 (omega arith) in
      let rest = contents_cleared k ts (λ i l. of (suc i) (omega arith)) in
      λ j. (t.number, empty_content (here j) t.content.power) ∷ rest j

  -- All stripes were cleared.
  module _ (old new : List (StripeState V)) (is : new ≡ map cleared old) where
    cleared_at : (i : ℕ) → i < length old → stripe_at new i ≡ cleared (stripe_at old i)
    cleared_at i l = ap (λ (x : List (StripeState V)). stripe_at x i) is ∙ get_or-map cleared old i no_stripe no_stripe l

    pub changes_cleared : ChangesContents old new
    changes_cleared = record {
      count = ap length is ∙ length-map old cleared;
      each = λ i l. cleared_at i l ∙ ap (λ (t : StripeState V). record (stripe_at old i) { content = t.content }) (sym (cleared_at i l));
      power = λ i l. ap (λ (t : StripeState V). t.content.power) (cleared_at i l);
    }

    module _ (s : ℕ) (table : IsTable s old) where
      pub held_cleared : AreSettled old → AreAllHeld s new
      held_cleared settled = all_after s old new (record { table = table; settled = settled }) changes_cleared

      pub clears : (hash : Name → ℕ) (max : ℕ) → ClearsBindings (layout hash s max) old new
      clears hash max lawful =
          let k : Layout = layout hash s max in
          subst (λ (hs : Stripes V). Renewed k (contents_of old) hs × (bindings hs ≡ empty)) (sym (ap contents_of is ∙ contents_cleared k old table.one_s))
          (renewed_emptied k (contents_of old) lawful, none_bound k (contents_of old))
