-- The rows and the power of stripes by their numbers.
use Rattle.std.proofs.Common.{◌≡◌, ℕ, inl, inr, ⊎_elim, List, [], ◌∷◌, Some, refl, sym, ◌∙◌, ap, subst}
use mathlib.Core.Logic.{dite}
use native.Mathlib.Decide.{ℕ_discrete}
use Rattle.std.proofs.lemmas.Option.{none-some}
use Rattle.ck_model.specs.Promise.{Name}
use Rattle.ck_model.specs.Slots.{Slot, slot_at}
use Rattle.ck_model.specs.Numbered.{IsIn, AreDistinct, numbers, Holds}
use Rattle.ck_model.specs.declared.contents.Content.{Content}
use Rattle.ck_model.specs.Contents.{Layout, Stripes, row_at, rows_of, power_of, Lawful}
use Rattle.ck_model.proofs.Numbered.{in_held, if_same, if_else}

module _ {V : Type 0} where
  -- the rows of a stripe
  pub rows_held : (hs : Stripes V) (t : ℕ) (c : Content V) → AreDistinct (numbers hs) → Holds hs t c → rows_of hs t ≡ c.rows
  rows_held [] t c apart h = absurd h
  rows_held (x ∷ xs) t c apart h = ⊎_elim
      (λ (e : (x.0 ≡ t) × (x.1 ≡ c)). if_same x.0 t x.1.rows (rows_of xs t) e.0 ∙ ap (λ (d : Content V). d.rows) e.1)
      (λ r. if_else x.0 t x.1.rows (rows_of xs t) (λ e. apart.0 (subst (λ n. IsIn n (numbers xs)) (sym e) (in_held xs t c r))) ∙ rows_held xs t c apart.1 r) h

  -- what stands in a row stands in a stripe
  pub held_there : (hs : Stripes V) (t r i : ℕ) (e : Name × V) → slot_at (row_at (rows_of hs t) r) i ≡ Some e → (c : Content V) × Holds hs t c × (rows_of hs t ≡ c.rows)
  held_there [] t r i e is = absurd (none-some e is)
  held_there (h ∷ hs) t r i e is = dite (ℕ_discrete h.0 t)
      (λ s. (h.1, inl (s, refl), if_same h.0 t h.1.rows (rows_of hs t) s))
      (λ n. let other : rows_of (h ∷ hs) t ≡ rows_of hs t = if_else h.0 t h.1.rows (rows_of hs t) n in
      let z = held_there hs t r i e (ap (λ (rows : List (List (Slot V))). slot_at (row_at rows r) i) (sym other) ∙ is) in (z.0, inr z.1, other ∙ z.2))

  pub power_held : (k : Layout) (hs : Stripes V) (t : ℕ) (c : Content V) → Lawful k hs → Holds hs t c → power_of hs ≡ c.power
  power_held k [] t c lawful h = absurd h
  power_held k (x ∷ xs) t c lawful h = lawful.one_power x.0 t x.1 c (inl (refl, refl)) h
