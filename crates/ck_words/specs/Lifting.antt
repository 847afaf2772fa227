-- All stripes of a table out of their slots.
use Rattle.std.specs.Prelude.{◌≡◌, ℕ, List, map, reverse, None}
use Rattle.atomic_table.specs.Seated.{TableId}
use Rattle.ck_model.specs.Numbered.{numbers}
use Rattle.ck_core.specs.Steps.{IsAbove}
use Rattle.ck_words.specs.Rule.{StripeSlot, Hand}
use Rattle.ck_model.specs.Counting.{counting}
use Rattle.ck_words.specs.Passes.{Falls}

module _ {V : Type 0} where
  -- the slots of these stripes, with nothing in them
  abbrev pub emptied : List ℕ → List (ℕ × StripeSlot V)
  emptied ns = map (λ (n : ℕ). (n, None)) ns

  -- The seat has the slots of all stripes of the table, with nothing in them, and its view tells of those stripes.
  pub record IsEmptied (table : TableId) (me : Hand V) : Type 0 where
    pub empty : me.1 ≡ emptied (numbers me.0.held)
    pub all : numbers me.0.held ≡ reverse (counting 0 table.slots)
    pub falls : Falls (numbers me.0.held)
    pub below : IsAbove table.slots (numbers me.0.held)
