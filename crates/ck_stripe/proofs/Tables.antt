-- Stripes of a table, and their contents.
use Rattle.std.proofs.Common.{◌≡◌, ℕ, zero, suc, ◌<◌, List, [], ◌∷◌, length, inl, inr, refl, sym, ◌∙◌, subst, arith}
use Rattle.std.specs.Prelude.{slice_index_or}
use Rattle.std.proofs.lemmas.List.{get_or_default}
use Rattle.ck_model.specs.Promise.{Name}
use Rattle.ck_model.specs.Numbered.{IsIn, numbers, Holds}
use Rattle.ck_model.specs.Contents.{layout}
use Rattle.ck_model.specs.Sections.{HasAll}
use Rattle.ck_model.proofs.Numbered.{in_held}
use Rattle.ck_stripe.specs.Stripe.{StripeState}
use Rattle.ck_stripe.specs.Stripes.{no_stripe, stripe_at, contents_of}
use Rattle.ck_stripe.specs.Tables.{IsTable}

module _ {V : Type 0} where
  -- a held stripe is among the contents
  pub holds_at : (stripes : List (StripeState V)) (i : ℕ) → i < length stripes → Holds (contents_of stripes) (stripe_at stripes i).number (stripe_at stripes i).content
  holds_at [] i lt = absurd (omega arith)
  holds_at (t ∷ ts) zero lt = inl (refl, refl)
  holds_at (t ∷ ts) (suc i) lt = inr (holds_at ts i (omega arith))

  -- a stripe that was read
  pub stripe_read : (stripes : List (StripeState V)) (i : ℕ) (t : StripeState V) → i < length stripes → t ≡ slice_index_or stripes i t → t ≡ stripe_at stripes i
  stripe_read stripes i t lt is = is ∙ get_or_default stripes i t no_stripe lt

  -- all stripes of a table are held
  pub has_all : (hash : Name → ℕ) (s max : ℕ) (stripes : List (StripeState V)) → IsTable s stripes → HasAll (layout hash s max) (contents_of stripes)
  has_all hash s max stripes table t lt =
      let inside : t < length stripes = subst (λ n. t < n) (sym table.count) lt in
      subst (λ n. IsIn n (numbers (contents_of stripes))) (table.number t inside) (in_held (contents_of stripes) (stripe_at stripes t).number (stripe_at stripes t).content (holds_at stripes t inside))
