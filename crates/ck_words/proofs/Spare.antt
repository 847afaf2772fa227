-- Stripes with no memory to spare, as one comes and goes.
use Rattle.std.proofs.Common.{◌≡◌, zero, suc, ◌<◌, List, [], ◌∷◌, ◌++◌, Some, IfSome, length, sym, subst, arith}
use Rattle.std.specs.Prelude.{All}
use Rattle.std.proofs.lemmas.List.Elements.{All-from_get_or, All-push, All-pop}
use Rattle.ck_stripe.specs.Stripe.{StripeState, HasNoSpare}
use Rattle.ck_stripe.specs.Stripes.{no_stripe, HaveNoSpare, settled_stripes}

module _ {V : Type 0} where
  all_spare : (ss : List (StripeState V)) → HaveNoSpare ss → All HasNoSpare ss
  all_spare ss spare = All-from_get_or HasNoSpare ss no_stripe spare

  pub spare_none : (ss : List (StripeState V)) → ss ≡ [] → HaveNoSpare ss
  spare_none ss none i lt = absurd (let l : i < length {A = StripeState V} [] = subst (λ (l : List (StripeState V)). i < length l) none lt in omega arith)

  pub spare_push : (ss new : List (StripeState V)) (t : StripeState V) → new ≡ ss ++ t ∷ [] → HaveNoSpare ss → HasNoSpare t → HaveNoSpare new
  spare_push ss new t is spare has = subst HaveNoSpare (sym is) (λ i lt. All-push HasNoSpare ss t (all_spare ss spare) has i no_stripe lt)

  -- the last of them, and those before it
  module _ (ss rest : List (StripeState V)) (t : StripeState V) (is : ss ≡ rest ++ t ∷ []) (spare : HaveNoSpare ss) where
    parts : All HasNoSpare rest × IfSome (Some t) HasNoSpare
    parts = All-pop HasNoSpare ss rest (Some t) is (all_spare ss spare)

    pub spare_last : HasNoSpare t
    spare_last = parts.1

    pub spare_rest : HaveNoSpare rest
    spare_rest i lt = parts.0 i no_stripe lt

  pub spare_settled : (ss : List (StripeState V)) → HaveNoSpare ss → HaveNoSpare (settled_stripes ss)
  spare_settled [] spare i lt = absurd (omega arith)
  spare_settled (t ∷ ts) spare zero lt = spare 0 (omega arith)
  spare_settled (t ∷ ts) spare (suc i) lt = spare_settled ts (λ j l. spare (suc j) (omega arith)) i (omega arith)
