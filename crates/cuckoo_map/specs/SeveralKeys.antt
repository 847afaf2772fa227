-- Calls on several keys at once.
use lib.Pointwise.{pointwise}
use Rattle.std.specs.Prelude.{◌≡◌, ◌⊎◌, ℕ, zero, suc, List, [], ◌∷◌, Bool, true, false, IsTrue, Option, Some, None, IsSome, All, Result, IfOk, IfErr, map}
use Rattle.ck_model.specs.declared.history.Act.TheVariants.{Update}
use Rattle.ck_model.specs.declared.history.Call.TheVariants.{On, SessionOn}
use Rattle.ck_model.specs.declared.history.Reply.{Reply}
use Rattle.ck_model.specs.declared.history.Reply.TheVariants.{Closed}
use Rattle.ck_model.specs.declared.settings.Settings.{Settings}
use Rattle.ck_model.specs.Promise.{Name, Step, bound_in}
use Rattle.ck_model.specs.Numbered.{IsIn}
use Rattle.ck_model.specs.Contents.{layout_of, IsStripeOf, bindings}
use Rattle.ck_stripe.specs.Stripes.{contents_of}
use Rattle.ck_stripe.specs.Tables.{AreHeld}
use Rattle.ck_section.specs.Places.{HasBoth}
use Rattle.ck_words.specs.declared.stripe_set.StripeSet.{StripeSet}
use Rattle.ck_words.specs.Passes.{PassState, IsUnchanged, ShowsSeen, numbers_of}
use Rattle.ck_words.specs.StripeSets.{list_of}
use Rattle.ck_words.specs.Retries.{Stays, FindsAmong}
use Rattle.ck_words.specs.Answering.{IsAnswered}
use Rattle.ck_refusal.specs.declared.refusal.KeysRefused.{KeysRefused}
use Rattle.ck_refusal.specs.declared.refusal.KeysRefused.TheVariants.{Busy, Twice}
use Rattle.cuckoo_map.specs.Refusals.{IsBusyAmong}

-- a stripe of one of the names
abbrev pub IsStripeOfAny : (Name → ℕ) → Settings → List Name → ℕ → Type 0
IsStripeOfAny hash set [] t = ⊥
IsStripeOfAny hash set (q ∷ qs) t = IsStripeOf (layout_of hash set) q t ⊎ IsStripeOfAny hash set qs t

-- the name at this position stands again behind it
abbrev pub StandsAgain : List Name → ℕ → Type 0
StandsAgain [] i = ⊥
StandsAgain (q ∷ qs) zero = IsIn q qs
StandsAgain (q ∷ qs) (suc i) = StandsAgain qs i

module _ {V : Type 0} where
  -- Since p the pass has taken these stripes, those of the names among them, and has settled them.
  pub record HoldsNames (hash : Name → ℕ) (set : Settings) (qs : List Name) (stripes : StripeSet) (p p2 : PassState V) : Type 0 where
    pub stays : Stays p.view p2.view
    pub owned : (q : Name) → IsIn q qs → HasBoth hash set.s p2.stripes q
    pub of_table : stripes.s ≡ set.s
    pub numbered : numbers_of p2.stripes ≡ list_of stripes
    pub settled : AreHeld set.s p2.stripes
    pub unchanged : IsUnchanged p2
    pub shows : ShowsSeen hash set p2

  -- Why no session on the names began: a stripe of theirs was busy, or one of them stands twice, and then nothing was tried.
  abbrev pub RefusesNames : (Name → ℕ) → Settings → List Name → PassState V → PassState V → KeysRefused → Type 0
  RefusesNames hash set qs p p2 (Busy t) = IsBusyAmong (IsStripeOfAny hash set qs) set t p p2
  RefusesNames hash set qs p p2 (Twice i) = StandsAgain qs i × (p2 ≡ p)

  -- what the names are bound to in the stripes that the pass holds
  abbrev pub bound_to : List Name → PassState V → List (Option V)
  bound_to qs p = bound_in (bindings (contents_of p.stripes)) qs

  -- from p to p2 nothing but the stripes may have changed
  abbrev pub IsSameButStripes : PassState V → PassState V → Type 0
  IsSameButStripes p p2 = p2 ≡ record p { stripes = p2.stripes }

  -- the name was bound to the value where it was bound, and nothing else was changed
  abbrev pub IsUpdated : Name → V → PassState V → PassState V → Type 0
  IsUpdated q v p p2 = (reply : Reply V) × Step (bindings (contents_of p.stripes)) (On q (Update v)) reply (bindings (contents_of p2.stripes))

  -- these are the values of the names, and nothing changed
  abbrev pub FindsAll : List (Option V) → List (Option V) → List (Option V) → Type 0
  FindsAll values before after = (before ≡ values) × (after ≡ values)

  -- These were the values of the names. All were bound, and are bound to what the closure made of their values; or one was unbound, and nothing changed.
  abbrev pub ChangesAll : (List V → List V → Type 0) → List (Option V) → List (Option V) → List (Option V) → Type 0
  ChangesAll makes answer before after =
      (before ≡ answer)
      × (((values made : List V) × (before ≡ map Some values) × makes values made × (after ≡ map Some made))
      ⊎ (¬ (All IsSome before) × (after ≡ before)))

  -- All names were bound, to values for which the closure may answer this and leave these, and are bound to what it left; or one was unbound, and nothing changed.
  abbrev pub ModifiesAll : {R : Type 0} → (List V → R → List V → Type 0) → List V → Option R → List (Option V) → List (Option V) → Type 0
  ModifiesAll gives left (Some r) before after = (values : List V) × (before ≡ map Some values) × gives values r left × (after ≡ map Some left)
  ModifiesAll gives left None before after = ¬ (All IsSome before) × (after ≡ before)

  -- The names were bound to values that equal the expected ones, and are bound to the new ones; or to others, or one was unbound, and nothing changed.
  abbrev pub SetsIf : (V → V → Bool) → List V → List V → Bool → List (Option V) → List (Option V) → Type 0
  SetsIf equal expected new true before after = (values : List V) × (before ≡ map Some values) × IsTrue (pointwise equal values expected) × (after ≡ map Some new)
  SetsIf equal expected new false before after = (((values : List V) × (before ≡ map Some values) × (pointwise equal values expected ≡ false)) ⊎ ¬ (All IsSome before)) × (after ≡ before)

  -- The call on the names was answered at one moment, at which they went from these bindings to those, as `P` says of the answer; or it was refused.
  pub record HasQueriedAll {A : Type 0} (P : A → List (Option V) → List (Option V) → Type 0) (hash : Name → ℕ) (set : Settings) (qs : List Name) (result : Result A KeysRefused) (p p2 : PassState V) : Type 0 where
    pub answered : IfOk result (λ answer. (before after : List (Option V)) × P answer before after × IsAnswered (SessionOn qs before after) Closed p p2)
    pub refused : IfErr result (RefusesNames hash set qs p p2)
    pub found : FindsAmong (IsStripeOfAny hash set qs) p p2
