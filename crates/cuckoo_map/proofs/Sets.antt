-- The stripes of keys, as a set of them, which a pass takes.
use Rattle.std.proofs.Common.{◌≡◌, ◌⊎◌, ◌↔◌, ℕ, ◌<◌, ◌^◌, List, sym, subst, ◌∙◌}
use Rattle.ck_key.specs.declared.key_hash.KeyHash.{KeyHash}
use Rattle.ck_key.specs.Hashes.{IsHashOf}
use Rattle.ck_model.specs.Arithmetic.{index_of, second_of}
use Rattle.ck_model.specs.Numbered.{IsIn, numbers}
use Rattle.ck_model.specs.declared.settings.Settings.{Settings}
use Rattle.ck_model.specs.Promise.{Name}
use Rattle.ck_model.specs.Contents.{layout_of, IsStripeOf}
use Rattle.ck_stripe.specs.Stripe.{StripeState}
use Rattle.ck_stripe.specs.Stripes.{contents_of}
use Rattle.ck_stripe.specs.Tables.{HasStripe}
use Rattle.ck_section.specs.Places.{HasBoth}
use Rattle.ck_section.proofs.Owned.{has_stripe}
use Rattle.ck_words.specs.Passes.{PassState, numbers_of}
use Rattle.ck_words.specs.Retries.{Stays, FindsAmong, IsBusy}
use Rattle.ck_words.specs.declared.stripe_set.StripeSet.{StripeSet}
use Rattle.ck_words.specs.StripeSets.{list_of}
use Rattle.ck_words.proofs.Numbers.{all_in}
use Rattle.ck_words.proofs.Seating.{numbers-contents}
use Rattle.cuckoo_map.specs.Refusals.{IsBusyAmong}

-- the set has just the stripes that are so
module _ {P : ℕ → Type 0} (ns : List ℕ) (exact : (t : ℕ) → IsIn t ns ↔ P t) where
  pub holds_each : {V : Type 0} (ss : List (StripeState V)) → numbers_of ss ≡ ns → (t : ℕ) → P t → IsIn t (numbers (contents_of ss))
  holds_each ss named t of = subst (IsIn t) (sym (numbers-contents ss ∙ named)) ((exact t).1 of)

  pub has_each : {V : Type 0} (ss : List (StripeState V)) → numbers_of ss ≡ ns → (t : ℕ) → P t → HasStripe ss t
  has_each ss named t of = has_stripe ss t (holds_each ss named t of)

  pub finds_such : {V : Type 0} (p p2 : PassState V) → FindsAmong (λ t. IsIn t ns) p p2 → FindsAmong P p p2
  finds_such p p2 f = (f.0, f.1, (λ t i. (exact t).0 (f.2 t i)))

  pub busy_such : {V : Type 0} (set : Settings) (p p2 : PassState V) (t : ℕ) → Stays p.view p2.view → IsBusy set t p p2 → IsIn t ns → IsBusyAmong P set t p p2
  busy_such set p p2 t stays busy i = record { stays = stays; stripe = (exact t).0 i; tried = busy.1; others = busy.2; missed = busy.3 }

-- they are those of a name, whose hash this is
pub of_name : {hash : Name → ℕ} (set : Settings) {q : Name} {s : ℕ} {h : KeyHash} (ns : List ℕ) → s ≡ set.s → IsHashOf hash q h → ((t : ℕ) → IsIn t ns ↔ ((t ≡ index_of s h.hash) ⊎ (t ≡ second_of s h.hash)))
    → (t : ℕ) → IsIn t ns ↔ IsStripeOf (layout_of hash set) q t
of_name set ns same hashed are = subst (λ (n : ℕ × ℕ). (t : ℕ) → IsIn t ns ↔ ((t ≡ index_of n.0 n.1) ⊎ (t ≡ second_of n.0 n.1))) (λ j. (same j, hashed.value j)) are

-- both stripes of the name are held
pub has_both : {V : Type 0} (hash : Name → ℕ) (set : Settings) (q : Name) (ns : List ℕ) → ((t : ℕ) → IsIn t ns ↔ IsStripeOf (layout_of hash set) q t) → (ss : List (StripeState V)) → numbers_of ss ≡ ns → HasBoth hash set.s ss q
has_both hash set q ns exact ss named max t of = holds_each ns exact ss named t of

-- each stripe of a set is one of the table
pub below_set : (x : StripeSet) (s t : ℕ) → x.s ≡ s → IsIn t (list_of x) → t < 2 ^ s
below_set x s t same i = subst (λ n. t < 2 ^ n) same (all_in (λ u. u < 2 ^ x.s) (list_of x) x.inside t i)
