-- Calls on several keys at once.
use Rattle.std.proofs.Common.{◌≡◌, ◌⊎◌, ◌↔◌, Bool, true, false, ℕ, zero, suc, add-one, ◌+◌, ◌-◌, ◌<◌, List, [], ◌∷◌, ◌++◌, length, map, take, drop, get_or, inl, inr, ⊎_elim, refl, sym, ap, ◌∙◌, subst, arith}
use Rattle.std.specs.Prelude.{slice_set}
use Rattle.std.specs.List.{All, AllZip}
use Rattle.std.proofs.lemmas.List.{take_all, take_more, map-append, length-drop}
use Rattle.ck_key.specs.declared.key_hash.KeyHash.{KeyHash}
use Rattle.ck_key.specs.Hashes.{IsHashOf}
use Rattle.ck_model.specs.Arithmetic.{partial_of, index_of, second_of}
use Rattle.ck_model.specs.declared.settings.Settings.{Settings}
use Rattle.ck_model.specs.Numbered.{IsIn, AreDistinct}
use Rattle.ck_model.specs.Promise.{Name}
use Rattle.ck_model.specs.Contents.{layout_of, IsStripeOf}
use Rattle.ck_words.specs.StripeNumbers.{IsStripeOfSome}
use Rattle.ck_section.specs.declared.place.KeyPlace.{KeyPlace}
use Rattle.ck_section.specs.Places.{IsPlaceOf}
use Rattle.ck_words.specs.declared.stripe_set.StripeSet.{StripeSet}
use Rattle.ck_words.specs.Passes.{PassState}
use Rattle.cuckoo_map.specs.Holding.{HoldsKey}
use Rattle.cuckoo_map.specs.SeveralKeys.{IsStripeOfAny, StandsAgain, HoldsNames}
use Rattle.cuckoo_map.proofs.Calls.{holds_then}
use Rattle.cuckoo_map.proofs.Counted.{one_power_held}

-- the names of one key more
pub names_next : {K : Type 0} (name : K → Name) (keys : List K) (i : ℕ) (k : K) → i < length keys → k ≡ get_or keys i k → map name (take (i + 1) keys) ≡ map name (take i keys) ++ name k ∷ []
names_next name keys i k l is = ap (map name) (take_more keys i k l ∙ λ j. take i keys ++ sym is j ∷ []) ∙ map-append name (take i keys) (k ∷ [])

among_parts : (q : Name) (xs ys : List Name) → IsIn q (xs ++ ys) → IsIn q xs ⊎ IsIn q ys
among_parts q [] ys h = inr h
among_parts q (x ∷ xs) ys h = ⊎_elim (λ (e : x ≡ q). inl (inl e)) (λ r. ⊎_elim (λ i. inl (inr i)) (λ i. inr i) (among_parts q xs ys r)) h

-- a name is none of one name more
pub none_next : {K : Type 0} (name : K → Name) (q : Name) (keys : List K) (i : ℕ) (k : K) → i < length keys → k ≡ get_or keys i k → ¬ (IsIn q (map name (take i keys))) → ¬ (q ≡ name k) → ¬ (IsIn q (map name (take (i + 1) keys)))
none_next name q keys i k l is none other h =
    ⊎_elim none (λ (r : (name k ≡ q) ⊎ ⊥). ⊎_elim (λ e. other (sym e)) (λ x. x) r) (among_parts q (map name (take i keys)) (name k ∷ []) (subst (IsIn q) (names_next name keys i k l is) h))

-- the keys from one on
from_key : {K : Type 0} (keys : List K) (i : ℕ) (k : K) → i < length keys → k ≡ get_or keys i k → drop i keys ≡ k ∷ drop (suc i) keys
from_key [] i k l is = absurd (omega arith)
from_key (x ∷ xs) zero k l is = λ j. sym is j ∷ xs
from_key (x ∷ xs) (suc i) k l is = from_key xs i k (omega arith) is

-- those behind it, as they are lent
pub behind : {K : Type 0} (keys : List K) (n : ℕ) → take (length keys - n) (drop n keys) ≡ drop n keys
behind keys n = let l = length-drop n keys in take_all (length keys - n) (drop n keys) (omega arith)

pub different_next : {K : Type 0} (name : K → Name) (keys : List K) (i : ℕ) (k : K) → i < length keys → k ≡ get_or keys i k → ¬ (IsIn (name k) (map name (drop (i + 1) keys))) → AreDistinct (map name (drop (i + 1) keys)) → AreDistinct (map name (drop i keys))
different_next name keys i k l is none rest =
    let next : drop (i + 1) keys ≡ drop (suc i) keys = ap (λ n. drop n keys) (add-one i) in
    subst (λ ks. AreDistinct (map name ks)) (sym (from_key keys i k l is)) (
      subst (λ ks. ¬ (IsIn (name k) (map name ks))) next none,
      subst (λ ks. AreDistinct (map name ks)) next rest,
    )

again : {K : Type 0} (name : K → Name) (keys : List K) (i : ℕ) (k : K) → i < length keys → k ≡ get_or keys i k → IsIn (name k) (map name (drop (suc i) keys)) → StandsAgain (map name keys) i
again name [] i k l is h = absurd (omega arith)
again name (x ∷ xs) zero k l is h = subst (λ y. IsIn (name y) (map name xs)) is h
again name (x ∷ xs) (suc i) k l is h = again name xs i k (omega arith) is h

pub stands_again : {K : Type 0} (name : K → Name) (keys : List K) (i : ℕ) (k : K) → i < length keys → k ≡ get_or keys i k → IsIn (name k) (map name (drop (i + 1) keys)) → StandsAgain (map name keys) i
stands_again name keys i k l is h = again name keys i k l is (subst (λ n. IsIn (name k) (map name (drop n keys))) (add-one i) h)

-- the stripes of the hashes are those of the names
module _ (hash : Name → ℕ) (set : Settings) {s : ℕ} (same : s ≡ set.s) where
  of_hash : (q : Name) (h : KeyHash) → IsHashOf hash q h → (t : ℕ) → ((t ≡ index_of s h.hash) ⊎ (t ≡ second_of s h.hash)) ≡ IsStripeOf (layout_of hash set) q t
  of_hash q h hashed t = ap (λ (n : ℕ × ℕ). (t ≡ index_of n.0 n.1) ⊎ (t ≡ second_of n.0 n.1)) (λ j. (same j, hashed.value j))

  pub of_each : (qs : List Name) (hs : List KeyHash) → AllZip (IsHashOf hash) qs hs → (t : ℕ) → IsStripeOfSome s hs t ↔ IsStripeOfAny hash set qs t
  of_each [] [] z t = ((λ h. h), (λ h. h))
  of_each [] (h ∷ hs) z t = absurd z
  of_each (q ∷ qs) [] z t = absurd z
  of_each (q ∷ qs) (h ∷ hs) z t =
      let rest = of_each qs hs z.1 t in
      let one = of_hash q h z.0 t in (
        (λ x. ⊎_elim (λ a. inl (subst (λ (A : Type 0). A) one a)) (λ r. inr (rest.0 r)) x),
        (λ x. ⊎_elim (λ a. inl (subst (λ (A : Type 0). A) (sym one) a)) (λ r. inr (rest.1 r)) x),
      )

  -- a set has just these
  pub of_names : (ns : List ℕ) (qs : List Name) (hs : List KeyHash) → AllZip (IsHashOf hash) qs hs → ((t : ℕ) → IsIn t ns ↔ IsStripeOfSome s hs t) → (t : ℕ) → IsIn t ns ↔ IsStripeOfAny hash set qs t
  of_names ns qs hs z exact t = let of = exact t in let any = of_each qs hs z t in ((λ i. any.0 (of.0 i)), (λ a. of.1 (any.1 a)))

-- a name's stripes are stripes of one of the names
pub stripe_of_any : (hash : Name → ℕ) (set : Settings) (qs : List Name) (q : Name) (t : ℕ) → IsIn q qs → IsStripeOf (layout_of hash set) q t → IsStripeOfAny hash set qs t
stripe_of_any hash set [] q t i of = absurd i
stripe_of_any hash set (x ∷ xs) q t i of = ⊎_elim (λ (e : x ≡ q). inl (subst (λ (z : Name). IsStripeOf (layout_of hash set) z t) (sym e) of)) (λ r. inr (stripe_of_any hash set xs q t r of)) i

-- The first of the names that the pass holds may be at its place.
pub holds_first : {V : Type 0} {hash : Name → ℕ} {set : Settings} {q : Name} {qs : List Name} {stripes : StripeSet} {place : KeyPlace} (p p1 : PassState V) → HoldsNames hash set (q ∷ qs) stripes p p1 → IsPlaceOf hash p1.stripes q place → place.s ≡ stripes.s
    → (p2 : PassState V) → p2.stripes ≡ p1.stripes → p2.view ≡ p1.view → HoldsKey hash set q place p p2
holds_first {V} {hash} {set} {q} p p1 h at s p2 same view = holds_then p p1 h.stays (h.owned q (inl refl)) h.unchanged (one_power_held set.s p1.stripes h.settled) at (s ∙ h.of_table) p2 same view

-- one hash more
one_more : {K : Type 0} (hash : Name → ℕ) (name : K → Name) (keys : List K) (hs : List KeyHash) (i : ℕ) (k : K) (h : KeyHash) → i < length keys → i < length hs → k ≡ get_or keys i k → IsHashOf hash (name k) h
    → AllZip (IsHashOf hash) (map name (take i keys)) (take i hs) → AllZip (IsHashOf hash) (map name (take (suc i) keys)) (take (suc i) (slice_set hs i h))
one_more hash name [] hs i k h lk lh is hashed so_far = absurd (omega arith)
one_more hash name (x ∷ xs) [] i k h lk lh is hashed so_far = absurd (omega arith)
one_more hash name (x ∷ xs) (y ∷ ys) zero k h lk lh is hashed so_far = (subst (λ z. IsHashOf hash (name z) h) is hashed, tt)
one_more hash name (x ∷ xs) (y ∷ ys) (suc i) k h lk lh is hashed so_far = (so_far.0, one_more hash name xs ys i k h (omega arith) (omega arith) is hashed so_far.1)

pub hashes_next : {K : Type 0} (hash : Name → ℕ) (name : K → Name) (keys : List K) (hs : List KeyHash) (i : ℕ) (k : K) (h : KeyHash) → i < length keys → i < length hs → k ≡ get_or keys i k → IsHashOf hash (name k) h
    → AllZip (IsHashOf hash) (map name (take i keys)) (take i hs) → AllZip (IsHashOf hash) (map name (take (i + 1) keys)) (take (i + 1) (slice_set hs i h))
hashes_next hash name keys hs i k h lk lh is hashed so_far =
    subst (λ n. AllZip (IsHashOf hash) (map name (take n keys)) (take n (slice_set hs i h))) (sym (add-one i)) (one_more hash name keys hs i k h lk lh is hashed so_far)

-- each is the hash of a name, with its partial
pub partials_of : (hash : Name → ℕ) (qs : List Name) (hs : List KeyHash) → AllZip (IsHashOf hash) qs hs → All (λ (h : KeyHash). h.partial ≡ partial_of h.hash) hs
partials_of hash [] [] z i d l = absurd (omega arith)
partials_of hash [] (h ∷ hs) z i d l = absurd z
partials_of hash (q ∷ qs) [] z i d l = absurd z
partials_of hash (q ∷ qs) (h ∷ hs) z zero d l = z.0.partial ∙ ap partial_of (sym z.0.value)
partials_of hash (q ∷ qs) (h ∷ hs) z (suc i) d l = partials_of hash qs hs z.1 i d (omega arith)

-- what is true isn't false
pub never : (b : Bool) → b ≡ true → b ≡ false → ⊥
never b e f = cc
