-- What several keys are bound to among held stripes.
use Rattle.std.proofs.Common.{◌≡◌, ℕ, zero, suc, ◌<◌, ◌≤◌, ◌+◌, List, [], ◌∷◌, ◌++◌, Option, Some, None, IsSome, All, IfSome, IfNone, length, map, take, get_or, inl, inr, sym, ◌∙◌, ap, subst, arith}
use Rattle.std.specs.Prelude.{slice_set}
use Rattle.std.proofs.lemmas.List.{take_all, take_more, take_more_set, map-append}
use Rattle.std.specs.FinMap.{get}
use Rattle.ck_model.specs.declared.history.Act.TheVariants.{Find}
use Rattle.ck_model.specs.declared.history.Reply.TheVariants.{Was}
use Rattle.ck_model.specs.Promise.{Name, Map, Answers, bound_in}
use Rattle.ck_model.specs.Numbered.{IsIn}
use Rattle.ck_model.specs.Contents.{layout, Lawful, bindings}
use Rattle.ck_stripe.specs.Stripe.{StripeState}
use Rattle.ck_stripe.specs.Stripes.{contents_of}
use Rattle.ck_section.proofs.Decided.{IsCallOn}

-- a key of the list has one of its names
pub key_among : {K : Type 0} (name : K → Name) (keys : List K) (i : ℕ) (k : K) → i < length keys → k ≡ get_or keys i k → IsIn (name k) (map name keys)
key_among name [] i k l is = absurd (omega arith)
key_among name (x ∷ xs) zero k l is = inl (ap name (sym is))
key_among name (x ∷ xs) (suc i) k l is = inr (key_among name xs i k (omega arith) is)

-- the names of one key more
pub names_more : {K : Type 0} (name : K → Name) (keys : List K) (i : ℕ) (k : K) → i < length keys → k ≡ get_or keys i k → map name (take (i + 1) keys) ≡ map name (take i keys) ++ name k ∷ []
names_more name keys i k lk is =
    let more : take (i + 1) keys ≡ take i keys ++ k ∷ [] = take_more keys i k lk ∙ λ j. take i keys ++ sym is j ∷ [] in
    ap (map name) more ∙ map-append name (take i keys) (k ∷ [])

module _ {V : Type 0} where
  -- a look-up replies with what the name is bound to
  pub found_reply : (o p o2 : Option V) → Answers Find o (Was p) o2 → p ≡ o
  found_reply (Some v) p o2 a = let e = a.0 in cc
  found_reply None p o2 a = let e = a.0 in cc

  -- a copy of what was found
  pub copied : (P : Option V → Type 0) (A : V → V → Type 0) → ((v r : V) → A v r → r ≡ v) → (B : Type 0) (o : Option V) → IfSome o (λ r. (v : V) × A v r × P (Some v)) → IfNone o (B × P None) → P o
  copied P A copies B (Some r) bound unbound = subst P (ap Some (sym (copies bound.0 r bound.1))) bound.2
  copied P A copies B None bound unbound = unbound.1

  -- what was found is what the name is bound to
  pub found_bound : (hash : Name → ℕ) (s : ℕ) (stripes new : List (StripeState V)) (q : Name) (o : Option V) → IsCallOn hash s stripes q Find (Was o) new
      → (max : ℕ) → Lawful (layout hash s max) (contents_of stripes) → o ≡ get (bindings (contents_of stripes)) q
  found_bound hash s stripes new q o call max lawful = found_reply (get (bindings (contents_of stripes)) q) o (get (bindings (contents_of new)) q) (call max lawful).step.0

  module _ {K : Type 0} (name : K → Name) where
    -- what one key more is bound to
    bound_more : (m : Map V) (keys : List K) (i : ℕ) (k : K) → i < length keys → k ≡ get_or keys i k → bound_in m (map name (take (i + 1) keys)) ≡ bound_in m (map name (take i keys)) ++ get m (name k) ∷ []
    bound_more m keys i k lk is = ap (map (get m)) (names_more name keys i k lk is) ∙ map-append (get m) (map name (take i keys)) (name k ∷ [])

    -- the value of one key more was written
    pub bound_next : (m : Map V) (keys : List K) (values : List (Option V)) (i : ℕ) (k : K) (o : Option V) → i < length keys → i < length values → k ≡ get_or keys i k
        → take i values ≡ bound_in m (map name (take i keys)) → o ≡ get m (name k) → take (i + 1) (slice_set values i o) ≡ bound_in m (map name (take (i + 1) keys))
    bound_next m keys values i k o lk lv is so_far found = take_more_set values i o lv ∙ ((λ j. so_far j ++ found j ∷ []) ∙ sym (bound_more m keys i k lk is))

    -- the same of a key that is bound
    pub some_next : (m : Map V) (keys : List K) (values : List V) (i : ℕ) (k : K) (v : V) → i < length keys → i < length values → k ≡ get_or keys i k
        → bound_in m (map name (take i keys)) ≡ map Some (take i values) → Some v ≡ get m (name k) → bound_in m (map name (take (i + 1) keys)) ≡ map Some (take (i + 1) (slice_set values i v))
    some_next m keys values i k v lk lv is so_far found =
        let more : map Some (take (i + 1) (slice_set values i v)) ≡ map Some (take i values) ++ Some v ∷ [] = ap (map Some) (take_more_set values i v lv) ∙ map-append Some (take i values) (v ∷ []) in
        bound_more m keys i k lk is ∙ ((λ j. so_far j ++ sym found j ∷ []) ∙ sym more)

    -- where one is unbound, not all are bound
    pub one_unbound : (m : Map V) (keys : List K) (i : ℕ) (k : K) → i < length keys → k ≡ get_or keys i k → None ≡ get m (name k) → ¬ (All IsSome (bound_in m (map name keys)))
    one_unbound m [] i k l is none all = absurd (omega arith)
    one_unbound m (x ∷ xs) zero k l is none all = let some = all 0 None (omega arith) in let here : None ≡ get m (name x) = none ∙ ap (λ z. get m (name z)) is in let no : IsSome {T = V} None = subst IsSome (sym here) some in absurd (cc)
    one_unbound m (x ∷ xs) (suc i) k l is none all = one_unbound m xs i k (omega arith) is none (λ n d b. all (suc n) d (omega arith))

    -- all were written
    pub bound_all : (m : Map V) (keys : List K) (values : List (Option V)) (i : ℕ) → length keys ≤ i → length values ≡ length keys → take i values ≡ bound_in m (map name (take i keys)) → values ≡ bound_in m (map name keys)
    bound_all m keys values i all same so_far = sym (take_all i values (omega arith)) ∙ (so_far ∙ ap (λ l. bound_in m (map name l)) (take_all i keys all))

    -- all of those that are bound
    pub some_all : (m : Map V) (keys : List K) (values : List V) (i : ℕ) → length keys ≤ i → length values ≡ length keys → bound_in m (map name (take i keys)) ≡ map Some (take i values) → bound_in m (map name keys) ≡ map Some values
    some_all m keys values i all same so_far = ap (λ l. bound_in m (map name l)) (sym (take_all i keys all)) ∙ (so_far ∙ ap (map Some) (take_all i values (omega arith)))
