-- Several names that are bound to given values, one after the other.
use Rattle.std.proofs.Common.{◌≡◌, ◌≢◌, ℕ, zero, suc, ◌<◌, ◌≤◌, ◌+◌, List, [], ◌∷◌, ◌++◌, Option, Some, None, IsSome, All, length, map, take, get_or, inl, inr, refl, sym, ◌∙◌, ap, subst, arith}
use Rattle.std.specs.Prelude.{slice_set}
use Rattle.std.proofs.lemmas.List.{take_all, take_more, take_more_set, map-append, length-map}
use Rattle.std.specs.FinMap.{get}
use Rattle.ck_model.specs.declared.history.Act.TheVariants.{Update}
use Rattle.ck_model.specs.declared.history.Call.TheVariants.{On}
use Rattle.ck_model.specs.declared.history.Reply.{Reply}
use Rattle.ck_model.specs.Promise.{Name, Map, Answers, Step, bound_in}
use Rattle.ck_model.specs.Numbered.{IsIn, AreDistinct}
use Rattle.ck_section.proofs.SeveralKeys.{key_among}
use Rattle.ck_words.specs.Words.{WordsState}
use Rattle.ck_words.specs.Passes.{PassState}
use Rattle.cuckoo_map.specs.LockedKeys.{KeysState, keys_of}

-- the name of the key at a position
pub name_at : {K : Type 0} (name : K → Name) (keys : List K) (i : ℕ) (k : K) → i < length keys → k ≡ get_or keys i k → name k ≡ get_or (map name keys) i []
name_at name [] i k l is = absurd (omega arith)
name_at name (x ∷ xs) zero k l is = ap name is
name_at name (x ∷ xs) (suc i) k l is = name_at name xs i k (omega arith) is

-- a name at a position is one of them
at_among : (names : List Name) (i : ℕ) → i < length names → IsIn (get_or names i []) names
at_among [] i l = absurd (omega arith)
at_among (x ∷ xs) zero l = inl refl
at_among (x ∷ xs) (suc i) l = inr (at_among xs i (omega arith))

-- a key at a position is one of the names that locked keys show, at that position
pub shown_at : {K V : Type 0} (name : K → Name) (keys : List K) (w : WordsState) (p : PassState V) (k : KeysState V) → keys_of w (map name keys) p ≡ k → (i : ℕ) (key : K) → i < length k.names → key ≡ get_or keys i key → IsIn (name key) k.names × (name key ≡ get_or k.names i [])
shown_at {K} {V} name keys w p k is i key inside at =
    let names : map name keys ≡ k.names = ap (λ (x : KeysState V). x.names) is in
    let within : i < length keys = subst (λ (n : ℕ). i < n) (length-map keys name) (subst (λ (l : List Name). i < length l) (sym names) inside) in
    subst (λ (l : List Name). IsIn (name key) l × (name key ≡ get_or l i [])) names (key_among name keys i key within at, name_at name keys i key within at)

module _ {V : Type 0} where
  -- a bound name is bound to what it is updated to
  updated_to : (o o2 : Option V) (v : V) (r : Reply V) → Answers (Update v) o r o2 → IsSome o → o2 ≡ Some v
  updated_to (Some u) o2 v r a some = a.1
  updated_to None o2 v r a some = absurd (cc)

  -- names other than one that was updated keep their values
  kept_by : (m m2 : Map V) (q : Name) → ((r : Name) → r ≢ q → get m2 r ≡ get m r) → (names : List Name) → ¬ (IsIn q names) → bound_in m2 names ≡ bound_in m names
  kept_by m m2 q others [] out = refl
  kept_by m m2 q others (x ∷ xs) out = λ j. others x (λ e. out (inl e)) j ∷ kept_by m m2 q others xs (λ i. out (inr i)) j

  -- of different names that are bound, the one at a position was bound to the value
  pub set_bound : (m m2 : Map V) (v : V) (r : Reply V) (names : List Name) (i : ℕ) → i < length names → AreDistinct names → All IsSome (bound_in m names) → Step m (On (get_or names i []) (Update v)) r m2 → bound_in m2 names ≡ slice_set (bound_in m names) i (Some v)
  set_bound m m2 v r [] i l different some step = absurd (omega arith)
  set_bound m m2 v r (x ∷ xs) zero l different some step = λ j. updated_to (get m x) (get m2 x) v r step.0 (some 0 None (omega arith)) j ∷ kept_by m m2 x step.1 xs different.0 j
  set_bound m m2 v r (x ∷ xs) (suc i) l different some step =
      let apart : x ≢ get_or xs i [] = λ e. different.0 (subst (λ (z : Name). IsIn z xs) (sym e) (at_among xs i (omega arith))) in
      λ j. step.1 x apart j ∷ set_bound m m2 v r xs i (omega arith) different.1 (λ k d l. some (suc k) d (omega arith)) step j

  -- by which all are bound still
  pub all_set : (xs : List (Option V)) (i : ℕ) (v : V) → All IsSome xs → All IsSome (slice_set xs i (Some v))
  all_set [] i v some k d l = some k d l
  all_set (x ∷ xs) zero v some zero d l = refl
  all_set (x ∷ xs) zero v some (suc k) d l = some (suc k) d (omega arith)
  all_set (x ∷ xs) (suc i) v some zero d l = some zero d (omega arith)
  all_set (x ∷ xs) (suc i) v some (suc k) d l = all_set xs i v (λ n d2 l2. some (suc n) d2 (omega arith)) k d (omega arith)

  -- the value at one position more
  pub next_written : (b : List (Option V)) (vs : List V) (i : ℕ) (v : V) → i < length b → i < length vs → v ≡ get_or vs i v → take i b ≡ map Some (take i vs) → take (i + 1) (slice_set b i (Some v)) ≡ map Some (take (i + 1) vs)
  next_written b vs i v lb lv is so_far =
      let more : take (i + 1) vs ≡ take i vs ++ v ∷ [] = take_more vs i v lv ∙ λ j. take i vs ++ sym is j ∷ [] in
      take_more_set b i (Some v) lb ∙ ((λ j. so_far j ++ Some v ∷ []) ∙ sym (ap (map Some) more ∙ map-append Some (take i vs) (v ∷ [])))

  -- the values at all positions
  pub all_written : (b : List (Option V)) (vs : List V) (i : ℕ) → length vs ≤ i → length b ≡ length vs → take i b ≡ map Some (take i vs) → b ≡ map Some vs
  all_written b vs i all same so_far = sym (take_all i b (omega arith)) ∙ (so_far ∙ ap (map Some) (take_all i vs all))

  -- names with values are bound
  pub all_some : (vs : List V) → All IsSome (map Some vs)
  all_some [] k d l = absurd (omega arith)
  all_some (v ∷ vs) zero d l = refl
  all_some (v ∷ vs) (suc k) d l = all_some vs k d (omega arith)

  -- where one has none, not all are
  pub not_all : (xs : List (Option V)) (i : ℕ) → i < length xs → get_or xs i None ≡ None → ¬ (All IsSome xs)
  not_all xs i l none all = let some = all i None l in absurd (cc)
