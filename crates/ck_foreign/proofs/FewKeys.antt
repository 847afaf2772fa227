-- Several keys of C's, one after the other.
use Rattle.std.proofs.Common.{◌≡◌, ◌≢◌, ℕ, zero, suc, ◌<◌, ◌≤◌, ◌+◌, List, [], ◌∷◌, Option, Some, None, Result, Ok, length, map, get_or, set, refl, sym, ◌∙◌, ap, subst, arith}
use Rattle.std.specs.Prelude.{IsSome, All, IfOk}
use Rattle.std.proofs.lemmas.List.{get_or_default, length-set, get_or-set_same, get_or-set_other}
use mathlib.Core.Logic.{dite}
use native.Mathlib.Decide.{dec_lt}
use Rattle.ck_foreign.specs.declared.several.CuckooEntry.{CuckooEntry}
use Rattle.ck_model.specs.declared.history.Call.TheVariants.{SessionOn}
use Rattle.ck_model.specs.declared.history.Reply.TheVariants.{Closed}
use Rattle.ck_model.specs.Promise.{Name}
use Rattle.ck_refusal.specs.declared.refusal.KeysRefused.{KeysRefused}
use Rattle.cuckoo_map.specs.Callers.{CallerState, KeysLeave, Replies}
use Rattle.ck_foreign.specs.declared.code.Code.{Code}
use Rattle.ck_foreign.specs.Handles.{Calls}
use Rattle.ck_foreign.specs.Several.{changed_by, showing, ShowsEach}

-- values that are there one by one are there
same_values : (xs : List (Option ℕ)) (ys : List ℕ) → length xs ≡ length ys → ((j : ℕ) → j < length ys → get_or xs j None ≡ Some (get_or ys j 0)) → xs ≡ map Some ys
same_values [] [] e each = refl
same_values [] (y ∷ ys) e each = absurd (omega arith)
same_values (x ∷ xs) [] e each = absurd (omega arith)
same_values (x ∷ xs) (y ∷ ys) e each = λ k. each 0 (omega arith) k ∷ same_values xs ys (omega arith) (λ j l. each (suc j) (omega arith)) k

module _ {C : Type 0} (made : C → ℕ → Option ℕ) where
  -- as many values as there were come out
  pub changed_long : (cs : List C) (vs : List ℕ) → length cs ≡ length vs → length (changed_by made cs vs) ≡ length vs
  changed_long [] [] e = refl
  changed_long [] (v ∷ vs) e = absurd (omega arith)
  changed_long (c ∷ cs) [] e = absurd (omega arith)
  changed_long (c ∷ cs) (v ∷ vs) e = let r = changed_long cs vs (omega arith) in omega arith

  -- each is what its change makes of the one that was there
  pub changed_at : (cs : List C) (vs : List ℕ) (i : ℕ) (c : C) (v : ℕ) (d : Option ℕ) → length cs ≡ length vs → i < length vs → c ≡ get_or cs i c → v ≡ get_or vs i v → get_or (changed_by made cs vs) i d ≡ made c v
  changed_at [] [] i c v d e l is_c is_v = absurd (omega arith)
  changed_at [] (y ∷ ys) i c v d e l is_c is_v = absurd (omega arith)
  changed_at (x ∷ xs) [] i c v d e l is_c is_v = absurd (omega arith)
  changed_at (x ∷ xs) (y ∷ ys) zero c v d e l is_c is_v = λ j. made (sym is_c j) (sym is_v j)
  changed_at (x ∷ xs) (y ∷ ys) (suc i) c v d e l is_c is_v = changed_at xs ys i c v d (omega arith) (omega arith) is_c is_v

  -- of another number of changes than of values, one comes to nothing
  pub other_long : (cs : List C) (vs : List ℕ) → length cs ≢ length vs → ¬ (All IsSome (changed_by made cs vs))
  other_long [] [] ne all = absurd (ne refl)
  other_long [] (v ∷ vs) ne all = let some : IsSome {T = ℕ} None = all 0 None (omega arith) in absurd (cc)
  other_long (c ∷ cs) [] ne all = let some : IsSome {T = ℕ} None = all 0 None (omega arith) in absurd (cc)
  other_long (c ∷ cs) (v ∷ vs) ne all = other_long cs vs (λ e. ne (omega arith)) (λ k d l. all (suc k) d (omega arith))

  -- where all come to something, there are as many
  pub same_long : (cs : List C) (vs : List ℕ) → All IsSome (changed_by made cs vs) → length cs ≡ length vs
  same_long [] [] all = refl
  same_long [] (v ∷ vs) all = let some : IsSome {T = ℕ} None = all 0 None (omega arith) in absurd (cc)
  same_long (c ∷ cs) [] all = let some : IsSome {T = ℕ} None = all 0 None (omega arith) in absurd (cc)
  same_long (c ∷ cs) (v ∷ vs) all = let e = same_long cs vs (λ k d l. all (suc k) d (omega arith)) in omega arith

  -- where one change comes to nothing, not all come to something
  pub one_refused : (cs : List C) (vs : List ℕ) (i : ℕ) (c : C) (v : ℕ) → length cs ≡ length vs → i < length vs → c ≡ get_or cs i c → v ≡ get_or vs i v → made c v ≡ None → ¬ (All IsSome (changed_by made cs vs))
  one_refused cs vs i c v e l is_c is_v none all =
      let some : IsSome {T = ℕ} None = subst IsSome (changed_at cs vs i c v None e l is_c is_v ∙ none) (all i None (let long = changed_long cs vs e in omega arith)) in
      absurd (cc)

  -- The first i values have become what they were to become, and the others are as they were.
  pub record HasChanged (cs : List C) (old : List ℕ) (i : ℕ) (now : List ℕ) : Type 0 where
    pub long : length now ≡ length old
    pub so_far : (j : ℕ) → j < i → get_or (changed_by made cs old) j None ≡ Some (get_or now j 0)
    pub rest : (j : ℕ) → i ≤ j → get_or now j 0 ≡ get_or old j 0

  -- one more has
  pub changed_next : (cs : List C) (old : List ℕ) (i : ℕ) (now : List ℕ) (c : C) (v w : ℕ) → length cs ≡ length old → i < length old → c ≡ get_or cs i c → v ≡ get_or now i v → made c v ≡ Some w → HasChanged cs old i now → HasChanged cs old (i + 1) (set now i w)
  changed_next cs old i now c v w e l is_c is_v makes h =
      let room : i < length now = let long = h.long in omega arith in
      let was : v ≡ get_or old i v = is_v ∙ get_or_default now i v 0 room ∙ h.rest i (omega arith) ∙ get_or_default old i 0 v l in
      record {
        long = length-set now i w ∙ h.long;
        so_far = λ j b. dite (dec_lt j i)
            (λ (m : j < i). let apart : j ≢ i = omega arith in h.so_far j m ∙ ap Some (sym (get_or-set_other now i j w 0 apart)))
            (λ n. let last : i ≡ j = omega arith in subst (λ k. get_or (changed_by made cs old) k None ≡ Some (get_or (set now i w) k 0)) last (changed_at cs old i c v None e l is_c was ∙ (makes ∙ ap Some (sym (get_or-set_same now i w 0 room)))));
        rest = λ j b. let apart : j ≢ i = omega arith in get_or-set_other now i j w 0 apart ∙ h.rest j (omega arith);
      }

  -- all have
  pub changed_all : (cs : List C) (old : List ℕ) (i : ℕ) (now : List ℕ) → length cs ≡ length old → length now ≤ i → HasChanged cs old i now → changed_by made cs old ≡ map Some now
  changed_all cs old i now e all h =
      let long = h.long in
      same_values (changed_by made cs old) now (let c = changed_long cs old e in omega arith) (λ j l. h.so_far j (omega arith))

-- The first i entries show their values, and the others are as they were.
pub record HasShown (values : List (Option ℕ)) (old : List CuckooEntry) (i : ℕ) (now : List CuckooEntry) : Type 0 where
  pub long : length now ≡ length old
  pub so_far : (j : ℕ) (d : CuckooEntry) → j < i → get_or now j d ≡ showing (get_or values j None) (get_or old j d)
  pub rest : (j : ℕ) (d : CuckooEntry) → i ≤ j → get_or now j d ≡ get_or old j d

-- one more does
pub shown_next : (values : List (Option ℕ)) (old : List CuckooEntry) (i : ℕ) (now : List CuckooEntry) (v : Option ℕ) (e f : CuckooEntry) → length values ≡ length old → i < length old → v ≡ get_or values i v → e ≡ get_or now i e → f ≡ showing v e → HasShown values old i now → HasShown values old (i + 1) (set now i f)
shown_next values old i now v e f same l is_v is_e shows h =
    let room : i < length now = let long = h.long in omega arith in
    record {
      long = length-set now i f ∙ h.long;
      so_far = λ j d b. dite (dec_lt j i)
          (λ (m : j < i). let apart : j ≢ i = omega arith in get_or-set_other now i j f d apart ∙ h.so_far j d m)
          (λ n. let last : i ≡ j = omega arith in
          let here : showing v e ≡ showing (get_or values i None) (get_or old i d) = λ k. showing ((is_v ∙ get_or_default values i v None (omega arith)) k) ((is_e ∙ (get_or_default now i e d room ∙ h.rest i d (omega arith))) k) in
          subst (λ k. get_or (set now i f) k d ≡ showing (get_or values k None) (get_or old k d)) last (get_or-set_same now i f d room ∙ (shows ∙ here)));
      rest = λ j d b. let apart : j ≢ i = omega arith in get_or-set_other now i j f d apart ∙ h.rest j d (omega arith);
    }

-- entries that show their values one by one show them all
shows_each : (values : List (Option ℕ)) (old now : List CuckooEntry) → length values ≡ length old → length now ≡ length old → ((j : ℕ) (d : CuckooEntry) → j < length old → get_or now j d ≡ showing (get_or values j None) (get_or old j d)) → ShowsEach values old now
shows_each [] [] [] e f each = tt
shows_each [] [] (n ∷ ns) e f each = absurd (omega arith)
shows_each [] (o ∷ os) now e f each = absurd (omega arith)
shows_each (v ∷ vs) [] now e f each = absurd (omega arith)
shows_each (v ∷ vs) (o ∷ os) [] e f each = absurd (omega arith)
shows_each (v ∷ vs) (o ∷ os) (n ∷ ns) e f each = (each 0 o (omega arith), shows_each vs os ns (omega arith) (omega arith) (λ j d l. each (suc j) d (omega arith)))

-- all do
pub shown_all : (values : List (Option ℕ)) (old : List CuckooEntry) (i : ℕ) (now : List CuckooEntry) → length values ≡ length old → length old ≤ i → HasShown values old i now → ShowsEach values old now
shown_all values old i now same all h = shows_each values old now same h.long (λ j d l. h.so_far j d (omega arith))

-- what a call leaves may be said in another way
pub calls_as : (P Q : CallerState ℕ → CallerState ℕ → Type 0) (was now : Option (CallerState ℕ)) (code : Code) → Calls P was now code → ((c d : CallerState ℕ) → P c d → Q c d) → Calls Q was now code
calls_as P Q (Some c) now code h says = (h.0, h.1, says c h.0 h.2)
calls_as P Q None now code h says = h

-- what a call on several keys has left that was answered so
pub at_answer : {A : Type 0} {P : A → List (Option ℕ) → List (Option ℕ) → Type 0} (hash : Name → ℕ) (names : List Name) (r : Result A KeysRefused) (c d : CallerState ℕ) → KeysLeave P hash names r c d → (a : A) → r ≡ Ok a
    → (before after : List (Option ℕ)) × P a before after × Replies (SessionOn names before after) c d Closed
at_answer {A} {P} hash names r c d k a is = subst (λ (x : Result A KeysRefused). IfOk x (λ answer. (before after : List (Option ℕ)) × P answer before after × Replies (SessionOn names before after) c d Closed)) is k.answered
