-- Which act a call was, by what it answered.
use Rattle.std.proofs.Common.{◌≡◌, inl, inr, ⊎_elim, Bool, true, false, not, Option, Some, None, is_some, Result, Ok, Err, ap, sym, subst}
use Rattle.ck_model.specs.declared.history.Act.{Act}
use Rattle.ck_model.specs.declared.history.Reply.{Reply}
use Rattle.ck_section.specs.declared.insertion.Uprased.{Uprased}
use Rattle.ck_section.specs.declared.insertion.Uprased.TheVariants.{New, Changed, Erased}
use Rattle.ck_section.specs.Acts.{IsAct, Finds, FindsBound, FindsBy, Inserts, InsertsBy, FindsOrInserts, Assigns, Upserts, Uprases, TriesUpsert, TriesUpsertWith}
use Rattle.ck_section.specs.Acts.{InsertsGivingBack, FindsGivingBack, TriesUpsertGivingBack}
use Rattle.ck_section.specs.Acts.{Updates, Modifies, Changes, ReplacesIf, TriesChange, Erases, ErasesBy, ChangesTwo}

-- whether a key was unbound, where a closure comes back that is not called for a bound one
fresh_of : (back fresh : Bool) → back ≡ not fresh → fresh ≡ not back
fresh_of back true is = sym (ap not is)
fresh_of back false is = sym (ap not is)

-- P gives Q of an act with its reply, and this besides
module _ {V Z : Type 0} {P Q : Act V → Reply V → Type 0} (f : (act : Act V) (reply : Reply V) → P act reply → Q act reply × Z) where
  -- and so of those that an answer tells of
  pub told_found : (value : Option V) → Finds P value → Finds Q value × Z
  told_found value h = f _ _ h

  pub told_bound : (bound : Bool) → FindsBound P bound → FindsBound Q bound × Z
  told_bound true h = let x = f _ _ h.1 in ((h.0, x.0), x.1)
  told_bound false h = f _ _ h

  pub told_found_by : {R : Type 0} (answers : V → R → Type 0) (answer : Option R) → FindsBy answers P answer → FindsBy answers Q answer × Z
  told_found_by answers None h = f _ _ h
  told_found_by answers (Some r) h = let x = f _ _ h.2 in ((h.0, h.1, x.0), x.1)

  pub told_inserted : (value : V) (fresh : Bool) → Inserts value P fresh → Inserts value Q fresh × Z
  told_inserted value fresh h = f _ _ h

  pub told_inserted_by : (makes : V → Type 0) (fresh : Bool) → InsertsBy makes P fresh → InsertsBy makes Q fresh × Z
  told_inserted_by makes true h = let x = f _ _ h.2 in ((h.0, h.1, x.0), x.1)
  told_inserted_by makes false h = let x = f _ _ h.1 in ((h.0, x.0), x.1)

  pub told_found_or_inserted : (makes : V → Type 0) (v : V) → FindsOrInserts makes P v → FindsOrInserts makes Q v × Z
  told_found_or_inserted makes v h = ⊎_elim (λ new. let x = f _ _ new.1 in (inl (new.0, x.0), x.1)) (λ found. let x = f _ _ found in (inr x.0, x.1)) h

  pub told_assigned : (value : V) (old : Option V) → Assigns value P old → Assigns value Q old × Z
  told_assigned value old h = f _ _ h

  pub told_upserted : (makes : V → V → Type 0) (value : V) (fresh : Bool) → Upserts makes value P fresh → Upserts makes value Q fresh × Z
  told_upserted makes value true h = f _ _ h
  told_upserted makes value false h = let x = f _ _ h.3 in ((h.0, h.1, h.2, x.0), x.1)

  pub told_uprased : (makes : V → Option V → Type 0) (value : V) (answer : Uprased) → Uprases makes value P answer → Uprases makes value Q answer × Z
  told_uprased makes value New h = f _ _ h
  told_uprased makes value Changed h = let x = f _ _ h.3 in ((h.0, h.1, h.2, x.0), x.1)
  told_uprased makes value Erased h = let x = f _ _ h.2 in ((h.0, h.1, x.0), x.1)

  pub told_tried : {E : Type 0} (makes : V → Result V (V × E) → Type 0) (value : V) (answer : Result Bool E) → TriesUpsert makes value P answer → TriesUpsert makes value Q answer × Z
  told_tried makes value (Ok true) h = f _ _ h
  told_tried makes value (Ok false) h = let x = f _ _ h.3 in ((h.0, h.1, h.2, x.0), x.1)
  told_tried makes value (Err e) h = let x = f _ _ h.3 in ((h.0, h.1, h.2, x.0), x.1)

  pub told_tried_with : {E : Type 0} (makes : V → Type 0) (changes : V → Result V (V × E) → Type 0) (answer : Result Bool E) → TriesUpsertWith makes changes P answer → TriesUpsertWith makes changes Q answer × Z
  told_tried_with makes changes (Ok true) h = let x = f _ _ h.4 in ((h.0, h.1, h.2, h.3, x.0), x.1)
  told_tried_with makes changes (Ok false) h = let x = f _ _ h.3 in ((h.0, h.1, h.2, x.0), x.1)
  told_tried_with makes changes (Err e) h = ⊎_elim (λ new. let x = f _ _ new.4 in (inl (new.0, new.1, new.2, new.3, x.0), x.1)) (λ bound. let x = f _ _ bound.3 in (inr (bound.0, bound.1, bound.2, x.0), x.1)) h

  pub told_updated : (value : V) (old : Option V) → Updates value P old → Updates value Q old × Z
  told_updated value old h = f _ _ h

  pub told_modified : {R : Type 0} (makes : V → V × R → Type 0) (answer : Option R) → Modifies makes P answer → Modifies makes Q answer × Z
  told_modified makes None h = f _ _ h
  told_modified makes (Some r) h = let x = f _ _ h.3 in ((h.0, h.1, h.2, x.0), x.1)

  pub told_changed : (makes : V → V → Type 0) (bound : Bool) → Changes makes P bound → Changes makes Q bound × Z
  told_changed makes true h = let x = f _ _ h.3 in ((h.0, h.1, h.2, x.0), x.1)
  told_changed makes false h = f _ _ h

  pub told_replaced : (answers : V → Option V → Type 0) (answer : Option Bool) → ReplacesIf answers P answer → ReplacesIf answers Q answer × Z
  told_replaced answers None h = f _ _ h
  told_replaced answers (Some true) h = let x = f _ _ h.1.2 in ((h.0, (h.1.0, h.1.1, x.0)), x.1)
  told_replaced answers (Some false) h = let x = f _ _ h.1.1 in ((h.0, (h.1.0, x.0)), x.1)

  pub told_tried_change : {E : Type 0} (makes : V → Result V (V × E) → Type 0) (answer : Option (Result (Unit {0}) E)) → TriesChange makes P answer → TriesChange makes Q answer × Z
  told_tried_change makes None h = f _ _ h
  told_tried_change makes (Some outcome) h = let x = f _ _ h.3 in ((h.0, h.1, h.2, x.0), x.1)

  pub told_erased : (old : Option V) → Erases P old → Erases Q old × Z
  told_erased old h = f _ _ h

  pub told_erased_by : (answers : V → Bool → Type 0) (answer : Option Bool) → ErasesBy answers P answer → ErasesBy answers Q answer × Z
  told_erased_by answers None h = f _ _ h
  told_erased_by answers (Some true) h = let x = f _ _ h.2 in ((h.0, h.1, x.0), x.1)
  told_erased_by answers (Some false) h = let x = f _ _ h.2 in ((h.0, h.1, x.0), x.1)

-- P holds of an act with its reply
module _ {V : Type 0} (P : Act V → Reply V → Type 0) where
  -- and so of those that they are
  pub as_said : {act a : Act V} {reply r : Reply V} → IsAct act reply a r → P act reply → P a r
  as_said is h = subst (λ (x : Act V × Reply V). P x.0 x.1) (λ i. (is.0 i, is.1 i)) h

  by_act : {act : Act V} {reply : Reply V} → P act reply → (a : Act V) (r : Reply V) → IsAct act reply a r → P a r × Unit {0}
  by_act h a r is = (as_said is h, tt)

  by_back : {F : Type 0} (f : F) (makes : V → Type 0) (back : Option F) (act : Act V) (reply : Reply V) → InsertsGivingBack f makes (IsAct act reply) back → P act reply → InsertsBy makes P (not (is_some back))
  by_back f makes None act reply told h = (told.0, told.1, as_said told.2 h)
  by_back f makes (Some g) act reply told h = (told.1, as_said told.2 h)

  -- an insertion of what the closure makes
  pub as_inserted : {F : Type 0} (f : F) (makes : V → Type 0) (back : Option F) (fresh : Bool) → is_some back ≡ not fresh → (act : Act V) (reply : Reply V) → InsertsGivingBack f makes (IsAct act reply) back → P act reply → InsertsBy makes P fresh
  as_inserted f makes back fresh is act reply told h = subst (InsertsBy makes P) (sym (fresh_of (is_some back) fresh is)) (by_back f makes back act reply told h)

  -- a look-up that inserts what the closure makes
  pub as_found : {F : Type 0} (f : F) (makes : V → Type 0) (v : V) (back : Option F) (act : Act V) (reply : Reply V) → FindsGivingBack f makes (IsAct act reply) (v, back) → P act reply → FindsOrInserts makes P v
  as_found f makes v None act reply told h = inl (told.0, as_said told.1 h)
  as_found f makes v (Some g) act reply told h = inr (as_said told.1 h)

  -- an upsert
  module _ (makes : V → V → Type 0) (value : V) where
    pub as_upserted : (fresh : Bool) (act : Act V) (reply : Reply V) → Upserts makes value (IsAct act reply) fresh → P act reply → Upserts makes value P fresh
    as_upserted fresh act reply told h = (told_upserted (by_act h) makes value fresh told).0

  -- an uprase
  module _ (makes : V → Option V → Type 0) (value : V) where
    pub as_uprased : (answer : Uprased) (act : Act V) (reply : Reply V) → Uprases makes value (IsAct act reply) answer → P act reply → Uprases makes value P answer
    as_uprased answer act reply told h = (told_uprased (by_act h) makes value answer told).0

  -- an upsert whose closure may fail
  module _ {E : Type 0} (makes : V → Result V (V × E) → Type 0) (value : V) where
    pub as_tried : (answer : Result Bool E) (act : Act V) (reply : Reply V) → TriesUpsert makes value (IsAct act reply) answer → P act reply → TriesUpsert makes value P answer
    as_tried answer act reply told h = (told_tried (by_act h) makes value answer told).0

  -- an upsert whose value is made, and whose other closure may fail
  module _ {E G : Type 0} (make : G) (makes : V → Type 0) (changes : V → Result V (V × E) → Type 0) where
    pub as_tried_with : (answer : Result Bool E) (back : Option G) (act : Act V) (reply : Reply V) → TriesUpsertGivingBack make makes changes (IsAct act reply) (answer, back) → P act reply → TriesUpsertWith makes changes P answer
    as_tried_with (Ok fresh) None act reply told h = subst (λ b. TriesUpsertWith makes changes P (Ok b)) (sym told.3.0) (told.0, told.1, told.2, told.3.1, as_said told.3.2 h)
    as_tried_with (Ok fresh) (Some g) act reply told h = subst (λ b. TriesUpsertWith makes changes P (Ok b)) (sym told.3.0) (told.1, told.2, told.3.1, as_said told.4 h)
    as_tried_with (Err e) None act reply told h = inl (told.0, told.1, told.2, told.3.0, as_said told.3.1 h)
    as_tried_with (Err e) (Some g) act reply told h = inr (told.1, told.2, told.3, as_said told.4 h)

-- the same of a change of two keys
pub told_changed_two : {V Z : Type 0} {P Q : Reply V → Type 0} (f : (reply : Reply V) → P reply → Q reply × Z) (makes : V → V → V × V → Type 0) (bound : Bool) → ChangesTwo makes P bound → ChangesTwo makes Q bound × Z
told_changed_two f makes true h = let x = f _ h.5 in ((h.0, h.1, h.2, h.3, h.4, x.0), x.1)
told_changed_two f makes false h = f _ h
