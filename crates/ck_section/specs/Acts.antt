-- What a call on a key did, by its answer. `P` says of an act on the key that it was done with a reply: on held stripes, by a caller, or on a locked table.
use Rattle.std.specs.Prelude.{◌≡◌, ◌⊎◌, Option, Some, None, Bool, true, false, Result, Ok, Err, MatchOption, MatchBool, MatchResult, if◌then◌else◌}
use Rattle.ck_model.specs.declared.history.Act.{Act}
use Rattle.ck_model.specs.declared.history.Act.TheVariants.{Find, Insert, Assign, Upsert, Update, Change, Erase}
use Rattle.ck_model.specs.declared.history.Reply.{Reply}
use Rattle.ck_model.specs.declared.history.Reply.TheVariants as replies
use Rattle.ck_model.specs.declared.history.Reply.TheVariants.{Was, Old, Done, DoneTwo, Absent}
use Rattle.ck_section.specs.declared.insertion.Uprased.{Uprased}
use Rattle.ck_section.specs.declared.insertion.Uprased.TheVariants.{New, Changed, Erased}

module _ {V : Type 0} where
  -- this act, with this reply
  abbrev pub IsAct : Act V → Reply V → Act V → Reply V → Type 0
  IsAct act reply a r = (act ≡ a) × (reply ≡ r)

  -- the key was bound to this
  abbrev pub Finds : (Act V → Reply V → Type 0) → Option V → Type 0
  Finds P value = P Find (Was value)

  -- it was found bound, or not
  abbrev pub FindsBound : (Act V → Reply V → Type 0) → Bool → Type 0
  FindsBound P bound = MatchBool bound ((v : V) × P Find (Was (Some v))) (P Find (Was None))

  -- what the closure answered for its value, where it was bound
  abbrev pub FindsBy : {R : Type 0} → (V → R → Type 0) → (Act V → Reply V → Type 0) → Option R → Type 0
  FindsBy answers P answer = MatchOption answer (P Find (Was None)) (λ r. (v : V) × answers v r × P Find (Was (Some v)))

  -- it was bound to the value where it was unbound
  abbrev pub Inserts : V → (Act V → Reply V → Type 0) → Bool → Type 0
  Inserts value P fresh = P (Insert value) (if fresh then replies.New else Old)

  -- it was bound to what the closure made where it was unbound, and else was found bound
  abbrev pub InsertsBy : (V → Type 0) → (Act V → Reply V → Type 0) → Bool → Type 0
  InsertsBy makes P fresh = MatchBool fresh ((w : V) × makes w × P (Insert w) replies.New) ((v : V) × P Find (Was (Some v)))

  -- the same, where a closure that was not called, since the key was bound, comes back
  abbrev pub InsertsGivingBack : {F : Type 0} → F → (V → Type 0) → (Act V → Reply V → Type 0) → Option F → Type 0
  InsertsGivingBack f makes P back = MatchOption back ((w : V) × makes w × P (Insert w) replies.New) (λ g. (g ≡ f) × (v : V) × P Find (Was (Some v)))

  -- the closure made this, to which the unbound key was bound, or it was bound to this before
  abbrev pub FindsOrInserts : (V → Type 0) → (Act V → Reply V → Type 0) → V → Type 0
  FindsOrInserts makes P v = (makes v × P (Insert v) replies.New) ⊎ P Find (Was (Some v))

  -- the same, where a closure that was not called, since the key was bound, comes back
  abbrev pub FindsGivingBack : {F : Type 0} → F → (V → Type 0) → (Act V → Reply V → Type 0) → V × Option F → Type 0
  FindsGivingBack f makes P answer = MatchOption answer.1 (makes answer.0 × P (Insert answer.0) replies.New) (λ g. (g ≡ f) × P Find (Was (Some answer.0)))

  -- it was bound to the value, in place of this
  abbrev pub Assigns : V → (Act V → Reply V → Type 0) → Option V → Type 0
  Assigns value P old = P (Assign value) (Was old)

  -- it was bound to the value where it was unbound, and else to what the closure made of its value
  abbrev pub Upserts : (V → V → Type 0) → V → (Act V → Reply V → Type 0) → Bool → Type 0
  Upserts makes value P fresh = MatchBool fresh (P (Upsert value) replies.New) ((v w : V) × makes v w × P (Upsert value) (Done v w))

  -- the same, or unbound where the closure made nothing of its value
  abbrev pub Uprases : (V → Option V → Type 0) → V → (Act V → Reply V → Type 0) → Uprased → Type 0
  Uprases makes value P New = P (Upsert value) replies.New
  Uprases makes value P Changed = (v w : V) × makes v (Some w) × P (Upsert value) (Done v w)
  Uprases makes value P Erased = (v : V) × makes v None × P Erase (Was (Some v))

  -- It was bound to the value where it was unbound, and else to the value that the closure gave back, whether it succeeded or failed with this error.
  abbrev pub TriesUpsert : {E : Type 0} → (V → Result V (V × E) → Type 0) → V → (Act V → Reply V → Type 0) → Result Bool E → Type 0
  TriesUpsert makes value P (Ok true) = P (Upsert value) replies.New
  TriesUpsert makes value P (Ok false) = (v w : V) × makes v (Ok w) × P (Upsert value) (Done v w)
  TriesUpsert makes value P (Err e) = (v w : V) × makes v (Err (w, e)) × P (Upsert value) (Done v w)

  -- Where the key was unbound, a value was made, and the key was bound to what the other closure made of it; else it was bound to what that made of its value. Where that failed with this error, an unbound key stayed so, and a bound one is bound to the value that it gave back.
  abbrev pub TriesUpsertWith : {E : Type 0} → (V → Type 0) → (V → Result V (V × E) → Type 0) → (Act V → Reply V → Type 0) → Result Bool E → Type 0
  TriesUpsertWith makes changes P (Ok true) = (v w : V) × makes v × changes v (Ok w) × P (Insert w) replies.New
  TriesUpsertWith makes changes P (Ok false) = (v w : V) × changes v (Ok w) × P Change (Done v w)
  TriesUpsertWith makes changes P (Err e) = ((v w : V) × makes v × changes v (Err (w, e)) × P Find (Was None)) ⊎ ((v w : V) × changes v (Err (w, e)) × P Change (Done v w))

  -- the same, where a closure that makes a value and was not called, since the key was bound, comes back
  abbrev pub TriesUpsertGivingBack : {E G : Type 0} → G → (V → Type 0) → (V → Result V (V × E) → Type 0) → (Act V → Reply V → Type 0) → Result Bool E × Option G → Type 0
  TriesUpsertGivingBack make makes changes P answer =
      MatchOption answer.1
      ((v w : V) × makes v × MatchResult answer.0 (λ fresh. (fresh ≡ true) × changes v (Ok w) × P (Insert w) replies.New) (λ e. changes v (Err (w, e)) × P Find (Was None)))
      (λ g. (g ≡ make) × (v w : V) × MatchResult answer.0 (λ fresh. (fresh ≡ false) × changes v (Ok w)) (λ e. changes v (Err (w, e))) × P Change (Done v w))

  -- it was bound to the value, in place of this, where it was bound
  abbrev pub Updates : V → (Act V → Reply V → Type 0) → Option V → Type 0
  Updates value P old = P (Update value) (Was old)

  -- it was bound to what the closure made of its value, where it was bound, and the closure answered this of it
  abbrev pub Modifies : {R : Type 0} → (V → V × R → Type 0) → (Act V → Reply V → Type 0) → Option R → Type 0
  Modifies makes P answer = MatchOption answer (P Change Absent) (λ r. (v w : V) × makes v (w, r) × P Change (Done v w))

  -- it was bound to what the closure made of its value, where it was bound
  abbrev pub Changes : (V → V → Type 0) → (Act V → Reply V → Type 0) → Bool → Type 0
  Changes makes P bound = MatchBool bound ((v w : V) × makes v w × P Change (Done v w)) (P Change Absent)

  -- the same, where the closure made something of its value
  abbrev pub ReplacesIf : (V → Option V → Type 0) → (Act V → Reply V → Type 0) → Option Bool → Type 0
  ReplacesIf answers P answer =
      MatchOption answer (P Find (Was None))
      (λ replaced. (v : V) × MatchBool replaced
      ((w : V) × answers v (Some w) × P Change (Done v w))
      (answers v None × P Find (Was (Some v))))

  -- It was bound to the value that the closure gave back, where it was bound, whether the closure succeeded or failed with this error.
  abbrev pub TriesChange : {E : Type 0} → (V → Result V (V × E) → Type 0) → (Act V → Reply V → Type 0) → Option (Result (Unit {0}) E) → Type 0
  TriesChange makes P answer =
      MatchOption answer (P Change Absent)
      (λ outcome. (v w : V) × MatchResult outcome (λ _. makes v (Ok w)) (λ e. makes v (Err (w, e))) × P Change (Done v w))

  -- it was unbound, and had this
  abbrev pub Erases : (Act V → Reply V → Type 0) → Option V → Type 0
  Erases P old = P Erase (Was old)

  -- it was unbound where it was bound and the closure answered true for its value
  abbrev pub ErasesBy : (V → Bool → Type 0) → (Act V → Reply V → Type 0) → Option Bool → Type 0
  ErasesBy answers P answer =
      MatchOption answer (P Find (Was None))
      (λ gone. (v : V) × answers v gone × MatchBool gone (P Erase (Was (Some v))) (P Find (Was (Some v))))

  -- Both of two keys were bound to what the closure made of their values, where both were bound. `P` says of a reply that it was that of the change.
  abbrev pub ChangesTwo : (V → V → V × V → Type 0) → (Reply V → Type 0) → Bool → Type 0
  ChangesTwo makes P bound = MatchBool bound ((v w v2 w2 : V) × makes v w (v2, w2) × P (DoneTwo v w v2 w2)) (P Absent)
