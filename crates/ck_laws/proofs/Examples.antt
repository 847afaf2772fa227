-- The examples: maps through which the legal ones lead, and what the others contradict.
use Rattle.std.proofs.Common.{◌≡◌, ◌≢◌, ℕ, T, List, [], ◌∷◌, sym, refl, ap, ◌∙◌, subst, inl, inr, ⊎_elim, arith, Option, Some, None}
use Rattle.std.proofs.lemmas.Option.{none-some, same_Some}
use Rattle.std.specs.FinMap.{get, insert, remove, empty, len, get-empty, empty_of_len, entries_sorted, is_sorted}
use Rattle.ck_model.specs.declared.history.Act.TheVariants.{Find, Insert}
use Rattle.ck_model.specs.declared.history.Call.TheVariants.{On, ChangeTwo, SessionOn}
use Rattle.ck_model.specs.declared.history.Reply.{Reply}
use Rattle.ck_model.specs.declared.history.Reply.TheVariants.{Was, New, DoneTwo, Count, Closed}
use Rattle.ck_model.specs.Promise.{Name, name_cmp, Map, Answers, AnswersTwo, Step, IsLegal}
use Rattle.ck_laws.specs.Examples.{payer, payee, a_transfer, a_renaming, from_nowhere, two_new, lost_change, found_erased, half_a_transfer, late_session, name_twice, miscounted}
use Rattle.ck_laws.proofs.Acting.{finding, inserting_new, changing, erasing, changing_two, get_new, get_gone, get_others}

number : Name → ℕ
number [] = 0
number (n ∷ ns) = n

apart : payer ≢ payee
unfolding number
apart e = let n : ◌≡◌ {A = ℕ} 0 3 = ap number e in omega arith

apart_too : payee ≢ payer
apart_too e = apart (sym e)

-- another name stays bound as it was
keeps : (m : Map ℕ) (k q : Name) (v : ℕ) → q ≢ k → get (insert m k v) q ≡ get m q
keeps m k q v ne = (get_others m k q v ne).0

-- steps that there are
inserts : (m : Map ℕ) (k : Name) (v : ℕ) → get m k ≡ None → Step m (On k (Insert v)) New (insert m k v)
inserts m k v e = (subst (λ (o : Option ℕ). Answers (Insert v) o New (get (insert m k v) k)) (sym e) (refl, get_new m k v), λ q ne. keeps m k q v ne)

finds : (m : Map ℕ) (k : Name) (o : Option ℕ) → get m k ≡ o → Step m (On k Find) (Was o) m
finds m k o e = (by (get m k) o e, λ q ne. refl)
  where
    by : (b o : Option ℕ) → b ≡ o → Answers Find b (Was o) b
    by None o e = (ap Was (sym e), refl)
    by (Some v) o e = (ap Was (sym e), refl)

changes_two : (m : Map ℕ) (j k : Name) (v w v2 w2 : ℕ) → j ≢ k → get m j ≡ Some v → get m k ≡ Some w → Step m (ChangeTwo j k) (DoneTwo v w v2 w2) (insert (insert m j v2) k w2)
changes_two m j k v w v2 w2 ne e f =
    let at_j : get (insert (insert m j v2) k w2) j ≡ Some v2 = keeps (insert m j v2) k j w2 ne ∙ get_new m j v2 in
    let both : AnswersTwo (Some v) (Some w) (DoneTwo v w v2 w2) (get (insert (insert m j v2) k w2) j) (get (insert (insert m j v2) k w2) k)
    = (v2, w2, refl, at_j, get_new (insert m j v2) k w2) in
    let one = subst (λ (o : Option ℕ). AnswersTwo (Some v) o (DoneTwo v w v2 w2) (get (insert (insert m j v2) k w2) j) (get (insert (insert m j v2) k w2) k)) (sym f) both in
    let two = subst (λ (o : Option ℕ). AnswersTwo o (get m k) (DoneTwo v w v2 w2) (get (insert (insert m j v2) k w2) j) (get (insert (insert m j v2) k w2) k)) (sym e) one in
    (ne, two, λ q nj nk. keeps (insert m j v2) k q w2 nk ∙ keeps m j q v2 nj)

bound_ten : Map ℕ
bound_ten = insert empty payer 10

bound_both : Map ℕ
bound_both = insert bound_ten payee 5

transferred : Map ℕ
transferred = insert (insert bound_both payer 6) payee 9

ten_alone : get bound_ten payee ≡ None
unfolding bound_ten
ten_alone = keeps empty payer payee 10 apart_too ∙ get-empty name_cmp payee

ten_still : get bound_both payer ≡ Some 10
unfolding bound_ten bound_both
ten_still = keeps bound_ten payee payer 5 apart ∙ get_new empty payer 10

pub transfer_is_legal : IsLegal a_transfer
unfolding bound_ten bound_both transferred
transfer_is_legal = (
  transferred,
  (
    bound_ten,
    inserts empty payer 10 (get-empty name_cmp payer),
    (
      bound_both,
      inserts bound_ten payee 5 ten_alone,
      (
        transferred,
        changes_two bound_both payer payee 10 5 6 9 apart ten_still (get_new bound_ten payee 5),
        (
          transferred,
          finds transferred payer (Some 6) (keeps (insert bound_both payer 6) payee payer 9 apart ∙ get_new bound_both payer 6),
          refl,
        ),
      ),
    ),
  ),
)

bound_five : Map ℕ
bound_five = insert empty payer 5

renamed : Map ℕ
renamed = insert (remove bound_five payer) payee 5

gone : get renamed payer ≡ None
unfolding renamed
gone = keeps (remove bound_five payer) payee payer 5 apart ∙ get_gone bound_five payer

renames : Step bound_five (SessionOn (payer ∷ payee ∷ []) (Some 5 ∷ None ∷ []) (None ∷ Some 5 ∷ [])) Closed renamed
unfolding bound_five renamed
renames =
    let five_alone : get bound_five payee ≡ None = keeps empty payer payee 5 apart_too ∙ get-empty name_cmp payee in (
      refl,
      ((λ i. ⊎_elim (λ e. apart (sym e)) (λ z. z) i), ((λ i. i), tt)),
      (λ i. get_new empty payer 5 i ∷ five_alone i ∷ []),
      (λ i. gone i ∷ get_new (remove bound_five payer) payee 5 i ∷ []),
      λ q n. keeps (remove bound_five payer) payee q 5 (λ e. n (inr (inl (sym e)))) ∙ (get_others bound_five payer q 0 (λ e. n (inl (sym e)))).1,
    )

pub renaming_is_legal : IsLegal a_renaming
unfolding bound_five renamed
renaming_is_legal = (
  renamed,
  (
    bound_five,
    inserts empty payer 5 (get-empty name_cmp payer),
    (
      renamed,
      renames,
      (
        renamed,
        finds renamed payer None gone,
        (
          renamed,
          finds renamed payee (Some 5) (get_new (remove bound_five payer) payee 5),
          refl,
        ),
      ),
    ),
  ),
)

-- a name is bound to two numbers
two_values : (o : Option ℕ) (v w : ℕ) → o ≡ Some v → o ≡ Some w → v ≢ w → ⊥
two_values o v w e f ne = ne (same_Some v w (sym e ∙ f))

-- what a new insertion leaves its name bound to
after_insertion : (m m2 : Map ℕ) (k : Name) (v : ℕ) → Step m (On k (Insert v)) New m2 → get m2 k ≡ Some v
after_insertion m m2 k v st = ap (λ (x : Map ℕ). get x k) (inserting_new m m2 k v st).1 ∙ get_new m k v

pub from_nowhere_isn't : ¬ (IsLegal from_nowhere)
from_nowhere_isn't h = none-some 1 (sym (get-empty name_cmp payer) ∙ sym (finding empty h.1.0 payer (Some 1) h.1.1).0)

pub two_new_isn't : ¬ (IsLegal two_new)
two_new_isn't h = none-some 5 (sym (inserting_new h.1.0 h.1.2.0 payer 6 h.1.2.1).0 ∙ after_insertion empty h.1.0 payer 5 h.1.1)

pub lost_change_isn't : ¬ (IsLegal lost_change)
lost_change_isn't h =
    let six : get h.1.2.0 payer ≡ Some 6 = ap (λ (x : Map ℕ). get x payer) (changing h.1.0 h.1.2.0 payer 5 6 h.1.2.1).1 ∙ get_new h.1.0 payer 6 in
    two_values (get h.1.2.0 payer) 6 5 six (sym (finding h.1.2.0 h.1.2.2.0 payer (Some 5) h.1.2.2.1).0) (λ e. omega arith)

pub found_erased_isn't : ¬ (IsLegal found_erased)
found_erased_isn't h =
    let none : get h.1.2.0 payer ≡ None = ap (λ (x : Map ℕ). get x payer) (erasing h.1.0 h.1.2.0 payer (Some 5) h.1.2.1).1 ∙ get_gone h.1.0 payer in
    none-some 5 (sym none ∙ sym (finding h.1.2.0 h.1.2.2.0 payer (Some 5) h.1.2.2.1).0)

pub half_a_transfer_isn't : ¬ (IsLegal half_a_transfer)
half_a_transfer_isn't h =
    let to = (changing_two h.1.2.0 h.1.2.2.0 payer payee 10 5 6 9 h.1.2.2.1).2 in
    let nine : get h.1.2.2.0 payee ≡ Some 9 = ap (λ (x : Map ℕ). get x payee) to ∙ get_new (insert h.1.2.0 payer 6) payee 9 in
    two_values (get h.1.2.2.0 payee) 9 5 nine (sym (finding h.1.2.2.0 h.1.2.2.2.0 payee (Some 5) h.1.2.2.2.1).0) (λ e. omega arith)

the_only : (a b : Option ℕ) → a ∷ [] ≡ b ∷ [] → a ≡ b
the_only a b e = cc

pub late_session_isn't : ¬ (IsLegal late_session)
late_session_isn't h =
    let six : get h.1.2.0 payer ≡ Some 6 = ap (λ (x : Map ℕ). get x payer) (changing h.1.0 h.1.2.0 payer 5 6 h.1.2.1).1 ∙ get_new h.1.0 payer 6 in
    two_values (get h.1.2.0 payer) 6 5 six (the_only (get h.1.2.0 payer) (Some 5) h.1.2.2.1.2) (λ e. omega arith)

pub name_twice_isn't : ¬ (IsLegal name_twice)
name_twice_isn't h = subst (λ (es : List (Name × ℕ)). T (is_sorted name_cmp es)) h.1.1.2 (entries_sorted h.1.0)

counted : (n k : ℕ) → ◌≡◌ {A = Reply ℕ} (Count n) (Count k) → k ≡ n
counted n k e = cc

pub miscounted_isn't : ¬ (IsLegal miscounted)
miscounted_isn't h =
    let none : h.1.0 ≡ empty = empty_of_len h.1.0 (counted 0 (len h.1.0) h.1.2.1.0) in
    none-some 5 (sym (ap (λ (x : Map ℕ). get x payer) none ∙ get-empty name_cmp payer) ∙ after_insertion empty h.1.0 payer 5 h.1.1)
