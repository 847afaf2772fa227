-- A change of two that keeps the sum of their values keeps the sum of all.
use Rattle.std.proofs.Common.{◌≡◌, ◌≢◌, ℕ, ◌+◌, cond, T, List, [], ◌∷◌, sym, refl, ap, ◌∙◌, subst, ⊎_elim, arith, Less, Equal, Greater, is_lt, is_eq, Option, Some, None}
use mathlib.Core.Logic.{dite}
use Rattle.std.specs.Option.{unwrap_or}
use Rattle.std.specs.Cmp.Lexicographic.{nat_list_cmp_total}
use Rattle.std.specs.FinMap.{find, get, empty, insert, remove, entries, entries_sorted, entries-insert, get-insert, get-remove, get-entries}
use Rattle.std.specs.FinMap.Entries.{put, below_all, is_sorted, by_order}
use Rattle.ck_model.specs.declared.history.Act.TheVariants.{Find, Insert, Assign, Update, Change, Upsert, Erase}
use Rattle.ck_model.specs.declared.history.Call.{Call}
use Rattle.ck_model.specs.declared.history.Call.TheVariants.{On, ChangeTwo, Len, SessionOn, Session}
use Rattle.ck_model.specs.declared.history.Reply.{Reply}
use Rattle.ck_model.specs.declared.history.Reply.TheVariants.{DoneTwo, Absent}
use Rattle.ck_model.specs.declared.history.Entry.{Entry}
use Rattle.ck_model.specs.Promise.{Name, name_cmp, Map, bound_in, Answers, AnswersTwo, Step, Leads}
use Rattle.ck_model.specs.Numbered.{IsIn, AreDistinct}
use Rattle.ck_core.specs.Sums.{total, sum_of, KeepsTotal, EachKeepsTotal, SessionShows, EachSessionShows, LawOfSums}
use Rattle.ck_model.proofs.Determined.{leads_one}
use Rattle.ck_model.proofs.Entries.{first, second, is_less}
use Rattle.ck_model.proofs.Histories.{leads_to}
use Rattle.ck_model.proofs.Names.{dec_name, maps_alike, is_name, no_name, bound_alike}

-- a name below all others isn't found
less_none : (k y : Name) (es : List (Name × ℕ)) → name_cmp k y ≡ Less → T (below_all name_cmp y es) → find name_cmp k es ≡ None
less_none k y [] e h = refl
less_none k y (x ∷ xs) e h =
    let l : name_cmp k x.0 ≡ Less = nat_list_cmp_total.trans k y x.0 e (is_less (name_cmp y x.0) (first (is_lt (name_cmp y x.0)) (below_all name_cmp y xs) h)) in
    ap (λ r. cond (is_eq r) (Some x.1) (find name_cmp k xs)) l ∙ less_none k y xs e (second (is_lt (name_cmp y x.0)) (below_all name_cmp y xs) h)

not_found : (o : ℕ) (b : Option ℕ) → b ≡ None → b ≡ Some o → ⊥
not_found o b e f = cc

moved_head : (a v old s : ℕ) → Some a ≡ Some old → v + s + old ≡ a + s + v
moved_head a v old s e = let f : a ≡ old = cc in omega arith

moved_tail : (a v old s t : ℕ) → s + old ≡ t + v → (a + s) + old ≡ (a + t) + v
moved_tail a v old s t e = omega arith

total-put : (k : Name) (v old : ℕ) (es : List (Name × ℕ)) → T (is_sorted name_cmp es) → find name_cmp k es ≡ Some old → total (put name_cmp k v es) + old ≡ total es + v
total-put k v old [] h e = absurd (not_found old None refl e)
total-put k v old (x ∷ xs) h e =
    elim (name_cmp k x.0) as (λ r. name_cmp k x.0 ≡ r → cond (is_eq r) (Some x.1) (find name_cmp k xs) ≡ Some old
    → total (by_order r ((k, v) ∷ x ∷ xs) ((x.0, v) ∷ xs) (x ∷ put name_cmp k v xs)) + old ≡ (x.1 + total xs) + v) [
      | Less ↦ λ p f. absurd (not_found old (find name_cmp k xs) (less_none k x.0 xs p (first (below_all name_cmp x.0 xs) (is_sorted name_cmp xs) h)) f)
      | Equal ↦ λ p f. moved_head x.1 v old (total xs) f
      | Greater ↦ λ p f. moved_tail x.1 v old (total (put name_cmp k v xs)) (total xs) (total-put k v old xs (second (below_all name_cmp x.0 xs) (is_sorted name_cmp xs) h) f)
    ] refl e

total-insert : (m : Map ℕ) (k : Name) (v old : ℕ) → get m k ≡ Some old → total (entries (insert m k v)) + old ≡ total (entries m) + v
total-insert m k v old e = ap (λ es. total es + old) (entries-insert nat_list_cmp_total m k v) ∙ total-put k v old (entries m) (entries_sorted m) (sym (get-entries m k) ∙ e)

get_new : (m : Map ℕ) (k : Name) (v : ℕ) → get (insert m k v) k ≡ Some v
get_new m k v = get-insert nat_list_cmp_total m k v k ∙ ap (λ b. cond b (Some v) (get m k)) (is_name k k refl)

get_kept : (m : Map ℕ) (k q : Name) (v : ℕ) → q ≢ k → get (insert m k v) q ≡ get m q
get_kept m k q v ne = get-insert nat_list_cmp_total m k v q ∙ ap (λ b. cond b (Some v) (get m q)) (no_name q k ne)

two_inserts : (m m2 : Map ℕ) (j k : Name) (v2 w2 : ℕ) → j ≢ k → get m2 j ≡ Some v2 → get m2 k ≡ Some w2 → ((q : Name) → q ≢ j → q ≢ k → get m2 q ≡ get m q) → m2 ≡ insert (insert m j v2) k w2
two_inserts m m2 j k v2 w2 ne a b others = maps_alike m2 (insert (insert m j v2) k w2) (λ q. dite (dec_name q k)
    (λ e. ap (get m2) e ∙ (b ∙ (sym (get_new (insert m j v2) k w2) ∙ ap (get (insert (insert m j v2) k w2)) (sym e))))
    (λ no_k. sym (get_kept (insert m j v2) k q w2 no_k ∙ dite (dec_name q j)
    (λ e. ap (get (insert m j v2)) e ∙ (get_new m j v2 ∙ (sym a ∙ ap (get m2) (sym e))))
    (λ no_j. get_kept m j q v2 no_j ∙ sym (others q no_j no_k)))))

sums : (s s1 s2 v w v2 w2 : ℕ) → s1 + v ≡ s + v2 → s2 + w ≡ s1 + w2 → v + w ≡ v2 + w2 → s2 ≡ s
sums s s1 s2 v w v2 w2 a b c = omega arith

fresh_head : (a v : ℕ) → Some a ≡ None → ⊥
fresh_head a v e = cc

total-fresh : (k : Name) (v : ℕ) (es : List (Name × ℕ)) → find name_cmp k es ≡ None → total (put name_cmp k v es) ≡ total es + v
total-fresh k v [] e = omega arith
total-fresh k v (x ∷ xs) e =
    elim (name_cmp k x.0) as (λ r. cond (is_eq r) (Some x.1) (find name_cmp k xs) ≡ None
    → total (by_order r ((k, v) ∷ x ∷ xs) ((x.0, v) ∷ xs) (x ∷ put name_cmp k v xs)) ≡ (x.1 + total xs) + v) [
      | Less ↦ λ f. omega arith
      | Equal ↦ λ f. absurd (fresh_head x.1 v f)
      | Greater ↦ λ f. let t = total-fresh k v xs f in omega arith
    ] e

total-new : (m : Map ℕ) (k : Name) (v : ℕ) → get m k ≡ None → total (entries (insert m k v)) ≡ total (entries m) + v
total-new m k v e = ap total (entries-insert nat_list_cmp_total m k v) ∙ total-fresh k v (entries m) (sym (get-entries m k) ∙ e)

get_gone : (m : Map ℕ) (k : Name) → get (remove m k) k ≡ None
get_gone m k = get-remove nat_list_cmp_total m k k ∙ ap (λ b. cond b None (get m k)) (is_name k k refl)

get_left : (m : Map ℕ) (k q : Name) → q ≢ k → get (remove m k) q ≡ get m q
get_left m k q ne = get-remove nat_list_cmp_total m k q ∙ ap (λ b. cond b None (get m q)) (no_name q k ne)

-- the map, in which the name is bound so
abbrev bind : Map ℕ → Name → Option ℕ → Map ℕ
bind m k (Some v) = insert m k v
bind m k None = remove m k

get_bound : (m : Map ℕ) (k : Name) (o : Option ℕ) → get (bind m k o) k ≡ o
get_bound m k (Some v) = get_new m k v
get_bound m k None = get_gone m k

get_other : (m : Map ℕ) (k q : Name) (o : Option ℕ) → q ≢ k → get (bind m k o) q ≡ get m q
get_other m k q (Some v) ne = get_kept m k q v ne
get_other m k q None ne = get_left m k q ne

total_removed : (m : Map ℕ) (k : Name) (o : Option ℕ) → get m k ≡ o → total (entries (remove m k)) + unwrap_or o 0 ≡ total (entries m)
total_removed m k None e =
    let same = ap (λ (x : Map ℕ). total (entries x)) (maps_alike (remove m k) m (λ q. dite (dec_name q k) (λ f. ap (get (remove m k)) f ∙ (get_gone m k ∙ (sym e ∙ ap (get m) (sym f)))) (get_left m k q))) in
    omega arith
total_removed m k (Some v) e =
    let again : m ≡ insert (remove m k) k v = maps_alike m (insert (remove m k) k v) (λ q. dite (dec_name q k)
    (λ f. ap (get m) f ∙ (e ∙ (sym (get_new (remove m k) k v) ∙ ap (get (insert (remove m k) k v)) (sym f))))
    (λ ne. sym (get_kept (remove m k) k q v ne ∙ get_left m k q ne))) in
    sym (ap (λ (x : Map ℕ). total (entries x)) again ∙ total-new (remove m k) k v (get_gone m k))

total_bound : (m : Map ℕ) (k : Name) (o : Option ℕ) → total (entries (bind m k o)) + unwrap_or (get m k) 0 ≡ total (entries m) + unwrap_or o 0
total_bound m k None = let r = total_removed m k (get m k) refl in omega arith
total_bound m k (Some v) = by (get m k) refl
  where
    by : (o : Option ℕ) → get m k ≡ o → total (entries (insert m k v)) + unwrap_or o 0 ≡ total (entries m) + v
    by (Some old) e = total-insert m k v old e
    by None e = let t = total-new m k v e in omega arith

-- a change of these names alone changes the sum of all by what it changes that of theirs
names_total : (qs : List Name) (m m2 : Map ℕ) → AreDistinct qs → ((q : Name) → ¬ (IsIn q qs) → get m2 q ≡ get m q) → total (entries m2) + sum_of (bound_in m qs) ≡ total (entries m) + sum_of (bound_in m2 qs)
names_total [] m m2 apart others = ap (λ (x : Map ℕ). total (entries x) + 0) (maps_alike m2 m (λ q. others q (λ h. h)))
names_total (x ∷ xs) m m2 apart others =
    let m1 = bind m x (get m2 x) in
    let rest : (q : Name) → ¬ (IsIn q xs) → get m2 q ≡ get m1 q = λ q out. dite (dec_name x q)
    (λ e. ap (get m2) (sym e) ∙ (sym (get_bound m x (get m2 x)) ∙ ap (get m1) e))
    (λ ne. others q (λ h. ⊎_elim ne out h) ∙ sym (get_other m x q (get m2 x) (λ e. ne (sym e)))) in
    let same = ap sum_of (bound_alike m1 m xs (λ q i. get_other m x q (get m2 x) (λ e. apart.0 (subst (λ (z : Name). IsIn z xs) e i)))) in
    let one = total_bound m x (get m2 x) in
    let more = names_total xs m1 m2 apart.1 rest in
    omega arith

find_same : (b : Option ℕ) (r : Reply ℕ) (o : Option ℕ) → Answers Find b r o → o ≡ b
find_same (Some v) r o x = x.1
find_same None r o x = x.1

absent_same : (a b : Option ℕ) (r : Reply ℕ) (o p : Option ℕ) → AnswersTwo a b r o p → r ≡ Absent → (o ≡ a) × (p ≡ b)
absent_same (Some v) (Some w) r o p x e = absurd (apart v w x.0 x.1 r x.2 e)
  where
    apart : (v w v2 w2 : ℕ) (r : Reply ℕ) → r ≡ DoneTwo v w v2 w2 → r ≡ Absent → ⊥
    apart v w v2 w2 r d e = cc
absent_same (Some v) None r o p x e = (x.1, x.2)
absent_same None b r o p x e = (x.1, x.2)

done_same : (a b : Option ℕ) (r : Reply ℕ) (o p : Option ℕ) (v w v2 w2 : ℕ) → AnswersTwo a b r o p → r ≡ DoneTwo v w v2 w2 → (a ≡ Some v) × (b ≡ Some w) × (o ≡ Some v2) × (p ≡ Some w2)
done_same (Some x) (Some y) r o p v w v2 w2 h e = apart x y h.0 h.1 h.2 h.3 h.4
  where
    apart : (x y x2 y2 : ℕ) → r ≡ DoneTwo x y x2 y2 → o ≡ Some x2 → p ≡ Some y2 → (Some x ≡ Some v) × (Some y ≡ Some w) × (o ≡ Some v2) × (p ≡ Some w2)
    apart x y x2 y2 d f g = (cc, cc, cc, cc)
done_same (Some x) None r o p v w v2 w2 h e = absurd (apart h.0)
  where
    apart : r ≡ Absent → ⊥
    apart d = cc
done_same None b r o p v w v2 w2 h e = absurd (apart h.0)
  where
    apart : r ≡ Absent → ⊥
    apart d = cc

step_total : (m m2 : Map ℕ) (c : Call ℕ) (r : Reply ℕ) → Step m c r m2 → KeepsTotal c r → total (entries m2) ≡ total (entries m)
step_total m m2 (On k Find) r st h = ap (λ (x : Map ℕ). total (entries x)) (maps_alike m2 m (λ q. dite (dec_name q k)
    (λ e. ap (get m2) e ∙ (find_same (get m k) r (get m2 k) st.0 ∙ ap (get m) (sym e))) (λ ne. st.1 q ne)))
step_total m m2 (On k (Insert u)) r st h = absurd h
step_total m m2 (On k (Assign u)) r st h = absurd h
step_total m m2 (On k (Update u)) r st h = absurd h
step_total m m2 (On k Change) r st h = absurd h
step_total m m2 (On k (Upsert u)) r st h = absurd h
step_total m m2 (On k Erase) r st h = absurd h
step_total m m2 Len r st h = ap (λ (x : Map ℕ). total (entries x)) st.1
step_total m m2 (Session a b) r st h = ap total (st.2 ∙ (sym h ∙ sym st.1))
step_total m m2 (SessionOn qs a b) r st h =
    let t = names_total qs m m2 st.1 st.4 in
    let before = ap sum_of st.2 in
    let after = ap sum_of st.3 in
    omega arith
step_total m m2 (ChangeTwo j k) r st h = ⊎_elim
    (λ e. let x = absent_same (get m j) (get m k) r (get m2 j) (get m2 k) st.1 e in
    ap (λ (x : Map ℕ). total (entries x)) (maps_alike m2 m (λ q. dite (dec_name q j) (λ f. ap (get m2) f ∙ (x.0 ∙ ap (get m) (sym f)))
    (λ no_j. dite (dec_name q k) (λ f. ap (get m2) f ∙ (x.1 ∙ ap (get m) (sym f))) (λ no_k. st.2 q no_j no_k)))))
    (λ (d : (v : ℕ) × (w : ℕ) × (v2 : ℕ) × (w2 : ℕ) × (r ≡ DoneTwo v w v2 w2) × (v + w ≡ v2 + w2)).
    let x = done_same (get m j) (get m k) r (get m2 j) (get m2 k) d.0 d.1 d.2 d.3 st.1 d.4 in
    let one = total-insert m j d.2 d.0 x.0 in
    let two = total-insert (insert m j d.2) k d.3 d.1 (get_kept m j k d.2 (λ e. st.0 (sym e)) ∙ x.1) in
    ap (λ (x : Map ℕ). total (entries x)) (two_inserts m m2 j k d.2 d.3 st.0 x.2 x.3 st.2)
    ∙ sums (total (entries m)) (total (entries (insert m j d.2))) (total (entries (insert (insert m j d.2) k d.3))) d.0 d.1 d.2 d.3 one two d.5)
    h

session_shows : (m m2 : Map ℕ) (c : Call ℕ) (r : Reply ℕ) (n : ℕ) → total (entries m) ≡ n → Step m c r m2 → SessionShows n c
session_shows m m2 (On k a) r n e st = tt
session_shows m m2 (ChangeTwo j k) r n e st = tt
session_shows m m2 Len r n e st = tt
session_shows m m2 (SessionOn qs a b) r n e st = tt
session_shows m m2 (Session a b) r n e st = ap total (sym st.1) ∙ e

sums_keep : (more : List (Entry ℕ)) (m m2 : Map ℕ) (n : ℕ) → total (entries m) ≡ n → Leads m more m2 → EachKeepsTotal more → EachSessionShows n more
sums_keep [] m m2 n e l h = tt
sums_keep (x ∷ xs) m m2 n e l h = (session_shows m l.0 x.call x.reply n e l.1, sums_keep xs l.0 m2 n (step_total m l.0 x.call x.reply l.1 h.0 ∙ e) l.2 h.1)

pub legal_sums : LawOfSums
legal_sums log more m legal after keeps =
    let z = leads_to empty legal.0 log more legal.1 in
    let same : z.0 ≡ m = leads_one empty log z.0 m z.1 after in
    sums_keep more m legal.0 (total (entries m)) refl (subst (λ (x : Map ℕ). Leads x more legal.0) same z.2) keeps
