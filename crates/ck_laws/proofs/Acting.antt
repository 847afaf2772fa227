-- What a step of each act makes of the map.
use Rattle.std.proofs.Common.{◌≡◌, ◌≢◌, ◌⊎◌, inl, inr, sym, ap, ◌∙◌, subst, cond, refl, Option, Some, None}
use mathlib.Core.Logic.{dite}
use Rattle.std.specs.Cmp.Lexicographic.{nat_list_cmp_total}
use Rattle.std.specs.FinMap.{get, insert, remove, get-insert, get-remove}
use Rattle.ck_model.specs.declared.history.Act.TheVariants.{Find, Insert, Assign, Update, Change, Upsert, Erase}
use Rattle.ck_model.specs.declared.history.Reply.TheVariants.{Was, New, Old, Done, DoneTwo, Absent}
use Rattle.ck_model.specs.declared.history.Reply.{Reply}
use Rattle.ck_model.specs.Promise.{Name, Map, Answers, AnswersTwo}
use Rattle.ck_model.proofs.Names.{dec_name, maps_alike, is_name, no_name}
use Rattle.ck_laws.specs.Laws.{FindsRead, InsertsBind, InsertsKeep, AssignsBind, UpdatesBind, UpdatesKeep, ChangesBind, ChangesKeep, UpsertsBind, UpsertsChange, ErasesUnbind, ChangesOfTwoBind, ChangesOfTwoKeep, BoundIsFound, UnboundIsGone, OthersStay}

module _ {V : Type 0} where
  pub get_new : BoundIsFound V
  get_new m k v = get-insert nat_list_cmp_total m k v k ∙ ap (λ b. cond b (Some v) (get m k)) (is_name k k refl)

  get_kept : (m : Map V) (k q : Name) (v : V) → q ≢ k → get (insert m k v) q ≡ get m q
  get_kept m k q v ne = get-insert nat_list_cmp_total m k v q ∙ ap (λ b. cond b (Some v) (get m q)) (no_name q k ne)

  pub get_gone : UnboundIsGone V
  get_gone m k = get-remove nat_list_cmp_total m k k ∙ ap (λ b. cond b None (get m k)) (is_name k k refl)

  get_left : (m : Map V) (k q : Name) → q ≢ k → get (remove m k) q ≡ get m q
  get_left m k q ne = get-remove nat_list_cmp_total m k q ∙ ap (λ b. cond b None (get m q)) (no_name q k ne)

  pub get_others : OthersStay V
  get_others m k q v ne = (get_kept m k q v ne, get_left m k q ne)

  -- maps that have the name bound alike, and the others as a third
  by_name : (m a b : Map V) (k : Name) → get a k ≡ get b k → ((q : Name) → q ≢ k → get a q ≡ get m q) → ((q : Name) → q ≢ k → get b q ≡ get m q) → a ≡ b
  by_name m a b k e f g = maps_alike a b (λ q. dite (dec_name q k) (λ is. subst (λ (x : Name). get a x ≡ get b x) (sym is) e) (λ ne. f q ne ∙ sym (g q ne)))

  -- a map in which only this name may be bound anew, and is bound to this
  bound_to : (m m2 : Map V) (k : Name) (v : V) → get m2 k ≡ Some v → ((q : Name) → q ≢ k → get m2 q ≡ get m q) → m2 ≡ insert m k v
  bound_to m m2 k v e f = by_name m m2 (insert m k v) k (e ∙ sym (get_new m k v)) f (λ q ne. get_kept m k q v ne)

  -- one in which it is bound as it was
  as_it_was : (m m2 : Map V) (k : Name) → get m2 k ≡ get m k → ((q : Name) → q ≢ k → get m2 q ≡ get m q) → m2 ≡ m
  as_it_was m m2 k e f = by_name m m2 m k e f (λ q ne. refl)

  was_same : (o p : Option V) → Was o ≡ Was p → o ≡ p
  was_same o p e = cc

  old_apart : (r : Reply V) → r ≡ Old → r ≡ New → ⊥
  old_apart r e f = cc

  some_apart : (v : V) → Some v ≡ None → ⊥
  some_apart v e = cc

  done_apart : (v w : V) → Done v w ≡ New → ⊥
  done_apart v w e = cc

  done_absent : (v w : V) → Done v w ≡ Absent → ⊥
  done_absent v w e = cc

  done_done : (v w v2 w2 : V) (p : Option V) → Done v w ≡ Done v2 w2 → p ≡ Some w2 → (Some v2 ≡ Some v) × (p ≡ Some w)
  done_done v w v2 w2 p e f = (cc, cc)

  find_answer : (o b p : Option V) → Answers Find b (Was o) p → (o ≡ b) × (p ≡ b)
  find_answer o None p a = (was_same o None a.0, a.1)
  find_answer o (Some v) p a = (was_same o (Some v) a.0, a.1)

  insert_new : (u : V) (b p : Option V) → Answers (Insert u) b New p → (b ≡ None) × (p ≡ Some u)
  insert_new u None p a = (refl, a.1)
  insert_new u (Some v) p a = absurd (old_apart New a.0 refl)

  insert_old : (u : V) (b p : Option V) → Answers (Insert u) b Old p → ((w : V) × (b ≡ Some w)) × (p ≡ b)
  insert_old u None p a = absurd (old_apart Old refl a.0)
  insert_old u (Some v) p a = ((v, refl), a.1)

  assign_answer : (u : V) (o b p : Option V) → Answers (Assign u) b (Was o) p → (o ≡ b) × (p ≡ Some u)
  assign_answer u o None p a = (was_same o None a.0, a.1)
  assign_answer u o (Some v) p a = (was_same o (Some v) a.0, a.1)

  update_some : (u v : V) (b p : Option V) → Answers (Update u) b (Was (Some v)) p → (b ≡ Some v) × (p ≡ Some u)
  update_some u v None p a = absurd (some_apart v (was_same (Some v) None a.0))
  update_some u v (Some w) p a = (sym (was_same (Some v) (Some w) a.0), a.1)

  update_none : (u : V) (b p : Option V) → Answers (Update u) b (Was None) p → (b ≡ None) × (p ≡ b)
  update_none u None p a = (refl, a.1)
  update_none u (Some w) p a = absurd (some_apart w (sym (was_same None (Some w) a.0)))

  change_done : (v w : V) (b p : Option V) → Answers Change b (Done v w) p → (b ≡ Some v) × (p ≡ Some w)
  change_done v w None p a = absurd (done_absent v w a.0)
  change_done v w (Some x) p a = done_done v w x a.0 p a.1 a.2

  change_absent : (b p : Option V) → Answers Change b Absent p → (b ≡ None) × (p ≡ b)
  change_absent None p a = (refl, a.1)
  change_absent (Some x) p a = absurd (done_absent x a.0 (sym a.1))

  upsert_new : (u : V) (b p : Option V) → Answers (Upsert u) b New p → (b ≡ None) × (p ≡ Some u)
  upsert_new u None p a = (refl, a.1)
  upsert_new u (Some v) p a = absurd (done_apart v a.0 (sym a.1))

  upsert_done : (u v w : V) (b p : Option V) → Answers (Upsert u) b (Done v w) p → (b ≡ Some v) × (p ≡ Some w)
  upsert_done u v w None p a = absurd (done_apart v w a.0)
  upsert_done u v w (Some x) p a = done_done v w x a.0 p a.1 a.2

  erase_answer : (o b p : Option V) → Answers Erase b (Was o) p → (o ≡ b) × (p ≡ None)
  erase_answer o None p a = (was_same o None a.0, a.1)
  erase_answer o (Some v) p a = (was_same o (Some v) a.0, a.1)

  pub finding : FindsRead V
  finding m m2 k o st = let a = find_answer o (get m k) (get m2 k) st.0 in (a.0, as_it_was m m2 k a.1 st.1)

  pub inserting_new : InsertsBind V
  inserting_new m m2 k v st = let a = insert_new v (get m k) (get m2 k) st.0 in (a.0, bound_to m m2 k v a.1 st.1)

  pub inserting_old : InsertsKeep V
  inserting_old m m2 k v st = let a = insert_old v (get m k) (get m2 k) st.0 in (a.0, as_it_was m m2 k a.1 st.1)

  pub assigning : AssignsBind V
  assigning m m2 k v o st = let a = assign_answer v o (get m k) (get m2 k) st.0 in (a.0, bound_to m m2 k v a.1 st.1)

  pub updating : UpdatesBind V
  updating m m2 k v w st = let a = update_some w v (get m k) (get m2 k) st.0 in (a.0, bound_to m m2 k w a.1 st.1)

  pub updating_none : UpdatesKeep V
  updating_none m m2 k w st = let a = update_none w (get m k) (get m2 k) st.0 in (a.0, as_it_was m m2 k a.1 st.1)

  pub changing : ChangesBind V
  changing m m2 k v w st = let a = change_done v w (get m k) (get m2 k) st.0 in (a.0, bound_to m m2 k w a.1 st.1)

  pub changing_none : ChangesKeep V
  changing_none m m2 k st = let a = change_absent (get m k) (get m2 k) st.0 in (a.0, as_it_was m m2 k a.1 st.1)

  pub upserting_new : UpsertsBind V
  upserting_new m m2 k u st = let a = upsert_new u (get m k) (get m2 k) st.0 in (a.0, bound_to m m2 k u a.1 st.1)

  pub upserting_done : UpsertsChange V
  upserting_done m m2 k u v w st = let a = upsert_done u v w (get m k) (get m2 k) st.0 in (a.0, bound_to m m2 k w a.1 st.1)

  pub erasing : ErasesUnbind V
  erasing m m2 k o st =
      let a = erase_answer o (get m k) (get m2 k) st.0 in
      (a.0, by_name m m2 (remove m k) k (a.1 ∙ sym (get_gone m k)) st.1 (λ q ne. get_left m k q ne))

  done_two : (v w v2 w2 a b a2 b2 : V) → DoneTwo v w v2 w2 ≡ DoneTwo a b a2 b2 → (Some a ≡ Some v) × (Some b ≡ Some w) × (Some a2 ≡ Some v2) × (Some b2 ≡ Some w2)
  done_two v w v2 w2 a b a2 b2 e = (cc, cc, cc, cc)

  done_two_apart : (v w v2 w2 : V) → DoneTwo v w v2 w2 ≡ Absent → ⊥
  done_two_apart v w v2 w2 e = cc

  two_done : (v w v2 w2 : V) (b c o p : Option V) → AnswersTwo b c (DoneTwo v w v2 w2) o p → (b ≡ Some v) × (c ≡ Some w) × (o ≡ Some v2) × (p ≡ Some w2)
  two_done v w v2 w2 (Some x) (Some y) o p a =
      let e = done_two v w v2 w2 x y a.0 a.1 a.2 in
      (e.0, e.1, a.3 ∙ e.2, a.4 ∙ e.3)
  two_done v w v2 w2 (Some x) None o p a = absurd (done_two_apart v w v2 w2 a.0)
  two_done v w v2 w2 None c o p a = absurd (done_two_apart v w v2 w2 a.0)

  two_absent : (b c o p : Option V) → AnswersTwo b c Absent o p → ((b ≡ None) ⊎ (c ≡ None)) × (o ≡ b) × (p ≡ c)
  two_absent (Some x) (Some y) o p a = absurd (done_two_apart x y a.0 a.1 (sym a.2))
  two_absent (Some x) None o p a = (inr refl, a.1, a.2)
  two_absent None c o p a = (inl refl, a.1, a.2)

  -- maps that have both names bound alike, and the others as a third
  by_two : (m a b : Map V) (j k : Name) → get a j ≡ get b j → get a k ≡ get b k
      → ((q : Name) → q ≢ j → q ≢ k → get a q ≡ get m q) → ((q : Name) → q ≢ j → q ≢ k → get b q ≡ get m q) → a ≡ b
  by_two m a b j k at_j at_k f g = maps_alike a b (λ q. dite (dec_name q j) (λ is. subst (λ (x : Name). get a x ≡ get b x) (sym is) at_j)
      (λ nj. dite (dec_name q k) (λ is. subst (λ (x : Name). get a x ≡ get b x) (sym is) at_k) (λ nk. f q nj nk ∙ sym (g q nj nk))))

  pub changing_two : ChangesOfTwoBind V
  changing_two m m2 j k v w v2 w2 st =
      let a = two_done v w v2 w2 (get m j) (get m k) (get m2 j) (get m2 k) st.1 in
      let at_j : get (insert (insert m j v2) k w2) j ≡ Some v2 = get_kept (insert m j v2) k j w2 st.0 ∙ get_new m j v2 in (
        a.0,
        a.1,
        by_two m m2 (insert (insert m j v2) k w2) j k (a.2 ∙ sym at_j) (a.3 ∙ sym (get_new (insert m j v2) k w2)) st.2
            (λ q nj nk. get_kept (insert m j v2) k q w2 nk ∙ get_kept m j q v2 nj),
      )

  pub changing_two_none : ChangesOfTwoKeep V
  changing_two_none m m2 j k st =
      let a = two_absent (get m j) (get m k) (get m2 j) (get m2 k) st.1 in
      (a.0, by_two m m2 m j k a.1 a.2 st.2 (λ q nj nk. refl))
