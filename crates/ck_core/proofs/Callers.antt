-- What callers know, as the history and the views change.
use Rattle.std.proofs.Common.{◌≡◌, ◌≢◌, ◌⊎◌, ℕ, inl, inr, List, [], ◌∷◌, ◌++◌, set, sym, refl, ap, ◌∙◌, subst, ⊎_elim, arith, append-nil, length, length-set, Option, Some}
use mathlib.Core.Option.{some}
use mathlib.Core.Logic.{dite}
use native.Mathlib.Decide.{ℕ_discrete}
use lib.ListN.{get_elem?}
use Rattle.ck_model.specs.declared.history.Entry.{Entry}
use Rattle.ck_model.specs.Numbered.{IsIn, AreDistinct, numbers, Holds}
use Rattle.ck_model.specs.Promise.{StartsWith, subhistory}
use Rattle.ck_model.proofs.Numbered.{if_same, if_else, in_held, dec_in}
use Rattle.ck_model.proofs.Histories.{subhistory-append, subhistory-own, subhistory-other, starts_more}
use Rattle.ck_core.specs.declared.view.View.{View}
use Rattle.ck_core.specs.State.{NoneBy, Sees, author_of, own, owned, Knows, Callers}
use Rattle.ck_core.proofs.Lists.{each_set, each_snoc}
use Rattle.ck_core.proofs.Sees.{sees_all, sees_as, sees_more}

pick : {P : Type 0} → Dec P → ℕ → ℕ → ℕ
pick (yes _) a b = a
pick (no _) a b = b

pick_yes : {P : Type 0} (d : Dec P) (a b : ℕ) → P → pick d a b ≡ a
unfolding pick
pick_yes (yes _) a b p = refl
pick_yes (no n) a b p = absurd (n p)

pick_no : {P : Type 0} (d : Dec P) (a b : ℕ) → ¬ P → pick d a b ≡ b
unfolding pick
pick_no (yes p) a b n = absurd (n p)
pick_no (no _) a b n = refl

module _ {V : Type 0} where
  pub owned_as : (v w : View V) → w.by ≡ v.by → w.mine ≡ v.mine → w.others ≡ v.others → owned w ≡ owned v
  owned_as v w by mine others = λ i. own (by i) (mine i) ++ others i

  pub own_held : (v : View V) (m : ℕ) → v.by ≡ Some m → Holds (owned v) m v.mine
  own_held v m e = subst (λ (b : Option ℕ). Holds (own b v.mine ++ v.others) m v.mine) (sym e) (inl (refl, refl))

  -- a caller's number is one of its view's
  pub own_in : (v : View V) (m : ℕ) → v.by ≡ Some m → IsIn m (numbers (owned v))
  own_in v m e = in_held (owned v) m v.mine (own_held v m e)

  -- entries that are by others
  pub subhistory_none : (m : ℕ) (l : List (Entry V)) → NoneBy author_of m l → subhistory m l ≡ []
  subhistory_none m [] none = refl
  subhistory_none m (x ∷ xs) none = if_else x.by m (x ∷ subhistory m xs) (subhistory m xs) none.0 ∙ subhistory_none m xs none.1

  pub none_subhistory : (m : ℕ) (l : List (Entry V)) → subhistory m l ≡ [] → NoneBy author_of m l
  none_subhistory m [] e = tt
  none_subhistory m (x ∷ xs) e = dite (ℕ_discrete x.by m)
      (λ is. let l = ap length (sym (if_same x.by m (x ∷ subhistory m xs) (subhistory m xs) is) ∙ e) in absurd (omega arith))
      (λ other. (other, none_subhistory m xs (sym (if_else x.by m (x ∷ subhistory m xs) (subhistory m xs) other) ∙ e)))

  -- what was seen begins the history
  pub seen_starts : (callers : ℕ) (log : List (Entry V)) (v : View V) → Knows callers log v → StartsWith log v.seen
  seen_starts callers log v kn = (kn.sees.unseen, kn.sees.begins)

  -- a caller has seen its own entries
  pub seen_own : (callers : ℕ) (log : List (Entry V)) (v : View V) → Knows callers log v → (m : ℕ) → v.by ≡ Some m → subhistory m v.seen ≡ v.mine
  seen_own callers log v kn m e =
      sym (ap (subhistory m) kn.sees.begins ∙ (subhistory-append m v.seen kn.sees.unseen ∙ (ap (λ l. subhistory m v.seen ++ l) (subhistory_none m kn.sees.unseen (kn.sees.by_others m e)) ∙ append-nil (subhistory m v.seen))))
      ∙ kn.calls m v.mine (own_held v m e)

  -- the view sees the history so, and knows else what it did
  pub knows_as : (callers : ℕ) (log : List (Entry V)) (v w : View V) → Knows callers log v → w.by ≡ v.by → w.mine ≡ v.mine → w.others ≡ v.others → w.heard ≡ v.heard → Sees author_of (λ m. w.by ≡ Some m) log w.seen → Knows callers log w
  knows_as callers log v w kn by mine others heard sees =
      let same = owned_as v w by mine others in
      record {
        sees = sees;
        heard = subst (StartsWith log) (sym heard) kn.heard;
        calls = λ m l h. kn.calls m l (subst (λ (o : List (ℕ × List (Entry V))). Holds o m l) same h);
        distinct = subst (λ (o : List (ℕ × List (Entry V))). AreDistinct (numbers o)) (sym same) kn.distinct;
        within = λ m i. kn.within m (subst (λ (o : List (ℕ × List (Entry V))). IsIn m (numbers o)) same i);
      }

  -- it has seen the whole history
  pub knows_all : (callers : ℕ) (log : List (Entry V)) (v w : View V) → Knows callers log v → w.by ≡ v.by → w.mine ≡ v.mine → w.others ≡ v.others → w.heard ≡ v.heard → w.seen ≡ log → Knows callers log w
  knows_all callers log v w kn by mine others heard is = knows_as callers log v w kn by mine others heard (sees_all author_of (λ m. w.by ≡ Some m) log w.seen is)

  -- or what it had seen
  pub knows_same : (callers : ℕ) (log : List (Entry V)) (v w : View V) → Knows callers log v → w.by ≡ v.by → w.mine ≡ v.mine → w.others ≡ v.others → w.heard ≡ v.heard → w.seen ≡ v.seen → Knows callers log w
  knows_same callers log v w kn by mine others heard is = knows_as callers log v w kn by mine others heard
      (sees_as author_of (λ m. v.by ≡ Some m) log v.seen kn.sees (λ m. w.by ≡ Some m) w.seen is (λ m e. sym by ∙ e))

  -- one view changed, and keeps its numbers
  pub callers_set : (callers : ℕ) (log : List (Entry V)) (views : List (View V)) (id : ℕ) (v w : View V) → Callers callers log views → get_elem? views id ≡ some v
      → owned w ≡ owned v → Knows callers log w → Callers callers log (set views id w)
  callers_set callers log views id v w cs at same kn = record {
    keeper = cs.keeper;
    keeps = each_set (λ j u. (m : ℕ) → IsIn m (numbers (owned u)) → cs.keeper m ≡ j) views id w (λ m i. cs.keeps id v at m (subst (λ (o : List (ℕ × List (Entry V))). IsIn m (numbers o)) same i)) (λ j u _ e. cs.keeps j u e);
    knows = each_set (λ _ u. Knows callers log u) views id w kn (λ j u _ e. cs.knows j u e);
  }

  -- a caller adds an entry
  pub callers_add : (callers : ℕ) (log : List (Entry V)) (views : List (View V)) (id : ℕ) (v w : View V) (e : Entry V) → Callers callers log views → get_elem? views id ≡ some v
      → v.by ≡ Some e.by → w.by ≡ v.by → w.mine ≡ v.mine ++ e ∷ [] → w.others ≡ v.others → w.heard ≡ v.heard → w.seen ≡ log ++ e ∷ [] → Callers callers (log ++ e ∷ []) (set views id w)
  callers_add callers log views id v w e cs at by same_by mine others heard seen =
      let ov : owned v ≡ (e.by, v.mine) ∷ v.others = ap (λ b. own b v.mine ++ v.others) by in
      let ow : owned w ≡ (e.by, v.mine ++ e ∷ []) ∷ v.others = λ i. own ((same_by ∙ by) i) (mine i) ++ others i in
      let same : numbers (owned w) ≡ numbers (owned v) = ap numbers ow ∙ sym (ap numbers ov) in
      let kn = cs.knows id v at in
      let first = own_in v e.by by in
      let apart : AreDistinct (numbers ((e.by, v.mine) ∷ v.others)) = subst (λ (o : List (ℕ × List (Entry V))). AreDistinct (numbers o)) ov kn.distinct in
      record {
        keeper = cs.keeper;
        keeps = each_set (λ j u. (m : ℕ) → IsIn m (numbers (owned u)) → cs.keeper m ≡ j) views id w (λ m i. cs.keeps id v at m (subst (IsIn m) same i)) (λ j u _ a. cs.keeps j u a);
        knows = each_set (λ _ u. Knows callers (log ++ e ∷ []) u) views id w
            (record {
              sees = sees_all author_of (λ m. w.by ≡ Some m) (log ++ e ∷ []) w.seen seen;
              heard = subst (StartsWith (log ++ e ∷ [])) (sym heard) (starts_more log v.heard e kn.heard);
              calls = λ m l h. ⊎_elim
                  (λ (f : (e.by ≡ m) × (v.mine ++ e ∷ [] ≡ l)). subhistory-own m log e f.0 ∙ (ap (λ (x : List (Entry V)). x ++ e ∷ []) (kn.calls m v.mine (own_held v m (by ∙ ap Some f.0))) ∙ f.1))
                  (λ r. subhistory-other m log e (λ f. apart.0 (subst (λ (x : ℕ). IsIn x (numbers v.others)) (sym f) (in_held v.others m l r))) ∙ kn.calls m l (subst (λ (o : List (ℕ × List (Entry V))). Holds o m l) (sym ov) (inr r)))
                  (subst (λ (o : List (ℕ × List (Entry V))). Holds o m l) ow h);
              distinct = subst AreDistinct (sym same) kn.distinct;
              within = λ m i. kn.within m (subst (IsIn m) same i);
            })
            (λ j u other a. let ku = cs.knows j u a in
            record {
              sees = sees_more author_of (λ m. u.by ≡ Some m) log u.seen ku.sees e (λ m is f. other (sym (cs.keeps j u a m (own_in u m is)) ∙ (ap cs.keeper (sym f) ∙ cs.keeps id v at e.by first)));
              heard = starts_more log u.heard e ku.heard;
              calls = λ m l h. subhistory-other m log e (λ f. other (sym (cs.keeps j u a m (in_held (owned u) m l h)) ∙ (ap cs.keeper (sym f) ∙ cs.keeps id v at e.by first))) ∙ ku.calls m l h;
              distinct = ku.distinct;
              within = ku.within;
            });
      }

  -- a view is cut in two, each number going to one of them
  pub callers_split : (callers : ℕ) (log : List (Entry V)) (views : List (View V)) (id : ℕ) (v left right : View V) → Callers callers log views → get_elem? views id ≡ some v
      → ((m : ℕ) → IsIn m (numbers (owned left)) → IsIn m (numbers (owned v)) × ¬ (IsIn m (numbers (owned right)))) → ((m : ℕ) → IsIn m (numbers (owned right)) → IsIn m (numbers (owned v)))
      → Knows callers log left → Knows callers log right → Callers callers log (set views id left ++ right ∷ [])
  callers_split callers log views id v left right cs at of_left of_right kl kr =
      let keeper : ℕ → ℕ = λ m. pick (dec_in m (numbers (owned right))) (length views) (cs.keeper m) in
      record {
        keeper = keeper;
        keeps = each_snoc (λ j u. (m : ℕ) → IsIn m (numbers (owned u)) → keeper m ≡ j) (set views id left) right
            (each_set (λ j u. (m : ℕ) → IsIn m (numbers (owned u)) → keeper m ≡ j) views id left
            (λ m i. let o = of_left m i in pick_no (dec_in m (numbers (owned right))) (length views) (cs.keeper m) o.1 ∙ cs.keeps id v at m o.0)
            (λ j u other a m i. pick_no (dec_in m (numbers (owned right))) (length views) (cs.keeper m) (λ r. other (sym (cs.keeps j u a m i) ∙ cs.keeps id v at m (of_right m r))) ∙ cs.keeps j u a m i))
            (λ m i. pick_yes (dec_in m (numbers (owned right))) (length views) (cs.keeper m) i ∙ sym (length-set views id left));
        knows = each_snoc (λ _ u. Knows callers log u) (set views id left) right (each_set (λ _ u. Knows callers log u) views id left kl (λ j u _ a. cs.knows j u a)) kr;
      }

  -- a view takes in the numbers of another, which is left with none
  pub callers_join : (callers : ℕ) (log : List (Entry V)) (views : List (View V)) (id other : ℕ) (v w both rest : View V) → Callers callers log views → get_elem? views id ≡ some v → get_elem? views other ≡ some w
      → ((m : ℕ) → IsIn m (numbers (owned both)) → IsIn m (numbers (owned v)) ⊎ IsIn m (numbers (owned w))) → Knows callers log both → numbers (owned rest) ≡ [] → Knows callers log rest
      → Callers callers log (set (set views id both) other rest)
  callers_join callers log views id other v w both rest cs at at_other of_both kb none kr =
      let keeper : ℕ → ℕ = λ m. pick (dec_in m (numbers (owned w))) id (cs.keeper m) in
      record {
        keeper = keeper;
        keeps = each_set (λ j u. (m : ℕ) → IsIn m (numbers (owned u)) → keeper m ≡ j) (set views id both) other rest (λ m i. absurd (subst (IsIn m) none i))
            (λ j u not_other a. each_set (λ j u. j ≢ other → (m : ℕ) → IsIn m (numbers (owned u)) → keeper m ≡ j) views id both
            (λ _ m i. ⊎_elim (λ h. dite (dec_in m (numbers (owned w))) (λ y. pick_yes (dec_in m (numbers (owned w))) id (cs.keeper m) y) (λ y. pick_no (dec_in m (numbers (owned w))) id (cs.keeper m) y ∙ cs.keeps id v at m h))
            (λ h. pick_yes (dec_in m (numbers (owned w))) id (cs.keeper m) h) (of_both m i))
            (λ j u _ a ne m i. pick_no (dec_in m (numbers (owned w))) id (cs.keeper m) (λ h. ne (sym (cs.keeps j u a m i) ∙ cs.keeps other w at_other m h)) ∙ cs.keeps j u a m i)
            j u a not_other);
        knows = each_set (λ _ u. Knows callers log u) (set views id both) other rest kr (λ j u _ a. each_set (λ _ u. Knows callers log u) views id both kb (λ j u _ a. cs.knows j u a) j u a);
      }
