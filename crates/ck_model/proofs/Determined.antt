-- The plain map: call and reply determine what a step leaves.
use Rattle.std.proofs.Common.{◌≡◌, inl, inr, List, [], ◌∷◌, refl, sym, ap, ◌∙◌, subst, Option, Some, None}
use mathlib.Core.Logic.{dite}
use Rattle.std.specs.FinMap.{get, same_entries_map}
use Rattle.ck_model.specs.declared.history.Act.{Act}
use Rattle.ck_model.specs.declared.history.Act.TheVariants.{Find, Insert, Assign, Update, Change, Upsert, Erase}
use Rattle.ck_model.specs.declared.history.Call.{Call}
use Rattle.ck_model.specs.declared.history.Call.TheVariants.{On, ChangeTwo, Len, SessionOn, Session}
use Rattle.ck_model.specs.declared.history.Reply.{Reply}
use Rattle.ck_model.specs.declared.history.Reply.TheVariants.{Done, DoneTwo, Closed}
use Rattle.ck_model.specs.declared.history.Entry.{Entry}
use Rattle.ck_model.specs.Promise.{Name, Map, bound_in, Answers, AnswersTwo, Step, Leads}
use Rattle.ck_model.specs.Numbered.{IsIn, AreDistinct}
use Rattle.ck_model.specs.Laws.{SpeaksOf}
use Rattle.ck_model.proofs.Names.{dec_name, dec_among, maps_alike, alike_among}

module _ {V : Type 0} where
  by_done : (r : Reply V) (v w w2 : V) (o p : Option V) → r ≡ Done v w → o ≡ Some w → r ≡ Done v w2 → p ≡ Some w2 → o ≡ p
  by_done r v w w2 o p a b c d = cc

  answers_one : (a : Act V) (b : Option V) (r : Reply V) (o p : Option V) → Answers a b r o → Answers a b r p → o ≡ p
  answers_one Find (Some v) r o p x y = x.1 ∙ sym y.1
  answers_one Find None r o p x y = x.1 ∙ sym y.1
  answers_one (Insert u) (Some v) r o p x y = x.1 ∙ sym y.1
  answers_one (Insert u) None r o p x y = x.1 ∙ sym y.1
  answers_one (Assign u) (Some v) r o p x y = x.1 ∙ sym y.1
  answers_one (Assign u) None r o p x y = x.1 ∙ sym y.1
  answers_one (Update u) (Some v) r o p x y = x.1 ∙ sym y.1
  answers_one (Update u) None r o p x y = x.1 ∙ sym y.1
  answers_one Change (Some v) r o p x y = by_done r v x.0 y.0 o p x.1 x.2 y.1 y.2
  answers_one Change None r o p x y = x.1 ∙ sym y.1
  answers_one (Upsert u) (Some v) r o p x y = by_done r v x.0 y.0 o p x.1 x.2 y.1 y.2
  answers_one (Upsert u) None r o p x y = x.1 ∙ sym y.1
  answers_one Erase (Some v) r o p x y = x.1 ∙ sym y.1
  answers_one Erase None r o p x y = x.1 ∙ sym y.1

  by_done_two : (r : Reply V) (v w v2 w2 v3 w3 : V) (o p o2 p2 : Option V) → r ≡ DoneTwo v w v2 w2 → o ≡ Some v2 → p ≡ Some w2 → r ≡ DoneTwo v w v3 w3 → o2 ≡ Some v3 → p2 ≡ Some w3 → (o ≡ o2) × (p ≡ p2)
  by_done_two r v w v2 w2 v3 w3 o p o2 p2 a b c d e f = (cc, cc)

  two_one : (a b : Option V) (r : Reply V) (o p o2 p2 : Option V) → AnswersTwo a b r o p → AnswersTwo a b r o2 p2 → (o ≡ o2) × (p ≡ p2)
  two_one (Some v) (Some w) r o p o2 p2 x y = by_done_two r v w x.0 x.1 y.0 y.1 o p o2 p2 x.2 x.3 x.4 y.2 y.3 y.4
  two_one (Some v) None r o p o2 p2 x y = (x.1 ∙ sym y.1, x.2 ∙ sym y.2)
  two_one None b r o p o2 p2 x y = (x.1 ∙ sym y.1, x.2 ∙ sym y.2)

  -- a step leaves one map
  pub step_one : (m : Map V) (c : Call V) (r : Reply V) (a b : Map V) → Step m c r a → Step m c r b → a ≡ b
  step_one m (On k act) r a b x y = maps_alike a b (λ q. dite (dec_name q k)
      (λ e. subst (λ (z : Name). get a z ≡ get b z) (sym e) (answers_one act (get m k) r (get a k) (get b k) x.0 y.0))
      (λ ne. x.1 q ne ∙ sym (y.1 q ne)))
  step_one m (ChangeTwo j k) r a b x y =
      let t = two_one (get m j) (get m k) r (get a j) (get a k) (get b j) (get b k) x.1 y.1 in
      maps_alike a b (λ q. dite (dec_name q j) (λ e. subst (λ (z : Name). get a z ≡ get b z) (sym e) t.0)
      (λ ne. dite (dec_name q k) (λ e. subst (λ (z : Name). get a z ≡ get b z) (sym e) t.1) (λ ne2. x.2 q ne ne2 ∙ sym (y.2 q ne ne2))))
  step_one m Len r a b x y = x.1 ∙ sym y.1
  step_one m (SessionOn qs s t) r a b x y = maps_alike a b (λ q. dite (dec_among q qs) (λ i. alike_among a b qs (x.3 ∙ sym y.3) q i) (λ out. x.4 q out ∙ sym (y.4 q out)))
  step_one m (Session s t) r a b x y = same_entries_map a b (x.2 ∙ sym y.2)

  -- a step leaves the names of which the call doesn't speak
  pub step_others : (m m2 : Map V) (c : Call V) (r : Reply V) → Step m c r m2 → (q : Name) → ¬ (SpeaksOf c q) → get m2 q ≡ get m q
  step_others m m2 (On k a) r st q h = st.1 q h
  step_others m m2 (ChangeTwo j k) r st q h = st.2 q (λ e. h (inl e)) (λ e. h (inr e))
  step_others m m2 Len r st q h = ap (λ (x : Map V). get x q) st.1
  step_others m m2 (SessionOn qs a b) r st q h = st.4 q h
  step_others m m2 (Session a b) r st q h = absurd (h tt)

  -- a step is a session on the names of which its call speaks
  pub step_session : (m m2 : Map V) (c : Call V) (r : Reply V) → Step m c r m2 → (qs : List Name) → AreDistinct qs → ((q : Name) → SpeaksOf c q → IsIn q qs)
      → Step m (SessionOn qs (bound_in m qs) (bound_in m2 qs)) Closed m2
  step_session m m2 c r st qs apart speaks = (refl, apart, refl, refl, λ q out. step_others m m2 c r st q (λ s. out (speaks q s)))

  -- a list of entries leads to one map
  pub leads_one : (m : Map V) (log : List (Entry V)) (a b : Map V) → Leads m log a → Leads m log b → a ≡ b
  leads_one m [] a b x y = sym x ∙ y
  leads_one m (e ∷ es) a b x y = leads_one x.0 es a b x.2 (subst (λ (z : Map V). Leads z es b) (step_one m e.call e.reply y.0 x.0 y.1 x.1) y.2)
