-- What callers noted of stripes was there at a moment of the run.
use Rattle.std.proofs.Common.{◌≡◌, ◌⊎◌, ℕ, ◌-◌, ◌≤◌, suc, zero, inl, inr, List, [], ◌∷◌, ◌++◌, length, set, reverse, sym, refl, ap, ◌∙◌, subst, ⊎_elim, arith, append_assoc, append-nil, Option, Some, None}
use mathlib.Core.Option.{some}
use lib.ListN.{get_elem?}
use Rattle.ck_model.specs.declared.history.Entry.{Entry}
use Rattle.ck_model.specs.declared.history.Reason.{Reason}
use Rattle.ck_model.specs.declared.history.Reason.TheVariants.{NoRoom, Full, LoadTooLow, Memory}
use Rattle.ck_model.specs.Promise.{Name, After, StartsWith}
use Rattle.ck_model.specs.Numbered.{IsIn, numbers}
use Rattle.ck_model.specs.Contents.{Layout, Stripes, bindings, power_of}
use Rattle.ck_model.specs.Sections.{HasAll, Renewed, IdentitySection}
use Rattle.ck_model.proofs.Numbered.{held_of_in}
use Rattle.ck_core.specs.declared.view.RoomNote.{RoomNote}
use Rattle.ck_core.specs.declared.view.View.{View}
use Rattle.ck_core.specs.State.{Configuration, HistoryInvariant}
use Rattle.ck_core.specs.declared.trace.LockStep.TheVariants.{Took, Missed, Gave, Decided}
use Rattle.ck_core.specs.Steps.{Label, event, noted, gaining, growing, grown, HasGrounds, IsExcused, Transition, Execution}
use Rattle.ck_core.specs.Steps.Label.{Take, FindHeld, Give, Decide, GiveRest, Renew, Look, Open, Tell, Join}
use Rattle.ck_core.specs.Notes.{HoldsThese, ContainedOnce, LawOfRoomNotes, LawOfGrowths}
use Rattle.ck_core.proofs.Lists.{at_set, at_snoc}
use Rattle.ck_core.proofs.Keeps.{step_keeps}
use Rattle.ck_core.proofs.Openings.{opens}
use Rattle.ck_core.proofs.Answered.{views_of}
use Rattle.ck_core.proofs.Shown.{shows}

module _ {V : Type 0} where
  -- these names without room and these growths have one that is this
  abbrev Noted : List (RoomNote V) → List (Stripes V) → RoomNote V ⊎ Stripes V → Type 0
  Noted xs gs (inl x) = IsIn x xs
  Noted xs gs (inr hs) = IsIn hs gs

  -- what it says of the stripes
  abbrev held_in : RoomNote V ⊎ Stripes V → Stripes V
  held_in (inl x) = x.held
  held_in (inr hs) = hs

  abbrev Gives : Layout → ℕ → RoomNote V ⊎ Stripes V → Stripes V → Type 0
  Gives k min_load (inl x) hs = IsExcused k min_load hs (Some (x.name, x.reason))
  Gives k min_load (inr gs) hs = HasAll k hs

  none_noted : (y : RoomNote V ⊎ Stripes V) → ¬ (Noted [] [] y)
  none_noted (inl x) n = n
  none_noted (inr hs) n = n

  excused : (k : Layout) (min_load : ℕ) (hs : Stripes V) (g : Option (Name × Reason)) → HasGrounds k min_load hs g → IsExcused k min_load hs g
  excused k min_load hs None h = tt
  excused k min_load hs (Some (q, NoRoom)) h = absurd h
  excused k min_load hs (Some (q, Full)) h = h
  excused k min_load hs (Some (q, LoadTooLow)) h = h
  excused k min_load hs (Some (q, Memory)) h = h

  -- a power rises where all stripes are held
  risen : (k : Layout) (hs ks : Stripes V) → Renewed k hs ks → (m : ℕ) → power_of ks - power_of hs ≡ suc m → HasAll k hs
  risen k [] [] r m e = absurd (omega arith)
  risen k [] (y ∷ ys) r m e = absurd (let l = ap length r.same in omega arith)
  risen k (x ∷ xs) [] r m e = absurd (omega arith)
  risen k (x ∷ xs) (y ∷ ys) r m e = ⊎_elim
      (λ same. let p = same x.0 y.0 x.1 y.1 (inl (refl, refl)) (inl (refl, refl)) in absurd (omega arith))
      (λ all. all.0) r.power

  -- a view's note was made in this state
  record FoundIn (k : Layout) (min_load id : ℕ) (log : List (Entry V)) (s : Configuration V) (y : RoomNote V ⊎ Stripes V) : Type 0 where
    held : Stripes V
    noted : held_in y ≡ reverse held
    contained : HoldsThese k id log s held
    so : Gives k min_load y held

  -- or it stood before
  abbrev Before : Configuration V → ℕ → RoomNote V ⊎ Stripes V → Type 0
  Before s j y = (v : View V) × (get_elem? s.views j ≡ some v) × Noted v.no_slot v.grown_from y

module _ {V : Type 0} (k : Layout) (min_load callers : ℕ) (log : List (Entry V)) (s : Configuration V) (law : HistoryInvariant k callers log s) (id : ℕ) where
  holds_these : (v : View V) → get_elem? s.views id ≡ some v → (hs : Stripes V) → (v.held ≡ hs) ⊎ IdentitySection k v.held hs → HoldsThese k id log s hs
  holds_these v at hs which =
      let same : numbers hs ≡ numbers v.held = ⊎_elim (λ e. ap numbers (sym e)) (λ (i : IdentitySection k v.held hs). i.renewed.same) which in
      let bound : bindings v.held ≡ bindings hs = ⊎_elim (λ e. ap bindings e) (λ (i : IdentitySection k v.held hs). sym i.same_bindings) which in
      record {
        view = v;
        stands = at;
        contents = which;
        holder = λ t i. let c = held_of_in v.held t (subst (IsIn t) same i) in law.traced.held id v at t c.0 c.1;
        after = λ all. subst (After log) bound ((shows k callers log s law id v at).all_held (λ t l. subst (IsIn t) same (all t l)));
      }

  -- a name found no room in what a step left of the held stripes
  gains : (v : View V) → get_elem? s.views id ≡ some v → (hs : Stripes V) → (v.held ≡ hs) ⊎ IdentitySection k v.held hs → (g : Option (Name × Reason)) → IsExcused k min_load hs g
      → (y : RoomNote V ⊎ Stripes V) → Noted (gaining v.no_slot hs g) v.grown_from y → Noted v.no_slot v.grown_from y ⊎ FoundIn k min_load id log s y
  gains v at hs which None ex y n = inl n
  gains v at hs which (Some (q, why)) ex (inl x) n = ⊎_elim
      (λ (e : noted q why (reverse hs) ≡ x). inr (subst (λ (z : RoomNote V). FoundIn k min_load id log s (inl z)) e (record { held = hs; noted = refl; contained = holds_these v at hs which; so = ex })))
      (λ r. inl r) n
  gains v at hs which (Some (q, why)) ex (inr gs) n = inl n

  -- the table doubled
  grows : (l : List (RoomNote V)) (v : View V) → get_elem? s.views id ≡ some v → (n : ℕ) → ((m : ℕ) → n ≡ suc m → HasAll k v.held)
      → (y : RoomNote V ⊎ Stripes V) → Noted l (growing v.grown_from (reverse v.held) n) y → Noted l v.grown_from y ⊎ FoundIn k min_load id log s y
  grows l v at zero all y h = inl h
  grows l v at (suc m) all (inl x) h = inl h
  grows l v at (suc m) all (inr hs) h = ⊎_elim
      (λ (e : reverse v.held ≡ hs). inr (subst (λ (z : Stripes V). FoundIn k min_load id log s (inr z)) e (record { held = v.held; noted = refl; contained = holds_these v at v.held (inl refl); so = all m refl })))
      (λ r. inl r) h

  -- one view was set
  from_set : (v w : View V) → get_elem? s.views id ≡ some v → (views : List (View V)) → views ≡ set s.views id w
      → ((y : RoomNote V ⊎ Stripes V) → Noted w.no_slot w.grown_from y → Noted v.no_slot v.grown_from y ⊎ FoundIn k min_load id log s y)
      → (j : ℕ) (u : View V) → get_elem? views j ≡ some u → (y : RoomNote V ⊎ Stripes V) → Noted u.no_slot u.grown_from y → Before s j y ⊎ FoundIn k min_load j log s y
  from_set v w at views is old j u there y n = ⊎_elim
      (λ (t : (j ≡ id) × (w ≡ u)). ⊎_elim
      (λ h. inl (v, ap (get_elem? s.views) t.0 ∙ at, h))
      (λ f. inr (subst (λ (i : ℕ). FoundIn k min_load i log s y) (sym t.0) f))
      (old y (subst (λ (x : View V). Noted x.no_slot x.grown_from y) (sym t.1) n)))
      (λ t. inl (u, t.1, n))
      (at_set s.views id j w u (ap (λ l. get_elem? l j) (sym is) ∙ there))

  -- and another came to the views, which notes nothing
  from_split : (v w right : View V) → get_elem? s.views id ≡ some v → (views : List (View V)) → views ≡ set s.views id w ++ right ∷ [] → w.no_slot ≡ v.no_slot → w.grown_from ≡ v.grown_from → right.no_slot ≡ [] → right.grown_from ≡ []
      → (j : ℕ) (u : View V) → get_elem? views j ≡ some u → (y : RoomNote V ⊎ Stripes V) → Noted u.no_slot u.grown_from y → Before s j y ⊎ FoundIn k min_load j log s y
  from_split v w right at views is room growth no_room no_growth j u there y n = ⊎_elim
      (λ (t : (j ≡ length (set s.views id w)) × (right ≡ u)). absurd (none_noted y (subst (λ (l : List (RoomNote V) × List (Stripes V)). Noted l.0 l.1 y) (λ i. (no_room i, no_growth i)) (subst (λ (x : View V). Noted x.no_slot x.grown_from y) (sym t.1) n))))
      (λ t. from_set v w at (set s.views id w) refl (λ z h. inl (subst (λ (l : List (RoomNote V) × List (Stripes V)). Noted l.0 l.1 z) (λ i. (room i, growth i)) h)) j u t y n)
      (at_snoc (set s.views id w) right u j (ap (λ l. get_elem? l j) (sym is) ∙ there))

  -- what a view has noted after a step, it had noted before it, or notes of the state before it
  step_notes : (m : Label V) (s2 : Configuration V) → Transition k min_load log id m s s2 → (j : ℕ) (u : View V) → get_elem? s2.views j ≡ some u → (y : RoomNote V ⊎ Stripes V) → Noted u.no_slot u.grown_from y → Before s j y ⊎ FoundIn k min_load j log s y
  step_notes (Take t) s2 d j u there y n = from_set d.0 _ d.2 s2.views (views_of s2 _ d.8) (λ z h. inl h) j u there y n
  step_notes (FindHeld t) s2 d j u there y n = from_set d.0 _ d.1 s2.views (views_of s2 _ d.6) (λ z h. inl h) j u there y n
  step_notes (Give t g) s2 d j u there y n = from_set d.0 _ d.2 s2.views (views_of s2 _ d.5) (gains d.0 d.2 d.0.held (inl refl) g d.4) j u there y n
  step_notes (Decide t ks e) s2 d j u there y n = from_set d.0 _ d.2 s2.views (views_of s2 _ d.6) (grows d.0.no_slot d.0 d.2 (power_of ks - power_of d.0.held) (risen k d.0.held ks d.5.renewed)) j u there y n
  step_notes (GiveRest t) s2 d j u there y n = from_set d.0 _ d.2 s2.views (views_of s2 _ d.4) (λ z h. inl h) j u there y n
  step_notes (Renew t ks g) s2 d j u there y n = from_set d.0 _ d.2 s2.views (views_of s2 _ d.6) (λ z h. ⊎_elim
      (λ r. gains d.0 d.2 ks (inr d.4) g (excused k min_load ks g d.5) z r) (λ f. inr f)
      (grows (gaining d.0.no_slot ks g) d.0 d.2 (power_of ks - power_of d.0.held) (risen k d.0.held ks d.4.renewed) z h)) j u there y n
  step_notes (Look t p) s2 d j u there y n = from_set d.0 _ d.1 s2.views (views_of s2 _ d.5) (λ z h. inl h) j u there y n
  step_notes Open s2 d j u there y n = from_split d.0 _ _ d.3 s2.views (views_of s2 _ d.5) refl refl refl refl j u there y n
  step_notes Tell s2 d j u there y n = from_split d.0 _ _ d.1 s2.views (views_of s2 _ d.2) refl refl refl refl j u there y n
  step_notes (Join other) s2 d j u there y n = ⊎_elim
      (λ t. absurd (none_noted y (subst (λ (x : View V). Noted x.no_slot x.grown_from y) (sym t.1) n)))
      (λ t. from_set d.0 _ d.2 _ refl (λ z h. inl h) j u t.1 y n)
      (at_set _ other j _ u (ap (λ l. get_elem? l j) (sym (views_of s2 _ d.6)) ∙ there))

module _ {V : Type 0} (k : Layout) (min_load : ℕ) where
  -- a trace goes on
  pub step_trace : (log : List (Entry V)) (id : ℕ) (m : Label V) (s s2 : Configuration V) → Transition k min_load log id m s s2 → StartsWith s2.trace s.trace
  step_trace log id (Take t) s s2 d = (event d.0.by Took t ∷ [], ap (λ (u : Configuration V). u.trace) d.8)
  step_trace log id (FindHeld t) s s2 d = (event d.0.by Missed t ∷ [], ap (λ (u : Configuration V). u.trace) d.6)
  step_trace log id (Give t g) s s2 d = (event d.0.by (Gave []) t ∷ [], ap (λ (u : Configuration V). u.trace) d.5)
  step_trace log id (Decide t ks e) s s2 d = (event d.0.by (Decided e ks) t ∷ [], ap (λ (u : Configuration V). u.trace) d.6)
  step_trace log id (GiveRest t) s s2 d = (event d.0.by (Gave []) t ∷ [], ap (λ (u : Configuration V). u.trace) d.4)
  step_trace log id (Renew t ks g) s s2 d = (event d.0.by (Gave ks) t ∷ [], ap (λ (u : Configuration V). u.trace) d.6)
  step_trace log id (Look t p) s s2 d = ([], ap (λ (u : Configuration V). u.trace) d.5 ∙ sym (append-nil s.trace))
  step_trace log id Open s s2 d = ([], ap (λ (u : Configuration V). u.trace) d.5 ∙ sym (append-nil s.trace))
  step_trace log id Tell s s2 d = ([], ap (λ (u : Configuration V). u.trace) d.2 ∙ sym (append-nil s.trace))
  step_trace log id (Join other) s s2 d = ([], ap (λ (u : Configuration V). u.trace) d.6 ∙ sym (append-nil s.trace))

  -- a step on a word is one
  pub one_step : (log : List (Entry V)) (id : ℕ) (m : Label V) (s s2 : Configuration V) (d : Transition k min_load log id m s s2) → length (step_trace log id m s s2 d).0 ≤ 1
  unfolding step_trace
  one_step log id (Take t) s s2 d = omega arith
  one_step log id (FindHeld t) s s2 d = omega arith
  one_step log id (Give t g) s s2 d = omega arith
  one_step log id (Decide t ks e) s s2 d = omega arith
  one_step log id (GiveRest t) s s2 d = omega arith
  one_step log id (Renew t ks g) s s2 d = omega arith
  one_step log id (Look t p) s s2 d = omega arith
  one_step log id Open s s2 d = omega arith
  one_step log id Tell s s2 d = omega arith
  one_step log id (Join other) s s2 d = omega arith

  pub run_trace : (ms : List (ℕ × Label V)) (log : List (Entry V)) (s : Configuration V) (log2 : List (Entry V)) (s2 : Configuration V) → Execution k min_load log s ms log2 s2 → StartsWith s2.trace s.trace
  run_trace [] log s log2 s2 r = ([], ap (λ (u : Configuration V). u.trace) (sym r.1) ∙ sym (append-nil s.trace))
  run_trace (m ∷ ms) log s log2 s2 r =
      let one = step_trace log m.0 m.1 s r.0 r.1 in
      let more = run_trace ms (grown log m.1) r.0 log2 s2 r.2 in
      (one.0 ++ more.0, more.1 ∙ (ap (λ l. l ++ more.0) one.1 ∙ append_assoc s.trace one.0 more.0))

  run_notes : (callers : ℕ) (ms : List (ℕ × Label V)) (log : List (Entry V)) (s : Configuration V) (log2 : List (Entry V)) (s2 : Configuration V) → HistoryInvariant k callers log s → Execution k min_load log s ms log2 s2
      → (j : ℕ) (u : View V) → get_elem? s2.views j ≡ some u → (y : RoomNote V ⊎ Stripes V) → Noted u.no_slot u.grown_from y
      → Before s j y ⊎ ContainedOnce k min_load j (Gives k min_load y) log s ms log2 s2 (held_in y)
  run_notes callers [] log s log2 s2 law r j u there y n = inl (u, ap (λ (x : Configuration V). get_elem? x.views j) r.1 ∙ there, n)
  run_notes callers (m ∷ ms) log s log2 s2 law r j u there y n = ⊎_elim
      (λ (b : Before r.0 j y). ⊎_elim (λ a. inl a)
      (λ (f : FoundIn k min_load j log s y). inr (record {
        before = [];
        after = m ∷ ms;
        all = refl;
        history = log;
        moment = s;
        leads_to = (refl, refl);
        leads_on = r;
        trace = run_trace (m ∷ ms) log s log2 s2 r;
        held = f.held;
        noted = f.noted;
        contained = f.contained;
        so = f.so;
      }))
      (step_notes k min_load callers log s law m.0 m.1 r.0 r.1 j b.0 b.1 y b.2))
      (λ (o : ContainedOnce k min_load j (Gives k min_load y) (grown log m.1) r.0 ms log2 s2 (held_in y)). inr (record {
        before = m ∷ o.before;
        after = o.after;
        all = ap {B = List (ℕ × Label V)} (λ l. m ∷ l) o.all;
        history = o.history;
        moment = o.moment;
        leads_to = (r.0, r.1, o.leads_to);
        leads_on = o.leads_on;
        trace = o.trace;
        held = o.held;
        noted = o.noted;
        contained = o.contained;
        so = o.so;
      }))
      (run_notes callers ms (grown log m.1) r.0 log2 s2 (step_keeps k min_load callers log m.0 m.1 s r.0 law r.1) r.2 j u there y n)

module _ {V : Type 0} where
  pub law_of_room_notes : LawOfRoomNotes V
  law_of_room_notes k min_load set callers p s ms log s2 o r id v at x i = ⊎_elim
      (λ (b : Before s id (inl x)). let z = o.views id b.0 b.1 in absurd (subst (λ (w : View V). IsIn x w.no_slot) z.1 b.2)) (λ c. c)
      (run_notes k min_load callers ms [] s log s2 (opens k set callers p s o) r id v at (inl x) i)

  pub law_of_growths : LawOfGrowths V
  law_of_growths k min_load set callers p s ms log s2 o r id v at hs i = ⊎_elim
      (λ (b : Before s id (inr hs)). let z = o.views id b.0 b.1 in absurd (subst (λ (w : View V). IsIn hs w.grown_from) z.1 b.2)) (λ c. c)
      (run_notes k min_load callers ms [] s log s2 (opens k set callers p s o) r id v at (inr hs) i)
