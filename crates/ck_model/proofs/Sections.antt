-- A section of held stripes is a step of the whole.
use Rattle.std.proofs.Common.{◌≡◌, ℕ, ◌^◌, ◌<◌, ◌≤◌, ◌⊎◌, inl, inr, sym, ap, ◌∙◌, subst, ⊎_elim, le_of_eq, Option, Some}
use mathlib.Core.Logic.{dite}
use Rattle.std.specs.FinMap.{get}
use Rattle.ck_model.specs.declared.history.Call.{Call}
use Rattle.ck_model.specs.declared.history.Call.TheVariants.{On, ChangeTwo, Len, SessionOn, Session}
use Rattle.ck_model.specs.declared.history.Reply.{Reply}
use Rattle.ck_model.specs.Promise.{Name, Map, Answers, AnswersTwo, Step}
use Rattle.ck_model.specs.Numbered.{IsIn, AreDistinct, numbers, Holds, over}
use Rattle.ck_model.specs.declared.contents.Content.{Content}
use Rattle.ck_model.specs.Contents.{Layout, Stripes, Binds, bindings, Lawful, whole}
use Rattle.ck_model.specs.Sections.{Owns, HasAll, OwnsCall, Renewed, Section, IdentitySection}
use Rattle.ck_model.specs.Laws.{ArePartOf}
use Rattle.ck_model.proofs.Numbered.{same_option, dec_in, in_held, held_of_in, over_miss, over_hit, in_listed, listed_as, distinct_listed}
use Rattle.ck_model.proofs.Names.{dec_name, dec_among, maps_alike, bound_alike}
use Rattle.ck_model.proofs.Found.{Once, bound_where, bound_from, listed_once}
use Rattle.ck_model.proofs.Belongs.{belongs, stripe_below}

module _ {V : Type 0} (k : Layout) where
  in_whole : (w : ℕ → Content V) (t : ℕ) (c : Content V) → Holds (whole k w) t c → (t < 2 ^ k.s) × (w t ≡ c)
  in_whole w t c h = in_listed (2 ^ k.s) w t c h

  whole_as : (w : ℕ → Content V) (t : ℕ) (c : Content V) → t < 2 ^ k.s → w t ≡ c → Holds (whole k w) t c
  whole_as w t c l e = listed_as (2 ^ k.s) w t c l e

  whole_once : (w : ℕ → Content V) (q : Name) (t : ℕ) (c : Content V) (v : V) → Once (whole k w) → t < 2 ^ k.s → w t ≡ c → Binds c q v → get (bindings (whole k w)) q ≡ Some v
  whole_once w q t c v once l e b = listed_once (2 ^ k.s) w q t c v once l e b

  once_of_agrees : (w : ℕ → Content V) (hs : Stripes V) → Once (whole k w) → ArePartOf k w hs → Once hs
  once_of_agrees w hs once a t u c d q v x h g b e =
      let i = a t c h in let j = a u d g in once t u c d q v x (whole_as w t c i.0 i.1) (whole_as w u d j.0 j.1) b e

  -- where a name's stripes are all held, the whole has what the held stripes have
  pub owned_binding : (w : ℕ → Content V) (hs : Stripes V) → Lawful k (whole k w) → ArePartOf k w hs → AreDistinct (numbers hs) → (q : Name) → Owns k hs q
      → get (bindings (whole k w)) q ≡ get (bindings hs) q
  owned_binding w hs lawful agrees apart q owns = same_option (get (bindings (whole k w)) q) (get (bindings hs) q)
      (λ v e. let z = bound_where (whole k w) q v e in
      let i = in_whole w z.0 z.1 z.2 in
      let d = held_of_in hs z.0 (owns z.0 (belongs k z.0 z.1 q v (lawful.sound z.0 z.1 z.2) z.3)) in
      let same : z.1 ≡ d.0 = sym i.1 ∙ (agrees z.0 d.0 d.1).1 in
      bound_from hs (once_of_agrees w hs lawful.once agrees) apart z.0 d.0 q v d.1 (subst (λ (c : Content V). Binds c q v) same z.3))
      (λ v e. let z = bound_where hs q v e in
      let i = agrees z.0 z.1 z.2 in
      whole_once w q z.0 z.1 v lawful.once i.0 i.1 z.3)

  -- New contents of held stripes, where each name is bound as before or has all its stripes held.
  module _ (w : ℕ → Content V) (hs ks : Stripes V) (lawful : Lawful k (whole k w)) (agrees : ArePartOf k w hs) (r : Renewed k hs ks)
      (local : (q : Name) → (get (bindings ks) q ≡ get (bindings hs) q) ⊎ Owns k hs q) where
    apart2 : AreDistinct (numbers ks)
    apart2 = r.lawful.distinct

    apart : AreDistinct (numbers hs)
    apart = subst AreDistinct r.same r.lawful.distinct

    pub agrees_after : ArePartOf k (over ks w) ks
    agrees_after t c h = let d = held_of_in hs t (subst (IsIn t) r.same (in_held ks t c h)) in ((agrees t d.0 d.1).0, over_hit ks w apart2 t c h)

    -- what a stripe has afterwards: it is a held one, or it is as before
    after_at : (t : ℕ) (c : Content V) → Holds (whole k (over ks w)) t c → (t < 2 ^ k.s) × (Holds ks t c ⊎ (¬ (IsIn t (numbers ks)) × (w t ≡ c)))
    after_at t c h =
        let i = in_whole (over ks w) t c h in (
          i.0,
          dite (dec_in t (numbers ks))
              (λ there. let d = held_of_in ks t there in inl (subst (Holds ks t) (sym (over_hit ks w apart2 t d.0 d.1) ∙ i.1) d.1))
              (λ out. inr (out, sym (over_miss ks w t out) ∙ i.1)),
        )

    not_held : (t : ℕ) → ¬ (IsIn t (numbers ks)) → ¬ (IsIn t (numbers hs))
    not_held t out i = out (subst (IsIn t) (sym r.same) i)

    -- a name of a held stripe isn't in one that isn't held
    outside : (t u : ℕ) (c d : Content V) (q : Name) (v x : V) → Holds ks t c → u < 2 ^ k.s → ¬ (IsIn u (numbers ks)) → w u ≡ d → Binds c q v → Binds d q x → ⊥
    outside t u c d q v x h l out e b f = ⊎_elim
        (λ same. let z = bound_where hs q v (sym same ∙ bound_from ks r.lawful.once apart2 t c q v h b) in
        let a = agrees z.0 z.1 z.2 in
        let one : z.0 ≡ u = lawful.once z.0 u z.1 d q v x (whole_as w z.0 z.1 a.0 a.1) (whole_as w u d l e) z.3 f in
        not_held u out (subst (λ (i : ℕ). IsIn i (numbers hs)) one (in_held hs z.0 z.1 z.2)))
        (λ owns. not_held u out (owns u (belongs k u d q x (lawful.sound u d (whole_as w u d l e)) f)))
        (local q)

    power_of_rest : (u : ℕ) (d : Content V) → u < 2 ^ k.s → ¬ (IsIn u (numbers ks)) → w u ≡ d → (t : ℕ) (c : Content V) → Holds ks t c → c.power ≡ d.power
    power_of_rest u d l out e t c h =
        let b = held_of_in hs t (subst (IsIn t) r.same (in_held ks t c h)) in
        let a = agrees t b.0 b.1 in
        ⊎_elim (λ same. same t t b.0 c b.1 h ∙ lawful.one_power t u b.0 d (whole_as w t b.0 a.0 a.1) (whole_as w u d l e))
        (λ (all : HasAll k hs × _). absurd (not_held u out (all.0 u l))) r.power

    pub lawful_after : Lawful k (whole k (over ks w))
    lawful_after = record {
      distinct = distinct_listed (2 ^ k.s) (over ks w);
      sound = λ t c h. let a = after_at t c h in ⊎_elim (λ g. r.lawful.sound t c g) (λ (o : ¬ (IsIn t (numbers ks)) × (w t ≡ c)). lawful.sound t c (whole_as w t c a.0 o.1)) a.1;
      once = λ t u c d q v x h g b f.
          let i = after_at t c h in let j = after_at u d g in
          ⊎_elim
          (λ hk. ⊎_elim (λ gk. r.lawful.once t u c d q v x hk gk b f) (λ (o : ¬ (IsIn u (numbers ks)) × (w u ≡ d)). absurd (outside t u c d q v x hk j.0 o.0 o.1 b f)) j.1)
          (λ (p : ¬ (IsIn t (numbers ks)) × (w t ≡ c)). ⊎_elim (λ gk. absurd (outside u t d c q x v gk i.0 p.0 p.1 f b))
          (λ (o : ¬ (IsIn u (numbers ks)) × (w u ≡ d)). lawful.once t u c d q v x (whole_as w t c i.0 p.1) (whole_as w u d j.0 o.1) b f) j.1)
          i.1;
      one_power = λ t u c d h g.
          let i = after_at t c h in let j = after_at u d g in
          ⊎_elim
          (λ hk. ⊎_elim (λ gk. r.lawful.one_power t u c d hk gk) (λ (o : ¬ (IsIn u (numbers ks)) × (w u ≡ d)). power_of_rest u d j.0 o.0 o.1 t c hk) j.1)
          (λ (p : ¬ (IsIn t (numbers ks)) × (w t ≡ c)). ⊎_elim (λ gk. sym (power_of_rest t c i.0 p.0 p.1 u d gk))
          (λ (o : ¬ (IsIn u (numbers ks)) × (w u ≡ d)). lawful.one_power t u c d (whole_as w t c i.0 p.1) (whole_as w u d j.0 o.1)) j.1)
          i.1;
    }

    owned_after : (q : Name) → Owns k hs q → get (bindings (whole k (over ks w))) q ≡ get (bindings ks) q
    owned_after q owns = owned_binding (over ks w) ks lawful_after agrees_after apart2 q (λ t i. subst (IsIn t) (sym r.same) (owns t i))

    pub owned_before : (q : Name) → Owns k hs q → get (bindings (whole k w)) q ≡ get (bindings hs) q
    owned_before q owns = owned_binding w hs lawful agrees apart q owns

    -- a name that is bound as before in the held stripes is bound as before in the whole
    pub bound_same : (q : Name) → get (bindings ks) q ≡ get (bindings hs) q → get (bindings (whole k (over ks w))) q ≡ get (bindings (whole k w)) q
    bound_same q same = same_option (get (bindings (whole k (over ks w))) q) (get (bindings (whole k w)) q)
        (λ v e. let z = bound_where (whole k (over ks w)) q v e in
        let i = after_at z.0 z.1 z.2 in
        ⊎_elim
        (λ held. let y = bound_where hs q v (sym same ∙ bound_from ks r.lawful.once apart2 z.0 z.1 q v held z.3) in
        let a = agrees y.0 y.1 y.2 in whole_once w q y.0 y.1 v lawful.once a.0 a.1 y.3)
        (λ (o : ¬ (IsIn z.0 (numbers ks)) × (w z.0 ≡ z.1)). whole_once w q z.0 z.1 v lawful.once i.0 o.1 z.3) i.1)
        (λ v e. let z = bound_where (whole k w) q v e in
        let i = in_whole w z.0 z.1 z.2 in
        dite (dec_in z.0 (numbers hs))
        (λ there. let d = held_of_in hs z.0 there in
        let held : Binds d.0 q v = subst (λ (c : Content V). Binds c q v) (sym i.1 ∙ (agrees z.0 d.0 d.1).1) z.3 in
        let y = bound_where ks q v (same ∙ bound_from hs (once_of_agrees w hs lawful.once agrees) apart z.0 d.0 q v d.1 held) in
        let a = agrees_after y.0 y.1 y.2 in
        whole_once (over ks w) q y.0 y.1 v lawful_after.once a.0 a.1 y.3)
        (λ out. whole_once (over ks w) q z.0 z.1 v lawful_after.once i.0 (over_miss ks w z.0 (λ x. out (subst (IsIn z.0) r.same x)) ∙ i.1) z.3))

    pub whole_of_all : HasAll k hs → bindings (whole k w) ≡ bindings hs
    whole_of_all all = maps_alike (bindings (whole k w)) (bindings hs) (λ q. owned_before q (λ t h. all t (stripe_below k q t h)))

    pub whole_of_all_after : HasAll k hs → bindings (whole k (over ks w)) ≡ bindings ks
    whole_of_all_after all = maps_alike (bindings (whole k (over ks w))) (bindings ks) (λ q. owned_after q (λ t h. all t (stripe_below k q t h)))

  -- each name is bound as before, or has all its stripes held
  pub section_local : (hs ks : Stripes V) (call : Call V) (reply : Reply V) → OwnsCall k hs call → Step (bindings hs) call reply (bindings ks)
      → (q : Name) → (get (bindings ks) q ≡ get (bindings hs) q) ⊎ Owns k hs q
  section_local hs ks (On p a) reply owns step q = dite (dec_name q p) (λ e. inr (subst (Owns k hs) (sym e) owns)) (λ ne. inl (step.1 q ne))
  section_local hs ks (ChangeTwo p1 p2) reply owns step q =
      dite (dec_name q p1) (λ e. inr (subst (Owns k hs) (sym e) owns.0)) (λ ne. dite (dec_name q p2) (λ e. inr (subst (Owns k hs) (sym e) owns.1)) (λ no2. inl (step.2 q ne no2)))
  section_local hs ks Len reply owns step q = inr (λ t h. owns t (stripe_below k q t h))
  section_local hs ks (SessionOn qs a b) reply owns step q = dite (dec_among q qs) (λ i. inr (owns q i)) (λ out. inl (step.4 q out))
  section_local hs ks (Session a b) reply owns step q = inr (λ t h. owns t (stripe_below k q t h))

  pub section_step : (w : ℕ → Content V) (hs ks : Stripes V) (lawful : Lawful k (whole k w)) (agrees : ArePartOf k w hs)
      (call : Call V) (reply : Reply V) (r : Renewed k hs ks) → OwnsCall k hs call → Step (bindings hs) call reply (bindings ks)
      → Step (bindings (whole k w)) call reply (bindings (whole k (over ks w)))
  section_step w hs ks lawful agrees (On p a) reply r owns step =
      let local = section_local hs ks (On p a) reply owns step in (
        subst (λ (o : Option V). Answers a o reply (get (bindings (whole k (over ks w))) p)) (sym (owned_before w hs ks lawful agrees r local p owns))
            (subst (λ (o : Option V). Answers a (get (bindings hs) p) reply o) (sym (owned_after w hs ks lawful agrees r local p owns)) step.0),
        λ q ne. bound_same w hs ks lawful agrees r local q (step.1 q ne),
      )
  section_step w hs ks lawful agrees (ChangeTwo p1 p2) reply r owns step =
      let local = section_local hs ks (ChangeTwo p1 p2) reply owns step in
      let before : (p : Name) → Owns k hs p → get (bindings hs) p ≡ get (bindings (whole k w)) p = λ p o. sym (owned_before w hs ks lawful agrees r local p o) in
      let after : (p : Name) → Owns k hs p → get (bindings ks) p ≡ get (bindings (whole k (over ks w))) p = λ p o. sym (owned_after w hs ks lawful agrees r local p o) in
      let b1 = before p1 owns.0 in let b2 = before p2 owns.1 in let a1 = after p1 owns.0 in let a2 = after p2 owns.1 in (
        step.0,
        subst (λ (x : Option V × Option V × Option V × Option V). AnswersTwo x.0 x.1 reply x.2 x.3) (λ i. (b1 i, b2 i, a1 i, a2 i)) step.1,
        λ q ne no2. bound_same w hs ks lawful agrees r local q (step.2 q ne no2),
      )
  section_step w hs ks lawful agrees Len reply r owns step =
      let local = section_local hs ks Len reply owns step in
      subst (λ (x : Map V × Map V). Step x.0 Len reply x.1) (λ i. (sym (whole_of_all w hs ks lawful agrees r local owns) i, sym (whole_of_all_after w hs ks lawful agrees r local owns) i)) step
  section_step w hs ks lawful agrees (SessionOn qs a b) reply r owns step =
      let local = section_local hs ks (SessionOn qs a b) reply owns step in (
        step.0,
        step.1,
        bound_alike (bindings (whole k w)) (bindings hs) qs (λ q i. owned_before w hs ks lawful agrees r local q (owns q i)) ∙ step.2,
        bound_alike (bindings (whole k (over ks w))) (bindings ks) qs (λ q i. owned_after w hs ks lawful agrees r local q (owns q i)) ∙ step.3,
        λ q out. bound_same w hs ks lawful agrees r local q (step.4 q out),
      )
  section_step w hs ks lawful agrees (Session a b) reply r owns step =
      let local = section_local hs ks (Session a b) reply owns step in
      subst (λ (x : Map V × Map V). Step x.0 (Session a b) reply x.1) (λ i. (sym (whole_of_all w hs ks lawful agrees r local owns) i, sym (whole_of_all_after w hs ks lawful agrees r local owns) i)) step

  -- A section of held stripes gives a lawful whole, and is a step of its bindings.
  pub section_of_whole : (w : ℕ → Content V) (hs ks : Stripes V) → Lawful k (whole k w) → ArePartOf k w hs → (call : Call V) (reply : Reply V) → Section k hs call reply ks
      → Lawful k (whole k (over ks w)) × Step (bindings (whole k w)) call reply (bindings (whole k (over ks w)))
  section_of_whole w hs ks lawful agrees call reply s = (
    lawful_after w hs ks lawful agrees s.renewed (section_local hs ks call reply s.owns s.step),
    section_step w hs ks lawful agrees call reply s.renewed s.owns s.step,
  )

  -- An identity section gives a lawful whole with the same bindings.
  pub identity_of_whole : (w : ℕ → Content V) (hs ks : Stripes V) → Lawful k (whole k w) → ArePartOf k w hs → IdentitySection k hs ks
      → Lawful k (whole k (over ks w)) × (bindings (whole k (over ks w)) ≡ bindings (whole k w))
  identity_of_whole w hs ks lawful agrees s =
      let same : (q : Name) → get (bindings ks) q ≡ get (bindings hs) q = λ q. ap (λ (m : Map V). get m q) s.same_bindings in
      let local : (q : Name) → (get (bindings ks) q ≡ get (bindings hs) q) ⊎ Owns k hs q = λ q. inl (same q) in (
        lawful_after w hs ks lawful agrees s.renewed local,
        maps_alike (bindings (whole k (over ks w))) (bindings (whole k w)) (λ q. bound_same w hs ks lawful agrees s.renewed local q (same q)),
      )

  -- the power of a stripe doesn't fall
  pub power_after : (w : ℕ → Content V) (hs ks : Stripes V) → ArePartOf k w hs → Renewed k hs ks → (t : ℕ) → t < 2 ^ k.s → (w t).power ≤ (over ks w t).power
  power_after w hs ks agrees r t l = dite (dec_in t (numbers ks))
      (λ there. let d = held_of_in ks t there in
      let c = held_of_in hs t (subst (IsIn t) r.same there) in
      let a : w t ≡ c.0 = (agrees t c.0 c.1).1 in
      let b : over ks w t ≡ d.0 = over_hit ks w r.lawful.distinct t d.0 d.1 in
      subst (λ (x : Content V × Content V). x.0.power ≤ x.1.power) (λ i. (sym a i, sym b i))
      (⊎_elim (λ same. le_of_eq (sym (same t t c.0 d.0 c.1 d.1))) (λ (all : HasAll k hs × ((t u : ℕ) (c d : Content V) → Holds hs t c → Holds ks u d → c.power ≤ d.power)). all.1 t t c.0 d.0 c.1 d.1) r.power))
      (λ out. le_of_eq (ap (λ (c : Content V). c.power) (sym (over_miss ks w t out))))
