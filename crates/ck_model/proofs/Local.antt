-- Sections from what happens in one stripe, in two, or in each.
use Rattle.std.proofs.Common.{◌≡◌, ◌≢◌, ◌⊎◌, ℕ, ◌≤◌, inl, sym, ap, ◌∙◌, subst, ⊎_elim, Option}
use mathlib.Core.Logic.{dite}
use native.Mathlib.Decide.{ℕ_discrete}
use Rattle.std.specs.FinMap.{find, get}
use Rattle.ck_model.specs.declared.history.Act.{Act}
use Rattle.ck_model.specs.declared.history.Call.TheVariants.{On}
use Rattle.ck_model.specs.declared.history.Reply.{Reply}
use Rattle.ck_model.specs.Promise.{Name, name_cmp, Answers}
use Rattle.ck_model.specs.Numbered.{IsIn, AreDistinct, numbers, Holds, with_content}
use Rattle.ck_model.specs.declared.contents.Content.{Content}
use Rattle.ck_model.specs.Contents.{Layout, Stripes, Binds, pairs_in, bindings, IsSound, Lawful}
use Rattle.ck_model.specs.Sections.{Owns, HasAll, Renewed, Section, IdentitySection}
use Rattle.ck_model.proofs.Numbered.{in_held, held_of_in, one_content, same_option, numbers-with, holds_with, with_here, with_else}
use Rattle.ck_model.proofs.Names.{dec_name, maps_alike}
use Rattle.ck_model.proofs.Found.{bound_where, bound_from}

-- what the stripe has of the name
abbrev pub At : {V : Type 0} → Name → Content V → Option V
At x c = find name_cmp x (pairs_in c)

module _ {V : Type 0} (k : Layout) where
  -- One stripe changes, and at most the name q in it, which no other has.
  pub record Change (hs : Stripes V) (t : ℕ) (c c2 : Content V) (q : Name) : Type 0 where
    pub lawful : Lawful k hs
    pub here : Holds hs t c
    pub sound : IsSound k t c2
    pub power : c2.power ≡ c.power
    pub others : (x : Name) → x ≢ q → At x c2 ≡ At x c
    pub nowhere_else : (u : ℕ) (d : Content V) (v : V) → u ≢ t → Holds hs u d → ¬ (Binds d q v)

  module _ (hs : Stripes V) (t : ℕ) (c c2 : Content V) (q : Name) (h : Change hs t c c2 q) where
    abbrev pub after : Stripes V
    after = with_content t c2 hs

    pub after_apart : AreDistinct (numbers after)
    after_apart = subst AreDistinct (sym (numbers-with t c2 hs)) h.lawful.distinct

    powers : (u : ℕ) (d : Content V) → Holds after u d → d.power ≡ c.power
    powers u d g = ⊎_elim (λ (e : (u ≡ t) × (c2 ≡ d)). ap (λ (x : Content V). x.power) (sym e.1) ∙ h.power) (λ (e : (u ≢ t) × Holds hs u d). h.lawful.one_power u t d c e.1 h.here) (holds_with t c2 hs u d g)

    apart_from : (u : ℕ) (d : Content V) (x : Name) (v w : V) → u ≢ t → Holds hs u d → Binds c2 x v → Binds d x w → ⊥
    apart_from u d x v w ne g b f = dite (dec_name x q) (λ e. h.nowhere_else u d w ne g (subst (λ (y : Name). Binds d y w) e f))
        (λ no. ne (sym (h.lawful.once t u c d x v w h.here g (sym (h.others x no) ∙ b) f)))

    pub after_lawful : Lawful k after
    after_lawful = record {
      distinct = after_apart;
      sound = λ u d g. ⊎_elim (λ (e : (u ≡ t) × (c2 ≡ d)). subst (λ (x : ℕ × Content V). IsSound k x.0 x.1) (λ i. (sym e.0 i, e.1 i)) h.sound) (λ (e : (u ≢ t) × Holds hs u d). h.lawful.sound u d e.1) (holds_with t c2 hs u d g);
      once = λ u1 u2 d1 d2 x v w g1 g2 b1 b2. ⊎_elim
          (λ (e1 : (u1 ≡ t) × (c2 ≡ d1)). ⊎_elim
          (λ (e2 : (u2 ≡ t) × (c2 ≡ d2)). e1.0 ∙ sym e2.0)
          (λ (e2 : (u2 ≢ t) × Holds hs u2 d2). absurd (apart_from u2 d2 x v w e2.0 e2.1 (subst (λ (y : Content V). Binds y x v) (sym e1.1) b1) b2)) (holds_with t c2 hs u2 d2 g2))
          (λ (e1 : (u1 ≢ t) × Holds hs u1 d1). ⊎_elim
          (λ (e2 : (u2 ≡ t) × (c2 ≡ d2)). absurd (apart_from u1 d1 x w v e1.0 e1.1 (subst (λ (y : Content V). Binds y x w) (sym e2.1) b2) b1))
          (λ (e2 : (u2 ≢ t) × Holds hs u2 d2). h.lawful.once u1 u2 d1 d2 x v w e1.1 e2.1 b1 b2) (holds_with t c2 hs u2 d2 g2))
          (holds_with t c2 hs u1 d1 g1);
      one_power = λ u1 u2 d1 d2 g1 g2. powers u1 d1 g1 ∙ sym (powers u2 d2 g2);
    }

    pub renewed : Renewed k hs after
    renewed = record {
      same = numbers-with t c2 hs;
      lawful = after_lawful;
      power = inl (λ u1 u2 d1 d2 g1 g2. powers u2 d2 g2 ∙ h.lawful.one_power t u1 c d1 h.here g1);
    }

    pub before_at : get (bindings hs) q ≡ At q c
    before_at = same_option (get (bindings hs) q) (At q c)
        (λ v e. let z = bound_where hs q v e in dite (ℕ_discrete z.0 t)
        (λ f. subst (λ (d : Content V). Binds d q v) (one_content hs h.lawful.distinct t z.1 c (subst (λ (x : ℕ). Holds hs x z.1) f z.2) h.here) z.3)
        (λ ne. absurd (h.nowhere_else z.0 z.1 v ne z.2 z.3)))
        (λ v e. bound_from hs h.lawful.once h.lawful.distinct t c q v h.here e)

    after_here : Holds after t c2
    after_here = with_here t c2 hs (in_held hs t c h.here)

    pub after_at : get (bindings after) q ≡ At q c2
    after_at = same_option (get (bindings after) q) (At q c2)
        (λ v e. let z = bound_where after q v e in ⊎_elim
        (λ (f : (z.0 ≡ t) × (c2 ≡ z.1)). subst (λ (d : Content V). Binds d q v) (sym f.1) z.3)
        (λ (f : (z.0 ≢ t) × Holds hs z.0 z.1). absurd (h.nowhere_else z.0 z.1 v f.0 f.1 z.3)) (holds_with t c2 hs z.0 z.1 z.2))
        (λ v e. bound_from after after_lawful.once after_apart t c2 q v after_here e)

    pub else_at : (x : Name) → x ≢ q → get (bindings after) x ≡ get (bindings hs) x
    else_at x ne = same_option (get (bindings after) x) (get (bindings hs) x)
        (λ v e. let z = bound_where after x v e in ⊎_elim
        (λ (f : (z.0 ≡ t) × (c2 ≡ z.1)). bound_from hs h.lawful.once h.lawful.distinct t c x v h.here (sym (h.others x ne) ∙ subst (λ (d : Content V). Binds d x v) (sym f.1) z.3))
        (λ (f : (z.0 ≢ t) × Holds hs z.0 z.1). bound_from hs h.lawful.once h.lawful.distinct z.0 z.1 x v f.1 z.3) (holds_with t c2 hs z.0 z.1 z.2))
        (λ v e. let z = bound_where hs x v e in dite (ℕ_discrete z.0 t)
        (λ f. let same = one_content hs h.lawful.distinct t z.1 c (subst (λ (y : ℕ). Holds hs y z.1) f z.2) h.here in
        bound_from after after_lawful.once after_apart t c2 x v after_here (h.others x ne ∙ subst (λ (d : Content V). Binds d x v) same z.3))
        (λ other. bound_from after after_lawful.once after_apart z.0 z.1 x v (with_else t c2 hs z.0 z.1 other z.2) z.3))

    -- A call on q, as it is decided in the one stripe.
    pub section_in_one : (act : Act V) (reply : Reply V) → Owns k hs q → Answers act (At q c) reply (At q c2) → Section k hs (On q act) reply after
    section_in_one act reply owns answers = record {
      renewed = renewed;
      owns = owns;
      step = (subst (λ (x : Option V × Option V). Answers act x.0 reply x.1) (λ i. (sym before_at i, sym after_at i)) answers, else_at);
    }

  -- An entry goes from the stripe t to the stripe u.
  pub identity_between : (hs : Stripes V) (t u : ℕ) (c c2 d d2 : Content V) (q : Name) (one : Change hs t c c2 q) (two : Change (with_content t c2 hs) u d d2 q) → At q d2 ≡ At q c
      → IdentitySection k hs (with_content u d2 (with_content t c2 hs))
  identity_between hs t u c c2 d d2 q one two moved =
      let mid : Stripes V = with_content t c2 hs in
      record {
        renewed = record {
          same = numbers-with u d2 mid ∙ numbers-with t c2 hs;
          lawful = after_lawful mid u d d2 q two;
          power = inl (λ t1 t2 e1 e2 g1 g2. powers mid u d d2 q two t2 e2 g2 ∙ powers hs t c c2 q one u d two.here ∙ one.lawful.one_power t t1 c e1 one.here g1);
        };
        same_bindings = maps_alike (bindings (with_content u d2 mid)) (bindings hs) (λ x. dite (dec_name x q)
            (λ e. subst (λ (y : Name). get (bindings (with_content u d2 mid)) y ≡ get (bindings hs) y) (sym e) (after_at mid u d d2 q two ∙ (moved ∙ sym (before_at hs t c c2 q one))))
            (λ ne. else_at mid u d d2 q two x ne ∙ else_at hs t c c2 q one x ne));
      }

  -- Each stripe keeps what it binds, as in a doubling.
  pub identity_of_each : (hs ks : Stripes V) → Lawful k hs → numbers ks ≡ numbers hs → ((t : ℕ) (c d : Content V) → Holds hs t c → Holds ks t d → IsSound k t d × ((x : Name) → At x d ≡ At x c))
      → ((t u : ℕ) (c d : Content V) → Holds ks t c → Holds ks u d → c.power ≡ d.power)
      → ((t u : ℕ) (c d : Content V) → Holds hs t c → Holds ks u d → d.power ≡ c.power) ⊎ (HasAll k hs × ((t u : ℕ) (c d : Content V) → Holds hs t c → Holds ks u d → c.power ≤ d.power))
      → IdentitySection k hs ks
  identity_of_each hs ks lawful same each one_power power =
      let apart2 : AreDistinct (numbers ks) = subst AreDistinct (sym same) lawful.distinct in
      let before : (t : ℕ) (d : Content V) → Holds ks t d → (c : Content V) × Holds hs t c = λ t d g. held_of_in hs t (subst (IsIn t) same (in_held ks t d g)) in
      let once2 : (t u : ℕ) (c d : Content V) (q : Name) (v w : V) → Holds ks t c → Holds ks u d → Binds c q v → Binds d q w → t ≡ u = λ t u c d q v w g1 g2 b1 b2.
      let c0 = before t c g1 in let d0 = before u d g2 in
      lawful.once t u c0.0 d0.0 q v w c0.1 d0.1 (sym ((each t c0.0 c c0.1 g1).1 q) ∙ b1) (sym ((each u d0.0 d d0.1 g2).1 q) ∙ b2) in
      record {
        renewed = record {
          same = same;
          lawful = record { distinct = apart2; sound = λ t d g. let c = before t d g in (each t c.0 d c.1 g).0; once = once2; one_power = one_power };
          power = power;
        };
        same_bindings = maps_alike (bindings ks) (bindings hs) (λ x. same_option (get (bindings ks) x) (get (bindings hs) x)
            (λ v e. let z = bound_where ks x v e in let c = before z.0 z.1 z.2 in bound_from hs lawful.once lawful.distinct z.0 c.0 x v c.1 (sym ((each z.0 c.0 z.1 c.1 z.2).1 x) ∙ z.3))
            (λ v e. let z = bound_where hs x v e in let d = held_of_in ks z.0 (subst (IsIn z.0) (sym same) (in_held hs z.0 z.1 z.2)) in
            bound_from ks once2 apart2 z.0 d.0 x v d.1 ((each z.0 z.1 d.0 z.2 d.1).1 x ∙ z.3)));
      }
