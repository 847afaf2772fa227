-- Sections of no call, one after another.
use Rattle.std.proofs.Common.{◌≡◌, ◌⊎◌, inl, inr, ℕ, ◌≤◌, refl, sym, ◌∙◌, subst, arith}
use Rattle.ck_model.specs.Numbered.{IsIn, numbers, Holds}
use Rattle.ck_model.specs.declared.contents.Content.{Content}
use Rattle.ck_model.specs.Contents.{Layout, Stripes, Lawful}
use Rattle.ck_model.specs.Sections.{HasAll, IdentitySection}
use Rattle.ck_model.proofs.Numbered.{in_held, held_of_in}

module _ {V : Type 0} where
  -- One power after another.
  pub power_on : (hs ks ls : Stripes V) → numbers ks ≡ numbers hs → ((t u : ℕ) (c d : Content V) → Holds hs t c → Holds ks u d → d.power ≡ c.power) → ((t u : ℕ) (c d : Content V) → Holds ks t c → Holds ls u d → d.power ≡ c.power)
      → (t u : ℕ) (c d : Content V) → Holds hs t c → Holds ls u d → d.power ≡ c.power
  power_on hs ks ls same one two t u c d h g =
      let m = held_of_in ks t (subst (IsIn t) (sym same) (in_held hs t c h)) in
      two t u m.0 d m.1 g ∙ one t t c m.0 h m.1

  -- nothing changes
  pub identity_of_none : (k : Layout) (hs : Stripes V) → Lawful k hs → IdentitySection k hs hs
  identity_of_none k hs lawful = record {
    renewed = record { same = refl; lawful = lawful; power = inl (λ t u c d h g. sym (lawful.one_power t u c d h g)) };
    same_bindings = refl;
  }

module _ {V : Type 0} (k : Layout) where
  -- each stripe has the power that it had
  abbrev Same : Stripes V → Stripes V → Type 0
  Same hs ks = (t u : ℕ) (c d : Content V) → Holds hs t c → Holds ks u d → d.power ≡ c.power

  -- or a greater one
  abbrev Rises : Stripes V → Stripes V → Type 0
  Rises hs ks = (t u : ℕ) (c d : Content V) → Holds hs t c → Holds ks u d → c.power ≤ d.power

  -- no call after no call
  pub identity_on : (hs ks ls : Stripes V) → IdentitySection k hs ks → IdentitySection k ks ls → IdentitySection k hs ls
  identity_on hs ks ls one two = record {
    renewed = record {
      same = two.renewed.same ∙ one.renewed.same;
      lawful = two.renewed.lawful;
      power = powers one.renewed.power two.renewed.power;
    };
    same_bindings = two.same_bindings ∙ one.same_bindings;
  }
    where
      between : (t : ℕ) (c : Content V) → Holds hs t c → (e : Content V) × Holds ks t e
      between t c h = held_of_in ks t (subst (IsIn t) (sym one.renewed.same) (in_held hs t c h))

      through : (a b c : ℕ) → a ≤ b → b ≤ c → a ≤ c
      through a b c x y = omega arith

      powers : Same hs ks ⊎ (HasAll k hs × Rises hs ks) → Same ks ls ⊎ (HasAll k ks × Rises ks ls) → Same hs ls ⊎ (HasAll k hs × Rises hs ls)
      powers (inl a) (inl b) = inl (power_on hs ks ls one.renewed.same a b)
      powers (inl a) (inr b) = inr (
        λ t lt. subst (IsIn t) one.renewed.same (b.0 t lt),
        λ t u c d h g. let m = between t c h in subst (λ n. n ≤ d.power) (a t t c m.0 h m.1) (b.1 t u m.0 d m.1 g),
      )
      powers (inr a) (inl b) = inr (a.0, λ t u c d h g. let m = between t c h in subst (λ n. c.power ≤ n) (sym (b t u m.0 d m.1 g)) (a.1 t t c m.0 h m.1))
      powers (inr a) (inr b) = inr (a.0, λ t u c d h g. let m = between t c h in through c.power m.0.power d.power (a.1 t t c m.0 h m.1) (b.1 t u m.0 d m.1 g))
