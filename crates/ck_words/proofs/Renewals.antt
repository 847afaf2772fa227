-- A call on held stripes after what was done by no call.
use Rattle.std.proofs.Common.{◌≡◌, ◌⊎◌, ℕ, ◌≤◌, reverse, sym, ◌∙◌, subst, inl, inr, arith}
use Rattle.ck_model.specs.declared.contents.Content.{Content}
use Rattle.ck_model.specs.declared.history.Call.{Call}
use Rattle.ck_model.specs.declared.history.Call.TheVariants.{On, ChangeTwo, Len, SessionOn, Session}
use Rattle.ck_model.specs.declared.history.Reply.{Reply}
use Rattle.ck_model.specs.declared.settings.Settings.{Settings}
use Rattle.ck_model.specs.Promise.{Name, Step}
use Rattle.ck_model.specs.Numbered.{IsIn, numbers, Holds}
use Rattle.ck_model.specs.Contents.{Layout, layout_of, Stripes, bindings, Lawful}
use Rattle.ck_model.specs.Sections.{HasAll, OwnsCall, Renewed, Section, IdentitySection}
use Rattle.ck_model.proofs.Numbered.{in_held, held_of_in}
use Rattle.ck_stripe.specs.Stripes.{contents_of}
use Rattle.ck_stripe.specs.Tables.{KeepsBindings}
use Rattle.ck_model.proofs.Identities.{power_on, identity_of_none, identity_on}
use Rattle.ck_words.specs.Passes.{PassState, IsUnchanged}
use Rattle.ck_words.specs.Answering.{HasDone}
use Rattle.ck_words.specs.Renewing.{HasRenewed}

module _ {V : Type 0} (k : Layout) (hs ms ks : Stripes V) where
  -- each stripe has the power that it had
  abbrev Same : Stripes V → Stripes V → Type 0
  Same xs ys = (t u : ℕ) (c d : Content V) → Holds xs t c → Holds ys u d → d.power ≡ c.power

  -- or a greater one
  abbrev Rises : Stripes V → Stripes V → Type 0
  Rises xs ys = (t u : ℕ) (c d : Content V) → Holds xs t c → Holds ys u d → c.power ≤ d.power

  renewed_on : Renewed k hs ms → Renewed k ms ks → Renewed k hs ks
  renewed_on one two = record { same = two.same ∙ one.same; lawful = two.lawful; power = powers one.power two.power }
    where
      between : (t : ℕ) (c : Content V) → Holds hs t c → (e : Content V) × Holds ms t e
      between t c h = held_of_in ms t (subst (IsIn t) (sym one.same) (in_held hs t c h))

      through : (a b c : ℕ) → a ≤ b → b ≤ c → a ≤ c
      through a b c x y = omega arith

      powers : Same hs ms ⊎ (HasAll k hs × Rises hs ms) → Same ms ks ⊎ (HasAll k ms × Rises ms ks) → Same hs ks ⊎ (HasAll k hs × Rises hs ks)
      powers (inl a) (inl b) = inl (power_on hs ms ks one.same a b)
      powers (inl a) (inr b) = inr (
        λ t lt. subst (IsIn t) one.same (b.0 t lt),
        λ t u c d h g. let m = between t c h in subst (λ n. n ≤ d.power) (a t t c m.0 h m.1) (b.1 t u m.0 d m.1 g),
      )
      powers (inr a) (inl b) = inr (a.0, λ t u c d h g. let m = between t c h in subst (λ n. c.power ≤ n) (sym (b t u m.0 d m.1 g)) (a.1 t t c m.0 h m.1))
      powers (inr a) (inr b) = inr (a.0, λ t u c d h g. let m = between t c h in through c.power m.0.power d.power (a.1 t t c m.0 h m.1) (b.1 t u m.0 d m.1 g))

  owns_on : (call : Call V) → numbers ms ≡ numbers hs → OwnsCall k ms call → OwnsCall k hs call
  owns_on (On q a) same o = λ t h. subst (IsIn t) same (o t h)
  owns_on (ChangeTwo p q) same o = ((λ t h. subst (IsIn t) same (o.0 t h)), (λ t h. subst (IsIn t) same (o.1 t h)))
  owns_on Len same o = λ t h. subst (IsIn t) same (o t h)
  owns_on (SessionOn qs a b) same o = λ q i t h. subst (IsIn t) same (o q i t h)
  owns_on (Session a b) same o = λ t h. subst (IsIn t) same (o t h)

  -- a call after no call is that call
  pub section_on : (call : Call V) (reply : Reply V) → IdentitySection k hs ms → Section k ms call reply ks → Section k hs call reply ks
  section_on call reply one two = record {
    renewed = renewed_on one.renewed two.renewed;
    owns = owns_on call one.renewed.same two.owns;
    step = subst (λ m. Step m call reply (bindings ks)) one.same_bindings two.step;
  }

module _ {V : Type 0} (hash : Name → ℕ) (set : Settings) where
  -- nothing was done yet
  pub renewed_none : (p : PassState V) → IsUnchanged p → HasRenewed hash set p
  renewed_none p unchanged lawful = subst (IdentitySection (layout_of hash set) (reverse p.view.held)) (sym unchanged) (identity_of_none (layout_of hash set) (reverse p.view.held) lawful)

  -- From p to q something was done on the stripes, which were held with the same contents then.
  module _ (p q : PassState V) (held : q.view.held ≡ p.view.held) (before : HasRenewed hash set p) where
    pub renewed_then : KeepsBindings (layout_of hash set) p.stripes q.stripes → HasRenewed hash set q
    renewed_then more lawful =
        let one = before (subst (λ hs. Lawful (layout_of hash set) (reverse hs)) held lawful) in
        subst (λ hs. IdentitySection (layout_of hash set) (reverse hs) (contents_of q.stripes)) (sym held) (identity_on (layout_of hash set) (reverse p.view.held) (contents_of p.stripes) (contents_of q.stripes) one (more one.renewed.lawful))

    pub done_then : (call : Call V) (reply : Reply V) → (Lawful (layout_of hash set) (contents_of p.stripes) → Section (layout_of hash set) (contents_of p.stripes) call reply (contents_of q.stripes)) → HasDone hash set call reply q
    done_then call reply section lawful =
        let one = before (subst (λ hs. Lawful (layout_of hash set) (reverse hs)) held lawful) in
        subst (λ hs. Section (layout_of hash set) (reverse hs) call reply (contents_of q.stripes)) (sym held) (section_on (layout_of hash set) (reverse p.view.held) (contents_of p.stripes) (contents_of q.stripes) call reply one (section one.renewed.lawful))
