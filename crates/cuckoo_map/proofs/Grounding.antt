-- What all stripes of a table contain, where it gives the reason to refuse a name, is what the history leaves.
use Rattle.std.proofs.Common.{◌≡◌, ℕ, ◌^◌, ◌<◌, ◌≤◌, List, [], ◌∷◌, reverse, inl, refl, sym, ap, ◌∙◌, subst, arith}
use Rattle.std.specs.Prelude.{max}
use Rattle.std.proofs.Math.Nat.{one-le-pow}
use Rattle.ck_model.specs.declared.contents.Content.{Content}
use Rattle.ck_model.specs.declared.history.Reason.{Reason}
use Rattle.ck_model.specs.declared.settings.Settings.{Settings}
use Rattle.ck_model.specs.Promise.{Name, After}
use Rattle.ck_model.specs.Numbered.{IsIn, numbers, Holds}
use Rattle.ck_model.specs.Contents.{Layout, layout_of, Stripes, Lawful, bindings, power_of}
use Rattle.ck_model.specs.Paths.{Grounds}
use Rattle.ck_model.specs.Sections.{IdentitySection}
use Rattle.ck_model.proofs.Numbered.{held_of_in}
use Rattle.ck_stripe.specs.Stripe.{StripeState}
use Rattle.ck_stripe.specs.Stripes.{contents_of}
use Rattle.ck_stripe.specs.Tables.{power_in}
use Rattle.ck_core.specs.declared.view.View.{View}
use Rattle.ck_core.specs.Steps.{noted}
use Rattle.ck_words.specs.Words.{WordsState}
use Rattle.ck_words.specs.Passes.{PassState}
use Rattle.ck_words.specs.Retries.{Stays}
use Rattle.ck_words.specs.Holding.{HasHeld, IsToldPower, IsDoubledBy}
use Rattle.ck_words.specs.Renewing.{HasRenewed}
use Rattle.ck_words.specs.Closing.{IsWhole}
use Rattle.ck_words.proofs.Reversed.{of_reverse}
use Rattle.ck_words.proofs.Staying.{held_since}
use Rattle.ck_words.proofs.WholeTables.{lawful_held}
use Rattle.cuckoo_map.specs.Refusals.{GivesGrounds}
use Rattle.cuckoo_map.proofs.Sizes.{has_all, holds_each}
use Rattle.cuckoo_map.proofs.Sessions.{not_below, after_all}

-- a stripe that has the power of stripes that are some
record HasPower {V : Type 0} (ss : List (StripeState V)) : Type 0 where
  number : ℕ
  content : Content V
  held : Holds (contents_of ss) number content
  power : content.power ≡ power_in ss
  same : power_in ss ≡ power_of (contents_of ss)

has_power : {V : Type 0} (ss : List (StripeState V)) (t : ℕ) → IsIn t (numbers (contents_of ss)) → HasPower ss
has_power [] t i = absurd i
has_power (s ∷ ss) t i = record { number = s.number; content = s.content; held = inl (refl, refl); power = refl; same = refl }

-- All stripes were taken as p1, were renewed as p2, and went home as z.
module _ {V : Type 0} (hash : Name → ℕ) (w : WordsState) (p p1 p2 z : PassState V) (stays : Stays p.view p1.view) (whole : IsWhole hash w.settings p1) (same : p2.view ≡ p1.view) (renewed : HasRenewed hash w.settings p2) where
  abbrev k : Layout
  k = layout_of hash w.settings

  as_taken : reverse p2.view.held ≡ contents_of p1.stripes
  as_taken = ap (λ (v : View V). reverse v.held) same ∙ sym whole.unchanged

  lawful : Lawful k (reverse p2.view.held)
  lawful = subst (Lawful k) (sym as_taken) (lawful_held hash w.settings p1 whole)

  section : IdentitySection k (reverse p2.view.held) (contents_of p2.stripes)
  section = renewed lawful

  leaves : z.view.seen ≡ p2.view.seen → After z.view.seen (bindings (contents_of p2.stripes))
  leaves seen =
      let before : After p2.view.seen (bindings (reverse p2.view.held)) = subst (λ (v : View V). After v.seen (bindings (reverse v.held))) (sym same) (after_all hash w p p1 stays whole) in
      subst (λ l. After l (bindings (contents_of p2.stripes))) (sym seen) (subst (λ m. After p2.view.seen m) (sym section.same_bindings) before)

  -- the pass was told of no power above that of the stripes
  told_below : (power : ℕ) → ((t : ℕ) (c : Content V) → Holds (reverse p2.view.held) t c → c.power ≤ power) → p2.view.told ≤ power
  told_below power below =
      let one : 1 ≤ 2 ^ w.settings.s = one-le-pow w.settings.s 2 (omega arith) in
      let there : IsIn 0 (numbers (reverse p2.view.held)) = subst (λ (hs : Stripes V). IsIn 0 (numbers hs)) (sym as_taken) (has_all hash w.settings p1 whole.all 0 (omega arith)) in
      let c = held_of_in (reverse p2.view.held) 0 there in
      let told : p1.view.told ≤ c.0.power = (whole.shows.told 0 c.0 (of_reverse p1.view.held 0 c.0 (subst (λ (v : View V). Holds (reverse v.held) 0 c.0) same c.1))).0 in
      let is : p2.view.told ≡ p1.view.told = ap (λ (v : View V). v.told) same in
      let most = below 0 c.0 c.1 in
      omega arith

  told_power : IsToldPower p2 z → z.view.told ≡ power_of (contents_of p2.stripes)
  told_power told =
      let one : 1 ≤ 2 ^ w.settings.s = one-le-pow w.settings.s 2 (omega arith) in
      let there : IsIn 0 (numbers (contents_of p2.stripes)) = subst (λ (ns : List ℕ). IsIn 0 ns) (sym section.renewed.same) (subst (λ (hs : Stripes V). IsIn 0 (numbers hs)) (sym as_taken) (has_all hash w.settings p1 whole.all 0 (omega arith))) in
      let h = has_power p2.stripes 0 there in
      let below : p2.view.told ≤ power_in p2.stripes = told_below (power_in p2.stripes) (λ t c x. let m = not_below k (reverse p2.view.held) (contents_of p2.stripes) section.renewed t h.number c h.content x h.held in let e = h.power in omega arith) in
      let most : max p2.view.told (power_in p2.stripes) ≡ power_in p2.stripes = omega arith in
      told ∙ (most ∙ h.same)

  -- the caller held them all, since p
  held_all : p1.view.settings ≡ w.settings → IsDoubledBy p2 z → HasHeld w.settings.s p.view.watched p2.view.seen (reverse p2.view.held) (contents_of p2.stripes) z.view
  held_all of doubled =
      let settings : p2.view.settings ≡ w.settings = ap (λ (v : View V). v.settings) same ∙ of in
      let all : (t : ℕ) → t < 2 ^ w.settings.s → IsIn t (numbers p2.view.held) = subst (λ (v : View V). (t : ℕ) → t < 2 ^ w.settings.s → IsIn t (numbers v.held)) (sym same) (holds_each hash w.settings p1 whole) in
      let held = subst (λ (x : Settings). ((t : ℕ) → t < 2 ^ x.s → IsIn t (numbers p2.view.held)) → HasHeld x.s p2.view.watched p2.view.seen (reverse p2.view.held) (contents_of p2.stripes) z.view) settings doubled.held all in
      held_since w.settings.s p2.view.watched p.view.watched p2.view.seen (reverse p2.view.held) (contents_of p2.stripes) z.view (stays.watched.0, ap (λ (v : View V). v.watched) same ∙ stays.watched.1) held

  pub gives_grounds : p1.view.settings ≡ w.settings → (q : Name) (why : Reason) → (Lawful k (reverse p2.view.held) → Grounds k w.settings.min_load (contents_of p2.stripes) q why) → z.view.seen ≡ p2.view.seen → IsToldPower p2 z → IsDoubledBy p2 z → GivesGrounds hash w.settings q why (noted q why (contents_of p2.stripes) ∷ []) p z
  gives_grounds of q why grounds seen told doubled = record {
    contents = contents_of p2.stripes;
    is_noted = (0, omega arith, refl);
    grounds = grounds lawful;
    after = leaves seen;
    held = (reverse p2.view.held, subst (λ log. HasHeld w.settings.s p.view.watched log (reverse p2.view.held) (contents_of p2.stripes) z.view) (sym seen) (held_all of doubled));
    power = told_power told;
  }
