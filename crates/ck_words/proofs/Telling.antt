-- What a caller is told of the power when its stripe goes home.
use Rattle.std.proofs.Common.{◌≡◌, ℕ, ◌+◌, ◌-◌, ◌^◌, ◌<◌, ◌≤◌, List, [], ◌∷◌, ◌++◌, length, length-append, reverse, inl, refl, sym, ap, ◌∙◌, subst, arith, Option}
use Rattle.std.specs.Prelude.{max}
use Rattle.std.proofs.lemmas.List.{reverse-reverse}
use Rattle.ck_model.specs.declared.history.Reason.{Reason}
use Rattle.ck_model.specs.Promise.{Name}
use Rattle.ck_model.specs.Numbered.{IsIn, AreDistinct, numbers, Holds}
use Rattle.ck_model.specs.declared.contents.Content.{Content}
use Rattle.ck_model.specs.declared.settings.Settings.{Settings}
use Rattle.ck_core.specs.declared.view.View.{View}
use Rattle.ck_model.specs.Contents.{Layout, layout_of, Stripes, Lawful, power_of}
use Rattle.ck_model.proofs.Numbered.{held_first, in_held}
use Rattle.ck_stripe.specs.Stripe.{StripeState}
use Rattle.ck_model.specs.declared.history.Entry.{Entry}
use Rattle.ck_core.specs.declared.trace.LockStep.{LockStep}
use Rattle.ck_core.specs.declared.trace.LockStep.TheVariants.{Gave, Decided}
use Rattle.ck_core.specs.Contained.{told_by}
use Rattle.ck_core.specs.Steps.{Label, event, growing}
use Rattle.ck_core.specs.Steps.Label.{GiveRest, Renew, Decide}
use Rattle.ck_stripe.specs.Stripes.{stripe_at, contents_of}
use Rattle.ck_stripe.specs.Tables.{power_in}
use Rattle.ck_stripe.proofs.Tables.{holds_at}
use Rattle.ck_words.specs.Steps.{Steps}
use Rattle.ck_words.specs.Words.{WordsState}
use Rattle.ck_words.specs.Passes.{PassState, IsPassOf, IsIdle, IsUnchanged, ShowsSeen, Sends}
use Rattle.ck_words.specs.Retries.{Stays, FindsAmong, TakesWithin}
use Rattle.ck_words.specs.Holding.{HasTaken, HasReleased, HasHeld, AreOfPower, IsToldNoMore, IsToldPower, IsDoubledBy}
use Rattle.ck_words.proofs.Seating.{length-numbers}
use Rattle.ck_words.proofs.Staying.{held_on, stays_giving, found_giving, among_none, among_on}
use Rattle.ck_words.proofs.Taking.{none_taken, one_taken}
use Rattle.ck_words.proofs.Reversed.{map-append, held_reverse, of_reverse, lawful_reverse}
use Rattle.ck_words.proofs.Rows.{rest_row, renew_row, decide_row, same_view, held_then}

max_right : (a b : ℕ) → a ≤ b → max a b ≡ b
max_right a b h = omega arith

module _ {V : Type 0} (hash : Name → ℕ) (set : Settings) (p : PassState V) (w : View V) (t : ℕ) (r : Steps hash set (GiveRest t) p.view w) where
  -- the stripe that goes home is held
  goes : Holds p.view.held t r.does.1
  goes = subst (λ (v : View V). Holds v.held t r.does.1) (same_view hash set (GiveRest t) p.view w r r.does.0 r.does.2) r.does.3

  told_rest : w.told ≡ max p.view.told r.does.1.power
  told_rest = ap (λ (v : View V). v.told) (rest_row hash set p.view w t r)

  module _ (shows : ShowsSeen hash set p) where
    -- the caller is told of its power
    told_home : w.told ≡ r.does.1.power
    told_home = told_rest ∙ max_right p.view.told r.does.1.power (shows.told t r.does.1 goes).0

    -- which is that of each stripe that is held
    pub told_of : IsUnchanged p → 0 < length p.stripes → (stripe_at p.stripes 0).content.power ≡ w.told
    told_of unchanged some =
        let first = stripe_at p.stripes 0 in
        let held : Holds p.view.held first.number first.content = of_reverse p.view.held first.number first.content (subst (λ hs. Holds hs first.number first.content) unchanged (holds_at p.stripes 0 some)) in
        shows.lawful.one_power first.number t first.content r.does.1 held goes ∙ sym told_home

-- From p the caller took stripe t, gave it back as it was, and is s then.
module _ {V : Type 0} (hash : Name → ℕ) (w : WordsState) (t : ℕ) (p q r s : PassState V) (own : IsPassOf w p) (idle : IsIdle p) (k : TakesWithin hash w.settings w.settings.turns t p q) (own2 : IsPassOf w q) (unchanged : IsUnchanged q)
    (same : r ≡ q) (g : Sends hash w (λ u _. GiveRest u) r s) where
  taken : HasTaken hash w (λ u. u ≡ t) (t ∷ []) p q
  taken = one_taken hash w (λ u. u ≡ t) [] t p p (none_taken hash w (λ u. u ≡ t) p own idle) w.settings.turns q refl k own2 unchanged

  home : Sends hash w (λ u _. GiveRest u) q s
  home = subst (λ (x : PassState V). Sends hash w (λ u _. GiveRest u) x s) same g

  pub stays_home : Stays p.view s.view
  stays_home = stays_giving hash w q s home p.view taken.stays

  pub found_home : FindsAmong (λ u. u ≡ t) p s
  found_home = among_on (λ u. u ≡ t) p q s taken.found (among_none (λ u. u ≡ t) q s (found_giving hash w q s home))

  pub told_there : (stripe_at q.stripes 0).content.power ≡ s.view.told
  told_there = told_of hash w.settings q s.view home.0.number home.2 (taken.shows (omega arith)) unchanged (let e = length-numbers q.stripes in let f = ap length taken.numbered in omega arith)

-- Stripes of one power go home, one after another.
module _ {V : Type 0} where
  -- those that are left after the highest one have that power
  power_left : (power : ℕ) (p q : PassState V) (stripe : StripeState V) → p.stripes ≡ q.stripes ++ stripe ∷ [] → AreOfPower power p.stripes → AreOfPower power q.stripes
  power_left power p q stripe split same t c h =
      let first : Holds (contents_of q.stripes ++ contents_of (stripe ∷ [])) t c = held_first (contents_of q.stripes) (contents_of (stripe ∷ [])) t c h in
      let all : Holds (contents_of (q.stripes ++ stripe ∷ [])) t c = subst (λ (hs : Stripes V). Holds hs t c) (sym (map-append (λ (x : StripeState V). (x.number, x.content)) q.stripes (stripe ∷ []))) first in
      same t c (subst (λ (ss : List (StripeState V)). Holds (contents_of ss) t c) (sym split) all)

  -- From p to q some of them went home, and the pass was told no power above theirs.
  abbrev pub IsToldBelow : PassState V → PassState V → Type 0
  IsToldBelow p q = (power : ℕ) → AreOfPower power p.stripes → AreOfPower power q.stripes × (q.view.told ≤ max p.view.told power)

  pub told_none : (p : PassState V) → IsToldBelow p p
  told_none p power same = (same, omega arith)

  pub told_fewer : (hash : Name → ℕ) (w : WordsState) (p q r : PassState V) → IsToldBelow p q → IsUnchanged q → Sends hash w (λ t _. GiveRest t) q r → IsToldBelow p r
  told_fewer hash w p q r before unchanged g power same =
      let b = before power same in
      let t : ℕ = g.0.number in
      let c : Content V = g.2.does.1 in
      let there : Holds (contents_of q.stripes) t c = subst (λ (hs : Stripes V). Holds hs t c) (sym unchanged) (held_reverse q.view.held t c (goes hash w.settings q r.view t g.2)) in
      let is : c.power ≡ power = b.0 t c there in
      let told = told_rest hash w.settings q r.view t g.2 in
      (power_left power q r g.0 g.1 b.0, omega arith)

  -- From p to q the highest stripe went home, t with this content, and from q to r the rest.
  module _ (k : Layout) (p q r : PassState V) (stripe : StripeState V) (split : p.stripes ≡ q.stripes ++ stripe ∷ []) (lawful : Lawful k (contents_of p.stripes)) where
    told_all : (t : ℕ) (c : Content V) → Holds (contents_of p.stripes) t c → q.view.told ≡ max p.view.told c.power → q.view.told ≤ r.view.told → IsToldNoMore q r → IsToldPower p r
    told_all t c h told more within =
        let some : 0 < length p.stripes = (let e = ap length split in let l = length-append q.stripes (stripe ∷ []) in omega arith) in
        let all : AreOfPower c.power p.stripes = λ u d g. lawful.one_power u t d c g h in
        let is : power_in p.stripes ≡ c.power = all (stripe_at p.stripes 0).number (stripe_at p.stripes 0).content (holds_at p.stripes 0 some) in
        let most = within c.power (power_left c.power p q stripe split all) in
        omega arith

  -- all with what they contain now
  pub told_renewed : (hash : Name → ℕ) (w : WordsState) (why : Option (Name × Reason)) (p q r : PassState V) → Sends hash w (λ t ks. Renew t ks why) p q → HasReleased w q r → IsToldNoMore q r → IsToldPower p r
  told_renewed hash w why p q r g rest within =
      let k : Layout = layout_of hash w.settings in
      let t : ℕ = g.0.number in
      let c : Content V = g.2.does.1 in
      let now : Stripes V = contents_of p.stripes in
      let lawful : Lawful k now = subst (Lawful k) (reverse-reverse now) (lawful_reverse k (reverse now) g.2.does.4.renewed.lawful) in
      let told : q.view.told ≡ max p.view.told c.power = ap (λ (v : View V). v.told) (renew_row hash w.settings p.view q.view t (reverse now) why g.2) in
      told_all k p q r g.0 g.1 lawful t c (of_reverse now t c g.2.does.3) told rest.stays.told within

  -- the power of stripes that all have it, where there is one
  power_is : (hs : Stripes V) (power t : ℕ) → IsIn t (numbers hs) → ((u : ℕ) (c : Content V) → Holds hs u c → c.power ≡ power) → power_of hs ≡ power
  power_is [] power t i same = absurd i
  power_is (h ∷ hs) power t i same = same h.0 h.1 (inl (refl, refl))

  -- What p holds went home from q on, as now, by which the caller's doublings were counted. It is r then.
  module _ (p q r : PassState V) (s : Stays q.view r.view) where
    counted_home : (now : Stripes V) → now ≡ contents_of p.stripes → (t : ℕ) (c : Content V) → Holds (reverse now) t c → numbers (reverse now) ≡ numbers p.view.held
        → q.view.doublings ≡ p.view.doublings + (power_of (reverse now) - power_of p.view.held) → q.view.grown_from ≡ growing p.view.grown_from (reverse p.view.held) (power_of (reverse now) - power_of p.view.held)
        → (a b : ℕ) → ((u : ℕ) (d : Content V) → Holds p.view.held u d → d.power ≡ a) → AreOfPower b p.stripes → (r.view.doublings ≡ p.view.doublings + (b - a)) × (r.view.grown_from ≡ growing p.view.grown_from (reverse p.view.held) (b - a))
    counted_home now is t c home same counted noted a b before after =
        let goes_home : IsIn t (numbers (reverse now)) = in_held (reverse now) t c home in
        let old : power_of p.view.held ≡ a = power_is p.view.held a t (subst (IsIn t) same goes_home) before in
        let new : power_of (reverse now) ≡ b = power_is (reverse now) b t goes_home (λ u d h. after u d (subst (λ (hs : Stripes V). Holds hs u d) is (of_reverse now u d h))) in
        (s.doublings ∙ (counted ∙ λ i. p.view.doublings + (new i - old i)), s.grown_from ∙ (noted ∙ λ i. growing p.view.grown_from (reverse p.view.held) (new i - old i)))

    -- it held them before, where they are all
    held_home : (hash : Name → ℕ) (set : Settings) → p.view.settings ≡ set → (m : Label V) (g : Steps hash set m p.view q.view) (step : LockStep V) (t : ℕ) (now : Stripes V) → told_by step ≡ reverse now → AreDistinct (numbers (reverse now))
        → q.view.watched ≡ g.before.trace ++ event p.view.by step t ∷ [] → q.view.by ≡ p.view.by
        → ((u : ℕ) → u < 2 ^ p.view.settings.s → IsIn u (numbers p.view.held)) → HasHeld p.view.settings.s p.view.watched p.view.seen (reverse p.view.held) now r.view
    held_home hash set of m g step t now told apart watched by =
        let start = p.view.watched in
        let log = p.view.seen in
        let before = reverse p.view.held in
        subst (λ (x : Settings). ((u : ℕ) → u < 2 ^ x.s → IsIn u (numbers p.view.held)) → HasHeld x.s start log before now r.view) (sym of)
        (λ all. subst (λ (after : Stripes V). HasHeld set.s start log before after r.view) (ap reverse told ∙ reverse-reverse now)
        (held_on set.s start log before (reverse (told_by step)) q.view r.view (s.watched.0, s.watched.1) s.by
        (held_then hash set m p.view q.view g step t (subst (λ (hs : Stripes V). AreDistinct (numbers hs)) (sym told) apart) watched by all)))

  -- the caller's doublings were counted, where they went home by no call
  pub doubled_renewed : (hash : Name → ℕ) (w : WordsState) (why : Option (Name × Reason)) (p q r : PassState V) → p.view.settings ≡ w.settings → Sends hash w (λ t ks. Renew t ks why) p q → Stays q.view r.view → IsDoubledBy p r
  doubled_renewed hash w why p q r of g rest =
      let now : Stripes V = contents_of p.stripes in
      let step : Label V = Renew g.0.number (reverse now) why in
      let held : numbers g.2.does.0.held ≡ numbers p.view.held = ap (λ (v : View V). numbers v.held) (same_view hash w.settings step p.view q.view g.2 g.2.does.0 g.2.does.2) in
      let row = renew_row hash w.settings p.view q.view g.0.number (reverse now) why g.2 in
      record {
        counted = counted_home p q r rest now refl g.0.number g.2.does.1 g.2.does.3 (g.2.does.4.renewed.same ∙ held) (ap (λ (v : View V). v.doublings) row) (ap (λ (v : View V). v.grown_from) row);
        held = held_home p q r rest hash w.settings of step g.2 (Gave (reverse now)) g.0.number now refl g.2.does.4.renewed.lawful.distinct (ap (λ (v : View V). v.watched) row) (ap (λ (v : View V). v.by) row);
      }

  -- and where they did by one
  pub doubled_decided : (hash : Name → ℕ) (w : WordsState) (e : Entry V) (p q r : PassState V) → p.view.settings ≡ w.settings → Sends hash w (λ t ks. Decide t ks e) p q → Stays q.view r.view → IsDoubledBy p r
  doubled_decided hash w e p q r of g rest =
      let now : Stripes V = contents_of p.stripes in
      let step : Label V = Decide g.0.number (reverse now) e in
      let held : numbers g.2.does.0.held ≡ numbers p.view.held = ap (λ (v : View V). numbers v.held) (same_view hash w.settings step p.view q.view g.2 g.2.does.0 g.2.does.2) in
      let row = decide_row hash w.settings p.view q.view g.0.number (reverse now) e g.2 in
      record {
        counted = counted_home p q r rest now refl g.0.number g.2.does.1 g.2.does.4 (g.2.does.5.renewed.same ∙ held) (ap (λ (v : View V). v.doublings) row) (ap (λ (v : View V). v.grown_from) row);
        held = held_home p q r rest hash w.settings of step g.2 (Decided e (reverse now)) g.0.number now refl g.2.does.5.renewed.lawful.distinct (ap (λ (v : View V). v.watched) row) (ap (λ (v : View V). v.by) row);
      }
