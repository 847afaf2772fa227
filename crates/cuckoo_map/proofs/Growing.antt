-- Doublings of all stripes, one after another, and what they leave of the pass that holds them.
use Rattle.std.proofs.Common.{◌≡◌, ℕ, ◌+◌, ◌-◌, ◌<◌, ◌≤◌, Bool, true, false, ltb, MatchBool, Ok, Err, List, [], ◌∷◌, length, reverse, max, refl, sym, ap, ◌∙◌, subst, arith}
use mathlib.Core.Logic.{dite}
use native.Mathlib.Decide.{dec_le}
use Rattle.std.proofs.lemmas.Bool.{ltb-true, lt-ltb, false≢true}
use Rattle.std.proofs.lemmas.Nat.{pow_pos}
use Rattle.ck_model.specs.declared.settings.Settings.{Settings}
use Rattle.ck_model.specs.Promise.{Name}
use Rattle.ck_model.specs.Numbered.{Holds}
use Rattle.ck_model.specs.declared.contents.Content.{Content}
use Rattle.ck_model.specs.Contents.{Layout, layout, layout_of, Stripes, Lawful}
use Rattle.ck_model.specs.Sections.{IdentitySection}
use Rattle.ck_stripe.specs.Stripe.{StripeState}
use Rattle.ck_stripe.specs.Stripes.{contents_of, settled_stripes}
use Rattle.ck_stripe.specs.Tables.{AreAllHeld, AreSettled, IsTable, power_in, KeepsBindings}
use Rattle.ck_section.specs.Doublings.{DoublesEach, Grows}
use Rattle.ck_model.proofs.Identities.{identity_on}
use Rattle.ck_stripe.proofs.Settled.{contents_settled, all_settled}
use Rattle.ck_section.proofs.Tables.{power_same}
use Rattle.ck_core.specs.declared.view.View.{View}
use Rattle.ck_words.specs.Words.{WordsState}
use Rattle.ck_words.specs.Passes.{PassState}
use Rattle.ck_words.specs.Retries.{Stays, as_doubled}
use Rattle.ck_words.specs.Holding.{HasReleased, AreOfPower, IsDoubledBy}
use Rattle.ck_words.specs.Renewing.{HasRenewed}
use Rattle.ck_words.specs.Closing.{IsWhole}
use Rattle.ck_words.proofs.Reversed.{held_reverse, lawful_reverse}
use Rattle.ck_words.proofs.Staying.{stays_on}
use Rattle.ck_refusal.specs.declared.refusal.GrowFault.TheVariants.{Busy, Memory}
use Rattle.cuckoo_map.specs.Refusals.{IsStripeIn, IsBusyAmong}
use Rattle.cuckoo_map.specs.Growth.{Rehashes}
use Rattle.cuckoo_map.proofs.Counted.{one_of_lawful, told_first, counting_as, stays_counting, growing_some}

module _ {V : Type 0} (s : ℕ) where
  -- All stripes of a table were settled.
  pub record SettlesTable (old new : List (StripeState V)) : Type 0 where
    pub table : IsTable s new
    pub settled : AreSettled new
    pub contents : contents_of new ≡ contents_of old
    pub power : power_in new ≡ power_in old

  pub settles_table : (old new : List (StripeState V)) → IsTable s old → new ≡ settled_stripes old → SettlesTable old new
  settles_table old new table is =
      let all : AreAllHeld s new = subst (λ l. AreAllHeld s l) (sym is) (all_settled s old table) in
      let same : contents_of new ≡ contents_of old = ap (λ (l : List (StripeState V)). contents_of l) is ∙ contents_settled old in
      record { table = all.table; settled = all.settled; contents = same; power = power_same s old new table all.table same }

  -- each stripe of a table has the next power
  pub power_next : (hash : Name → ℕ) (old new : List (StripeState V)) → IsTable s old → DoublesEach hash old new → power_in new ≡ power_in old + 1
  power_next hash old new table doubles = doubles.power 0 (subst (λ n. 0 < n) (sym table.count) (pow_pos s))

  module _ (hash : Name → ℕ) (power : ℕ) where
    -- whatever greatest power from this one on there is, no binding changed
    abbrev pub Keeps : List (StripeState V) → List (StripeState V) → Type 0
    Keeps old new = (max : ℕ) → power ≤ max → KeepsBindings (layout hash s max) old new

    -- the stripes were settled, and doubled or not
    pub keeps_contents : (old cur new : List (StripeState V)) → Keeps old cur → contents_of new ≡ contents_of cur → Keeps old new
    keeps_contents old cur new before same max le lawful = subst (λ (hs : Stripes V). IdentitySection (layout hash s max) (contents_of old) hs) (sym same) (before max le lawful)

    pub keeps_more : (old cur new : List (StripeState V)) → Keeps old cur → power_in cur < power → Grows hash s cur new → Keeps old new
    keeps_more old cur new before below grows max le lawful =
        let k : Layout = layout hash s max in
        let one : IdentitySection k (contents_of old) (contents_of cur) = before max le lawful in
        identity_on k (contents_of old) (contents_of cur) (contents_of new) one (grows.no_call max (let a = below in let b = le in omega arith) one.renewed.lawful)

  -- what a test before the doublings says after them
  pub reached_by : (before power n : ℕ) (old new : List (StripeState V)) → before ≡ power_in old → power_in new ≡ n → before ≤ n → (before ≤ power → n ≤ power) → power ≤ n → (power ≤ before → new ≡ old)
      → MatchBool (ltb before power) ((power_in old < power) × (power_in new ≡ power)) ((power ≤ power_in old) × (new ≡ old))
  reached_by before power n old new is now above below end same = go (ltb before power) refl
    where
      go : (t : Bool) → ltb before power ≡ t → MatchBool t ((power_in old < power) × (power_in new ≡ power)) ((power ≤ power_in old) × (new ≡ old))
      go true is_true = let lt : before < power = ltb-true before power is_true in (let e : power_in old < power = omega arith in e, let e : power_in new ≡ power = omega arith in e)
      go false is_false =
          let high : power ≤ before = dite (dec_le power before) (λ h. h) (λ h. absurd (let low : before < power = omega arith in false≢true (sym is_false ∙ lt-ltb before power low))) in
          (let e : power ≤ power_in old = omega arith in e, same high)

-- What a call that was to grow a table to a power says of it.
module _ {V : Type 0} (set : Settings) (power : ℕ) (p z : PassState V) where
  module _ (inside : power ≤ set.max) where
    pub refused_busy : (t : ℕ) → IsBusyAmong (IsStripeIn set) set t p z → Rehashes set power (Err (Busy t)) p z
    refused_busy t busy = let same_count = busy.stays.doublings in record {
      over_max = ((λ e. absurd (cc)), (λ l. absurd (omega arith)));
      unchanged = λ e. absurd (cc);
      told = tt;
      grown = λ e. absurd (cc);
      kept = λ e. absurd (cc);
      made = omega arith;
      short = λ e. absurd (cc);
      busy = λ u e. subst (λ n. IsBusyAmong (IsStripeIn set) set n p z) (let same : t ≡ u = cc in same) busy;
    }

    -- no more doublings than the power that the pass was told rose by
    abbrev pub MakesFew : Type 0
    MakesFew = z.view.doublings ≤ p.view.doublings + (z.view.told - p.view.told)

    pub refused_short : z.view.told < power → MakesFew → Rehashes set power (Err Memory) p z
    refused_short short made = record {
      over_max = ((λ e. absurd (cc)), (λ l. absurd (omega arith)));
      unchanged = λ e. absurd (cc);
      told = tt;
      grown = λ e. absurd (cc);
      kept = λ e. absurd (cc);
      made = made;
      short = λ e. short;
      busy = λ t e. absurd (cc);
    }

    pub answered_by : (b : Bool) → power ≤ z.view.told → (b ≡ true → (z.view.told ≡ power) × (p.view.told < power) × (p.view.doublings < z.view.doublings)) → (b ≡ false → z.view.doublings ≡ p.view.doublings) → MakesFew → Rehashes set power (Ok b) p z
    answered_by b told grown kept made = record {
      over_max = ((λ e. absurd (cc)), (λ l. absurd (omega arith)));
      unchanged = λ e. absurd (cc);
      told = told;
      grown = λ e. grown (let same : b ≡ true = cc in same);
      kept = λ e. kept (let same : b ≡ false = cc in same);
      made = made;
      short = λ e. absurd (cc);
      busy = λ t e. absurd (cc);
    }

-- a power that is inside the table's settings, as code found it
pub below_max : {v w : WordsState} {set : Settings} {power : ℕ} → v ≡ w → set ≡ v.settings → power ≤ set.max → power ≤ w.settings.max
below_max {v} {w} {set} {power} is same le = subst (λ (x : Settings). power ≤ x.max) (same ∙ ap (λ (x : WordsState). x.settings) is) le

-- The pass held all stripes as p1. They doubled, and it was p2 then. v and w are one table.
module _ {V : Type 0} {v w : WordsState} (is : v ≡ w) (p1 p2 : PassState V) (view : p2.view ≡ p1.view) where
  pub renewed_there : {hash : Name → ℕ} {s power : ℕ} → s ≡ w.settings.s → power ≤ w.settings.max → IsWhole hash w.settings p1 → Keeps s hash power p1.stripes p2.stripes → HasRenewed hash w.settings p2
  renewed_there {hash} {s} {power} s_is inside whole keeps =
      let kept : KeepsBindings (layout_of hash w.settings) p1.stripes p2.stripes = subst (λ n. KeepsBindings (layout hash n w.settings.max) p1.stripes p2.stripes) s_is (keeps w.settings.max inside) in
      let old : contents_of p1.stripes ≡ reverse p2.view.held = whole.unchanged ∙ ap (λ (u : View V). reverse u.held) (sym view) in
      subst (λ (hs : Stripes V). Lawful (layout_of hash w.settings) hs → IdentitySection (layout_of hash w.settings) hs (contents_of p2.stripes)) old kept

  pub renewed_by : {hash : Name → ℕ} {s power : ℕ} → s ≡ w.settings.s → power ≤ w.settings.max → IsWhole hash w.settings p1 → Keeps s hash power p1.stripes p2.stripes → HasRenewed hash v.settings p2
  renewed_by {hash} s_is inside whole keeps = subst (λ (x : WordsState). HasRenewed hash x.settings p2) (sym is) (renewed_there s_is inside whole keeps)

  pub stays_home : (p z : PassState V) → Stays p.view p1.view → HasReleased v (as_doubled p2 z) z → Stays (as_doubled p z).view z.view
  stays_home p z stays home =
      stays_on (as_doubled p z).view (as_doubled p1 z).view z.view (stays_counting z.view stays) (subst (λ (u : View V). Stays (counting_as z.view u) z.view) view home.stays)

-- stripes that are lawful have the power of the first
one_of_power : {V : Type 0} (k : Layout) (ss : List (StripeState V)) → Lawful k (contents_of ss) → AreOfPower (power_in ss) ss
one_of_power k [] lawful t c h = absurd h
one_of_power k (s ∷ ss) lawful t c h = one_of_lawful k (contents_of (s ∷ ss)) lawful t c h

-- It was p before it took them, and z when they had gone home.
module _ {V : Type 0} {hash : Name → ℕ} {set : Settings} (p p1 p2 z : PassState V) (stays : Stays p.view p1.view) (whole : IsWhole hash set p1) (table : IsTable set.s p1.stripes)
    (view : p2.view ≡ p1.view) (told : z.view.told ≡ max p2.view.told (power_in p2.stripes)) where
  -- it had been told no power above theirs
  pub told_since : (p.view.told ≤ p1.view.told) × (p1.view.told ≤ power_in p1.stripes) × (z.view.told ≡ max p1.view.told (power_in p2.stripes))
  told_since =
      let some : 0 < length p1.stripes = subst (λ n. 0 < n) (sym table.count) (pow_pos set.s) in
      (stays.told, told_first p1 whole some, told ∙ ap (λ (u : View V). max u.told (power_in p2.stripes)) view)

  -- what they contain has one power, as they were taken and as they went home
  power_taken : (t : ℕ) (c : Content V) → Holds p2.view.held t c → c.power ≡ power_in p1.stripes
  power_taken t c h =
      let k : Layout = layout_of hash set in
      let taken : Lawful k (contents_of p1.stripes) = subst (λ (hs : Stripes V). Lawful k hs) (sym whole.unchanged) (lawful_reverse k p1.view.held whole.shows.lawful) in
      let held : Holds p1.view.held t c = subst (λ (u : View V). Holds u.held t c) view h in
      one_of_power k p1.stripes taken t c (subst (λ (hs : Stripes V). Holds hs t c) (sym whole.unchanged) (held_reverse p1.view.held t c held))

  power_home : HasRenewed hash set p2 → AreOfPower (power_in p2.stripes) p2.stripes
  power_home renewed =
      let k : Layout = layout_of hash set in
      let taken : Lawful k (reverse p2.view.held) = subst (λ (u : View V). Lawful k (reverse u.held)) (sym view) (lawful_reverse k p1.view.held whole.shows.lawful) in
      one_of_power k p2.stripes (renewed taken).renewed.lawful

  -- the doublings that were counted
  pub counted_since : HasRenewed hash set p2 → p1.view.doublings ≡ p.view.doublings → IsDoubledBy p2 z → z.view.doublings ≡ p.view.doublings + (power_in p2.stripes - power_in p1.stripes)
  counted_since renewed before doubled =
      let same : p2.view.doublings ≡ p.view.doublings = ap (λ (u : View V). u.doublings) view ∙ before in
      (doubled.counted (power_in p1.stripes) (power_in p2.stripes) power_taken (power_home renewed)).0 ∙ ap (λ n. n + (power_in p2.stripes - power_in p1.stripes)) same

  -- and what they doubled from
  pub noted_since : HasRenewed hash set p2 → p1.view.grown_from ≡ p.view.grown_from → IsDoubledBy p2 z → power_in p1.stripes < power_in p2.stripes → z.view.grown_from ≡ contents_of p1.stripes ∷ p.view.grown_from
  noted_since renewed before doubled more =
      let noted = (doubled.counted (power_in p1.stripes) (power_in p2.stripes) power_taken (power_home renewed)).1 in
      let taken : reverse p2.view.held ≡ contents_of p1.stripes = ap (λ (u : View V). reverse u.held) view ∙ sym whole.unchanged in
      let same : p2.view.grown_from ≡ p.view.grown_from = ap (λ (u : View V). u.grown_from) view ∙ before in
      noted ∙ (growing_some p2.view.grown_from (reverse p2.view.held) (power_in p2.stripes - power_in p1.stripes) (omega arith) ∙ λ i. taken i ∷ same i)

  few_since : HasRenewed hash set p2 → p1.view.doublings ≡ p.view.doublings → IsDoubledBy p2 z → z.view.doublings ≤ p.view.doublings + (z.view.told - p.view.told)
  few_since renewed before doubled =
      let since = told_since in
      let counted = counted_since renewed before doubled in
      omega arith

  module _ {power : ℕ} (inside : power ≤ set.max) where
    pub answered_home : HasRenewed hash set p2 → p1.view.doublings ≡ p.view.doublings → IsDoubledBy p2 z → (b : Bool) → MatchBool b ((power_in p1.stripes < power) × (power_in p2.stripes ≡ power)) ((power ≤ power_in p1.stripes) × (p2.stripes ≡ p1.stripes))
        → Rehashes set power (Ok b) p z
    answered_home renewed before doubled true m =
        let since = told_since in
        answered_by set power p z inside true (let low = m.0 in let reached = m.1 in omega arith)
        (λ e. (
          (let same : z.view.told ≡ power = omega (arith, m.0, m.1) in same),
          (let fewer : p.view.told < power = omega (arith, m.0) in fewer),
          (let counted = counted_since renewed before doubled in let more : p.view.doublings < z.view.doublings = omega (arith, m.0, m.1) in more),
        ))
        (λ e. absurd (false≢true (sym e)))
        (few_since renewed before doubled)
    answered_home renewed before doubled false m =
        let since = told_since in
        let level : power_in p2.stripes ≡ power_in p1.stripes = ap (λ (l : List (StripeState V)). power_in l) m.1 in
        answered_by set power p z inside false (let high = m.0 in omega arith) (λ e. absurd (false≢true e)) (λ e. let counted = counted_since renewed before doubled in omega arith) (few_since renewed before doubled)

    pub short_home : HasRenewed hash set p2 → p1.view.doublings ≡ p.view.doublings → IsDoubledBy p2 z → (power_in p1.stripes < power) × (power_in p2.stripes < power) → Rehashes set power (Err Memory) p z
    short_home renewed before doubled m = let since = told_since in refused_short set power p z inside (let low = m.0 in let short = m.1 in omega arith) (few_since renewed before doubled)
