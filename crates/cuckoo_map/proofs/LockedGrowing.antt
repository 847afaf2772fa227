-- A locked table grows.
use Rattle.std.specs.FinMap.{len}
use Rattle.std.specs.Prelude.{slice_index_or}
use Rattle.std.proofs.Common.{◌≡◌, ℕ, ◌^◌, ◌<◌, ◌≤◌, List, [], ◌∷◌, length, reverse, suc, refl, sym, ap, ◌∙◌, subst, arith, Bool, true, false, MatchBool, Result, Ok, Err, IfOk}
use Rattle.std.proofs.lemmas.Nat.{pow_pos}
use Rattle.std.proofs.lemmas.Bool.{false≢true}
use Rattle.ck_model.specs.declared.settings.Settings.{Settings}
use Rattle.ck_model.specs.Promise.{Name}
use Rattle.ck_model.specs.Numbered.{Holds}
use Rattle.ck_model.specs.Contents.{Layout, layout, layout_of, pairs_of}
use Rattle.ck_model.proofs.Numbered.{held_of_in}
use Rattle.ck_stripe.specs.Stripe.{StripeState}
use Rattle.ck_stripe.specs.Stripes.{stripe_at, contents_of, settled_stripes}
use Rattle.ck_stripe.specs.Tables.{AreAllHeld, AreSettled, IsTable, power_in, KeepsBindings}
use Rattle.ck_stripe.proofs.Tables.{holds_at}
use Rattle.ck_section.proofs.AllStripes.{power_read}
use Rattle.ck_section.proofs.Tables.{power_shown}
use Rattle.ck_words.specs.Words.{WordsState}
use Rattle.ck_words.specs.Passes.{PassState}
use Rattle.ck_words.proofs.Reversed.{of_reverse}
use Rattle.ck_refusal.specs.declared.refusal.GrowFault.{GrowFault}
use Rattle.ck_refusal.specs.declared.refusal.GrowFault.TheVariants.{Memory}
use Rattle.cuckoo_map.specs.Locking.{LockedState, locked_of, map_of, locked_power, IsLocked, KeepsMap, RehashesLocked}
use Rattle.cuckoo_map.proofs.Growing.{settles_table}
use Rattle.cuckoo_map.proofs.Sessions.{locked_again, not_below, had_all, counts_locked, few_locked}

module _ {V : Type 0} where
  settled_one : (t : StripeState V) → t.settled ≡ true → record t { settled = true } ≡ t
  settled_one t is = λ j. record t { settled = sym is j }

  -- what is settled is not changed by settling
  settled_already : (ss : List (StripeState V)) → AreSettled ss → settled_stripes ss ≡ ss
  settled_already [] settled = refl
  settled_already (t ∷ ts) settled = λ j. settled_one t (settled 0 (omega arith)) j ∷ settled_already ts (λ i l. settled (suc i) (omega arith)) j

  -- It is said whether stripes went from old to new with a greater power.
  abbrev Reaches : ℕ → List (StripeState V) → List (StripeState V) → Bool → Type 0
  Reaches power old new grown = MatchBool grown ((power_in old < power) × (power_in new ≡ power)) ((power ≤ power_in old) × (new ≡ old))

  -- so it is once all were settled
  pub reached_settled : {E : Type 0} (s power : ℕ) (grown : Result Bool E) (old mid new : List (StripeState V)) → AreSettled old → IsTable s mid → new ≡ settled_stripes mid → IfOk grown (Reaches power old mid) → IfOk grown (Reaches power old new)
  reached_settled s power (Ok true) old mid new settled table is m = (m.0, (settles_table s mid new table is).power ∙ m.1)
  reached_settled s power (Ok false) old mid new settled table is m = (m.0, is ∙ (ap (λ (ss : List (StripeState V)). settled_stripes ss) m.1 ∙ settled_already old settled))
  reached_settled s power (Err e) old mid new settled table is m = tt

  pub all_held : (s : ℕ) (mid new : List (StripeState V)) → IsTable s mid → new ≡ settled_stripes mid → AreAllHeld s new
  all_held s mid new table is = let was = settles_table s mid new table is in record { table = was.table; settled = was.settled }

  -- the power of a locked table
  module _ {hash : Name → ℕ} {w : WordsState} {p : PassState V} (l : IsLocked hash w p) where
    some : 0 < length p.stripes
    some = subst (λ n. 0 < n) (sym l.table.count) (pow_pos w.settings.s)

    pub power_shows : power_in p.stripes ≡ locked_power (locked_of w p)
    power_shows = sym (power_shown p.stripes some)

    -- is one that the table may have
    within : (w.settings.power ≤ power_in p.stripes) × (power_in p.stripes ≤ w.settings.max)
    within =
        let k : Layout = layout_of hash w.settings in
        let first : StripeState V = stripe_at p.stripes 0 in
        let held : Holds (contents_of p.stripes) first.number first.content = holds_at p.stripes 0 some in
        let then_in = had_all hash w p l 0 (pow_pos w.settings.s) in
        let taken = held_of_in (reverse p.view.held) 0 then_in in
        let told = (l.shows.told 0 taken.0 (of_reverse p.view.held 0 taken.0 taken.1)).0 in
        let more : taken.0.power ≤ first.content.power = not_below k (reverse p.view.held) (contents_of p.stripes) l.renewed 0 first.number taken.0 first.content taken.1 held in
        let most : first.content.power ≤ w.settings.max = (l.renewed.lawful.sound first.number first.content held).most in
        let least : w.settings.power ≤ p.view.told = l.own.4 in
        ((let low : w.settings.power ≤ first.content.power = omega arith in low), most)

    pub power_within : (s : LockedState V) → locked_of w p ≡ s → (s.caller.table.settings.power ≤ locked_power s) × (locked_power s ≤ s.caller.table.settings.max)
    power_within s is = subst (λ (x : LockedState V). (x.caller.table.settings.power ≤ locked_power x) × (locked_power x ≤ x.caller.table.settings.max)) is
        (subst (λ n. (w.settings.power ≤ n) × (n ≤ w.settings.max)) power_shows within)

  -- Stripes of a locked table doubled up to a power, and were settled.
  module _ {hash : Name → ℕ} {w : WordsState} {p : PassState V} (l : IsLocked hash w p) (q : PassState V) (kept : q ≡ record p { stripes = q.stripes }) {set : Settings} (same : set ≡ w.settings) {power : ℕ} (inside : power ≤ set.max)
      (held : AreAllHeld set.s q.stripes) (no_call : (max : ℕ) → power ≤ max → KeepsBindings (layout hash set.s max) p.stripes q.stripes) where
    keeps : KeepsBindings (layout_of hash w.settings) p.stripes q.stripes
    keeps = subst (λ (x : Settings). KeepsBindings (layout_of hash x) p.stripes q.stripes) same (no_call set.max inside)

    -- it is still locked
    pub doubled_locked : IsLocked hash w q
    doubled_locked =
        let there : AreAllHeld w.settings.s q.stripes = subst (λ (x : Settings). AreAllHeld x.s q.stripes) same held in
        locked_again hash w p q l kept there.table there.settled (keeps l.renewed.lawful).renewed

    abbrev old : LockedState V
    old = locked_of w p

    abbrev new : LockedState V
    new = locked_of w q

    keeps_map_so : KeepsMap old new
    keeps_map_so = record {
      session = ap (λ (x : PassState V). record (locked_of w x) { stripes = q.stripes }) kept;
      same = (keeps l.renewed.lawful).same_bindings;
    }

    below : power ≤ w.settings.max
    below = subst (λ (x : Settings). power ≤ x.max) same inside

    before : power_in p.stripes ≡ locked_power old
    before = power_shows l

    after : power_in q.stripes ≡ locked_power new
    after = power_shows doubled_locked

    answers : (b : Bool) → Reaches power p.stripes q.stripes b → RehashesLocked power (Ok b) old new
    answers true m = record {
      kept = keeps_map_so;
      over_max = ((λ e. absurd (cc)), (λ lt. let le = below in absurd (omega arith)));
      unchanged = λ e. absurd (cc);
      grown = λ e. (
        (let a = before in let low : locked_power old < power = omega (arith, m.0) in low),
        sym after ∙ m.1,
      );
      enough = λ e. absurd (false≢true (let is : false ≡ true = cc in is));
      short = λ e. absurd (cc);
      busy = λ t e. absurd (cc);
    }
    answers false m = record {
      kept = keeps_map_so;
      over_max = ((λ e. absurd (cc)), (λ lt. let le = below in absurd (omega arith)));
      unchanged = λ e. absurd (cc);
      grown = λ e. absurd (false≢true (let is : false ≡ true = cc in is));
      enough = λ e. (
        (let a = before in let high : power ≤ locked_power old = omega (arith, m.0) in high),
        ap (λ (x : PassState V). locked_of w x) (kept ∙ (λ i. record p { stripes = m.1 i })),
      );
      short = λ e. absurd (cc);
      busy = λ t e. absurd (cc);
    }

    falls_short : (power_in p.stripes < power) × (power_in q.stripes < power) → RehashesLocked power (Err Memory) old new
    falls_short m = record {
      kept = keeps_map_so;
      over_max = ((λ e. absurd (cc)), (λ lt. let le = below in absurd (omega arith)));
      unchanged = λ e. absurd (cc);
      grown = λ e. absurd (cc);
      enough = λ e. absurd (cc);
      short = λ e. (
        (let a = before in let low : locked_power old < power = omega (arith, m.0) in low),
        (let a = after in let low : locked_power new < power = omega (arith, m.1) in low),
      );
      busy = λ t e. absurd (cc);
    }

    -- as s shows it, which was so before
    module _ {s : LockedState V} (is : ◌≡◌ {A = LockedState V} old s) (result : Result Bool GrowFault) where
      pub rehashed : (b : Bool) → result ≡ Ok b → Reaches power p.stripes q.stripes b → RehashesLocked power result s new
      rehashed b e m = subst (λ (x : Result Bool GrowFault × LockedState V). RehashesLocked power x.0 x.1 new) (λ j. (sym e j, is j)) (answers b m)

      pub refused : result ≡ Err Memory → (power_in p.stripes < power) × (power_in q.stripes < power) → RehashesLocked power result s new
      refused e m = subst (λ (x : Result Bool GrowFault × LockedState V). RehashesLocked power x.0 x.1 new) (λ j. (sym e j, is j)) (falls_short m)

-- the power that the first of all stripes has, as code read it
pub first_power : {V : Type 0} {hash : Name → ℕ} {w : WordsState} {p : PassState V} (l : IsLocked hash w p) {s : LockedState V} → locked_of w p ≡ s → (stripes : List (StripeState V)) → stripes ≡ p.stripes
    → (t : StripeState V) → t ≡ slice_index_or stripes 0 t → (power : ℕ) → power ≡ t.content.power → power ≡ locked_power s
first_power {V} {hash} {w} {p} l {s} is stripes same t read power shown =
    let inside : 0 < length stripes = subst (λ (ss : List (StripeState V)). 0 < length ss) (sym same) (subst (λ n. 0 < n) (sym l.table.count) (pow_pos w.settings.s)) in
    power_read stripes 0 t power inside read shown
    ∙ (ap (λ (ss : List (StripeState V)). power_in ss) same
    ∙ (power_shows l ∙ ap (λ (x : LockedState V). locked_power x) is))

-- a locked table binds no more names than it has slots at any power
pub few_keys : {V : Type 0} {hash : Name → ℕ} {w : WordsState} {p : PassState V} (l : IsLocked hash w p) {s : LockedState V} → locked_of w p ≡ s → (n : ℕ) → n ≡ len (map_of s) → n ≤ 2 ^ 38
few_keys {V} {hash} {w} {p} l {s} is n shown =
    let same : n ≡ length (pairs_of (contents_of p.stripes)) = shown ∙ (sym (ap (λ (x : LockedState V). len (map_of x)) is) ∙ sym (counts_locked hash w p l)) in
    subst (λ x. x ≤ 2 ^ 38) (sym same) (few_locked hash w p l)
