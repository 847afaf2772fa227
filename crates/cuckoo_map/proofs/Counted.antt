-- The doublings that a call made, as they are counted when its stripes go home.
use Rattle.std.proofs.Common.{◌≡◌, ℕ, zero, suc, ◌+◌, ◌-◌, ◌^◌, ◌<◌, ◌≤◌, List, [], ◌∷◌, append-nil, length, reverse, inl, refl, sym, ap, ◌∙◌, subst, ⊎_elim, arith}
use Rattle.ck_model.specs.declared.contents.Content.{Content}
use Rattle.ck_model.specs.declared.settings.Settings.{Settings}
use Rattle.ck_model.specs.Promise.{Name, After, StartsWith}
use Rattle.ck_model.specs.Numbered.{IsIn, numbers, Holds}
use Rattle.ck_model.specs.Contents.{Layout, layout_of, Stripes, Lawful, bindings, power_of}
use Rattle.ck_stripe.specs.Stripe.{StripeState}
use Rattle.ck_stripe.specs.Stripes.{stripe_at, contents_of}
use Rattle.ck_stripe.specs.Tables.{AreHeld, power_in}
use Rattle.ck_section.specs.Calls.{ChangesContents}
use Rattle.ck_stripe.proofs.Tables.{holds_at}
use Rattle.ck_section.proofs.Tables.{power_shown}
use Rattle.ck_core.specs.declared.view.RoomNote.{RoomNote}
use Rattle.ck_core.specs.declared.view.View.{View}
use Rattle.ck_core.specs.Steps.{growing}
use Rattle.ck_words.specs.Words.{WordsState}
use Rattle.ck_words.specs.Passes.{PassState, IsUnchanged}
use Rattle.ck_words.specs.Retries.{WatchesMore, StaysBut, as_doubled}
use Rattle.ck_words.specs.Holding.{AreOfPower, HasHeld, IsDoubledBy, HasReleased}
use Rattle.ck_words.specs.Closing.{IsWhole}
use Rattle.ck_words.proofs.WholeTables.{lawful_held}
use Rattle.ck_words.proofs.Reversed.{held_reverse, of_reverse}
use Rattle.ck_words.proofs.Staying.{starts_on, held_on, held_since}
use Rattle.cuckoo_map.specs.Needed.{DoublesNothing, NeedsToGrow, HasGrownFor, HaveOnePower, HoldsGrown}

module _ {V : Type 0} where
  -- each stripe has this power
  abbrev IsLevel : ℕ → List (StripeState V) → Type 0
  IsLevel power ss = (i : ℕ) → i < length ss → (stripe_at ss i).content.power ≡ power

  of_level : (power : ℕ) (ss : List (StripeState V)) → IsLevel power ss → AreOfPower power ss
  of_level power [] level t c h = absurd h
  of_level power (s ∷ ss) level t c h = ⊎_elim (λ e. ap (λ (d : Content V). d.power) (sym e.1) ∙ level 0 (omega arith)) (λ r. of_level power ss (λ i l. level (suc i) (omega arith)) t c r) h

  level_of : (power : ℕ) (ss : List (StripeState V)) → AreOfPower power ss → IsLevel power ss
  level_of power ss all i l = all (stripe_at ss i).number (stripe_at ss i).content (holds_at ss i l)

  level_after : (power : ℕ) (old new : List (StripeState V)) → ChangesContents old new → AreOfPower power old → AreOfPower power new
  level_after power old new changes all =
      of_level power new (λ i l. let inside : i < length old = subst (λ n. i < n) changes.count l in changes.power i inside ∙ level_of power old all i inside)

  pub one_power_held : (s : ℕ) (ss : List (StripeState V)) → AreHeld s ss → HaveOnePower ss
  one_power_held s ss held = of_level (power_of (contents_of ss)) ss (λ i l. held.one_power i l ∙ sym (power_shown ss held.some))

  -- lawful contents have the power of the first
  pub one_of_lawful : (k : Layout) (hs : Stripes V) → Lawful k hs → (t : ℕ) (c : Content V) → Holds hs t c → c.power ≡ power_of hs
  one_of_lawful k [] lawful t c h = absurd h
  one_of_lawful k (x ∷ hs) lawful t c h = lawful.one_power t x.0 c x.1 h (inl (refl, refl))

  -- a pass that has just taken all stripes was told no power above theirs
  pub told_first : {hash : Name → ℕ} {set : Settings} (p : PassState V) → IsWhole hash set p → 0 < length p.stripes → p.view.told ≤ power_in p.stripes
  told_first p whole some =
      let first : StripeState V = stripe_at p.stripes 0 in
      let held : Holds p.view.held first.number first.content = of_reverse p.view.held first.number first.content (subst (λ (hs : Stripes V). Holds hs first.number first.content) whole.unchanged (holds_at p.stripes 0 some)) in
      (whole.shows.told first.number first.content held).0

  pub one_power_table : (hash : Name → ℕ) (set : Settings) (p : PassState V) → IsWhole hash set p → HaveOnePower p.stripes
  one_power_table hash set p whole = one_of_lawful (layout_of hash set) (contents_of p.stripes) (lawful_held hash set p whole)

  -- nothing changed
  pub changes_none : (old new : List (StripeState V)) → new ≡ old → ChangesContents old new
  changes_none old new same = subst (ChangesContents old) (sym same) (record { count = refl; each = λ i l. refl; power = λ i l. refl })

  -- the view v, as if its caller had made the doublings of another
  abbrev pub counting_as : View V → View V → View V
  counting_as z v = record v { doublings = z.doublings; grown_from = z.grown_from }

  -- what stays where both views count the doublings of another
  pub stays_counting : {more : List (RoomNote V)} {v w : View V} (z : View V) → StaysBut more v w → StaysBut more (counting_as z v) (counting_as z w)
  stays_counting z s = record { settings = s.settings; by = s.by; mine = s.mine; others = s.others; heard = s.heard; no_slot = s.no_slot; seen = s.seen; by_others = s.by_others; alone = s.alone; watched = s.watched; told = s.told; doublings = refl; grown_from = refl }

  -- what stays but for doublings
  pub loosely : {more : List (RoomNote V)} {v w : View V} → StaysBut more v w → StaysBut more (counting_as w v) w
  loosely {more} {v} {w} s = stays_counting w s

  -- what holds of a pass as if its caller had made the doublings of another holds of it where it has made them
  pub counted_alike : (P : PassState V → Type 0) (p z : PassState V) → DoublesNothing p z → P (as_doubled p z) → P p
  counted_alike P p z same = subst (λ (x : ℕ × List (Stripes V)). P (record p { view = record p.view { doublings = x.0; grown_from = x.1 } })) (λ i. (same.0 i, same.1 i))

  -- and the other way round
  pub counted_back : (P : PassState V → Type 0) (p z : PassState V) → DoublesNothing p z → P p → P (as_doubled p z)
  counted_back P p z same = subst (λ (x : ℕ × List (Stripes V)). P (record p { view = record p.view { doublings = x.0; grown_from = x.1 } })) (λ i. (sym same.0 i, sym same.1 i))

  -- where none was made
  pub released_alike : {w : WordsState} (p z : PassState V) → HasReleased w (as_doubled p z) z → DoublesNothing p z → HasReleased w p z
  released_alike {w} p z home same = counted_alike (λ x. HasReleased w x z) p z same home

  -- what is noted of doublings that are some
  pub growing_some : (l : List (Stripes V)) (hs : Stripes V) (n : ℕ) → 0 < n → growing l hs n ≡ hs ∷ l
  growing_some l hs zero some = absurd (omega arith)
  growing_some l hs (suc n) some = refl

  pub growing_none : (l : List (Stripes V)) (hs : Stripes V) (n : ℕ) → n ≡ 0 → growing l hs n ≡ l
  growing_none l hs zero none = refl
  growing_none l hs (suc n) none = absurd (omega arith)

  -- The pass held stripes as p1. It was p2 when a call had changed contents of theirs alone, and z when they had gone home.
  module _ (p1 p2 z : PassState V) (view : p2.view ≡ p1.view) (rest : ChangesContents p1.stripes p2.stripes) (doubled : IsDoubledBy p2 z) where
    -- none was made where they were as they were taken
    pub none_made : IsUnchanged p1 → HaveOnePower p1.stripes → DoublesNothing p2 z
    none_made unchanged one =
        let power : ℕ = power_of (contents_of p1.stripes) in
        let taken : (t : ℕ) (c : Content V) → Holds p2.view.held t c → c.power ≡ power = λ t c h.
        one t c (subst (λ (hs : Stripes V). Holds hs t c) (sym unchanged) (held_reverse p1.view.held t c (subst (λ (v : View V). Holds v.held t c) view h))) in
        let e = doubled.counted power power taken (level_after power p1.stripes p2.stripes rest one) in
        let count = e.0 in
        (omega arith, e.1 ∙ growing_none p2.view.grown_from (reverse p2.view.held) (power - power) (omega arith))

    -- the caller held all stripes, where they were those
    held_all : {set : Settings} → (p1.view.settings ≡ set) × ((t : ℕ) → t < 2 ^ set.s → IsIn t (numbers p1.view.held)) → HasHeld set.s p1.view.watched p1.view.seen (reverse p1.view.held) (contents_of p2.stripes) z.view
    held_all {set} all =
        let Held : View V → Settings → Type 0 = λ v x. ((t : ℕ) → t < 2 ^ x.s → IsIn t (numbers v.held)) → HasHeld x.s v.watched v.seen (reverse v.held) (contents_of p2.stripes) z.view in
        subst (Held p1.view) all.0 (subst (λ (v : View V). Held v v.settings) view doubled.held) all.1

    -- those that were made had to be, where that was so
    pub grown_by : {hash : Name → ℕ} {set : Settings} {q : Name} {more : List (RoomNote V)} (p : PassState V) → HoldsGrown hash set q p1 → StaysBut more p.view p1.view → StartsWith z.view.seen p2.view.seen → HasGrownFor hash set q p z
    grown_by {hash} {set} {q} p grown stays seen =
        let a : ℕ = power_of (reverse p1.view.held) in
        let b : ℕ = power_of (contents_of p1.stripes) in
        let taken : (t : ℕ) (c : Content V) → Holds p2.view.held t c → c.power ≡ a = λ t c h. grown.before t c (subst (λ (v : View V). Holds v.held t c) view h) in
        let same : p2.view.doublings ≡ p.view.doublings = ap (λ (v : View V). v.doublings) view ∙ stays.doublings in
        let same_notes : p2.view.grown_from ≡ p.view.grown_from = ap (λ (v : View V). v.grown_from) view ∙ stays.grown_from in
        let counted = doubled.counted a b taken (level_after b p1.stripes p2.stripes rest grown.now) in
        record {
          doublings = b - a;
          made = counted.0 ∙ ap (λ n. n + (b - a)) same;
          none = λ no. counted.1 ∙ (growing_none p2.view.grown_from (reverse p2.view.held) (b - a) no ∙ same_notes);
          needed = λ some. record {
            noted = counted.1 ∙ (growing_some p2.view.grown_from (reverse p2.view.held) (b - a) some ∙ λ i. reverse (ap (λ (v : View V). v.held) view i) ∷ same_notes i);
            log = p1.view.seen;
            contents = reverse p1.view.held;
            since = stays.seen;
            seen = subst (λ (v : View V). StartsWith z.view.seen v.seen) view seen;
            after = grown.after (let l : a < b = omega arith in l);
            held = (contents_of p2.stripes, held_since set.s p1.view.watched p.view.watched p1.view.seen (reverse p1.view.held) (contents_of p2.stripes) z.view (stays.watched.0, stays.watched.1) (held_all (grown.all (let l : a < b = omega arith in l))));
            told = (let before = stays.told in let there = grown.told (let l : a < b = omega arith in l) in omega arith);
            each = λ power low high. grown.needed power low (let below : power < b = omega arith in below);
          };
        }

  -- stripes that are as they were taken
  pub holds_alike : {hash : Name → ℕ} {set : Settings} {q : Name} (p : PassState V) → IsUnchanged p → HaveOnePower p.stripes → HoldsGrown hash set q p
  holds_alike p unchanged one =
      let same : power_of (reverse p.view.held) ≡ power_of (contents_of p.stripes) = ap (λ (hs : Stripes V). power_of hs) (sym unchanged) in
      record {
        before = λ t c h. one t c (subst (λ (hs : Stripes V). Holds hs t c) (sym unchanged) (held_reverse p.view.held t c h)) ∙ sym same;
        now = one;
        after = λ l. absurd (omega arith);
        all = λ l. absurd (omega arith);
        told = λ l. absurd (omega arith);
        needed = λ power least below. absurd (omega arith);
      }

  -- the same of another list of the same contents
  pub holds_settled : {hash : Name → ℕ} {set : Settings} {q : Name} (p p2 : PassState V) → p2.view ≡ p.view → contents_of p2.stripes ≡ contents_of p.stripes → HoldsGrown hash set q p → HoldsGrown hash set q p2
  holds_settled {hash} {set} {q} p p2 view same grown =
      let one : HaveOnePower p2.stripes = subst (λ (hs : Stripes V). (t : ℕ) (c : Content V) → Holds hs t c → c.power ≡ power_of hs) (sym same) grown.now in
      record {
        before = subst (λ (v : View V). (t : ℕ) (c : Content V) → Holds v.held t c → c.power ≡ power_of (reverse v.held)) (sym view) grown.before;
        now = one;
        after = subst (λ (x : View V × Stripes V). power_of (reverse x.0.held) < power_of x.1 → After x.0.seen (bindings (reverse x.0.held))) (λ j. (sym view j, sym same j)) grown.after;
        all = subst (λ (x : View V × Stripes V). power_of (reverse x.0.held) < power_of x.1 → (x.0.settings ≡ set) × ((t : ℕ) → t < 2 ^ set.s → IsIn t (numbers x.0.held))) (λ j. (sym view j, sym same j)) grown.all;
        told = subst (λ (x : View V × Stripes V). power_of (reverse x.0.held) < power_of x.1 → x.0.told ≤ power_of (reverse x.0.held)) (λ j. (sym view j, sym same j)) grown.told;
        needed = subst (λ (x : View V × Stripes V). (power : ℕ) → power_of (reverse x.0.held) ≤ power → power < power_of x.1 → NeedsToGrow hash set q (reverse x.0.held) power) (λ j. (sym view j, sym same j)) grown.needed;
      }

  -- no doubling was made
  pub grown_none : {hash : Name → ℕ} {set : Settings} {q : Name} (p z : PassState V) → DoublesNothing p z → HasGrownFor hash set q p z
  grown_none p z same = let count = same.0 in record { doublings = 0; made = omega arith; none = λ _. same.1; needed = λ some. absurd (omega arith) }

  -- none before those that had to be made
  pub grown_since : {hash : Name → ℕ} {set : Settings} {q : Name} {more : List (RoomNote V)} (p r z : PassState V) → StaysBut more p.view r.view → HasGrownFor hash set q r z → HasGrownFor hash set q p z
  grown_since {hash} {set} p r z stays grown = record {
    doublings = grown.doublings;
    made = grown.made ∙ ap (λ n. n + grown.doublings) stays.doublings;
    none = λ no. grown.none no ∙ stays.grown_from;
    needed = λ some. let n = grown.needed some in record { log = n.log; contents = n.contents; noted = n.noted ∙ ap {B = List (Stripes V)} (λ l. n.contents ∷ l) stays.grown_from; since = starts_on p.view.seen r.view.seen n.log stays.seen n.since; seen = n.seen; after = n.after; held = (n.held.0, held_since set.s r.view.watched p.view.watched n.log n.contents n.held.0 z.view (stays.watched.0, stays.watched.1) n.held.1); told = (let before = stays.told in let there = n.told in omega arith); each = n.each };
  }

  -- none after them
  pub grown_until : {hash : Name → ℕ} {set : Settings} {q : Name} (p r z : PassState V) → HasGrownFor hash set q p r → DoublesNothing r z → StartsWith z.view.seen r.view.seen → WatchesMore r.view z.view → z.view.by ≡ r.view.by → HasGrownFor hash set q p z
  grown_until {hash} {set} p r z grown same seen watched by = record {
    doublings = grown.doublings;
    made = same.0 ∙ grown.made;
    none = λ no. same.1 ∙ grown.none no;
    needed = λ some. let n = grown.needed some in record { log = n.log; contents = n.contents; noted = same.1 ∙ n.noted; since = n.since; seen = starts_on n.log r.view.seen z.view.seen n.seen seen; after = n.after; held = (n.held.0, held_on set.s p.view.watched n.log n.contents n.held.0 r.view z.view (watched.0, watched.1) by n.held.1); told = n.told; each = n.each };
  }

  -- it counts what passes have seen, were told and made alone
  pub grown_alike : {hash : Name → ℕ} {set : Settings} {q : Name} (p z p2 z2 : PassState V) → p2.view.seen ≡ p.view.seen → p2.view.told ≡ p.view.told → p2.view.watched ≡ p.view.watched → DoublesNothing p p2 → z2.view.seen ≡ z.view.seen → DoublesNothing z z2 → z2.view.watched ≡ z.view.watched → z2.view.by ≡ z.view.by
      → HasGrownFor hash set q p z → HasGrownFor hash set q p2 z2
  grown_alike {hash} {set} p z p2 z2 seen told watched made seen2 made2 watched2 by2 grown = record {
    doublings = grown.doublings;
    made = made2.0 ∙ (grown.made ∙ ap (λ n. n + grown.doublings) (sym made.0));
    none = λ no. made2.1 ∙ (grown.none no ∙ sym made.1);
    needed = λ some. let n = grown.needed some in record {
      log = n.log;
      contents = n.contents;
      noted = made2.1 ∙ (n.noted ∙ ap {B = List (Stripes V)} (λ l. n.contents ∷ l) (sym made.1));
      since = subst (λ l. StartsWith n.log l) (sym seen) n.since;
      seen = subst (λ l. StartsWith l n.log) (sym seen2) n.seen;
      after = n.after;
      held = (n.held.0, subst (λ start. HasHeld set.s start n.log n.contents n.held.0 z2.view) (sym watched) (held_on set.s p.view.watched n.log n.contents n.held.0 z.view z2.view ([], watched2 ∙ sym (append-nil z.view.watched)) by2 n.held.1));
      told = subst (λ m. m ≤ power_of n.contents) (sym told) n.told;
      each = n.each;
    };
  }
