-- Room for a name: which stripes are held with it, and what is left of a pass that made it among all of the table.
use Rattle.std.proofs.Common.{◌≡◌, ◌⊎◌, ℕ, ◌^◌, ◌<◌, ◌≤◌, List, [], ◌∷◌, length, reverse, refl, inr, sym, ap, ◌∙◌, subst, arith}
use Rattle.std.proofs.lemmas.List.Elements.{All-nil, All-cons}
use Rattle.std.proofs.lemmas.Nat.{pow_pos}
use Rattle.ck_model.specs.declared.history.Reason.{Reason}
use Rattle.ck_model.specs.declared.history.Reason.TheVariants.{NoRoom}
use Rattle.ck_model.specs.declared.settings.Settings.{Settings}
use Rattle.ck_model.specs.Promise.{Name, After}
use Rattle.ck_model.specs.Numbered.{IsIn, numbers}
use Rattle.ck_model.specs.Contents.{Layout, layout, layout_of, Stripes, Lawful, bindings, power_of}
use Rattle.ck_model.specs.Paths.{Grounds, HasNoRoom, reason_of_lack}
use Rattle.ck_stripe.specs.Stripe.{StripeState}
use Rattle.ck_model.specs.declared.lack.Lack as lack
use Rattle.ck_model.specs.declared.lack.Lack.TheVariants.{Memory, Full, LoadTooLow}
use Rattle.ck_stripe.specs.Stripes.{contents_of, HaveNoSpare}
use Rattle.ck_section.proofs.Tables.{power_shown}
use Rattle.ck_section.specs.declared.entry.Entry.{Entry}
use Rattle.ck_section.specs.Places.{IsPlaceOf}
use Rattle.ck_section.specs.Entries.{IsEntryOf}
use Rattle.ck_section.specs.Calls.{IsWithoutRoom}
use Rattle.ck_stripe.specs.Tables.{AreAllHeld, IsTable, power_in, KeepsBindings}
use Rattle.ck_section.specs.Room.{MakesRoom, GivesReason, GrowsForRoom}
use Rattle.ck_core.specs.declared.view.RoomNote.{RoomNote}
use Rattle.ck_core.specs.declared.view.View.{View}
use Rattle.ck_core.specs.Steps.{noted}
use Rattle.ck_words.specs.Words.{WordsState}
use Rattle.ck_words.specs.Passes.{PassState, IsUnchanged, numbers_of}
use Rattle.ck_words.specs.Retries.{Stays, as_doubled}
use Rattle.ck_words.specs.Renewing.{HasRenewed, HasRefused}
use Rattle.ck_words.specs.Closing.{IsWhole}
use Rattle.ck_words.proofs.Staying.{stays_same, stays_then}
use Rattle.ck_words.proofs.Reversed.{held_reverse}
use Rattle.ck_words.proofs.WholeTables.{lawful_held}
use Rattle.ck_words.proofs.Renewals.{renewed_none, renewed_then}
use Rattle.ck_words.proofs.Seating.{numbers-contents}
use Rattle.cuckoo_map.specs.declared.locking.Spot.{Spot}
use Rattle.cuckoo_map.specs.declared.room.Room.{Room}
use Rattle.cuckoo_map.specs.Holding.{HasSpot}
use Rattle.cuckoo_map.specs.Refusals.{SaysOf, reason_of, GivesGrounds, ShowsWhy, IsRefused}
use Rattle.ck_refusal.specs.Faults.{why_of}
use Rattle.cuckoo_map.specs.Needed.{NeedsToGrow, HasGrownFor, HaveOnePower, HoldsGrown}
use Rattle.cuckoo_map.specs.Insertions.{HoldsRoom, HasRoom, HasRoomInAll}
use Rattle.cuckoo_map.proofs.Counted.{one_of_lawful, told_first, stays_counting, holds_alike, grown_since}
use Rattle.cuckoo_map.proofs.Sizes.{holds_each}
use Rattle.cuckoo_map.proofs.Sessions.{after_all}

-- the reason of a refusal for a lack is that of the lack
reason_same : (l : lack.Lack) → reason_of (why_of l) ≡ reason_of_lack l
reason_same Memory = refl
reason_same Full = refl
reason_same LoadTooLow = refl

module _ {V : Type 0} where
  -- lawful stripes in which room was made for a name have an entry of it
  pub has_entry : {hash : Name → ℕ} {q : Name} (set : Settings) (ss ss2 : List (StripeState V)) → Lawful (layout_of hash set) (contents_of ss) → KeepsBindings (layout_of hash set) ss ss2 → MakesRoom (layout_of hash set) ss ss2 q
      → (s : ℕ) (stripes : List (StripeState V)) → s ≡ set.s → contents_of stripes ≡ contents_of ss2 → ¬ (IsWithoutRoom hash s stripes q)
  has_entry {hash} {q} set ss ss2 lawful keeps made s stripes of_table kept none =
      let Without : ℕ → Stripes V → Type 0 = λ n hs. (max : ℕ) → Lawful (layout hash n max) hs → HasNoRoom (layout hash n max) hs q in
      let here : Without set.s (contents_of ss2) = subst (λ (x : ℕ × Stripes V). Without x.0 x.1) (λ i. (of_table i, kept i)) none in
      made lawful (here set.max (keeps lawful).renewed.lawful)

  shows_lack : (hash : Name → ℕ) (set : Settings) (q : Name) (l : lack.Lack) (more : List (RoomNote V)) (p z : PassState V) → GivesGrounds hash set q (reason_of_lack l) more p z → ShowsWhy hash set q (why_of l) more p z
  shows_lack hash set q Memory more p z g = g
  shows_lack hash set q Full more p z g = g
  shows_lack hash set q LoadTooLow more p z g = g

  -- The name has an entry among its stripes, which were taken as p1, and are as they were in z.
  pub room_as_taken : {hash : Name → ℕ} {set : Settings} {q : Name} {spot : Spot} (p p1 z : PassState V) → HasSpot hash set q spot p p1
      → (entry : Entry) → IsEntryOf hash p1.stripes q spot.place entry → z.stripes ≡ p1.stripes → z.view ≡ p1.view → HasRoom hash set q (record { spot = spot; entry = entry }) p z
  room_as_taken {hash} {set} {q} {spot} p p1 z has entry is same view =
      let held = has.holds in
      let Held : View V → List (StripeState V) → Type 0 = λ v ss. contents_of ss ≡ reverse v.held in
      let unchanged : IsUnchanged z = subst (λ (x : View V × List (StripeState V)). Held x.0 x.1) (λ j. (sym view j, sym same j)) held.unchanged in
      record {
        more = [];
        own = All-nil _;
        stays = subst (Stays p.view) (sym view) held.stays;
        held = record {
          at = subst (λ (ss : List (StripeState V)). IsPlaceOf hash ss q spot.place) (sym same) held.at;
          s = held.s;
          of_table = has.of_table;
          numbered = ap (λ (ss : List (StripeState V)). numbers_of ss) same ∙ has.numbered;
          entry = subst (λ (ss : List (StripeState V)). IsEntryOf hash ss q spot.place entry) (sym same) is;
          no_spare = subst (λ (ss : List (StripeState V)). HaveNoSpare ss) (sym same) has.settled.no_spare;
          renewed = renewed_none hash set z unchanged;
          grown = holds_alike z unchanged (subst (λ (ss : List (StripeState V)). HaveOnePower ss) (sym same) held.one_power);
        };
      }

  -- All stripes were taken from p to p1, and are held as p2 since.
  module _ (p p1 p2 : PassState V) (stays : Stays p.view p1.view) (same : p2.view ≡ p1.view) where
    stays_there : Stays p.view p2.view
    stays_there = subst (Stays p.view) (sym same) stays

    -- room was made among them
    pub room_there : {hash : Name → ℕ} {set : Settings} {q : Name} {r : Room} → HoldsRoom hash set q r p2 → HasRoom hash set q r p p2
    room_there held = record { more = []; own = All-nil _; stays = stays_there; held = held }

    -- none could be made, and they went home
    pub refused_there : (hash : Name → ℕ) (set : Settings) (q : Name) (w : WordsState) (l : lack.Lack) (z : PassState V) → HasRefused w q (reason_of_lack l) (as_doubled p2 z) z → GivesGrounds hash set q (reason_of_lack l) (noted q (reason_of_lack l) (contents_of p2.stripes) ∷ []) p z → HasGrownFor hash set q p2 z → IsRefused hash set q (why_of l) p z
    refused_there hash set q w l z r grounds grown =
        let why : Reason = reason_of_lack l in
        let note : RoomNote V = noted q why (contents_of p2.stripes) in
        let Own : RoomNote V → Type 0 = λ x. SaysOf q NoRoom x ⊎ SaysOf q (reason_of (why_of l)) x in
        record {
          more = note ∷ [];
          stays = stays_then [] (note ∷ []) (as_doubled p z).view (as_doubled p2 z).view z.view (stays_counting z.view stays_there) r.stays;
          own = All-cons Own note [] (inr (refl, sym (reason_same l))) (All-nil Own);
          shown = shows_lack hash set q l (note ∷ []) p z grounds;
          grown = grown_since p p2 z stays_there grown;
        }

  -- All stripes were taken as p1, where w and v are one table.
  module _ {hash : Name → ℕ} {w v : WordsState} {set : Settings} (is : v ≡ w) (value : set ≡ v.settings) (q : Name) (p1 : PassState V) (whole : IsWhole hash w.settings p1) where
    set_is : set ≡ w.settings
    set_is = value ∙ ap (λ (x : WordsState). x.settings) is

    abbrev k : Layout
    k = layout_of hash set

    pub lawful_taken : Lawful k (contents_of p1.stripes)
    lawful_taken = subst (λ (x : Settings). Lawful (layout_of hash x) (contents_of p1.stripes)) (sym set_is) (lawful_held hash w.settings p1 whole)

    pub table_there : IsTable w.settings.s p1.stripes → IsTable set.s p1.stripes
    table_there table = subst (λ (x : Settings). IsTable x.s p1.stripes) (sym set_is) table

    -- and are p2 since
    module _ (p2 : PassState V) (same : p2.view ≡ p1.view) (keeps : KeepsBindings k p1.stripes p2.stripes) where
      pub renewed_there : HasRenewed hash w.settings p2
      renewed_there = renewed_then hash w.settings p1 p2 (ap (λ (x : View V). x.held) same) (renewed_none hash w.settings p1 whole.unchanged)
          (subst (λ (x : Settings). KeepsBindings (layout_of hash x) p1.stripes p2.stripes) set_is keeps)

      -- what is lacked is the reason to refuse the name
      pub grounds_there : (l : lack.Lack) → GivesReason k set.min_load p1.stripes p2.stripes q l
          → Lawful (layout_of hash w.settings) (reverse p2.view.held) → Grounds (layout_of hash w.settings) w.settings.min_load (contents_of p2.stripes) q (reason_of_lack l)
      grounds_there l refused held = subst (λ (x : Settings). Grounds (layout_of hash x) x.min_load (contents_of p2.stripes) q (reason_of_lack l)) set_is (refused lawful_taken)

      -- they doubled for want of room for the name alone
      pub grown_there : p1.view.settings ≡ w.settings → IsTable w.settings.s p1.stripes → IsTable set.s p2.stripes → GrowsForRoom k set.min_load p1.stripes p2.stripes q → HoldsGrown hash w.settings q p2
      grown_there of table table2 grows =
          let as_taken : contents_of p1.stripes ≡ reverse p2.view.held = whole.unchanged ∙ ap (λ (v : View V). reverse v.held) (sym same) in
          let some : 0 < length p1.stripes = subst (λ n. 0 < n) (sym table.count) (pow_pos w.settings.s) in
          let first : power_of (contents_of p1.stripes) ≡ power_in p1.stripes = power_shown p1.stripes some in
          let last : power_of (contents_of p2.stripes) ≡ power_in p2.stripes = power_shown p2.stripes (subst (λ n. 0 < n) (sym table2.count) (pow_pos set.s)) in
          let taken : power_of (reverse p2.view.held) ≡ power_in p1.stripes = ap (λ (hs : Stripes V). power_of hs) (sym as_taken) ∙ first in
          let old : Lawful k (reverse p2.view.held) = subst (λ (hs : Stripes V). Lawful k hs) as_taken lawful_taken in
          record {
            before = λ t c h. one_of_lawful k (reverse p2.view.held) old t c (held_reverse p2.view.held t c h);
            now = one_of_lawful k (contents_of p2.stripes) (keeps lawful_taken).renewed.lawful;
            after = λ l. subst (λ (v : View V). After v.seen (bindings (reverse v.held))) (sym same) (after_all hash w p1 p1 (stays_same p1.view) whole);
            all = λ l. subst (λ (v : View V). (v.settings ≡ w.settings) × ((t : ℕ) → t < 2 ^ w.settings.s → IsIn t (numbers v.held))) (sym same) (of, holds_each hash w.settings p1 whole);
            told = λ l. (let here = told_first p1 whole some in let same_told : p2.view.told ≡ p1.view.told = ap (λ (v : View V). v.told) same in omega arith);
            needed = λ power least below.
                subst (λ (x : Settings × Stripes V). NeedsToGrow hash x.0 q x.1 power) (λ j. (set_is j, as_taken j))
                (grows lawful_taken power (let l : power_in p1.stripes ≤ power = omega arith in l) (let l : power < power_in p2.stripes = omega arith in l));
          }

      -- there is room for the name among them, and they are settled
      pub room_in_all : (p : PassState V) → Stays p.view p1.view → AreAllHeld set.s p2.stripes → MakesRoom k p1.stripes p2.stripes q → p1.view.settings ≡ w.settings → IsTable w.settings.s p1.stripes → GrowsForRoom k set.min_load p1.stripes p2.stripes q → HasRoomInAll hash w.settings q p p2
      room_in_all p stays held makes of table grows =
          let there : AreAllHeld w.settings.s p2.stripes = subst (λ (x : Settings). AreAllHeld x.s p2.stripes) set_is held in
          record {
            stays = subst (Stays p.view) (sym same) stays;
            numbered = sym (numbers-contents p2.stripes) ∙ ((keeps lawful_taken).renewed.same ∙ (numbers-contents p1.stripes ∙ whole.all));
            all = there;
            taken = subst (λ (x : Settings × Stripes V). Lawful (layout_of hash x.0) x.1) (λ j. (set_is j, (whole.unchanged ∙ ap (λ (v : View V). reverse v.held) (sym same)) j)) lawful_taken;
            renewed = renewed_there;
            grown = grown_there of table held.table grows;
            room = subst (λ (x : Settings). ¬ (HasNoRoom (layout_of hash x) (contents_of p2.stripes) q)) set_is (makes lawful_taken);
          }
