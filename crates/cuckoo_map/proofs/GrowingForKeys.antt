-- All stripes, where they have too little room for keys: they are kept, doubled once or given back.
use Rattle.std.proofs.Common.{◌≡◌, ℕ, ◌+◌, ◌<◌, ◌^◌, List, reverse, Result, Ok, Err, OnOk, OnErr, refl, sym, ap, ◌∙◌, subst, arith}
use Rattle.ck_model.specs.Counting.{counting}
use Rattle.ck_model.specs.declared.lack.Lack.{Lack}
use Rattle.ck_model.specs.declared.lack.Lack.TheVariants.{Memory, Full, LoadTooLow}
use Rattle.ck_model.specs.declared.settings.Settings.{Settings}
use Rattle.ck_model.specs.Promise.{Name}
use Rattle.ck_model.specs.Contents.{layout, layout_of, Lawful}
use Rattle.ck_stripe.specs.Stripe.{StripeState}
use Rattle.ck_stripe.specs.Stripes.{contents_of, settled_stripes}
use Rattle.ck_stripe.specs.Tables.{AreAllHeld, IsTable, power_in}
use Rattle.ck_stripe.proofs.Settled.{contents_settled, all_settled}
use Rattle.ck_section.specs.Doublings.{Grows}
use Rattle.ck_section.specs.Room.{IsLack}
use Rattle.ck_section.specs.RoomForAll.{HasRoomForAll}
use Rattle.ck_section.proofs.Kept.{has_both}
use Rattle.ck_section.proofs.Tables.{held_of}
use Rattle.ck_core.specs.declared.view.View.{View}
use Rattle.ck_core.specs.Laws.{Shows}
use Rattle.ck_words.specs.declared.stripe_set.StripeSet.{StripeSet}
use Rattle.ck_words.specs.StripeSets.{list_of}
use Rattle.ck_words.specs.Words.{WordsState}
use Rattle.ck_words.specs.Passes.{PassState, IsPassOf, IsUnchanged, numbers_of}
use Rattle.ck_words.specs.Retries.{Stays, as_doubled}
use Rattle.ck_words.specs.Holding.{HasReleased, IsToldPower, IsDoubledBy}
use Rattle.ck_words.specs.Renewing.{HasRenewed}
use Rattle.ck_words.specs.Closing.{IsCaller, IsWhole}
use Rattle.ck_words.proofs.AreHeld.{numbers_settled}
use Rattle.ck_words.proofs.Renewals.{renewed_none}
use Rattle.ck_words.proofs.WholeTables.{lawful_held}
use Rattle.ck_refusal.specs.Faults.{why_of}
use Rattle.cuckoo_map.specs.SeveralKeys.{HoldsNames}
use Rattle.cuckoo_map.specs.RoomForKeys.{HoldsTooLittle, GrowsForAll, IsNotGrown}
use Rattle.cuckoo_map.proofs.Counted.{changes_none, none_made, one_power_table, released_alike}
use Rattle.cuckoo_map.proofs.Growing.{renewed_there, stays_home, told_since, counted_since, noted_since}

module _ {V : Type 0} where
  -- Since p the pass has taken all stripes, and has settled them.
  pub record HoldsAll (hash : Name → ℕ) (set : Settings) (p p2 : PassState V) : Type 0 where
    pub stays : Stays p.view p2.view
    pub whole : IsWhole hash set p2
    pub all : AreAllHeld set.s p2.stripes

  -- they were taken as p1
  pub taken_all : {hash : Name → ℕ} {set : Settings} (p p1 p2 : PassState V) → Stays p.view p1.view → IsWhole hash set p1 → IsTable set.s p1.stripes → p2.view ≡ p1.view → p2.stripes ≡ settled_stripes p1.stripes → HoldsAll hash set p p2
  taken_all {hash} {set} p p1 p2 stays whole table view settled = record {
    stays = subst (Stays p.view) (sym view) stays;
    whole = record {
      all = ap (λ (ss : List (StripeState V)). numbers_of ss) settled ∙ (numbers_settled p1.stripes ∙ whole.all);
      unchanged = ap (λ (ss : List (StripeState V)). contents_of ss) settled ∙ (contents_settled p1.stripes ∙ (whole.unchanged ∙ ap (λ (v : View V). reverse v.held) (sym view)));
      shows = subst (λ (v : View V). Shows (layout_of hash set) set.callers v.seen v) (sym view) whole.shows;
    };
    all = subst (λ (ss : List (StripeState V)). AreAllHeld set.s ss) (sym settled) (all_settled set.s p1.stripes table);
  }

  -- they are the same since
  pub holds_alike_all : {hash : Name → ℕ} {set : Settings} {p p2 : PassState V} (p3 : PassState V) → HoldsAll hash set p p2 → p3.view ≡ p2.view → p3.stripes ≡ p2.stripes → HoldsAll hash set p p3
  holds_alike_all {hash} {set} {p} {p2} p3 h view same = record {
    stays = subst (Stays p.view) (sym view) h.stays;
    whole = record {
      all = ap (λ (ss : List (StripeState V)). numbers_of ss) same ∙ h.whole.all;
      unchanged = ap (λ (ss : List (StripeState V)). contents_of ss) same ∙ (h.whole.unchanged ∙ ap (λ (v : View V). reverse v.held) (sym view));
      shows = subst (λ (v : View V). Shows (layout_of hash set) set.callers v.seen v) (sym view) h.whole.shows;
    };
    all = subst (λ (ss : List (StripeState V)). AreAllHeld set.s ss) (sym same) h.all;
  }

  -- they were taken as p1, settled as p2, and are the same since
  pub settled_all : {hash : Name → ℕ} {set : Settings} (p p1 p2 p3 : PassState V) → Stays p.view p1.view → IsWhole hash set p1 → IsTable set.s p1.stripes → p2.view ≡ p1.view → p2.stripes ≡ settled_stripes p1.stripes
      → p3.view ≡ p2.view → p3.stripes ≡ p2.stripes → HoldsAll hash set p p3
  settled_all p p1 p2 p3 stays whole table view settled still same = holds_alike_all p3 (taken_all p p1 p2 stays whole table view settled) still same

  module _ {hash : Name → ℕ} {set : Settings} {p p2 : PassState V} (h : HoldsAll hash set p p2) (qs : List Name) where
    -- the stripes of some names are among them
    pub holds_names : (stripes : StripeSet) → stripes.s ≡ set.s → list_of stripes ≡ counting 0 (2 ^ set.s) → HoldsNames hash set qs stripes p p2
    holds_names stripes of all = record {
      stays = h.stays;
      owned = λ q i. has_both set.s p2.stripes h.all hash q;
      of_table = of;
      numbered = h.whole.all ∙ sym all;
      settled = held_of set.s p2.stripes h.all;
      unchanged = h.whole.unchanged;
      shows = h.whole.shows;
    }

    -- they have too little room for the names
    pub too_little : {s : ℕ} → s ≡ set.s → ((max : ℕ) → Lawful (layout hash s max) (contents_of p2.stripes) → ¬ (HasRoomForAll (layout hash s max) (contents_of p2.stripes) qs))
        → (lack : Lack) → IsLack set.max set.min_load p2.stripes lack → HoldsTooLittle hash set qs lack p p2
    too_little of none lack is = record {
      stays = h.stays;
      whole = h.whole;
      no_room = subst (λ n. (max : ℕ) → Lawful (layout hash n max) (contents_of p2.stripes) → ¬ (HasRoomForAll (layout hash n max) (contents_of p2.stripes) qs)) of none set.max (lawful_held hash set p2 h.whole);
      reason = is;
    }

-- All stripes were held as p1, and as p2 when they were to double. v and w are one table.
module _ {V : Type 0} {hash : Name → ℕ} {v w : WordsState} (is : v ≡ w) {p p1 : PassState V} (h : HoldsAll hash w.settings p p1) (p2 : PassState V) (view : p2.view ≡ p1.view) where
  grown : Grows hash w.settings.s p1.stripes p2.stripes → power_in p1.stripes < w.settings.max → HasRenewed hash w.settings p2
  grown grows below = renewed_there {v = w} {w = w} refl p1 p2 view {power = power_in p1.stripes + 1} refl (omega (arith, below)) h.whole (λ max le. grows.no_call max (omega (arith, le)))

  ungrown : p2.stripes ≡ p1.stripes → HasRenewed hash w.settings p2
  ungrown same =
      let unchanged : IsUnchanged p2 = ap (λ (ss : List (StripeState V)). contents_of ss) same ∙ (h.whole.unchanged ∙ ap (λ (u : View V). reverse u.held) (sym view)) in
      renewed_none hash w.settings p2 unchanged

  -- they doubled or are as they were
  pub renewed_either : (o : Result (Unit {0}) Lack) → OnOk o (Grows hash w.settings.s p1.stripes p2.stripes) → OnOk o (IsLack w.settings.max w.settings.min_load p1.stripes Memory) → OnErr o (p2.stripes ≡ p1.stripes) → HasRenewed hash v.settings p2
  renewed_either o grows may same = subst (λ (x : WordsState). HasRenewed hash x.settings p2) (sym is) (either o grows may same)
    where
      either : (o : Result (Unit {0}) Lack) → OnOk o (Grows hash w.settings.s p1.stripes p2.stripes) → OnOk o (IsLack w.settings.max w.settings.min_load p1.stripes Memory) → OnErr o (p2.stripes ≡ p1.stripes) → HasRenewed hash w.settings p2
      either (Ok done) grows may same = grown grows may.0
      either (Err lack) grows may same = ungrown same

  -- and it was z when they had gone home
  module _ (z : PassState V) (released : HasReleased v (as_doubled p2 z) z) where
    pub caller_home : IsCaller w p → IsCaller w z
    caller_home caller = record {
      own = subst (λ (x : WordsState). IsPassOf x z) is released.own;
      idle = released.idle;
      alone = released.stays.others ∙ (ap (λ (u : View V). u.others) view ∙ (h.stays.others ∙ caller.alone));
      number = (caller.number.0, released.stays.by ∙ (ap (λ (u : View V). u.by) view ∙ (h.stays.by ∙ caller.number.1)), caller.number.2);
    }

    pub grows_for_all : (qs : List Name) → HoldsTooLittle hash w.settings qs Memory p p1 → Grows hash w.settings.s p1.stripes p2.stripes → power_in p2.stripes ≡ power_in p1.stripes + 1 → IsToldPower p2 z → IsDoubledBy p2 z → GrowsForAll hash w.settings qs p z
    grows_for_all qs little grows next told doubled =
        let renewed : HasRenewed hash w.settings p2 = grown grows little.reason.0 in
        let since = told_since p p1 p2 z h.stays h.whole h.all.table view told in
        let count = counted_since p p1 p2 z h.stays h.whole h.all.table view told renewed h.stays.doublings doubled in
        record {
          held = p1;
          too_little = little;
          stays = stays_home is p1 p2 view p z h.stays released;
          made = omega (arith, count, next);
          noted = noted_since p p1 p2 z h.stays h.whole h.all.table view told renewed h.stays.grown_from doubled (omega (arith, next));
          told = omega (arith, since.0, since.1, since.2, next);
        }

    pub not_grown : (qs : List Name) → p2.stripes ≡ p1.stripes → IsDoubledBy p2 z → (lack : Lack) → HoldsTooLittle hash w.settings qs lack p p1 → IsNotGrown hash w.settings qs (why_of lack) p z
    not_grown qs same doubled lack little = as_lack lack little
      where
        stays_back : Stays p1.view z.view
        stays_back =
            let none = none_made p1 p2 z view (changes_none p1.stripes p2.stripes same) doubled h.whole.unchanged (one_power_table hash w.settings p1 h.whole) in
            subst (λ (u : View V). Stays u z.view) view (released_alike p2 z released none).stays

        as_lack : (l : Lack) → HoldsTooLittle hash w.settings qs l p p1 → IsNotGrown hash w.settings qs (why_of l) p z
        as_lack Memory little = (p1, little, stays_back)
        as_lack Full little = (p1, little, stays_back)
        as_lack LoadTooLow little = (p1, little, stays_back)
