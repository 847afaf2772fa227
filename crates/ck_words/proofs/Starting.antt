-- The rule holds of a table as it is opened.
use Rattle.std.proofs.Common.{◌≡◌, ℕ, zero, suc, pred, ◌+◌, ◌-◌, ◌*◌, ◌^◌, ◌<◌, ◌≤◌, List, [], ◌∷◌, ◌++◌, map, length, replicate, sym, refl, ap, ◌∙◌, subst, ⊎_elim, arith, add-one, Some, length-append}
use mathlib.Core.Option.{none, some, some-injective, some-ne-none}
use mathlib.Core.Option as maybe
use lib.ListN.{get_elem?, length-replicate}
use mathlib.Core.Logic.{dite}
use native.Mathlib.Decide.{ℕ_discrete}
use Rattle.std.specs.FinMap.{empty, get, find}
use Rattle.std.proofs.lemmas.Option.{none-some}
use Rattle.std.specs.FinMap.{find, get, empty, get-empty}
use Rattle.atomic_table.specs.Table.{opening}
use Rattle.atomic_table.proofs.Lists.{at_last}
use Rattle.ck_model.specs.declared.settings.Settings.{Settings}
use Rattle.ck_model.specs.declared.contents.Content.{Content}
use Rattle.ck_model.specs.Promise.{Name, name_cmp}
use Rattle.ck_model.specs.Ranges.{AreInRange}
use Rattle.ck_model.specs.Numbered.{IsIn, AreDistinct, Holds}
use Rattle.ck_model.specs.Contents.{Layout, layout_of, empty_content, Binds, bindings, IsSound, Lawful, whole}
use Rattle.ck_model.proofs.Numbered.{Some-injective, same_option, in_listed, distinct_listed}
use Rattle.ck_model.proofs.Names.{maps_alike}
use Rattle.ck_model.proofs.Found.{bound_where}
use Rattle.ck_model.proofs.Fresh.{no_pairs}
use Rattle.ck_stripe.specs.Stripe.{StripeState}
use Rattle.ck_stripe.proofs.Writes.{sound_empty}
use Rattle.ck_core.specs.declared.view.View.{View}
use Rattle.ck_core.specs.State.{Configuration, HistoryInvariant}
use Rattle.ck_core.specs.Steps.{Opening, initial_view}
use Rattle.ck_core.proofs.Lists.{at_snoc, at_longer}
use Rattle.ck_core.proofs.Openings.{opens}
use Rattle.ck_words.specs.Rule.{StripeSlot, IsAtHome, IsKept, RuleOf, lying, first_view}
use Rattle.ck_model.specs.Counting.{counting}
use Rattle.ck_words.specs.Opening.{fresh, fresh_slots}
use Rattle.ck_words.proofs.Spacing.{spaced-zeros}
use Rattle.ck_words.proofs.Reversed.{map-append}

in_counting : (n a m : ℕ) → IsIn m (counting a n) → (a ≤ m) × (m < a + n)
in_counting zero a m h = absurd h
in_counting (suc n) a m h = ⊎_elim (λ e. (omega arith, omega arith)) (λ r. let z = in_counting n (suc a) m r in (omega arith, omega arith)) h

distinct_counting : (n a : ℕ) → AreDistinct (counting a n)
distinct_counting zero a = tt
distinct_counting (suc n) a = ((λ h. let z = in_counting n (suc a) a h in omega arith), distinct_counting n (suc a))

module _ (V : Type 0) (hash : Name → ℕ) (set : Settings) (range : AreInRange set) where
  abbrev nothing : Content V
  nothing = empty_content set.s set.power

  abbrev slots_of : ℕ → List (maybe.Option (StripeSlot V))
  slots_of n = map some (fresh_slots set n)

  length-slots_of : (n : ℕ) → length (slots_of n) ≡ n
  length-slots_of zero = refl
  length-slots_of (suc n) = ap length (map-append some (fresh_slots set n) (Some (fresh set n) ∷ [])) ∙ (length-append (slots_of n) (some (Some (fresh set n)) ∷ []) ∙ (let e = length-slots_of n in omega arith))

  slots-next : (n : ℕ) → slots_of (suc n) ≡ slots_of n ++ some (Some (fresh set n)) ∷ []
  slots-next n = map-append some (fresh_slots set n) (Some (fresh set n) ∷ [])

  slot_there : (n t : ℕ) → t < n → get_elem? (slots_of n) t ≡ some (some (Some (fresh set t)))
  slot_there zero t l = absurd (omega arith)
  slot_there (suc n) t l = ap (λ (hs : List (maybe.Option (StripeSlot V))). get_elem? hs t) (slots-next n) ∙ dite (ℕ_discrete n t)
      (λ e. subst (λ m. get_elem? (slots_of n ++ some (Some (fresh set n)) ∷ []) t ≡ some (some (Some (fresh set m)))) e (at_last (slots_of n) (some (Some (fresh set n))) t (length-slots_of n ∙ e)))
      (λ ne. at_longer (slots_of n) (some (Some (fresh set n)) ∷ []) t (some (Some (fresh set t))) (slot_there n t (omega arith)))

  at_map : (hs : List (maybe.Option (StripeSlot V))) (t : ℕ) (x : maybe.Option (StripeSlot V)) → get_elem? hs t ≡ some x → get_elem? (map lying hs) t ≡ some (lying x)
  at_map [] t x e = absurd (some-ne-none x (sym e))
  at_map (h ∷ hs) zero x e = ap (λ (y : maybe.Option (StripeSlot V)). some (lying y)) (some-injective h x e)
  at_map (h ∷ hs) (suc t) x e = at_map hs t x e

  length-map : (hs : List (maybe.Option (StripeSlot V))) → length (map lying hs) ≡ length hs
  length-map [] = refl
  length-map (h ∷ hs) = ap suc (length-map hs)

  home_all : (n t : ℕ) (stripe : StripeState V) → get_elem? (slots_of n) t ≡ some (some (Some stripe)) → IsAtHome set.s t stripe
  home_all zero t stripe e = absurd (some-ne-none (some (Some stripe)) (sym e))
  home_all (suc n) t stripe e = ⊎_elim
      (λ (h : (t ≡ length (slots_of n)) × (some (Some (fresh set n)) ≡ some (Some stripe))). subst (λ (x : ℕ × StripeState V). IsAtHome set.s x.0 x.1) (λ i. ((sym (length-slots_of n) ∙ sym h.0) i, Some-injective (fresh set n) stripe (some-injective (Some (fresh set n)) (Some stripe) h.1) i)) (refl, refl, refl))
      (λ (h : get_elem? (slots_of n) t ≡ some (some (Some stripe))). home_all n t stripe h)
      (at_snoc (slots_of n) (some (Some (fresh set n))) (some (Some stripe)) t (ap (λ (hs : List (maybe.Option (StripeSlot V))). get_elem? hs t) (sym (slots-next n)) ∙ e))

  abbrev k : Layout
  k = layout_of hash set

  binds_nothing : (q : Name) (v : V) → ¬ (Binds nothing q v)
  binds_nothing q v b = absurd (none-some v (ap (find name_cmp q) (sym (no_pairs (2 ^ (set.power - set.s)))) ∙ b))

  all_nothing : (t : ℕ) (c : Content V) → Holds (whole k (λ _. nothing)) t c → (t < 2 ^ set.s) × (nothing ≡ c)
  all_nothing t c h = in_listed (2 ^ set.s) (λ _. nothing) t c h

  empty_lawful : Lawful k (whole k (λ _. nothing))
  empty_lawful = record {
    distinct = distinct_listed (2 ^ set.s) (λ _. nothing);
    sound = λ t c h. let i = all_nothing t c h in subst (IsSound k t) i.1 (sound_empty k t set.s set.power refl i.0 range.stripes_fit range.growth);
    once = λ t u c d q v w h g b e. let i = all_nothing t c h in absurd (binds_nothing q v (subst (λ x. Binds x q v) (sym i.1) b));
    one_power = λ t u c d h g. ap (λ (x : Content V). x.power) (sym (all_nothing t c h).1 ∙ (all_nothing u d g).1);
  }

  binds_none : bindings (whole k (λ _. nothing)) ≡ empty
  binds_none = maps_alike (bindings (whole k (λ _. nothing))) empty
      (λ q. same_option (get (bindings (whole k (λ _. nothing))) q) (get empty q)
      (λ v e. let z = bound_where (whole k (λ _. nothing)) q v e in let i = all_nothing z.0 z.1 z.2 in absurd (binds_nothing q v (subst (λ x. Binds x q v) (sym i.1) z.3)))
      (λ v e. absurd (none-some v (sym (get-empty name_cmp q) ∙ e))))

  first_apart : AreDistinct (0 ∷ counting 1 (pred set.callers))
  first_apart = ((λ h. let z = in_counting (pred set.callers) 1 0 h in omega arith), distinct_counting (pred set.callers) 1)

  first_within : (m : ℕ) → IsIn m (0 ∷ counting 1 (pred set.callers)) → (m < set.callers) × (◌≡◌ {A = ℕ} 0 0)
  first_within m h = let some_caller = range.caller in (⊎_elim (λ e. omega arith) (λ r. let z = in_counting (pred set.callers) 1 m r in omega arith) h, refl)

  abbrev begun_world : List ℕ → Configuration V
  begun_world ws = record { words = ws; homes = map lying (slots_of (2 ^ set.s)); views = first_view set ∷ []; trace = [] }

  views : (ws : List ℕ) (j : ℕ) (v : View V) → get_elem? (first_view set ∷ []) j ≡ some v → (ms : List ℕ) × (v ≡ initial_view set j set.power ms) × AreDistinct (j ∷ ms) × ((m : ℕ) → IsIn m (j ∷ ms) → (m < set.callers) × (0 ≡ j))
  views ws zero v e = (counting 1 (pred set.callers), sym (some-injective (first_view set) v e), first_apart, first_within)
  views ws (suc j) v e = absurd (some-ne-none v (sym e))

  begins : Opening k set set.callers set.power (begun_world (replicate (2 ^ set.s) 0))
  begins = record {
    words = refl;
    no_step = refl;
    homes_sized = length-map (slots_of (2 ^ set.s)) ∙ length-slots_of (2 ^ set.s);
    homes = λ t l. at_map (slots_of (2 ^ set.s)) t (some (Some (fresh set t))) (slot_there (2 ^ set.s) t l);
    lawful = empty_lawful;
    empty_whole = binds_none;
    keeper = λ _. 0;
    views = views (replicate (2 ^ set.s) 0);
  }

  -- words 0 and empty stripes
  pub starts : (ws : List ℕ) (xs : List (StripeSlot V)) → ws ≡ replicate (2 ^ set.s * 8) 0 → xs ≡ fresh_slots set (2 ^ set.s) → RuleOf hash set (opening ws xs (first_view set))
  starts ws xs zeros is =
      let kept : IsKept k set.callers [] (opening (replicate (2 ^ set.s * 8) 0) (fresh_slots set (2 ^ set.s)) (first_view set)) = record {
        trace = [];
        law = subst (λ l. HistoryInvariant k set.callers [] (begun_world l)) (sym (spaced-zeros (2 ^ set.s))) (opens k set set.callers set.power (begun_world (replicate (2 ^ set.s) 0)) begins);
        words_sized = length-replicate (2 ^ set.s * 8) 0;
        at_home = home_all (2 ^ set.s);
      } in
      ([], subst (λ (x : List ℕ × List (StripeSlot V)). IsKept k set.callers [] (opening x.0 x.1 (first_view set))) (λ i. (sym zeros i, sym is i)) kept)

pub length-fresh : {V : Type 0} (set : Settings) (n : ℕ) (xs : List (StripeSlot V)) → xs ≡ fresh_slots set n → length xs ≡ n
length-fresh {V} set n xs e = ap length e ∙ count n
  where
    count : (n : ℕ) → length (fresh_slots {V = V} set n) ≡ n
    count zero = refl
    count (suc n) = length-append (fresh_slots {V = V} set n) (Some (fresh set n) ∷ []) ∙ (let h = count n in omega arith)

pub fresh-next : {V : Type 0} (set : Settings) (n : ℕ) (xs ys : List (StripeSlot V)) (stripe : StripeState V) → xs ≡ fresh_slots set n → stripe ≡ fresh set n → ys ≡ xs ++ Some stripe ∷ [] → ys ≡ fresh_slots set (n + 1)
fresh-next {V} set n xs ys stripe old is new = new ∙ ((λ i. old i ++ Some (is i) ∷ []) ∙ ap (fresh_slots {V = V} set) (sym (add-one n)))
