-- The example run is one that the steps allow.
use Rattle.std.proofs.Common.{◌≡◌, ℕ, zero, suc, ◌+◌, ◌*◌, ◌<◌, inl, inr, List, [], ◌∷◌, ◌++◌, take, drop, length, get_or, cond, sym, refl, ap, ◌∙◌, subst, ⊎_elim, arith, Option, Some, None}
use Rattle.std.proofs.lemmas.Option.{none-some, same_Some}
use mathlib.Core.Option.{some, some-injective, some-ne-none}
use lib.ListN.{get_elem?}
use Rattle.std.specs.FinMap.{find, get, empty, get-empty}
use Rattle.ck_model.specs.declared.history.Act.TheVariants.{Find, Insert}
use Rattle.ck_model.specs.declared.history.Reply.TheVariants.{Was, New}
use Rattle.ck_model.specs.declared.history.Entry.{Entry}
use Rattle.ck_model.specs.declared.contents.Content.{Content}
use Rattle.ck_model.specs.Promise.{Name, name_cmp, Answers}
use Rattle.ck_model.specs.Numbered.{IsIn, AreDistinct, numbers, Holds}
use Rattle.ck_model.specs.Slots.{Slot, slot_at}
use Rattle.ck_model.specs.Contents.{Layout, Binds, bindings, row_at, IsSound, Lawful}
use Rattle.ck_model.specs.Sections.{Renewed, Section}
use Rattle.ck_model.specs.Arithmetic.{index_of}
use Rattle.ck_model.proofs.Names.{maps_alike, no_name}
use Rattle.ck_model.proofs.Found.{get-bindings}
use Rattle.ck_model.proofs.Belongs.{stripe_below}
use Rattle.ck_core.specs.declared.view.View.{View}
use Rattle.ck_core.specs.State.{Configuration}
use Rattle.ck_core.specs.Steps.{Label, initial_view, grown, Execution}
use Rattle.ck_core.specs.Example.{first_number, two_stripes, settings, zero_name, insertion, look_up, stripe, empty_stripe, full_stripe, both, first, second, start, one_held, decided, both_held, finish, steps, ExampleOpens, ExampleRuns}

zero_bucket : 0 ≡ index_of 1 0
unfolding index_of
zero_bucket = refl

-- what the slots of a stripe with this first slot have
first_slot : (o : Slot ℕ) (n r i : ℕ) (q : Name) (v : ℕ) → slot_at (row_at (stripe o n).rows r) i ≡ Some (q, v) → (r ≡ 0) × (o ≡ Some (q, v))
first_slot o n zero zero q v e = (refl, e)
first_slot o n zero (suc zero) q v e = absurd (none-some (q, v) e)
first_slot o n zero (suc (suc zero)) q v e = absurd (none-some (q, v) e)
first_slot o n zero (suc (suc (suc zero))) q v e = absurd (none-some (q, v) e)
first_slot o n zero (suc (suc (suc (suc i)))) q v e = absurd (none-some (q, v) e)
first_slot o n (suc r) i q v e = absurd (none-some (q, v) e)

four : (o : Slot ℕ) (k : ℕ) (d : List (Slot ℕ)) → k < 1 → length (get_or ((o ∷ None ∷ None ∷ None ∷ []) ∷ []) k d) ≡ 4
four o zero d l = refl
four o (suc k) d l = absurd (omega arith)

pub empty_sound : (t : ℕ) → t < 2 → IsSound two_stripes t empty_stripe
empty_sound t l = record {
  number = l;
  most = omega arith;
  shaped = record { least = omega arith; rows = refl; four = four None; ledger = refl };
  placed = λ r i q v e. absurd (none-some (q, v) (first_slot None 0 r i q v e).1);
  apart = tt;
}

full_sound : IsSound two_stripes 0 full_stripe
full_sound = record {
  number = omega arith;
  most = omega arith;
  shaped = record { least = omega arith; rows = refl; four = four (Some (zero_name, 5)); ledger = refl };
  placed = λ r i q v e.
      let z = first_slot (Some (zero_name, 5)) 1 r i q v e in
      let name : zero_name ≡ q = ap (λ (x : Name × ℕ). x.0) (same_Some (zero_name, 5) (q, v) z.1) in
      inl (ap (λ n. n * 2 + 0) z.0 ∙ (zero_bucket ∙ ap (λ (x : Name). index_of 1 (first_number x)) name));
  apart = (refl, tt);
}

none_in_empty : (q : Name) (v : ℕ) → ¬ (Binds empty_stripe q v)
none_in_empty q v e = none-some v e

-- what holds of both contents holds of each
each_of : (P : ℕ → Content ℕ → Type 0) (c : Content ℕ) → P 1 empty_stripe → P 0 c → (t : ℕ) (d : Content ℕ) → Holds (both c) t d → P t d
each_of P c at_one at_zero t d h = ⊎_elim
    (λ (e : (1 ≡ t) × (empty_stripe ≡ d)). subst (λ (x : ℕ × Content ℕ). P x.0 x.1) (λ i. (e.0 i, e.1 i)) at_one)
    (λ r. ⊎_elim (λ (e : (0 ≡ t) × (c ≡ d)). subst (λ (x : ℕ × Content ℕ). P x.0 x.1) (λ i. (e.0 i, e.1 i)) at_zero) (λ z. absurd z) r) h

powers : (c : Content ℕ) → c.power ≡ 1 → (t : ℕ) (d : Content ℕ) → Holds (both c) t d → d.power ≡ 1
powers c p = each_of (λ _ d. d.power ≡ 1) c refl p

pub both_lawful : (c : Content ℕ) → IsSound two_stripes 0 c → c.power ≡ 1 → Lawful two_stripes (both c)
both_lawful c sound power = record {
  distinct = ((λ i. ⊎_elim (λ e. omega arith) (λ z. z) i), ((λ i. i), tt));
  sound = each_of (IsSound two_stripes) c (empty_sound 1 (omega arith)) sound;
  once = λ t u d f q v w h g b e. zero_of c t d q v h b ∙ sym (zero_of c u f q w g e);
  one_power = λ t u d f h g. powers c power t d h ∙ sym (powers c power u f g);
}
  where
    zero_of : (c : Content ℕ) (t : ℕ) (d : Content ℕ) (q : Name) (v : ℕ) → Holds (both c) t d → Binds d q v → t ≡ 0
    zero_of c t d q v h = each_of (λ u x. Binds x q v → u ≡ 0) c (λ b. absurd (none_in_empty q v b)) (λ b. refl) t d h

pub empty_at : (q : Name) → get (bindings (both empty_stripe)) q ≡ None
empty_at q = get-bindings (both empty_stripe) q

pub full_at : (q : Name) → get (bindings (both full_stripe)) q ≡ find name_cmp q ((zero_name, 5) ∷ [])
full_at q = get-bindings (both full_stripe) q

has_both : (c : Content ℕ) (t : ℕ) → t < 2 → IsIn t (numbers (both c))
has_both c zero l = inr (inl refl)
has_both c (suc zero) l = inl refl
has_both c (suc (suc t)) l = absurd (omega arith)

-- the held stripes become those with this content, of the same power
renewed : (c d : Content ℕ) → IsSound two_stripes 0 d → c.power ≡ 1 → d.power ≡ 1 → Renewed two_stripes (both c) (both d)
renewed c d sound before after = record {
  same = refl;
  lawful = both_lawful d sound after;
  power = inl (λ t u e f h g. powers d after u f g ∙ sym (powers c before t e h));
}

pub inserted : Section two_stripes (both empty_stripe) insertion.call insertion.reply (both full_stripe)
inserted = record {
  renewed = renewed empty_stripe full_stripe full_sound refl refl;
  owns = λ t h. has_both empty_stripe t (stripe_below two_stripes zero_name t h);
  step = (
    subst (λ (o : Option ℕ × Option ℕ). Answers (Insert 5) o.0 New o.1) (λ i. (sym (empty_at zero_name) i, sym (full_at zero_name) i)) (refl, refl),
    λ q ne. full_at q ∙ (ap (λ t. cond t (Some 5) None) (no_name q zero_name ne) ∙ sym (empty_at q)),
  );
}

pub found : Section two_stripes (both full_stripe) look_up.call look_up.reply (both full_stripe)
found = record {
  renewed = renewed full_stripe full_stripe full_sound refl refl;
  owns = λ t h. has_both full_stripe t (stripe_below two_stripes zero_name t h);
  step = (subst (λ (o : Option ℕ × Option ℕ). Answers Find o.0 (Was (Some 5)) o.1) (λ i. (sym (full_at zero_name) i, sym (full_at zero_name) i)) (refl, refl), λ q ne. refl);
}

pub opens : ExampleOpens
opens = record {
  words = refl;
  no_step = refl;
  homes_sized = refl;
  homes = homes;
  lawful = both_lawful empty_stripe (empty_sound 0 (omega arith)) refl;
  empty_whole = maps_alike (bindings (both empty_stripe)) empty (λ q. empty_at q ∙ sym (get-empty name_cmp q));
  keeper = λ m. m;
  views = views;
}
  where
    homes : (t : ℕ) → t < 2 → get_elem? start.homes t ≡ some (Some empty_stripe)
    homes zero l = refl
    homes (suc zero) l = refl
    homes (suc (suc t)) l = absurd (omega arith)

    alone : (j : ℕ) → j < 2 → (m : ℕ) → IsIn m (j ∷ []) → (m < 2) × (m ≡ j)
    alone j l m h = ⊎_elim (λ e. (subst (λ x. x < 2) e l, sym e)) (λ z. absurd z) h

    views : (j : ℕ) (v : View ℕ) → get_elem? start.views j ≡ some v → (ms : List ℕ) × (v ≡ initial_view settings j 1 ms) × AreDistinct (j ∷ ms) × ((m : ℕ) → IsIn m (j ∷ ms) → (m < 2) × (m ≡ j))
    views zero v e = ([], sym (some-injective first v e), ((λ h. h), tt), alone 0 (omega arith))
    views (suc zero) v e = ([], sym (some-injective second v e), ((λ h. h), tt), alone 1 (omega arith))
    views (suc (suc j)) v e = absurd (some-ne-none v (sym e))

pub nothing_above : (t u : ℕ) → IsIn u [] → u < t
nothing_above t u h = absurd h

pub above_zero : (u : ℕ) → IsIn u (0 ∷ []) → u < 1
above_zero u h = ⊎_elim (λ e. omega arith) (λ z. absurd z) h

one_not_in : ¬ (IsIn {A = ℕ} 1 (0 ∷ []))
one_not_in h = ⊎_elim (λ e. omega arith) (λ z. z) h

-- one run after another
pub runs_append : {V : Type 0} (k : Layout) (min_load : ℕ) (ms ns : List (ℕ × Label V)) (log log1 log2 : List (Entry V)) (s s1 s2 : Configuration V)
    → Execution k min_load log s ms log1 s1 → Execution k min_load log1 s1 ns log2 s2 → Execution k min_load log s (ms ++ ns) log2 s2
runs_append {V} k min_load [] ns log log1 log2 s s1 s2 a b = subst (λ (x : List (Entry V) × Configuration V). Execution k min_load x.0 x.1 ns log2 s2) (λ i. (sym a.0 i, sym a.1 i)) b
runs_append k min_load (m ∷ ms) ns log log1 log2 s s1 s2 a b = (a.0, a.1, runs_append k min_load ms ns (grown log m.1) log1 log2 a.0 s1 s2 a.2 b)

pub to_one_held : Execution two_stripes 0 [] start (take 1 steps) [] one_held
to_one_held = (_, (first, empty_stripe, refl, omega arith, refl, nothing_above 0, refl, (0, refl), refl), (refl, refl))

from_one_held : Execution two_stripes 0 [] one_held (take 3 (drop 1 steps)) (insertion ∷ []) decided
from_one_held = (
  _,
  (second, refl, omega arith, refl, (λ h. h), (1, refl), refl),
  (
    _,
    (_, empty_stripe, refl, omega arith, refl, above_zero, refl, (0, refl), refl),
    (_, (_, full_stripe, refl, refl, inr (inl (refl, refl)), inserted, refl), (refl, refl)),
  ),
)

pub to_decided : Execution two_stripes 0 [] start (take 4 steps) (insertion ∷ []) decided
to_decided = runs_append two_stripes 0 (take 1 steps) (take 3 (drop 1 steps)) [] [] (insertion ∷ []) start one_held decided to_one_held from_one_held

pub from_decided : Execution two_stripes 0 (insertion ∷ []) decided (take 4 (drop 4 steps)) (insertion ∷ []) both_held
from_decided = (
  _,
  (_, full_stripe, refl, omega arith, refl, nothing_above 0, refl, (1, refl), refl),
  (
    _,
    (_, refl, omega arith, refl, one_not_in, (1, refl), refl),
    (
      _,
      (_, empty_stripe, refl, inl (refl, refl), refl),
      (_, (_, empty_stripe, refl, omega arith, refl, above_zero, refl, (1, refl), refl), (refl, refl)),
    ),
  ),
)

pub to_both_held : Execution two_stripes 0 [] start (take 8 steps) (insertion ∷ []) both_held
to_both_held = runs_append two_stripes 0 (take 4 steps) (take 4 (drop 4 steps)) [] (insertion ∷ []) (insertion ∷ []) start decided both_held to_decided from_decided

pub from_both_held : Execution two_stripes 0 (insertion ∷ []) both_held (drop 8 steps) (insertion ∷ look_up ∷ []) finish
from_both_held = (
  _,
  (_, full_stripe, refl, refl, inr (inl (refl, refl)), found, refl),
  (_, (_, empty_stripe, refl, inl (refl, refl), refl), (refl, refl)),
)

pub runs : ExampleRuns
runs = runs_append two_stripes 0 (take 8 steps) (drop 8 steps) [] (insertion ∷ []) (insertion ∷ look_up ∷ []) start both_held finish to_both_held from_both_held
