-- The law holds at the opening.
use Rattle.std.proofs.Common.{◌≡◌, ℕ, ◌^◌, ◌<◌, ◌≤◌, List, [], ◌∷◌, get_or, length, map, zero-le, sym, refl, ap, ◌∙◌, subst, ⊎_elim, arith, le_of_eq}
use Rattle.std.specs.Prelude.{All}
use Rattle.std.proofs.lemmas.List.Elements.{All-nil}
use mathlib.Core.Option.{some}
use lib.ListN.{get_elem?, length-replicate, get_or-replicate}
use Rattle.ck_model.specs.declared.history.Entry.{Entry}
use Rattle.ck_model.specs.declared.settings.Settings.{Settings}
use Rattle.ck_core.specs.declared.view.View.{View}
use Rattle.ck_model.specs.Numbered.{IsIn, AreDistinct, numbers, Holds}
use Rattle.ck_model.specs.declared.contents.Content.{Content}
use Rattle.ck_model.specs.Contents.{Layout, empty_content}
use Rattle.ck_model.specs.Sections.{HasAll}
use Rattle.ck_core.specs.declared.trace.LockEvent.{LockEvent}
use Rattle.ck_core.specs.Trace.{IsLegalTrace, decided_in, holder}
use Rattle.ck_core.specs.Contained.{content_in}
use Rattle.ck_core.specs.State.{Configuration, HasNumber, owned, Knows, Watches, HistoryInvariant}
use Rattle.ck_core.specs.Steps.{Label, Execution, initial_view, Opening}
use Rattle.ck_core.proofs.LegalTraces.{legal_none}
use Rattle.ck_core.proofs.Keeps.{run_keeps}

module _ {V : Type 0} (k : Layout) (set : Settings) (callers p : ℕ) (s : Configuration V) (o : Opening k set callers p s) where
  abbrev nothing : Content V
  nothing = empty_content k.s p

  word_at : (t : ℕ) → t < 2 ^ k.s → get_or s.words t 0 ≡ 0
  word_at t l = ap (λ ws. get_or ws t 0) o.words ∙ get_or-replicate (2 ^ k.s) t 0 0 l

  unused : (ms : List ℕ) (m : ℕ) (l : List (Entry V)) → Holds (map {B = ℕ × List (Entry V)} (λ (x : ℕ). (x, [])) ms) m l → [] ≡ l
  unused [] m l h = absurd h
  unused (x ∷ xs) m l h = ⊎_elim (λ (e : (x ≡ m) × ([] ≡ l)). e.1) (λ r. unused xs m l r) h

  numbers_unused : (ms : List ℕ) → numbers (map {B = ℕ × List (Entry V)} (λ (x : ℕ). (x, [])) ms) ≡ ms
  numbers_unused [] = refl
  numbers_unused (x ∷ xs) = ap {B = List ℕ} (λ l. x ∷ l) (numbers_unused xs)

  each_new : (P : ℕ → View V → Type 0) → ((j : ℕ) (ms : List ℕ) → AreDistinct (j ∷ ms) → ((m : ℕ) → IsIn m (j ∷ ms) → (m < callers) × (o.keeper m ≡ j)) → P j (initial_view set j p ms))
      → (j : ℕ) (v : View V) → get_elem? s.views j ≡ some v → P j v
  each_new P h j v a = let z = o.views j v a in subst (P j) (sym z.1) (h j z.0 z.2 z.3)

  pub opens : HistoryInvariant k callers [] s
  opens = record {
    contents = λ _. nothing;
    places = record {
      owner = λ _. 0;
      words_sized = ap length o.words ∙ length-replicate (2 ^ k.s) 0;
      homes_sized = o.homes_sized;
      is_bit = λ t l. let e = word_at t l in omega arith;
      at_home = λ t l _. o.homes t l;
      is_held = λ t l one. let e = word_at t l in absurd (omega arith);
      is_out = λ t l one. let e = word_at t l in absurd (omega arith);
      holds = each_new (λ j v. (t : ℕ) (c : Content V) → Holds v.held t c → (t < 2 ^ k.s) × (get_or s.words t 0 ≡ 1) × (0 ≡ j) × (nothing ≡ c)) (λ j ms _ _ t c h. absurd h);
      distinct = each_new (λ _ v. AreDistinct (numbers v.held)) (λ j ms _ _. tt);
    };
    holders = each_new (λ _ v. (t : ℕ) (c : Content V) → Holds v.held t c → HasNumber v) (λ j ms _ _ t c h. (j, refl));
    all_seen = each_new (λ _ v. HasAll k v.held → v.seen ≡ []) (λ j ms _ _ _. refl);
    lawful = o.lawful;
    told = each_new (λ _ v. (t : ℕ) → t < 2 ^ k.s → (v.told ≤ nothing.power) × (v.heard_told ≤ nothing.power)) (λ j ms _ _ t l. (le_of_eq refl, zero-le));
    callers_known = record {
      keeper = o.keeper;
      keeps = each_new (λ j v. (m : ℕ) → IsIn m (numbers (owned v)) → o.keeper m ≡ j) (λ j ms _ f m h. (f m (subst (IsIn m) (numbers_unused (j ∷ ms)) h)).1);
      knows = each_new (λ _ v. Knows callers [] v) (λ j ms apart f. record {
        sees = record { unseen = []; begins = refl; by_others = λ _ _. tt };
        heard = ([], refl);
        calls = λ m l h. unused (j ∷ ms) m l h;
        distinct = subst AreDistinct (sym (numbers_unused (j ∷ ms))) apart;
        within = λ m h. (f m (subst (IsIn m) (numbers_unused (j ∷ ms)) h)).0;
      });
    };
    traced = record {
      legal = subst IsLegalTrace (sym o.no_step) legal_none;
      by_callers = subst (λ (es : List (LockEvent V)). All (λ (e : LockEvent V). e.by < callers) es) (sym o.no_step) (All-nil _);
      free = λ t l _. ap (λ (es : List (LockEvent V)). holder es t) o.no_step;
      held = each_new (λ _ v. (t : ℕ) (c : Content V) → Holds v.held t c → holder s.trace t ≡ v.by) (λ j ms _ _ t c h. absurd h);
      watched = each_new (λ _ v. Watches s.trace v) (λ j ms _ _. record { sees = record { unseen = []; begins = o.no_step; by_others = λ _ _. tt }; heard = ([], refl); own = λ _ _. refl });
    };
    opened = p;
    contained = λ t l. ap (λ (es : List (LockEvent V)). content_in k.s p es t) o.no_step;
    decided = ap decided_in o.no_step;
    legal = sym o.empty_whole;
  }

  pub opens_with : opens.opened ≡ p
  unfolding opens
  opens_with = refl

  pub runs_keep : (min_load : ℕ) (ms : List (ℕ × Label V)) (log : List (Entry V)) (s2 : Configuration V) → Execution k min_load [] s ms log s2 → HistoryInvariant k callers log s2
  runs_keep min_load ms log s2 r = run_keeps k min_load callers ms [] s log s2 opens r
