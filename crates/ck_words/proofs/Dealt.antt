-- All passes are dealt.
use Rattle.std.proofs.Common.{◌≡◌, ℕ, zero, suc, ◌+◌, ◌-◌, ◌<◌, ◌≤◌, List, [], ◌∷◌, ◌++◌, map, get_or, refl, sym, ap, ◌∙◌, subst, arith}
use Rattle.std.specs.Prelude.{All}
use Rattle.std.proofs.lemmas.Option.{none-some}
use Rattle.std.proofs.lemmas.List.Elements.{All-nil, All-cons}
use Rattle.atomic_table.specs.Seated.{TableId}
use Rattle.ck_model.specs.declared.history.Entry.{Entry}
use Rattle.ck_model.specs.declared.settings.Settings.{Settings}
use Rattle.ck_model.specs.Numbered.{IsIn, numbers}
use Rattle.ck_core.specs.declared.view.View.{View}
use Rattle.ck_core.specs.Steps.{newcomer, initial_view}
use Rattle.ck_model.specs.Counting.{counting}
use Rattle.ck_core.proofs.LegalTraces.{legal_none}
use Rattle.ck_words.specs.Plays.{opened, begun}
use Rattle.ck_words.specs.Words.{WordsState}
use Rattle.ck_words.specs.Passes.{PassState, IsPassOf, IsIdle}
use Rattle.ck_words.specs.Closing.{dealt, parts_of, IsCaller, AreAllPasses}
use Rattle.ck_words.proofs.Reversed.{map-append}
use Rattle.ck_model.proofs.Counting.{counting-next, in_counting}

next_number : (n m : ℕ) → n < m → counting n (m - n) ≡ n ∷ counting (n + 1) (m - (n + 1))
next_number n m l = ap (counting n) (let e : m - n ≡ suc (m - (n + 1)) = omega arith in e) ∙ (λ i. n ∷ counting (let e : suc n ≡ n + 1 = omega arith in e i) (m - (n + 1)))

numbers-dealt : (V : Type 0) (table : TableId) (set : Settings) (ms : List ℕ) → numbers (parts_of {V = V} (dealt table set ms)) ≡ ms
numbers-dealt W table set [] = refl
numbers-dealt W table set (m ∷ ms) = ap {B = List ℕ} (λ l. m ∷ l) (numbers-dealt W table set ms)

module _ {V : Type 0} where
  -- numbers with no entries
  abbrev pub kept_for : List ℕ → List (ℕ × List (Entry V))
  kept_for ms = map (λ (m : ℕ). (m, [])) ms

  -- the first pass after n were dealt with it
  abbrev pub first_after : TableId → Settings → ℕ → PassState V
  first_after table set n = record { table = table; view = initial_view set 0 set.power (counting n (set.callers - n)); stripes = [] }

  abbrev pub dealt_to : TableId → Settings → ℕ → List (PassState V)
  dealt_to table set n = first_after table set n ∷ dealt table set (counting 1 (n - 1))

  -- the first of a list, as it was read
  pub first_read : (ps : List (PassState V)) (x : PassState V) (qs : List (PassState V)) (p : PassState V) → ps ≡ x ∷ qs → p ≡ get_or ps 0 p → p ≡ x
  first_read ps x qs p e is = is ∙ ap (λ l. get_or l 0 p) e

  as_idle : (w : WordsState) (p : PassState V) (v : View V) → IsPassOf w p → IsIdle p → p.view ≡ v → p ≡ record { table = w.table; view = v; stripes = [] }
  as_idle w p v own idle e = λ i. record { table = own.0 i; view = e i; stripes = idle.0 i }

  others_first : (set : Settings) (n : ℕ) → n < set.callers → kept_for (counting n (set.callers - n)) ≡ (n, []) ∷ kept_for (counting (n + 1) (set.callers - (n + 1)))
  others_first set n l = ap kept_for (next_number n set.callers l)

  pub keeps_next : (table : TableId) (set : Settings) (n : ℕ) (p : PassState V) → n < set.callers → p ≡ first_after table set n
      → (m : ℕ) × (others : List (ℕ × List (Entry V))) × (p.view.others ≡ (m, []) ∷ others)
  keeps_next table set n p l is = (n, kept_for (counting (n + 1) (set.callers - (n + 1))), ap (λ (x : PassState V). x.view.others) is ∙ others_first set n l)

  pub dealt_more : (w : WordsState) (set : Settings) (n : ℕ) (p q r : PassState V) → 1 ≤ n → n < set.callers → p ≡ first_after w.table set n → IsPassOf w r → IsIdle r → r.view ≡ begun p.view → q ≡ record p { view = opened p.view }
      → q ∷ dealt w.table set (counting 1 (n - 1)) ++ r ∷ [] ≡ dealt_to w.table set (n + 1)
  dealt_more w set n p q r some l is own idle new left =
      let others = others_first set n l in
      let old : View V = initial_view set 0 set.power (counting n (set.callers - n)) in
      let left_first : q ≡ first_after w.table set (n + 1) = left ∙ ((λ i. record (is i) { view = opened (is i).view }) ∙ λ i. record { table = w.table; view = opened (record old { others = others i }); stripes = [] }) in
      let newest : r ≡ record { table = w.table; view = newcomer set n set.power; stripes = [] } = as_idle w r (newcomer set n set.power) own idle (new ∙ ((λ i. begun (is i).view) ∙ λ i. begun (record old { others = others i }))) in
      let count : counting 1 (n - 1) ++ n ∷ [] ≡ counting 1 (n + 1 - 1) =
      (λ i. counting 1 (n - 1) ++ (let e : n ≡ 1 + (n - 1) = omega arith in e i) ∷ []) ∙ (sym (counting-next (n - 1) 1) ∙ ap (counting 1) (let e : suc (n - 1) ≡ n + 1 - 1 = omega arith in e)) in
      (λ i. left_first i ∷ dealt w.table set (counting 1 (n - 1)) ++ newest i ∷ [])
      ∙ ap (λ (ps : List (PassState V)). first_after w.table set (n + 1) ∷ ps)
      (sym (map-append (λ (m : ℕ). record { table = w.table; view = newcomer set m set.power; stripes = [] }) (counting 1 (n - 1)) (n ∷ [])) ∙ ap (dealt w.table set) count)

  pub dealt_whole : (table : TableId) (set : Settings) (n : ℕ) (ps : List (PassState V)) → 1 ≤ set.callers → n ≡ set.callers → ps ≡ dealt_to table set n → ps ≡ dealt table set (counting 0 set.callers)
  dealt_whole table set n ps some end is =
      let none : set.callers - n ≡ 0 = omega arith in
      let all : suc (n - 1) ≡ set.callers = omega arith in
      is ∙ ((λ i. record { table = table; view = initial_view set 0 set.power (counting n (none i)); stripes = [] } ∷ dealt table set (counting 1 (n - 1))) ∙ ap (λ m. dealt table set (counting 0 m)) all)

  dealt_callers : (w : WordsState) (n a : ℕ) → w.settings.power ≤ w.settings.max → a + n ≤ w.settings.callers → All (IsCaller {V = V} w) (dealt w.table w.settings (counting a n))
  dealt_callers w zero a most l = All-nil (IsCaller w)
  dealt_callers w (suc n) a most l = All-cons (IsCaller w) (record { table = w.table; view = newcomer w.settings a w.settings.power; stripes = [] }) (dealt w.table w.settings (counting (suc a) n))
      (record { own = (refl, refl, (λ none. none-some a (sym none)), (λ _. refl), omega arith, most, record { legal = legal_none; missed = λ _ _. refl }); idle = (refl, refl); alone = refl; number = (a, refl, omega arith) }) (dealt_callers w n (suc a) most (omega arith))

  pub dealt_all : (w : WordsState) (set : Settings) (ps : List (PassState V)) → set.power ≤ set.max → w.settings ≡ set → ps ≡ dealt w.table set (counting 0 set.callers) → AreAllPasses w ps
  dealt_all w set ps most same is =
      let n = w.settings.callers in
      let new : AreAllPasses w (dealt w.table w.settings (counting 0 n)) = record {
        callers = dealt_callers w n 0 (subst (λ (x : Settings). x.power ≤ x.max) (sym same) most) (omega arith);
        all = λ m l. subst (IsIn m) (sym (numbers-dealt V w.table w.settings (counting 0 n))) (in_counting n m l);
      } in
      subst (AreAllPasses w) (sym (is ∙ λ i. dealt w.table (sym same i) (counting 0 (sym same i).callers))) new
