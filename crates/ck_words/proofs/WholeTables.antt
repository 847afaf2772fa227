-- All stripes of a table, taken, and settled since.
use Rattle.std.proofs.Common.{◌≡◌, ℕ, ◌<◌, ◌^◌, List, length, get_or, Ok, Err, sym, ap, ◌∙◌, subst, arith}
use Rattle.std.specs.Prelude.{Result, OnOk, IfErr}
use Rattle.ck_model.specs.declared.settings.Settings.{Settings}
use Rattle.ck_model.specs.Promise.{Name}
use Rattle.ck_model.specs.Ranges.{AreInRange}
use Rattle.ck_model.specs.Contents.{layout_of, Lawful}
use Rattle.ck_stripe.specs.Stripes.{contents_of, settled_stripes}
use Rattle.ck_stripe.specs.Tables.{IsTable, AreAllHeld}
use Rattle.ck_model.specs.Counting.{counting}
use Rattle.ck_words.specs.Words.{WordsState}
use Rattle.ck_model.specs.Numbered.{IsIn}
use Rattle.ck_words.specs.Passes.{PassState, IsPassOf, numbers_of}
use Rattle.ck_words.specs.Retries.{Stays, FindsAmong, IsBusy}
use Rattle.ck_words.specs.declared.stripe_set.StripeSet.{StripeSet}
use Rattle.ck_words.specs.StripeSets.{list_of}
use Rattle.ck_words.specs.Holding.{HasTakenAll, GivesUp}
use Rattle.ck_words.specs.Closing.{IsWhole}
use Rattle.ck_model.proofs.Counting.{length-counting, counting-at, counting_below}
use Rattle.ck_stripe.proofs.Settled.{contents_settled, all_settled}
use Rattle.ck_words.proofs.AreHeld.{lawful_taken, one_power_of, least_of, most_of, numbers_settled}
use Rattle.ck_words.proofs.Lending.{each_at}
use Rattle.ck_words.proofs.Seating.{length-numbers, number_at}

-- a set of all stripes of the table
pub all_of : (x : StripeSet) (a b : Settings) → list_of x ≡ counting 0 (2 ^ a.s) → a ≡ b → list_of x ≡ counting 0 (2 ^ b.s)
all_of x a b all is = all ∙ ap (λ (set : Settings). counting 0 (2 ^ set.s)) is

module _ {V : Type 0} where
  -- all stripes, as they were taken
  module _ (hash : Name → ℕ) (w : WordsState) (range : AreInRange w.settings) (p q : PassState V) (all : List ℕ) (are_all : all ≡ counting 0 (2 ^ w.settings.s)) (some : 0 < length all) (taken : HasTakenAll hash w all p q) where
    named : numbers_of q.stripes ≡ counting 0 (2 ^ w.settings.s)
    named = taken.numbered ∙ are_all

    pub is_whole : IsWhole hash w.settings q
    is_whole = record { all = named; unchanged = taken.unchanged; shows = taken.shows some }

    pub is_table : IsTable w.settings.s q.stripes
    is_table =
        let lawful = lawful_taken hash w.settings q taken.unchanged (taken.shows some) in
        let n : ℕ = 2 ^ w.settings.s in
        let count : length q.stripes ≡ n = sym (length-numbers q.stripes) ∙ (ap length named ∙ length-counting n 0) in
        record {
          many = range.stripes;
          count = count;
          number = λ i l. number_at q.stripes i l ∙ (ap (λ (ns : List ℕ). get_or ns i 0) named ∙ counting-at n i (omega arith));
          one_s = each_at w.settings.s q.stripes taken.of_table;
          one_power = one_power_of hash w.settings range q.stripes all taken.numbered some lawful;
          least = least_of hash w.settings range q.stripes all taken.numbered some lawful;
          most = most_of hash w.settings range q.stripes all taken.numbered some lawful;
          no_spare = taken.no_spare;
        }

  -- all were taken, or one was found held to the end
  module _ (hash : Name → ℕ) (w : WordsState) (range : AreInRange w.settings) (p q : PassState V) (all : List ℕ) (are_all : all ≡ counting 0 (2 ^ w.settings.s)) (some : 0 < length all) where
    abbrev Takes : {A : Type 0} → Result A ℕ → Type 0
    Takes r = OnOk r (HasTakenAll hash w all p q)

    abbrev Refuses : {A : Type 0} → Result A ℕ → Type 0
    Refuses r = IfErr r (λ t. GivesUp w (λ u. IsIn u all) t p q)

    -- each of them is a stripe of the table
    inside : (t : ℕ) → IsIn t all → t < 2 ^ w.settings.s
    inside t i = counting_below (2 ^ w.settings.s) t (subst (IsIn t) are_all i)

    pub stays_either : {A : Type 0} (r : Result A ℕ) → Takes r → Refuses r → Stays p.view q.view
    stays_either (Ok a) taken refused = taken.stays
    stays_either (Err t) taken refused = refused.stays

    pub found_either : {A : Type 0} (r : Result A ℕ) → Takes r → Refuses r → FindsAmong (λ t. t < 2 ^ w.settings.s) p q
    found_either (Ok a) taken refused = let f = taken.found in (f.0, f.1, λ t i. inside t (f.2 t i))
    found_either (Err t) taken refused = let f = refused.found in (f.0, f.1, λ u i. inside u (f.2 u i))

    pub asked_either : {A : Type 0} (r : Result A ℕ) → Refuses r → IfErr r (λ t. t < 2 ^ w.settings.s)
    asked_either (Ok a) refused = tt
    asked_either (Err t) refused = inside t refused.asked

    pub own_either : {A : Type 0} (r : Result A ℕ) → Takes r → Refuses r → IsPassOf w q
    own_either (Ok a) taken refused = taken.own
    own_either (Err t) taken refused = refused.own

    pub busy_either : {A : Type 0} (r : Result A ℕ) → Refuses r → IfErr r (λ t. IsBusy w.settings t p q)
    busy_either (Ok a) refused = tt
    busy_either (Err t) refused = refused.busy

    pub whole_either : {A : Type 0} (r : Result A ℕ) → Takes r → OnOk r (IsWhole hash w.settings q)
    whole_either (Ok a) taken = is_whole hash w range p q all are_all some taken
    whole_either (Err t) taken = tt

    pub table_either : {A : Type 0} (r : Result A ℕ) → Takes r → OnOk r (IsTable w.settings.s q.stripes)
    table_either (Ok a) taken = is_table hash w range p q all are_all some taken
    table_either (Err t) taken = tt

  -- they were settled since
  module _ (p q : PassState V) (settled : q ≡ record p { stripes = settled_stripes p.stripes }) where
    pub whole_then : (hash : Name → ℕ) (set : Settings) → IsWhole hash set p → IsWhole hash set q
    whole_then hash set whole = subst (IsWhole hash set) (sym settled) (record {
      all = numbers_settled p.stripes ∙ whole.all;
      unchanged = contents_settled p.stripes ∙ whole.unchanged;
      shows = whole.shows;
    })

    pub all_held_then : (s : ℕ) → IsTable s p.stripes → AreAllHeld s q.stripes
    all_held_then s table = subst (λ (x : PassState V). AreAllHeld s x.stripes) (sym settled) (all_settled s p.stripes table)

  -- what the stripes contain is lawful
  pub lawful_held : (hash : Name → ℕ) (set : Settings) (p : PassState V) → IsWhole hash set p → Lawful (layout_of hash set) (contents_of p.stripes)
  lawful_held hash set p whole = lawful_taken hash set p whole.unchanged whole.shows
