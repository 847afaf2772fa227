-- What a take asks and leaves, at the fields of words and pass.
use Rattle.std.proofs.Common.{◌≡◌, ◌≢◌, ℕ, ◌*◌, ◌/◌, ◌^◌, ◌<◌, ◌≤◌, List, [], ◌∷◌, ◌++◌, reverse, sym, ap, ◌∙◌, subst, arith, le_of_eq, le_trans, false, refl, Option, Some, None}
use Rattle.std.proofs.Math.Nat.{one-le-pow}
use Rattle.atomic_table.specs.Table.{Allows}
use Rattle.atomic_table.specs.Seated.{TableId}
use Rattle.ck_model.specs.declared.settings.Settings.{Settings}
use Rattle.ck_model.specs.Promise.{Name}
use Rattle.ck_model.specs.Numbered.{numbers}
use Rattle.ck_stripe.specs.Stripe.{StripeState}
use Rattle.ck_stripe.specs.Stripes.{contents_of}
use Rattle.ck_core.specs.declared.view.View.{View}
use Rattle.ck_core.specs.declared.trace.LockStep.TheVariants as step
use Rattle.ck_core.specs.State.{HasNumber, found_held}
use Rattle.ck_core.specs.Steps.{IsAbove}
use Rattle.ck_core.specs.Steps.Label.{Take, FindHeld, Look}
use Rattle.ck_core.specs.Laws.{HasWatched}
use Rattle.ck_words.specs.Rule.{StripeSlot, Hand, RuleOf, IsAtHome}
use Rattle.ck_words.specs.Steps.{Steps}
use Rattle.ck_words.specs.Plays.{SeatTries, SeatLooks}
use Rattle.ck_words.specs.Words.{WordsState, IsLaidOut}
use Rattle.ck_words.specs.Passes.{PassState, IsSeated, IsPassIn, IsPassOf, IsUnchanged, TakesStripe, TriesStripe, LooksUp, state_of, stripes_in, held_in}
use Rattle.ck_words.proofs.Allowed.{take_allowed, look_allowed}
use Rattle.ck_words.proofs.Reversed.{map-append, reverse-cons}
use Rattle.ck_words.proofs.Rows.{found_by, shows_after, take_row, take_held, find_row, find_by_two, look_row, look_told}
use Rattle.ck_words.proofs.Seating.{seated_take, seated_view}

-- the number of the stripe whose word it is
pub word_of : (t : ℕ) → t * 8 / 8 ≡ t
word_of t = omega arith

number_there : (o : Option ℕ) → o ≢ None → (m : ℕ) × (o ≡ Some m)
number_there None some = absurd (some refl)
number_there (Some m) some = (m, refl)

-- the table of a pass and its words
pub record Fits {V : Type 0} (w : WordsState) (p : PassState V) (tz : TableId) (key set : Settings) (z : TableId) (me : Hand V) : Type 0 where
  pub words_are : ◌≡◌ {A = WordsState} (record { table = tz; settings = set }) w
  pub laid : IsLaidOut tz key set
  pub pass_is : state_of z me ≡ p
  pub own : IsPassIn w p

pub fits_in : {V : Type 0} (w : WordsState) (p : PassState V) (tz : TableId) (key set : Settings) (z : TableId) (me : Hand V) → ◌≡◌ {A = WordsState} (record { table = tz; settings = set }) w → IsLaidOut tz key set → state_of z me ≡ p → IsPassIn w p → Fits w p tz key set z me
fits_in w p tz key set z me words_are laid pass_is own = record { words_are = words_are; laid = laid; pass_is = pass_is; own = own }

pub fits : {V : Type 0} (w : WordsState) (p : PassState V) (tz : TableId) (key set : Settings) (z : TableId) (me : Hand V) → ◌≡◌ {A = WordsState} (record { table = tz; settings = set }) w → IsLaidOut tz key set → state_of z me ≡ p → IsPassOf w p → Fits w p tz key set z me
fits w p tz key set z me words_are laid pass_is own = fits_in w p tz key set z me words_are laid pass_is (own.0, own.1, own.2, own.3, own.4, own.5)

module _ {V : Type 0} (hash : Name → ℕ) (w : WordsState) (p : PassState V) (tz : TableId) (key set : Settings) (z : TableId) (me : Hand V) (f : Fits w p tz key set z me) where
  pub same_table : z ≡ tz
  same_table = ap (λ (q : PassState V). q.table) f.pass_is ∙ (f.own.0 ∙ sym (ap (λ (x : WordsState). x.table) f.words_are))

  pub same_settings : me.0.settings ≡ w.settings
  same_settings = ap (λ (q : PassState V). q.view.settings) f.pass_is ∙ f.own.1

  pub same_key : w.settings ≡ key
  same_key = sym (ap (λ (x : WordsState). x.settings) f.words_are) ∙ sym f.laid.key_is

  pub slots_are : tz.slots ≡ 2 ^ w.settings.s
  slots_are = f.laid.slots ∙ ap (λ (x : WordsState). 2 ^ x.settings.s) f.words_are

  pub words_count : tz.words ≡ 2 ^ w.settings.s * 8
  words_count = f.laid.words ∙ ap (λ (x : WordsState). 2 ^ x.settings.s * 8) f.words_are

  pub below_slots : (t : ℕ) → t < 2 ^ w.settings.s → t < z.slots
  below_slots t l = subst (λ n. t < n) (sym (ap (λ (x : TableId). x.slots) same_table ∙ slots_are)) l

  pub word_inside : (t : ℕ) → t < 2 ^ w.settings.s → t * 8 < tz.words
  word_inside t l = let c = words_count in omega arith

  has_number : me.0.by ≢ None
  has_number = subst (λ (q : PassState V). q.view.by ≢ None) (sym f.pass_is) f.own.2

  its_number : HasNumber me.0
  its_number = number_there me.0.by has_number

  -- what a step leaves of the view where it finds no stripe held
  pub record Lasts (me2 : Hand V) : Type 0 where
    pub settings : me2.0.settings ≡ me.0.settings
    pub by : me2.0.by ≡ me.0.by
    pub found : found_held me2.0 ≡ found_held me.0
    pub told : me.0.told ≤ me2.0.told
    pub most : me2.0.told ≤ w.settings.max
    pub watched : HasWatched me2.0

  told_before : (w.settings.power ≤ me.0.told) × (me.0.told ≤ w.settings.max)
  told_before = subst (λ (q : PassState V). (w.settings.power ≤ q.view.told) × (q.view.told ≤ w.settings.max)) (sym f.pass_is) (f.own.4, f.own.5)

  pub own_after : (z2 : TableId) (me2 : Hand V) → z2 ≡ z → Lasts me2 → IsPassOf w (state_of z2 me2)
  own_after z2 me2 same k = (
    same ∙ (ap (λ (q : PassState V). q.table) f.pass_is ∙ f.own.0),
    k.settings ∙ same_settings,
    (λ none. has_number (sym k.by ∙ none)),
    λ one. k.found ∙ (ap (λ (q : PassState V). found_held q.view) f.pass_is ∙ f.own.3 one),
    le_trans told_before.0 k.told,
    k.most,
    k.watched,
  )

  -- what holds at the settings of the words' key, and at this word, holds at those of the hand
  pub settled : (X : Settings → ℕ → Type 0) (t : ℕ) → X key t → X me.0.settings (t * 8 / 8)
  settled X t x = subst (λ (y : Settings × ℕ). X y.0 y.1) (λ i. (sym (same_settings ∙ same_key) i, sym (word_of t) i)) x

  pub told : (X : Settings → ℕ → Type 0) (t : ℕ) → X me.0.settings (t * 8 / 8) → X w.settings t
  told X t x = subst (λ (y : Settings × ℕ). X y.0 y.1) (λ i. (same_settings i, word_of t i)) x

  pub below_key : (t : ℕ) → t < 2 ^ w.settings.s → t < 2 ^ key.s
  below_key t l = subst (λ (x : Settings). t < 2 ^ x.s) same_key l

  -- the stripes and the content of its view are as before
  pub still_seated : (z2 : TableId) (me2 : Hand V) → IsSeated z me → z2 ≡ z → me2.0.settings ≡ me.0.settings → me2.0.held ≡ me.0.held → me2.1 ≡ me.1 → IsSeated z2 me2
  still_seated z2 me2 s same settings held slots = seated_view z z2 me me2 me2.0 s held settings same (λ i. (me2.0, slots i))

  module _ (t : ℕ) (inside : t < 2 ^ w.settings.s) (above : IsAbove t (numbers p.view.held)) where
    above_mine : IsAbove t (numbers me.0.held)
    above_mine = subst (λ (q : PassState V). IsAbove t (numbers q.view.held)) (sym f.pass_is) above

    pub take_ready : (slots id : ℕ) → Allows (RuleOf hash key) slots id me (t * 8) (λ _. 1) (SeatTries hash me.0.settings (t * 8 / 8) me)
    take_ready slots id = settled (λ x n. Allows (RuleOf hash key) slots id me (t * 8) (λ _. 1) (SeatTries hash x n me)) t (take_allowed hash key slots id me t (below_key t inside) above_mine its_number)

    told_now : (r : ℕ) (me2 : Hand V) → SeatTries hash me.0.settings (t * 8 / 8) me r me2 → SeatTries hash w.settings t me r me2
    told_now r me2 h = told (λ x n. SeatTries hash x n me r me2) t h

    -- the stripe was taken
    pub record Took (me3 : Hand V) : Type 0 where
      pub stripe : StripeState V
      pub own_number : IsAtHome w.settings.s t stripe
      pub slots : me3.1 ≡ (t, Some stripe) ∷ me.1
      pub lasts : Lasts me3
      pub held : me3.0.held ≡ (t, stripe.content) ∷ me.0.held
      pub step : Steps hash w.settings (Take t) me.0 me3.0

    pub took : (me2 : Hand V) (r : ℕ) → SeatTries hash me.0.settings (t * 8 / 8) me r me2 → r ≡ 0 → Took me2
    took me2 r h zero_found =
        let k = (told_now r me2 h).0 zero_found in
        record {
          stripe = k.0;
          own_number = k.1;
          slots = k.2;
          lasts = (let row = take_row hash w.settings me.0 me2.0 t k.4 in record { settings = ap (λ (v : View V). v.settings) row; by = ap (λ (v : View V). v.by) row; found = ap found_held row ∙ found_by step.Took k.4.before t (record me.0 { held = (t, k.4.does.1) ∷ me.0.held; seen = k.4.log }); told = le_of_eq (sym (ap (λ (v : View V). v.told) row)); most = (shows_after hash w.settings (Take t) me.0 me2.0 k.4).most; watched = (shows_after hash w.settings (Take t) me.0 me2.0 k.4).watched });
          held = take_held hash w.settings me.0 me2.0 t k.0.content k.4 k.3;
          step = k.4;
        }

    -- the stripes of which it is the highest
    more : (me2 : Hand V) (k : Took me2) → held_in me2.1 ≡ held_in me.1 ++ k.stripe ∷ []
    more me2 k = ap held_in k.slots ∙ reverse-cons k.stripe (stripes_in me.1)

    pub takes : (z2 : TableId) (me2 : Hand V) → Took me2 → TakesStripe hash w.settings t p (state_of z2 me2)
    takes z2 me2 k = subst (λ (q : PassState V). TakesStripe hash w.settings t q (state_of z2 me2)) f.pass_is (k.stripe, k.own_number, more me2 k, k.step)

    pub still_unchanged : (z2 : TableId) (me2 : Hand V) → Took me2 → IsUnchanged p → IsUnchanged (state_of z2 me2)
    still_unchanged z2 me2 k old =
        let before : contents_of (held_in me.1) ≡ reverse me.0.held = subst IsUnchanged (sym f.pass_is) old in
        ap contents_of (more me2 k)
        ∙ (map-append (λ (x : StripeState V). (x.number, x.content)) (held_in me.1) (k.stripe ∷ [])
        ∙ ((λ i. before i ++ (k.own_number.0 i, k.stripe.content) ∷ []) ∙ (sym (reverse-cons (t, k.stripe.content) me.0.held) ∙ sym (ap reverse k.held))))

    pub seated_after : (z2 : TableId) (me2 : Hand V) → IsSeated z me → Took me2 → z2 ≡ z → IsSeated z2 me2
    seated_after z2 me2 s k same =
        let new = seated_take z me.0 me2.0 me.1 t k.stripe s above_mine (below_slots t inside) (subst (λ (x : Settings). IsAtHome x.s t k.stripe) (sym same_settings) k.own_number) k.lasts.settings (ap numbers k.held) in
        subst (λ (x : TableId × List (ℕ × StripeSlot V)). IsSeated x.0 (me2.0, x.1)) (λ i. (sym same i, sym k.slots i)) new

    -- the stripe was found held
    pub record Found (me2 : Hand V) : Type 0 where
      pub slots : me2.1 ≡ me.1
      pub settings : me2.0.settings ≡ me.0.settings
      pub held : me2.0.held ≡ me.0.held
      pub step : Steps hash w.settings (FindHeld t) me.0 me2.0

    pub found : (me2 : Hand V) (r : ℕ) → SeatTries hash me.0.settings (t * 8 / 8) me r me2 → r ≢ 0 → Found me2
    found me2 r h other =
        let k = (told_now r me2 h).1 other in
        let row = find_row hash w.settings me.0 me2.0 t k.1 in
        record { slots = k.0; settings = ap (λ (v : View V). v.settings) row; held = ap (λ (v : View V). v.held) row; step = k.1 }

    pub own_found : (z2 : TableId) (me2 : Hand V) → z2 ≡ z → Found me2 → IsPassOf w (state_of z2 me2)
    own_found z2 me2 same k = (
      same ∙ (ap (λ (q : PassState V). q.table) f.pass_is ∙ f.own.0),
      k.settings ∙ same_settings,
      (λ none. has_number (sym (ap (λ (v : View V). v.by) (find_row hash w.settings me.0 me2.0 t k.step)) ∙ none)),
      λ one. absurd (find_by_two hash w.settings me.0 me2.0 t k.step one),
      le_trans told_before.0 (le_of_eq (sym (ap (λ (v : View V). v.told) (find_row hash w.settings me.0 me2.0 t k.step)))),
      (shows_after hash w.settings (FindHeld t) me.0 me2.0 k.step).most,
      (shows_after hash w.settings (FindHeld t) me.0 me2.0 k.step).watched,
    )

    pub finds : (z2 : TableId) (me2 : Hand V) → Found me2 → TriesStripe hash w t false p (state_of z2 me2)
    finds z2 me2 k = subst (λ (q : PassState V). TriesStripe hash w t false q (state_of z2 me2)) f.pass_is (ap held_in k.slots, k.step)

    pub found_unchanged : (z2 : TableId) (me2 : Hand V) → Found me2 → IsUnchanged p → IsUnchanged (state_of z2 me2)
    found_unchanged z2 me2 k old =
        let before : contents_of (held_in me.1) ≡ reverse me.0.held = subst IsUnchanged (sym f.pass_is) old in
        ap (λ has. contents_of (held_in has)) k.slots ∙ (before ∙ sym (ap reverse k.held))

    pub found_seated : (z2 : TableId) (me2 : Hand V) → IsSeated z me → z2 ≡ z → Found me2 → IsSeated z2 me2
    found_seated z2 me2 s same k = still_seated z2 me2 s same k.settings k.held k.slots

  pub look_ready : (slots id : ℕ) → Allows (RuleOf hash key) slots id me 0 (λ n. n) (λ _. SeatLooks hash me.0.settings 0 me)
  look_ready slots id =
      let one : 1 ≤ 2 ^ key.s = one-le-pow key.s 2 (omega arith) in
      settled (λ x n. Allows (RuleOf hash key) slots id me 0 (λ n. n) (λ _. SeatLooks hash x 0 me)) 0 (look_allowed hash key slots id me 0 (omega arith))

  pub some_word : 0 < tz.words
  some_word = let c = words_count in let one : 1 ≤ 2 ^ w.settings.s = one-le-pow w.settings.s 2 (omega arith) in omega arith

  module _ (me2 : Hand V) (h : SeatLooks hash me.0.settings 0 me me2) where
    looks : SeatLooks hash w.settings 0 me me2
    looks = told (λ x n. SeatLooks hash x 0 me me2) 0 h

    look_view : me2.0 ≡ record me.0 { seen = looks.1.2.log; told = looks.1.0; watched = looks.1.2.before.trace }
    look_view = look_row hash w.settings me.0 me2.0 0 looks.1.0 looks.1.2

    pub look_lasts : Lasts me2
    look_lasts = record { settings = ap (λ (v : View V). v.settings) look_view; by = ap (λ (v : View V). v.by) look_view; found = ap found_held look_view; told = subst (λ n. me.0.told ≤ n) (sym (ap (λ (v : View V). v.told) look_view)) (look_told hash w.settings me.0 me2.0 0 looks.1.0 looks.1.2); most = (shows_after hash w.settings (Look 0 looks.1.0) me.0 me2.0 looks.1.2).most; watched = (shows_after hash w.settings (Look 0 looks.1.0) me.0 me2.0 looks.1.2).watched }

    pub looked : (z2 : TableId) → LooksUp hash w p (state_of z2 me2)
    looked z2 = subst (λ (q : PassState V). LooksUp hash w q (state_of z2 me2)) f.pass_is (ap held_in looks.0, looks.1)

    pub looked_seated : (z2 : TableId) → IsSeated z me → z2 ≡ z → IsSeated z2 me2
    looked_seated z2 s same = still_seated z2 me2 s same look_lasts.settings (ap (λ (v : View V). v.held) look_view) looks.0
