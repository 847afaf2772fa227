-- What the steps ask and leave by which the highest stripe goes home, at the fields of words and pass.
use Rattle.std.proofs.Common.{◌≡◌, ℕ, ◌*◌, ◌/◌, ◌^◌, ◌<◌, ◌≤◌, List, [], ◌∷◌, ◌++◌, reverse, sym, refl, ap, ◌∙◌, subst, inl, arith, Option, Some, Fits as Fits64, w64}
use Rattle.std.proofs.Math.Nat.{pow-le-pow_right}
use Rattle.std.proofs.Math.Facts.{Fits-bits}
use Rattle.std.proofs.lemmas.List.{reverse-reverse}
use Rattle.atomic_table.specs.Table.{Allows, rest}
use Rattle.atomic_table.specs.Seated.{TableId}
use Rattle.ck_model.specs.declared.history.Entry.{Entry}
use Rattle.ck_model.specs.declared.history.Reason.{Reason}
use Rattle.ck_model.specs.declared.settings.Settings.{Settings}
use Rattle.ck_model.specs.Promise.{Name}
use Rattle.ck_model.specs.Numbered.{Holds, without}
use Rattle.ck_model.specs.Contents.{Layout, layout_of, Stripes, Lawful}
use Rattle.ck_model.specs.Sections.{Section, IdentitySection}
use Rattle.ck_stripe.specs.Stripes.{contents_of, HaveNoSpare}
use Rattle.ck_core.specs.declared.view.View.{View}
use Rattle.ck_core.specs.declared.trace.LockStep.TheVariants.{Gave, Decided}
use Rattle.ck_core.specs.State.{found_held}
use Rattle.ck_core.specs.Steps.{Label, giving, renewing, deciding, IsExcused, HasGrounds}
use Rattle.ck_core.specs.Steps.Label.{Give, Decide, Renew}
use Rattle.ck_core.specs.Laws.{HasWatched}
use Rattle.ck_words.specs.Rule.{StripeSlot, Hand, RuleOf, IsAtHome}
use Rattle.ck_words.specs.Steps.{Steps}
use Rattle.ck_words.specs.Plays.{SeatGives, contents_in}
use Rattle.ck_words.specs.Words.{WordsState}
use Rattle.ck_words.specs.Passes.{PassState, IsSeated, IsPassOf, IsUnchanged, Sends, IsHighest, state_of, held_in}
use Rattle.ck_words.proofs.Allowed.{give_allowed, renew_allowed, decide_allowed}
use Rattle.ck_words.proofs.Reversed.{lawful_reverse, section_turned, identity_turned}
use Rattle.ck_words.proofs.Excuses.{excused_reverse, has_grounds_reverse}
use Rattle.ck_words.proofs.Rows.{found_by, shows_after, give_row, renew_row, decide_row}
use Rattle.ck_words.proofs.Seating.{Last, last}
use Rattle.ck_words.proofs.Spare.{spare_last, spare_rest}
use Rattle.ck_words.proofs.Takes.{Fits, Lasts, same_table, word_inside, same_settings, same_key, slots_are, own_after, below_key, settled, told}

-- the highest stripe went home by this move, and the pass has the others as they were
pub record Went {V : Type 0} (hash : Name → ℕ) (w : WordsState) (move : ℕ → Stripes V → Label V) (p : PassState V) (z : TableId) (me : Hand V) : Type 0 where
  pub seated : IsSeated z me
  pub own : IsPassOf w (state_of z me)
  pub sends : Sends hash w move p (state_of z me)
  pub unchanged : IsUnchanged (state_of z me)
  pub no_spare : HaveNoSpare (held_in me.1)

module _ {V : Type 0} (hash : Name → ℕ) (w : WordsState) (p : PassState V) (tz : TableId) (key set : Settings) (z : TableId) (me : Hand V) (f : Fits w p tz key set z me) (t : ℕ) (seated : IsSeated z me) (highest : IsHighest t p.stripes) (spare : HaveNoSpare p.stripes) where
  -- it is the highest that the seat has
  l : Last z me.0 me.1 t
  l = last z me.0 me.1 t seated (subst (λ (q : PassState V). IsHighest t q.stripes) (sym f.pass_is) highest)

  inside : t < 2 ^ w.settings.s
  inside = subst (λ n. t < n) (ap (λ (x : TableId). x.slots) (ap (λ (q : PassState V). q.table) f.pass_is ∙ (f.own.0 ∙ sym (ap (λ (x : WordsState). x.table) f.words_are))) ∙ slots_are hash w p tz key set z me f) l.inside

  abbrev pub unchanged_held : Type 0
  unchanged_held = me.0.held ≡ reverse (contents_of (held_in me.1))

  pub held_now : IsUnchanged p → unchanged_held
  held_now u = let e : contents_of (held_in me.1) ≡ reverse me.0.held = subst IsUnchanged (sym f.pass_is) u in sym (ap reverse e ∙ reverse-reverse me.0.held)

  pub word_fits : Fits64 w64 (t * 8)
  word_fits =
      let small : 2 ^ w.settings.s ≤ 2 ^ 10 = pow-le-pow_right {n = 2} (omega arith) (subst (λ (x : WordsState). x.settings.s ≤ 10) f.words_are f.laid.range.stripes) in
      let i = inside in
      let low : t * 8 < 2 ^ 13 = omega arith in
      Fits-bits 13 tt low

  abbrev inside_key : t < 2 ^ key.s
  inside_key = below_key hash w p tz key set z me f t inside

  split : p.stripes ≡ held_in l.out ++ l.stripe ∷ []
  split = ap (λ (q : PassState V). q.stripes) (sym f.pass_is) ∙ l.split

  own_key : IsAtHome key.s t l.stripe
  own_key = (l.own.0, l.own.1 ∙ ap (λ (x : Settings). x.s) (same_settings hash w p tz key set z me f ∙ same_key hash w p tz key set z me f), spare_last p.stripes (held_in l.out) l.stripe split spare)

  now_held : Holds (contents_in me.1) t l.stripe.content
  now_held = subst (λ slots. Holds (contents_in slots) t l.stripe.content) (sym l.front) (inl (refl, refl))

  -- what the stripes contain now, as the view has them
  abbrev pub now : Stripes V
  now = reverse (contents_of (held_in me.1))

  lasts_by : (me2 : Hand V) {u : View V} → me2.0 ≡ u → u.settings ≡ me.0.settings → u.by ≡ me.0.by → found_held u ≡ found_held me.0 → me.0.told ≤ u.told → me2.0.told ≤ w.settings.max → HasWatched me2.0 → Lasts hash w p tz key set z me f me2
  lasts_by me2 row settings by found told most watched = record { settings = ap (λ (v : View V). v.settings) row ∙ settings; by = ap (λ (v : View V). v.by) row ∙ by; found = ap found_held row ∙ found; told = subst (λ n. me.0.told ≤ n) (sym (ap (λ (v : View V). v.told) row)) told; most = most; watched = watched }

  -- the key's layout
  abbrev k : Layout
  k = layout_of hash key

  -- the first stripe goes home by the move for its number and for what the stripes contain
  module _ (move : ℕ → Stripes V → Label V) where
    abbrev pub told_by : Settings → ℕ → Hand V → Type 0
    told_by x n m2 = SeatGives hash x (move n (contents_in me.1)) me m2

    -- what is asked of its store
    abbrev pub IsReady : ℕ → ℕ → Type 0
    IsReady slots id = (z ≡ tz) × (t * 8 < tz.words) × Allows (RuleOf hash key) slots id me (t * 8) (λ _. 0) (λ _. told_by me.0.settings (t * 8 / 8))

    ready : (slots id : ℕ) → Allows (RuleOf hash key) slots id me (t * 8) (λ _. 0) (λ _. told_by key t) → IsReady slots id
    ready slots id h =
        (same_table hash w p tz key set z me f, word_inside hash w p tz key set z me f t inside, settled hash w p tz key set z me f (λ x n. Allows (RuleOf hash key) slots id me (t * 8) (λ _. 0) (λ _. told_by x n)) t h)

    -- it went home, and the others are still held
    record Gone (me2 : Hand V) : Type 0 where
      slots_left : me2.1 ≡ l.out
      step : Steps hash w.settings (move t now) me.0 me2.0

    gone : (me2 : Hand V) → told_by me.0.settings (t * 8 / 8) me2 → Gone me2
    gone me2 h =
        let here : told_by w.settings t me2 = told hash w p tz key set z me f (λ x n. told_by x n me2) t h in
        record { slots_left = here.0 ∙ ap rest l.front; step = subst (λ ks. Steps hash w.settings (move t ks) me.0 me2.0) l.now here.1 }

    sends : (z2 : TableId) (me2 : Hand V) → Gone me2 → Sends hash w move p (state_of z2 me2)
    sends z2 me2 g = subst (λ (q : PassState V). Sends hash w move q (state_of z2 me2)) f.pass_is (
      l.stripe,
      l.split ∙ ap (λ has. held_in has ++ l.stripe ∷ []) (sym g.slots_left),
      subst (λ n. Steps hash w.settings (move n now) me.0 me2.0) (sym l.own.0) g.step,
    )

    -- the view tells of the others
    record Tells (me2 : Hand V) : Type 0 where
      lasts : Lasts hash w p tz key set z me f me2
      held : me2.0.held ≡ without t now

    gone_seated : (z2 : TableId) (me2 : Hand V) → Gone me2 → Tells me2 → z2 ≡ z → IsSeated z2 me2
    gone_seated z2 me2 g v same = subst (λ (x : TableId × List (ℕ × StripeSlot V)). IsSeated x.0 (me2.0, x.1)) (λ i. (sym same i, sym g.slots_left i)) (l.left me2.0 v.lasts.settings (v.held ∙ l.others))

    gone_unchanged : (z2 : TableId) (me2 : Hand V) → Gone me2 → Tells me2 → IsUnchanged (state_of z2 me2)
    gone_unchanged z2 me2 g v = ap (λ has. contents_of (held_in has)) g.slots_left ∙ sym (ap reverse (v.held ∙ l.others) ∙ reverse-reverse (contents_of (held_in l.out)))

    went : (z2 : TableId) (me2 : Hand V) → z2 ≡ z → (g : Gone me2) → Tells me2 → Went hash w move p z2 me2
    went z2 me2 same g v = record { seated = gone_seated z2 me2 g v same; own = own_after hash w p tz key set z me f z2 me2 same v.lasts; sends = sends z2 me2 g; unchanged = gone_unchanged z2 me2 g v; no_spare = subst (λ slots. HaveNoSpare (held_in slots)) (sym g.slots_left) (spare_rest p.stripes (held_in l.out) l.stripe split spare) }

  module _ (g : Option (Name × Reason)) (u : IsUnchanged p) where
    abbrev pub give_move : ℕ → Stripes V → Label V
    give_move n ks = Give n g

    -- what excuses it of the stripes, excuses it of the view
    excused_held : (Lawful (layout_of hash w.settings) (contents_of p.stripes) → IsExcused (layout_of hash w.settings) w.settings.min_load (contents_of p.stripes) g) → Lawful k me.0.held → IsExcused k key.min_load me.0.held g
    excused_held excused lawful =
        let here : Lawful k (contents_of (held_in me.1)) → IsExcused k key.min_load (contents_of (held_in me.1)) g =
        subst (λ (x : Settings × PassState V). Lawful (layout_of hash x.0) (contents_of x.1.stripes) → IsExcused (layout_of hash x.0) x.0.min_load (contents_of x.1.stripes) g) (λ i. (same_key hash w p tz key set z me f i, sym f.pass_is i)) excused in
        let round : reverse me.0.held ≡ contents_of (held_in me.1) = ap reverse (held_now u) ∙ reverse-reverse (contents_of (held_in me.1)) in
        let back : Lawful k (contents_of (held_in me.1)) = subst (Lawful k) round (lawful_reverse k me.0.held lawful) in
        subst (λ hs. IsExcused k key.min_load hs g) (sym (held_now u)) (excused_reverse k (contents_of (held_in me.1)) back key.min_load g (here back))

    pub give_ready : (slots id : ℕ) → (Lawful (layout_of hash w.settings) (contents_of p.stripes) → IsExcused (layout_of hash w.settings) w.settings.min_load (contents_of p.stripes) g)
        → IsReady give_move slots id
    give_ready slots id excused =
        let holds : Holds me.0.held t l.stripe.content = subst (λ (hs : Stripes V). Holds hs t l.stripe.content) (sym (held_now u ∙ l.first)) (inl (refl, refl)) in
        ready give_move slots id (give_allowed hash key slots id me t l.stripe l.out l.front inside_key own_key g holds (excused_held excused))

    give_tells : (me2 : Hand V) → Gone give_move me2 → Tells give_move me2
    give_tells me2 gone =
        let row = give_row hash w.settings me.0 me2.0 t g gone.step in
        record { lasts = lasts_by me2 row refl refl (found_by (Gave []) gone.step.before t (giving me.0 t gone.step.does.1 me.0.held g)) (omega arith) (shows_after hash w.settings (Give t g) me.0 me2.0 gone.step).most (shows_after hash w.settings (Give t g) me.0 me2.0 gone.step).watched; held = ap (λ (v : View V). v.held) row ∙ ap (without t) (held_now u) }

    pub give_went : (z2 : TableId) (me2 : Hand V) → z2 ≡ z → told_by give_move me.0.settings (t * 8 / 8) me2 → Went hash w give_move p z2 me2
    give_went z2 me2 same h = let g = gone give_move me2 h in went give_move z2 me2 same g (give_tells me2 g)

  module _ (g : Option (Name × Reason)) where
    abbrev pub renew_move : ℕ → Stripes V → Label V
    renew_move n ks = Renew n ks g

    pub renew_ready : (slots id : ℕ) → (Lawful (layout_of hash w.settings) (reverse p.view.held) → IdentitySection (layout_of hash w.settings) (reverse p.view.held) (contents_of p.stripes))
        → (Lawful (layout_of hash w.settings) (reverse p.view.held) → HasGrounds (layout_of hash w.settings) w.settings.min_load (contents_of p.stripes) g)
        → IsReady renew_move slots id
    renew_ready slots id sec grounds =
        let here : Lawful k (reverse me.0.held) → IdentitySection k (reverse me.0.held) (contents_of (held_in me.1)) =
        subst (λ (x : Settings × PassState V). Lawful (layout_of hash x.0) (reverse x.1.view.held) → IdentitySection (layout_of hash x.0) (reverse x.1.view.held) (contents_of x.1.stripes)) (λ i. (same_key hash w p tz key set z me f i, sym f.pass_is i)) sec in
        let turned_sec : Lawful k me.0.held → IdentitySection k me.0.held (contents_in me.1) =
        λ lawful. subst (λ ks. IdentitySection k me.0.held ks) (sym l.now) (identity_turned k me.0.held (contents_of (held_in me.1)) lawful here) in
        let given : Lawful k (reverse me.0.held) → HasGrounds k key.min_load (contents_of (held_in me.1)) g =
        subst (λ (x : Settings × PassState V). Lawful (layout_of hash x.0) (reverse x.1.view.held) → HasGrounds (layout_of hash x.0) x.0.min_load (contents_of x.1.stripes) g) (λ i. (same_key hash w p tz key set z me f i, sym f.pass_is i)) grounds in
        let turned_grounds : Lawful k me.0.held → Lawful k (contents_in me.1) → HasGrounds k key.min_load (contents_in me.1) g =
        λ before lawful. subst (λ ks. HasGrounds k key.min_load ks g) (sym l.now)
        (has_grounds_reverse k (contents_of (held_in me.1)) (subst (Lawful k) (ap reverse l.now ∙ reverse-reverse (contents_of (held_in me.1))) (lawful_reverse k (contents_in me.1) lawful)) key.min_load g (given (lawful_reverse k me.0.held before))) in
        ready renew_move slots id (renew_allowed hash key slots id me t l.stripe l.out l.front inside_key own_key now_held g turned_sec turned_grounds)

    renew_tells : (me2 : Hand V) → Gone renew_move me2 → Tells renew_move me2
    renew_tells me2 gone = let row = renew_row hash w.settings me.0 me2.0 t now g gone.step in record { lasts = lasts_by me2 row refl refl (found_by (Gave now) gone.step.before t (renewing me.0 t gone.step.does.1 now g)) (omega arith) (shows_after hash w.settings (Renew t now g) me.0 me2.0 gone.step).most (shows_after hash w.settings (Renew t now g) me.0 me2.0 gone.step).watched; held = ap (λ (v : View V). v.held) row }

    pub renew_went : (z2 : TableId) (me2 : Hand V) → z2 ≡ z → told_by renew_move me.0.settings (t * 8 / 8) me2 → Went hash w renew_move p z2 me2
    renew_went z2 me2 same h = let g = gone renew_move me2 h in went renew_move z2 me2 same g (renew_tells me2 g)

  module _ (e : Entry V) where
    abbrev pub decide_move : ℕ → Stripes V → Label V
    decide_move n ks = Decide n ks e

    pub decide_ready : (slots id : ℕ) → p.view.by ≡ Some e.by → (Lawful (layout_of hash w.settings) (reverse p.view.held) → Section (layout_of hash w.settings) (reverse p.view.held) e.call e.reply (contents_of p.stripes))
        → IsReady decide_move slots id
    decide_ready slots id by sec =
        let here : Lawful k (reverse me.0.held) → Section k (reverse me.0.held) e.call e.reply (contents_of (held_in me.1)) =
        subst (λ (x : Settings × PassState V). Lawful (layout_of hash x.0) (reverse x.1.view.held) → Section (layout_of hash x.0) (reverse x.1.view.held) e.call e.reply (contents_of x.1.stripes)) (λ i. (same_key hash w p tz key set z me f i, sym f.pass_is i)) sec in
        let turned_sec : Lawful k me.0.held → Section k me.0.held e.call e.reply (contents_in me.1) =
        λ lawful. subst (λ ks. Section k me.0.held e.call e.reply ks) (sym l.now) (section_turned k me.0.held (contents_of (held_in me.1)) e.call e.reply lawful here) in
        ready decide_move slots id (decide_allowed hash key slots id me t l.stripe l.out l.front inside_key own_key now_held e (ap (λ (q : PassState V). q.view.by) f.pass_is ∙ by) turned_sec)

    decide_tells : (me2 : Hand V) → Gone decide_move me2 → Tells decide_move me2
    decide_tells me2 gone = let row = decide_row hash w.settings me.0 me2.0 t now e gone.step in record { lasts = lasts_by me2 row refl refl (found_by (Decided e now) gone.step.before t (deciding me.0 t now gone.step.log e)) (omega arith) (shows_after hash w.settings (Decide t now e) me.0 me2.0 gone.step).most (shows_after hash w.settings (Decide t now e) me.0 me2.0 gone.step).watched; held = ap (λ (v : View V). v.held) row }

    pub decide_went : (z2 : TableId) (me2 : Hand V) → z2 ≡ z → told_by decide_move me.0.settings (t * 8 / 8) me2 → Went hash w decide_move p z2 me2
    decide_went z2 me2 same h = let g = gone decide_move me2 h in went decide_move z2 me2 same g (decide_tells me2 g)
