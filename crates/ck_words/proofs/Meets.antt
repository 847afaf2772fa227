-- What a meeting and a joined pass leave, from what their steps tell.
use Rattle.std.proofs.Common.{◌≡◌, ℕ, List, [], ◌∷◌, append-nil, sym, ap, refl, subst}
use Rattle.ck_model.specs.Promise.{Name, StartsWith}
use Rattle.ck_model.specs.Contents.{layout_of}
use Rattle.ck_core.specs.declared.trace.LockEvent.{LockEvent}
use Rattle.ck_core.specs.declared.view.View.{View}
use Rattle.ck_core.specs.Laws.{Shows}
use Rattle.ck_core.specs.Steps.{longer, joining, message_of}
use Rattle.ck_core.specs.Steps.Label.{Look}
use Rattle.ck_words.specs.Words.{WordsState}
use Rattle.atomic_table.specs.Seated.{TableId}
use Rattle.ck_words.specs.Rule.{Hand}
use Rattle.ck_words.specs.Passes.{PassState, LooksUp}
use Rattle.ck_words.specs.Meeting.{Hears, told_by}
use Rattle.ck_words.specs.Closing.{Gathers}
use Rattle.ck_words.proofs.Rows.{shows_before, shows_after, look_row, look_told}
use Rattle.ck_words.proofs.Staying.{starts_on}

module _ {V : Type 0} where
  -- the longer of two begins with the first
  longer_first : (xs ys : List (LockEvent V)) → StartsWith (longer xs ys) xs
  longer_first [] ys = (ys, refl)
  longer_first (x ∷ xs) [] = ([], sym (append-nil (x ∷ xs)))
  longer_first (x ∷ xs) (y ∷ ys) = let rest = longer_first xs ys in (rest.0, ap {B = List (LockEvent V)} (λ l. x ∷ l) rest.1)

  -- b heard what the view u had seen
  abbrev pub heard : PassState V → View V → PassState V
  heard b u = record b { view = joining b.view u }

  -- and then looked
  module _ (hash : Name → ℕ) (w : WordsState) (b q : PassState V) (u : View V) (k : LooksUp hash w (heard b u) q) where
    abbrev looked : PassState V
    looked = record { table = q.table; view = record (joining b.view u) { seen = k.1.2.log; told = k.1.0; watched = k.1.2.before.trace }; stripes = b.stripes }

    is_looked : q ≡ looked
    is_looked = λ i. record { table = q.table; view = look_row hash w.settings (joining b.view u) q.view 0 k.1.0 k.1.2 i; stripes = k.0 i }

    -- the trace begins with what was watched by then
    saw : StartsWith k.1.2.before.trace (joining b.view u).watched
    saw = let h = (k.1.2.law.traced.watched k.1.2.id (joining b.view u) k.1.2.was).sees in (h.unseen, h.begins)

    before : Shows (layout_of hash w.settings) w.settings.callers k.1.2.log (joining b.view u)
    before = shows_before hash w.settings (Look 0 k.1.0) (joining b.view u) q.view k.1.2

    after : Shows (layout_of hash w.settings) w.settings.callers k.1.2.log looked.view
    after = subst (Shows (layout_of hash w.settings) w.settings.callers k.1.2.log) (ap (λ (x : PassState V). x.view) is_looked) (shows_after hash w.settings (Look 0 k.1.0) (joining b.view u) q.view k.1.2)

  module _ (hash : Name → ℕ) (w : WordsState) (p q : PassState V) where
    pub gathers : (b o : PassState V) → p ≡ heard b o.view → LooksUp hash w p q → Gathers hash w.settings b o q
    gathers b o is l =
        let k : LooksUp hash w (heard b o.view) q = subst (λ x. LooksUp hash w x q) is l in
        let early = before hash w b q o.view k in
        let both = longer b.view.watched o.view.watched in
        subst (Gathers hash w.settings b o) (sym (is_looked hash w b q o.view k))
        (record { by = refl; mine = refl; others = refl; held = refl; stripes = refl; seen = early.seen; heard = early.heard; watched = starts_on b.view.watched both k.1.2.before.trace (longer_first b.view.watched o.view.watched) (saw hash w b q o.view k); heard_watched = starts_on o.view.watched both k.1.2.before.trace early.heard_watched (saw hash w b q o.view k); shows = after hash w b q o.view k })

    pub hears : (b : PassState V) (table : TableId) (me : Hand V) → p ≡ heard b (message_of me.0) → LooksUp hash w p q → Hears (told_by table me) b q
    hears b table me is l =
        let u : View V = message_of me.0 in
        let k : LooksUp hash w (heard b u) q = subst (λ x. LooksUp hash w x q) is l in
        let early = before hash w b q u k in
        let both = longer b.view.watched me.0.watched in
        subst (Hears (told_by table me) b) (sym (is_looked hash w b q u k)) (record {
          seen = early.seen;
          heard = early.heard;
          told = look_told hash w.settings (joining b.view u) q.view 0 k.1.0 k.1.2;
          heard_told = k.1.1;
          watched = starts_on b.view.watched both k.1.2.before.trace (longer_first b.view.watched me.0.watched) (saw hash w b q u k);
          heard_watched = starts_on me.0.watched both k.1.2.before.trace early.heard_watched (saw hash w b q u k);
          by = refl;
          mine = refl;
          others = refl;
          doublings = refl;
          steps = refl;
          grown_from = refl;
          no_slot = refl;
          held = refl;
          stripes = refl;
        })
