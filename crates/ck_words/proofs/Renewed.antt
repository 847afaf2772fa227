-- The highest stripe goes home with what it contains now, and the rest after it.
use Rattle.std.proofs.lemmas.List.{reverse-reverse}
use Rattle.std.proofs.Common.{◌≡◌, ℕ, List, [], ◌∷◌, ◌++◌, reverse, append-nil, refl, sym, ap, ◌∙◌, subst, arith, Option, Some, None}
use Rattle.ck_model.specs.declared.history.Reason.{Reason}
use Rattle.ck_model.specs.Promise.{Name}
use Rattle.ck_model.specs.Contents.{Stripes}
use Rattle.ck_stripe.specs.Stripes.{contents_of}
use Rattle.ck_core.specs.declared.view.RoomNote.{RoomNote}
use Rattle.ck_core.specs.declared.view.View.{View}
use Rattle.ck_core.specs.declared.trace.LockStep.TheVariants.{Gave}
use Rattle.ck_core.specs.State.{found_held}
use Rattle.ck_core.specs.Steps.{giving, renewing, noted, gaining}
use Rattle.ck_core.specs.Steps.Label.{Give, Renew}
use Rattle.ck_words.specs.Words.{WordsState}
use Rattle.ck_words.specs.Passes.{PassState, Sends, IsUnchanged}
use Rattle.ck_words.specs.Retries.{StaysBut, as_doubled}
use Rattle.ck_words.specs.Holding.{HasReleased}
use Rattle.ck_words.specs.Renewing.{HasRefused}
use Rattle.ck_words.proofs.Rows.{found_by, gave_by, gave, watched_quiet, give_row, renew_row}
use Rattle.ck_words.proofs.Staying.{gives_one, gives_on, stays_on, stays_then}

gaining-append : {V : Type 0} (l : List (RoomNote V)) (hs : Stripes V) (why : Option (Name × Reason)) → gaining l hs why ≡ gaining [] hs why ++ l
gaining-append l hs None = refl
gaining-append l hs (Some g) = refl

module _ {V : Type 0} (hash : Name → ℕ) (w : WordsState) (p q : PassState V) where
  -- what the stripes contain now, the last taken first
  abbrev now : Stripes V
  now = reverse (contents_of p.stripes)

  module _ (why : Option (Name × Reason)) (g : Sends hash w (λ t ks. Renew t ks why) p q) where
    renewed_view : q.view ≡ gave_by (Gave now) g.2.before g.0.number (renewing p.view g.0.number g.2.does.1 now why)
    renewed_view = renew_row hash w.settings p.view q.view g.0.number now why g.2

    found_renewed : found_held q.view ≡ found_held p.view
    found_renewed = ap found_held renewed_view ∙ found_by (Gave now) g.2.before g.0.number (renewing p.view g.0.number g.2.does.1 now why)

    -- also where more went home since, as it was
    stays_renewing : (r : View V) → r.doublings ≡ q.view.doublings → r.grown_from ≡ q.view.grown_from → StaysBut (gaining [] now why) (record p.view { doublings = r.doublings; grown_from = r.grown_from }) q.view
    stays_renewing r same as_noted = subst (λ (x : ℕ × List (Stripes V)). StaysBut (gaining [] now why) (record p.view { doublings = x.0; grown_from = x.1 }) q.view) (λ i. (sym same i, sym as_noted i))
        (subst (λ (v : View V). StaysBut (gaining [] now why) (record p.view { doublings = v.doublings; grown_from = v.grown_from }) v) (sym renewed_view)
        (record { settings = refl; by = refl; mine = refl; others = refl; heard = (refl, refl, refl); no_slot = gaining-append p.view.no_slot now why; seen = ([], sym (append-nil p.view.seen)); by_others = λ m e. refl; alone = λ _. refl; watched = watched_quiet hash w.settings (Renew g.0.number now why) p.view q.view g.2 (Gave now) g.0.number refl; told = omega arith; doublings = refl; grown_from = refl }))

  pub released_renewed : Sends hash w (λ t ks. Renew t ks None) p q → (r : PassState V) → HasReleased w q r → HasReleased w (as_doubled p r) r
  released_renewed g r rest = record {
    own = rest.own;
    idle = rest.idle;
    stays = stays_on (as_doubled p r).view q.view r.view (stays_renewing None g r.view rest.stays.doublings rest.stays.grown_from) rest.stays;
    found = rest.found ∙ found_renewed None g;
    seen = rest.seen ∙ ap (λ (v : View V). v.seen) (renewed_view None g);
    given = gives_on p.view q.view r.view (gives_one p.view q.view g.0.number now (ap (λ (v : View V). v.steps) (renewed_view None g))) rest.given;
  }

  -- it told that a name found no room
  pub refused_on : (name : Name) (why : Reason) → Sends hash w (λ t ks. Renew t ks (Some (name, why))) p q → (r : PassState V) → HasReleased w q r → HasRefused w name why (as_doubled p r) r
  refused_on name why g r rest = record {
    own = rest.own;
    idle = rest.idle;
    stays = subst (λ (hs : Stripes V). StaysBut (noted name why hs ∷ []) (as_doubled p r).view r.view) (reverse-reverse (contents_of p.stripes))
        (stays_then (noted name why (reverse now) ∷ []) [] (as_doubled p r).view q.view r.view (stays_renewing (Some (name, why)) g r.view rest.stays.doublings rest.stays.grown_from) rest.stays);
    found = rest.found ∙ found_renewed (Some (name, why)) g;
    seen = rest.seen ∙ ap (λ (v : View V). v.seen) (renewed_view (Some (name, why)) g);
  }

  -- it went home as it was, and told so
  module _ (name : Name) (why : Reason) (g : Sends hash w (λ t _. Give t (Some (name, why))) p q) where
    given_view : q.view ≡ gave g.2.before g.0.number (giving p.view g.0.number g.2.does.1 p.view.held (Some (name, why)))
    given_view = give_row hash w.settings p.view q.view g.0.number (Some (name, why)) g.2

    stays_telling : StaysBut (noted name why (reverse p.view.held) ∷ []) p.view q.view
    stays_telling = subst (StaysBut (noted name why (reverse p.view.held) ∷ []) p.view) (sym given_view)
        (record { settings = refl; by = refl; mine = refl; others = refl; heard = (refl, refl, refl); no_slot = refl; seen = ([], sym (append-nil p.view.seen)); by_others = λ m e. refl; alone = λ _. refl; watched = watched_quiet hash w.settings (Give g.0.number (Some (name, why))) p.view q.view g.2 (Gave []) g.0.number refl; told = omega arith; doublings = refl; grown_from = refl })

    pub refused_giving : IsUnchanged p → (r : PassState V) → HasReleased w q r → HasRefused w name why p r
    refused_giving unchanged r rest = record {
      own = rest.own;
      idle = rest.idle;
      stays = subst (λ (hs : Stripes V). StaysBut (noted name why hs ∷ []) p.view r.view) (sym unchanged)
          (stays_then (noted name why (reverse p.view.held) ∷ []) [] p.view q.view r.view stays_telling rest.stays);
      found = rest.found ∙ (ap found_held given_view ∙ found_by (Gave []) g.2.before g.0.number (giving p.view g.0.number g.2.does.1 p.view.held (Some (name, why))));
      seen = rest.seen ∙ ap (λ (v : View V). v.seen) given_view;
    }
