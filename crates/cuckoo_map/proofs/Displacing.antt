-- What a caller leaves of its pass while it displaces entries.
use Rattle.std.proofs.Common.{◌≡◌, ℕ, List, [], ◌++◌, reverse, append_assoc, refl, sym, ap, ◌∙◌, subst}
use Rattle.ck_model.specs.Promise.{Name}
use Rattle.ck_model.specs.Contents.{layout, Stripes, Lawful}
use Rattle.ck_model.specs.Sections.{IdentitySection}
use Rattle.ck_stripe.specs.Stripes.{contents_of}
use Rattle.ck_section.specs.Hops.{IsNoCall}
use Rattle.ck_core.specs.declared.view.RoomNote.{RoomNote}
use Rattle.ck_core.specs.declared.view.View.{View}
use Rattle.ck_core.specs.State.{found_held}
use Rattle.ck_words.specs.Words.{WordsState}
use Rattle.ck_words.specs.Passes.{PassState, IsPassOf, IsIdle, IsUnchanged}
use Rattle.ck_words.specs.Retries.{Stays, FindsAmong}
use Rattle.ck_words.specs.Holding.{HasReleased}
use Rattle.ck_words.specs.Renewing.{HasRenewed}
use Rattle.ck_words.proofs.Staying.{last_since, stays_same, stays_then, stays_on}
use Rattle.cuckoo_map.specs.Displacing.{FindsAny, IsBackBut, IsBack, IsBusyAnywhere}

module _ {V : Type 0} where
  pub any_on : (p q r : PassState V) → FindsAny p q → FindsAny q r → FindsAny p r
  any_on p q r f g = (g.0 ++ f.0, g.1 ∙ (ap (λ l. g.0 ++ l) f.1 ∙ sym (append_assoc g.0 f.0 (found_held p.view))))

  pub any_among : (P : ℕ → Type 0) (p q : PassState V) → FindsAmong P p q → FindsAny p q
  any_among P p q f = (f.0, f.1)

  module _ (w : WordsState) where
    pub back_same : (p : PassState V) → IsPassOf w p → IsIdle p → IsBack w p p
    back_same p own idle = record { own = own; idle = idle; stays = stays_same p.view; found = ([], refl) }

    pub back_then : (xs ys : List (RoomNote V)) (p q r : PassState V) → IsBackBut w xs p q → IsBackBut w ys q r → IsBackBut w (ys ++ xs) p r
    back_then xs ys p q r f g = record { own = g.own; idle = g.idle; stays = stays_then xs ys p.view q.view r.view f.stays g.stays; found = any_on p q r f.found g.found }

    pub back_on : (p q r : PassState V) → IsBack w p q → IsBack w q r → IsBack w p r
    back_on p q r f g = back_then [] [] p q r f g

    pub busy_on : (t : ℕ) (p q r : PassState V) → IsBack w p q → IsBusyAnywhere w.settings t q r → IsBusyAnywhere w.settings t p r
    busy_on t p q r f busy = record {
      stays = stays_on p.view q.view r.view f.stays busy.stays;
      stripe = busy.stripe;
      tried = last_since w.settings.turns t p q r f.stays.by f.own.2 f.stays.watched busy.tried;
      others = busy.others;
      missed = busy.missed;
    }

  -- stripes were taken, and went home when the call had worked on them
  pub back_home : {v w : WordsState} → v ≡ w → (P : ℕ → Type 0) (p p1 p2 z : PassState V) → Stays p.view p1.view → FindsAmong P p p1 → p2.view ≡ p1.view → HasReleased v p2 z → IsBack w p z
  back_home {v} {w} is P p p1 p2 z stays f same home = record {
    own = subst (λ (x : WordsState). IsPassOf x z) is home.own;
    idle = home.idle;
    stays = stays_on p.view p1.view z.view stays (subst (λ (u : View V). Stays u z.view) same home.stays);
    found = (f.0, home.found ∙ (ap found_held same ∙ f.1));
  }

  -- what a hop made of the stripes that were taken
  pub renewed : {hash : Name → ℕ} {v w : WordsState} {s : ℕ} → v ≡ w → s ≡ w.settings.s → (p1 p2 : PassState V) → IsUnchanged p1 → p2.view ≡ p1.view → IsNoCall hash s p1.stripes p2.stripes → HasRenewed hash v.settings p2
  renewed {hash} {v} {w} {s} is same p1 p2 unchanged view none =
      let old : contents_of p1.stripes ≡ reverse p2.view.held = unchanged ∙ ap (λ (u : View V). reverse u.held) (sym view) in
      let done : HasRenewed hash w.settings p2 = subst (λ (x : ℕ × Stripes V). Lawful (layout hash x.0 w.settings.max) x.1 → IdentitySection (layout hash x.0 w.settings.max) x.1 (contents_of p2.stripes)) (λ j. (same j, old j)) (none w.settings.max) in
      subst (λ (x : WordsState). HasRenewed hash x.settings p2) (sym is) done
