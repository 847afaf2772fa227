-- What a refused insertion leaves of its pass.
use Rattle.std.proofs.Common.{◌≡◌, ℕ, ◌<◌, ◌^◌, List, [], ◌∷◌, ⊎_elim, inl, inr, sym, ◌∙◌, subst}
use Rattle.std.proofs.lemmas.List.Elements.{All-nil}
use Rattle.ck_model.specs.declared.history.Reason.TheVariants.{NoRoom}
use Rattle.ck_model.specs.declared.settings.Settings.{Settings}
use Rattle.ck_model.specs.Promise.{Name}
use Rattle.ck_model.specs.Contents.{layout_of, Stripes, IsStripeOf, Lawful}
use Rattle.ck_model.specs.Sections.{Owns}
use Rattle.ck_model.specs.Paths.{HasNoRoom}
use Rattle.ck_stripe.specs.Stripe.{StripeState}
use Rattle.ck_stripe.specs.Stripes.{contents_of}
use Rattle.ck_section.specs.declared.place.KeyPlace.{KeyPlace}
use Rattle.ck_section.specs.Calls.{IsWithoutRoom}
use Rattle.ck_section.proofs.Owned.{own_below}
use Rattle.ck_core.specs.declared.view.RoomNote.{RoomNote}
use Rattle.ck_core.specs.declared.view.View.{View}
use Rattle.ck_core.specs.Steps.{noted}
use Rattle.ck_core.specs.State.{found_held}
use Rattle.ck_words.specs.Words.{WordsState}
use Rattle.ck_words.specs.Passes.{PassState, IsPassOf, IsIdle}
use Rattle.ck_words.specs.Retries.{Stays, StaysBut}
use Rattle.ck_words.specs.Closing.{IsCaller}
use Rattle.ck_words.proofs.Staying.{stays_then}
use Rattle.ck_refusal.specs.declared.refusal.Why.{Why}
use Rattle.ck_refusal.specs.declared.refusal.Why.TheVariants.{Busy}
use Rattle.cuckoo_map.specs.Holding.{HoldsKeyBut}
use Rattle.cuckoo_map.specs.Refusals.{FindsOwn, FindsOwnUnlessFull, IsBusyAmong, IsBusyAt, IsRefused}
use Rattle.cuckoo_map.specs.Insertions.{FindsFull}
use Rattle.cuckoo_map.proofs.Counted.{loosely, grown_none}

module _ {V : Type 0} where
  -- where the name has no room among the stripes that its pass holds, the pass may say so
  pub excused : {hash : Name → ℕ} {w v : WordsState} {q : Name} {place : KeyPlace} {more : List (RoomNote V)} {p p1 : PassState V} → v ≡ w → HoldsKeyBut more hash w.settings q place p p1
      → (p2 : PassState V) → p2.stripes ≡ p1.stripes → IsWithoutRoom hash place.s p1.stripes q
      → Lawful (layout_of hash v.settings) (contents_of p2.stripes) → Owns (layout_of hash v.settings) (contents_of p2.stripes) q × HasNoRoom (layout_of hash v.settings) (contents_of p2.stripes) q
  excused {hash} {w} {v} {q} {place} {more} {p} {p1} is held p2 same room =
      let none : IsWithoutRoom hash w.settings.s p1.stripes q = subst (λ (s : ℕ). IsWithoutRoom hash s p1.stripes q) held.s room in
      subst (λ (x : WordsState × List (StripeState V)). Lawful (layout_of hash x.0.settings) (contents_of x.1) → Owns (layout_of hash x.0.settings) (contents_of x.1) q × HasNoRoom (layout_of hash x.0.settings) (contents_of x.1) q)
      (λ j. (sym is j, sym same j)) (λ lawful. (held.both, none w.settings.max lawful))

  -- it was told after the stripes were taken
  pub told_since : (q : Name) (hs : Stripes V) (p p1 p2 z : PassState V) → Stays p.view p1.view → p2.view ≡ p1.view → FindsFull q hs p2 z → FindsFull q hs p z
  told_since q hs p p1 p2 z s same h = let note : RoomNote V = noted q NoRoom hs in stays_then [] (note ∷ []) p.view p1.view z.view s (subst (λ (v : View V). StaysBut (note ∷ []) v z.view) same h)

  -- a stripe of the table was found held
  pub refused_among : (P : ℕ → Type 0) (hash : Name → ℕ) (set : Settings) → ((t : ℕ) → P t → t < 2 ^ set.s) → (q : Name) (t : ℕ) (p z : PassState V) → IsBusyAmong P set t p z → IsRefused hash set q (Busy t) p z
  refused_among P hash set below q t p z busy = record {
    more = [];
    stays = loosely busy.stays;
    own = All-nil _;
    shown = (below t busy.stripe, busy.tried, busy.others, busy.stays.doublings, busy.missed);
    grown = grown_none p z (busy.stays.doublings, busy.stays.grown_from);
  }

  pub refused_busy : (hash : Name → ℕ) (set : Settings) (q : Name) (t : ℕ) (p z : PassState V) → IsBusyAt hash set q t p z → IsRefused hash set q (Busy t) p z
  refused_busy hash set q = refused_among (IsStripeOf (layout_of hash set) q) hash set (own_below hash set.s q) q

  -- the pass of a refused insertion is a caller's still
  pub refused_caller : {hash : Name → ℕ} {w : WordsState} {q : Name} {why : Why} (p z : PassState V) → IsCaller w p → IsPassOf w z → IsIdle z → IsRefused hash w.settings q why p z → IsCaller w z
  refused_caller p z since own idle said = record {
    own = own;
    idle = idle;
    alone = said.stays.others ∙ since.alone;
    number = (since.number.0, said.stays.by ∙ since.number.1, since.number.2);
  }

  -- what was found held is of the name, also where the pass has found no other since
  pub found_own : (hash : Name → ℕ) (set : Settings) (q : Name) (p p1 z : PassState V) → FindsOwn hash set q p p1 → found_held z.view ≡ found_held p1.view → FindsOwnUnlessFull hash set q p z
  found_own hash set q p p1 z f same = (f.0, same ∙ f.1, (λ t i. inl (f.2 t i)))

  -- and where the pass was answered since, with no other said to be without room
  pub found_since : (hash : Name → ℕ) (set : Settings) (q : Name) (p p1 z : PassState V) → FindsOwnUnlessFull hash set q p p1 → found_held z.view ≡ found_held p1.view → z.view.no_slot ≡ p1.view.no_slot → FindsOwnUnlessFull hash set q p z
  found_since hash set q p p1 z f same said = (f.0, same ∙ f.1, (λ t i. ⊎_elim inl (λ x. inr (x.0, x.1, said ∙ x.2, x.3)) (f.2 t i)))
