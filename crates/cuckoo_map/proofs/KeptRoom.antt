-- A call in a locked table that takes no free slot: what had room has it still.
use Rattle.std.proofs.Common.{◌≡◌, ℕ, ◌%◌, ◌^◌, List, Option, Some, None, IsSome, is_some, IfNone, refl, sym, ◌∙◌, ap, subst}
use mathlib.Core.Logic.{dite}
use Rattle.std.specs.Prelude.{OnSome}
use Rattle.std.specs.FinMap.{get}
use Rattle.std.proofs.lemmas.Bool.{false≢true}
use Rattle.std.proofs.lemmas.Option.{none-some}
use Rattle.ck_model.specs.declared.history.Act.{Act}
use Rattle.ck_model.specs.declared.history.Act.TheVariants.{Find, Update, Change}
use Rattle.ck_model.specs.declared.history.Reply.{Reply}
use Rattle.ck_model.specs.Promise.{Name, Answers}
use Rattle.ck_model.specs.Slots.{Slot, slot_at, IsFull}
use Rattle.ck_model.specs.Contents.{Layout, layout_of, IsBucketOf, bindings, bucket_in}
use Rattle.ck_model.specs.Paths.{HasNoRoom}
use Rattle.ck_model.proofs.Names.{dec_name}
use Rattle.ck_stripe.specs.Stripe.{StripeState}
use Rattle.ck_stripe.specs.Stripes.{bucket_at, contents_of}
use Rattle.ck_section.specs.declared.place.KeyPlace.{KeyPlace}
use Rattle.ck_section.specs.Calls.{IsWithRoom, KeepsFree, ChangesContents}
use Rattle.ck_section.proofs.Decided.{IsCallOn}
use Rattle.ck_section.proofs.Kept.{power_kept}
use Rattle.ck_section.proofs.Tables.{bucket_is}
use Rattle.ck_words.specs.Words.{WordsState}
use Rattle.ck_words.specs.Passes.{PassState}
use Rattle.cuckoo_map.specs.Locking.{LockedState, locked_of, IsLocked, KeepsRoom}
use Rattle.cuckoo_map.proofs.Sessions.{of_table, acted, acted_locked, has_room_left}

module _ {V : Type 0} where
  -- a name that is unbound now was so
  abbrev UnbindsNone : Act V → Reply V → Type 0
  UnbindsNone act reply = (old new : Option V) → Answers act old reply new → new ≡ None → old ≡ None

  pub find_unbinds_none : (reply : Reply V) → UnbindsNone Find reply
  find_unbinds_none reply None new answers none = refl
  find_unbinds_none reply (Some v) new answers none = absurd (none-some v (sym none ∙ answers.1))

  pub update_unbinds_none : (u : V) (reply : Reply V) → UnbindsNone (Update u) reply
  update_unbinds_none u reply None new answers none = refl
  update_unbinds_none u reply (Some v) new answers none = absurd (none-some u (sym none ∙ answers.1))

  pub change_unbinds_none : (reply : Reply V) → UnbindsNone Change reply
  change_unbinds_none reply None new answers none = refl
  change_unbinds_none reply (Some v) new answers none = absurd (none-some answers.0 (sym none ∙ answers.2))

  -- The table is locked, as s shows it. A call was made on its stripes, in which each free slot stayed free.
  module _ {hash : Name → ℕ} {w : WordsState} {p : PassState V} {s : LockedState V} (l : IsLocked hash w p) (is : locked_of w p ≡ s) (place : KeyPlace) (same : place.s ≡ s.caller.table.settings.s)
      (name : Name) (q : PassState V) (kept : q ≡ record p { stripes = q.stripes }) (act : Act V) (reply : Reply V) (changes : ChangesContents p.stripes q.stripes)
      (call : IsCallOn hash place.s p.stripes name act reply q.stripes) (free : KeepsFree p.stripes q.stripes) where
    abbrev k : Layout
    k = layout_of hash w.settings

    now : IsLocked hash w q
    now = acted_locked l is place same name q kept act reply changes call

    -- a bucket that is full was
    full_before : (b : ℕ) → IsFull (bucket_in k (contents_of q.stripes) b) → IsFull (bucket_in k (contents_of p.stripes) b)
    full_before b full i below =
        subst (λ (slots : List (Slot V)). IsSome (slot_at slots i)) (sym (bucket_is w.settings.s p.stripes l.table hash w.settings.max l.renewed.lawful b)) (taken _ refl)
      where
        taken : (slot : Slot V) → slot_at (bucket_at p.stripes (b % 2 ^ w.settings.s) b) i ≡ slot → IsSome slot
        taken (Some e) there = refl
        taken None there =
            let some : IsSome (slot_at (bucket_at q.stripes (b % 2 ^ w.settings.s) b) i) =
            subst (λ (slots : List (Slot V)). IsSome (slot_at slots i)) (bucket_is w.settings.s q.stripes now.table hash w.settings.max now.renewed.lawful b) (full i below) in
            absurd (false≢true (sym (ap is_some (free (b % 2 ^ w.settings.s) b i there)) ∙ some))

    step_is : Answers act (get (bindings (contents_of p.stripes)) name) reply (get (bindings (contents_of q.stripes)) name)
    step_is = (acted hash w p l place (of_table l is place same name q kept act reply) name act reply q.stripes call).step.0

    -- each name that had room has it still, if the call's own had no binding before where it has no room now
    keeps_room : (HasNoRoom k (contents_of q.stripes) name → get (bindings (contents_of p.stripes)) name ≡ None) → KeepsRoom hash s (locked_of w q)
    keeps_room own = subst (λ (x : LockedState V). KeepsRoom hash x (locked_of w q)) is (λ r had. record {
      is = λ none. had.is (record {
        unbound = was_unbound r none;
        full = λ b of. full_before b (none.full b (subst (λ n. IsBucketOf hash n r b) (sym (power_kept p.stripes q.stripes changes)) of));
      });
    })
      where
        was_unbound : (r : Name) → HasNoRoom k (contents_of q.stripes) r → get (bindings (contents_of p.stripes)) r ≡ None
        was_unbound r none = dite (dec_name r name)
            (λ e. subst (λ (x : Name). get (bindings (contents_of p.stripes)) x ≡ None) (sym e) (own (subst (λ (x : Name). HasNoRoom k (contents_of q.stripes) x) e none)))
            (λ ne. sym ((acted hash w p l place (of_table l is place same name q kept act reply) name act reply q.stripes call).step.1 r ne) ∙ none.unbound)

    -- so it is where the act unbinds nothing,
    pub changed_keeps_room : UnbindsNone act reply → KeepsRoom hash s (locked_of w q)
    changed_keeps_room unbinds = keeps_room (λ none. unbinds _ _ step_is none.unbound)

    -- and where it leaves room for what it unbinds
    pub erased_keeps_room : (o : Option V) → IfNone o (q.stripes ≡ p.stripes) → OnSome o (IsWithRoom hash place.s q.stripes name) → KeepsRoom hash s (locked_of w q)
    erased_keeps_room None alike room = keeps_room (λ none. subst (λ (ss : List (StripeState V)). get (bindings (contents_of ss)) name ≡ None) alike none.unbound)
    erased_keeps_room (Some v) alike room = keeps_room (λ none. absurd ((has_room_left l is place same name q kept act reply changes call (Some v) room).is none))
