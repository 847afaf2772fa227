-- Passes are joined to one, which then has the numbers of all.
use Rattle.std.proofs.Common.{◌≡◌, ◌⊎◌, ℕ, List, [], ◌∷◌, ◌++◌, append-nil, refl, sym, ap, ◌∙◌, subst, ⊎_elim, inl, inr, Some}
use Rattle.std.specs.Prelude.{All}
use Rattle.std.specs.Option.{unwrap_or}
use Rattle.std.proofs.lemmas.List.Elements.{All-nil, All-head, All-tail, All-push, All-pop, All-weaker}
use Rattle.ck_model.specs.declared.history.Entry.{Entry}
use Rattle.ck_model.specs.Promise.{Name, StartsWith, IsInterleaving}
use Rattle.ck_model.specs.Numbered.{IsIn, numbers, Holds}
use Rattle.ck_model.proofs.Numbered.{held_either, held_first, held_second, in_either, in_first, in_second, in_held, held_of_in}
use Rattle.ck_model.proofs.Histories.{starts_itself}
use Rattle.ck_core.specs.declared.view.View.{View}
use Rattle.ck_core.specs.State.{own, owned}
use Rattle.ck_words.specs.Words.{WordsState}
use Rattle.ck_words.specs.Passes.{PassState, IsPassOf, ShowsSeen}
use Rattle.ck_words.specs.Closing.{number_of, parts_of, IsCaller, gathered, Gathers, Gathered}
use Rattle.ck_words.proofs.Staying.{starts_on}
use Rattle.ck_words.proofs.Reversed.{map-append}

module _ {V : Type 0} where
  gathered-more : (os : List (PassState V)) (o : PassState V) (l : List (ℕ × List (Entry V))) → gathered (os ++ o ∷ []) l ≡ owned o.view ++ gathered os l
  gathered-more [] o l = refl
  gathered-more (x ∷ os) o l = gathered-more os o (owned x.view ++ l)

  pub gathered_none : (hash : Name → ℕ) (w : WordsState) (p : PassState V) → IsPassOf w p → ShowsSeen hash w.settings p → Gathered hash w p [] p
  gathered_none hash w p own shows = record { own = own; by = refl; mine = refl; others = refl; held = refl; stripes = refl; seen = starts_itself p.view.seen; saw = All-nil (λ (o : PassState V). StartsWith p.view.seen o.view.seen); watched = ([], sym (append-nil p.view.watched)); each_watched = All-nil (λ (o : PassState V). StartsWith p.view.watched o.view.watched); shows = shows }

  pub gathered_more : (hash : Name → ℕ) (w : WordsState) (p o q r : PassState V) (os : List (PassState V)) → Gathered hash w p os q → Gathers hash w.settings q o r → IsPassOf w r → Gathered hash w p (os ++ o ∷ []) r
  gathered_more hash w p o q r os g k own = record {
    own = own;
    by = k.by ∙ g.by;
    mine = k.mine ∙ g.mine;
    others = k.others ∙ (ap (λ (l : List (ℕ × List (Entry V))). owned o.view ++ l) g.others ∙ sym (gathered-more os o p.view.others));
    held = k.held ∙ g.held;
    stripes = k.stripes ∙ g.stripes;
    seen = starts_on p.view.seen q.view.seen r.view.seen g.seen k.seen;
    saw = All-push (λ (x : PassState V). StartsWith r.view.seen x.view.seen) os o
        (All-weaker (λ (x : PassState V). StartsWith q.view.seen x.view.seen) (λ (x : PassState V). StartsWith r.view.seen x.view.seen) (λ x s. starts_on x.view.seen q.view.seen r.view.seen s k.seen) os g.saw) k.heard;
    watched = starts_on p.view.watched q.view.watched r.view.watched g.watched k.watched;
    each_watched = All-push (λ (x : PassState V). StartsWith r.view.watched x.view.watched) os o
        (All-weaker (λ (x : PassState V). StartsWith q.view.watched x.view.watched) (λ (x : PassState V). StartsWith r.view.watched x.view.watched) (λ x s. starts_on x.view.watched q.view.watched r.view.watched s k.watched) os g.each_watched) k.heard_watched;
    shows = k.shows;
  }

  module _ (w : WordsState) where
    -- what a caller has is its own
    owned_alone : (o : PassState V) → IsCaller w o → owned o.view ≡ (number_of o, o.view.mine) ∷ []
    owned_alone o c = (λ i. own (c.number.1 i) o.view.mine ++ c.alone i) ∙ (λ i. (unwrap_or (sym c.number.1 i) 0, o.view.mine) ∷ [])

    kept_gathered : (os : List (PassState V)) (l : List (ℕ × List (Entry V))) (m : ℕ) (es : List (Entry V)) → Holds l m es → Holds (gathered os l) m es
    kept_gathered [] l m es h = h
    kept_gathered (o ∷ os) l m es h = kept_gathered os (owned o.view ++ l) m es (held_second (owned o.view) l m es h)

    in_gathered : (os : List (PassState V)) (l : List (ℕ × List (Entry V))) (m : ℕ) (es : List (Entry V)) → All (IsCaller w) os → Holds (parts_of os) m es → Holds (gathered os l) m es
    in_gathered [] l m es a h = absurd h
    in_gathered (o ∷ os) l m es a h = ⊎_elim
        (λ (e : (number_of o ≡ m) × (o.view.mine ≡ es)). kept_gathered os (owned o.view ++ l) m es (held_first (owned o.view) l m es (subst (λ (x : List (ℕ × List (Entry V))). Holds x m es) (sym (owned_alone o (All-head (IsCaller w) o os a))) (inl e))))
        (λ (r : Holds (parts_of os) m es). in_gathered os (owned o.view ++ l) m es (All-tail (IsCaller w) o os a) r) h

    of_gathered : (os : List (PassState V)) (l : List (ℕ × List (Entry V))) (m : ℕ) → All (IsCaller w) os → IsIn m (numbers (gathered os l)) → IsIn m (numbers (parts_of os)) ⊎ IsIn m (numbers l)
    of_gathered [] l m a i = inr i
    of_gathered (o ∷ os) l m a i = ⊎_elim
        (λ (r : IsIn m (numbers (parts_of os))). inl (inr r))
        (λ (r : IsIn m (numbers (owned o.view ++ l))). ⊎_elim
        (λ (t : IsIn m (numbers (owned o.view))). inl (⊎_elim (λ (e : number_of o ≡ m). inl e) (λ z. absurd z) (subst (λ (x : List (ℕ × List (Entry V))). IsIn m (numbers x)) (owned_alone o (All-head (IsCaller w) o os a)) t)))
        (λ (t : IsIn m (numbers l)). inr t)
        (in_either (owned o.view) l m r))
        (of_gathered os (owned o.view ++ l) m (All-tail (IsCaller w) o os a) i)

    parts-more : (os : List (PassState V)) (p : PassState V) → parts_of (os ++ p ∷ []) ≡ parts_of os ++ (number_of p, p.view.mine) ∷ []
    parts-more os p = map-append (λ (x : PassState V). (number_of x, x.view.mine)) os (p ∷ [])

    -- the pass has the numbers of all, with their entries, and no others
    module _ (os : List (PassState V)) (p : PassState V) (callers : All (IsCaller w) (os ++ p ∷ [])) (v : View V) (by : v.by ≡ p.view.by) (mine : v.mine ≡ p.view.mine) (others : v.others ≡ gathered os []) where
      fronts : All (IsCaller w) os
      fronts = (All-pop (IsCaller w) (os ++ p ∷ []) os (Some p) refl callers).0

      last_one : IsCaller w p
      last_one = (All-pop (IsCaller w) (os ++ p ∷ []) os (Some p) refl callers).1

      all_owned : owned v ≡ (number_of p, p.view.mine) ∷ gathered os []
      all_owned = (λ i. own (by i) (mine i) ++ others i) ∙ (λ i. own (last_one.number.1 i) p.view.mine ++ gathered os []) ∙ (λ i. (unwrap_or (sym last_one.number.1 i) 0, p.view.mine) ∷ gathered os [])

      pub owned_of_parts : (m : ℕ) (es : List (Entry V)) → Holds (parts_of (os ++ p ∷ [])) m es → Holds (owned v) m es
      owned_of_parts m es h = subst (λ (x : List (ℕ × List (Entry V))). Holds x m es) (sym all_owned)
          (⊎_elim (λ (t : Holds (parts_of os) m es). inr (in_gathered os [] m es fronts t)) (λ (t : Holds ((number_of p, p.view.mine) ∷ []) m es). ⊎_elim (λ (e : (number_of p ≡ m) × (p.view.mine ≡ es)). inl e) (λ z. absurd z) t)
          (held_either (parts_of os) ((number_of p, p.view.mine) ∷ []) m es (subst (λ (x : List (ℕ × List (Entry V))). Holds x m es) (parts-more os p) h)))

      pub parts_of_owned : (m : ℕ) → IsIn m (numbers (owned v)) → IsIn m (numbers (parts_of (os ++ p ∷ [])))
      parts_of_owned m i = subst (λ (x : List (ℕ × List (Entry V))). IsIn m (numbers x)) (sym (parts-more os p))
          (⊎_elim (λ (e : number_of p ≡ m). in_second (parts_of os) ((number_of p, p.view.mine) ∷ []) m (inl e))
          (λ (r : IsIn m (numbers (gathered os []))). ⊎_elim (λ (t : IsIn m (numbers (parts_of os))). in_first (parts_of os) ((number_of p, p.view.mine) ∷ []) m t) (λ z. absurd z) (of_gathered os [] m fronts r))
          (subst (λ (x : List (ℕ × List (Entry V))). IsIn m (numbers x)) all_owned i))

      pub owned_numbers : (m : ℕ) → IsIn m (numbers (parts_of (os ++ p ∷ []))) → IsIn m (numbers (owned v))
      owned_numbers m i = let d = held_of_in (parts_of (os ++ p ∷ [])) m i in in_held (owned v) m d.0 (owned_of_parts m d.0 d.1)

      pub interleaved : (log : List (Entry V)) → IsInterleaving log (owned v) → IsInterleaving log (parts_of (os ++ p ∷ []))
      interleaved log s = record {
        each = λ m es h. s.each m es (owned_of_parts m es h);
        no_others = λ m out. s.no_others m (λ i. out (parts_of_owned m i));
      }
