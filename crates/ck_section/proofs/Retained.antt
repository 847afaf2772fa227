-- All stripes of a table, about whose pairs a closure was asked.
use Rattle.std.proofs.Common.{◌≡◌, inl, inr, ⊎_elim, ℕ, zero, suc, ◌*◌, ◌+◌, ◌^◌, ◌<◌, ◌≤◌, Bool, List, [], ◌∷◌, Option, Some, None, length, refl, sym, ◌∙◌, ap, subst, arith}
use Rattle.std.specs.Borrow.{Bor}
use Rattle.std.specs.Fn.{Mut}
use Rattle.std.specs.FinMap.{find, from_entries}
use Rattle.std.proofs.lemmas.Option.{none-some}
use Rattle.ck_model.specs.Promise.{Name, name_cmp}
use Rattle.ck_model.specs.Numbered.{AreDistinct, numbers, Holds}
use Rattle.ck_model.specs.Slots.{slot_at}
use Rattle.ck_model.specs.declared.contents.Content.{Content}
use Rattle.ck_model.specs.Contents.{Layout, layout, row_at, pairs_in, pairs_of, bindings, Binds, NamesApart, IsBucketOf, IsShaped, IsSound, Lawful}
use Rattle.ck_model.specs.Sections.{Renewed}
use Rattle.ck_model.proofs.Doubling.{pairs_apart}
use Rattle.ck_bucket.proofs.InTurn.{length-each}
use Rattle.ck_bucket.proofs.Asked.{AsksAbout, retains_pairs, asks-none, asks-append, asks-rows, was_in_rows, absent_after, apart_after}
use Rattle.ck_stripe.specs.Stripe.{StripeState}
use Rattle.ck_stripe.specs.Stripes.{stripe_at, contents_of}
use Rattle.ck_stripe.specs.Tables.{IsTable}
use Rattle.ck_section.specs.Calls.{ChangesContents}
use Rattle.ck_section.specs.Retaining.{AsksAboutStripe, AsksAboutStripes, RetainsBindings}

module _ {V : Type 0} (k : Layout) where
  -- one content has entries of another where they stood
  pub record Thins (c d : Content V) : Type 0 where
    pub shaped : IsShaped k.s d
    pub power : d.power ≡ c.power
    pub stood : (r i : ℕ) (e : Name × V) → slot_at (row_at d.rows r) i ≡ Some e → slot_at (row_at c.rows r) i ≡ Some e
    pub absent : (q : Name) → find name_cmp q (pairs_in c) ≡ None → find name_cmp q (pairs_in d) ≡ None
    pub apart : NamesApart (pairs_in c) → NamesApart (pairs_in d)

  sound_thinned : (t : ℕ) (c d : Content V) → Thins c d → IsSound k t c → IsSound k t d
  sound_thinned t c d thins sound = record {
    number = sound.number;
    most = subst (λ p. p ≤ k.max) (sym thins.power) sound.most;
    shaped = thins.shaped;
    placed = λ r i q v at. subst (λ p. IsBucketOf k.hash p q (r * 2 ^ k.s + t)) (sym thins.power) (sound.placed r i q v (thins.stood r i (q, v) at));
    apart = thins.apart sound.apart;
  }

  bound_before : (c d : Content V) → Thins c d → (q : Name) (v : V) → Binds d q v → (w : V) × Binds c q w
  bound_before c d thins q v binds = go (find name_cmp q (pairs_in c)) refl
    where
      go : (o : Option V) → find name_cmp q (pairs_in c) ≡ o → (w : V) × Binds c q w
      go None none = absurd (none-some v (sym (thins.absent q none) ∙ binds))
      go (Some w) is = (w, is)

module _ {F K V : Type 0} (g : Mut F (Bor K × (Bor V × Unit {0})) Bool) (name : K → Name) where
  asked_at : (f : F) (old new : List (StripeState V)) (f' : F) → AsksAboutStripes g name f old new f' → (i : ℕ) → i < length old → (h : F) × (h' : F) × AsksAboutStripe g name h (stripe_at old i) (stripe_at new i) h'
  asked_at f [] new f' a i lt = absurd (omega arith)
  asked_at f (t ∷ old) [] f' a i lt = absurd a
  asked_at f (t ∷ old) (u ∷ new) f' a zero lt = (f, a.0, a.1)
  asked_at f (t ∷ old) (u ∷ new) f' a (suc i) lt = asked_at a.0 old new f' a.2 i (omega arith)

  numbers_asked : (f : F) (old new : List (StripeState V)) (f' : F) → AsksAboutStripes g name f old new f' → numbers (contents_of new) ≡ numbers (contents_of old)
  numbers_asked f [] [] f' a = refl
  numbers_asked f [] (u ∷ new) f' a = absurd a
  numbers_asked f (t ∷ old) [] f' a = absurd a
  numbers_asked f (t ∷ old) (u ∷ new) f' a = λ j. (a.1.rest j).number ∷ numbers_asked a.0 old new f' a.2 j

  pairs_asked : (f : F) (old new : List (StripeState V)) (f' : F) → AsksAboutStripes g name f old new f' → AsksAbout g name f (pairs_of (contents_of old)) (pairs_of (contents_of new)) f'
  pairs_asked f [] [] f' a = subst (AsksAbout g name f [] []) (sym a) (asks-none g name f)
  pairs_asked f [] (u ∷ new) f' a = absurd a
  pairs_asked f (t ∷ old) [] f' a = absurd a
  pairs_asked f (t ∷ old) (u ∷ new) f' a =
      asks-append g name f (pairs_in t.content) (pairs_in u.content) a.0 (pairs_of (contents_of old)) (pairs_of (contents_of new)) f'
      (asks-rows g name f t.content.rows u.content.rows a.0 a.1.asked) (pairs_asked a.0 old new f' a.2)

  module _ (k : Layout) where
    thinned : (f : F) (t u : StripeState V) (f' : F) → t.s ≡ k.s → AsksAboutStripe g name f t u f' → Thins k t.content u.content
    thinned f t u f' of a =
        let asked = asks-rows g name f t.content.rows u.content.rows f' a.asked in
        let same : u.s ≡ k.s = ap (λ (x : StripeState V). x.s) a.rest ∙ of in
        record {
          shaped = subst (λ s. IsShaped s u.content) same a.shaped;
          power = a.power;
          stood = was_in_rows g name f t.content.rows u.content.rows f' a.asked;
          absent = absent_after g name f (pairs_in t.content) (pairs_in u.content) f' asked;
          apart = apart_after g name f (pairs_in t.content) (pairs_in u.content) f' asked;
        }

    held_before : (f : F) (old new : List (StripeState V)) (f' : F) → AsksAboutStripes g name f old new f' → ((i : ℕ) → i < length old → (stripe_at old i).s ≡ k.s)
        → (n : ℕ) (d : Content V) → Holds (contents_of new) n d → (c : Content V) × Holds (contents_of old) n c × Thins k c d
    held_before f old [] f' a of n d h = absurd h
    held_before f [] (u ∷ new) f' a of n d h = absurd a
    held_before f (t ∷ old) (u ∷ new) f' a of n d h =
        let here = thinned f t u a.0 (of 0 (omega arith)) a.1 in
        let number : t.number ≡ u.number = sym (ap (λ (x : StripeState V). x.number) a.1.rest) in
        let before = held_before a.0 old new f' a.2 (λ i l. of (suc i) (omega arith)) n d in
        ⊎_elim
        (λ (e : (u.number ≡ n) × (u.content ≡ d)). (t.content, inl (number ∙ e.0, refl), subst (Thins k t.content) e.1 here))
        (λ r. let z = before r in (z.0, inr z.1, z.2)) h

  -- The closure was asked about the pairs of all stripes.
  module _ (f : F) (old new : List (StripeState V)) (f' : F) (asked : AsksAboutStripes g name f old new f') where
    pub changes_retained : ChangesContents old new
    changes_retained = record {
      count = length-each (AsksAboutStripe g name) f old new f' asked;
      each = λ i l. (asked_at f old new f' asked i l).2.rest;
      power = λ i l. (asked_at f old new f' asked i l).2.power;
    }

    module _ (s : ℕ) (table : IsTable s old) (hash : Name → ℕ) (max : ℕ) where
      abbrev k : Layout
      k = layout hash s max

      before : (t : ℕ) (d : Content V) → Holds (contents_of new) t d → (c : Content V) × Holds (contents_of old) t c × Thins k c d
      before = held_before k f old new f' asked table.one_s

      lawful_retained : Lawful k (contents_of old) → Lawful k (contents_of new)
      lawful_retained lawful = record {
        distinct = subst AreDistinct (sym (numbers_asked f old new f' asked)) lawful.distinct;
        sound = λ t d h. let z = before t d h in sound_thinned k t z.0 d z.2 (lawful.sound t z.0 z.1);
        once = λ t u c d q v w h i b e.
            let x = before t c h in
            let y = before u d i in
            let one = bound_before k x.0 c x.2 q v b in
            let two = bound_before k y.0 d y.2 q w e in
            lawful.once t u x.0 y.0 q one.0 two.0 x.1 y.1 one.1 two.1;
        one_power = λ t u c d h i.
            let x = before t c h in
            let y = before u d i in
            x.2.power ∙ lawful.one_power t u x.0 y.0 x.1 y.1 ∙ sym y.2.power;
      }

      renewed_retained : Lawful k (contents_of old) → Renewed k (contents_of old) (contents_of new)
      renewed_retained lawful = record {
        same = numbers_asked f old new f' asked;
        lawful = lawful_retained lawful;
        power = inl (λ t u c d h i. let y = before u d i in y.2.power ∙ lawful.one_power u t y.0 c y.1 h);
      }

      pub retains : RetainsBindings g name f k old new
      unfolding bindings
      retains lawful =
          let pairs = pairs_asked f old new f' asked in (
            renewed_retained lawful,
            record {
              all = pairs.all;
              lists = ap from_entries pairs.lists;
              once = subst NamesApart (sym pairs.lists) (pairs_apart k (contents_of old) lawful);
              kept = pairs.kept;
              asked = retains_pairs g f pairs.all pairs.kept f' pairs.asked;
              left = ap from_entries pairs.left;
            },
          )
