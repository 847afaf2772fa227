-- What a table leaves at its end.
use Rattle.std.proofs.Common.{◌≡◌, ℕ, ◌^◌, ◌<◌, ◌≤◌, List, [], ◌∷◌, ◌++◌, length, reverse, refl, sym, ap, ◌∙◌, subst, arith, inl, Some}
use Rattle.std.specs.Option.{unwrap_or}
use Rattle.std.specs.FinMap.{from_entries}
use Rattle.std.specs.Prelude.{All}
use Rattle.std.proofs.lemmas.List.Elements.{All-push, All-pop, AllZip-push}
use Rattle.std.proofs.Math.Nat.{one-le-pow}
use Rattle.ck_model.specs.declared.contents.Content.{Content}
use Rattle.ck_model.specs.declared.history.Entry.{Entry}
use Rattle.ck_model.specs.Promise.{Name, After, StartsWith}
use Rattle.ck_model.specs.Numbered.{IsIn, numbers, Holds}
use Rattle.ck_model.specs.Contents.{Layout, layout_of, Stripes, Lawful, pairs_of, bindings, power_of, NamesApart}
use Rattle.ck_model.proofs.Doubling.{pairs_apart}
use Rattle.ck_stripe.specs.Stripes.{contents_of}
use Rattle.ck_words.specs.Words.{WordsState}
use Rattle.ck_words.specs.Passes.{PassState, IsPassOf, IsIdle}
use Rattle.ck_words.specs.Retries.{Stays}
use Rattle.ck_words.specs.Closing.{IsWhole, number_of, parts_of, IsCaller, AreAllPasses, EachStays, gathered, Gathered, AreContentsOf, Closes}
use Rattle.ck_words.proofs.Reversed.{map-append, in_reverse, in_of_reverse, of_reverse, lawful_reverse, bindings-reverse}
use Rattle.ck_words.proofs.Staying.{starts_on, stays_same}
use Rattle.ck_model.proofs.Counting.{in_counting}
use Rattle.ck_words.proofs.Seating.{numbers-contents}
use Rattle.ck_words.proofs.Joining.{owned_numbers, interleaved}

-- a table has a pass
pub some_pass : {V : Type 0} (w : WordsState) (ps : List (PassState V)) → 1 ≤ w.settings.callers → AreAllPasses w ps → ¬ (length ps ≡ 0)
some_pass w [] some all none = all.all 0 some
some_pass w (p ∷ ps) some all none = omega arith

-- the power of stripes that are some is that of the first
first_power : {V : Type 0} (hs : Stripes V) (t : ℕ) → IsIn t (numbers hs) → (u : ℕ) × (c : Content V) × Holds hs u c × (c.power ≡ power_of hs)
first_power [] t i = absurd i
first_power (h ∷ hs) t i = (h.0, h.1, inl (refl, refl), refl)

-- all passes but the last are of callers, and so is the last
pub callers_apart : {V : Type 0} (w : WordsState) (os : List (PassState V)) (p : PassState V) → AreAllPasses w (os ++ p ∷ []) → All (IsCaller w) os × IsCaller w p
callers_apart w os p all = All-pop (IsCaller w) (os ++ p ∷ []) os (Some p) refl all.callers

module _ {V : Type 0} (w : WordsState) (os : List (PassState V)) (p p1 : PassState V) (all : AreAllPasses w (os ++ p ∷ [])) (stays : Stays p.view p1.view) where
  last_caller : IsCaller w p
  last_caller = (callers_apart w os p all).1

  same_parts : parts_of (os ++ p1 ∷ []) ≡ parts_of (os ++ p ∷ [])
  same_parts =
      map-append (λ (x : PassState V). (number_of x, x.view.mine)) os (p1 ∷ [])
      ∙ ((λ i. parts_of os ++ (unwrap_or (stays.by i) 0, stays.mine i) ∷ []) ∙ sym (map-append (λ (x : PassState V). (number_of x, x.view.mine)) os (p ∷ [])))

  -- refused
  pub all_back : IsPassOf w p1 → IsIdle p1 → AreAllPasses w (os ++ p1 ∷ [])
  all_back own idle =
      let c = last_caller in
      let fronts = (callers_apart w os p all).0 in
      record {
        callers = All-push (IsCaller w) os p1 fronts (record { own = own; idle = idle; alone = stays.others ∙ c.alone; number = (c.number.0, stays.by ∙ c.number.1, c.number.2) });
        all = λ m l. subst (λ (x : List (ℕ × List (Entry V))). IsIn m (numbers x)) (sym same_parts) (all.all m l);
      }

  each_same : (ps : List (PassState V)) → EachStays ps ps
  each_same [] = tt
  each_same (x ∷ ps) = (stays_same x.view, each_same ps)

  pub each_stays : EachStays (os ++ p ∷ []) (os ++ p1 ∷ [])
  each_stays = AllZip-push (λ (x y : PassState V). Stays x.view y.view) os os p p1 (each_same os) stays

  module _ (hash : Name → ℕ) (q : PassState V) (whole : IsWhole hash w.settings p1) (g : Gathered hash w p1 os q) where
    abbrev k : Layout
    k = layout_of hash w.settings

    contents : contents_of q.stripes ≡ reverse q.view.held
    contents = ap contents_of g.stripes ∙ (whole.unchanged ∙ ap reverse (sym g.held))

    has_all : (t : ℕ) → t < 2 ^ k.s → IsIn t (numbers q.view.held)
    has_all t l =
        let there : IsIn t (numbers (contents_of p1.stripes)) = subst (IsIn t) (sym (numbers-contents p1.stripes ∙ whole.all)) (in_counting (2 ^ k.s) t l) in
        subst (λ (hs : Stripes V). IsIn t (numbers hs)) (sym g.held) (in_of_reverse p1.view.held t (subst (λ (hs : Stripes V). IsIn t (numbers hs)) whole.unchanged there))

    lawful : Lawful k (contents_of q.stripes)
    lawful = subst (Lawful k) (sym contents) (lawful_reverse k q.view.held g.shows.lawful)

    leaves : After q.view.seen (from_entries (pairs_of (contents_of q.stripes)))
    unfolding bindings
    leaves = subst (λ m. After q.view.seen m) (sym (ap bindings contents ∙ bindings-reverse k q.view.held g.shows.lawful)) (g.shows.all_held has_all)

    -- the table has a power that it may have
    power_there : w.settings.power ≤ power_of (contents_of q.stripes)
    power_there =
        let one : 1 ≤ 2 ^ w.settings.s = one-le-pow w.settings.s 2 (omega arith) in
        let there : IsIn 0 (numbers (contents_of q.stripes)) = subst (λ (hs : Stripes V). IsIn 0 (numbers hs)) (sym contents) (in_reverse q.view.held 0 (has_all 0 (omega arith))) in
        let c = first_power (contents_of q.stripes) 0 there in
        let told : q.view.told ≤ c.1.power = (g.shows.told c.0 c.1 (of_reverse q.view.held c.0 c.1 (subst (λ (hs : Stripes V). Holds hs c.0 c.1) contents c.2))).0 in
        let least = g.own.4 in
        let same = c.3 in
        omega arith

    of_table : AreContentsOf hash w.settings (contents_of q.stripes)
    of_table = record {
      lawful = lawful;
      all = λ t l. subst (λ (hs : Stripes V). IsIn t (numbers hs)) (sym contents) (in_reverse q.view.held t (has_all t l));
      power = power_there;
    }

    poured_map : (pairs : List (Name × V)) → pairs ≡ pairs_of (contents_of q.stripes) → bindings (contents_of q.stripes) ≡ from_entries pairs
    unfolding bindings
    poured_map pairs poured = ap from_entries (sym poured)

    pub pairs_distinct : (pairs : List (Name × V)) → pairs ≡ pairs_of (contents_of q.stripes) → NamesApart pairs
    pairs_distinct pairs poured = subst NamesApart (sym poured) (pairs_apart k (contents_of q.stripes) lawful)

    -- all passes were joined, and the pairs of all stripes were poured
    pub closes : (pairs : List (Name × V)) → pairs ≡ pairs_of (contents_of q.stripes) → Closes hash w.settings (os ++ p ∷ []) (from_entries pairs)
    closes pairs poured =
        let by = g.by ∙ stays.by in
        let mine = g.mine ∙ stays.mine in
        let others : q.view.others ≡ gathered os [] = g.others ∙ ap (gathered os) (stays.others ∙ last_caller.alone) in
        record {
          log = q.view.seen;
          interleaving = interleaved w os p all.callers q.view by mine others q.view.seen (g.shows.all_kept (λ m l. owned_numbers w os p all.callers q.view by mine others m (all.all m l)));
          trace = q.view.watched;
          legal = g.shows.watched.legal;
          decided = g.shows.all_decided (λ m l. owned_numbers w os p all.callers q.view by mine others m (all.all m l));
          watched = All-push (λ (x : PassState V). StartsWith q.view.watched x.view.watched) os p g.each_watched (starts_on p.view.watched p1.view.watched q.view.watched (stays.watched.0, stays.watched.1) g.watched);
          saw = All-push (λ (x : PassState V). StartsWith q.view.seen x.view.seen) os p g.saw (starts_on p.view.seen p1.view.seen q.view.seen stays.seen g.seen);
          after = subst (λ (l : List (Name × V)). After q.view.seen (from_entries l)) (sym poured) leaves;
          contents = contents_of q.stripes;
          of_table = of_table;
          binds = poured_map pairs poured;
        }
