-- Slots about whose pairs a closure was asked.
use Rattle.std.proofs.Common.{◌≡◌, ℕ, zero, suc, ◌<◌, Bool, true, false, cond, List, [], ◌∷◌, ◌++◌, Option, Some, None, refl, sym, ◌∙◌, ap, subst, map, flat_map, length, arith}
use Rattle.std.specs.Prelude.{All}
use Rattle.std.specs.Borrow.{Bor}
use Rattle.std.specs.Fn.{Called, Mut}
use Rattle.std.specs.Map.Calls.{RetainsPairs}
use Rattle.std.specs.Option.{option_to_list}
use Rattle.std.specs.FinMap.{find}
use Rattle.std.proofs.lemmas.List.{map-append}
use Rattle.std.proofs.lemmas.Option.{none-some}
use Rattle.ck_model.specs.Promise.{Name, name_cmp}
use Rattle.ck_model.specs.Listing.{named}
use Rattle.ck_model.specs.Slots.{Slot, slot_at, taken_in}
use Rattle.ck_model.specs.Contents.{row_at, NamesApart}
use Rattle.ck_bucket.specs.Retaining.{CalledAtPair, AsksAboutSlot, AsksAboutRow, AsksAboutRows}
use Rattle.ck_bucket.proofs.InTurn.{length-each}
use Rattle.ck_bucket.proofs.RowSlots.{Rewrites, row-after, row-met, taken-cons}

four_cons : {X : Type 0} (row : List X) (rows : List (List X)) → length row ≡ 4 → All (λ (r : List X). length r ≡ 4) rows → All (λ (r : List X). length r ≡ 4) (row ∷ rows)
four_cons row rows four rest zero d lt = four
four_cons row rows four rest (suc i) d lt = rest i d (omega arith)

module _ {F K V : Type 0} (g : Mut F (Bor K × (Bor V × Unit {0})) Bool) where
  -- f was asked about each pair in turn, and left as f'
  abbrev pub RetainsTo : F → List (K × V) → List (K × V) → F → Type 0
  RetainsTo f [] kept f' = (kept ≡ []) × (f' ≡ f)
  RetainsTo f (e ∷ es) kept f' = (b : Bool) × (h : F) × (rest : List (K × V)) × CalledAtPair g f e.0 e.1 b e.1 h × RetainsTo h es rest f' × (kept ≡ cond b (e ∷ rest) rest)

  pub retains_pairs : (f : F) (all kept : List (K × V)) (f' : F) → RetainsTo f all kept f' → RetainsPairs (CalledAtPair g) f all kept
  retains_pairs f [] kept f' r = r.0
  retains_pairs f (e ∷ es) kept f' r = (r.0, e.1, r.1, r.2, r.3, retains_pairs r.1 es r.2 f' r.4, r.5)

  cond-append : (b : Bool) (e : K × V) (rest more : List (K × V)) → cond b (e ∷ rest) rest ++ more ≡ cond b (e ∷ (rest ++ more)) (rest ++ more)
  cond-append true e rest more = refl
  cond-append false e rest more = refl

  retains-append : (f : F) (all kept : List (K × V)) (h : F) (more left : List (K × V)) (f' : F) → RetainsTo f all kept h → RetainsTo h more left f' → RetainsTo f (all ++ more) (kept ++ left) f'
  retains-append f [] kept h more left f' r s =
      subst (λ (l : List (K × V)). RetainsTo f more (l ++ left) f') (sym r.0) (subst (λ x. RetainsTo x more left f') r.1 s)
  retains-append f (e ∷ es) kept h more left f' r s =
      (r.0, r.1, r.2 ++ left, r.3, retains-append r.1 es r.2 h more left f' r.4 s, ap (λ (l : List (K × V)). l ++ left) r.5 ∙ cond-append r.0 e r.2 left)

  module _ (name : K → Name) where
    -- f was asked about pairs of these names and values, and for those of new the answer was true
    pub record AsksAbout (f : F) (old new : List (Name × V)) (f' : F) : Type 0 where
      pub all : List (K × V)
      pub kept : List (K × V)
      pub lists : map (named name) all ≡ old
      pub left : map (named name) kept ≡ new
      pub asked : RetainsTo f all kept f'

    pub asks-none : (f : F) → AsksAbout f [] [] f
    asks-none f = record { all = []; kept = []; lists = refl; left = refl; asked = (refl, refl) }

    pub asks-append : (f : F) (old new : List (Name × V)) (h : F) (more left : List (Name × V)) (f' : F) → AsksAbout f old new h → AsksAbout h more left f' → AsksAbout f (old ++ more) (new ++ left) f'
    asks-append f old new h more left f' a b = record {
      all = a.all ++ b.all;
      kept = a.kept ++ b.kept;
      lists = map-append (named name) a.all b.all ∙ (λ j. a.lists j ++ b.lists j);
      left = map-append (named name) a.kept b.kept ∙ (λ j. a.left j ++ b.left j);
      asked = retains-append f a.all a.kept h b.all b.kept f' a.asked b.asked;
    }

    -- a slot without a pair
    pub asks_nothing : (f : F) (slot after : Slot V) → slot ≡ None → after ≡ slot → AsksAboutSlot g name f slot after f
    asks_nothing f slot after none same = subst (λ (s : Slot V). AsksAboutSlot g name f s after f) (sym none) (same ∙ none, refl)

    -- a slot with a pair, of which the closure answered b
    pub asks_once : (f f' : F) (key : Bor K) (value : Bor V) (r b : Bool) (slot after : Slot V) → Called g f (key, (value, tt)) r f' → r ≡ b → Some (name key.now, value.now) ≡ slot → after ≡ cond b slot None
        → AsksAboutSlot g name f slot after f'
    asks_once f f' key value r b slot after called answer is =
        let pair : CalledAtPair g f key.now value.now b value.now f' = record {
          key = key;
          value = value;
          shows = (refl, refl);
          called = subst (λ (x : Bool). Called g f (key, (value, tt)) x f') answer called;
          stays = refl;
        } in
        subst (λ (s : Slot V). after ≡ cond b s None → AsksAboutSlot g name f s after f') is (λ e. (key.now, b, refl, pair, e))

    -- the four slots of row r, one after the other
    pub asks_four : {r : ℕ} {before first second third after : List (List (Slot V))} {w x y z : Slot V} (writes : Rewrites r before first second third after w x y z) → r < length before → (f f1 f2 f3 f4 : F)
        → AsksAboutSlot g name f (slot_at (row_at before r) 0) w f1 → AsksAboutSlot g name f1 (slot_at (row_at first r) 1) x f2 → AsksAboutSlot g name f2 (slot_at (row_at second r) 2) y f3 → AsksAboutSlot g name f3 (slot_at (row_at third r) 3) z f4
        → AsksAboutRow g name f (row_at before r) (row_at after r) f4
    asks_four writes lt f f1 f2 f3 f4 one two three four =
        subst (λ (p : List (Slot V) × List (Slot V)). AsksAboutRow g name f p.0 p.1 f4) (λ j. (sym (row-met writes) j, sym (row-after writes lt) j)) (f1, one, (f2, two, (f3, three, (f4, four, refl))))

    left_of : (f f' : F) (k : K) (v : V) (q : Name) (b : Bool) → name k ≡ q → CalledAtPair g f k v b v f' → AsksAbout f ((q, v) ∷ []) (option_to_list (cond b (Some (q, v)) None)) f'
    left_of f f' k v q true is called = record {
      all = (k, v) ∷ [];
      kept = (k, v) ∷ [];
      lists = ap (λ n. (n, v) ∷ []) is;
      left = ap (λ n. (n, v) ∷ []) is;
      asked = (true, f', [], called, (refl, refl), refl);
    }
    left_of f f' k v q false is called = record {
      all = (k, v) ∷ [];
      kept = [];
      lists = ap (λ n. (n, v) ∷ []) is;
      left = refl;
      asked = (false, f', [], called, (refl, refl), refl);
    }

    asks-slot : (f : F) (slot after : Slot V) (f' : F) → AsksAboutSlot g name f slot after f' → AsksAbout f (option_to_list slot) (option_to_list after) f'
    asks-slot f None after f' h =
        subst (λ (s : Slot V). AsksAbout f [] (option_to_list s) f') (sym h.0) (subst (AsksAbout f [] []) (sym h.1) (asks-none f))
    asks-slot f (Some e) after f' h =
        subst (λ (s : Slot V). AsksAbout f (e ∷ []) (option_to_list s) f') (sym h.4) (left_of f f' h.0 e.1 e.0 h.1 h.2 h.3)

    asks-row : (f : F) (row after : List (Slot V)) (f' : F) → AsksAboutRow g name f row after f' → AsksAbout f (taken_in row) (taken_in after) f'
    asks-row f [] [] f' h = subst (AsksAbout f [] []) (sym h) (asks-none f)
    asks-row f [] (t ∷ after) f' h = absurd h
    asks-row f (s ∷ row) [] f' h = absurd h
    asks-row f (s ∷ row) (t ∷ after) f' h =
        subst (λ (x : List (Name × V) × List (Name × V)). AsksAbout f x.0 x.1 f') (λ j. (sym (taken-cons s row) j, sym (taken-cons t after) j))
        (asks-append f (option_to_list s) (option_to_list t) h.0 (taken_in row) (taken_in after) f' (asks-slot f s t h.0 h.1) (asks-row h.0 row after f' h.2))

    -- f was asked about the pairs in all rows
    pub asks-rows : (f : F) (rows after : List (List (Slot V))) (f' : F) → AsksAboutRows g name f rows after f' → AsksAbout f (flat_map taken_in rows) (flat_map taken_in after) f'
    asks-rows f [] [] f' h = subst (AsksAbout f [] []) (sym h) (asks-none f)
    asks-rows f [] (t ∷ after) f' h = absurd h
    asks-rows f (s ∷ rows) [] f' h = absurd h
    asks-rows f (s ∷ rows) (t ∷ after) f' h =
        asks-append f (taken_in s) (taken_in t) h.0 (flat_map taken_in rows) (flat_map taken_in after) f' (asks-row f s t h.0 h.1) (asks-rows h.0 rows after f' h.2)

    -- what is in a slot then was there
    was_there : (f : F) (slot after : Slot V) (f' : F) → AsksAboutSlot g name f slot after f' → (e : Name × V) → after ≡ Some e → slot ≡ Some e
    was_there f None after f' h e is = absurd (none-some e (sym h.0 ∙ is))
    was_there f (Some x) after f' h e is = go h.1 h.4
      where
        go : (b : Bool) → after ≡ cond b (Some x) None → Some x ≡ Some e
        go true same = sym same ∙ is
        go false gone = absurd (none-some e (sym gone ∙ is))

    was_in_row : (f : F) (row after : List (Slot V)) (f' : F) → AsksAboutRow g name f row after f' → (i : ℕ) (e : Name × V) → slot_at after i ≡ Some e → slot_at row i ≡ Some e
    was_in_row f [] [] f' h i e is = is
    was_in_row f [] (t ∷ after) f' h i e is = absurd h
    was_in_row f (s ∷ row) [] f' h i e is = absurd h
    was_in_row f (s ∷ row) (t ∷ after) f' h zero e is = was_there f s t h.0 h.1 e is
    was_in_row f (s ∷ row) (t ∷ after) f' h (suc i) e is = was_in_row h.0 row after f' h.2 i e is

    pub was_in_rows : (f : F) (rows after : List (List (Slot V))) (f' : F) → AsksAboutRows g name f rows after f' → (r i : ℕ) (e : Name × V) → slot_at (row_at after r) i ≡ Some e → slot_at (row_at rows r) i ≡ Some e
    was_in_rows f [] [] f' h r i e is = is
    was_in_rows f [] (t ∷ after) f' h r i e is = absurd h
    was_in_rows f (s ∷ rows) [] f' h r i e is = absurd h
    was_in_rows f (s ∷ rows) (t ∷ after) f' h zero i e is = was_in_row f s t h.0 h.1 i e is
    was_in_rows f (s ∷ rows) (t ∷ after) f' h (suc r) i e is = was_in_rows h.0 rows after f' h.2 r i e is

    -- rows of four stay so
    pub four_after : (f : F) (rows after : List (List (Slot V))) (f' : F) → AsksAboutRows g name f rows after f' → All (λ (row : List (Slot V)). length row ≡ 4) rows → All (λ (row : List (Slot V)). length row ≡ 4) after
    four_after f [] [] f' h four = four
    four_after f [] (t ∷ after) f' h four = absurd h
    four_after f (s ∷ rows) [] f' h four = absurd h
    four_after f (s ∷ rows) (t ∷ after) f' h four =
        four_cons t after (length-each (AsksAboutSlot g name) f s t h.0 h.1 ∙ four 0 [] (omega arith)) (four_after h.0 rows after f' h.2 (λ i d lt. four (suc i) d (omega arith)))

    absent_more : (b : Bool) (v : V) (old new : Option V) → (old ≡ None → new ≡ None) → cond b (Some v) old ≡ None → cond b (Some v) new ≡ None
    absent_more true v old new less none = none
    absent_more false v old new less none = less none

    tail_absent : (b : Bool) (v : V) (old : Option V) → cond b (Some v) old ≡ None → old ≡ None
    tail_absent true v old none = absurd (none-some v (sym none))
    tail_absent false v old none = none

    absent_kept : (f : F) (all kept : List (K × V)) (f' : F) → RetainsTo f all kept f' → (q : Name) → find name_cmp q (map (named name) all) ≡ None → find name_cmp q (map (named name) kept) ≡ None
    absent_kept f [] kept f' r q none = ap (λ (l : List (K × V)). find name_cmp q (map (named name) l)) r.0
    absent_kept f (e ∷ es) kept f' r q none =
        let again = absent_kept r.1 es r.2 f' r.4 q in
        ap (λ (l : List (K × V)). find name_cmp q (map (named name) l)) r.5
        ∙ elim r.0 as (λ b. find name_cmp q (map (named name) (cond b (e ∷ r.2) r.2)) ≡ None) [ true ↦ absent_more _ e.1 _ _ again none | false ↦ again (tail_absent _ e.1 _ none) ]

    apart_kept : (f : F) (all kept : List (K × V)) (f' : F) → RetainsTo f all kept f' → NamesApart (map (named name) all) → NamesApart (map (named name) kept)
    apart_kept f [] kept f' r apart = subst (λ (l : List (K × V)). NamesApart (map (named name) l)) (sym r.0) tt
    apart_kept f (e ∷ es) kept f' r apart =
        let rest = apart_kept r.1 es r.2 f' r.4 apart.1 in
        subst (λ (l : List (K × V)). NamesApart (map (named name) l)) (sym r.5)
        (elim r.0 as (λ b. NamesApart (map (named name) (cond b (e ∷ r.2) r.2))) [ true ↦ (absent_kept r.1 es r.2 f' r.4 (name e.0) apart.0, rest) | false ↦ rest ])

    -- a name that no pair had has none, and names that stood in one pair each do so
    pub absent_after : (f : F) (old new : List (Name × V)) (f' : F) → AsksAbout f old new f' → (q : Name) → find name_cmp q old ≡ None → find name_cmp q new ≡ None
    absent_after f old new f' a q none =
        subst (λ (l : List (Name × V)). find name_cmp q l ≡ None) a.left (absent_kept f a.all a.kept f' a.asked q (subst (λ (l : List (Name × V)). find name_cmp q l ≡ None) (sym a.lists) none))

    pub apart_after : (f : F) (old new : List (Name × V)) (f' : F) → AsksAbout f old new f' → NamesApart old → NamesApart new
    apart_after f old new f' a apart = subst NamesApart a.left (apart_kept f a.all a.kept f' a.asked (subst NamesApart (sym a.lists) apart))
