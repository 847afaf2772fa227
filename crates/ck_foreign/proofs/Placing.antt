-- Handles and their places.
use Rattle.std.proofs.Common.{◌≡◌, ℕ, ◌<◌, List, map, length, slice_set, slice_index_or, sym, ap, ◌∙◌}
use Rattle.std.proofs.lemmas.List.{map-set, set-get_or, get_or-map, length-map}
use Rattle.ck_model.specs.Counting.{counting}
use Rattle.ck_model.specs.declared.settings.Settings.{Settings}
use Rattle.ck_model.proofs.Counting.{length-counting}
use Rattle.ck_words.specs.Words.{WordsState}
use Rattle.ck_words.specs.Closing.{dealt}
use Rattle.cuckoo_map.specs.Callers.{CallerState, callers_of}

-- a new table has as many callers as its settings say
pub as_many_callers : (w : WordsState) (set : Settings) (callers : List (CallerState ℕ)) → callers ≡ callers_of w (dealt w.table set (counting 0 set.callers)) → length callers ≡ set.callers
as_many_callers w set callers are =
    let passes = dealt {V = ℕ} w.table set (counting 0 set.callers) in
    ap length are ∙ length-map passes _ ∙ length-map (counting 0 set.callers) _ ∙ length-counting set.callers 0

-- Places are looked at one by one, each of which goes on holding what it held.
module _ {X Y : Type 0} (f : X → Y) (xs zs : List X) (i : ℕ) (x : X) (read : x ≡ slice_index_or xs i x) (kept : map f xs ≡ map f zs) where
  -- a place was written that holds the same
  pub held_as_before : (y : X) → f y ≡ f x → map f (slice_set xs i y) ≡ map f zs
  held_as_before y same =
      map-set f xs i y ∙ ap (slice_set (map f xs) i) same ∙ sym (map-set f xs i x) ∙ ap (map f) (ap (slice_set xs i) read ∙ set-get_or xs i x) ∙ kept

  -- what the place held at first
  pub held_at_first : (o : Y) → f x ≡ o → i < length xs → i < length zs → f (slice_index_or zs i x) ≡ o
  held_at_first o is lt within =
      sym (get_or-map f zs i x (f x) within) ∙ ap (λ ys. slice_index_or ys i (f x)) (sym kept) ∙ get_or-map f xs i x (f x) lt ∙ ap f (sym read) ∙ is
