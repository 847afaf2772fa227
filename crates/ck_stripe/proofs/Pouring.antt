-- Rows of slots are poured one after another into reserved room.
use Rattle.std.proofs.Common.{◌≡◌, ℕ, ◌+◌, ◌<◌, ◌≤◌, List, [], ◌∷◌, ◌++◌, get_or, length, map, take, sym, ◌∙◌, ap, length-append, arith}
use Rattle.std.specs.Prelude.{flat_map}
use Rattle.std.specs.Global.{Vec}
use Rattle.std.proofs.lemmas.List.{length-map, length-take-le, take_more, take_all, flat_map_more}
use Rattle.std.proofs.lemmas.List.Folds.{length-flat_map-take}
use Rattle.ck_model.specs.Promise.{Name}
use Rattle.ck_model.specs.Listing.{named}
use Rattle.ck_model.specs.Slots.{Slot, taken_in}

module _ {K V : Type 0} where
  -- there is room for four more
  room_left : (name : K → Name) (pairs start : List (K × V)) (poured rows : List (List (Slot V))) (room : ℕ) → map (named name) pairs ≡ map (named name) start ++ flat_map taken_in poured → poured ≡ take (length poured) rows
      → length poured < length rows → length start + length (flat_map taken_in rows) + 4 ≤ room → length pairs + 4 ≤ room
  room_left name pairs start poured rows room seen first more enough =
      let many : length pairs ≡ length start + length (flat_map taken_in poured) =
      sym (length-map pairs (named name)) ∙ (ap length seen ∙ (length-append (map (named name) start) (flat_map taken_in poured) ∙ ap (λ n. n + length (flat_map taken_in poured)) (length-map start (named name)))) in
      let fewer = length-flat_map-take taken_in rows (length poured) [] more in
      let same = ap (λ (l : List (List (Slot V))). length (flat_map taken_in l)) first in
      omega arith

  -- one row more is poured
  pub pour_more : (name : K → Name) (pairs after start : List (K × V)) (n : ℕ) (rows : List (List (Slot V))) (row : List (Slot V)) → map (named name) pairs ≡ map (named name) start ++ flat_map taken_in (take n rows)
      → n < length rows → row ≡ get_or rows n [] → map (named name) after ≡ map (named name) pairs ++ taken_in row
      → map (named name) after ≡ map (named name) start ++ flat_map taken_in (take (n + 1) rows)
  pour_more name pairs after start n rows row seen lt at wrote =
      wrote ∙ ap (λ l. l ++ taken_in row) seen ∙ flat_map_more taken_in (map (named name) start) (take n rows) row
      ∙ ap (λ r. map (named name) start ++ flat_map taken_in (take n rows ++ r ∷ [])) at
      ∙ ap (λ l. map (named name) start ++ flat_map taken_in l) (sym (take_more rows n [] lt))

  -- there is room for one row more where there was for all rows and for four pairs more
  pub room_for_row : (name : K → Name) (pairs start : Vec (K × V)) (n : ℕ) (rows : List (List (Slot V))) → map (named name) pairs.items ≡ map (named name) start.items ++ flat_map taken_in (take n rows)
      → pairs.cap ≡ start.cap → n < length rows → start.len + length (flat_map taken_in rows) + 4 ≤ start.cap → pairs.len + 4 ≤ pairs.cap
  room_for_row name pairs start n rows seen same more enough =
      let long : length (take n rows) ≡ n = length-take-le n rows (omega arith) in
      let left = room_left name pairs.items start.items (take n rows) rows pairs.cap seen (ap (λ m. take m rows) (sym long)) (omega arith) (omega (arith, start.ok.0)) in
      omega (arith, pairs.ok.0)

  -- all rows were poured
  pub poured_all : (name : K → Name) (pairs start : List (K × V)) (n : ℕ) (rows : List (List (Slot V))) → map (named name) pairs ≡ map (named name) start ++ flat_map taken_in (take n rows)
      → length rows ≤ n → map (named name) pairs ≡ map (named name) start ++ flat_map taken_in rows
  poured_all name pairs start n rows seen all = seen ∙ ap (λ l. map (named name) start ++ flat_map taken_in l) (take_all n rows all)
