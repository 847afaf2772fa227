-- One place comes out of a row and goes back. An empty row is room for an array. A `&` to a row
-- reaches each value.
use mathlib.Core.Path.{◌≡◌, refl, sym, ap, subst, ◌∙◌}
use Prim.Native.Nat.{ℕ, zero, suc, ◌+◌, ◌*◌, ◌<◌, ◌≤◌}
use native.Mathlib.Omega.{arith}
use native.Mathlib.Nat.{zero-mul, suc-mul}
use mathlib.Core.List.{List, [], ◌∷◌, ◌++◌}
use lib.ListN.{length, take, drop, set, get_or, replicate, take-append-drop, length-take}
use lib.Seq.{drop-cons, set_split}
use seplogic.Ra.Ura.{Ura}
use base.Fraction.{full_share}
use mir.Syntax.{ty_array}
use mir.Val.{Val}
use base.Logic.{ent, sep, ex, guard, via, snd∗, id⊢}
use base.Fml.{Fml, Lft, ftrue, fsep, fat, froom}
use types.Logic.{Logic, sem}
use types.Kit.{‵, some, ◌⊛◌, ◌$◌, ◌∵◌, !, qed, by, move, keep, drop as skip, use1, use2, pick, split, check, show, frame, fsplit, fjoin, rewrite, done}
use denote.Laws.{Is, shows}
use denote.Memory.{part_at}
use denote.Steps.{nothing, peeks}
use borrow.Table.OneValue.{part_in, part_out}
use Rattle.std.specs.Prelude.{Option, Some, None, IsSome}
use Rattle.std.specs.Mem.{type_size}
use Rattle.core.proofs.mem.Param.{El, R, el_x, elτ, Good, lawful}
use Rattle.ck_room.specs.Memory.{place, row, place_lent, row_lent}
use Rattle.ck_room.specs.Room.{AllNone}

module _ {X : Type 0} where
  pub value_of : (c : Option X) → IsSome c → (x : X) × (c ≡ Some x)
  value_of None e = absurd cc
  value_of (Some x) e = (x, refl)

  pub full_inside : (cs : List (Option X)) (i : ℕ) (x : X) → get_or cs i None ≡ Some x → i < length cs
  full_inside [] i x e = cc
  full_inside (c ∷ cs) zero x e = omega arith
  full_inside (c ∷ cs) (suc i) x e = omega (arith, full_inside cs i x e)

  pub all_none : (cs : List (Option X)) → AllNone cs → cs ≡ replicate (length cs) None
  all_none [] e = refl
  all_none (c ∷ cs) e = λ j. e 0 j ∷ all_none cs (λ i. e (suc i)) j

module _ (E : El) where
  abbrev pub sz : ℕ
  sz = type_size (R E)

  abbrev pub Place : Type 0
  Place = Option (el_x E)

module _ (E : El) {M : Type 1} {𝓤 : Ura M} (𝓛 : Logic 𝓤) where
  open 𝓛 use {H}

  pub value_out : (x : el_x E) (b o : ℕ) → ent 𝓤 (sem 𝓛 (part_at (R E) full_share x b o)) (ex 𝓤 (λ (v : Val). guard 𝓤 (Good E v) (sep 𝓤 (H.at full_share (elτ E) b o v) (sem 𝓛 (E.row.own_val x (v ∷ []))))))
  value_out x b o = qed 𝓛 (‵ (part_at (R E) full_share x b o) ∷ []) ∵
      use1 𝓛 (some (λ (v : Val). ‵ (fat full_share (elτ E) b o v) ⊛ ‵ (E.row.own_val x (v ∷ [])))) (part_out 𝓛 (R E) refl full_share x b o) $ pick ! (λ v. split ! $ move ! (1 ∷ []) $
      peeks ! (R E) (Is (R E)) (shows 𝓛 (R E)) x (v ∷ []) (λ p.
      show ! (λ (w : Val). guard 𝓤 (Good E w) (sep 𝓤 (H.at full_share (elτ E) b o w) (sem 𝓛 (E.row.own_val x (w ∷ []))))) v $ check ! ((lawful E 𝓛).typed x (v ∷ []) p).0 $ move ! (1 ∷ 0 ∷ []) $ done !))

  pub value_in : (x : el_x E) (b o : ℕ) (v : Val) → ent 𝓤 (sep 𝓤 (H.at full_share (elτ E) b o v) (sem 𝓛 (E.row.own_val x (v ∷ [])))) (sem 𝓛 (part_at (R E) full_share x b o))
  value_in x b o v = part_in 𝓛 (R E) refl full_share x b o v

module _ (E : El) {M : Type 1} {𝓤 : Ura M} (𝓛 : Logic 𝓤) (b : ℕ) where
  open 𝓛 use {H}

  abbrev s : ℕ
  s = sz E

  abbrev Row : ℕ → List (Place E) → Fml
  Row = row (R E) b

  cut : (xs ys : List (Place E)) (o at : ℕ) → at ≡ length xs * s + o → ent 𝓤 (sem 𝓛 (Row o (xs ++ ys))) (sep 𝓤 (sem 𝓛 (Row o xs)) (sem 𝓛 (Row at ys)))
  cut [] ys o at e = qed 𝓛 (‵ (Row o ys) ∷ []) ∵ rewrite ! 0 (λ (k : ℕ). ‵ (Row k ys)) {x = at} (omega (arith, zero-mul s)) refl $ nothing ! $ done !
  cut (x ∷ xs) ys o at e =
      let more : at ≡ suc (length xs) * s + o = e in
      qed 𝓛 (‵ (Row o (x ∷ xs ++ ys)) ∷ []) ∵ fsplit ! $ move ! (1 ∷ []) $
      use1 𝓛 (‵ (Row (o + s) xs) ⊛ ‵ (Row at ys)) (cut xs ys (o + s) at (omega (arith, suc-mul (length xs) s))) $ split ! $ move ! (2 ∷ 0 ∷ []) $ fjoin ! $ done !

  glue : (xs ys : List (Place E)) (o at : ℕ) → at ≡ length xs * s + o → ent 𝓤 (sep 𝓤 (sem 𝓛 (Row o xs)) (sem 𝓛 (Row at ys))) (sem 𝓛 (Row o (xs ++ ys)))
  glue [] ys o at e = qed 𝓛 (‵ ftrue ∷ ‵ (Row at ys) ∷ []) ∵ skip ! $ rewrite ! 0 (λ (k : ℕ). ‵ (Row k ys)) {x = o} (omega (arith, zero-mul s)) refl $ done !
  glue (x ∷ xs) ys o at e =
      let more : at ≡ suc (length xs) * s + o = e in
      qed 𝓛 (‵ (Row o (x ∷ xs)) ∷ ‵ (Row at ys) ∷ []) ∵ fsplit ! $ move ! (1 ∷ 2 ∷ []) $
      use2 𝓛 (‵ (Row (o + s) (xs ++ ys))) (glue xs ys (o + s) at (omega (arith, suc-mul (length xs) s))) $ move ! (1 ∷ 0 ∷ []) $ fjoin ! $ done !

  module _ (o : ℕ) (cs : List (Place E)) (i : ℕ) where
    -- the places but for the i-th
    abbrev pub Besides : Fml
    Besides = fsep (Row o (take i cs)) (Row (i * s + o + s) (drop (suc i) cs))

    before : i ≤ length cs → i * s + o ≡ length (take i cs) * s + o
    before le = let long : i ≡ length (take i cs) = omega (arith, length-take i cs) in ap (λ k. k * s + o) long

    pub place_out : i < length cs → ent 𝓤 (sem 𝓛 (Row o cs)) (sep 𝓤 (sem 𝓛 (place (R E) b (i * s + o) (get_or cs i None))) (sem 𝓛 Besides))
    place_out lt = qed 𝓛 (‵ (Row o cs) ∷ []) ∵
        rewrite ! 0 (λ (l : List (Place E)). ‵ (Row o l)) (sym (take-append-drop i cs) ∙ ap (λ l. take i cs ++ l) (drop-cons cs i None lt)) refl $
        use1 𝓛 (‵ (Row o (take i cs)) ⊛ ‵ (Row (i * s + o) (get_or cs i None ∷ drop (suc i) cs))) (cut (take i cs) (get_or cs i None ∷ drop (suc i) cs) o (i * s + o) (before (omega arith))) $
        split ! $ move ! (1 ∷ []) $ fsplit ! $ move ! (2 ∷ 1 ∷ []) $ fjoin ! $ move ! (1 ∷ []) $ done !

    pub place_in : i < length cs → (c : Place E) → ent 𝓤 (sep 𝓤 (sem 𝓛 (place (R E) b (i * s + o) c)) (sem 𝓛 Besides)) (sem 𝓛 (Row o (set cs i c)))
    place_in lt c = qed 𝓛 (‵ (place (R E) b (i * s + o) c) ∷ ‵ Besides ∷ []) ∵ move ! (1 ∷ []) $ fsplit ! $ move ! (2 ∷ 1 ∷ []) $ fjoin ! $ move ! (1 ∷ 0 ∷ []) $
        use2 𝓛 (‵ (Row o (take i cs ++ c ∷ drop (suc i) cs))) (glue (take i cs) (c ∷ drop (suc i) cs) o (i * s + o) (before (omega arith))) $
        rewrite ! 0 (λ (l : List (Place E)). ‵ (Row o l)) (sym (set_split cs i c lt)) refl $ done !

  pub of_room : (n o : ℕ) → ent 𝓤 (H.room (ty_array (elτ E) n) b o) (sem 𝓛 (Row o (replicate n None)))
  of_room zero o = qed 𝓛 (‵ (froom (ty_array (elτ E) 0) b o) ∷ []) ∵ keep ! [] $ done !
  of_room (suc n) o = qed 𝓛 (‵ (froom (ty_array (elτ E) (suc n)) b o) ∷ []) ∵
      use1 𝓛 (‵ (froom (elτ E) b o) ⊛ ‵ (froom (ty_array (elτ E) n) b (o + s))) (𝓛.laws.room_uncons (elτ E) n b o) $ split ! $
      use1 𝓛 (‵ (place (R E) b o None)) (𝓛.laws.room-raw (elτ E) b o) $ frame ! $ by ! (of_room n (o + s))

  pub to_room : (n o : ℕ) → ent 𝓤 (sem 𝓛 (Row o (replicate n None))) (H.room (ty_array (elτ E) n) b o)
  to_room zero o = 𝓛.laws.room_nil (elτ E) b o
  to_room (suc n) o = qed 𝓛 (‵ (place (R E) b o None) ∷ ‵ (Row (o + s) (replicate n None)) ∷ []) ∵
      use1 𝓛 (‵ (froom (elτ E) b o)) (𝓛.laws.raw-room (elτ E) b o) $ move ! (1 ∷ []) $
      use1 𝓛 (‵ (froom (ty_array (elτ E) n) b (o + s))) (to_room n (o + s)) $ move ! (1 ∷ []) $ by ! (𝓛.laws.room_cons (elτ E) n b o)

  module _ (κ : Lft) where
    abbrev Seen : ℕ → List (Place E) → Fml
    Seen o cs = row_lent (R E) b o cs κ

    from_on : (cs : List (Place E)) (i o at : ℕ) → i ≤ length cs → at ≡ i * s + o → ent 𝓤 (sem 𝓛 (Seen o cs)) (sem 𝓛 (Seen at (drop i cs)))
    from_on cs zero o at le e = let same : o ≡ at = omega (arith, zero-mul s) in subst (λ k. ent 𝓤 (sem 𝓛 (Seen o cs)) (sem 𝓛 (Seen k cs))) same (id⊢ 𝓤 _)
    from_on [] (suc i) o at le e = absurd (omega arith)
    from_on (c ∷ cs) (suc i) o at le e =
        via 𝓤 (sem 𝓛 (Seen (o + s) cs)) (snd∗ 𝓤 (sem 𝓛 (place_lent (R E) b o c κ)) (sem 𝓛 (Seen (o + s) cs))) (from_on cs i (o + s) at (omega arith) (omega (arith, suc-mul i s)))

    pub place_seen : (o : ℕ) (cs : List (Place E)) (i : ℕ) → i < length cs → ent 𝓤 (sem 𝓛 (Seen o cs)) (sem 𝓛 (place_lent (R E) b (i * s + o) (get_or cs i None) κ))
    place_seen o cs i lt = qed 𝓛 (‵ (Seen o cs) ∷ []) ∵ use1 𝓛 (‵ (Seen (i * s + o) (drop i cs))) (from_on cs i o (i * s + o) (omega arith) refl) $
        rewrite ! 0 (λ (l : List (Place E)). ‵ (Seen (i * s + o) l)) (drop-cons cs i None lt) refl $ fsplit ! $ keep ! (0 ∷ []) $ done !
