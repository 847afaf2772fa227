-- Two rows of places in one block: its layout, and how its room is cut for them and made again.
use mathlib.Core.Path.{◌≡◌, refl, sym, ap, subst, ◌∙◌}
use Prim.Native.Nat.{ℕ, ◌+◌, ◌-◌, ◌*◌, ◌%◌, ◌≤◌, ◌<◌, ◌^◌}
use native.Mathlib.Nat.{mod_self, mod-lt, mul-le-mul, sub-zero}
use native.Mathlib.Omega.{arith}
use mathlib.Core.List.{[], ◌∷◌}
use lib.Dec.{eqb→eq}
use seplogic.Ra.Ura.{Ura}
use mir.Syntax.{Ty, Tys, Width, w8, w16, w32, w64, w128, ty_array, ty_struct, tcons, tnil}
use mir.Val.{bytes}
use base.Logic.{SProp, ent, sep, wand, apply∗}
use base.Fml.{Fml, ftrue, fwand, froom}
use prog.Memory.{size, align, capped, pad, up}
use prog.Align.{Dv, dv_zero, dv_one, up-ge, align_pos, align_w, align-bytes}
use prog.Capped.{capped_is, capped_small}
use prog.Model.{rooms_at}
use prog.RawLaws.{size-raw, align-raw}
use types.Logic.{Logic, sem}
use types.Kit.{‵, raw, ◌⊛◌, ◌$◌, ◌∵◌, !, qed, by, move, drop, use1, use2, split, split3, group, assume, rewrite, fsplit, fjoin, done}
use denote.RattleType.{RattleType}
use denote.Memory.{lone}
use denote.RawPtr.{block_ptr, room_for}
use denote.Steps.{nothing}
use Rattle.std.specs.Mem.{type_size}
use Rattle.core.specs.Align.{type_align}
use Rattle.core.proofs.slots.Leases.{uncapped}
use Rattle.std_alloc.proofs.RawLayout.{as_raw, as_written}
use Rattle.ck_room.specs.Memory.{pair_ty, pair_bytes, IsBlockSize, both_rooms}

pub align_few : (τ : Ty) → align τ ≤ 16
align_few τ = subst (λ (k : ℕ). k ≤ 16) (sym (align-bytes τ)) (each (align_w τ))
  where
    each : (w : Width) → bytes w ≤ 16
    each w8 = omega arith
    each w16 = omega arith
    each w32 = omega arith
    each w64 = omega arith
    each w128 = omega arith

flush : (a n : ℕ) → Dv a n → up a n ≡ n
flush a n d =
    let none : n % a ≡ 0 = eqb→eq (n % a) 0 d in
    let gone : pad a n ≡ 0 = ap (λ (r : ℕ). (a - r) % a) none ∙ ap (λ (r : ℕ). r % a) (sub-zero a) ∙ mod_self a in
    ap (λ (r : ℕ). n + r) gone ∙ omega arith

module _ (R S : RattleType) (n m : ℕ) (one : align (lone S.mir) ≡ 1) where
  abbrev first : Ty
  first = ty_array (lone R.mir) n

  abbrev second : Ty
  second = ty_array (lone S.mir) m

  abbrev both : Tys
  both = tcons first (tcons second tnil)

  abbrev whole : Ty
  whole = ty_struct [] both

  begins : up (align (lone R.mir)) 0 ≡ 0
  begins = flush (align (lone R.mir)) 0 (dv_zero (align (lone R.mir)))

  ends : up (align (lone S.mir)) (up (align (lone R.mir)) 0 + n * type_size R) ≡ n * type_size R
  ends =
      ap (λ (k : ℕ). up (align (lone S.mir)) (k + n * type_size R)) begins ∙ ap (λ (k : ℕ). up k (0 + n * type_size R)) one ∙
      flush 1 (0 + n * type_size R) (dv_one (0 + n * type_size R)) ∙ omega arith

  whole_align : align whole ≡ align (lone R.mir)
  whole_align = let pos = align_pos (lone R.mir) in omega (arith, one)

  pub pair_size : pair_bytes R S n m < 2 ^ 64 → capped (size (pair_ty R S n m)) ≡ pair_bytes R S n m
  pair_size fits = ap capped (size-raw whole ∙ (λ i. up (whole_align i) (ends i + m * type_size S))) ∙ capped_is (pair_bytes R S n m) fits

  pub pair_align : capped (align (pair_ty R S n m)) ≡ capped (align (lone R.mir))
  pair_align = ap capped (align-raw whole ∙ whole_align)

  module _ {M : Type 1} {𝓤 : Ura M} (𝓛 : Logic 𝓤) (b o : ℕ) where
    open 𝓛 use {H}

    abbrev at : ℕ
    at = n * type_size R + o

    abbrev pub Rooms : Fml
    Rooms = both_rooms R S n m (block_ptr b o) (block_ptr b at)

    abbrev pub Way : Fml
    Way = fwand Rooms (room_for (pair_ty R S n m) (block_ptr b o))

    first_at : o + up (align (lone R.mir)) 0 ≡ o
    first_at = ap (λ (k : ℕ). o + k) begins ∙ omega arith

    second_at : o + up (align (lone S.mir)) (up (align (lone R.mir)) 0 + n * type_size R) ≡ at
    second_at = ap (λ (k : ℕ). o + k) ends ∙ omega arith

    abbrev Joins : SProp 𝓤
    Joins = wand 𝓤 (rooms_at 𝓤 H both 0 b o) (H.room whole b o)

    joins : ent 𝓤 Joins (sem 𝓛 Way)
    joins =
        qed 𝓛 (raw Joins ∷ []) ∵ assume ! (‵ Rooms) $ fsplit ! $ as_written ! first b o $ move ! (1 ∷ []) $ as_written ! second b at $
        rewrite ! 0 (λ (k : ℕ). ‵ (froom second b k)) (sym second_at) refl $ rewrite ! 1 (λ (k : ℕ). ‵ (froom first b k)) (sym first_at) refl $
        nothing ! $ move ! (2 ∷ 1 ∷ 0 ∷ []) $ group ! 3 $
        use2 𝓛 (‵ (froom whole b o)) (apply∗ 𝓤 (rooms_at 𝓤 H both 0 b o) (H.room whole b o)) $ by ! (𝓛.laws.room-raw whole b o)

    pub pair_cut : ent 𝓤 (H.room (pair_ty R S n m) b o) (sep 𝓤 (sem 𝓛 Rooms) (sem 𝓛 Way))
    pair_cut =
        qed 𝓛 (‵ (froom (pair_ty R S n m) b o) ∷ []) ∵ as_written ! whole b o $
        use1 𝓛 ((‵ (froom first b (o + up (align (lone R.mir)) 0)) ⊛ ‵ (froom second b (o + up (align (lone S.mir)) (up (align (lone R.mir)) 0 + n * type_size R))) ⊛ ‵ ftrue) ⊛ raw Joins)
        (𝓛.laws.room_fields [] both b o) $ split ! $ split3 ! $
        rewrite ! 0 (λ (k : ℕ). ‵ (froom first b k)) first_at refl $ rewrite ! 1 (λ (k : ℕ). ‵ (froom second b k)) second_at refl $
        as_raw ! first b o $ move ! (1 ∷ []) $ as_raw ! second b at $ move ! (1 ∷ 0 ∷ []) $ fjoin ! $ move ! (1 ∷ []) $ drop ! $ move ! (1 ∷ []) $
        use1 𝓛 (‵ Way) joins $ move ! (1 ∷ []) $ done !

    pub pair_glue : ent 𝓤 (sep 𝓤 (sem 𝓛 Rooms) (sem 𝓛 Way)) (H.room (pair_ty R S n m) b o)
    pair_glue = apply∗ 𝓤 (sem 𝓛 Rooms) (H.room (pair_ty R S n m) b o)

-- sizes in words, and sums that wrap, where the whole fits a word
pub sized : (R S : RattleType) (n m x y a r : ℕ) → x ≡ capped (type_size R) → y ≡ capped (type_size S) → a ≡ type_align R
    → (up a ((n * x % 2 ^ 64 + m * y % 2 ^ 64) % 2 ^ 64) < 2 ^ 64 → r ≡ up a ((n * x % 2 ^ 64 + m * y % 2 ^ 64) % 2 ^ 64)) → IsBlockSize R S n m r
sized R S n m x y a r is_x is_y is_a rounds fits =
    let most = up-ge (type_align R) (n * type_size R + m * type_size S) in
    let first : n * x ≡ n * type_size R = ap (λ (k : ℕ). n * k) is_x ∙ uncapped n (type_size R) (omega arith) in
    let second : m * y ≡ m * type_size S = ap (λ (k : ℕ). m * k) is_y ∙ uncapped m (type_size S) (omega arith) in
    let all : (n * x % 2 ^ 64 + m * y % 2 ^ 64) % 2 ^ 64 ≡ n * type_size R + m * type_size S = omega arith in
    let same : up a ((n * x % 2 ^ 64 + m * y % 2 ^ 64) % 2 ^ 64) ≡ pair_bytes R S n m = λ i. up (is_a i) (all i) in
    rounds (subst (λ (k : ℕ). k < 2 ^ 64) (sym same) fits) ∙ same

small : (s x : ℕ) → x ≡ capped s → x ≤ 2 ^ 31 - 1 → s ≤ 2 ^ 31 - 1
small s x is le = let is' = capped_is s (omega (arith, capped_small s (omega arith))) in omega arith

row_small : (n s : ℕ) → n < 2 ^ 32 → s ≤ 2 ^ 31 - 1 → n * s ≤ (2 ^ 32 - 1) * (2 ^ 31 - 1)
row_small n s lt le = let most : n ≤ 2 ^ 32 - 1 = omega arith in mul-le-mul most le

-- few places of sizes below 2 ^ 31 take fewer than 2 ^ 64 bytes
pub fits : (R S : RattleType) (n m x y : ℕ) → x ≡ capped (type_size R) → y ≡ capped (type_size S) → x ≤ 2 ^ 31 - 1 → y ≤ 2 ^ 31 - 1 → n < 2 ^ 32 → m < 2 ^ 32 → pair_bytes R S n m < 2 ^ 64
fits R S n m x y is_x is_y le_x le_y few few' =
    let a : ℕ = type_align R in
    let first = row_small n (type_size R) few (small (type_size R) x is_x le_x) in
    let second = row_small m (type_size S) few' (small (type_size S) y is_y le_y) in
    let sum : ℕ = n * type_size R + m * type_size S in
    let padding : pad a sum < a = mod-lt (a - sum % a) (align_pos (lone R.mir)) in
    let most = align_few (lone R.mir) in omega arith
