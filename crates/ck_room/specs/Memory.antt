-- What the places of a block own and lend, at values of the row R.
use Rattle.std.specs.Prelude.{◌≡◌, ℕ, ◌+◌, ◌*◌, ◌^◌, ◌<◌, List, [], ◌∷◌, length, Option, Some, None}
use Rattle.std.specs.Mem.{type_size}
use Rattle.core.specs.Align.{type_align}
use base.Fraction.{full_share}
use base.Fml.{Lft, Fml, ftrue, ffalse, fsep, fwand, feq, flt, froom}
use mir.Syntax.{Ty, ty_array, ty_struct, tcons, tnil}
use mir.Raw.{raw}
use prog.Memory.{up}
use denote.RattleType.{RattleType}
use denote.Memory.{lone, part_at, shared_of}
use denote.Sharing.{nothing, said, beside}
use denote.RawPtr.{Ptr, block_ptr, null_ptr, room_for}

module _ (R : RattleType) where
  -- one place, o bytes into the block b
  abbrev pub place : ℕ → ℕ → Option R.Denot → Fml
  place b o (Some x) = part_at R full_share x b o
  place b o None = froom (raw (lone R.mir)) b o

  -- places side by side
  abbrev pub row : ℕ → ℕ → List (Option R.Denot) → Fml
  row b o [] = ftrue
  row b o (c ∷ cs) = fsep (place b o c) (row b (o + type_size R) cs)

  abbrev pub place_lent : ℕ → ℕ → Option R.Denot → Lft → Fml
  place_lent b o (Some x) = shared_of R x b o
  place_lent b o None = nothing

  abbrev pub row_lent : ℕ → ℕ → List (Option R.Denot) → Lft → Fml
  row_lent b o [] = nothing
  row_lent b o (c ∷ cs) = beside (place_lent b o c) (row_lent b (o + type_size R) cs)

  -- the places take fewer than 2 ^ 63 bytes
  abbrev pub fit : List (Option R.Denot) → Fml
  fit cs = flt (length cs * type_size R) (2 ^ 63)

  abbrev pub owned : Ptr → List (Option R.Denot) → Fml
  owned (block_ptr b o) cs = fsep (fit cs) (row b o cs)
  owned null_ptr cs = ffalse

  abbrev pub lent : Ptr → List (Option R.Denot) → Lft → Fml
  lent (block_ptr b o) cs = beside (said (fit cs)) (row_lent b o cs)
  lent null_ptr cs = said ffalse

-- n places at values of R, and behind them in one block m at values of S
module _ (R S : RattleType) (n m : ℕ) where
  abbrev pub pair_ty : Ty
  pair_ty = raw (ty_struct [] (tcons (ty_array (lone R.mir) n) (tcons (ty_array (lone S.mir) m) tnil)))

  -- the block's size, where S has alignment 1
  abbrev pub pair_bytes : ℕ
  pair_bytes = up (type_align R) (n * type_size R + m * type_size S)

  -- so many bytes are the size of the block, if that fits a word
  abbrev pub IsBlockSize : ℕ → Type 0
  IsBlockSize bytes = pair_bytes < 2 ^ 64 → bytes ≡ pair_bytes

  -- the second row follows the first with nothing between, and the size fits a word
  abbrev pub laid_out : Fml
  laid_out = fsep (feq ℕ (type_align S) 1) (flt pair_bytes (2 ^ 64))

  abbrev pub both_rooms : Ptr → Ptr → Fml
  both_rooms p q = fsep (room_for (raw (ty_array (lone R.mir) n)) p) (room_for (raw (ty_array (lone S.mir) m)) q)

  -- an allocator's right to free the block, and the way from room for both rows to room for it
  abbrev pub freed_by : (Ty → Ptr → Fml) → Ptr → Ptr → Fml
  freed_by token p q = fsep laid_out (fsep (token pair_ty p) (fwand (both_rooms p q) (room_for pair_ty p)))

-- the right to free the block of two rows, each where it begins and how many places it has
abbrev pub leased_two : (Ty → Ptr → Fml) → RattleType → RattleType → Ptr × ℕ → Ptr × ℕ → Fml
leased_two token R S first second = freed_by R S first.1 second.1 token first.0 second.0
