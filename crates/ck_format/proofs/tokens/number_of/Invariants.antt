-- The bytes so far are digits, and write the number.
use Rattle.std.proofs.Common.{◌^◌, ◌<◌, take}
use Rattle.ck_format.proofs.Numbers.{Writes}
use Rattle.ck_format.proofs.tokens.number_of.Given as goal

abbrev pub invariant-loop-byte : goal.invariant-loop-byte
invariant-loop-byte l = Writes (take l.byte-index l.word) l.number × (l.number < 2 ^ 64)
