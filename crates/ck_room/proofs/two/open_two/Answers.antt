use denote.Param.{param}
use native.Mathlib.Omega.{arith}
use Rattle.ck_room.proofs.Pairs.{fits}
use Rattle.ck_room.proofs.two.open_two.Goals as goal

pub allocate_two-requires-clause-fits : goal.allocate_two-requires-clause-fits
allocate_two-requires-clause-fits g c =
    fits (param 0 g.row.T) (param 1 g.row.H) _ _ c.place_bytes.result c.place_bytes-else-place_bytes-gt-MOST_BYTES.result
    c.place_bytes.ensures c.place_bytes-else-place_bytes-gt-MOST_BYTES.ensures c.if-place_bytes-gt-MOST_BYTES.false c.if-place_bytes-gt-MOST_BYTES-2.false
    (omega (arith, c.requires.few)) (omega (arith, c.requires.few_heads))
