use denote.Param.{param}
use Rattle.ck_room.proofs.Pairs.{sized}
use Rattle.ck_room.proofs.two.block_bytes.Goals as goal

pub returns : goal.returns
returns g c =
    sized (param 0 g.row.T) (param 1 g.row.H) c.args.len c.args.heads c.place_bytes.result c.place_bytes-2.result c.place_align.result c.rounded_up.result
    c.place_bytes.ensures c.place_bytes-2.ensures c.place_align.ensures.0 c.rounded_up.ensures
