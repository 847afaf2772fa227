use Rattle.std.proofs.Common.{None, ◌<◌, [], ◌∙◌, sym, ap, refl, get_or, length, replicate, arith}
use Rattle.std.proofs.lemmas.List.{append-nil}
use Rattle.ck_stripe.proofs.Splits.{length-emptied, emptied_at, emptied_step, emptied_done}
use Rattle.ck_stripe.proofs.Pouring.{room_for_row, pour_more, poured_all}
use Rattle.ck_stripe.proofs.stripe.pour_all.Goals as goal

pub loop-row-init : goal.loop-row-init
loop-row-init g c = record { left = refl; seen = sym (append-nil _); room = refl }

pub pour_row_reserved-requires-clause-row : goal.pour_row_reserved-requires-clause-row
pour_row_reserved-requires-clause-row g c =
    let long = length-emptied c.args.rows.now c.loop-row.rows c.loop-row.row c.loop-row.invariant.left (omega arith) in
    omega arith

pub pour_row_reserved-requires-clause-room : goal.pour_row_reserved-requires-clause-room
pour_row_reserved-requires-clause-room g c =
    room_for_row g.K.TableKey.name c.loop-row.pairs c.args.pairs.now c.loop-row.row c.args.rows.now c.loop-row.invariant.seen c.loop-row.invariant.room (omega arith) c.requires.room

pub loop-row-preserved : goal.loop-row-preserved
loop-row-preserved g c =
    let lt : c.loop-row.row < length c.args.rows.now = omega arith in
    record {
      left = emptied_step c.args.rows.now c.loop-row.rows c.loop-row.row c.loop-row.invariant.left c.pour_row_reserved.new.self lt c.pour_row_reserved.ensures.emptied;
      seen = pour_more g.K.TableKey.name c.loop-row.pairs.items c.pour_row_reserved.new.pairs.items c.args.pairs.now.items c.loop-row.row c.args.rows.now (get_or c.loop-row.rows c.loop-row.row [])
          c.loop-row.invariant.seen lt (emptied_at c.args.rows.now c.loop-row.rows c.loop-row.row c.loop-row.invariant.left lt) c.pour_row_reserved.ensures.pairs;
      room = c.pour_row_reserved.ensures.capacity ∙ c.loop-row.invariant.room;
    }

pub returns-clause-rows : goal.returns-clause-rows
returns-clause-rows g c = emptied_done c.args.rows.now c.loop-row.rows c.loop-row.row c.loop-row.invariant.left (omega arith) ∙ ap (λ n. replicate n (replicate 4 None)) (sym c.requires.count)

pub returns-clause-pairs : goal.returns-clause-pairs
returns-clause-pairs g c = poured_all g.K.TableKey.name c.loop-row.pairs.items c.args.pairs.now.items c.loop-row.row c.args.rows.now c.loop-row.invariant.seen (omega arith)
