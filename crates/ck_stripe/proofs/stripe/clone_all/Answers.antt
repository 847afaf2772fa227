use Rattle.std.proofs.Common.{[], ◌∙◌, sym, refl, get_or, arith}
use Rattle.std.proofs.lemmas.List.{append-nil}
use Rattle.ck_stripe.proofs.Pouring.{room_for_row, pour_more, poured_all}
use Rattle.ck_stripe.proofs.stripe.clone_all.Goals as goal

pub loop-row-init : goal.loop-row-init
loop-row-init g c = record { seen = sym (append-nil _); room = refl }

pub clone_row_reserved-requires-clause-room : goal.clone_row_reserved-requires-clause-room
clone_row_reserved-requires-clause-room g c =
    room_for_row g.K.TableKey.name c.loop-row.pairs c.args.pairs.now c.loop-row.row c.args.rows.now c.loop-row.invariant.seen c.loop-row.invariant.room (omega arith) c.requires.room

pub loop-row-preserved : goal.loop-row-preserved
loop-row-preserved g c = record {
  seen = pour_more g.K.TableKey.name c.loop-row.pairs.items c.clone_row_reserved.new.pairs.items c.args.pairs.now.items c.loop-row.row c.args.rows.now (get_or c.args.rows.now c.loop-row.row [])
      c.loop-row.invariant.seen (omega arith) refl c.in_ok-clone_row_reserved.ensures.pairs;
  room = c.clone_row_reserved.ensures.capacity ∙ c.loop-row.invariant.room;
}

pub returns-clause-pairs : goal.returns-clause-pairs
returns-clause-pairs g c = poured_all g.K.TableKey.name c.loop-row.pairs.items c.args.pairs.now.items c.loop-row.row c.args.rows.now c.loop-row.invariant.seen (omega arith)
