use Rattle.std.proofs.Common.{◌<◌, List, [], subst, length, arith}
use Rattle.ck_model.specs.Slots.{Slot}
use Rattle.ck_model.specs.Contents.{row_at}
use Rattle.ck_bucket.specs.Retaining.{AsksAboutRow}
use Rattle.ck_bucket.proofs.InTurn.{begins, begins_more, begins_all}
use Rattle.ck_stripe.proofs.pairs.retain_rows.Goals as goal

pub loop-row-init : goal.loop-row-init
loop-row-init g c = record { asked = begins (AsksAboutRow g.F.FnMut g.K.TableKey.name) c.args.f.now c.args.rows.now; call = c.requires.call }

pub retain_row-requires-clause-row : goal.retain_row-requires-clause-row
retain_row-requires-clause-row g c = omega (arith, c.loop-row.invariant.asked.long)

pub loop-row-preserved : goal.loop-row-preserved
loop-row-preserved g c =
    let R = AsksAboutRow g.F.FnMut g.K.TableKey.name in
    let now = c.loop-row.rows in
    let row = c.loop-row.row in
    let so_far = c.loop-row.invariant.asked in
    let after = c.retain_row.new.self in
    let inside : row < length c.args.rows.now = omega arith in
    record {
      asked = begins_more R c.args.f.now c.args.rows.now now row c.loop-row.f so_far (row_at after row) c.retain_row.new.f [] inside
          (subst (λ (old : List (Slot g.row.V.Denot)). R c.loop-row.f old (row_at after row) c.retain_row.new.f) (so_far.rest row [] (omega arith)) c.retain_row.ensures.asked) after c.retain_row.ensures.rest;
      call = c.retain_row.ensures.call;
    }

pub returns-clause-asked : goal.returns-clause-asked
returns-clause-asked g c = begins_all (AsksAboutRow g.F.FnMut g.K.TableKey.name) c.args.f.now c.args.rows.now c.loop-row.rows c.loop-row.row c.loop-row.f c.loop-row.invariant.asked (omega arith)
