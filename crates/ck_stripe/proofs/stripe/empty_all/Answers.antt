use Rattle.std.proofs.Common.{None, ◌∙◌, sym, ap, refl, replicate, arith}
use Rattle.ck_stripe.proofs.Splits.{length-emptied, emptied_step, emptied_done}
use Rattle.ck_stripe.proofs.stripe.empty_all.Goals as goal

pub loop-row-init : goal.loop-row-init
loop-row-init g c = refl

pub clear_row-requires : goal.clear_row-requires
clear_row-requires g c =
    let long = length-emptied c.args.rows.now c.loop-row.rows c.loop-row.row c.loop-row.invariant (omega arith) in
    omega arith

pub loop-row-preserved : goal.loop-row-preserved
loop-row-preserved g c = emptied_step c.args.rows.now c.loop-row.rows c.loop-row.row c.loop-row.invariant c.clear_row.new.self (omega arith) c.clear_row.ensures

pub returns : goal.returns
returns g c = emptied_done c.args.rows.now c.loop-row.rows c.loop-row.row c.loop-row.invariant (omega arith) ∙ ap (λ n. replicate n (replicate 4 None)) (sym c.requires)
