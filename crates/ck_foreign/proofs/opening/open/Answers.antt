use Rattle.std.proofs.Common.{rules, ◌∙◌}
use Rattle.ck_foreign.proofs.Placing.{as_many_callers}
use Rattle.ck_foreign.proofs.opening.open.Goals as goal

pub place_all-requires : goal.place_all-requires
place_all-requires g c =
    let opened = c.in-Ok.ensures.ok in
    as_many_callers opened.0 c.args.settings c.in-Ok.handles.items opened.2 ∙ (search rules)
