use Rattle.std.proofs.Common.{Result, Ok, ap, subst}
use Rattle.std.proofs.lemmas.Result.{err_from_is_err_and}
use Rattle.ck_model.specs.Promise.{Name}
use Rattle.ck_section.specs.declared.two_keys.Renamed.{Renamed}
use Rattle.cuckoo_map.specs.Renames.{HasRenamedOnce, HasRenamedInAll}
use Rattle.cuckoo_map.proofs.Renaming.{refused_room, answered_again, refused_again, renamed_in_all}
use Rattle.cuckoo_map.proofs.table.Table.rename_with_room.Goals as goal

pub returns-in-Err-clause-renamed : goal.returns-in-Err-clause-renamed
returns-in-Err-clause-renamed g c =
    refused_room _ _ _ _ _ c.args.since.value c.args.pass.now c.make_room_ahead.new.pass c.requires.caller c.requires.full c.requires.found c.make_room_ahead.ensures.found c.in-Err.why c.in-Err.ensures.refused

-- it tried once more
pub returns-in_err-renamed-clause-renamed : goal.returns-in_err-renamed-clause-renamed
returns-in_err-renamed-clause-renamed g c =
    let e = err_from_is_err_and c.from_residual.result c.from_residual.ensures.1 in
    rw (e.1, e.2) (refused_again _ _ _ _ _ c.args.since.value c.args.pass.now c.make_room_ahead.new.pass c.requires.caller c.requires.full c.requires.found c.make_room_ahead.ensures.found c.in_default.ensures.made c.rename_once.new.pass
    c.in_err-renamed.field-0.0 c.in_err-renamed.ensures.renamed)

pub returns-in-Ok-clause-renamed : goal.returns-in-Ok-clause-renamed
returns-in-Ok-clause-renamed g c =
    let q = g.K.TableKey.name c.args.from.now in
    let r = g.K.TableKey.name c.args.to in
    answered_again _ _ _ _ _ c.args.since.value c.args.pass.now c.make_room_ahead.new.pass c.requires.caller c.requires.full c.requires.found c.make_room_ahead.ensures.found c.in_default.ensures.made c.rename_once.new.pass c.in-Ok.renamed
    (subst (λ (t : Result Renamed g.row.K.Denot). HasRenamedOnce g.K.TableKey.hash c.args.self.now.settings q r c.args.to (Ok t) c.make_room_ahead.new.pass c.rename_once.new.pass) c.in-Ok.is c.in_ok-renamed.ensures.renamed)

-- others took the slot
pub returns-clause-renamed : goal.returns-clause-renamed
returns-clause-renamed g c =
    let q = g.K.TableKey.name c.args.from.now in
    let r = g.K.TableKey.name c.args.to in
    let set = c.args.self.now.settings in
    let again = subst (λ (t : Result Renamed g.row.K.Denot). HasRenamedOnce g.K.TableKey.hash set q r c.args.to (Ok t) c.make_room_ahead.new.pass c.rename_once.new.pass) c.in-Err-2.is c.in_ok-renamed.ensures.renamed in
    let last = subst (λ (x : Name). HasRenamedInAll g.K.TableKey.hash set q x c.in-Err-2.to c.rename_in_all.result c.rename_once.new.pass c.rename_in_all.new.pass) (ap g.K.TableKey.name again.tried.0) c.rename_in_all.ensures.renamed in
    renamed_in_all _ _ _ _ _ c.args.since.value c.args.pass.now c.make_room_ahead.new.pass c.requires.caller c.requires.full c.requires.found c.make_room_ahead.ensures.found c.in_default.ensures.made c.rename_once.new.pass c.in-Err-2.to again c.rename_in_all.result c.rename_in_all.new.pass last
