use Rattle.std.proofs.Common.{[], ◌∷◌, Result, Ok, sym, subst}
use Rattle.std.proofs.lemmas.Result.{err_from_is_err_and}
use Rattle.ck_section.specs.declared.two_keys.Renamed.{Renamed}
use Rattle.ck_words.specs.Passes.{PassState}
use Rattle.ck_words.specs.Retries.{FindsAmong}
use Rattle.cuckoo_map.specs.SeveralKeys.{IsStripeOfAny}
use Rattle.cuckoo_map.specs.Renames.{HasRenamedOnce}
use Rattle.cuckoo_map.proofs.Renaming.{answered_once, refused_once}
use Rattle.cuckoo_map.proofs.table.Table.rename.Goals as goal

pub returns-in_err-renamed-clause-renamed : goal.returns-in_err-renamed-clause-renamed
returns-in_err-renamed-clause-renamed g c =
    let e = err_from_is_err_and c.from_residual.result c.from_residual.ensures.1 in
    rw (e.1, e.2) (refused_once _ _ _ _ _ _ _ c.in_err-renamed.field-0.0 c.in_err-renamed.ensures.renamed)

pub rename_with_room-requires-clause-found : goal.rename_with_room-requires-clause-found
rename_with_room-requires-clause-found g c =
    let set = c.args.self.now.settings in
    let q = g.K.TableKey.name c.args.from.now in
    let r = g.K.TableKey.name c.args.to in
    let once = subst (λ (t : Result Renamed g.row.K.Denot). HasRenamedOnce g.K.TableKey.hash set q r c.args.to (Ok t) c.args.pass.now c.rename_once.new.pass) c.in-Err.is c.in_ok-renamed.ensures.renamed in
    subst (λ (x : PassState g.row.V.Denot × g.row.K.Denot). FindsAmong (IsStripeOfAny g.K.TableKey.hash set (q ∷ g.K.TableKey.name x.1 ∷ [])) x.0 c.rename_once.new.pass)
    (λ i. (sym c.of-since.ensures i, sym once.tried.0 i)) once.found

pub returns-in-Ok-clause-renamed : goal.returns-in-Ok-clause-renamed
returns-in-Ok-clause-renamed g c =
    let q = g.K.TableKey.name c.args.from.now in
    let r = g.K.TableKey.name c.args.to in
    answered_once _ _ _ _ _ _ _ c.in-Ok.renamed (subst (λ (t : Result Renamed g.row.K.Denot). HasRenamedOnce g.K.TableKey.hash c.args.self.now.settings q r c.args.to (Ok t) c.args.pass.now c.rename_once.new.pass) c.in-Ok.is c.in_ok-renamed.ensures.renamed)
