use Rattle.std.proofs.Common.{rules, inl, subst}
use Rattle.std.specs.Prelude.{Result}
use Rattle.ck_key.specs.Hashes.{text_hash}
use Rattle.ck_model.specs.Promise.{Name}
use Rattle.ck_section.specs.declared.two_keys.Renamed.{Renamed}
use Rattle.ck_refusal.specs.declared.refusal.NotRenamed.{NotRenamed}
use Rattle.cuckoo_map.specs.Renames.{RenameLeaves}
use Rattle.ck_foreign.specs.declared.keys.BytesKey.{BytesKey}
use Rattle.ck_foreign.specs.Codes.{TellsRenamed}
use Rattle.ck_foreign.specs.Handles.{Calls}
use Rattle.cuckoo_c.proofs.texts.cuckoo_text_rename.Goals as goal

-- the keys have the names that were asked for
pub returns-in-Ok-Ok-clause-called : goal.returns-in-Ok-Ok-clause-called
returns-in-Ok-Ok-clause-called c = λ short_from short_to.
    let called = subst (λ (q : Name). Calls (λ x y. (r : Result Renamed (NotRenamed BytesKey)) × RenameLeaves text_hash q c.in-Ok-Ok.to.0 c.in-Ok-Ok.to r x y × TellsRenamed r c.rename.result) c.args.handle.now.held c.rename.new.place.held c.rename.result) c.in-Ok-Ok.ensures.ok.1 c.rename.ensures.called in (
      c.rename.result,
      search rules,
      inl (subst (λ (q : Name). Calls (λ x y. (r : Result Renamed (NotRenamed BytesKey)) × RenameLeaves text_hash c.args.from.now q (record { 0 = q }) r x y × TellsRenamed r c.rename.result) c.args.handle.now.held c.rename.new.place.held c.rename.result) c.in-Ok-Ok.ensures'.ok.1 called),
    )
