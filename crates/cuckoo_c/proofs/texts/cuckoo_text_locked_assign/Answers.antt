use Rattle.std.proofs.Common.{rules, inl, subst}
use Rattle.ck_key.specs.Hashes.{text_hash}
use Rattle.ck_model.specs.Promise.{Name}
use Rattle.ck_foreign.specs.declared.keys.BytesKey.{BytesKey}
use Rattle.ck_foreign.specs.Sessions.{OnLocked, AssignsLocked}
use Rattle.cuckoo_c.proofs.texts.cuckoo_text_locked_assign.Goals as goal

-- the key has the name that was asked for
pub returns-in-Ok-clause-called : goal.returns-in-Ok-clause-called
returns-in-Ok-clause-called c = λ short. (
  c.assign.result,
  search rules,
  inl (subst (λ (q : Name). OnLocked (AssignsLocked {K = BytesKey} text_hash q (record { 0 = q }) c.args.value c.assign.result c.args.old.now c.assign.new.old) c.args.locked.now.held c.assign.new.place.held c.assign.result) c.in-Ok.ensures.ok.1 c.assign.ensures.called),
)
