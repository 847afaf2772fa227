use Rattle.std.proofs.Common.{rules, inl, subst}
use Rattle.ck_key.specs.Hashes.{text_hash}
use Rattle.ck_model.specs.Promise.{Name}
use Rattle.ck_foreign.specs.declared.keys.BytesKey.{BytesKey}
use Rattle.ck_foreign.specs.Sessions.{OnLocked, InsertsLocked}
use Rattle.cuckoo_c.proofs.texts.cuckoo_text_locked_insert.Goals as goal

-- the key has the name that was asked for
pub returns-in-Ok-clause-called : goal.returns-in-Ok-clause-called
returns-in-Ok-clause-called c = λ short. (
  c.insert.result,
  search rules,
  inl (subst (λ (q : Name). OnLocked (InsertsLocked {K = BytesKey} text_hash q (record { 0 = q }) c.args.value c.insert.result) c.args.locked.now.held c.insert.new.place.held c.insert.result) c.in-Ok.ensures.ok.1 c.insert.ensures),
)
