use Rattle.std.proofs.Common.{rules, ℕ, Bool, inl, subst}
use Rattle.std.specs.Prelude.{Result}
use Rattle.ck_key.specs.Hashes.{text_hash}
use Rattle.ck_model.specs.Promise.{Name}
use Rattle.ck_section.specs.Acts.{Inserts}
use Rattle.ck_refusal.specs.declared.refusal.Refused.{Refused}
use Rattle.cuckoo_map.specs.Callers.{InsertionLeaves}
use Rattle.ck_foreign.specs.declared.keys.BytesKey.{BytesKey}
use Rattle.ck_foreign.specs.Codes.{TellsFresh}
use Rattle.ck_foreign.specs.Handles.{Calls}
use Rattle.cuckoo_c.proofs.texts.cuckoo_text_insert.Goals as goal

-- the key has the name that was asked for
pub returns-in-Ok-clause-called : goal.returns-in-Ok-clause-called
returns-in-Ok-clause-called c = λ short. (
  c.insert.result,
  search rules,
  inl (subst (λ (q : Name). Calls (λ x y. (r : Result Bool (Refused BytesKey ℕ)) × InsertionLeaves (Inserts c.args.value) text_hash q (record { 0 = q }) c.args.value r x y × TellsFresh r c.insert.result) c.args.handle.now.held c.insert.new.place.held c.insert.result) c.in-Ok.ensures.ok.1 c.insert.ensures.called),
)
