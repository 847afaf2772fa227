use Rattle.std.proofs.Common.{rules, ℕ, inl, subst}
use Rattle.std.specs.Prelude.{Option, Result}
use Rattle.ck_key.specs.Hashes.{text_hash}
use Rattle.ck_model.specs.Promise.{Name}
use Rattle.ck_section.specs.Acts.{Assigns}
use Rattle.ck_refusal.specs.declared.refusal.Refused.{Refused}
use Rattle.cuckoo_map.specs.Callers.{InsertionLeaves}
use Rattle.ck_foreign.specs.declared.keys.BytesKey.{BytesKey}
use Rattle.ck_foreign.specs.Codes.{TellsOld}
use Rattle.ck_foreign.specs.Handles.{Calls}
use Rattle.cuckoo_c.proofs.texts.cuckoo_text_assign.Goals as goal

-- the key has the name that was asked for
pub returns-in-Ok-clause-called : goal.returns-in-Ok-clause-called
returns-in-Ok-clause-called c = λ short. (
  c.assign.result,
  search rules,
  inl (subst (λ (q : Name). Calls (λ x y. (r : Result (Option ℕ) (Refused BytesKey ℕ)) × InsertionLeaves (Assigns c.args.value) text_hash q (record { 0 = q }) c.args.value r x y × TellsOld r c.assign.result c.args.old.now c.assign.new.old) c.args.handle.now.held c.assign.new.place.held c.assign.result) c.in-Ok.ensures.ok.1 c.assign.ensures.called),
)
