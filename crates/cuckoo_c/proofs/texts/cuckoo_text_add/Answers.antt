use Rattle.std.proofs.Common.{rules, ℕ, Bool, inl, subst}
use Rattle.std.specs.Prelude.{Result}
use Rattle.ck_key.specs.Hashes.{text_hash}
use Rattle.ck_model.specs.Promise.{Name}
use Rattle.ck_section.specs.Acts.{Upserts}
use Rattle.ck_refusal.specs.declared.refusal.Refused.{Refused}
use Rattle.cuckoo_map.specs.Callers.{InsertionLeaves}
use Rattle.ck_foreign.specs.declared.keys.BytesKey.{BytesKey}
use Rattle.ck_foreign.specs.Codes.{TellsFresh}
use Rattle.ck_foreign.specs.Handles.{Calls, AddsTo}
use Rattle.cuckoo_c.proofs.texts.cuckoo_text_add.Goals as goal

-- the key has the name that was asked for
pub returns-in-Ok-clause-called : goal.returns-in-Ok-clause-called
returns-in-Ok-clause-called c = λ short. (
  c.add.result,
  search rules,
  inl (subst (λ (q : Name). Calls (λ x y. (r : Result Bool (Refused BytesKey ℕ)) × InsertionLeaves (Upserts (AddsTo c.args.more) c.args.more) text_hash q (record { 0 = q }) c.args.more r x y × TellsFresh r c.add.result) c.args.handle.now.held c.add.new.place.held c.add.result) c.in-Ok.ensures.ok.1 c.add.ensures.called),
)
