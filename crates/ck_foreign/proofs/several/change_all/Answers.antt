use Rattle.std.proofs.Common.{rules, ℕ, Bool, Option, Result, inl, map}
use Rattle.ck_key.specs.Hashes.{mixed_hash}
use Rattle.ck_refusal.specs.declared.refusal.KeysRefused.{KeysRefused}
use Rattle.cuckoo_map.specs.Callers.{CallerState, KeysLeave}
use Rattle.cuckoo_map.specs.SeveralKeys.{ModifiesAll}
use Rattle.ck_foreign.specs.Codes.{TellsChange}
use Rattle.ck_foreign.specs.Several.{ChangesEach, ChangesKeys}
use Rattle.ck_foreign.proofs.FewKeys.{calls_as}
use Rattle.ck_foreign.proofs.several.change_all.Goals as goal

pub returns : goal.returns
returns g c =
    let names = map g.C.Query.name c.args.changes.now in
    inl (
      search rules,
      calls_as (λ (x y : CallerState ℕ). (r : Result (Option Bool) KeysRefused) × KeysLeave (ModifiesAll (ChangesEach g.C.Change.made c.args.changes.now) c.change_values.new.values) mixed_hash names r x y × TellsChange c.args.declined r c.change_values.result)
          (ChangesKeys g.C.Change.made names c.args.changes.now c.args.declined c.change_values.result) c.args.handle.now.held _ _ c.change_values.ensures (λ x y h. (c.change_values.new.values, h.0, h.1, h.2)),
    )
