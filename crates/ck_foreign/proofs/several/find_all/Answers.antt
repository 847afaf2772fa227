use Rattle.std.proofs.Common.{rules, ◌≢◌, ℕ, ◌∷◌, [], Result, inl, map}
use Rattle.ck_key.specs.Hashes.{mixed_hash}
use Rattle.ck_refusal.specs.declared.refusal.KeysRefused.{KeysRefused}
use Rattle.cuckoo_map.specs.Callers.{CallerState, KeysLeave}
use Rattle.cuckoo_map.specs.SeveralKeys.{FindsAll}
use Rattle.ck_foreign.specs.declared.several.CuckooEntry.{CuckooEntry}
use Rattle.ck_foreign.specs.declared.code.Code.TheVariants as codes
use Rattle.ck_foreign.specs.Codes.{TellsDone}
use Rattle.ck_foreign.specs.Several.{FindsEntries}
use Rattle.ck_foreign.proofs.FewKeys.{calls_as}
use Rattle.ck_foreign.proofs.several.find_all.Goals as goal

pub returns-else-eq-clause-called : goal.returns-else-eq-clause-called
returns-else-eq-clause-called c =
    let other : c.find_all-code.result ≢ codes.Done = search rules in
    inl (search rules, calls_as (λ (x y : CallerState ℕ). (r : Result (Unit {0}) KeysRefused) × KeysLeave (λ _. FindsAll c.find_all-code.new.values) mixed_hash (map (λ (e : CuckooEntry). e.key ∷ []) c.args.entries.now) r x y × TellsDone r c.find_all-code.result) (FindsEntries c.args.entries.now c.args.entries.now c.find_all-code.result) c.args.handle.now.held _ _ c.find_all-code.ensures.called (λ x y h. (c.find_all-code.new.values, h.0, h.1, h.2, λ done. absurd (other done))))
