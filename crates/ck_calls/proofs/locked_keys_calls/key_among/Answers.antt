use Rattle.std.proofs.Common.{Bor, ◌∷◌, []}
use Rattle.std.proofs.lemmas.List.{get_or_default}
use Rattle.cuckoo_map.specs.declared.NumKey.{NumKey}
use Rattle.ck_section.proofs.SeveralKeys.{key_among}
use Rattle.ck_calls.proofs.locked_keys_calls.key_among.Goals as goal

pub returns-then-keys-i : goal.returns-then-keys-i
returns-then-keys-i c =
    key_among (λ (k : Bor NumKey). k.now.0 ∷ []) c.args.keys.now c.loop-i.i _ c.loop-i-test.true (get_or_default c.args.keys.now c.loop-i.i _ _ c.loop-i-test.true)
