use Rattle.std.proofs.Common.{◌≡◌, length, map, take}
use Rattle.std.specs.List.{AllZip}
use Rattle.ck_key.specs.Hashes.{IsHashOf}
use Rattle.cuckoo_map.proofs.several_keys.write_hashes.Given as goal

abbrev pub invariant-loop-i : goal.invariant-loop-i
invariant-loop-i g l = record { long : length l.hashes ≡ 8; so_far : AllZip (IsHashOf g.K.TableKey.hash) (map g.Q.Query.name (take l.i l.keys)) (take l.i l.hashes) }
