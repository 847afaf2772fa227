use Rattle.std.proofs.Common.{◌^◌, ◌≤◌, arith}
use Rattle.cuckoo_map.proofs.LockedGrowing.{few_keys}
use Rattle.cuckoo_map.proofs.locked.LockedOn.load_factor.Goals as goal

pub overflow_mul-result : goal.overflow_mul-result
overflow_mul-result g c =
    let few : c.len.result ≤ 2 ^ 38 = few_keys c.self.invariant c.self.view_is c.len.result c.len.ensures in
    omega arith
