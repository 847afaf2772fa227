use Rattle.std.proofs.Common.{◌≡◌, ◌≤◌, sym, subst}
use Rattle.cuckoo_map.specs.Locking.{locked_power}
use Rattle.cuckoo_map.proofs.LockedGrowing.{first_power, power_within}
use Rattle.cuckoo_map.proofs.locked.LockedOn.power.Goals as goal

pub returns-clause-within : goal.returns-clause-within
returns-clause-within g c =
    let is : c.power.result ≡ locked_power c.args.self.now =
    first_power c.self.invariant c.self.view_is c.stripes_of.result.now c.stripes_of.ensures c.index-stripes_of-0.result c.index-stripes_of-0.is c.power.result c.power.ensures.value in
    subst (λ n. (c.args.self.now.caller.table.settings.power ≤ n) × (n ≤ c.args.self.now.caller.table.settings.max)) (sym is) (power_within c.self.invariant c.args.self.now c.self.view_is)
