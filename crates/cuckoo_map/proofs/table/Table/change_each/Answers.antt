use Rattle.std.proofs.Common.{IsSome, All, sym, subst}
use Rattle.cuckoo_map.proofs.UpdatedKeys.{all_some}
use Rattle.cuckoo_map.proofs.table.Table.change_each.Goals as goal

pub update_each-requires-clause-bound : goal.update_each-requires-clause-bound
update_each-requires-clause-bound g c = subst (All IsSome) (sym c.requires.bound) (all_some c.args.values.now)
