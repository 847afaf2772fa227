use Rattle.cuckoo_map.proofs.table.Table.reserve.Goals as goal

pub returns-clause-reserved : goal.returns-clause-reserved
returns-clause-reserved g c = (c.least_power.result, c.least_power.ensures, c.rehash.ensures.rehashed)
