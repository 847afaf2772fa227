use Rattle.cuckoo_map.proofs.table.Table.erase_fn.Goals as goal

pub returns-clause-queried : goal.returns-clause-queried
returns-clause-queried g c = let did = c.in_ok-gone.ensures.queried in rw (c.ok.ensures.value) (record { answered = did.answered.1; busy = tt; found = did.found })
