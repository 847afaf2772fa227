use Rattle.std.proofs.Common.{inl, ap}
use Rattle.ck_model.proofs.Entries.{entries_listed}
use Rattle.cuckoo_map.specs.Locking.{map_of}
use Rattle.ck_format.specs.declared.answer.Answer.TheVariants.{Listed}
use Rattle.ck_script.proofs.calls.listed.Goals as goal

pub export-requires-clause-keys : goal.export-requires-clause-keys
export-requires-clause-keys g c = g.met.K.WrittenKey.clones

pub returns-in-Ok : goal.returns-in-Ok
returns-in-Ok g c =
    inl (ap Listed (entries_listed g.K.TableKey.name g.K.Ord.cmp g.met.K.WrittenKey.in_order c.in-Ok.pairs.items (map_of c.args.locked.now) c.in-Ok.ensures.pairs))
