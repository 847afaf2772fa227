use Rattle.cuckoo_map.proofs.Renaming.{rename_left}
use Rattle.cuckoo_map.proofs.caller.CallerOn.rename.Goals as goal

pub returns : goal.returns
returns g c = rename_left c.self.inside.pass c.rename.new.pass c.self.view_is c.self.invariant c.table.ensures c.rename.ensures.caller g.K.TableKey.hash (g.K.TableKey.name c.args.from.now) (g.K.TableKey.name c.args.to) c.args.to c.rename.result c.rename.ensures.renamed
