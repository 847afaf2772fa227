use Rattle.std.proofs.Common.{rules, sym, subst}
use Rattle.cuckoo_map.specs.Callers.{Drains}
use Rattle.ck_foreign.proofs.sessions.drain_by.Goals as goal

pub returns-in-Ok : goal.returns-in-Ok
returns-in-Ok g c = record {
  same = search rules;
  listed = subst (Drains g.K.TableKey.name g.K.Ord.cmp c.args.handle c.in-Ok.handle) (sym c.of.ensures) c.in-Ok.ensures.drained;
  refused = search rules;
  notes = search rules;
  found = search rules;
}
