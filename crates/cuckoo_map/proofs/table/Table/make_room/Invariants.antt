use Rattle.std.proofs.Common.{◌≤◌}
use Rattle.ck_words.specs.Closing.{IsCaller}
use Rattle.cuckoo_map.proofs.Trying.{HasTried}
use Rattle.cuckoo_map.proofs.table.Table.make_room.Given as goal

abbrev pub invariant-tries : goal.invariant-tries
invariant-tries g l = record {
  caller : IsCaller l.self l.pass;
  tried : HasTried (g.K.TableKey.name l.key) l.self l.initial.pass l.pass;
  power : (l.self.settings.s ≤ l.power) × (l.power ≤ 26);
}
