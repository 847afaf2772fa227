use Rattle.std.proofs.Common.{◌≡◌, ◌≤◌, ℕ, map}
use Rattle.ck_words.specs.Closing.{IsCaller}
use Rattle.cuckoo_map.specs.Displacing.{FindsAny}
use Rattle.cuckoo_map.specs.RoomForKeys.{GrowsTimes}
use Rattle.cuckoo_map.proofs.table.Table.lock_with_room.Given as goal

abbrev pub invariant-loop : goal.invariant-loop
invariant-loop g l = record {
  caller : IsCaller l.self l.pass;
  grown : (n : ℕ) × (n ≡ l.counter) × GrowsTimes g.K.TableKey.hash l.self.settings (map (λ k. g.K.TableKey.name k.now) l.keys) n l.initial.pass l.pass × (l.counter ≤ l.pass.view.told);
  found : FindsAny l.initial.pass l.pass;
}
