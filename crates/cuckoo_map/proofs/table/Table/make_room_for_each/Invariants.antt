use Rattle.std.proofs.Common.{map, take}
use Rattle.ck_words.specs.Closing.{IsCaller}
use Rattle.cuckoo_map.specs.Displacing.{FindsAny}
use Rattle.cuckoo_map.specs.RoomForKeys.{SeeksRoomForEach}
use Rattle.cuckoo_map.proofs.table.Table.make_room_for_each.Given as goal

abbrev pub invariant-loop-key : goal.invariant-loop-key
invariant-loop-key g l = record {
  caller : IsCaller l.self l.pass;
  so_far : SeeksRoomForEach g.K.TableKey.hash l.self.settings (map (λ k. g.K.TableKey.name k.now) (take l.key-index l.keys)) l.initial.pass l.pass;
  found : FindsAny l.initial.pass l.pass;
}
