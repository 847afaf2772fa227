use Rattle.std.proofs.Common.{◌≡◌, ◌≤◌, ℕ, Some, length, vec_len, vec_capacity}
use Rattle.ck_model.specs.Promise.{subhistory}
use Rattle.cuckoo_map.specs.Callers.{IsSameCaller}
use Rattle.ck_script.specs.Jobs.{HasMade}
use Rattle.ck_script.proofs.worker.work.Given as goal

abbrev pub invariant-loop-command : goal.invariant-loop-command
invariant-loop-command g l = record {
  same : IsSameCaller l.initial.handle l.handle;
  count : vec_len l.answers ≡ length l.yielded;
  room : vec_capacity l.initial.answers ≤ vec_capacity l.answers;
  own : (by : ℕ) → l.handle.client.by ≡ Some by → subhistory by l.handle.client.seen ≡ l.handle.client.mine;
  left : (by : ℕ) → l.handle.client.by ≡ Some by → HasMade g.K.TableKey.hash g.K.TableKey.name by l.yielded l.answers.items l.handle;
}
