use Rattle.std.proofs.Common.{◌∙◌, arith}
use Rattle.ck_bucket.proofs.SeenRows.{read_row, head-there, heads-count, places-free}
use Rattle.ck_bucket.proofs.rows.Rows.close.Goals as goal

pub drain-requires-clause-count : goal.drain-requires-clause-count
drain-requires-clause-count g c = c.requires.count ∙ heads-count g.K.TableKey.name c.self.inside.pairs.items c.self.view_is c.self.invariant.0

pub drain-requires-clause-full : goal.drain-requires-clause-full
drain-requires-clause-full g c r below = head-there (read_row c.self.view_is c.self.invariant.0 (omega (arith, below, c.requires.count)))

pub release_two-requires-clause-empty : goal.release_two-requires-clause-empty
release_two-requires-clause-empty g c = places-free g.K.TableKey.name c.self.inside.pairs.items c.self.view_is c.self.invariant.0 c.requires.free
