use Rattle.ck_bucket.specs.Retaining.{AsksAboutRow}
use Rattle.ck_bucket.proofs.InTurn.{Begins}
use Rattle.ck_stripe.proofs.pairs.retain_rows.Given as goal

abbrev pub invariant-loop-row : goal.invariant-loop-row
invariant-loop-row g l = record {
  asked : Begins (AsksAboutRow g.F.FnMut g.K.TableKey.name) l.initial.f l.initial.rows l.rows l.row l.f;
  call : goal.F-IsAlwaysCallable g l.f;
}
