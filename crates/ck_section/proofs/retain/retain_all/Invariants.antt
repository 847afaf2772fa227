use Rattle.ck_bucket.proofs.InTurn.{Begins}
use Rattle.ck_section.specs.Retaining.{AsksAboutStripe}
use Rattle.ck_section.proofs.retain.retain_all.Given as goal

abbrev pub invariant-loop-i : goal.invariant-loop-i
invariant-loop-i g l = record {
  asked : Begins (AsksAboutStripe g.F.FnMut g.K.TableKey.name) l.initial.f l.initial.stripes l.stripes l.i l.f;
  call : goal.F-IsAlwaysCallable g l.f;
}
