use Rattle.std.proofs.Common.{arith}
use Rattle.std.proofs.lemmas.List.{length-drop}
use Rattle.ck_format.proofs.Cuts.{to_end}
use Rattle.ck_format.proofs.Writing.{Appends-more, works_on}
use Rattle.ck_format.proofs.sink.write_all.Goals as goal

pub loop-written-preserved : goal.loop-written-preserved
loop-written-preserved g c =
    let bound = rw to_end at c.in-Ok.ensures.bound in
    let taken = rw to_end at c.in-Ok.ensures.taken in
    record {
      inside = omega (arith, length-drop c.loop-written.written c.args.bytes.now);
      works = works_on _ _ _ c.in-Ok.ensures.failed c.if-n-gt0.true;
      front = Appends-more _ _ _ c.args.bytes.now c.loop-written.written c.in-Ok.n c.loop-written.invariant.front taken;
    }
