use Rattle.std.proofs.Common.{◌∙◌, arith}
use Rattle.std.proofs.lemmas.List.{length-set}
use Rattle.cuckoo_map.proofs.SeveralKeys.{hashes_next}
use Rattle.cuckoo_map.proofs.several_keys.write_hashes.Goals as goal

pub loop-i-preserved : goal.loop-i-preserved
loop-i-preserved g c =
    let l = c.loop-i.invariant in
    let long = l.long in
    let few = c.requires in
    record {
      long = length-set c.loop-i.hashes c.loop-i.i c.of.result ∙ l.long;
      so_far = hashes_next g.K.TableKey.hash g.Q.Query.name c.args.keys.now c.loop-i.hashes c.loop-i.i c.index-keys-i.result c.of.result c.loop-i-test.true (omega arith) c.index-keys-i.is c.of.ensures l.so_far;
    }
