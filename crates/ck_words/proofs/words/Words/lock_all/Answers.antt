use Rattle.ck_words.proofs.WholeTables.{own_either, stays_either, whole_either, table_either, found_either, busy_either, asked_either}
use Rattle.ck_words.proofs.words.Words.lock_all.Goals as goal

pub returns : goal.returns
returns g c =
    let hash = g.K.TableKey.hash in
    let w = c.args.self.now in
    let range = c.show_range.ensures in
    let p = c.args.pass.now in
    let q = c.take_set.new.pass in
    let all = c.all.ensures.all in
    let some = c.all.result.some in
    let r = c.take_set.result in
    let e = c.take_set.ensures in
    record {
      own = own_either hash w range p q _ all some r e.taken e.refused;
      stays = stays_either hash w range p q _ all some r e.taken e.refused;
      whole = whole_either hash w range p q _ all some r e.taken;
      table = table_either hash w range p q _ all some r e.taken;
      found = found_either hash w range p q _ all some r e.taken e.refused;
      busy = busy_either hash w range p q _ all some r e.refused;
      asked = asked_either hash w range p q _ all some r e.refused;
    }
