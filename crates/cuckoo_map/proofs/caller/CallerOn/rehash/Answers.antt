use Rattle.ck_words.specs.Words.{WordsState}
use Rattle.ck_words.specs.Passes.{PassState}
use Rattle.ck_words.specs.Retries.{Stays, as_doubled, FindsAmong}
use Rattle.cuckoo_map.specs.Refusals.{IsStripeIn}
use Rattle.cuckoo_map.specs.Growth.{Rehashes}
use Rattle.cuckoo_map.proofs.Callers.{same_caller, over}
use Rattle.cuckoo_map.proofs.caller.CallerOn.rehash.Goals as goal

pub returns : goal.returns
returns g c =
    let q = c.rehash.new.pass in
    let caller = c.rehash.ensures.caller in
    record {
      same = same_caller c.self.inside.pass q c.self.view_is c.rehash.ensures.stays.by;
      stays = over c.self.inside.pass q c.self.view_is c.self.invariant c.table.ensures caller (λ (w : WordsState) (a b : PassState g.row.V.Denot). Stays (as_doubled a b).view b.view) c.rehash.ensures.stays;
      rehashed = over c.self.inside.pass q c.self.view_is c.self.invariant c.table.ensures caller (λ (w : WordsState) (a b : PassState g.row.V.Denot). Rehashes w.settings c.args.power c.rehash.result a b) c.rehash.ensures.rehashed;
      found = over c.self.inside.pass q c.self.view_is c.self.invariant c.table.ensures caller (λ (w : WordsState) (a b : PassState g.row.V.Denot). FindsAmong (IsStripeIn w.settings) a b) c.rehash.ensures.found;
    }
