use Rattle.ck_words.specs.Words.{WordsState}
use Rattle.ck_words.specs.Passes.{PassState}
use Rattle.ck_words.specs.Retries.{Stays, as_doubled, FindsAmong}
use Rattle.cuckoo_map.specs.Refusals.{IsStripeIn}
use Rattle.cuckoo_map.specs.Growth.{Reserves}
use Rattle.cuckoo_map.proofs.Callers.{same_caller, over}
use Rattle.cuckoo_map.proofs.caller.CallerOn.reserve.Goals as goal

pub returns : goal.returns
returns g c =
    let q = c.reserve.new.pass in
    let caller = c.reserve.ensures.caller in
    record {
      same = same_caller c.self.inside.pass q c.self.view_is c.reserve.ensures.stays.by;
      stays = over c.self.inside.pass q c.self.view_is c.self.invariant c.table.ensures caller (λ (w : WordsState) (a b : PassState g.row.V.Denot). Stays (as_doubled a b).view b.view) c.reserve.ensures.stays;
      reserved = over c.self.inside.pass q c.self.view_is c.self.invariant c.table.ensures caller (λ (w : WordsState) (a b : PassState g.row.V.Denot). Reserves w.settings c.args.n c.reserve.result a b) c.reserve.ensures.reserved;
      found = over c.self.inside.pass q c.self.view_is c.self.invariant c.table.ensures caller (λ (w : WordsState) (a b : PassState g.row.V.Denot). FindsAmong (IsStripeIn w.settings) a b) c.reserve.ensures.found;
    }
