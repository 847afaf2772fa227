use Rattle.std.specs.Prelude.{IfSome}
use Rattle.ck_words.specs.Words.{WordsState}
use Rattle.ck_words.specs.Passes.{PassState}
use Rattle.ck_words.specs.Retries.{Stays}
use Rattle.ck_words.proofs.Ending.{callers_apart}
use Rattle.cuckoo_map.specs.Callers.{caller_of}
use Rattle.cuckoo_map.specs.Refusals.{IsStripeIn, IsBusyAmong}
use Rattle.cuckoo_map.proofs.Callers.{over}
use Rattle.cuckoo_map.proofs.Closing.{all_passes, closes_by, not_closed, caller_again, others_again}
use Rattle.cuckoo_map.proofs.caller.CallerOn.close_table.Goals as goal

pub close_by-requires : goal.close_by-requires
close_by-requires g c = all_passes c.self.inside.pass c.self.view_is c.self.invariant c.table.ensures c.args.others.items c.requires

pub invariant_of-caller : goal.invariant_of-caller
invariant_of-caller g c = caller_again c.in-Err.field-0.pass c.in-Err.field-0.others.items c.table.ensures c.in-Err.ensures.passes

pub returns-in-Ok-clause-pairs : goal.returns-in-Ok-clause-pairs
returns-in-Ok-clause-pairs g c =
    let pairs = c.in-Ok.ensures.pairs in
    (pairs.0, closes_by c.self.inside.pass c.self.view_is c.self.invariant c.table.ensures c.args.others.items g.K.TableKey.hash pairs.0 pairs.1, pairs.2)

pub returns-in-Err-clause-stays : goal.returns-in-Err-clause-stays
returns-in-Err-clause-stays g c =
    let o = c.in-Err.field-0 in
    let caller = (callers_apart c.table.result.now o.others.items o.pass c.in-Err.ensures.passes).1 in
    over c.self.inside.pass o.pass c.self.view_is c.self.invariant c.table.ensures caller (λ (w : WordsState) (a b : PassState g.row.V.Denot). Stays a.view b.view) c.in-Err.ensures.stays

pub returns-in-Err-clause-refused : goal.returns-in-Err-clause-refused
returns-in-Err-clause-refused g c =
    let o = c.in-Err.field-0 in
    let caller = (callers_apart c.table.result.now o.others.items o.pass c.in-Err.ensures.passes).1 in
    not_closed c.args.self (caller_of (g.T.TableRef.state c.self.inside.table) o.pass) o.held c.why_not_closed-why.result c.why_not_closed-why.ensures.busy c.why_not_closed-why.ensures.memory
    (over c.self.inside.pass o.pass c.self.view_is c.self.invariant c.table.ensures caller
    (λ (w : WordsState) (a b : PassState g.row.V.Denot). IfSome o.held (λ t. IsBusyAmong (IsStripeIn w.settings) w.settings t a b)) c.in-Err.ensures.busy)
    (over c.self.inside.pass o.pass c.self.view_is c.self.invariant c.table.ensures caller (λ (w : WordsState) (a b : PassState g.row.V.Denot). Stays a.view b.view) c.in-Err.ensures.stays)

pub returns-in-Err-clause-again : goal.returns-in-Err-clause-again
returns-in-Err-clause-again g c = others_again c.in-Err.field-0.pass c.in-Err.field-0.others.items c.table.ensures c.in-Err.ensures.passes
