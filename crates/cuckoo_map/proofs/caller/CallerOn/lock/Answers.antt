use Rattle.std.proofs.Common.{sym, subst}
use Rattle.ck_words.specs.Words.{WordsState}
use Rattle.ck_words.specs.Passes.{PassState}
use Rattle.ck_words.specs.Retries.{FindsAmong}
use Rattle.cuckoo_map.specs.Refusals.{IsStripeIn, IsBusyAmong}
use Rattle.cuckoo_map.specs.Callers.{CallerState, pass_of}
use Rattle.cuckoo_map.specs.Locking.{HasLocked, locked_of}
use Rattle.cuckoo_map.proofs.Callers.{as_pass, over}
use Rattle.cuckoo_map.proofs.caller.CallerOn.lock.Goals as goal

pub returns-in-Ok-clause-locked : goal.returns-in-Ok-clause-locked
returns-in-Ok-clause-locked g c =
    let w = g.T.TableRef.state c.self.inside.table in
    let l = locked_of w c.in-Ok.whole in
    let locked = subst (λ (x : WordsState). HasLocked x c.self.inside.pass (locked_of x c.in-Ok.whole)) c.table.ensures c.in-Ok.ensures.locked.1 in
    subst (λ (x : CallerState g.row.V.Denot). HasLocked x.table (pass_of x) l) c.self.view_is
    (subst (λ (p : PassState g.row.V.Denot). HasLocked w p l) (sym (as_pass c.self.invariant)) locked)

pub returns-in-Err-clause-busy : goal.returns-in-Err-clause-busy
returns-in-Err-clause-busy g c =
    over c.self.inside.pass c.in-Err.pass c.self.view_is c.self.invariant c.table.ensures c.in-Err.ensures.caller (λ (w : WordsState) (a b : PassState g.row.V.Denot). IsBusyAmong (IsStripeIn w.settings) w.settings c.in-Err.busy.0 a b) c.in-Err.ensures.busy

pub returns-in-Err-clause-found : goal.returns-in-Err-clause-found
returns-in-Err-clause-found g c =
    over c.self.inside.pass c.in-Err.pass c.self.view_is c.self.invariant c.table.ensures c.in-Err.ensures.caller (λ (w : WordsState) (a b : PassState g.row.V.Denot). FindsAmong (IsStripeIn w.settings) a b) c.in-Err.ensures.found
