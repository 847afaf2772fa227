use Rattle.std.proofs.Common.{map, sym, subst}
use Rattle.ck_words.specs.Words.{WordsState}
use Rattle.ck_words.specs.Passes.{PassState}
use Rattle.ck_words.specs.Closing.{IsCaller}
use Rattle.cuckoo_map.specs.SeveralKeys.{IsStripeOfAny, RefusesNames}
use Rattle.cuckoo_map.specs.Callers.{CallerState, caller_of}
use Rattle.cuckoo_map.specs.LockedKeys.{HoldsKeys, HasLockedKeys, keys_of}
use Rattle.cuckoo_map.proofs.Callers.{over}
use Rattle.cuckoo_map.proofs.HeldKeys.{holds_keys, has_locked_keys}
use Rattle.cuckoo_map.proofs.caller.CallerOn.lock_keys.Goals as goal

pub invariant_of-result : goal.invariant_of-result
invariant_of-result g c =
    let p = c.self.inside.pass in
    let p2 = c.lock_different.new.pass in
    let names = map g.Q.Query.name c.args.keys.now in
    let caller = subst (λ (w : WordsState). IsCaller w p) (sym c.table.ensures) c.self.invariant in
    subst (λ (w : WordsState). HoldsKeys g.K.TableKey.hash w c.in-Ok.stripes names p2) c.table.ensures
    (holds_keys p p2 caller c.in-Ok.ensures.own c.in-Ok.ensures.different c.in-Ok.ensures.held)

pub returns-in-Ok-clause-locked : goal.returns-in-Ok-clause-locked
returns-in-Ok-clause-locked g c =
    let p = c.self.inside.pass in
    let p2 = c.lock_different.new.pass in
    let names = map g.Q.Query.name c.args.keys.now in
    let hash = g.K.TableKey.hash in
    let w = g.T.TableRef.state c.self.inside.table in
    let caller = subst (λ (v : WordsState). IsCaller v p) (sym c.table.ensures) c.self.invariant in
    subst (λ (x : CallerState g.row.V.Denot). HasLockedKeys (IsStripeOfAny hash x.table.settings names) names x (keys_of w names p2)) c.self.view_is
    (subst (λ (v : WordsState). HasLockedKeys (IsStripeOfAny hash v.settings names) names (caller_of v p) (keys_of v names p2)) c.table.ensures
    (has_locked_keys _ p p2 caller c.in-Ok.ensures.different c.in-Ok.ensures.held c.in-Ok.ensures.found))

pub returns-in-Err-clause-refused : goal.returns-in-Err-clause-refused
returns-in-Err-clause-refused g c =
    let names = map g.Q.Query.name c.args.keys.now in
    over c.self.inside.pass c.lock_different.new.pass c.self.view_is c.self.invariant c.table.ensures c.in-Err.ensures.caller
    (λ (w : WordsState) (a b : PassState g.row.V.Denot). RefusesNames g.K.TableKey.hash w.settings names a b c.in-Err.why) c.in-Err.ensures.refused
