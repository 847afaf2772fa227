use Rattle.std.proofs.Common.{◌≡◌, IfErr, OnOk}
use Rattle.ck_words.specs.Words.{WordsState}
use Rattle.ck_words.specs.Passes.{PassState}
use Rattle.ck_words.specs.Retries.{Stays, FindsAmong}
use Rattle.cuckoo_map.specs.Refusals.{IsBusyAmong}
use Rattle.cuckoo_map.proofs.Callers.{over}
use Rattle.cuckoo_map.proofs.caller.CallerOn.power.Goals as goal

pub returns-clause-stays : goal.returns-clause-stays
returns-clause-stays g c =
    over c.self.inside.pass c.power.new.pass c.self.view_is c.self.invariant c.table.ensures c.power.ensures.caller (λ (w : WordsState) (a b : PassState g.row.V.Denot). OnOk c.power.result (Stays a.view b.view)) c.power.ensures.stays

pub returns-clause-busy : goal.returns-clause-busy
returns-clause-busy g c =
    over c.self.inside.pass c.power.new.pass c.self.view_is c.self.invariant c.table.ensures c.power.ensures.caller (λ (w : WordsState) (a b : PassState g.row.V.Denot). IfErr c.power.result (λ busy. IsBusyAmong (λ t. t ≡ 0) w.settings busy.0 a b)) c.power.ensures.busy

pub returns-clause-found : goal.returns-clause-found
returns-clause-found g c =
    over c.self.inside.pass c.power.new.pass c.self.view_is c.self.invariant c.table.ensures c.power.ensures.caller (λ (w : WordsState) (a b : PassState g.row.V.Denot). FindsAmong (λ t. t ≡ 0) a b) c.power.ensures.found
