use Rattle.std.proofs.Common.{sym, subst}
use Rattle.ck_words.specs.Words.{WordsState}
use Rattle.ck_words.specs.Passes.{IsPassOf}
use Rattle.ck_words.specs.StripeSets.{list_of}
use Rattle.ck_words.specs.Retries.{IsBusy}
use Rattle.ck_model.specs.Numbered.{IsIn}
use Rattle.ck_words.specs.Holding.{HasTakenAll, Misses, GivesUp}
use Rattle.cuckoo_map.proofs.Sets.{finds_such, busy_such}
use Rattle.cuckoo_map.proofs.table.Table.lock_key_later.Given.{Over}
use Rattle.cuckoo_map.proofs.table.Table.lock_key_later.Goals.{In-Ok, In-Err}
use Rattle.cuckoo_map.proofs.table.Table.lock_key_later.Goals as goal

-- the stripes were taken since, or one was found held to the end
taken : (g : Over) (c : In-Ok g) → HasTakenAll {V = g.row.V.Denot} g.K.TableKey.hash c.args.self.now (list_of c.args.own.stripes) c.args.since.now.value c.lock_later.new.pass
taken g c =
    let missed = subst (λ (w : WordsState). Misses g.K.TableKey.hash w (list_of c.args.own.stripes) c.args.missed c.args.since.now.value c.args.pass.now) (sym c.self.view_is) c.requires.missed in
    subst (λ (w : WordsState). HasTakenAll g.K.TableKey.hash w (list_of c.args.own.stripes) c.args.since.now.value c.lock_later.new.pass) c.self.view_is (c.in-Ok.ensures.taken c.args.since.now.value missed)

gave : (g : Over) (c : In-Err g) → GivesUp {V = g.row.V.Denot} c.args.self.now (λ u. IsIn u (list_of c.args.own.stripes)) c.in-Err.held c.args.since.now.value c.lock_later.new.pass
gave g c =
    let missed = subst (λ (w : WordsState). Misses g.K.TableKey.hash w (list_of c.args.own.stripes) c.args.missed c.args.since.now.value c.args.pass.now) (sym c.self.view_is) c.requires.missed in
    subst (λ (w : WordsState). GivesUp w (λ u. IsIn u (list_of c.args.own.stripes)) c.in-Err.held c.args.since.now.value c.lock_later.new.pass) c.self.view_is (c.in-Err.ensures.refused c.args.since.now.value missed)

pub returns-in-Ok-clause-taken : goal.returns-in-Ok-clause-taken
returns-in-Ok-clause-taken g c = taken g c

pub returns-in-Ok-clause-own : goal.returns-in-Ok-clause-own
returns-in-Ok-clause-own g c = (taken g c).own

pub returns-in-Err-clause-own : goal.returns-in-Err-clause-own
returns-in-Err-clause-own g c = (gave g c).own

pub returns-in-Err-clause-idle : goal.returns-in-Err-clause-idle
returns-in-Err-clause-idle g c = (gave g c).busy.0

pub returns-in-Err-clause-found : goal.returns-in-Err-clause-found
returns-in-Err-clause-found g c =
    finds_such (list_of c.args.own.stripes) c.requires.key_stripes.exact c.args.since.now.value c.lock_later.new.pass (gave g c).found

pub returns-in-Err-clause-busy : goal.returns-in-Err-clause-busy
returns-in-Err-clause-busy g c =
    busy_such (list_of c.args.own.stripes) c.requires.key_stripes.exact c.args.self.now.settings c.args.since.now.value c.lock_later.new.pass c.in-Err.held (gave g c).stays (gave g c).busy (gave g c).asked
