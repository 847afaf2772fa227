use Rattle.std.proofs.Common.{ℕ, List, sym, ◌∙◌, subst}
use Rattle.ck_words.specs.Words.{WordsState}
use Rattle.ck_words.specs.Passes.{PassState}
use Rattle.ck_words.specs.StripeNumbers.{own_numbers}
use Rattle.ck_words.specs.Holding.{Misses}
use Rattle.cuckoo_map.specs.Insertions.{HasInserted, TellsOf}
use Rattle.cuckoo_map.proofs.table.Table.make.Goals as goal
use Rattle.cuckoo_map.proofs.table.Table.make.Goals.{then-has_emptied, else-has_emptied}

pub make_missed-requires-clause-missed : goal.make_missed-requires-clause-missed
make_missed-requires-clause-missed g c =
    let q = g.K.TableKey.name c.args.key in
    let found = subst (λ (x : WordsState × List ℕ). Misses g.K.TableKey.hash x.0 x.1 c.in-Err.missed c.if-has_emptied.pass c.lock_now.new.pass) (λ j. (c.self.view_is j, c.stripes_of_key-own.ensures.list j)) c.in-Err.ensures.missed in
    subst (λ (p : PassState g.row.V.Denot). Misses g.K.TableKey.hash c.args.self.now (own_numbers c.args.self.now.settings.s (g.K.TableKey.hash q)) c.in-Err.missed p c.lock_now.new.pass) (sym c.of-since.ensures) found

pub returns-in-Ok-clause-inserted : goal.returns-in-Ok-clause-inserted
returns-in-Ok-clause-inserted g c =
    subst (λ (p : PassState g.row.V.Denot). HasInserted (TellsOf (g.I.Insertion.tells c.args.insertion c.args.value)) g.K.TableKey.hash c.args.self.now.settings (g.K.TableKey.name c.args.key) c.args.key c.args.value c.make_locked.result p c.make_locked.new.pass)
    (c.of-since.ensures ∙ (elim c.if-has_emptied.branch [ then-has_emptied w ↦ w.pass-is ∙ w.free_emptied.ensures | else-has_emptied w ↦ w.pass-is ])) c.make_locked.ensures.inserted

pub returns-in-Err-clause-inserted : goal.returns-in-Err-clause-inserted
returns-in-Err-clause-inserted g c =
    subst (λ (p : PassState g.row.V.Denot). HasInserted (TellsOf (g.I.Insertion.tells c.args.insertion c.args.value)) g.K.TableKey.hash c.args.self.now.settings (g.K.TableKey.name c.args.key) c.args.key c.args.value c.make_missed.result p c.make_missed.new.pass)
    (c.of-since.ensures ∙ (elim c.if-has_emptied.branch [ then-has_emptied w ↦ w.pass-is ∙ w.free_emptied.ensures | else-has_emptied w ↦ w.pass-is ])) c.make_missed.ensures.inserted
