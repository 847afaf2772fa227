use Rattle.std.proofs.Common.{rules, ◌≡◌, ◌∙◌, [], ap}
use Rattle.ck_core.specs.declared.view.View.{View}
use Rattle.ck_model.specs.declared.history.Call.TheVariants.{Len}
use Rattle.ck_model.specs.declared.history.Reply.TheVariants.{Count}
use Rattle.cuckoo_map.proofs.Calls.{answered_since, answered_level}
use Rattle.cuckoo_map.proofs.Counted.{changes_none, none_made, one_power_table}
use Rattle.cuckoo_map.proofs.Sizes.{as_before, counted, few_names}
use Rattle.cuckoo_map.proofs.table.Table.len.Goals as goal

pub commit-requires-clause-done : goal.commit-requires-clause-done
commit-requires-clause-done g c =
    let n = c.len-count in
    (Count n.result, counted (n.ensures.stays.5 ∙ c.self.view_is) (as_before c.lock_all.new.pass n.new.held.pass.now n.ensures.stays.2 n.ensures.stays.1 n.ensures.same) c.in_ok-lock_all.ensures.whole n.ensures.value)

pub returns-clause-answered : goal.returns-clause-answered
returns-clause-answered g c =
    let n = c.len-count in
    let same = as_before c.lock_all.new.pass n.new.held.pass.now n.ensures.stays.2 n.ensures.stays.1 n.ensures.same in
    let there : c.commit.new.self.pass.now ≡ c.pass-1.given.0 = search rules in
    let z = c.commit.new.self.pass.now in
    let whole = c.in_ok-lock_all.ensures.whole in
    let made = none_made c.lock_all.new.pass n.new.held.pass.now z n.ensures.stays.1 (changes_none _ _ n.ensures.same) c.commit.ensures.committed.doubled whole.unchanged (one_power_table g.K.TableKey.hash c.args.self.now.settings c.lock_all.new.pass whole) in
    rw (← there) (answered_level c.args.pass.now z (made.0 ∙ (ap (λ (v : View g.row.V.Denot). v.doublings) n.ensures.stays.1 ∙ c.lock_all.ensures.stays.doublings), made.1 ∙ (ap (λ (v : View g.row.V.Denot). v.grown_from) n.ensures.stays.1 ∙ c.lock_all.ensures.stays.grown_from))
    (answered_since [] c.args.pass.now c.lock_all.new.pass n.new.held.pass.now z c.lock_all.ensures.stays n.ensures.stays.1 Len (Count n.result)
    (c.commit.ensures.committed.answered (Count n.result) (counted (n.ensures.stays.5 ∙ c.self.view_is) same whole n.ensures.value))))

pub returns-clause-most : goal.returns-clause-most
returns-clause-most g c = few_names g.K.TableKey.hash c.args.self.now.settings c.lock_all.new.pass c.len-count.result c.in_ok-lock_all.ensures.whole c.len-count.ensures.value
