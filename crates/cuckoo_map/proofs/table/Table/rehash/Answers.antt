use Rattle.std.proofs.Common.{rules, ◌≡◌, ◌∙◌}
use Rattle.ck_words.proofs.Staying.{stays_same}
use Rattle.cuckoo_map.proofs.Calls.{s_of}
use Rattle.cuckoo_map.proofs.Counted.{loosely}
use Rattle.cuckoo_map.proofs.Growing.{below_max, renewed_there, renewed_by, stays_home, answered_home, short_home}
use Rattle.cuckoo_map.proofs.table.Table.rehash.Goals as goal

pub returns-then-max-power-clause-stays : goal.returns-then-max-power-clause-stays
returns-then-max-power-clause-stays g c = stays_same c.args.pass.now.view

pub returns-in_err-lock_all-clause-stays : goal.returns-in_err-lock_all-clause-stays
returns-in_err-lock_all-clause-stays g c = loosely c.lock_all.ensures.stays

pub renew-requires-clause-renewed : goal.renew-requires-clause-renewed
renew-requires-clause-renewed g c =
    renewed_by (c.double_to-grown.ensures.stays.5 ∙ c.self.view_is) c.lock_all.new.pass c.double_to-grown.new.held.pass.now c.double_to-grown.ensures.stays.1 (s_of c.self.view_is c.settings-s.ensures.value)
    (below_max c.self.view_is c.settings-s.ensures.value c.if-max-power.false) c.in_ok-lock_all.ensures.whole c.double_to-grown.ensures.no_call

pub returns-in-Ok-clause-stays : goal.returns-in-Ok-clause-stays
returns-in-Ok-clause-stays g c =
    let there : c.renew.new.self.pass.now ≡ c.pass-1.given.0 = search rules in
    rw (← there) (stays_home (c.double_to-grown.ensures.stays.5 ∙ c.self.view_is) c.lock_all.new.pass c.double_to-grown.new.held.pass.now c.double_to-grown.ensures.stays.1 c.args.pass.now c.renew.new.self.pass.now c.lock_all.ensures.stays c.renew.ensures.released)

pub returns-clause-stays : goal.returns-clause-stays
returns-clause-stays g c =
    let there : c.renew.new.self.pass.now ≡ c.pass-1.given.0 = search rules in
    rw (← there) (stays_home (c.double_to-grown.ensures.stays.5 ∙ c.self.view_is) c.lock_all.new.pass c.double_to-grown.new.held.pass.now c.double_to-grown.ensures.stays.1 c.args.pass.now c.renew.new.self.pass.now c.lock_all.ensures.stays c.renew.ensures.released)

pub returns-in-Ok-clause-rehashed : goal.returns-in-Ok-clause-rehashed
returns-in-Ok-clause-rehashed g c =
    let there : c.renew.new.self.pass.now ≡ c.pass-1.given.0 = search rules in
    rw (← there) (answered_home c.args.pass.now c.lock_all.new.pass c.double_to-grown.new.held.pass.now c.renew.new.self.pass.now
    c.lock_all.ensures.stays c.in_ok-lock_all.ensures.whole c.in_ok-lock_all.ensures.table c.double_to-grown.ensures.stays.1 c.renew.ensures.told (below_max c.self.view_is c.settings-s.ensures.value c.if-max-power.false)
    (renewed_there c.self.view_is c.lock_all.new.pass c.double_to-grown.new.held.pass.now c.double_to-grown.ensures.stays.1 (s_of c.self.view_is c.settings-s.ensures.value)
    (below_max c.self.view_is c.settings-s.ensures.value c.if-max-power.false) c.in_ok-lock_all.ensures.whole c.double_to-grown.ensures.no_call)
    c.lock_all.ensures.stays.doublings c.renew.ensures.doubled c.in-Ok.grown c.in-Ok.ensures.reached)

pub returns-clause-rehashed : goal.returns-clause-rehashed
returns-clause-rehashed g c =
    let there : c.renew.new.self.pass.now ≡ c.pass-1.given.0 = search rules in
    rw (← there) (short_home c.args.pass.now c.lock_all.new.pass c.double_to-grown.new.held.pass.now c.renew.new.self.pass.now
    c.lock_all.ensures.stays c.in_ok-lock_all.ensures.whole c.in_ok-lock_all.ensures.table c.double_to-grown.ensures.stays.1 c.renew.ensures.told (below_max c.self.view_is c.settings-s.ensures.value c.if-max-power.false)
    (renewed_there c.self.view_is c.lock_all.new.pass c.double_to-grown.new.held.pass.now c.double_to-grown.ensures.stays.1 (s_of c.self.view_is c.settings-s.ensures.value)
    (below_max c.self.view_is c.settings-s.ensures.value c.if-max-power.false) c.in_ok-lock_all.ensures.whole c.double_to-grown.ensures.no_call)
    c.lock_all.ensures.stays.doublings c.renew.ensures.doubled c.in-Err.ensures.short)
