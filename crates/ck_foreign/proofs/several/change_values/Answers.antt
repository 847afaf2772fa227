use Rattle.std.proofs.Common.{rules, ◌≡◌, ℕ, List, true, false, Some, None, Ok, Err, map, refl, subst}
use Rattle.cuckoo_map.specs.Callers.{KeepsNotes}
use Rattle.ck_key.specs.Hashes.{mixed_hash}
use Rattle.ck_foreign.specs.Several.{ChangesEach}
use Rattle.ck_foreign.proofs.FewKeys.{at_answer}
use Rattle.ck_foreign.proofs.Through.{through}
use Rattle.ck_foreign.proofs.several.change_values.Goals as goal

pub returns-in-Ok-Some-true : goal.returns-in-Ok-Some-true
returns-in-Ok-Some-true g c =
    let made = g.C.Change.made in
    let changes = c.args.changes.now in
    let x = c.deref_mut.result.now in
    let y = c.modify_all-changed.new.self in
    let e = c.modify_all-changed.ensures.answered in
    let is : c.modify_all-changed.result ≡ Ok (Some true) = search rules in
    let took : c.args.place.now.held ≡ Some x = search rules in
    let back : c.put.new.handle.held ≡ Some y = search rules in
    let notes : KeepsNotes x y = search rules in
    let a = at_answer mixed_hash (map g.C.Query.name changes) c.modify_all-changed.result x y e (Some true) is in
    let m = a.2.2 in
    let there : ChangesEach made changes m.shown.now true m.left.now = search rules in
    let changed = subst (λ (z : List ℕ × List ℕ). ChangesEach made changes z.0 true z.1) (λ j. (m.shows j, m.leaves j)) there in
    through _ _ _ _ x y took back (Ok (Some true), record { same = e.same; answered = (a.0, a.1, (a.2.0, a.2.1, changed, a.2.3), a.3); notes = notes; refused = tt; found = e.found }, refl)

pub returns-in-Ok-Some-false : goal.returns-in-Ok-Some-false
returns-in-Ok-Some-false g c =
    let made = g.C.Change.made in
    let changes = c.args.changes.now in
    let x = c.deref_mut.result.now in
    let y = c.modify_all-changed.new.self in
    let e = c.modify_all-changed.ensures.answered in
    let is : c.modify_all-changed.result ≡ Ok (Some false) = search rules in
    let took : c.args.place.now.held ≡ Some x = search rules in
    let back : c.put.new.handle.held ≡ Some y = search rules in
    let notes : KeepsNotes x y = search rules in
    let a = at_answer mixed_hash (map g.C.Query.name changes) c.modify_all-changed.result x y e (Some false) is in
    let m = a.2.2 in
    let there : ChangesEach made changes m.shown.now false m.left.now = search rules in
    let changed = subst (λ (z : List ℕ × List ℕ). ChangesEach made changes z.0 false z.1) (λ j. (m.shows j, m.leaves j)) there in
    through _ _ _ _ x y took back (Ok (Some false), record { same = e.same; answered = (a.0, a.1, (a.2.0, a.2.1, changed, a.2.3), a.3); notes = notes; refused = tt; found = e.found }, refl)

pub returns-in-Ok-None : goal.returns-in-Ok-None
returns-in-Ok-None g c =
    let e = c.modify_all-changed.ensures.answered in
    through _ _ _ _ c.deref_mut.result.now c.modify_all-changed.new.self (search rules) (search rules)
    (Ok None, record { same = e.same; answered = search rules; notes = search rules; refused = search rules; found = e.found }, search rules)

pub returns-in-Err : goal.returns-in-Err
returns-in-Err g c =
    let e = c.modify_all-changed.ensures.answered in
    through _ _ _ _ c.deref_mut.result.now c.modify_all-changed.new.self (search rules) (search rules)
    (Err c.in-Err.why, record { same = e.same; answered = search rules; notes = search rules; refused = search rules; found = e.found }, search rules)
