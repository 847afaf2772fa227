use Rattle.std.proofs.Common.{◌≡◌, get_or, refl, sym, ◌∙◌, arith}
use Rattle.ck_foreign.proofs.FewKeys.{same_long, changed_next, changed_all, one_refused}
use Rattle.std.proofs.lemmas.List.{get_or_default}
use Rattle.ck_foreign.proofs.several.change_each.Goals as goal
use Rattle.ck_foreign.proofs.several.change_each.Goals.{in-Some, in_default}

pub loop-i-init : goal.loop-i-init
loop-i-init g c =
    let all = c.if-not-may_change.ensures.all in
    record {
      as_many = same_long g.C.Change.made c.args.changes.now c.args.values.now all;
      all = all;
      changed = record { long = refl; so_far = λ j l. absurd (omega arith); rest = λ j l. refl };
    }

pub loop-i-preserved : goal.loop-i-preserved
loop-i-preserved g c =
    let l = c.loop-i.invariant in
    let cs = c.args.changes.now in
    let old = c.args.values.now in
    let i = c.loop-i.i in
    let long = l.changed.long in
    let here = get_or_default c.loop-i.values i 0 (get_or c.loop-i.values i 0) (omega arith) in
    elim c.match-changed.branch [
      | in-Some w ↦ record {
        as_many = l.as_many;
        all = l.all;
        changed = rw w.values-is (changed_next g.C.Change.made cs old i c.loop-i.values c.index-changes-i.result _ w.in-Some.value l.as_many (omega arith) c.index-changes-i.is here (sym c.changed.ensures ∙ w.in-Some.is) l.changed);
      }
      | in_default w ↦
          let was : get_or c.loop-i.values i 0 ≡ get_or old i (get_or c.loop-i.values i 0) = l.changed.rest i (omega arith) ∙ get_or_default old i 0 _ (omega arith) in
          absurd (one_refused g.C.Change.made cs old i c.index-changes-i.result _ l.as_many (omega arith) c.index-changes-i.is was (sym c.changed.ensures ∙ w.in_default.is) l.all)
    ]

pub returns : goal.returns
returns g c =
    let l = c.loop-i.invariant in
    let long = l.changed.long in
    changed_all g.C.Change.made c.args.changes.now c.args.values.now c.loop-i.i c.loop-i.values l.as_many (omega arith) l.changed
