use Rattle.std.proofs.Common.{rules, ◌≡◌, ◌≢◌, ℕ, ◌<◌, None, length, get_or, sym, ◌∙◌, subst, arith}
use Rattle.std.specs.Prelude.{IsSome}
use Rattle.std.proofs.lemmas.List.{get_or_default}
use mathlib.Core.Logic.{dite}
use native.Mathlib.Decide.{dec_lt}
use Rattle.ck_foreign.specs.Several.{changed_by}
use Rattle.ck_foreign.proofs.FewKeys.{changed_at, changed_long, other_long, one_refused}
use Rattle.ck_foreign.proofs.several.may_change.Goals as goal

pub returns-then-values-changes-clause-not_all : goal.returns-then-values-changes-clause-not_all
returns-then-values-changes-clause-not_all g c =
    let apart : length c.args.changes.now ≢ length c.args.values.now = search rules in
    other_long g.C.Change.made c.args.changes.now c.args.values.now apart

pub returns-then-is_none-clause-not_all : goal.returns-then-is_none-clause-not_all
returns-then-is_none-clause-not_all g c =
    let same : length c.args.changes.now ≡ length c.args.values.now = omega arith in
    let none : c.changed.result ≡ None = search rules in
    one_refused g.C.Change.made c.args.changes.now c.args.values.now c.loop-i.i c.index-changes-i.result _ same c.loop-i-test.true c.index-changes-i.is (get_or_default c.args.values.now c.loop-i.i 0 _ c.loop-i-test.true) (sym c.changed.ensures ∙ none)

pub loop-i-preserved : goal.loop-i-preserved
loop-i-preserved g c = record {
  so_far = λ j d l. dite (dec_lt j c.loop-i.i)
      (λ (m : j < c.loop-i.i). c.loop-i.invariant.so_far j d m)
      (λ n. let last : c.loop-i.i ≡ j = omega arith in
      let same : length c.args.changes.now ≡ length c.args.values.now = omega arith in
      let some : IsSome c.changed.result = search rules in
      subst (λ (k : ℕ). IsSome (get_or (changed_by g.C.Change.made c.args.changes.now c.args.values.now) k d)) last
      (subst IsSome (c.changed.ensures ∙ sym (changed_at g.C.Change.made c.args.changes.now c.args.values.now c.loop-i.i c.index-changes-i.result _ d same c.loop-i-test.true c.index-changes-i.is (get_or_default c.args.values.now c.loop-i.i 0 _ c.loop-i-test.true))) some));
}

pub returns-clause-all : goal.returns-clause-all
returns-clause-all g c k d l =
    let same : length c.args.changes.now ≡ length c.args.values.now = omega arith in
    c.loop-i.invariant.so_far k d (let long = changed_long g.C.Change.made c.args.changes.now c.args.values.now same in omega arith)
