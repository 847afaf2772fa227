use Rattle.std.proofs.Common.{◌≡◌, ℕ, List, [], ◌∷◌, ◌++◌, refl, subst, sym, ◌∙◌}
use Rattle.ck_format.specs.declared.reader.ScriptReader.{ScriptReader}
use Rattle.std.proofs.lemmas.Result.{err_from_is_err_and}
use Rattle.std.proofs.lemmas.List.{append-nil}
use Rattle.ck_format.proofs.Reading.{NoFeed, line_fault_of, line_stops_of, fault_more, fault_line, fault_after, stops_more, stops_after, stops_here, takes_line, takes_both, no_bytes}
use Rattle.ck_format.proofs.reader.ScriptReader.end_line.Goals as goal

pub returns-then-is_empty-clause-err : goal.returns-then-is_empty-clause-err
returns-then-is_empty-clause-err c =
    let empty = no_bytes _ c.args.self.now.front.items c.args.self.now.front.ok.0 (sym c.is_empty.ensures ∙ c.if-is_empty.true) in
    line_fault_of c.args.self.now c.args.rest.now c.args.rest.now c.take.result (rw empty refl) c.requires.rest c.take.ensures.err

pub returns-then-is_empty-clause-memory : goal.returns-then-is_empty-clause-memory
returns-then-is_empty-clause-memory c = line_stops_of c.args.self.now _ c.take.result c.requires.limits.front c.take.ensures.here

pub returns-in_err-extend-clause-err : goal.returns-in_err-extend-clause-err
returns-in_err-extend-clause-err c =
    let p = err_from_is_err_and c.from_residual.result c.from_residual.ensures.1 in
    rw (p.1, p.2) (fault_more c.args.self.now c.args.rest.now (10 ∷ []) c.in_err-extend.field-0.0 c.in_err-extend.ensures.err)

pub returns-in_err-extend-clause-memory : goal.returns-in_err-extend-clause-memory
returns-in_err-extend-clause-memory c =
    let p = err_from_is_err_and c.from_residual.result c.from_residual.ensures.1 in
    rw (p.1, p.2) (λ refused. stops_more c.args.self.now c.args.rest.now (10 ∷ []) c.in_err-extend.field-0.0.line (c.in_err-extend.ensures.memory refused))

pub returns-in_err-take-clause-err : goal.returns-in_err-take-clause-err
returns-in_err-take-clause-err c =
    let p = err_from_is_err_and c.from_residual-in_err-take.result c.from_residual-in_err-take.ensures.1 in
    let r = c.extend.new.self in
    let line : r.front.items ++ [] ≡ c.deref.result.now = append-nil r.front.items ∙ sym c.deref.ensures.value in
    let none = subst (λ (xs : List ℕ). NoFeed xs) (sym c.deref.ensures.value) c.in_ok-extend.ensures.limits.front.no_feed in
    rw (p.1, p.2) (fault_after c.args.self.now r c.args.rest.now (10 ∷ []) c.in_err-take.field-0.0 c.in_ok-extend.ensures.ok (fault_line r [] c.deref.result.now c.in_err-take.field-0.0 line none c.in_err-take.ensures.err))

pub returns-in_err-take-clause-memory : goal.returns-in_err-take-clause-memory
returns-in_err-take-clause-memory c =
    let p = err_from_is_err_and c.from_residual-in_err-take.result c.from_residual-in_err-take.ensures.1 in
    let r = c.extend.new.self in
    let e = c.in_err-take.field-0.0 in
    rw (p.1, p.2) (λ refused. stops_after c.args.self.now r c.args.rest.now (10 ∷ []) e.line c.in_ok-extend.ensures.ok (stops_here r (10 ∷ []) e.line c.in_ok-extend.ensures.limits.front c.in_err-take.ensures.here))

pub returns-clause-ok : goal.returns-clause-ok
returns-clause-ok c =
    let r = c.extend.new.self in
    let s : ScriptReader = record { place = c.take-2.new.self; front = c.clear.new.self } in
    let line : r.front.items ++ [] ≡ c.deref.result.now = append-nil r.front.items ∙ sym c.deref.ensures.value in
    takes_both c.args.self.now r s c.args.rest.now (10 ∷ []) c.in_ok-extend.ensures.ok (takes_line r s [] c.deref.result.now line c.clear.ensures.items c.in_ok-take.ensures.ok)
