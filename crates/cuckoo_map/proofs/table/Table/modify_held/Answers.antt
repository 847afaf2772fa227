use Rattle.std.proofs.Common.{rules, ◌∙◌, ℕ, map, sym, subst}
use Rattle.ck_section.specs.Places.{HasBoth}
use Rattle.cuckoo_map.proofs.HeldKeys.{held_since, bound_since, lawful_at}
use Rattle.cuckoo_map.proofs.table.Table.modify_held.Goals as goal

pub find_bound-requires-clause-owned : goal.find_bound-requires-clause-owned
find_bound-requires-clause-owned g c q i =
    let l = c.requires.held in
    subst (λ (s : ℕ). HasBoth g.K.TableKey.hash s c.args.pass.now.stripes q) (sym l.of_table) (l.owned q i)

pub returns-then-not-find_bound-clause-held : goal.returns-then-not-find_bound-clause-held
returns-then-not-find_bound-clause-held g c =
    let e = c.find_bound.ensures in
    held_since c.args.pass.now c.find_bound.new.held.pass.now c.pass-1.given.0 e.stays.1 e.stays.2 e.same (search rules) c.requires.held

pub returns-then-not-find_bound-clause-modified : goal.returns-then-not-find_bound-clause-modified
returns-then-not-find_bound-clause-modified g c =
    let e = c.find_bound.ensures in
    let bound = bound_since (map g.Q.Query.name c.args.keys.now) c.args.pass.now c.find_bound.new.held.pass.now c.pass-1.given.0 e.stays.1 e.stays.2 e.same (search rules) in
    (c.if-not-find_bound.ensures.unbound c.args.self.now.settings.max (lawful_at c.requires.held), bound)

pub change_each-answer-requires-clause-held : goal.change_each-answer-requires-clause-held
change_each-answer-requires-clause-held g c =
    let e = c.find_bound.ensures in
    held_since c.args.pass.now c.find_bound.new.held.pass.now c.pass-1.given.0 e.stays.1 e.stays.2 e.same (search rules) c.requires.held

pub change_each-answer-requires-clause-bound : goal.change_each-answer-requires-clause-bound
change_each-answer-requires-clause-bound g c =
    let e = c.find_bound.ensures in
    let bound = bound_since (map g.Q.Query.name c.args.keys.now) c.args.pass.now c.find_bound.new.held.pass.now c.pass-1.given.0 e.stays.1 e.stays.2 e.same (search rules) in
    bound ∙ c.if-not-find_bound.ensures.bound c.args.self.now.settings.max (lawful_at c.requires.held)

pub returns-clause-modified : goal.returns-clause-modified
returns-clause-modified g c =
    (c.find_bound.new.values, c.if-not-find_bound.ensures.bound c.args.self.now.settings.max (lawful_at c.requires.held), c.change_each-answer.ensures.called, c.change_each-answer.ensures.bound)
