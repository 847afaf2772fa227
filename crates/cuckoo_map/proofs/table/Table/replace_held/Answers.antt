use Rattle.std.proofs.Common.{rules, ◌≡◌, ◌∙◌, ℕ, IsSome, All, false, IsTrue, map, inl, inr, sym, subst}
use lib.Pointwise.{pointwise}
use Rattle.ck_section.specs.Places.{HasBoth}
use Rattle.cuckoo_map.proofs.HeldKeys.{held_since, bound_since, lawful_at}
use Rattle.cuckoo_map.proofs.UpdatedKeys.{all_some}
use Rattle.cuckoo_map.proofs.table.Table.replace_held.Goals as goal

pub find_bound-requires-clause-owned : goal.find_bound-requires-clause-owned
find_bound-requires-clause-owned g c q i =
    let l = c.requires.held in
    subst (λ (s : ℕ). HasBoth g.K.TableKey.hash s c.args.pass.now.stripes q) (sym l.of_table) (l.owned q i)

pub returns-then-not-find_bound-clause-held : goal.returns-then-not-find_bound-clause-held
returns-then-not-find_bound-clause-held g c =
    let e = c.find_bound.ensures in
    held_since c.args.pass.now c.find_bound.new.held.pass.now c.pass-1.given.0 e.stays.1 e.stays.2 e.same (search rules) c.requires.held

pub returns-then-not-find_bound-clause-set : goal.returns-then-not-find_bound-clause-set
returns-then-not-find_bound-clause-set g c =
    let e = c.find_bound.ensures in
    let bound = bound_since (map g.Q.Query.name c.args.keys.now) c.args.pass.now c.find_bound.new.held.pass.now c.pass-1.given.0 e.stays.1 e.stays.2 e.same (search rules) in
    (inr (c.if-not-find_bound.ensures.unbound c.args.self.now.settings.max (lawful_at c.requires.held)), bound)

pub returns-then-ne-clause-held : goal.returns-then-ne-clause-held
returns-then-ne-clause-held g c =
    let e = c.find_bound.ensures in
    held_since c.args.pass.now c.find_bound.new.held.pass.now c.pass-1.given.0 e.stays.1 e.stays.2 e.same (search rules) c.requires.held

pub returns-then-ne-clause-set : goal.returns-then-ne-clause-set
returns-then-ne-clause-set g c =
    let e = c.find_bound.ensures in
    let bound = bound_since (map g.Q.Query.name c.args.keys.now) c.args.pass.now c.find_bound.new.held.pass.now c.pass-1.given.0 e.stays.1 e.stays.2 e.same (search rules) in
    let other : pointwise g.V.PartialEq.eq c.find_bound.new.values c.args.expected.now ≡ false = search rules in
    (inl (c.find_bound.new.values, c.if-not-find_bound.ensures.bound c.args.self.now.settings.max (lawful_at c.requires.held), other), bound)

pub update_each-requires-clause-held : goal.update_each-requires-clause-held
update_each-requires-clause-held g c =
    let e = c.find_bound.ensures in
    held_since c.args.pass.now c.find_bound.new.held.pass.now c.pass-1.given.0 e.stays.1 e.stays.2 e.same (search rules) c.requires.held

pub update_each-requires-clause-bound : goal.update_each-requires-clause-bound
update_each-requires-clause-bound g c =
    let e = c.find_bound.ensures in
    let bound = bound_since (map g.Q.Query.name c.args.keys.now) c.args.pass.now c.find_bound.new.held.pass.now c.pass-1.given.0 e.stays.1 e.stays.2 e.same (search rules) in
    let all = bound ∙ c.if-not-find_bound.ensures.bound c.args.self.now.settings.max (lawful_at c.requires.held) in
    subst (All IsSome) (sym all) (all_some c.find_bound.new.values)

pub returns-clause-set : goal.returns-clause-set
returns-clause-set g c =
    let equal : IsTrue (pointwise g.V.PartialEq.eq c.find_bound.new.values c.args.expected.now) = search rules in
    (c.find_bound.new.values, c.if-not-find_bound.ensures.bound c.args.self.now.settings.max (lawful_at c.requires.held), equal, c.update_each.ensures.bound)
