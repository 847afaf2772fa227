use Rattle.std.proofs.Common.{rules, ◌∙◌, ℕ, IsSome, All, map, inl, inr, sym, subst}
use Rattle.ck_section.specs.Places.{HasBoth}
use Rattle.cuckoo_map.proofs.HeldKeys.{held_since, bound_since, lawful_at}
use Rattle.cuckoo_map.proofs.UpdatedKeys.{all_some}
use Rattle.cuckoo_map.proofs.table.Table.update_held.Goals as goal

pub find_each-requires-clause-owned : goal.find_each-requires-clause-owned
find_each-requires-clause-owned g c q i =
    let l = c.requires.held in
    subst (λ (s : ℕ). HasBoth g.K.TableKey.hash s c.args.pass.now.stripes q) (sym l.of_table) (l.owned q i)

pub returns-in_default-clause-held : goal.returns-in_default-clause-held
returns-in_default-clause-held g c =
    let e = c.find_each.ensures in
    held_since c.args.pass.now c.find_each.new.held.pass.now c.pass-1.given.0 e.stays.1 e.stays.2 e.same (search rules) c.requires.held

pub returns-in_default-clause-updated : goal.returns-in_default-clause-updated
returns-in_default-clause-updated g c =
    let e = c.find_each.ensures in
    let bound = bound_since (map g.Q.Query.name c.args.keys.now) c.args.pass.now c.find_each.new.held.pass.now c.pass-1.given.0 e.stays.1 e.stays.2 e.same (search rules) in
    let values = e.values c.args.self.now.settings.max (lawful_at c.requires.held) in
    (sym values, inr (λ all. c.in_default.ensures.not_all (subst (All IsSome) (sym values) all), bound))

pub change_each-requires-clause-held : goal.change_each-requires-clause-held
change_each-requires-clause-held g c =
    let e = c.find_each.ensures in
    held_since c.args.pass.now c.find_each.new.held.pass.now c.pass-1.given.0 e.stays.1 e.stays.2 e.same (search rules) c.requires.held

pub change_each-requires-clause-bound : goal.change_each-requires-clause-bound
change_each-requires-clause-bound g c =
    let e = c.find_each.ensures in
    let bound = bound_since (map g.Q.Query.name c.args.keys.now) c.args.pass.now c.find_each.new.held.pass.now c.pass-1.given.0 e.stays.1 e.stays.2 e.same (search rules) in
    bound ∙ (sym (e.values c.args.self.now.settings.max (lawful_at c.requires.held)) ∙ c.in-Some.ensures.all)

pub returns-clause-updated : goal.returns-clause-updated
returns-clause-updated g c =
    let values = c.find_each.ensures.values c.args.self.now.settings.max (lawful_at c.requires.held) in
    (sym values, inl (c.in-Some.changed, c.change_each.new.values, sym values ∙ c.in-Some.ensures.all, c.change_each.ensures.called, c.change_each.ensures.bound))

pub returns-clause-back : goal.returns-clause-back
returns-clause-back g c lacks = absurd (lacks (subst (All IsSome) (sym c.in-Some.ensures.all) (all_some c.in-Some.changed)))
