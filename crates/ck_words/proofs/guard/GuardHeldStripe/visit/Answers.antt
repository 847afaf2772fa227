use Rattle.std.specs.Prelude.{[], if◌then◌else◌}
use Rattle.ck_stripe.specs.Stripes.{no_stripe}
use Rattle.ck_words.specs.StripeSets.{list_of}
use Rattle.ck_words.proofs.Guarding.{numbers_with}
use Rattle.ck_words.proofs.Seating.{ready_on}
use Rattle.ck_words.proofs.Turning.{seated_puts}
use Rattle.ck_words.proofs.Lending.{lends, still_lent, may_visit, visited_there}
use Rattle.ck_words.proofs.guard.GuardHeldStripe.visit.Goals as goal

pub invariant_of-pass : goal.invariant_of-pass
invariant_of-pass g c = let puts = c.visit_at.ensures.2 in ready_on c.pass.invariant puts.table (seated_puts _ _ _ _ puts c.pass.invariant.seated)

pub invariant_of-self : goal.invariant_of-self
invariant_of-self g c = let self = c.args.self.now in still_lent c.pass.inside.seat self.pass.now c.pass.view_is self.words.now self.own (if self.is_locked then list_of self.set else []) self.numbered c.visit_at.new.seat _ _ c.visit_at.ensures.2 self.of_table

pub visit_at-requires : goal.visit_at-requires
visit_at-requires g c = let self = c.args.self.now in may_visit (g.W.Visitor.may c.args.visitor) (g.W.Visitor.does c.args.visitor) (lends c.pass.inside.seat self.pass.now c.pass.view_is self.words.now self.own (list_of self.set) (numbers_with self.is_locked (list_of self.set) self.pass.now.stripes self.numbered c.args.i c.requires.inside) _ c.args.i _ _ c.words.view_is c.pass.invariant.seated c.requires.inside c.count.ensures c.number_at-t.ensures.value) c.pass.inside.seat self.pass.now c.pass.view_is c.args.i (c.requires.may no_stripe) (c.requires.keeps no_stripe)

pub returns : goal.returns
returns g c =
    let self = c.args.self.now in
    visited_there c.pass.inside.seat c.visit_at.new.seat self.pass.now c.pass.view_is c.args.i c.requires.inside c.visit_at.ensures.0 c.visit_at.ensures.2 self.pass.ghost_name self.set self.is_locked self.words.now (λ t u. g.W.Visitor.does c.args.visitor t c.visit_at.result u) c.visit_at.ensures.1
