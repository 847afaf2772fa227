use Rattle.std.proofs.Common.{sym, ◌∙◌}
use Rattle.ck_stripe.proofs.Stored.{kept_free, content_free}
use Rattle.ck_stripe.proofs.stripe.Stripe.clear.Goals as goal

pub empty_all-requires : goal.empty_all-requires
empty_all-requires g c = c.count-count.ensures ∙ sym c.self.invariant.count

pub invariant_of-self : goal.invariant_of-self
invariant_of-self g c = kept_free c.self.inside c.self.invariant c.empty_all.new.rows c.count-count.result c.empty_all.ensures c.count-count.ensures

pub returns-clause-content : goal.returns-clause-content
returns-clause-content g c = content_free g.K.TableKey.hash c.self.inside c.self.invariant c.args.self.now c.self.view_is c.requires.settled c.empty_all.new.rows c.count-count.result c.empty_all.ensures c.count-count.ensures
