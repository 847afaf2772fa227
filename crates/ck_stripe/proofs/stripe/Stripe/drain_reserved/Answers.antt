use Rattle.std.proofs.Common.{◌++◌, sym, ap, ◌∙◌, length, map, arith}
use Rattle.ck_model.specs.Listing.{named}
use Rattle.ck_stripe.proofs.Stored.{pairs_stored, kept_free, content_free}
use Rattle.ck_stripe.proofs.stripe.Stripe.drain_reserved.Goals as goal

pub pour_all-requires-clause-count : goal.pour_all-requires-clause-count
pour_all-requires-clause-count g c = c.count-count.ensures ∙ sym c.self.invariant.count

pub pour_all-requires-clause-room : goal.pour_all-requires-clause-room
pour_all-requires-clause-room g c = omega (arith, ap length (pairs_stored g.K.TableKey.hash c.self.inside c.self.invariant c.args.self.now c.self.view_is c.requires.settled), c.requires.room)

pub invariant_of-self : goal.invariant_of-self
invariant_of-self g c = kept_free c.self.inside c.self.invariant c.pour_all.new.rows c.count-count.result c.pour_all.ensures.rows c.count-count.ensures

pub returns-clause-content : goal.returns-clause-content
returns-clause-content g c = content_free g.K.TableKey.hash c.self.inside c.self.invariant c.args.self.now c.self.view_is c.requires.settled c.pour_all.new.rows c.count-count.result c.pour_all.ensures.rows c.count-count.ensures

pub returns-clause-pairs : goal.returns-clause-pairs
returns-clause-pairs g c =
    c.pour_all.ensures.pairs ∙ ap (λ es. map (named g.K.TableKey.name) c.args.pairs.now.items ++ es) (sym (pairs_stored g.K.TableKey.hash c.self.inside c.self.invariant c.args.self.now c.self.view_is c.requires.settled))
