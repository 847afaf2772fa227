use Rattle.std.proofs.Common.{◌++◌, sym, ap, ◌∙◌, length, map, arith}
use Rattle.std.proofs.lemmas.Result.{on_ok_weaker}
use Rattle.ck_model.specs.Listing.{named}
use Rattle.ck_stripe.proofs.Stored.{pairs_stored}
use Rattle.ck_stripe.proofs.stripe.Stripe.clone_reserved.Goals as goal

pub clone_all-requires-clause-count : goal.clone_all-requires-clause-count
clone_all-requires-clause-count g c = c.count-count.ensures ∙ sym c.self.invariant.count

pub clone_all-requires-clause-room : goal.clone_all-requires-clause-room
clone_all-requires-clause-room g c = omega (arith, ap length (pairs_stored g.K.TableKey.hash c.self.inside c.self.invariant c.args.self.now c.self.view_is c.requires.settled), c.requires.room)

pub returns-clause-pairs : goal.returns-clause-pairs
returns-clause-pairs g c =
    on_ok_weaker c.clone_all.result (λ h. h ∙ ap (λ es. map (named g.K.TableKey.name) c.args.pairs.now.items ++ es) (sym (pairs_stored g.K.TableKey.hash c.self.inside c.self.invariant c.args.self.now c.self.view_is c.requires.settled))) c.clone_all.ensures.pairs
