use Rattle.std.proofs.Common.{List, ◌∙◌, sym, ap, subst}
use Rattle.std.specs.FinMap.{get}
use Rattle.std.specs.Option.{option_copied}
use Rattle.ck_model.specs.declared.history.Act.TheVariants.{Find}
use Rattle.ck_model.specs.declared.history.Reply.TheVariants.{Was}
use Rattle.ck_stripe.specs.Stripe.{StripeState}
use Rattle.ck_section.proofs.Decided.{IsCallOn}
use Rattle.cuckoo_map.specs.Locking.{LockedState, map_of}
use Rattle.cuckoo_map.proofs.Sessions.{looked_up}
use Rattle.cuckoo_map.proofs.locked.LockedOn.find.Goals as goal

pub returns : goal.returns
returns g c =
    let hash = g.K.TableKey.hash in
    let q = g.Q.Query.name c.args.key in
    let place = c.key_place.result in
    let o = option_copied c.find_in_all.result in
    let same = c.key_place.ensures.s ∙ sym (ap (λ (l : LockedState g.row.V.Denot). l.caller.table.settings.s) c.self.view_is) in
    let call = subst (λ (ss : List (StripeState g.row.V.Denot)). IsCallOn hash place.s ss q Find (Was o) ss) c.stripes_of.ensures c.find_in_all.ensures in
    looked_up hash (g.T.TableRef.state c.self.inside.table) c.self.inside.whole c.self.invariant place same q o call ∙ ap (λ (l : LockedState g.row.V.Denot). get (map_of l) q) c.self.view_is
