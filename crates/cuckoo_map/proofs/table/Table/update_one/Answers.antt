use Rattle.std.proofs.Common.{rules, ◌≡◌, refl, subst}
use Rattle.ck_model.specs.declared.history.Act.TheVariants.{Update}
use Rattle.ck_model.specs.declared.history.Call.TheVariants.{On}
use Rattle.ck_model.specs.declared.history.Reply.TheVariants.{Was}
use Rattle.ck_model.specs.Promise.{Name, Step}
use Rattle.ck_model.specs.Contents.{bindings}
use Rattle.ck_stripe.specs.Stripes.{contents_of}
use Rattle.ck_section.proofs.SeveralKeys.{key_among}
use Rattle.cuckoo_map.proofs.HeldKeys.{owns_name, acted}
use Rattle.cuckoo_map.proofs.UpdatedKeys.{name_at}
use Rattle.cuckoo_map.proofs.table.Table.update_one.Goals as goal

pub key_place-place-requires-clause-owned : goal.key_place-place-requires-clause-owned
key_place-place-requires-clause-owned g c =
    let k = c.index-keys-i.result in
    owns_name c.requires.held refl (g.Q.Query.name k) (key_among g.Q.Query.name c.args.keys.now c.args.i k c.requires.inside c.index-keys-i.is)

pub returns-clause-held : goal.returns-clause-held
returns-clause-held g c =
    let there : c.update-old.new.held.pass.now ≡ c.pass-1.given.0 = search rules in
    let k = c.index-keys-i.result in
    let place = c.key_place-place in
    rw (← there)
    ((acted c.requires.held refl (g.Q.Query.name k) (key_among g.Q.Query.name c.args.keys.now c.args.i k c.requires.inside c.index-keys-i.is) place.ensures.s place.new.held.pass.now
    place.ensures.stays.1 place.ensures.stays.2 place.ensures.same
    c.update-old.new.held.pass.now c.update-old.ensures.stays.1 c.update-old.ensures.stays.2 c.update-old.ensures.rest
    (Update c.args.value) (Was c.update-old.result) c.update-old.ensures.call).1)

pub returns-clause-updated : goal.returns-clause-updated
returns-clause-updated g c =
    let there : c.update-old.new.held.pass.now ≡ c.pass-1.given.0 = search rules in
    let k = c.index-keys-i.result in
    let place = c.key_place-place in
    let old = bindings (contents_of c.args.pass.now.stripes) in
    let new = bindings (contents_of c.update-old.new.held.pass.now.stripes) in
    let act = On (g.Q.Query.name k) (Update c.args.value) in
    let step : Step old act (Was c.update-old.result) new =
    (acted c.requires.held refl (g.Q.Query.name k) (key_among g.Q.Query.name c.args.keys.now c.args.i k c.requires.inside c.index-keys-i.is) place.ensures.s place.new.held.pass.now
    place.ensures.stays.1 place.ensures.stays.2 place.ensures.same
    c.update-old.new.held.pass.now c.update-old.ensures.stays.1 c.update-old.ensures.stays.2 c.update-old.ensures.rest
    (Update c.args.value) (Was c.update-old.result) c.update-old.ensures.call).0.step in
    rw (← there) (Was c.update-old.result, subst (λ (q : Name). Step old (On q (Update c.args.value)) (Was c.update-old.result) new) (name_at g.Q.Query.name c.args.keys.now c.args.i k c.requires.inside c.index-keys-i.is) step)
