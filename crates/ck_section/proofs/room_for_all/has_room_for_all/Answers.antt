use Rattle.std.proofs.Common.{◌↔◌, List, ◌∙◌, sym, subst, map, ⊎_elim, arith, take}
use Rattle.std.specs.Prelude.{IsTrue}
use Rattle.std.proofs.lemmas.Bool.{false≢true}
use Rattle.ck_model.specs.Promise.{Name}
use Rattle.ck_model.specs.Numbered.{IsIn}
use Rattle.ck_model.specs.Contents.{Layout, layout, Stripes}
use Rattle.ck_stripe.specs.Stripe.{StripeState}
use Rattle.ck_stripe.specs.Stripes.{contents_of}
use Rattle.ck_section.proofs.SeveralKeys.{key_among, names_more}
use Rattle.ck_section.proofs.RoomTested.{owned_still, lawful_still, among_more, FindsSlots}
use Rattle.ck_section.proofs.room_for_all.has_room_for_all.Goals as goal

pub has_slots-requires-clause-owned : goal.has_slots-requires-clause-owned
has_slots-requires-clause-owned g c =
    owned_still g.K.TableKey.hash c.args.s (g.H.Held.stripes c.args.held.now) (g.H.Held.stripes c.loop-i.held) c.loop-i.invariant.same (map g.Q.Query.name c.args.keys.now) c.requires.owned

pub has_slots-requires-clause-own : goal.has_slots-requires-clause-own
has_slots-requires-clause-own g c =
    let key = c.index-keys-i in
    owned_still g.K.TableKey.hash c.args.s (g.H.Held.stripes c.args.held.now) (g.H.Held.stripes c.loop-i.held) c.loop-i.invariant.same (map g.Q.Query.name c.args.keys.now) c.requires.owned (g.Q.Query.name key.result)
    (key_among g.Q.Query.name c.args.keys.now c.loop-i.i key.result (omega arith) key.is)

pub returns-then-not-has_slots-clause-no_room : goal.returns-then-not-has_slots-clause-no_room
returns-then-not-has_slots-clause-no_room g c max lawful room =
    let key = c.index-keys-i in
    let q : Name = g.Q.Query.name key.result in
    let k : Layout = layout g.K.TableKey.hash c.args.s max in
    let old : List (StripeState g.row.V.Denot) = g.H.Held.stripes c.args.held.now in
    let names : List Name = map g.Q.Query.name c.args.keys.now in
    let has : IsTrue c.has_slots.result ↔ FindsSlots k names q (contents_of old) =
    lawful_still g.K.TableKey.hash c.args.s max old (g.H.Held.stripes c.loop-i.held) c.loop-i.invariant.same (λ hs. IsTrue c.has_slots.result ↔ FindsSlots k names q hs) (c.has_slots.ensures.slots max) lawful in
    absurd (false≢true (sym c.if-not-has_slots.true ∙ has.1 (room q (key_among g.Q.Query.name c.args.keys.now c.loop-i.i key.result (omega arith) key.is))))

pub loop-i-preserved : goal.loop-i-preserved
loop-i-preserved g c =
    let l = c.loop-i.invariant in
    let key = c.index-keys-i in
    let k : Name = g.Q.Query.name key.result in
    let old : List (StripeState g.row.V.Denot) = g.H.Held.stripes c.args.held.now in
    let names : List Name = map g.Q.Query.name c.args.keys.now in
    record {
      same = c.has_slots.ensures.same ∙ l.same;
      stays = g.met.H.Held.stays_on _ _ _ l.stays c.has_slots.ensures.stays;
      so_far = λ max lawful q among.
          let Finds : Name → Stripes g.row.V.Denot → Type 0 = FindsSlots (layout g.K.TableKey.hash c.args.s max) names in
          let has : IsTrue c.has_slots.result ↔ Finds k (contents_of old) =
          lawful_still g.K.TableKey.hash c.args.s max old (g.H.Held.stripes c.loop-i.held) l.same (λ hs. IsTrue c.has_slots.result ↔ Finds k hs) (c.has_slots.ensures.slots max) lawful in
          ⊎_elim
          (λ h. l.so_far max lawful q h)
          (λ e. subst (λ (n : Name). Finds n (contents_of old)) e (has.0 c.if-not-has_slots.false))
          (among_more q k (map g.Q.Query.name (take c.loop-i.i c.args.keys.now)) (subst (λ (qs : List Name). IsIn q qs) (names_more g.Q.Query.name c.args.keys.now c.loop-i.i key.result (omega arith) key.is) among));
    }
