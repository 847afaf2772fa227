use Rattle.std.proofs.Common.{◌≡◌, ◌+◌, List, ◌∙◌, sym, ap, arith, map}
use Rattle.std.proofs.lemmas.List.{take_all}
use Rattle.ck_model.specs.Contents.{Layout, layout, Stripes}
use Rattle.ck_stripe.specs.Stripe.{StripeState}
use Rattle.ck_stripe.specs.Stripes.{contents_of}
use Rattle.ck_section.specs.HeldBuckets.{numbers_of}
use Rattle.ck_section.specs.RoomForAll.{coming, may_come}
use Rattle.ck_section.proofs.SeveralKeys.{key_among}
use Rattle.ck_section.proofs.RoomForAll.{one}
use Rattle.ck_section.proofs.RoomTested.{owned_still, lawful_still, coming_next}
use Rattle.ck_section.proofs.room_for_all.count_coming.Goals.{then-can_come, else-can_come}
use Rattle.ck_section.proofs.room_for_all.count_coming.Goals as goal

pub can_come-requires-clause-owned : goal.can_come-requires-clause-owned
can_come-requires-clause-owned g c =
    let key = c.index-keys-i in
    owned_still g.K.TableKey.hash c.args.s (g.H.Held.stripes c.args.held.now) (g.H.Held.stripes c.loop-i.held) c.loop-i.invariant.same (map g.Q.Query.name c.args.keys.now) c.requires.owned (g.Q.Query.name key.result)
    (key_among g.Q.Query.name c.args.keys.now c.loop-i.i key.result (omega arith) key.is)

pub loop-i-preserved : goal.loop-i-preserved
loop-i-preserved g c =
    let l = c.loop-i.invariant in
    let key = c.index-keys-i in
    let old : List (StripeState g.row.V.Denot) = g.H.Held.stripes c.args.held.now in
    let counted : c.if-can_come.count ≡ c.loop-i.count + one c.can_come.result = elim c.if-can_come.branch [
      | then-can_come w ↦ w.count-is ∙ ap (λ b. c.loop-i.count + one b) (sym w.if-can_come.true)
      | else-can_come w ↦ let none : one c.can_come.result ≡ 0 = ap one w.if-can_come.false in omega (arith, none, w.count-is)
    ] in
    record {
      same = c.can_come.ensures.same ∙ l.same;
      stays = g.met.H.Held.stays_on _ _ _ l.stays c.can_come.ensures.stays;
      few = elim c.if-can_come.branch [
        | then-can_come w ↦ omega (arith, w.count-is, l.few)
        | else-can_come w ↦ omega (arith, w.count-is, l.few)
      ];
      so_far = λ max lawful.
          let k : Layout = layout g.K.TableKey.hash c.args.s max in
          let may : c.can_come.result ≡ may_come k (contents_of old) (numbers_of c.args.at.now) (g.Q.Query.name key.result) =
          lawful_still g.K.TableKey.hash c.args.s max old (g.H.Held.stripes c.loop-i.held) l.same (λ (hs : Stripes g.row.V.Denot). c.can_come.result ≡ may_come k hs (numbers_of c.args.at.now) (g.Q.Query.name key.result)) (c.can_come.ensures.may max) lawful in
          counted ∙ (λ j. l.so_far max lawful j + one (may j))
          ∙ sym (coming_next g.Q.Query.name k (contents_of old) (numbers_of c.args.at.now) c.args.keys.now c.loop-i.i key.result (omega arith) key.is);
    }

pub returns-clause-count : goal.returns-clause-count
returns-clause-count g c max lawful =
    c.loop-i.invariant.so_far max lawful
    ∙ ap (λ (keys : List g.row.Q.Denot). coming (layout g.K.TableKey.hash c.args.s max) (contents_of (g.H.Held.stripes c.args.held.now)) (numbers_of c.args.at.now) (map g.Q.Query.name keys)) (take_all c.loop-i.i c.args.keys.now (omega arith))
