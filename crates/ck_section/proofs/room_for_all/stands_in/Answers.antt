use Rattle.std.proofs.Common.{◌≡◌, ◌||◌, ◌∙◌, sym, arith}
use Rattle.std.proofs.lemmas.List.Folds.{list_any_at, list_any_more}
use Rattle.ck_section.proofs.RoomTested.{bucket_of, has_name, name_seen}
use Rattle.ck_section.proofs.room_for_all.stands_in.Goals as goal

pub returns-then-is_some-clause-stands : goal.returns-then-is_some-clause-stands
returns-then-is_some-clause-stands g c =
    let old = g.H.Held.stripes c.args.held.now in
    let q = g.Q.Query.name c.args.key in
    let seen : has_name old q (bucket_of c.args.at.now c.loop-i.i) ≡ c.is_some.result =
    name_seen old (g.H.Held.stripes c.loop-i.held) c.loop-i.invariant.same q (bucket_of c.args.at.now c.loop-i.i) c.look.result c.look.ensures.found c.look.ensures.absent ∙ sym c.is_some.ensures in
    sym (list_any_at (has_name old q) c.args.at.now c.loop-i.i _ (omega arith) (seen ∙ c.if-is_some.true))

pub loop-i-preserved : goal.loop-i-preserved
loop-i-preserved g c =
    let l = c.loop-i.invariant in
    let old = g.H.Held.stripes c.args.held.now in
    let q = g.Q.Query.name c.args.key in
    let seen : has_name old q (bucket_of c.args.at.now c.loop-i.i) ≡ c.is_some.result =
    name_seen old (g.H.Held.stripes c.loop-i.held) l.same q (bucket_of c.args.at.now c.loop-i.i) c.look.result c.look.ensures.found c.look.ensures.absent ∙ sym c.is_some.ensures in
    record {
      same = c.look.ensures.same ∙ l.same;
      stays = g.met.H.Held.stays_on _ _ _ l.stays c.look.ensures.stays;
      none = list_any_more (has_name old q) c.args.at.now c.loop-i.i _ (omega arith) ∙ (λ z. l.none z || (seen ∙ c.if-is_some.false) z);
    }
