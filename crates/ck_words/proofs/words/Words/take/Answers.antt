use Rattle.ck_words.proofs.Seating.{ready_on}
use Rattle.ck_words.proofs.Takes.{fits, same_table, word_inside, own_after, take_ready, took, takes, still_unchanged, seated_after, found, finds, own_found, found_unchanged, found_seated}
use Rattle.ck_words.proofs.words.Words.take.Goals as goal

pub swap-requires : goal.swap-requires
swap-requires g c = let f = fits _ _ _ _ _ _ c.pass.inside.seat.me c.self.view_is c.self.invariant c.pass.view_is c.requires.own in let h = g.K.TableKey.hash in
    (same_table h _ _ _ _ _ _ _ f, word_inside h _ _ _ _ _ _ _ f c.args.t c.requires.inside, take_ready h _ _ _ _ _ _ _ f c.args.t c.requires.inside c.requires.above _ _)

pub invariant_of-pass : goal.invariant_of-pass
invariant_of-pass g c = ready_on c.pass.invariant c.swap.ensures.0 (let f = fits _ _ _ _ _ _ c.pass.inside.seat.me c.self.view_is c.self.invariant c.pass.view_is c.requires.own in let h = g.K.TableKey.hash in
    let k = found h _ _ _ _ _ _ _ f c.args.t c.requires.inside c.requires.above c.swap.new.seat.me c.swap.result c.swap.ensures.2 c.if-swap-ne0.true in
    found_seated h _ _ _ _ _ _ _ f c.args.t c.requires.inside c.requires.above _ _ c.pass.invariant.seated c.swap.ensures.0 k)

pub returns-then-swap-ne0-clause-own : goal.returns-then-swap-ne0-clause-own
returns-then-swap-ne0-clause-own g c = let f = fits _ _ _ _ _ _ c.pass.inside.seat.me c.self.view_is c.self.invariant c.pass.view_is c.requires.own in let h = g.K.TableKey.hash in
    let k = found h _ _ _ _ _ _ _ f c.args.t c.requires.inside c.requires.above c.swap.new.seat.me c.swap.result c.swap.ensures.2 c.if-swap-ne0.true in
    own_found h _ _ _ _ _ _ _ f c.args.t c.requires.inside c.requires.above c.swap.new.seat.table_id c.swap.new.seat.me c.swap.ensures.0 k

pub returns-then-swap-ne0-clause-step : goal.returns-then-swap-ne0-clause-step
returns-then-swap-ne0-clause-step g c = let f = fits _ _ _ _ _ _ c.pass.inside.seat.me c.self.view_is c.self.invariant c.pass.view_is c.requires.own in let h = g.K.TableKey.hash in
    let k = found h _ _ _ _ _ _ _ f c.args.t c.requires.inside c.requires.above c.swap.new.seat.me c.swap.result c.swap.ensures.2 c.if-swap-ne0.true in
    finds h _ _ _ _ _ _ _ f c.args.t c.requires.inside c.requires.above c.swap.new.seat.table_id c.swap.new.seat.me k

pub returns-then-swap-ne0-clause-unchanged : goal.returns-then-swap-ne0-clause-unchanged
returns-then-swap-ne0-clause-unchanged g c = let f = fits _ _ _ _ _ _ c.pass.inside.seat.me c.self.view_is c.self.invariant c.pass.view_is c.requires.own in let h = g.K.TableKey.hash in
    let k = found h _ _ _ _ _ _ _ f c.args.t c.requires.inside c.requires.above c.swap.new.seat.me c.swap.result c.swap.ensures.2 c.if-swap-ne0.true in
    found_unchanged h _ _ _ _ _ _ _ f c.args.t c.requires.inside c.requires.above c.swap.new.seat.table_id c.swap.new.seat.me k c.requires.unchanged

pub invariant_of-pass-2 : goal.invariant_of-pass-2
invariant_of-pass-2 g c = ready_on c.pass.invariant c.swap.ensures.0 (let f = fits _ _ _ _ _ _ c.pass.inside.seat.me c.self.view_is c.self.invariant c.pass.view_is c.requires.own in let h = g.K.TableKey.hash in
    let k = took h _ _ _ _ _ _ _ f c.args.t c.requires.inside c.requires.above c.swap.new.seat.me c.swap.result c.swap.ensures.2 c.if-swap-ne0.false in
    seated_after h _ _ _ _ _ _ _ f c.args.t c.requires.inside c.requires.above _ _ c.pass.invariant.seated k c.swap.ensures.0)

pub returns-clause-own : goal.returns-clause-own
returns-clause-own g c = let f = fits _ _ _ _ _ _ c.pass.inside.seat.me c.self.view_is c.self.invariant c.pass.view_is c.requires.own in let h = g.K.TableKey.hash in
    let k = took h _ _ _ _ _ _ _ f c.args.t c.requires.inside c.requires.above c.swap.new.seat.me c.swap.result c.swap.ensures.2 c.if-swap-ne0.false in
    own_after h _ _ _ _ _ _ _ f c.swap.new.seat.table_id c.swap.new.seat.me c.swap.ensures.0 k.lasts

pub returns-clause-step : goal.returns-clause-step
returns-clause-step g c = let f = fits _ _ _ _ _ _ c.pass.inside.seat.me c.self.view_is c.self.invariant c.pass.view_is c.requires.own in let h = g.K.TableKey.hash in
    let k = took h _ _ _ _ _ _ _ f c.args.t c.requires.inside c.requires.above c.swap.new.seat.me c.swap.result c.swap.ensures.2 c.if-swap-ne0.false in
    takes h _ _ _ _ _ _ _ f c.args.t c.requires.inside c.requires.above c.swap.new.seat.table_id c.swap.new.seat.me k

pub returns-clause-unchanged : goal.returns-clause-unchanged
returns-clause-unchanged g c = let f = fits _ _ _ _ _ _ c.pass.inside.seat.me c.self.view_is c.self.invariant c.pass.view_is c.requires.own in let h = g.K.TableKey.hash in
    let k = took h _ _ _ _ _ _ _ f c.args.t c.requires.inside c.requires.above c.swap.new.seat.me c.swap.result c.swap.ensures.2 c.if-swap-ne0.false in
    still_unchanged h _ _ _ _ _ _ _ f c.args.t c.requires.inside c.requires.above c.swap.new.seat.table_id c.swap.new.seat.me k c.requires.unchanged
