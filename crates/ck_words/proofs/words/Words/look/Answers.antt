use Rattle.ck_words.proofs.Seating.{ready_on}
use Rattle.ck_words.proofs.Takes.{fits_in, same_table, some_word, own_after, look_ready, look_lasts, looked, looked_seated}
use Rattle.ck_words.proofs.words.Words.look.Goals as goal

pub load-requires : goal.load-requires
load-requires g c = let f = fits_in _ _ _ _ _ _ c.pass.inside.seat.me c.self.view_is c.self.invariant c.pass.view_is c.requires.own in let h = g.K.TableKey.hash in
    (same_table h _ _ _ _ _ _ _ f, some_word h _ _ _ _ _ _ _ f, look_ready h _ _ _ _ _ _ _ f _ _)

pub invariant_of-pass : goal.invariant_of-pass
invariant_of-pass g c = ready_on c.pass.invariant c.load.ensures.0 (let f = fits_in _ _ _ _ _ _ c.pass.inside.seat.me c.self.view_is c.self.invariant c.pass.view_is c.requires.own in let h = g.K.TableKey.hash in
    looked_seated h _ _ _ _ _ _ _ f _ c.load.ensures.2 _ c.pass.invariant.seated c.load.ensures.0)

pub returns-clause-own : goal.returns-clause-own
returns-clause-own g c = let f = fits_in _ _ _ _ _ _ c.pass.inside.seat.me c.self.view_is c.self.invariant c.pass.view_is c.requires.own in let h = g.K.TableKey.hash in
    own_after h _ _ _ _ _ _ _ f c.load.new.seat.table_id c.load.new.seat.me c.load.ensures.0 (look_lasts h _ _ _ _ _ _ _ f _ c.load.ensures.2)

pub returns-clause-step : goal.returns-clause-step
returns-clause-step g c = let f = fits_in _ _ _ _ _ _ c.pass.inside.seat.me c.self.view_is c.self.invariant c.pass.view_is c.requires.own in let h = g.K.TableKey.hash in
    looked h _ _ _ _ _ _ _ f _ c.load.ensures.2 c.load.new.seat.table_id
