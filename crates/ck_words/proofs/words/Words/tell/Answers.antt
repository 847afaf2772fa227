use Rattle.std.proofs.Common.{refl}
use Rattle.ck_model.specs.Contents.{layout_of}
use Rattle.ck_words.proofs.Allowed.{tell_allowed}
use Rattle.ck_words.proofs.Seating.{ready_on, seated_view}
use Rattle.ck_words.proofs.Takes.{fits, same_table, some_word}
use Rattle.ck_words.proofs.words.Words.tell.Goals as goal

pub split_seat-seat-requires : goal.split_seat-seat-requires
split_seat-seat-requires g c = let f = fits _ _ _ _ _ _ c.a.inside.seat.me c.self.view_is c.self.invariant c.a.view_is c.requires.own in let h = g.K.TableKey.hash in let key = c.self.inside.table.shared.key in
    (same_table h _ _ _ _ _ _ _ f, some_word h _ _ _ _ _ _ _ f, tell_allowed (layout_of h key) key.callers c.a.inside.seat.id c.a.inside.seat.me.0)

pub invariant_of-a : goal.invariant_of-a
invariant_of-a g c = ready_on c.a.invariant c.split_seat-seat.ensures.0 (seated_view _ _ _ _ _ c.a.invariant.seated refl refl c.split_seat-seat.ensures.0 c.split_seat-seat.ensures.2)
