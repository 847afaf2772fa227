use Rattle.std.proofs.Common.{◌∙◌, ap, refl, arith}
use Rattle.atomic_table.specs.Seated.{TableId}
use Rattle.ck_model.specs.Contents.{layout_of}
use Rattle.ck_words.specs.Rule.{Hand}
use Rattle.ck_words.specs.Passes.{PassState}
use Rattle.ck_words.proofs.Allowed.{open_allowed}
use Rattle.ck_words.proofs.Seating.{ready_on, seated_view, seated_none}
use Rattle.ck_words.proofs.Takes.{fits, same_table, some_word}
use Rattle.ck_words.proofs.words.Words.deal.Goals as goal

pub split_seat-seat-requires : goal.split_seat-seat-requires
split_seat-seat-requires g c = let f = fits _ _ _ _ _ _ c.first.inside.seat.me c.self.view_is c.self.invariant c.first.view_is c.requires.own in let h = g.K.TableKey.hash in let key = c.self.inside.table.shared.key in (
  same_table h _ _ _ _ _ _ _ f,
  some_word h _ _ _ _ _ _ _ f,
  open_allowed (layout_of h key) key.callers c.first.inside.seat.id c.first.inside.seat.me.0 c.requires.kept.0 c.requires.kept.1 (ap (λ (q : PassState g.row.V.Denot). q.view.others) c.first.view_is ∙ c.requires.kept.2),
)

pub invariant_of-first : goal.invariant_of-first
invariant_of-first g c = ready_on c.first.invariant c.split_seat-seat.ensures.0 (seated_view _ _ _ _ _ c.first.invariant.seated refl refl c.split_seat-seat.ensures.0 c.split_seat-seat.ensures.2)

pub invariant_of-result : goal.invariant_of-result
invariant_of-result g c =
    let new = c.split_seat-seat.ensures in
    let f = fits _ _ _ _ _ _ c.first.inside.seat.me c.self.view_is c.self.invariant c.first.view_is c.requires.own in
    record {
      seated = seated_none _ _ (ap (λ (m : Hand g.row.V.Denot). m.1) new.4) (ap (λ (m : Hand g.row.V.Denot). m.0.held) new.4);
      empty = c.in_ok-room.ensures.items;
      room = (let same = ap (λ (t : TableId). t.slots) (new.3 ∙ same_table g.K.TableKey.hash _ _ _ _ _ _ _ f) in let room = c.in_ok-room.ensures.capacity in let slots = c.slot_count.ensures in omega arith);
    }
