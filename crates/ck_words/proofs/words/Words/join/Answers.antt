use Rattle.std.proofs.Common.{◌∙◌, ap, refl}
use Rattle.ck_model.specs.Contents.{layout_of}
use Rattle.ck_words.specs.Passes.{PassState}
use Rattle.ck_words.proofs.Allowed.{join_allowed}
use Rattle.ck_words.proofs.Seating.{ready_on, seated_view, empty_seat}
use Rattle.ck_words.proofs.Takes.{fits, same_table, some_word}
use Rattle.ck_words.proofs.words.Words.join.Goals as goal

pub join_seat-requires : goal.join_seat-requires
join_seat-requires g c = let f = fits _ _ _ _ _ _ c.first.inside.seat.me c.self.view_is c.self.invariant c.first.view_is c.requires.own.0 in let e = fits _ _ _ _ _ _ c.other.inside.seat.me c.self.view_is c.self.invariant c.other.view_is c.requires.own.1 in
    let h = g.K.TableKey.hash in let key = c.self.inside.table.shared.key in (
      same_table h _ _ _ _ _ _ _ f,
      same_table h _ _ _ _ _ _ _ e,
      empty_seat _ c.other.invariant.seated.full (ap (λ (p : PassState g.row.V.Denot). p.stripes) c.other.view_is ∙ c.requires.idle.0),
      some_word h _ _ _ _ _ _ _ f,
      join_allowed (layout_of h key) key.callers c.first.inside.seat.id c.first.inside.seat.me.0 c.other.inside.seat.id c.other.inside.seat.me.0 (ap (λ (p : PassState g.row.V.Denot). p.view.held) c.other.view_is ∙ c.requires.idle.1),
    )

pub invariant_of-first : goal.invariant_of-first
invariant_of-first g c = ready_on c.first.invariant c.join_seat.ensures.0 (seated_view _ _ _ _ _ c.first.invariant.seated refl refl c.join_seat.ensures.0 c.join_seat.ensures.2)
