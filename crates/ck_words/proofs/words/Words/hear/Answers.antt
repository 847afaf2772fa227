use Rattle.std.proofs.Common.{◌≡◌, ◌∙◌, sym, ap, refl}
use Rattle.ck_model.specs.Contents.{layout_of}
use Rattle.ck_core.specs.Steps.{message_of}
use Rattle.ck_words.specs.Rule.{Hand}
use Rattle.ck_words.specs.Passes.{state_of}
use Rattle.ck_words.specs.Meeting.{MessageState, Hears}
use Rattle.ck_words.proofs.Meets.{heard, hears}
use Rattle.ck_words.proofs.Allowed.{join_allowed}
use Rattle.ck_words.proofs.Seating.{ready_on, seated_view}
use Rattle.ck_words.proofs.Takes.{fits, same_table, some_word}
use Rattle.ck_words.specs.Words.{WordsState}
use Rattle.std.proofs.Common.{subst}
use Rattle.ck_words.proofs.words.Words.hear.Goals as goal

pub join_seat-requires : goal.join_seat-requires
join_seat-requires g c = let f = fits _ _ _ _ _ _ c.b.inside.seat.me c.self.view_is c.self.invariant c.b.view_is c.requires.own in
    let h = g.K.TableKey.hash in let key = c.self.inside.table.shared.key in let told = c.message.inside.seat in (
      same_table h _ _ _ _ _ _ _ f,
      ap (λ (m : MessageState g.row.V.Denot). m.table) c.message.view_is ∙ (c.requires.of_table ∙ sym (ap (λ (w : WordsState). w.table) c.self.view_is)),
      c.message.invariant.1,
      some_word h _ _ _ _ _ _ _ f,
      join_allowed (layout_of h key) key.callers c.b.inside.seat.id c.b.inside.seat.me.0 told.id told.me.0 (ap (λ v. v.held) c.message.invariant.0),
    )

pub invariant_of-b : goal.invariant_of-b
invariant_of-b g c = ready_on c.b.invariant c.join_seat.ensures.0 (seated_view _ _ _ _ _ c.b.invariant.seated refl refl c.join_seat.ensures.0 c.join_seat.ensures.2)

pub returns-clause-heard : goal.returns-clause-heard
returns-clause-heard g c =
    let b = c.args.b.now in
    let z = c.join_seat.new.seat.table_id in
    let me : Hand g.row.V.Denot = c.join_seat.new.seat.me in
    let told = c.message.inside.seat in
    let is : state_of z me ≡ heard b (message_of told.me.0) = (λ i. state_of (c.join_seat.ensures.0 i) (c.join_seat.ensures.2 i)) ∙ (λ i. heard (c.b.view_is i) (c.message.invariant.0 i)) in
    subst (λ m. Hears m b c.look.new.pass) c.message.view_is (hears g.K.TableKey.hash c.args.self.now (state_of z me) c.look.new.pass b told.table_id told.me is c.look.ensures.step)
