use Rattle.std.proofs.Common.{◌∙◌, ◌<◌, ◌≤◌, ◌^◌, sym, ap, arith}
use Rattle.std.proofs.Math.Nat.{one-le-pow}
use Rattle.atomic_table.specs.Seated.{TableId}
use Rattle.ck_model.specs.Contents.{layout_of}
use Rattle.ck_model.specs.declared.settings.Settings.{Settings}
use Rattle.ck_words.specs.Meeting.{MessageState}
use Rattle.ck_words.specs.Words.{WordsState, IsLaidOut}
use Rattle.ck_words.proofs.Allowed.{tell_allowed}
use Rattle.ck_words.proofs.words.Words.hear_copy.Goals as goal

has_word : (table : TableId) (key set : Settings) → IsLaidOut table key set → 0 < table.words
has_word table key set laid = let count = laid.words in let one : 1 ≤ 2 ^ set.s = one-le-pow set.s 2 (omega arith) in omega arith

pub split_seat-seat-requires : goal.split_seat-seat-requires
split_seat-seat-requires g c =
    let key = c.self.inside.table.shared.key in (
      ap (λ (m : MessageState g.row.V.Denot). m.table) c.message.view_is ∙ (c.requires.of_table ∙ sym (ap (λ (w : WordsState). w.table) c.self.view_is)),
      has_word _ _ _ c.self.invariant,
      tell_allowed (layout_of g.K.TableKey.hash key) key.callers c.message.inside.seat.id c.message.inside.seat.me.0,
    )
