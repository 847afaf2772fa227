use Rattle.std.proofs.Common.{◌≡◌, ◌*◌, ◌^◌, ◌∙◌, ℕ, ap, sym, subst, refl, replicate, length, rules, arith}
use Rattle.atomic_table.specs.Seated.{TableId}
use lib.ListN.{length-replicate}
use Rattle.ck_core.specs.declared.view.View.{View}
use Rattle.ck_core.specs.Laws.{HasWatched}
use Rattle.ck_core.proofs.LegalTraces.{legal_none}
use Rattle.ck_words.specs.Rule.{Hand}
use Rattle.ck_words.proofs.Starting.{starts, length-fresh}
use Rattle.ck_words.proofs.Seating.{seated_none}
use Rattle.ck_words.proofs.words.Words.open.Goals as goal

pub new-requires : goal.new-requires
new-requires g c =
    let zeros : c.in_ok-words.words.items ≡ replicate {A = ℕ} (2 ^ c.args.settings.s * 8) 0 = search rules in
    starts g.row.V.Denot g.K.TableKey.hash c.args.settings c.requires _ _ (c.as_slice.ensures.value ∙ zeros) c.in_ok-slots.ensures

pub invariant_of-result : goal.invariant_of-result
invariant_of-result g c =
    let z = c.in-Ok.ensures.ok in
    let zeros : c.in_ok-words.words.items ≡ replicate {A = ℕ} (2 ^ c.args.settings.s * 8) 0 = search rules in record {
      key_is = z.5;
      words = z.0 ∙ (ap length (c.as_slice.ensures.value ∙ zeros) ∙ length-replicate (2 ^ c.args.settings.s * 8) 0);
      slots = z.1 ∙ length-fresh c.args.settings (2 ^ c.args.settings.s) _ c.in_ok-slots.ensures;
      range = c.requires;
    }

pub invariant_of-result-2 : goal.invariant_of-result-2
invariant_of-result-2 g c =
    let z = c.in-Ok.ensures.ok in
    record {
      seated = seated_none _ _ (ap (λ (m : Hand g.row.V.Denot). m.1) z.4) (ap (λ (m : Hand g.row.V.Denot). m.0.held) z.4);
      empty = c.in_ok-room.ensures.items;
      room = (let many = ap (λ (t : TableId). t.slots) z.2 ∙ z.1 in let room = c.in_ok-room.ensures.capacity in let len = c.in_ok-slots.slots.ok.0 in omega arith);
    }

pub returns-clause-pass : goal.returns-clause-pass
returns-clause-pass g c = (
  search rules,
  search rules,
  search rules,
  search rules,
  search rules,
  search rules,
  subst (λ (v : View g.row.V.Denot). HasWatched v) (sym (ap (λ (m : Hand g.row.V.Denot). m.0) c.in-Ok.ensures.ok.4)) (record { legal = legal_none; missed = λ _ _. refl }),
)
