use Rattle.std.proofs.Common.{◌≡◌, ◌≢◌, ℕ, ◌<◌, ◌≤◌, ◌-◌, Some, None, is_some, refl, sym, ap, ◌∙◌, subst, arith, inl, inr, option_map}
use Rattle.std.proofs.lemmas.Bool.{cases_lt, false≢true}
use Rattle.std.proofs.lemmas.Option.{some_pair_parts, none-some}
use Rattle.std.proofs.lemmas.List.{get_or_past}
use Rattle.ck_model.specs.Listing.{named}
use Rattle.ck_model.specs.Slots.{slot_at}
use Rattle.ck_model.specs.Contents.{row_at}
use Rattle.ck_bucket.proofs.SeenRows.{read_row, head-there, head-told, flag-at, row-four, slot-seen, slot-taken, place-full}
use Rattle.ck_bucket.proofs.rows.Rows.look.Goals as goal
use Rattle.ck_bucket.proofs.rows.Rows.look.Goals.{else-head-i-via-then-head-i+else-head-i-2, else-head-i-via-else-head-i}

-- what holds from i on holds from the one before it on
above_more : (P : ℕ → Type 0) (n i : ℕ) → 0 < i → ((j : ℕ) → i ≤ j → j < n → P j) → P (i - 1) → (j : ℕ) → i - 1 ≤ j → j < n → P j
above_more P n i some above here j low high =
    elim (cases_lt j i) [
      | inl under ↦ subst P (let at : i - 1 ≡ j = omega arith in at) here
      | inr past ↦ above j past high
    ]

pub get-head-requires : goal.get-head-requires
get-head-requires g c = record { full = head-there (read_row c.self.view_is c.self.invariant.0 c.requires.row) }

pub get-requires : goal.get-requires
get-requires g c =
    let row = read_row c.self.view_is c.self.invariant.0 c.requires.row in
    let i = c.loop-i.i - 1 in
    record { full = place-full row i (omega arith) (slot-taken row c.get-head.ensures.value i (omega arith) c.if-head-i-2.true) }

pub returns-then-is_name_of-clause-found : goal.returns-then-is_name_of-clause-found
returns-then-is_name_of-clause-found g c = (
  c.get.result.now.1,
  slot-seen (read_row c.self.view_is c.self.invariant.0 c.requires.row) (c.loop-i.i - 1) (omega arith)
      ∙ ap (option_map (named g.K.TableKey.name)) c.get.ensures.value
      ∙ ap (λ n. Some (n, c.get.result.now.1)) (c.if-is_name_of.ensures.0 refl),
)

pub returns-then-is_name_of-clause-four : goal.returns-then-is_name_of-clause-four
returns-then-is_name_of-clause-four g c = row-four (read_row c.self.view_is c.self.invariant.0 c.requires.row)

pub loop-i-preserved-then-head-i-2 : goal.loop-i-preserved-then-head-i-2
loop-i-preserved-then-head-i-2 g c =
    above_more (λ j. (v : g.row.V.Denot) → slot_at (row_at c.args.self.now c.args.row) j ≢ Some (g.Q.Query.name c.args.key, v)) 4 c.loop-i.i c.loop-i-test.true c.loop-i.invariant
    (λ v e.
    let seen = slot-seen (read_row c.self.view_is c.self.invariant.0 c.requires.row) (c.loop-i.i - 1) (omega arith) ∙ ap (option_map (named g.K.TableKey.name)) c.get.ensures.value in
    false≢true (c.if-is_name_of.ensures.1 (some_pair_parts _ _ _ _ (sym seen ∙ e)).0))

pub loop-i-preserved : goal.loop-i-preserved
loop-i-preserved g c =
    above_more (λ j. (v : g.row.V.Denot) → slot_at (row_at c.args.self.now c.args.row) j ≢ Some (g.Q.Query.name c.args.key, v)) 4 c.loop-i.i c.loop-i-test.true c.loop-i.invariant
    (λ v e.
    let told = head-told (read_row c.self.view_is c.self.invariant.0 c.requires.row) c.get-head.ensures.value in
    elim c.else-head-i.branch [
      | else-head-i-via-then-head-i+else-head-i-2 p ↦ false≢true (sym p.if-head-i-2.false ∙ flag-at told (c.loop-i.i - 1) (omega arith) ∙ ap is_some e)
      | else-head-i-via-else-head-i p ↦ p.if-head-i.false (told.partials.partial (c.loop-i.i - 1) _ v e ∙ sym c.requires.partial)
    ])

pub returns-clause-absent : goal.returns-clause-absent
returns-clause-absent g c i v e =
    elim (cases_lt i 4) [
      | inl below ↦ c.loop-i.invariant i (omega arith) below v e
      | inr past ↦ none-some _ (sym (get_or_past (row_at c.args.self.now c.args.row) i None (omega (arith, row-four (read_row c.self.view_is c.self.invariant.0 c.requires.row)))) ∙ e)
    ]

pub returns-clause-four : goal.returns-clause-four
returns-clause-four g c = row-four (read_row c.self.view_is c.self.invariant.0 c.requires.row)
