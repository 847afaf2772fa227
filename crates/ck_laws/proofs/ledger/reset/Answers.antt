use Rattle.std.proofs.Common.{ℕ, [], ◌∷◌, sym, ◌∙◌, subst}
use Rattle.cuckoo_map.specs.Locking.{LockedState, EndsSession}
use Rattle.ck_laws.proofs.Resetting.{reset_leaves, assigned_in, on_true, no_true}
use Rattle.ck_laws.proofs.ledger.reset.Goals as goal
use Rattle.ck_laws.proofs.ledger.reset.Goals.{then-is_ok, else-is_ok}

pub returns-clause-begun : goal.returns-clause-begun
returns-clause-begun c = elim c.if-is_ok.branch [
  | then-is_ok w ↦ on_true c.if-is_ok.done (λ t.
      reset_leaves _ _ c.in-Ok.locked c.clear.new.self c.insert_or_assign.new.self w.insert_or_assign-then-is_ok.new.self c.unlock_caller.result.client (1 ∷ []) (2 ∷ []) c.args.first c.args.second
      c.in-Ok.ensures.locked c.clear.ensures
      (assigned_in (1 ∷ []) c.args.first c.clear.new.self c.insert_or_assign.new.self c.insert_or_assign.result (sym w.if-is_ok.ensures.value) c.insert_or_assign.ensures.answered)
      (assigned_in (2 ∷ []) c.args.second c.insert_or_assign.new.self w.insert_or_assign-then-is_ok.new.self w.insert_or_assign-then-is_ok.result (sym w.is_ok-done.ensures.value ∙ (sym w.done-is ∙ t)) w.insert_or_assign-then-is_ok.ensures.answered)
      (subst (λ (l : LockedState ℕ). EndsSession l c.unlock_caller.result.client) w.locked-is c.unlock_caller.ensures.follows))
  | else-is_ok w ↦ on_true c.if-is_ok.done (λ t. absurd (no_true c.if-is_ok.done c.is_ok.result w.done-is w.if-is_ok.false t))
]
