-- The laws, as the contracts state them.
use Rattle.ck_core.specs.Steps.{Label}
use Rattle.ck_core.specs.Laws.{LawOfRuns, Keeps, LawOfViews}
use Rattle.ck_core.proofs.Keeps.{step_keeps}
use Rattle.ck_core.proofs.Openings.{runs_keep}
use Rattle.ck_core.proofs.Shown.{shows}

module _ {V : Type 0} where
  pub law_of_runs : LawOfRuns V
  law_of_runs k min_load set callers p s ms log s2 o r = runs_keep k set callers p s o min_load ms log s2 r

  pub law_of_step : (m : Label V) → Keeps m
  law_of_step m k min_load callers id log s s2 law d = step_keeps k min_load callers log id m s s2 law d

  pub law_of_views : LawOfViews V
  law_of_views k callers log s law j v at = shows k callers log s law j v at
