-- What a look-up or a change of one name leaves of its pass.
use Rattle.std.specs.Prelude.{ℕ, Result, IfOk, IfErr}
use Rattle.ck_model.specs.declared.history.Act.{Act}
use Rattle.ck_model.specs.declared.history.Reply.{Reply}
use Rattle.ck_model.specs.declared.settings.Settings.{Settings}
use Rattle.ck_model.specs.Promise.{Name}
use Rattle.ck_words.specs.Passes.{PassState}
use Rattle.ck_words.specs.Answering.{IsAnsweredOn}
use Rattle.ck_refusal.specs.declared.refusal.Busy.{Busy}
use Rattle.cuckoo_map.specs.Refusals.{FindsOwn, IsBusyAt}

-- Since p the call came to an answer, which says so of an act on the name that was done, or was refused as busy. It found no stripe held but those of the name.
pub record HasQueried {V A : Type 0} (answers : (Act V → Reply V → Type 0) → A → Type 0) (hash : Name → ℕ) (set : Settings) (q : Name) (result : Result A Busy) (p p2 : PassState V) : Type 0 where
  pub answered : IfOk result (answers (IsAnsweredOn q p p2))
  pub busy : IfErr result (λ busy. IsBusyAt hash set q busy.0 p p2)
  pub found : FindsOwn hash set q p p2
