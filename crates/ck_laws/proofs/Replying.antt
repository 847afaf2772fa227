-- What the reply to a call says of the maps before and after it.
use Rattle.std.proofs.Common.{◌≡◌, List, [], ◌∷◌, ◌++◌, append_assoc, ◌∙◌, subst}
use Rattle.std.specs.FinMap.{empty}
use Rattle.ck_model.specs.declared.history.Entry.{Entry}
use Rattle.ck_model.specs.Promise.{Map, Step, Leads, After}
use Rattle.ck_model.proofs.Histories.{leads_to}
use Rattle.ck_model.proofs.Determined.{leads_one}
use Rattle.ck_laws.specs.Laws.{RepliesAreSteps, RepliesFollowOthers, BeginningsAreOfAll}

module _ {V : Type 0} where
  -- entries that lead from the empty map through m, lead on from m
  onward : (start more : List (Entry V)) (m m2 : Map V) → After start m → After (start ++ more) m2 → Leads m more m2
  onward start more m m2 after all =
      let cut = leads_to empty m2 start more all in
      subst (λ (x : Map V). Leads x more m2) (leads_one empty start cut.0 m cut.1 after) cut.2

  -- one entry is one step
  one_step : (m m2 : Map V) (e : Entry V) → Leads m (e ∷ []) m2 → Step m e.call e.reply m2
  one_step m m2 e l = subst (λ (x : Map V). Step m e.call e.reply x) l.2 l.1

  pub after_reply : RepliesAreSteps V
  after_reply call reply c d m sole r after =
      let e : Entry V = record { by = r.by; call = call; reply = reply } in
      let m2 : Map V = r.answered.legal.0 in
      let all : After (c.seen ++ e ∷ []) m2 = subst (λ (log : List (Entry V)). After log m2) (r.alone sole) r.answered.legal.1 in
      (m2, one_step m m2 e (onward c.seen (e ∷ []) m m2 after all), r.answered.legal.1)

  pub after_others : RepliesFollowOthers V
  after_others call reply c d m r after =
      let e : Entry V = record { by = r.by; call = call; reply = reply } in
      let m2 : Map V = r.answered.legal.0 in
      let others : List (Entry V) = r.answered.others in
      let all : After (c.seen ++ others ++ e ∷ []) m2 = subst (λ (log : List (Entry V)). After log m2) r.answered.seen r.answered.legal.1 in
      let cut = leads_to empty m2 (c.seen ++ others) (e ∷ []) all in
      (r.by, others, cut.0, m2, r.number, r.answered.by_others, onward c.seen others m cut.0 after cut.1, one_step cut.0 m2 e cut.2, r.answered.legal.1)

  pub beginnings : BeginningsAreOfAll V
  beginnings a b c first second = (first.0 ++ second.0, subst (λ (x : List (Entry V)). c ≡ x ++ second.0) first.1 second.1 ∙ append_assoc a first.0 second.0)
