-- What a call leaves of a handle without others.
use Rattle.std.proofs.Common.{ℕ, List, [], ◌∷◌, ◌++◌, sym, refl, ap, append_assoc, ◌∙◌, subst, inl, inr, true, false}
use Rattle.std.specs.FinMap.{insert, entries}
use Rattle.ck_model.specs.declared.history.Act.TheVariants.{Find, Assign, Upsert, Erase}
use Rattle.ck_model.specs.declared.history.Call.{Call}
use Rattle.ck_model.specs.declared.history.Call.TheVariants.{On, ChangeTwo, Session}
use Rattle.ck_model.specs.declared.history.Reply.{Reply}
use Rattle.ck_model.specs.declared.history.Reply.TheVariants.{Was, New, Done, DoneTwo, Absent, Closed}
use Rattle.ck_model.specs.declared.history.Entry.{Entry}
use Rattle.ck_model.specs.Promise.{Map, Step, After}
use Rattle.ck_model.proofs.Histories.{leads_snoc}
use Rattle.ck_core.proofs.Sums.{legal_sums}
use Rattle.cuckoo_map.specs.Callers.{CallerState, Replies}
use Rattle.ck_laws.specs.Sole.{IsSole, Maps, upserted}
use Rattle.ck_laws.specs.Laws.{SoleRepliesAreSteps, SoleMapsStay, SoleFindsRead, SoleAssignsBind, SoleUpsertsBind, SoleErasesUnbind, SoleChangesOfTwoBind, StepsKeepTotals, SoleTransfersKeepTotals}
use Rattle.ck_laws.proofs.Replying.{after_reply}
use Rattle.ck_laws.proofs.Acting.{finding, assigning, upserting_new, upserting_done, erasing, changing_two, changing_two_none}

module _ {V : Type 0} where
  pub stepped : SoleRepliesAreSteps V
  stepped call reply c d sole r m has =
      let z = after_reply call reply c.client d.client m sole.client r has in
      (z.0, z.2, z.1)

  -- what follows from a step follows from the call
  pub concluded : (call : Call V) (reply : Reply V) (c d : CallerState V) → IsSole c → Replies call c d reply → (P : Map V → Map V → Type 0) → ((m m2 : Map V) → Step m call reply m2 → P m m2) → Maps c d P
  concluded call reply c d sole r P gives m has =
      let z = stepped call reply c d sole r m has in
      (z.0, z.1, gives m z.0 z.2)

  pub kept : SoleMapsStay V
  kept c d e m has = (m, subst (λ (log : List (Entry V)). After log m) (sym e) has, refl)

  pub found : SoleFindsRead V
  found q c d o sole r = concluded (On q Find) (Was o) c d sole r _ (λ m m2 st. let f = finding m m2 q o st in (f.1, f.0))

  pub assigned : SoleAssignsBind V
  assigned q v c d o sole r = concluded (On q (Assign v)) (Was o) c d sole r _ (λ m m2 st. assigning m m2 q v o st)

  pub upserting : SoleUpsertsBind V
  upserting q u f c d true sole r = concluded (On q (Upsert u)) New c d sole r _ (λ m m2 st.
      let x = upserting_new m m2 q u st in x.1 ∙ ap (λ o. insert m q (upserted f u o)) (sym x.0))
  upserting q u f c d false sole r = concluded (On q (Upsert u)) (Done r.0 r.1) c d sole r.3 _ (λ m m2 st.
      let x = upserting_done m m2 q u r.0 r.1 st in x.1 ∙ ap (insert m q) r.2 ∙ ap (λ o. insert m q (upserted f u o)) (sym x.0))

  pub erased : SoleErasesUnbind V
  erased q c d o sole r = concluded (On q Erase) (Was o) c d sole r _ (λ m m2 st. erasing m m2 q o st)

  pub changed_two : SoleChangesOfTwoBind V
  changed_two j k f c d true sole r = concluded (ChangeTwo j k) (DoneTwo r.0 r.1 r.2 r.3) c d sole r.5 _ (λ m m2 st.
      let x = changing_two m m2 j k r.0 r.1 r.2 r.3 st in (r.0, r.1, x.0, x.1, x.2 ∙ ap (λ (y : V × V). insert (insert m j y.0) k y.1) r.4))
  changed_two j k f c d false sole r = concluded (ChangeTwo j k) Absent c d sole r _ (λ m m2 st. changing_two_none m m2 j k st)

-- by the law of sums: a session behind the step shows the sum
pub same_total : StepsKeepTotals
same_total log m m2 call reply after st keeps =
    let e : Entry ℕ = record { by = 0; call = call; reply = reply } in
    let idle : Entry ℕ = record { by = 0; call = Session (entries m2) (entries m2); reply = Closed } in
    let one : After (log ++ e ∷ []) m2 = leads_snoc _ m m2 log e after st in
    let two : After (log ++ e ∷ [] ++ idle ∷ []) m2 = leads_snoc _ m2 m2 (log ++ e ∷ []) idle one (refl, refl, refl) in
    let three : After (log ++ e ∷ idle ∷ []) m2 = subst (λ (l : List (Entry ℕ)). After l m2) (append_assoc log (e ∷ []) (idle ∷ [])) two in
    (legal_sums log (e ∷ idle ∷ []) m (m2, three) after (keeps, (refl, tt))).1.0

pub transferred : SoleTransfersKeepTotals
transferred j k c d false sole r m has =
    let z = stepped (ChangeTwo j k) Absent c d sole r m has in
    (z.0, z.1, same_total c.client.seen m z.0 (ChangeTwo j k) Absent has z.2 (inl refl))
transferred j k c d true sole r m has =
    let reply : Reply ℕ = DoneTwo r.0 r.1 r.2 r.3 in
    let z = stepped (ChangeTwo j k) reply c d sole r.5 m has in
    (z.0, z.1, same_total c.client.seen m z.0 (ChangeTwo j k) reply has z.2 (inr (r.0, r.1, r.2, r.3, refl, r.4)))
