-- What a session on the locked table leaves.
use Rattle.std.proofs.Common.{List, sym, refl, subst}
use Rattle.ck_model.specs.declared.history.Entry.{Entry}
use Rattle.ck_model.specs.declared.history.Reply.TheVariants.{Closed}
use Rattle.ck_model.specs.Promise.{After}
use Rattle.ck_model.proofs.Histories.{leads_snoc}
use Rattle.cuckoo_map.specs.Locking.{LockedState, start_of, map_of, session_call}
use Rattle.ck_laws.specs.Laws.{SessionsLeaveTheirMap, SessionsKeepTheirStart}

module _ {V : Type 0} where
  pub session_leaves : SessionsLeaveTheirMap V
  session_leaves l d after e =
      let entry : Entry V = record { by = e.0; call = session_call l; reply = Closed } in
      subst (λ (log : List (Entry V)). After log (map_of l)) (sym e.2) (leads_snoc _ (start_of l) (map_of l) l.caller.client.seen entry after (refl, refl, refl))

  pub session_began : SessionsKeepTheirStart V
  session_began l m same after = subst (λ (x : LockedState V). After x.caller.client.seen (start_of x)) (sym same) after
