-- A call for a list that made no session.
use Rattle.std.proofs.Common.{◌≡◌, ℕ, List, Option, Some, None, refl, inl}
use Rattle.cuckoo_map.specs.Callers.{CallerState}
use Rattle.ck_foreign.specs.declared.code.Code.{Code}
use Rattle.ck_foreign.specs.Handles.{Calls}
use Rattle.ck_foreign.specs.Openings.{ListsAt, TellsNoSession}

-- both places have what they had
pub no_session : {K : Type 0} (lists : CallerState ℕ → CallerState ℕ → List (K × ℕ) → Type 0) (was is : Option (List (K × ℕ))) (held now : Option (CallerState ℕ)) (code : Code) → is ≡ was → now ≡ held → TellsNoSession held was code → Calls (λ c d. ListsAt lists was is c d code) held now code
no_session lists was is (Some c) now code same kept told = (c, kept, inl (refl, told, same))
no_session lists was is None now code same kept told = (kept, told)
