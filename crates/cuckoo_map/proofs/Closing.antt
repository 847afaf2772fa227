-- A caller ends its table, with the passes of all others.
use Rattle.std.proofs.Common.{◌≡◌, Option, Some, None, ℕ, List, [], ◌∷◌, ◌++◌, sym, subst}
use Rattle.std.specs.Prelude.{IfSome, IfNone}
use Rattle.std.proofs.lemmas.List.Elements.{All-push}
use Rattle.ck_model.specs.Promise.{Name, Map}
use Rattle.ck_model.specs.Numbered.{IsIn, numbers}
use Rattle.ck_words.specs.Words.{WordsState}
use Rattle.ck_words.specs.Passes.{PassState}
use Rattle.ck_words.specs.Closing.{IsCaller, AreAllPasses, Closes, parts_of}
use Rattle.ck_words.proofs.Ending.{callers_apart}
use Rattle.ck_refusal.specs.declared.refusal.DrainFault.{DrainFault}
use Rattle.ck_refusal.specs.declared.refusal.DrainFault.TheVariants as faults
use Rattle.cuckoo_map.specs.Refusals.{IsStripeIn, IsBusyAmong}
use Rattle.cuckoo_map.specs.Callers.{CallerState, caller_of, pass_of, AreOthers, StaysAsIs, IsNotClosed}
use Rattle.cuckoo_map.proofs.Callers.{as_pass}

-- the caller c of the table w, which the call was made on as v, has the pass p
module _ {V : Type 0} {w v : WordsState} {c : CallerState V} (p : PassState V) (is : caller_of w p ≡ c) (before : IsCaller w p) (at : v ≡ w) (ps : List (PassState V)) where
  -- with the passes of all others it is all of them
  pub all_passes : AreOthers c ps → AreAllPasses v (ps ++ p ∷ [])
  all_passes others =
      let o : AreOthers (caller_of w p) ps = subst (λ (x : CallerState V). AreOthers x ps) (sym is) others in
      subst (λ (x : WordsState). AreAllPasses x (ps ++ p ∷ [])) (sym at)
      (record {
        callers = All-push (IsCaller w) ps p o.callers before;
        all = λ m lt. subst (λ (x : PassState V). IsIn m (numbers (parts_of (ps ++ x ∷ [])))) (as_pass before) (o.all m lt);
      })

  -- what ended the table by its pass did so by the caller
  pub closes_by : (hash : Name → ℕ) (m : Map V) → Closes hash v.settings (ps ++ p ∷ []) m → Closes hash c.table.settings (ps ++ pass_of c ∷ []) m
  closes_by hash m closes =
      subst (λ (x : CallerState V). Closes hash x.table.settings (ps ++ pass_of x ∷ []) m) is
      (subst (λ (x : WordsState × PassState V). Closes hash x.0.settings (ps ++ x.1 ∷ []) m) (λ j. (at j, sym (as_pass before) j)) closes)

-- why the table was not ended, where this stripe was found held, or none
pub not_closed : {V : Type 0} (c d : CallerState V) (held : Option ℕ) (why : DrainFault) → IfSome held (λ t. why ≡ faults.Busy t) → IfNone held (why ≡ faults.Memory)
    → IfSome held (λ t. IsBusyAmong (IsStripeIn c.table.settings) c.table.settings t (pass_of c) (pass_of d)) → StaysAsIs c d → IsNotClosed c d why
not_closed c d (Some t) why is none busy stays = subst (IsNotClosed c d) (sym is) busy
not_closed c d None why is none busy stays = subst (IsNotClosed c d) (sym none) stays

-- the pass that came back is a caller's, and the others are all others
module _ {V : Type 0} {w v : WordsState} (q : PassState V) (ps : List (PassState V)) (at : v ≡ w) (there : AreAllPasses v (ps ++ q ∷ [])) where
  all : AreAllPasses w (ps ++ q ∷ [])
  all = subst (λ (x : WordsState). AreAllPasses x (ps ++ q ∷ [])) at there

  pub caller_again : IsCaller w q
  caller_again = (callers_apart w ps q all).1

  pub others_again : AreOthers (caller_of w q) ps
  others_again = record {
    callers = (callers_apart w ps q all).0;
    all = λ m lt. subst (λ (x : PassState V). IsIn m (numbers (parts_of (ps ++ x ∷ [])))) (sym (as_pass caller_again)) (all.all m lt);
  }
