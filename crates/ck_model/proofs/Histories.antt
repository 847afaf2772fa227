-- Histories grow and are cut, and so do their callers' parts.
use Rattle.std.proofs.Common.{◌≡◌, ◌≢◌, ℕ, List, [], ◌∷◌, ◌++◌, sym, refl, ap, ◌∙◌, subst, append_assoc, append-nil}
use Rattle.std.specs.Prelude.{◌==◌}
use Rattle.std.proofs.lemmas.List.Elements.{filter-append}
use Rattle.std.specs.FinMap.{empty}
use Rattle.ck_model.specs.declared.history.Entry.{Entry}
use Rattle.ck_model.specs.Promise.{Map, Step, Leads, IsLegal, StartsWith, subhistory}
use Rattle.ck_model.proofs.Numbered.{if_same, if_else}

module _ {V : Type 0} where
  pub leads_snoc : (m a b : Map V) (log : List (Entry V)) (e : Entry V) → Leads m log a → Step a e.call e.reply b → Leads m (log ++ e ∷ []) b
  leads_snoc m a b [] e l st = (b, subst (λ (x : Map V). Step x e.call e.reply b) (sym l) st, refl)
  leads_snoc m a b (x ∷ xs) e l st = (l.0, l.1, leads_snoc l.0 a b xs e l.2 st)

  -- a list of entries can be cut where one likes
  pub leads_to : (m b : Map V) (start more : List (Entry V)) → Leads m (start ++ more) b → (a : Map V) × Leads m start a × Leads a more b
  leads_to m b [] more l = (m, refl, l)
  leads_to m b (x ∷ xs) more l = let z = leads_to l.0 b xs more l.2 in (z.0, (l.0, l.1, z.1), z.2)

  -- a beginning of a legal history is legal
  pub legal_beginning : (log start : List (Entry V)) → IsLegal log → StartsWith log start → IsLegal start
  legal_beginning log start l s = let z = leads_to empty l.0 start s.0 (subst (λ (x : List (Entry V)). Leads empty x l.0) s.1 l.1) in (z.0, z.1)

  pub subhistory-append : (m : ℕ) (xs ys : List (Entry V)) → subhistory m (xs ++ ys) ≡ subhistory m xs ++ subhistory m ys
  subhistory-append m xs ys = filter-append (λ (e : Entry V). e.by == m) xs ys

  pub subhistory-own : (m : ℕ) (log : List (Entry V)) (e : Entry V) → e.by ≡ m → subhistory m (log ++ e ∷ []) ≡ subhistory m log ++ e ∷ []
  subhistory-own m log e is = subhistory-append m log (e ∷ []) ∙ ap (λ l. subhistory m log ++ l) (if_same e.by m (e ∷ []) [] is)

  pub subhistory-other : (m : ℕ) (log : List (Entry V)) (e : Entry V) → e.by ≢ m → subhistory m (log ++ e ∷ []) ≡ subhistory m log
  subhistory-other m log e ne = subhistory-append m log (e ∷ []) ∙ (ap (λ l. subhistory m log ++ l) (if_else e.by m (e ∷ []) [] ne) ∙ append-nil (subhistory m log))

  pub starts_itself : (log : List (Entry V)) → StartsWith log log
  starts_itself log = ([], sym (append-nil log))

  pub starts_more : (log start : List (Entry V)) (e : Entry V) → StartsWith log start → StartsWith (log ++ e ∷ []) start
  starts_more log start e s = (s.0 ++ e ∷ [], ap (λ l. l ++ e ∷ []) s.1 ∙ append_assoc start s.0 (e ∷ []))
