-- Held stripes in the other order are lawful, and contain the same.
use Rattle.std.proofs.Common.{◌≡◌, ℕ, List, [], ◌∷◌, ◌++◌, map, reverse, append-nil, sym, refl, ap, ◌∙◌, subst, ⊎_elim, inl, inr}
use Rattle.std.proofs.lemmas.Grind.{reverse_onto}
use Rattle.std.proofs.lemmas.List.{reverse-reverse}
use Rattle.std.specs.FinMap.{get}
use Rattle.ck_model.specs.declared.history.Call.{Call}
use Rattle.ck_model.specs.declared.history.Call.TheVariants.{On, ChangeTwo, Len, SessionOn, Session}
use Rattle.ck_model.specs.declared.history.Reply.{Reply}
use Rattle.ck_model.specs.Promise.{Step}
use Rattle.ck_model.specs.Numbered.{IsIn, AreDistinct, numbers, Holds}
use Rattle.ck_model.specs.Contents.{Layout, Stripes, bindings, Lawful}
use Rattle.ck_model.specs.Sections.{OwnsCall, Renewed, Section, IdentitySection}
use Rattle.ck_model.proofs.Numbered.{same_option, in_held, held_of_in, held_first, held_second, distinct_between}
use Rattle.ck_model.proofs.Names.{maps_alike}
use Rattle.ck_model.proofs.Found.{bound_where, bound_from}

module _ {A : Type 0} where
  pub reverse-cons : (x : A) (xs : List A) → reverse (x ∷ xs) ≡ reverse xs ++ x ∷ []
  reverse-cons x xs = reverse_onto xs x []

module _ {A B : Type 0} (f : A → B) where
  pub map-append : (xs ys : List A) → map f (xs ++ ys) ≡ map f xs ++ map f ys
  map-append [] ys = refl
  map-append (x ∷ xs) ys = ap {B = List B} (λ l. f x ∷ l) (map-append xs ys)

  pub map-reverse : (xs : List A) → map f (reverse xs) ≡ reverse (map f xs)
  map-reverse [] = refl
  map-reverse (x ∷ xs) = ap (map f) (reverse-cons x xs) ∙ (map-append (reverse xs) (x ∷ []) ∙ (ap (λ l. l ++ f x ∷ []) (map-reverse xs) ∙ sym (reverse-cons (f x) (map f xs))))

module _ {A : Type 0} where
  pub numbers-reverse : (hs : List (ℕ × A)) → numbers (reverse hs) ≡ reverse (numbers hs)
  numbers-reverse hs = map-reverse (λ (h : ℕ × A). h.0) hs

  pub held_reverse : (hs : List (ℕ × A)) (t : ℕ) (c : A) → Holds hs t c → Holds (reverse hs) t c
  held_reverse [] t c h = h
  held_reverse (x ∷ xs) t c h = subst (λ l. Holds l t c) (sym (reverse-cons x xs)) (⊎_elim (λ e. held_second (reverse xs) (x ∷ []) t c (inl e)) (λ r. held_first (reverse xs) (x ∷ []) t c (held_reverse xs t c r)) h)

  pub of_reverse : (hs : List (ℕ × A)) (t : ℕ) (c : A) → Holds (reverse hs) t c → Holds hs t c
  of_reverse hs t c h = subst (λ l. Holds l t c) (reverse-reverse hs) (held_reverse (reverse hs) t c h)

  pub in_reverse : (hs : List (ℕ × A)) (t : ℕ) → IsIn t (numbers hs) → IsIn t (numbers (reverse hs))
  in_reverse hs t i = let d = held_of_in hs t i in in_held (reverse hs) t d.0 (held_reverse hs t d.0 d.1)

  pub in_of_reverse : (hs : List (ℕ × A)) (t : ℕ) → IsIn t (numbers (reverse hs)) → IsIn t (numbers hs)
  in_of_reverse hs t i = let d = held_of_in (reverse hs) t i in in_held hs t d.0 (of_reverse hs t d.0 d.1)

  pub distinct_reverse : (hs : List (ℕ × A)) → AreDistinct (numbers hs) → AreDistinct (numbers (reverse hs))
  distinct_reverse [] d = tt
  distinct_reverse (x ∷ xs) d =
      let before : AreDistinct (numbers (reverse xs ++ [])) = subst (λ (l : List (ℕ × A)). AreDistinct (numbers l)) (sym (append-nil (reverse xs))) (distinct_reverse xs d.1) in
      let apart : (t : ℕ) → IsIn t (numbers (x ∷ [])) → ¬ (IsIn t (numbers (reverse xs ++ []))) = λ t i j.
      ⊎_elim (λ (e : x.0 ≡ t). d.0 (subst (λ u. IsIn u (numbers xs)) (sym e) (in_of_reverse xs t (subst (λ (l : List (ℕ × A)). IsIn t (numbers l)) (append-nil (reverse xs)) j)))) (λ z. absurd z) i in
      subst (λ (l : List (ℕ × A)). AreDistinct (numbers l)) (sym (reverse-cons x xs)) (distinct_between (reverse xs) (x ∷ []) [] before ((λ z. z), tt) apart)

module _ {V : Type 0} (k : Layout) where
  pub lawful_reverse : (hs : Stripes V) → Lawful k hs → Lawful k (reverse hs)
  lawful_reverse hs l = record {
    distinct = distinct_reverse hs l.distinct;
    sound = λ t c h. l.sound t c (of_reverse hs t c h);
    once = λ t u c d q v w h g. l.once t u c d q v w (of_reverse hs t c h) (of_reverse hs u d g);
    one_power = λ t u c d h g. l.one_power t u c d (of_reverse hs t c h) (of_reverse hs u d g);
  }

  pub bindings-reverse : (hs : Stripes V) → Lawful k hs → bindings (reverse hs) ≡ bindings hs
  bindings-reverse hs l = let m = lawful_reverse hs l in maps_alike (bindings (reverse hs)) (bindings hs)
      (λ q. same_option (get (bindings (reverse hs)) q) (get (bindings hs) q)
      (λ v e. let z = bound_where (reverse hs) q v e in bound_from hs l.once l.distinct z.0 z.1 q v (of_reverse hs z.0 z.1 z.2) z.3)
      (λ v e. let z = bound_where hs q v e in bound_from (reverse hs) m.once m.distinct z.0 z.1 q v (held_reverse hs z.0 z.1 z.2) z.3))

  renewed_reverse : (hs ks : Stripes V) → Renewed k hs ks → Renewed k (reverse hs) (reverse ks)
  renewed_reverse hs ks r = record {
    same = numbers-reverse ks ∙ (ap reverse r.same ∙ sym (numbers-reverse hs));
    lawful = lawful_reverse ks r.lawful;
    power = ⊎_elim (λ same. inl (λ t u c d h g. same t u c d (of_reverse hs t c h) (of_reverse ks u d g)))
        (λ more. inr ((λ t l. in_reverse hs t (more.0 t l)), (λ t u c d h g. more.1 t u c d (of_reverse hs t c h) (of_reverse ks u d g)))) r.power;
  }

  owns_reverse : (hs : Stripes V) (call : Call V) → OwnsCall k hs call → OwnsCall k (reverse hs) call
  owns_reverse hs (On q a) o = λ t h. in_reverse hs t (o t h)
  owns_reverse hs (ChangeTwo p q) o = ((λ t h. in_reverse hs t (o.0 t h)), (λ t h. in_reverse hs t (o.1 t h)))
  owns_reverse hs Len o = λ t h. in_reverse hs t (o t h)
  owns_reverse hs (SessionOn qs a b) o = λ q i t h. in_reverse hs t (o q i t h)
  owns_reverse hs (Session a b) o = λ t h. in_reverse hs t (o t h)

  section_reverse : (hs ks : Stripes V) (call : Call V) (reply : Reply V) → Lawful k hs → Section k hs call reply ks → Section k (reverse hs) call reply (reverse ks)
  section_reverse hs ks call reply l s = record {
    renewed = renewed_reverse hs ks s.renewed;
    owns = owns_reverse hs call s.owns;
    step = subst (λ m. Step m call reply (bindings (reverse ks))) (sym (bindings-reverse hs l)) (subst (Step (bindings hs) call reply) (sym (bindings-reverse ks s.renewed.lawful)) s.step);
  }

  identity_reverse : (hs ks : Stripes V) → Lawful k hs → IdentitySection k hs ks → IdentitySection k (reverse hs) (reverse ks)
  identity_reverse hs ks l s = record {
    renewed = renewed_reverse hs ks s.renewed;
    same_bindings = bindings-reverse ks s.renewed.lawful ∙ (s.same_bindings ∙ sym (bindings-reverse hs l));
  }

  -- a section of stripes in rising order, for stripes of which the last taken comes first
  pub section_turned : (held cs : Stripes V) (call : Call V) (reply : Reply V) → Lawful k held → (Lawful k (reverse held) → Section k (reverse held) call reply cs) → Section k held call reply (reverse cs)
  section_turned held cs call reply l s =
      let m = lawful_reverse held l in
      subst (λ hs. Section k hs call reply (reverse cs)) (reverse-reverse held) (section_reverse (reverse held) cs call reply m (s m))

  pub identity_turned : (held cs : Stripes V) → Lawful k held → (Lawful k (reverse held) → IdentitySection k (reverse held) cs) → IdentitySection k held (reverse cs)
  identity_turned held cs l s =
      let m = lawful_reverse held l in
      subst (λ hs. IdentitySection k hs (reverse cs)) (reverse-reverse held) (identity_reverse (reverse held) cs m (s m))
