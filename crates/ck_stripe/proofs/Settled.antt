-- Stripes that are settled or changed in place are a table as before.
use Rattle.std.proofs.Common.{◌≡◌, ℕ, zero, suc, ◌-◌, ◌^◌, ◌<◌, ◌≤◌, true, List, [], ◌∷◌, length, refl, sym, ◌∙◌, ap, subst}
use Rattle.std.proofs.lemmas.Nat.{pow_pos}
use Rattle.std.proofs.lemmas.List.{length-map}
use Rattle.ck_model.specs.Contents.{Stripes}
use Rattle.ck_stripe.specs.Stripe.{StripeState}
use Rattle.ck_stripe.specs.Stripes.{stripe_at, contents_of, settled_stripes}
use Rattle.ck_stripe.specs.Tables.{AreAllHeld, IsTable}

module _ {V : Type 0} where
  -- the stripe by what places it in a table, and its memory
  abbrev pub form : StripeState V → ℕ × ℕ × ℕ × ℕ
  form t = (t.number, t.s, t.content.power, t.room)

  -- as many stripes, each of the number, the table, the power and the memory that it had
  pub record AreAlike (old new : List (StripeState V)) : Type 0 where
    pub count : length new ≡ length old
    pub each : (i : ℕ) → i < length old → form (stripe_at new i) ≡ form (stripe_at old i)

  pub table_alike : (s : ℕ) (old new : List (StripeState V)) → AreAlike old new → IsTable s old → IsTable s new
  table_alike s old new alike table =
      let inside : (i : ℕ) → i < length new → i < length old = λ i l. subst (λ n. i < n) alike.count l in
      let first : (stripe_at new 0).content.power ≡ (stripe_at old 0).content.power = ap (λ (x : ℕ × ℕ × ℕ × ℕ). x.2) (alike.each 0 (subst (λ n. 0 < n) (sym table.count) (pow_pos s))) in
      record {
        many = table.many;
        count = alike.count ∙ table.count;
        number = λ i l. ap (λ (x : ℕ × ℕ × ℕ × ℕ). x.0) (alike.each i (inside i l)) ∙ table.number i (inside i l);
        one_s = λ i l. ap (λ (x : ℕ × ℕ × ℕ × ℕ). x.1) (alike.each i (inside i l)) ∙ table.one_s i (inside i l);
        one_power = λ i l. ap (λ (x : ℕ × ℕ × ℕ × ℕ). x.2) (alike.each i (inside i l)) ∙ table.one_power i (inside i l) ∙ sym first;
        least = subst (λ n. s ≤ n) (sym first) table.least;
        most = subst (λ n. n ≤ 26) (sym first) table.most;
        no_spare = λ i l. subst (λ (x : ℕ × ℕ × ℕ × ℕ). x.3 ≡ 2 ^ (x.2 - x.1)) (sym (alike.each i (inside i l))) (table.no_spare i (inside i l));
      }

  -- All stripes are settled.
  settled_each : (stripes : List (StripeState V)) (i : ℕ) → stripe_at (settled_stripes stripes) i ≡ record (stripe_at stripes i) { settled = true }
  settled_each [] i = refl
  settled_each (t ∷ ts) zero = refl
  settled_each (t ∷ ts) (suc i) = settled_each ts i

  pub contents_settled : (stripes : List (StripeState V)) → contents_of (settled_stripes stripes) ≡ contents_of stripes
  contents_settled [] = refl
  contents_settled (t ∷ ts) = ap (λ (hs : Stripes V). (t.number, t.content) ∷ hs) (contents_settled ts)

  pub all_settled : (s : ℕ) (stripes : List (StripeState V)) → IsTable s stripes → AreAllHeld s (settled_stripes stripes)
  all_settled s stripes table = record {
    table = table_alike s stripes (settled_stripes stripes) (record { count = length-map stripes (λ (t : StripeState V). record t { settled = true }); each = λ i l. ap form (settled_each stripes i) }) table;
    settled = λ i l. ap (λ (t : StripeState V). t.settled) (settled_each stripes i);
  }
