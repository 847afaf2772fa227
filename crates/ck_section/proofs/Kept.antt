-- All stripes of a table stay so in a call, and have those of every name.
use Rattle.std.proofs.Common.{◌≡◌, ℕ, ◌-◌, ◌^◌, ◌<◌, ◌≤◌, List, [], ◌∷◌, length, refl, sym, ◌∙◌, ap, subst, arith}
use Rattle.std.proofs.lemmas.Nat.{pow_pos}
use Rattle.ck_model.specs.Promise.{Name}
use Rattle.ck_model.specs.Contents.{power_of}
use Rattle.ck_stripe.specs.Stripe.{StripeState}
use Rattle.ck_stripe.specs.Stripes.{stripe_at, contents_of, HaveNoSpare}
use Rattle.ck_stripe.specs.Tables.{HasStripe, AreAllHeld, AreSettled, IsTable}
use Rattle.ck_section.specs.Places.{HasBoth}
use Rattle.ck_section.specs.Calls.{ChangesContents}
use Rattle.ck_section.proofs.Owned.{own_below, in_contents}

-- what had no memory to spare has none after it
pub no_spare_after : {V : Type 0} (old new : List (StripeState V)) → HaveNoSpare old → ChangesContents old new → HaveNoSpare new
no_spare_after {V} old new spare changes i l =
    let inside : i < length old = subst (λ n. i < n) changes.count l in
    ap (λ (t : StripeState V). t.room) (changes.each i inside) ∙ spare i inside
    ∙ (λ z. 2 ^ (sym (changes.power i inside) z - sym (ap (λ (t : StripeState V). t.s) (changes.each i inside)) z))

module _ {V : Type 0} (s : ℕ) (old : List (StripeState V)) where
  has_number : AreAllHeld s old → (t : ℕ) → t < 2 ^ s → HasStripe old t
  has_number all t lt = let inside : t < length old = subst (λ n. t < n) (sym all.table.count) lt in (t, inside, all.table.number t inside)

  pub has_both : AreAllHeld s old → (hash : Name → ℕ) (q : Name) → HasBoth hash s old q
  has_both all hash q max t of = in_contents old t (has_number all t (own_below hash s q t of))

  pub table_after : (new : List (StripeState V)) → IsTable s old → ChangesContents old new → IsTable s new
  table_after new table changes =
      let inside : (i : ℕ) → i < length new → i < length old = λ i l. subst (λ n. i < n) changes.count l in
      let first : (stripe_at new 0).content.power ≡ (stripe_at old 0).content.power = changes.power 0 (subst (λ n. 0 < n) (sym table.count) (pow_pos s)) in
      record {
        many = table.many;
        count = changes.count ∙ table.count;
        number = λ i l. ap (λ (t : StripeState V). t.number) (changes.each i (inside i l)) ∙ table.number i (inside i l);
        one_s = λ i l. ap (λ (t : StripeState V). t.s) (changes.each i (inside i l)) ∙ table.one_s i (inside i l);
        one_power = λ i l. changes.power i (inside i l) ∙ table.one_power i (inside i l) ∙ sym first;
        least = subst (λ n. s ≤ n) (sym first) table.least;
        most = subst (λ n. n ≤ 26) (sym first) table.most;
        no_spare = no_spare_after old new table.no_spare changes;
      }

  pub settled_after : (new : List (StripeState V)) → AreSettled old → ChangesContents old new → AreSettled new
  settled_after new settled changes i l =
      let inside : i < length old = subst (λ n. i < n) changes.count l in
      ap (λ (t : StripeState V). t.settled) (changes.each i inside) ∙ settled i inside

  pub all_after : (new : List (StripeState V)) → AreAllHeld s old → ChangesContents old new → AreAllHeld s new
  all_after new all changes = record { table = table_after new all.table changes; settled = settled_after new all.settled changes }

-- the power that contents show stays
pub power_kept : {V : Type 0} (old new : List (StripeState V)) → ChangesContents old new → power_of (contents_of new) ≡ power_of (contents_of old)
power_kept [] [] changes = refl
power_kept [] (u ∷ us) changes = let count = changes.count in absurd (omega arith)
power_kept (t ∷ ts) [] changes = let count = changes.count in absurd (omega arith)
power_kept (t ∷ ts) (u ∷ us) changes = changes.power 0 (omega arith)
