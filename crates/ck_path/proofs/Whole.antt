-- Each bucket of a lawful whole has four slots.
use Rattle.std.proofs.Common.{◌≡◌, ℕ, ◌-◌, ◌+◌, ◌*◌, ◌/◌, ◌%◌, ◌^◌, ◌<◌, List, [], ◌∷◌, length, refl, sym, ◌∙◌, ap, subst, ⊎_elim, inl, arith}
use Rattle.std.proofs.Math.Nat.{mod-lt}
use Rattle.std.proofs.lemmas.Nat.{pow-add, pow_pos, div_below}
use Rattle.std.proofs.lemmas.List.Elements.{All-get_or}
use Rattle.ck_model.specs.Numbered.{IsIn, AreDistinct, numbers, Holds}
use Rattle.ck_model.specs.Slots.{Slot}
use Rattle.ck_model.specs.declared.contents.Content.{Content}
use Rattle.ck_model.specs.Contents.{Layout, Stripes, Lawful, IsSound, power_of, rows_of, bucket_in}
use Rattle.ck_model.specs.Sections.{HasAll}
use Rattle.ck_model.proofs.Numbered.{if_same, if_else, in_held, held_of_in}

module _ {V : Type 0} where
  rows_held : (hs : Stripes V) → AreDistinct (numbers hs) → (t : ℕ) (c : Content V) → Holds hs t c → rows_of hs t ≡ c.rows
  rows_held [] distinct t c h = absurd h
  rows_held (x ∷ hs) distinct t c h = ⊎_elim
      (λ (e : (x.0 ≡ t) × (x.1 ≡ c)). if_same x.0 t x.1.rows (rows_of hs t) e.0 ∙ ap (λ (d : Content V). d.rows) e.1)
      (λ r. if_else x.0 t x.1.rows (rows_of hs t) (λ e. distinct.0 (subst (λ (n : ℕ). IsIn n (numbers hs)) (sym e) (in_held hs t c r)))
      ∙ rows_held hs distinct.1 t c r) h

  power_held : (k : Layout) (hs : Stripes V) → Lawful k hs → (t : ℕ) (c : Content V) → Holds hs t c → power_of hs ≡ c.power
  power_held k [] lawful t c h = absurd h
  power_held k (x ∷ hs) lawful t c h = lawful.one_power x.0 t x.1 c (inl (refl, refl)) h

  pub four_slots : (k : Layout) (hs : Stripes V) → Lawful k hs → HasAll k hs → (b : ℕ) → b < 2 ^ power_of hs → length (bucket_in k hs b) ≡ 4
  four_slots k hs lawful all b below =
      let t : ℕ = b % 2 ^ k.s in
      let held : (c : Content V) × Holds hs t c = held_of_in hs t (all t (mod-lt b (pow_pos k.s))) in
      let sound : IsSound k t held.0 = lawful.sound t held.0 held.1 in
      let power : power_of hs ≡ held.0.power = power_held k hs lawful t held.0 held.1 in
      let split : held.0.power ≡ (held.0.power - k.s) + k.s = omega (arith, sound.shaped.least) in
      let size : 2 ^ power_of hs ≡ 2 ^ (held.0.power - k.s) * 2 ^ k.s = ap (λ p. 2 ^ p) (power ∙ split) ∙ pow-add 2 (held.0.power - k.s) k.s in
      let row : b / 2 ^ k.s < length held.0.rows =
      rw sound.shaped.rows (div_below b (2 ^ k.s) (2 ^ (held.0.power - k.s)) (pow_pos k.s) (subst (λ n. b < n) size below)) in
      rw (rows_held hs lawful.distinct t held.0 held.1)
      (All-get_or (λ (row : List (Slot V)). length row ≡ 4) held.0.rows (b / 2 ^ k.s) [] row sound.shaped.four)
