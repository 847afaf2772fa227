use Rattle.std.proofs.Common.{◌≡◌, ℕ, ◌*◌, ◌%◌, ◌^◌, ◌<◌, ◌≤◌, Bool, true, false, not, List, length, sym, ◌∙◌, ap, subst, arith}
use Rattle.std.specs.Prelude.{MatchBool}
use Rattle.std.specs.Int.{div_ceil}
use Rattle.std.proofs.Math.Nat.{mod-eq_of_lt}
use Rattle.std.proofs.Math.Pow.{pow_mono}
use Rattle.std.proofs.lemmas.Nat.{pow_pos}
use Rattle.ck_model.specs.Contents.{pairs_of, power_of}
use Rattle.ck_stripe.specs.Stripe.{StripeState}
use Rattle.ck_stripe.specs.Stripes.{contents_of}
use Rattle.ck_section.proofs.Tables.{power_shown}
use Rattle.ck_section.proofs.room.is_too_empty.Goals as goal

-- the number of slots, as code finds it
slots : (p : ℕ) → p ≤ 26 → 4 * 2 ^ p % 18446744073709551616 ≡ 4 * 2 ^ p
slots p le = let few : 2 ^ p ≤ 2 ^ 26 = pow_mono le in mod-eq_of_lt (let below : 4 * 2 ^ p < 18446744073709551616 = omega arith in below)

-- n are too few where they aren't the hundredth part of x, rounded up
too_few : (enough : Bool) (least n x : ℕ) → least ≡ div_ceil x 100 → MatchBool enough (least ≤ n) (n < least) → MatchBool (not enough) (100 * n < x) (¬ (100 * n < x))
too_few true least n x is many = λ few. omega arith
too_few false least n x is few = omega arith

pub returns-clause-value : goal.returns-clause-value
returns-clause-value g c =
    let stripes : List (StripeState g.row.V.Denot) = g.H.Held.stripes c.args.held.now in
    let p : ℕ = c.args.power in
    let some : 0 < length stripes = subst (λ n. 0 < n) (sym c.requires.table.count) (pow_pos c.args.s) in
    let power : p ≡ power_of (contents_of stripes) = c.requires.power ∙ sym (power_shown stripes some) in
    let few : p ≤ 26 = subst (λ n. n ≤ 26) (sym c.requires.power) c.requires.table.most in
    let share : c.from.result * (4 * 2 ^ p % 18446744073709551616) ≡ c.args.min_load * (4 * 2 ^ power_of (contents_of stripes)) =
    ap (λ n. n * (4 * 2 ^ p % 18446744073709551616)) c.from.ensures ∙ ap (λ n. c.args.min_load * n) (slots p few ∙ ap (λ n. 4 * 2 ^ n) power) in
    too_few c.has_entries.result c.div_ceil-least.result (length (pairs_of (contents_of stripes))) _ (c.div_ceil-least.ensures ∙ ap (λ n. div_ceil n 100) share) c.has_entries.ensures.value
