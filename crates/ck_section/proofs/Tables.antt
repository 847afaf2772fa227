-- All stripes of a table are a whole: what a search sees in them is what stands in their contents.
use Rattle.std.proofs.Common.{◌≡◌, ℕ, ◌*◌, ◌/◌, ◌%◌, ◌^◌, ◌<◌, ◌≤◌, Bool, true, false, List, [], ◌∷◌, Option, Some, None, IfNone, Result, Ok, Err, IfErr, OnErr, length, map, refl, sym, ◌∙◌, ap, subst, arith}
use Rattle.std.specs.Bool.{OnFalse}
use Rattle.std.specs.Result.{IsErrAnd}
use Rattle.std.proofs.Math.Nat.{mod-lt, mod-eq_of_lt}
use Rattle.std.proofs.Math.Pow.{pow_mono}
use Rattle.std.proofs.lemmas.Nat.{pow_pos}
use Rattle.ck_model.specs.Arithmetic.{partial_of, index_of, alternate_of, second_of}
use Rattle.ck_model.specs.Promise.{Name}
use Rattle.ck_model.specs.Slots.{Slot}
use Rattle.ck_model.specs.Contents.{Layout, layout, Stripes, Lawful, row_at, rows_of, power_of, bucket_in}
use Rattle.ck_model.specs.Paths.{sketch_in, partial_in}
use Rattle.ck_model.specs.Sketches.{Sketch, HasNoSketchPath}
use Rattle.ck_path.proofs.ShownPaths.{sketches_show_paths}
use Rattle.ck_stripe.specs.Stripe.{StripeState}
use Rattle.ck_stripe.specs.Stripes.{stripe_at, bucket_at, contents_of}
use Rattle.ck_stripe.specs.Tables.{AreHeld, AreAllHeld, IsTable, power_in}
use Rattle.ck_section.specs.Room.{sketch_of, IsWithoutPath}
use Rattle.ck_model.proofs.Rows.{rows_held, power_held}
use Rattle.ck_stripe.proofs.Tables.{holds_at, has_all}

-- a bucket's stripe, as code finds it
pub mask : (s : ℕ) → s ≤ 10 → 1 * 2 ^ s % 18446744073709551616 ≡ 2 ^ s
mask s le = let z : 2 ^ s ≤ 2 ^ 10 = pow_mono le in let o : 1 * 2 ^ s ≡ 2 ^ s = omega arith in ap (λ n. n % 18446744073709551616) o ∙ mod-eq_of_lt (let below : 2 ^ s < 18446744073709551616 = omega arith in below)

-- the second bucket of a hash, as code finds it
pub second_by : (p h t n : ℕ) → t ≡ partial_of h → n ≡ index_of p h → alternate_of p t n ≡ second_of p h
unfolding second_of
second_by p h t n e f = λ z. alternate_of p (e z) (f z)

pub none_maps : {A : Type 0} (o : Option A) (P Q : Type 0) → (P → Q) → IfNone o P → IfNone o Q
none_maps None P Q f p = f p
none_maps (Some a) P Q f p = tt

pub err_maps : {A E : Type 0} (r : Result A E) (P Q : E → Type 0) → ((e : E) → P e → Q e) → IsErrAnd r P → IfErr r Q
err_maps (Ok a) P Q f p = tt
err_maps (Err e) P Q f p = f e p

pub err_anyway : {A E : Type 0} (r : Result A E) (P : Type 0) → P → OnErr r P
err_anyway (Ok a) P p = tt
err_anyway (Err e) P p = p

pub false_maps : (b : Bool) (P Q : Type 0) → (P → Q) → OnFalse b P → OnFalse b Q
false_maps true P Q f p = tt
false_maps false P Q f p = f p

-- the power that contents show
pub power_shown : {V : Type 0} (stripes : List (StripeState V)) → 0 < length stripes → power_of (contents_of stripes) ≡ power_in stripes
power_shown [] lt = absurd (omega arith)
power_shown (t ∷ ts) lt = refl

pub power_same : {V : Type 0} (s : ℕ) (old new : List (StripeState V)) → IsTable s old → IsTable s new → contents_of new ≡ contents_of old → power_in new ≡ power_in old
power_same s old new old_table new_table same =
    sym (power_shown new (subst (λ n. 0 < n) (sym new_table.count) (pow_pos s))) ∙ ap power_of same ∙ power_shown old (subst (λ n. 0 < n) (sym old_table.count) (pow_pos s))

module _ {V : Type 0} (s : ℕ) (stripes : List (StripeState V)) where
  -- all stripes of a table are stripes of it, in rising order of their numbers
  pub held_of : AreAllHeld s stripes → AreHeld s stripes
  held_of all = record {
    some = subst (λ n. 0 < n) (sym all.table.count) (pow_pos s);
    many = all.table.many;
    one_s = all.table.one_s;
    settled = all.settled;
    one_power = all.table.one_power;
    least = all.table.least;
    most = all.table.most;
    no_spare = all.table.no_spare;
    rising = λ i j lt inside. rises i j lt inside;
  }
    where
      within : (i j : ℕ) → i < j → j < length stripes → i < length stripes
      within i j lt inside = omega arith

      rises : (i j : ℕ) → i < j → j < length stripes → (stripe_at stripes i).number < (stripe_at stripes j).number
      rises i j lt inside = subst (λ (x : ℕ × ℕ). x.0 < x.1) (λ z. (sym (all.table.number i (within i j lt inside)) z, sym (all.table.number j inside) z)) lt

  module _ (table : IsTable s stripes) where
    -- the stripe of a bucket is one of them
    pub stripe_inside : (b : ℕ) → b % 2 ^ s < length stripes
    stripe_inside b = subst (λ n. b % 2 ^ s < n) (sym table.count) (mod-lt b (pow_pos s))

    module _ (hash : Name → ℕ) (max : ℕ) (lawful : Lawful (layout hash s max) (contents_of stripes)) where
      abbrev k : Layout
      k = layout hash s max

      abbrev hs : Stripes V
      hs = contents_of stripes

      pub power_is : power_of hs ≡ power_in stripes
      power_is = power_held k hs (stripe_at stripes 0).number (stripe_at stripes 0).content lawful (holds_at stripes 0 (subst (λ n. 0 < n) (sym table.count) (pow_pos s)))

      -- a bucket of the contents is that of its stripe
      pub bucket_is : (b : ℕ) → bucket_in k hs b ≡ bucket_at stripes (b % 2 ^ s) b
      bucket_is b =
          let i : ℕ = b % 2 ^ s in
          let inside : i < length stripes = stripe_inside b in
          let t : StripeState V = stripe_at stripes i in
          ap (λ n. row_at (rows_of hs n) (b / 2 ^ s)) (sym (table.number i inside))
          ∙ ap (λ (rows : List (List (Slot V))). row_at rows (b / 2 ^ s)) (rows_held hs t.number t.content lawful.distinct (holds_at stripes i inside))
          ∙ ap (λ n. row_at t.content.rows (b / 2 ^ n)) (sym (table.one_s i inside))

      pub sketches_are : sketch_of hash s stripes ≡ sketch_in k hs
      sketches_are z b = map (partial_in hash) (sym (bucket_is b) z)

  -- where a search of all stripes is over with no path, there is none in lawful contents
  pub no_path_of : IsTable s stripes → (hash : Name → ℕ) (q : Name) (p : ℕ) → p ≡ power_in stripes → HasNoSketchPath p (sketch_of hash s stripes) (index_of p (hash q)) (second_of p (hash q)) → IsWithoutPath hash s stripes q
  no_path_of table hash q p power none max lawful =
      let k : Layout = layout hash s max in
      let e : p ≡ power_of (contents_of stripes) = power ∙ sym (power_is table hash max lawful) in
      (sketches_show_paths V k (contents_of stripes) q lawful (has_all hash s max stripes table)).0
      (subst (λ (x : ℕ × (ℕ → Sketch)). HasNoSketchPath x.0 x.1 (index_of x.0 (hash q)) (second_of x.0 (hash q))) (λ z. (e z, sketches_are table hash max lawful z)) none)
