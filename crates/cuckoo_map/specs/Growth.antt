-- What a call leaves that grows the table.
use Rattle.std.specs.Prelude.{◌≡◌, ◌↔◌, ℕ, ◌+◌, ◌-◌, ◌*◌, ◌^◌, ◌<◌, ◌≤◌, Bool, true, false, Result, Ok, Err, OnOk}
use Rattle.ck_model.specs.declared.settings.Settings.{Settings}
use Rattle.ck_words.specs.Passes.{PassState}
use Rattle.ck_refusal.specs.declared.refusal.GrowFault.{GrowFault}
use Rattle.ck_refusal.specs.declared.refusal.GrowFault.TheVariants.{Busy, Memory, OverMax}
use Rattle.cuckoo_map.specs.Refusals.{IsStripeIn, IsBusyAmong}

-- The least power of at least 1 with which a table has n slots or more.
pub record IsLeastPower (n power : ℕ) : Type 0 where
  pub one : 1 ≤ power
  pub enough : n ≤ 4 * 2 ^ power
  pub least : (p : ℕ) → 1 ≤ p → n ≤ 4 * 2 ^ p → power ≤ p

module _ {V : Type 0} where
  -- A table of these settings was to have 2^power buckets at least. Answered, the pass was told that it has them. It says whether the call made it grow: if so, it had fewer
  -- when the call held all stripes, and has just so many; if not, the call has made no doubling. Refused for want of memory, it had fewer then, and has fewer still,
  -- as far as the pass was told. In any case the call has made no more doublings than the power that the pass was told rose by.
  pub record Rehashes (set : Settings) (power : ℕ) (result : Result Bool GrowFault) (p p2 : PassState V) : Type 0 where
    pub over_max : (result ≡ Err OverMax) ↔ (set.max < power)
    pub unchanged : result ≡ Err OverMax → p2 ≡ p
    pub told : OnOk result (power ≤ p2.view.told)
    pub grown : result ≡ Ok true → (p2.view.told ≡ power) × (p.view.told < power) × (p.view.doublings < p2.view.doublings)
    pub kept : result ≡ Ok false → p2.view.doublings ≡ p.view.doublings
    pub made : p2.view.doublings ≤ p.view.doublings + (p2.view.told - p.view.told)
    pub short : result ≡ Err Memory → p2.view.told < power
    pub busy : (t : ℕ) → result ≡ Err (Busy t) → IsBusyAmong (IsStripeIn set) set t p p2

  -- the same of the least power with which it has n slots
  abbrev pub Reserves : Settings → ℕ → Result Bool GrowFault → PassState V → PassState V → Type 0
  Reserves set n result p p2 = (power : ℕ) × IsLeastPower n power × Rehashes set power result p p2
