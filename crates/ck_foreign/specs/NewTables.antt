-- What an opening leaves.
use Rattle.std.specs.Prelude.{◌≡◌, ◌≢◌, ◌⊎◌, ℕ, ◌*◌, ◌^◌, ◌-◌, ◌<◌, ◌≤◌, min, List, map, Some}
use Rattle.std.specs.declared.option.Option.{Option}
use Rattle.ck_model.specs.declared.settings.Settings.{Settings}
use Rattle.ck_model.specs.Counting.{counting}
use Rattle.ck_words.specs.Words.{WordsState}
use Rattle.ck_words.specs.Closing.{dealt}
use Rattle.cuckoo_map.specs.Callers.{CallerState, callers_of}
use Rattle.ck_foreign.specs.declared.settings.CuckooSettings.{CuckooSettings}
use Rattle.ck_foreign.specs.Openings.{TellsOpening}
use Rattle.ck_foreign.specs.declared.code.Code.{Code}
use Rattle.ck_foreign.specs.declared.code.Code.TheVariants as codes

abbrev pub settings_of : CuckooSettings → Settings
settings_of c = record { s = c.s; power = c.power; max = c.max; callers = c.callers; turns = c.turns; rounds = c.rounds; min_load = c.min_load }

-- The settings for about so many keys. The table opens with the fewest buckets, two at least, of whose slots they take three quarters at most, or with 2^26, and grows up to these. It has as many stripes as buckets, or 1,024.
pub record IsFor (keys : ℕ) (set : Settings) : Type 0 where
  pub room : (set.power ≡ 26) ⊎ (keys ≤ 3 * 2 ^ set.power)
  pub least : (set.power ≡ 1) ⊎ (3 * 2 ^ (set.power - 1) < keys)
  pub grows : set.max ≡ 26
  pub stripes : set.s ≡ min set.power 10
  pub tries : (set.rounds ≡ 4) × (set.min_load ≡ 5)

-- the places hold the callers of a new table with these settings, in their order
abbrev pub HoldsNewTable : Settings → List (Option (CallerState ℕ)) → Type 0
HoldsNewTable set now = (w : WordsState) × (w.settings ≡ set) × (now ≡ map Some (callers_of w (dealt w.table set (counting 0 set.callers))))

-- With such settings a new table was opened in so many places, if they were closed, or it was refused, and the places hold what they held; the code says which and why.
abbrev pub Opens : (Settings → Type 0) → ℕ → Type 0 → List (Option (CallerState ℕ)) → List (Option (CallerState ℕ)) → Code → Type 0
Opens P count closed was now code =
    (set : Settings) × P set × (code ≡ codes.Done → HoldsNewTable set now) × (code ≢ codes.Done → now ≡ was) × TellsOpening set count closed code
