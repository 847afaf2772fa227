-- What contracts see of the words.
use Rattle.std.specs.Prelude.{◌≡◌, ◌*◌, ◌^◌}
use Rattle.atomic_table.specs.Seated.{TableId}
use Rattle.ck_model.specs.declared.settings.Settings.{Settings}
use Rattle.ck_model.specs.Ranges.{AreInRange}

-- which table it is, and what it was opened with
pub record WordsState : Type 0 where
  pub table : TableId
  pub settings : Settings

-- a table with eight words and one slot for each stripe
pub record IsLaidOut (table : TableId) (key set : Settings) : Type 0 where
  pub key_is : key ≡ set
  pub words : table.words ≡ 2 ^ set.s * 8
  pub slots : table.slots ≡ 2 ^ set.s
  pub range : AreInRange set
