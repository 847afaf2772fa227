-- What an insertion leaves of its pass while it makes room for its key.
use Rattle.std.specs.Prelude.{◌≡◌, ℕ, ◌^◌, ◌<◌, List, [], ◌++◌, Result, IfErr}
use Rattle.ck_model.specs.declared.settings.Settings.{Settings}
use Rattle.ck_model.specs.Promise.{Name}
use Rattle.ck_core.specs.declared.view.RoomNote.{RoomNote}
use Rattle.ck_core.specs.State.{found_held}
use Rattle.ck_words.specs.Words.{WordsState}
use Rattle.ck_words.specs.Passes.{PassState, IsPassOf, IsIdle}
use Rattle.ck_words.specs.Retries.{StaysBut}
use Rattle.ck_refusal.specs.declared.refusal.Busy.{Busy}
use Rattle.cuckoo_map.specs.Refusals.{FindsOwn, IsBusyAmong}
use Rattle.cuckoo_map.specs.Insertions.{HasFoundNoRoom}

module _ {V : Type 0} where
  -- the pass may have found any stripe held
  abbrev pub FindsAny : PassState V → PassState V → Type 0
  FindsAny p p2 = (more : List ℕ) × (found_held p2.view ≡ more ++ found_held p.view)

  -- The pass holds no stripe and has no entry more. It may have found any stripe held.
  -- It has noted more that names found no room.
  pub record IsBackBut (w : WordsState) (more : List (RoomNote V)) (p p2 : PassState V) : Type 0 where
    pub own : IsPassOf w p2
    pub idle : IsIdle p2
    pub stays : StaysBut more p.view p2.view
    pub found : FindsAny p p2

  -- and it has noted so of none more
  abbrev pub IsBack : WordsState → PassState V → PassState V → Type 0
  IsBack w = IsBackBut w []

  -- its last tries all found this stripe of the table held
  abbrev pub IsBusyAnywhere : Settings → ℕ → PassState V → PassState V → Type 0
  IsBusyAnywhere set t p p2 = IsBusyAmong (λ u. u < 2 ^ set.s) set t p p2

  -- What came of a part of it: the pass is back, and where it was refused, it found a stripe busy.
  pub record EndsBack {A : Type 0} (w : WordsState) (result : Result A Busy) (p p2 : PassState V) : Type 0 where
    pub back : IsBack w p p2
    pub busy : IfErr result (λ busy. IsBusyAnywhere w.settings busy.0 p p2)

  -- It is so since each p after which no stripe was found held but those of the name, and it was noted that the name's buckets were full.
  abbrev pub SinceFull : (Name → ℕ) → Settings → Name → PassState V → (PassState V → Type 0) → Type 0
  SinceFull hash set q p1 P = (p : PassState V) → HasFoundNoRoom q p p1 → FindsOwn hash set q p p1 → P p
