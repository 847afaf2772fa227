-- Which call a commit names.
use Rattle.ck_model.specs.declared.history.Act.TheVariants as act
use Rattle.ck_model.specs.declared.history.Call as calls
use Rattle.ck_model.specs.declared.history.Call.TheVariants.{On}
use Rattle.ck_model.specs.Promise.{Name}
use Rattle.ck_model.specs.declared.commit.Commit.{Commit}
use Rattle.ck_model.specs.declared.commit.Commit.TheVariants.{Find, Insert, Assign, Update, Change, Upsert, Erase, ChangeTwo, Len}

module _ {K V : Type 0} (name : K → Name) where
  -- the call of the plain map, on the names of the keys
  abbrev pub call_of : Commit K V → calls.Call V
  call_of (Find k) = On (name k.value) act.Find
  call_of (Insert k v) = On (name k.value) (act.Insert v.value)
  call_of (Assign k v) = On (name k.value) (act.Assign v.value)
  call_of (Update k v) = On (name k.value) (act.Update v.value)
  call_of (Change k) = On (name k.value) act.Change
  call_of (Upsert k v) = On (name k.value) (act.Upsert v.value)
  call_of (Erase k) = On (name k.value) act.Erase
  call_of (ChangeTwo a b) = calls.TheVariants.ChangeTwo (name a.value) (name b.value)
  call_of Len = calls.TheVariants.Len
