-- The one fault that each refusal is, and why an insertion is refused.
use Rattle.ck_model.specs.declared.lack.Lack.{Lack}
use Rattle.ck_model.specs.declared.lack.Lack.TheVariants as lacks
use Rattle.ck_refusal.specs.declared.fault.Fault.{Fault}
use Rattle.ck_refusal.specs.declared.fault.Fault.TheVariants as faults
use Rattle.ck_refusal.specs.declared.refusal.OpenFault.{OpenFault}
use Rattle.ck_refusal.specs.declared.refusal.OpenFault.TheVariants as opens
use Rattle.ck_refusal.specs.declared.refusal.GrowFault.{GrowFault}
use Rattle.ck_refusal.specs.declared.refusal.GrowFault.TheVariants as grows
use Rattle.ck_refusal.specs.declared.refusal.DrainFault.{DrainFault}
use Rattle.ck_refusal.specs.declared.refusal.DrainFault.TheVariants as drains
use Rattle.ck_refusal.specs.declared.refusal.KeysRefused.{KeysRefused}
use Rattle.ck_refusal.specs.declared.refusal.KeysRefused.TheVariants as several
use Rattle.ck_refusal.specs.declared.refusal.RoomFault.{RoomFault}
use Rattle.ck_refusal.specs.declared.refusal.RoomFault.TheVariants as rooms
use Rattle.ck_refusal.specs.declared.refusal.Why.{Why}
use Rattle.ck_refusal.specs.declared.refusal.Why.TheVariants as whys
use Rattle.ck_key.specs.declared.text_key.KeyFault.{KeyFault}
use Rattle.ck_key.specs.declared.text_key.KeyFault.TheVariants as keys

-- why a key is refused where the table lacks this to make room for it
abbrev pub why_of : Lack → Why
why_of lacks.Memory = whys.Memory
why_of lacks.Full = whys.Full
why_of lacks.LoadTooLow = whys.LoadTooLow

-- of an opening
abbrev pub fault_of_open : OpenFault → Fault
fault_of_open (opens.Settings which) = faults.Settings which
fault_of_open opens.Memory = faults.Memory

-- of a call on several keys
abbrev pub fault_of_keys : KeysRefused → Fault
fault_of_keys (several.Busy t) = faults.Busy t
fault_of_keys (several.Twice i) = faults.Twice i

-- of an insertion
abbrev pub fault_of_why : Why → Fault
fault_of_why (whys.Busy t) = faults.Busy t
fault_of_why whys.Memory = faults.Memory
fault_of_why whys.Full = faults.Full
fault_of_why whys.LoadTooLow = faults.LoadTooLow

-- of a call on several keys that makes room
abbrev pub fault_of_room : RoomFault → Fault
fault_of_room (rooms.Keys why) = fault_of_keys why
fault_of_room (rooms.Room why) = fault_of_why why

-- of a growth
abbrev pub fault_of_growth : GrowFault → Fault
fault_of_growth (grows.Busy t) = faults.Busy t
fault_of_growth grows.Memory = faults.Memory
fault_of_growth grows.OverMax = faults.OverMax

-- of a drain
abbrev pub fault_of_drain : DrainFault → Fault
fault_of_drain (drains.Busy t) = faults.Busy t
fault_of_drain drains.Memory = faults.Memory

-- of a text that was to be a key
abbrev pub fault_of_key : KeyFault → Fault
fault_of_key keys.TooLong = faults.TooLong
fault_of_key keys.Memory = faults.Memory
