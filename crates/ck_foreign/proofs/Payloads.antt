-- The laws of what handles lead to, and that it may go to another thread.
use Rattle.std.proofs.Common.{refl}
use denote.RattleType.{RattleType}
use denote.Builtin.{u64}
use denote.Param.Laws.{Laws, of_field}
use denote.Param.Send.{IsSend, sendable}
use denote.Param.Shared.{copy_shared}
use denote.Struct.Field.{u64-field}
use denote.Struct.Laws.{u64-laws, u64-copy}
use Rattle.std.specs.contracts.alloc.Global as heap
use Rattle.std.proofs.alloc.Global.TheLaws as heap_laws
use Rattle.std.specs.contracts.impls.GlobalAllocator.TheImpl.{ghosts}
use Rattle.std.specs.declared.cmp.Ord.{Ghosts as Ords}
use Rattle.std.specs.declared.cmp.Eq.{Ghosts as Eqs}
use Rattle.std.specs.declared.cmp.PartialEq.{Ghosts as PartialEqs}
use Rattle.std.specs.declared.cmp.PartialOrd.{Ghosts as PartialOrds}
use Rattle.std.proofs.Crossing.{Arc-send}
use Rattle.std_alloc.proofs.arc.Arc.TheLaws as arc_laws
use Rattle.ck_key.specs.declared.key.TableKey.{Ghosts as Keys}
use Rattle.ck_foreign.specs.contracts.keys.NumberKey as number
use Rattle.ck_foreign.proofs.keys.NumberKey.TheLaws as number_laws
use Rattle.ck_foreign.proofs.keys.NumberKey.TheSendSync as number_send
use Rattle.ck_foreign.specs.contracts.keys.NumberKeyTableKey.TheImpl.{ghosts as number_key}
use Rattle.ck_foreign.specs.contracts.keys.NumberKeyOrd.TheImpl.{ghosts as number_ord}
use Rattle.ck_foreign.specs.contracts.keys.NumberKeyEq.TheImpl.{ghosts as number_eq}
use Rattle.ck_foreign.specs.contracts.keys.NumberKeyPartialEq.TheImpl.{ghosts as number_partial_eq}
use Rattle.ck_foreign.specs.contracts.keys.NumberKeyPartialOrd.TheImpl.{ghosts as number_partial_ord}
use Rattle.ck_foreign.specs.contracts.keys.BytesKey as bytes
use Rattle.ck_foreign.proofs.keys.BytesKey.TheLaws as bytes_laws
use Rattle.ck_foreign.proofs.keys.BytesKey.TheSendSync as bytes_send
use Rattle.ck_foreign.specs.contracts.keys.BytesKeyTableKey.TheImpl.{ghosts as bytes_key}
use Rattle.ck_foreign.specs.contracts.keys.BytesKeyOrd.TheImpl.{ghosts as bytes_ord}
use Rattle.ck_foreign.specs.contracts.keys.BytesKeyEq.TheImpl.{ghosts as bytes_eq}
use Rattle.ck_foreign.specs.contracts.keys.BytesKeyPartialEq.TheImpl.{ghosts as bytes_partial_eq}
use Rattle.ck_foreign.specs.contracts.keys.BytesKeyPartialOrd.TheImpl.{ghosts as bytes_partial_ord}
use Rattle.cuckoo_map.proofs.caller.CallerOn.TheLaws as caller_laws
use Rattle.cuckoo_map.proofs.caller.CallerOn.TheSendSync as caller_send
use Rattle.cuckoo_map.specs.contracts.table.Table as table
use Rattle.cuckoo_map.proofs.table.Table.TheLaws as table_laws
use Rattle.cuckoo_map.proofs.table.Table.TheSendSync as table_send
use Rattle.cuckoo_map.specs.contracts.table_ref.ArcTableGlobalTableRef.TheImpl as shared
use Rattle.ck_foreign.specs.Payloads.{share_row, handle_row, number_row, text_row}

value_laws : Laws u64
value_laws = of_field u64-field u64-laws refl (copy_shared u64-field u64-copy)

module _ (key : RattleType) (k : Keys key.Denot) (o : Ords key.Denot) (e : Eqs key.Denot) (pe : PartialEqs key.Denot) (po : PartialOrds key.Denot) where
  handle_laws : Laws key → Laws (handle_row key k o e pe po)
  handle_laws l =
      caller_laws.the_row_laws (share_row key k o e pe po) key u64 (shared.ghosts key u64 k shared.no_dict o shared.no_dict e shared.no_dict pe shared.no_dict po shared.no_dict) k o pe po
      (arc_laws.the_row_laws (table.the_row key u64 k o e pe po) heap.the_row ghosts (table_laws.the_row_laws key u64 k o e pe po l value_laws) heap_laws.the_row_laws) l value_laws

  handle_send : IsSend key → IsSend (handle_row key k o e pe po)
  handle_send s =
      caller_send.the_send (share_row key k o e pe po) key u64 (shared.ghosts key u64 k shared.no_dict o shared.no_dict e shared.no_dict pe shared.no_dict po shared.no_dict) k o pe po
      (Arc-send (table.the_row key u64 k o e pe po) (table_send.the_send key u64 k o e pe po s (search sendable)) (table_send.the_sync key u64 k o e pe po s (search sendable))) s (search sendable)

pub number_row_laws : Laws number_row
number_row_laws = handle_laws number.the_row number_key number_ord number_eq number_partial_eq number_partial_ord number_laws.the_row_laws

pub number_row_send : IsSend number_row
number_row_send = handle_send number.the_row number_key number_ord number_eq number_partial_eq number_partial_ord number_send.the_send

pub text_row_laws : Laws text_row
text_row_laws = handle_laws bytes.the_row bytes_key bytes_ord bytes_eq bytes_partial_eq bytes_partial_ord bytes_laws.the_row_laws

pub text_row_send : IsSend text_row
text_row_send = handle_send bytes.the_row bytes_key bytes_ord bytes_eq bytes_partial_eq bytes_partial_ord bytes_send.the_send
