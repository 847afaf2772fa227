-- What handles lead to, by its row.
use denote.RattleType.{RattleType}
use denote.Builtin.{u64}
use Rattle.std.specs.contracts.alloc.Global as heap
use Rattle.std.specs.contracts.impls.GlobalAllocator.TheImpl.{ghosts}
use Rattle.std.specs.declared.cmp.Ord.{Ghosts as Ords}
use Rattle.std.specs.declared.cmp.Eq.{Ghosts as Eqs}
use Rattle.std.specs.declared.cmp.PartialEq.{Ghosts as PartialEqs}
use Rattle.std.specs.declared.cmp.PartialOrd.{Ghosts as PartialOrds}
use Rattle.std_alloc.specs.contracts.arc.Arc as arc
use Rattle.ck_key.specs.declared.key.TableKey.{Ghosts as Keys}
use Rattle.ck_foreign.specs.contracts.keys.NumberKey as number
use Rattle.ck_foreign.specs.contracts.keys.NumberKeyTableKey.TheImpl.{ghosts as number_key}
use Rattle.ck_foreign.specs.contracts.keys.NumberKeyOrd.TheImpl.{ghosts as number_ord}
use Rattle.ck_foreign.specs.contracts.keys.NumberKeyEq.TheImpl.{ghosts as number_eq}
use Rattle.ck_foreign.specs.contracts.keys.NumberKeyPartialEq.TheImpl.{ghosts as number_partial_eq}
use Rattle.ck_foreign.specs.contracts.keys.NumberKeyPartialOrd.TheImpl.{ghosts as number_partial_ord}
use Rattle.ck_foreign.specs.contracts.keys.BytesKey as bytes
use Rattle.ck_foreign.specs.contracts.keys.BytesKeyTableKey.TheImpl.{ghosts as bytes_key}
use Rattle.ck_foreign.specs.contracts.keys.BytesKeyOrd.TheImpl.{ghosts as bytes_ord}
use Rattle.ck_foreign.specs.contracts.keys.BytesKeyEq.TheImpl.{ghosts as bytes_eq}
use Rattle.ck_foreign.specs.contracts.keys.BytesKeyPartialEq.TheImpl.{ghosts as bytes_partial_eq}
use Rattle.ck_foreign.specs.contracts.keys.BytesKeyPartialOrd.TheImpl.{ghosts as bytes_partial_ord}
use Rattle.cuckoo_map.specs.contracts.caller.CallerOn as caller
use Rattle.cuckoo_map.specs.contracts.table.Table as table
use Rattle.cuckoo_map.specs.contracts.table_ref.ArcTableGlobalTableRef.TheImpl as shared

module _ (key : RattleType) (k : Keys key.Denot) (o : Ords key.Denot) (e : Eqs key.Denot) (pe : PartialEqs key.Denot) (po : PartialOrds key.Denot) where
  -- a share of a table of such keys
  abbrev pub share_row : RattleType
  share_row = arc.the_row (table.the_row key u64 k o e pe po) heap.the_row ghosts

  -- a handle of it
  abbrev pub handle_row : RattleType
  handle_row = caller.the_row share_row key u64 (shared.ghosts key u64 k shared.no_dict o shared.no_dict e shared.no_dict pe shared.no_dict po shared.no_dict) k o pe po

abbrev pub number_row : RattleType
number_row = handle_row number.the_row number_key number_ord number_eq number_partial_eq number_partial_ord

abbrev pub text_row : RattleType
text_row = handle_row bytes.the_row bytes_key bytes_ord bytes_eq bytes_partial_eq bytes_partial_ord
