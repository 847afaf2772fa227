-- The laws of what places of locked tables lead to, and that it may go to another thread.
use denote.Param.Laws.{Laws}
use denote.Param.Send.{IsSend}
use Rattle.ck_foreign.specs.contracts.keys.NumberKey as number
use Rattle.ck_foreign.proofs.keys.NumberKey.TheLaws as number_laws
use Rattle.ck_foreign.proofs.keys.NumberKey.TheSendSync as number_send
use Rattle.ck_foreign.specs.contracts.keys.NumberKeyTableKey.TheImpl.{ghosts as number_key}
use Rattle.ck_foreign.specs.contracts.keys.NumberKeyOrd.TheImpl.{ghosts as number_ord}
use Rattle.ck_foreign.specs.contracts.keys.NumberKeyEq.TheImpl.{ghosts as number_eq}
use Rattle.ck_foreign.specs.contracts.keys.NumberKeyPartialEq.TheImpl.{ghosts as number_partial_eq}
use Rattle.ck_foreign.specs.contracts.keys.NumberKeyPartialOrd.TheImpl.{ghosts as number_partial_ord}
use Rattle.ck_foreign.specs.contracts.keys.BytesKey as bytes
use Rattle.ck_foreign.proofs.keys.BytesKey.TheLaws as bytes_laws
use Rattle.ck_foreign.proofs.keys.BytesKey.TheSendSync as bytes_send
use Rattle.ck_foreign.specs.contracts.keys.BytesKeyTableKey.TheImpl.{ghosts as bytes_key}
use Rattle.ck_foreign.specs.contracts.keys.BytesKeyOrd.TheImpl.{ghosts as bytes_ord}
use Rattle.ck_foreign.specs.contracts.keys.BytesKeyEq.TheImpl.{ghosts as bytes_eq}
use Rattle.ck_foreign.specs.contracts.keys.BytesKeyPartialEq.TheImpl.{ghosts as bytes_partial_eq}
use Rattle.ck_foreign.specs.contracts.keys.BytesKeyPartialOrd.TheImpl.{ghosts as bytes_partial_ord}
use Rattle.ck_foreign.proofs.locked.Session.TheLaws as session_laws
use Rattle.ck_foreign.proofs.locked.Session.TheSendSync as session_send
use Rattle.ck_foreign.specs.SessionRows.{number_session_row, text_session_row}

pub number_session_laws : Laws number_session_row
number_session_laws = session_laws.the_row_laws number.the_row number_key number_ord number_eq number_partial_eq number_partial_ord number_laws.the_row_laws

pub text_session_laws : Laws text_session_row
text_session_laws = session_laws.the_row_laws bytes.the_row bytes_key bytes_ord bytes_eq bytes_partial_eq bytes_partial_ord bytes_laws.the_row_laws

pub number_session_send : IsSend number_session_row
number_session_send = session_send.the_send number.the_row number_key number_ord number_eq number_partial_eq number_partial_ord number_send.the_send

pub text_session_send : IsSend text_session_row
text_session_send = session_send.the_send bytes.the_row bytes_key bytes_ord bytes_eq bytes_partial_eq bytes_partial_ord bytes_send.the_send
