-- What places of locked tables lead to, by its row.
use denote.RattleType.{RattleType}
use Rattle.ck_foreign.specs.contracts.keys.NumberKey as number
use Rattle.ck_foreign.specs.contracts.keys.NumberKeyTableKey.TheImpl.{ghosts as number_key}
use Rattle.ck_foreign.specs.contracts.keys.NumberKeyOrd.TheImpl.{ghosts as number_ord}
use Rattle.ck_foreign.specs.contracts.keys.NumberKeyEq.TheImpl.{ghosts as number_eq}
use Rattle.ck_foreign.specs.contracts.keys.NumberKeyPartialEq.TheImpl.{ghosts as number_partial_eq}
use Rattle.ck_foreign.specs.contracts.keys.NumberKeyPartialOrd.TheImpl.{ghosts as number_partial_ord}
use Rattle.ck_foreign.specs.contracts.keys.BytesKey as bytes
use Rattle.ck_foreign.specs.contracts.keys.BytesKeyTableKey.TheImpl.{ghosts as bytes_key}
use Rattle.ck_foreign.specs.contracts.keys.BytesKeyOrd.TheImpl.{ghosts as bytes_ord}
use Rattle.ck_foreign.specs.contracts.keys.BytesKeyEq.TheImpl.{ghosts as bytes_eq}
use Rattle.ck_foreign.specs.contracts.keys.BytesKeyPartialEq.TheImpl.{ghosts as bytes_partial_eq}
use Rattle.ck_foreign.specs.contracts.keys.BytesKeyPartialOrd.TheImpl.{ghosts as bytes_partial_ord}
use Rattle.ck_foreign.specs.contracts.locked.Session as session

-- a locked table whose keys are numbers
abbrev pub number_session_row : RattleType
number_session_row = session.the_row number.the_row number_key number_ord number_eq number_partial_eq number_partial_ord

-- a locked table whose keys are texts
abbrev pub text_session_row : RattleType
text_session_row = session.the_row bytes.the_row bytes_key bytes_ord bytes_eq bytes_partial_eq bytes_partial_ord
