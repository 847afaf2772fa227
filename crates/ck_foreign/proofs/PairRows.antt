-- The laws of what places of lists lead to, and that it may go to another thread.
use denote.Param.Laws.{Laws}
use denote.Param.Send.{IsSend}
use Rattle.ck_foreign.specs.contracts.keys.NumberKey as number
use Rattle.ck_foreign.specs.contracts.keys.BytesKey as bytes
use Rattle.ck_foreign.proofs.keys.NumberKey.TheLaws as number_laws
use Rattle.ck_foreign.proofs.keys.BytesKey.TheLaws as bytes_laws
use Rattle.ck_foreign.proofs.keys.NumberKey.TheSendSync as number_send
use Rattle.ck_foreign.proofs.keys.BytesKey.TheSendSync as bytes_send
use Rattle.ck_foreign.proofs.pairs.Pairs.TheLaws as pairs_laws
use Rattle.ck_foreign.proofs.pairs.Pairs.TheSendSync as pairs_send
use Rattle.ck_foreign.specs.PairRows.{number_pairs_row, text_pairs_row}

pub number_pairs_laws : Laws number_pairs_row
number_pairs_laws = pairs_laws.the_row_laws number.the_row number_laws.the_row_laws

pub text_pairs_laws : Laws text_pairs_row
text_pairs_laws = pairs_laws.the_row_laws bytes.the_row bytes_laws.the_row_laws

pub number_pairs_send : IsSend number_pairs_row
number_pairs_send = pairs_send.the_send number.the_row number_send.the_send

pub text_pairs_send : IsSend text_pairs_row
text_pairs_send = pairs_send.the_send bytes.the_row bytes_send.the_send
