-- What places of lists lead to, by its row.
use denote.RattleType.{RattleType}
use Rattle.ck_foreign.specs.contracts.keys.NumberKey as number
use Rattle.ck_foreign.specs.contracts.keys.BytesKey as bytes
use Rattle.ck_foreign.specs.contracts.pairs.Pairs as pairs

-- pairs whose keys are numbers
abbrev pub number_pairs_row : RattleType
number_pairs_row = pairs.the_row number.the_row

-- pairs whose keys are texts
abbrev pub text_pairs_row : RattleType
text_pairs_row = pairs.the_row bytes.the_row
