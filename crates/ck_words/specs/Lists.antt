-- What a list in reserved room holds once a `&mut` into it has ended.
use Rattle.std.specs.Prelude.{List}
use Rattle.std.specs.Borrow.{Fml, RattleType, MutBor, Lends, Array}
use Rattle.std.specs.Vec.{with_items}
use Rattle.ck_words.specs.declared.reserved_list.ReservedList.{ReservedList}
use Rattle.ck_words.specs.contracts.reserved_list.ReservedList.{the_row}

-- the same list, with these values in it
abbrev pub holding : {X : Type 0} → ReservedList X → List X → ReservedList X
holding it xs = record it { list = with_items it.list xs }

abbrev pub LendsItems : (R : RattleType) → MutBor (ReservedList R.Denot) → MutBor (List R.Denot) → Fml
LendsItems R it r = Lends (the_row R) (Array R 0) it r (holding it.now)
