use Rattle.std.proofs.Common.{◌≡◌, ◌<◌, ◌∙◌, List, ap, length, sym, subst}
use Rattle.ck_stripe.specs.Stripe.{StripeState}
use Rattle.ck_section.proofs.Table.{count_reserved, reserved_at, settled_reserved, are_reserved, doubles, table_doubled, grows}
use Rattle.ck_section.proofs.Tables.{mask}
use Rattle.ck_section.proofs.double.double_all.Goals as goal

pub raise_all-requires : goal.raise_all-requires
raise_all-requires g c =
    let old : List (StripeState g.row.V.Denot) = g.H.Held.stripes c.args.held.now in
    let was = c.in_ok-reserve_all.ensures.reserved in
    let long : length (g.H.Held.stripes c.reserve_all.new.held) ≡ length old = count_reserved old _ was in
    let count = long ∙ c.requires.table.count ∙ sym (mask c.args.s c.requires.table.many) in
    record {
      count = count;
      settled = settled_reserved old _ was c.requires.settled;
      reserved = are_reserved old _ was;
      below = λ i lt.
          let inside = subst (λ n. i < n) (sym count) lt in
          let power = ap (λ (t : StripeState g.row.V.Denot). t.content.power) (reserved_at old _ was i inside) ∙ c.requires.table.one_power i (subst (λ n. i < n) long inside) in
          subst (λ n. n < 26) (sym power) c.requires.below;
    }

pub returns-clause-doubled : goal.returns-clause-doubled
returns-clause-doubled g c = doubles g.K.TableKey.hash c.args.s _ _ _ c.in_ok-reserve_all.ensures.reserved c.raise_all.ensures.doubled

pub returns-clause-table : goal.returns-clause-table
returns-clause-table g c = table_doubled g.K.TableKey.hash c.args.s _ _ _ c.in_ok-reserve_all.ensures.reserved c.raise_all.ensures.doubled c.requires.table c.requires.below

pub returns-clause-grown : goal.returns-clause-grown
returns-clause-grown g c = grows g.K.TableKey.hash c.args.s _ _ _ c.in_ok-reserve_all.ensures.reserved c.raise_all.ensures.doubled c.requires.table
