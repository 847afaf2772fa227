use Rattle.std.proofs.Common.{◌∙◌}
use Rattle.ck_words.specs.StripeNumbers.{own_numbers}
use Rattle.ck_words.specs.StripeSets.{list_of}
use Rattle.cuckoo_map.proofs.Calls.{s_of}
use Rattle.cuckoo_map.proofs.Sets.{of_name}
use Rattle.cuckoo_map.proofs.table.Table.stripes_of_key.Goals as goal

pub returns : goal.returns
returns g c =
    let same = s_of c.self.view_is c.settings.ensures.value in
    record {
      s = c.of_key-stripes.ensures.s ∙ same;
      hashed = c.of-hash.ensures;
      list = c.of_key-stripes.ensures.list ∙ λ j. own_numbers (same j) (c.of-hash.ensures.value j);
      exact = of_name c.args.self.now.settings (list_of c.of_key-stripes.result) same c.of-hash.ensures c.of_key-stripes.ensures.exact;
    }
