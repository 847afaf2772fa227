use Rattle.std.proofs.Common.{◌≡◌, ◌++◌}
use Rattle.std.specs.Prelude.{codes, flat_map}
use Rattle.ck_model.specs.Counting.{counting}
use Rattle.ck_format.specs.Lines.{with_feed}
use Rattle.ck_format.specs.Made.{after_lines, nth_line}
use Rattle.ck_format.proofs.made.add_block.Given as goal

abbrev pub invariant-loop : goal.invariant-loop
invariant-loop l = record {
  generator : l.generator ≡ after_lines l.counter l.fn.generator;
  text : l.out.items ≡ l.fn.out.items ++ with_feed (codes "worker") ++ flat_map (λ j. with_feed (nth_line l.fn.generator j)) (counting 0 l.counter);
}
