use Rattle.std.proofs.Common.{◌≡◌, ◌*◌, ◌++◌}
use Rattle.std.specs.Prelude.{flat_map}
use Rattle.ck_model.specs.Counting.{counting}
use Rattle.ck_format.specs.Lines.{with_feed}
use Rattle.ck_format.specs.Made.{after_lines, generator_of, made_block, made_header}
use Rattle.ck_format.proofs.made.make_script.Given as goal

abbrev pub invariant-loop : goal.invariant-loop
invariant-loop l = record {
  generator : l.generator ≡ after_lines (l.counter * l.lines) (generator_of l.seed);
  text : l.out.items ≡ l.fn.out.items ++ with_feed (made_header l.workers) ++ flat_map (made_block l.seed l.lines) (counting 0 l.counter);
}
