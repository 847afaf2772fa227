use Rattle.std.proofs.Common.{◌++◌, ◌∙◌, sym, ap}
use Rattle.std.specs.Prelude.{codes}
use Rattle.std.proofs.lemmas.List.{append-nil}
use Rattle.ck_format.specs.Lines.{with_feed}
use Rattle.ck_format.specs.Made.{after_lines, nth_line}
use Rattle.ck_format.proofs.Making.{after_lines-add, after_no_lines, next_line, one_more}
use Rattle.ck_format.proofs.made.add_block.Goals as goal

pub loop-init : goal.loop-init
loop-init c = record {
  generator = sym (after_no_lines c.args.generator.now);
  text = c.in_ok-extend_from_slice.ensures.items ∙ sym (append-nil _);
}

pub loop-preserved : goal.loop-preserved
loop-preserved c = record {
  generator = c.add_next_line.ensures.generator ∙ ap (after_lines 1) c.loop.invariant.generator ∙ after_lines-add c.loop.counter 1 c.args.generator.now;
  text = one_more (λ j. with_feed (nth_line c.args.generator.now j)) c.loop.counter (c.args.out.now.items ++ with_feed (codes "worker"))
      c.loop.out.items c.add_next_line.new.out.items (with_feed (nth_line c.loop.generator 0)) c.loop.invariant.text c.in_ok-add_next_line.ensures.ok
      (ap with_feed (next_line c.loop.counter c.loop.generator c.args.generator.now c.loop.invariant.generator));
}
