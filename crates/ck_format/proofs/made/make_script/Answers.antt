use Rattle.std.proofs.Common.{◌++◌, ◌∙◌, sym, ap}
use Rattle.std.proofs.lemmas.List.{append-nil}
use Rattle.ck_format.specs.Lines.{with_feed}
use Rattle.ck_format.specs.Made.{block_text, made_block, made_header}
use Rattle.ck_format.proofs.Making.{behind_block, new_generator, next_block, one_more}
use Rattle.ck_format.proofs.made.make_script.Goals as goal

pub loop-init : goal.loop-init
loop-init c = record {
  generator = new_generator c.args.seed c.args.lines c.new-generator.result c.new-generator.ensures;
  text = c.in_ok-extend_from_slice.ensures.items ∙ ap (λ line. c.args.out.now.items ++ line) c.header.ensures ∙ sym (append-nil _);
}

pub loop-preserved : goal.loop-preserved
loop-preserved c = record {
  generator = behind_block c.args.seed c.args.lines c.loop.counter c.loop.generator c.add_block.new.generator c.loop.invariant.generator c.in_ok-add_block.ensures.generator;
  text = one_more (made_block c.args.seed c.args.lines) c.loop.counter (c.args.out.now.items ++ with_feed (made_header c.args.workers))
      c.loop.out.items c.add_block.new.out.items (block_text c.loop.generator c.args.lines) c.loop.invariant.text c.in_ok-add_block.ensures.ok
      (next_block c.args.seed c.args.lines c.loop.counter c.loop.generator c.loop.invariant.generator);
}
