use Rattle.std.proofs.Common.{◌≡◌, ◌++◌, ◌∙◌, List, ℕ, OnOk, subst}
use Rattle.ck_format.specs.Lines.{with_feed}
use Rattle.ck_format.specs.Made.{add_text, nth_line}
use Rattle.ck_format.proofs.Making.{behind_two_words, line_of_two_words}
use Rattle.ck_format.proofs.made.add_next_line.Goals as goal

pub returns-clause-generator : goal.returns-clause-generator
returns-clause-generator c =
    behind_two_words c.next_word-key.result c.next_word-number.result c.args.generator.now c.next_word-key.new.self c.next_word-number.new.self
    c.next_word-key.ensures c.next_word-number.ensures

pub returns-clause-ok : goal.returns-clause-ok
returns-clause-ok c =
    let spelled : add_text c.from.result c.from-2.result ≡ nth_line c.args.generator.now 0 =
    (λ j. add_text (c.from.ensures j) (c.from-2.ensures j))
    ∙ line_of_two_words c.next_word-key.result c.next_word-number.result c.args.generator.now c.next_word-key.new.self c.next_word-number.new.self
    c.next_word-key.ensures c.next_word-number.ensures in
    subst (λ (line : List ℕ). OnOk c.add_line.result (c.add_line.new.out.items ≡ c.args.out.now.items ++ with_feed line)) spelled c.add_line.ensures.ok
