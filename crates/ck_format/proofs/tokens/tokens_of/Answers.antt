use Rattle.ck_format.specs.Tokens.{is_space, tokens}
use Rattle.ck_format.proofs.Cuts.{five, some_part}
use Rattle.ck_format.proofs.tokens.tokens_of.Goals as goal

pub returns : goal.returns
returns c =
    let first = rw c.in-Some.is at c.cut.ensures in
    let second = rw c.in-Some-rest.is at c.cut-2.ensures in
    let third = rw c.in-Some-rest-2.is at c.cut-3.ensures in
    let fourth = rw c.in-Some-rest-3.is at c.cut-4.ensures in
    five (tokens c.args.line.now) (tokens c.in-Some.rest.now) (tokens c.in-Some-rest.rest.now) (tokens c.in-Some-rest-2.rest.now) (tokens c.in-Some-rest-3.field-0.now) _ _ _ _ first second third fourth
    (some_part is_space c.in-Some-rest-3.field-0.now)
