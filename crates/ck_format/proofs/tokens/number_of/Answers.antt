use Rattle.std.proofs.Common.{◌≡◌, ◌≤◌, ◌+◌, ◌-◌, ◌*◌, ◌^◌, length, get_or, sym, subst, ◌∙◌, arith}
use Rattle.std.proofs.lemmas.List.{take_all}
use Rattle.ck_format.proofs.Numbers.{Writes, writes_more, no_digit, too_great, writes_all}
use Rattle.ck_format.proofs.tokens.number_of.Goals as goal

pub returns-then-not-is_ascii_digit : goal.returns-then-not-is_ascii_digit
returns-then-not-is_ascii_digit c =
    sym (no_digit c.args.word.now c.loop-byte.byte-index c.loop-byte-test.true (sym c.if-not-is_ascii_digit.ensures.value))

pub returns-in_err-checked_mul : goal.returns-in_err-checked_mul
returns-in_err-checked_mul c =
    let large : 2 ^ 64 ≤ c.loop-byte.number * 10 = omega (arith, c.in_err-checked_mul.ensures) in
    c.from_residual.ensures
    ∙ sym (too_great c.args.word.now c.loop-byte.byte-index c.loop-byte-test.true c.loop-byte.number c.loop-byte.invariant.0 (sym c.if-not-is_ascii_digit.ensures.value) (omega arith))

pub returns-in_err-number : goal.returns-in_err-number
returns-in_err-number c =
    let large : 2 ^ 64 ≤ c.loop-byte.number * 10 + (get_or c.args.word.now c.loop-byte.byte-index 0 - 48) = omega (arith, c.in_err-number.ensures, c.in_ok-checked_mul.ensures) in
    c.from_residual-in_err-number.ensures
    ∙ sym (too_great c.args.word.now c.loop-byte.byte-index c.loop-byte-test.true c.loop-byte.number c.loop-byte.invariant.0 (sym c.if-not-is_ascii_digit.ensures.value) large)

pub loop-byte-preserved : goal.loop-byte-preserved
loop-byte-preserved c =
    let same : c.loop-byte.number * 10 + (get_or c.args.word.now c.loop-byte.byte-index 0 - 48) ≡ c.in_ok-number.number = omega (arith, c.in_ok-number.ensures, c.in_ok-checked_mul.ensures) in
    (subst (Writes _) same (writes_more c.args.word.now c.loop-byte.byte-index c.loop-byte-test.true c.loop-byte.number c.loop-byte.invariant.0 (sym c.if-not-is_ascii_digit.ensures.value)), omega (arith, c.in_ok-number.ensures, c.in_ok-checked_mul.ensures))

pub returns : goal.returns
returns c =
    let most : length c.args.word.now ≤ c.loop-byte.byte-index = omega arith in
    let all : Writes c.args.word.now c.loop-byte.number = subst (λ w. Writes w c.loop-byte.number) (take_all c.loop-byte.byte-index c.args.word.now most) c.loop-byte.invariant.0 in
    sym (writes_all c.args.word.now c.loop-byte.number (sym c.if-not-is_begun.ensures) all (omega arith))
