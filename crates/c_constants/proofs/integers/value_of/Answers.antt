use Rattle.std.proofs.Common.{◌*◌, ◌+◌, drop, arith, sym, ◌∙◌, ap}
use Rattle.c_lexer.specs.Number as number
use Rattle.c_lexer.proofs.Numbers.{value_grows, value_at}
use Rattle.c_constants.proofs.integers.value_of.Goals as goal

pub returns-then-next-clause-none : goal.returns-then-next-clause-none
returns-then-next-clause-none c =
    let at = value_at c.args.radix c.loop-digit.value c.loop-digit.digit-index c.args.digits.now (omega arith) in
    let grows = value_grows c.args.radix (c.loop-digit.value * c.args.radix + c.digit_value.result) (drop (c.loop-digit.digit-index + 1) c.args.digits.now) c.requires.0 in
    let same = c.loop-digit.invariant ∙ at ∙ ap (λ x. number.value_from c.args.radix (c.loop-digit.value * c.args.radix + x) (drop (c.loop-digit.digit-index + 1) c.args.digits.now)) (sym c.digit_value.ensures) in
    omega (arith, same, grows)
