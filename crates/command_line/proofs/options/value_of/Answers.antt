use Rattle.std.proofs.Common.{◌+◌, ◌*◌, drop, arith, sym, ◌∙◌, ap}
use Rattle.command_line.specs.Words as words
use Rattle.command_line.proofs.Drafts.{value_grows, value_at}
use Rattle.command_line.proofs.options.value_of.Goals as goal

pub returns-then-value-gt65536-clause-small : goal.returns-then-value-gt65536-clause-small
returns-then-value-gt65536-clause-small c = λ h.
    let at = value_at c.loop-b.value c.loop-b.b-index c.args.digits.now (omega arith) in
    let more = drop (c.loop-b.b-index + 1) c.args.digits.now in
    let same = c.loop-b.invariant.0 ∙ at ∙ ap (λ x. words.value_from (10 * c.loop-b.value + x) more) (sym c.saturating_sub.ensures) in
    let grows = value_grows (10 * c.loop-b.value + c.saturating_sub.result) more in
    absurd (omega (arith, same, grows, h))
