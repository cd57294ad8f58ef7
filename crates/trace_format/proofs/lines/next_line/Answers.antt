use Rattle.std.proofs.Common.{ℕ, List, ◌∷◌, take, sym, ap, ◌∙◌}
use Rattle.trace_format.proofs.Splits.{lines_at, lines_last, not_empty}
use Rattle.trace_format.specs.Lines.{lines}
use Rattle.trace_format.proofs.lines.next_line.Goals as goal

pub returns-then-end-text-clause-lines : goal.returns-then-end-text-clause-lines
returns-then-end-text-clause-lines c =
    lines_at c.args.text.now c.place_of-end.result c.if-end-text.true c.place_of-end.ensures.before (c.place_of-end.ensures.found c.if-end-text.true)
    ∙ ap (λ (xs : List ℕ). take c.place_of-end.result c.args.text.now ∷ lines xs) (sym c.behind.ensures)

pub returns-else-end-text-clause-lines : goal.returns-else-end-text-clause-lines
returns-else-end-text-clause-lines c =
    lines_last c.args.text.now c.place_of-end.result (not_empty c.args.text.now (sym c.is_empty.ensures ∙ c.if-is_empty.false)) c.if-end-text.false c.place_of-end.ensures.within c.place_of-end.ensures.before
    ∙ ap (λ (xs : List ℕ). c.args.text.now ∷ lines xs) (sym c.behind-else-end-text.ensures)
