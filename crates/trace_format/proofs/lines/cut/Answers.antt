use Rattle.std.proofs.Common.{ℕ, List, ◌∷◌, take, sym, ap, ◌∙◌, arith}
use Rattle.trace_format.proofs.Splits.{cut_at, cut_none}
use Rattle.trace_format.specs.Lines.{words}
use Rattle.trace_format.proofs.lines.cut.Goals as goal

pub returns-then-end-line : goal.returns-then-end-line
returns-then-end-line c =
    cut_at 32 c.args.line.now c.place_of-end.result c.if-end-line.true c.place_of-end.ensures.before (c.place_of-end.ensures.found c.if-end-line.true)
    ∙ ap (λ (xs : List ℕ). take c.place_of-end.result c.args.line.now ∷ words xs) (sym c.behind.ensures)

pub returns-else-end-line : goal.returns-else-end-line
returns-else-end-line c = cut_none 32 c.args.line.now (λ k h. c.place_of-end.ensures.before k (omega (arith, h, c.if-end-line.false)))
