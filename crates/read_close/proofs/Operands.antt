-- How many operators stand around an expression.
use Rattle.std.proofs.Common.{◌≡◌, ℕ, suc, ◌<◌, arith, subst}
use Rattle.c_reader.specs.MarkedParts.{Open}
use Rattle.c_reader.specs.MarkedInside as r

abbrev pub operands : r.InExpr → ℕ
operands (r.in_operand o x k) = suc (operands k)
operands (r.in_bracket o b k) = 0
operands (r.in_stmt o p k) = 0
operands (r.in_init k) = 0
operands (r.in_value o x k) = 0
operands (r.in_array o x k) = 0

below : (n : ℕ) → n < suc n
below n = omega arith

pub fewer : (o : Open) (x : r.Operand) (k p : r.InExpr) → r.in_operand o x k ≡ p → operands k < operands p
fewer o x k p e = subst (λ q. operands k < operands q) e (below (operands k))
