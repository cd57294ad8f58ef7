-- How many statements stand around a statement up to the next block.
use Rattle.std.proofs.Common.{◌≡◌, ℕ, suc, ◌<◌, arith, ap}
use Rattle.c_reader.specs.MarkedInside as r

abbrev pub statements : r.InStmt → ℕ
statements (r.in_block o is k) = 0
statements (r.in_then o a k) = suc (statements k)
statements (r.in_else o a s k) = suc (statements k)
statements (r.in_while o a k) = suc (statements k)
statements (r.in_do o k) = suc (statements k)
statements (r.in_for o x a e k) = suc (statements k)

pub fewer : (n : ℕ) (p q : r.InStmt) → q ≡ p → statements q ≡ suc n → n < statements p
fewer n p q e h = omega (arith, h, ap statements e)
