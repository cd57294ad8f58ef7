use Rattle.std.proofs.Common.{◌≡◌, drop}
use Rattle.c_constants.specs.Integers as integers
use Rattle.c_constants.proofs.integers.length_of.Given as goal

abbrev pub invariant-loop-b : goal.invariant-loop-b
invariant-loop-b l = integers.length_of l.text ≡ integers.length_from l.length (drop l.b-index l.text)
