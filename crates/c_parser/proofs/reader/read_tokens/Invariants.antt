use Rattle.std.proofs.Common.{◌≡◌, drop}
use Rattle.c_reader.specs.Reader as r
use Rattle.c_parser.specs.Parsed.{run_all, view_state}
use Rattle.c_parser.proofs.reader.read_tokens.Given as goal

abbrev pub invariant-loop-i : goal.invariant-loop-i
invariant-loop-i l = run_all l.tokens ≡ r.run (view_state l.state) l.end (drop l.i l.tokens)
