use Rattle.std.proofs.Common.{subst}
use Rattle.c_parser.specs.Parsed.{Parsed}
use Rattle.c_parser.proofs.Told.{found, only, syntax, too_deep, numbered, placed}
use Rattle.c_parser.proofs.reader.parse.Goals as goal

pub returns : goal.returns
returns c =
    let x = c.read_unit.result in
    let ts = c.args.tokens.now in
    let a = c.requires.valid in
    let h = subst (λ s. Parsed x s) c.as_slice.ensures c.read_unit.ensures in
    record {
      found = found x ts a h;
      only = only x ts a h;
      syntax = syntax x ts a h;
      too_deep = too_deep x ts a h;
      numbered = numbered x ts a h;
      placed = placed x ts a h;
    }
