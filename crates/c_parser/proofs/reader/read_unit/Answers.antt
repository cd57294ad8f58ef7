use Rattle.c_parser.proofs.Told.{told}
use Rattle.c_parser.proofs.reader.read_unit.Goals as goal

pub returns : goal.returns
returns c = told c.read_tokens.result c.finish.result c.args.tokens.now c.read_tokens.ensures c.finish.ensures
