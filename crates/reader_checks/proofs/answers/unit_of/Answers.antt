use Rattle.c_lexer.proofs.Places.{tokens_are}
use Rattle.reader_checks.proofs.answers.unit_of.Goals as goal

pub read-requires : goal.read-requires
read-requires c = tokens_are c.args.text.now c.in-Ok.tokens c.in-Ok.ensures.found
