use Rattle.std.proofs.Common.{Err, ap, arith}
use Rattle.c_lexer.proofs.Places.{tokens_are}
use Rattle.alloctoken.proofs.Readings.{fewer_tokens, goes_too_deep, goes_wrong}
use Rattle.alloctoken.proofs.course.unit_of.Goals as goal

pub parse-requires-clause-short : goal.parse-requires-clause-short
parse-requires-clause-short c = omega (arith, fewer_tokens c.args.text.now c.in-Ok.tokens c.in-Ok.ensures.found, c.requires)

pub parse-requires-clause-valid : goal.parse-requires-clause-valid
parse-requires-clause-valid c = tokens_are c.args.text.now c.in-Ok.tokens c.in-Ok.ensures.found

pub returns-in-Err-Syntax : goal.returns-in-Err-Syntax
returns-in-Err-Syntax c =
    goes_wrong c.args.text.now c.in-Ok.tokens c.in-Err-Syntax.place c.in-Ok.ensures.found
    (c.in-Err-Syntax.ensures.syntax c.in-Err-Syntax.place (ap Err c.in-Err-Syntax.field-0-is))

pub returns-in-Err-TooDeep : goal.returns-in-Err-TooDeep
returns-in-Err-TooDeep c =
    goes_too_deep c.args.text.now c.in-Ok.tokens c.in-Ok.ensures.found (c.in-Err-TooDeep.ensures.too_deep (ap Err c.in-Err-TooDeep.field-0-is))
