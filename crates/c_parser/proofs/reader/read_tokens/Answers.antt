use Rattle.std.proofs.Common.{◌+◌, Err, drop, subst}
use Rattle.c_reader.specs.Reader as reader
use Rattle.c_parser.specs.Parsed.{Takes, view_state}
use Rattle.c_parser.proofs.Told.{stops_deep}
use Rattle.c_parser.proofs.reader.read_tokens.Goals as goal

pub returns-in-Err-TooDeep : goal.returns-in-Err-TooDeep
returns-in-Err-TooDeep c =
    let a = view_state c.loop-i.state in
    let x = c.index-tokens-i.result in
    let high = subst (λ y. Takes (Err y) (reader.token_step a c.loop-i.end x)) c.in-Err-TooDeep.field-0-is c.in-Err-TooDeep.ensures in
    (drop (c.loop-i.i + 1) c.args.tokens.now, stops_deep c.args.tokens.now a c.loop-i.end c.loop-i.i x c.loop-i-test.true c.index-tokens-i.is c.loop-i.invariant high)
