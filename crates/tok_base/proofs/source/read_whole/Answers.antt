use Rattle.std.proofs.Common.{◌++◌, take, length, ◌<◌, arith}
use Rattle.std.proofs.lemmas.List.{length-append}
use Rattle.std.specs.Io.KnownBytes.{Consumes}
use Rattle.tok_base.proofs.Reading.{joined, longer}
use Rattle.tok_base.proofs.source.read_whole.Goals as goal

pub returns-in-Ok-clause-bytes : goal.returns-in-Ok-clause-bytes
returns-in-Ok-clause-bytes g c =
    let old = g.S.Source.rest c.args.source.now in
    let new = g.S.Source.rest c.read.new.self in
    let taken = c.loop-bytes.bytes.items in
    let piece = take c.in-Ok.count c.read.new.buf in
    let all : Consumes old new (taken ++ piece) = joined old (g.S.Source.rest c.loop-bytes.source) new taken piece c.loop-bytes.invariant.taken c.in-Ok.ensures.bytes.0 in
    let long : c.args.limit < length (taken ++ piece) = omega (arith, c.if-len-count.true, c.len.ensures, c.loop-bytes.bytes.ok, c.in-Ok.ensures.bound.1, length-append taken piece) in
    (longer old new (taken ++ piece) c.args.limit all long, (taken ++ piece, all))

pub returns-then-is_err-clause-bytes : goal.returns-then-is_err-clause-bytes
returns-then-is_err-clause-bytes g c =
    let taken = c.loop-bytes.bytes.items in
    let piece = take c.in-Ok.count c.read.new.buf in
    (taken ++ piece, joined (g.S.Source.rest c.args.source.now) (g.S.Source.rest c.loop-bytes.source) (g.S.Source.rest c.read.new.self) taken piece c.loop-bytes.invariant.taken c.in-Ok.ensures.bytes.0)
