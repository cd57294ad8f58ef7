use Rattle.std.proofs.Common.{refl}
use Rattle.tokenreplay.specs.Course.{change}
use Rattle.tokenreplay.proofs.Served.{told}
use Rattle.tokenreplay.proofs.run.run.Goals as goal

pub returns-in-Err : goal.returns-in-Err
returns-in-Err g c =
    told c.args.words.now (g.F.Files.contents c.args.files.now) (g.F.Files.tally c.args.files.now) (g.F.Files.tally c.course.new.files) c.refuse.result
    (change (g.O.Sink.written c.args.out.now) (g.O.Sink.faults c.args.out.now) (g.O.Sink.written c.args.out.now) (g.O.Sink.faults c.args.out.now))
    (change (g.E.Sink.written c.args.report.now) (g.E.Sink.faults c.args.report.now) (g.E.Sink.written c.refuse.new.report) (g.E.Sink.faults c.refuse.new.report))
    c.in-Err.refusal c.in-Err.ensures c.refuse.ensures refl
