use Rattle.alloctoken.specs.Course.{change}
use Rattle.alloctoken.proofs.Courses as courses
use Rattle.alloctoken.proofs.run.alloctoken_main.Goals as goal

pub returns-clause-due : goal.returns-clause-due
returns-clause-due g c =
    courses.due c.args.words.now (g.F.Files.contents c.args.files.now) (g.F.Files.tally c.args.files.now) (g.F.Files.tally c.run.new.files) c.run.result
    (change (g.O.Sink.written c.args.out.now) (g.O.Sink.faults c.args.out.now) (g.O.Sink.written c.run.new.out) (g.O.Sink.faults c.run.new.out))
    (change (g.E.Sink.written c.args.report.now) (g.E.Sink.faults c.args.report.now) (g.E.Sink.written c.run.new.report) (g.E.Sink.faults c.run.new.report))
    c.run.ensures

pub returns-clause-reads_back : goal.returns-clause-reads_back
returns-clause-reads_back g c =
    courses.reads_back c.args.words.now (g.F.Files.contents c.args.files.now) (g.F.Files.tally c.args.files.now) (g.F.Files.tally c.run.new.files) c.run.result
    (change (g.O.Sink.written c.args.out.now) (g.O.Sink.faults c.args.out.now) (g.O.Sink.written c.run.new.out) (g.O.Sink.faults c.run.new.out))
    (change (g.E.Sink.written c.args.report.now) (g.E.Sink.faults c.args.report.now) (g.E.Sink.written c.run.new.report) (g.E.Sink.faults c.run.new.report))
    c.run.ensures

pub returns-clause-file_fault : goal.returns-clause-file_fault
returns-clause-file_fault g c =
    courses.file_fault c.args.words.now (g.F.Files.contents c.args.files.now) (g.F.Files.tally c.args.files.now) (g.F.Files.tally c.run.new.files) c.run.result
    (change (g.O.Sink.written c.args.out.now) (g.O.Sink.faults c.args.out.now) (g.O.Sink.written c.run.new.out) (g.O.Sink.faults c.run.new.out))
    (change (g.E.Sink.written c.args.report.now) (g.E.Sink.faults c.args.report.now) (g.E.Sink.written c.run.new.report) (g.E.Sink.faults c.run.new.report))
    c.run.ensures

pub returns-clause-too_long : goal.returns-clause-too_long
returns-clause-too_long g c =
    courses.too_long c.args.words.now (g.F.Files.contents c.args.files.now) (g.F.Files.tally c.args.files.now) (g.F.Files.tally c.run.new.files) c.run.result
    (change (g.O.Sink.written c.args.out.now) (g.O.Sink.faults c.args.out.now) (g.O.Sink.written c.run.new.out) (g.O.Sink.faults c.run.new.out))
    (change (g.E.Sink.written c.args.report.now) (g.E.Sink.faults c.args.report.now) (g.E.Sink.written c.run.new.report) (g.E.Sink.faults c.run.new.report))
    c.run.ensures

pub returns-clause-lex : goal.returns-clause-lex
returns-clause-lex g c =
    courses.lex c.args.words.now (g.F.Files.contents c.args.files.now) (g.F.Files.tally c.args.files.now) (g.F.Files.tally c.run.new.files) c.run.result
    (change (g.O.Sink.written c.args.out.now) (g.O.Sink.faults c.args.out.now) (g.O.Sink.written c.run.new.out) (g.O.Sink.faults c.run.new.out))
    (change (g.E.Sink.written c.args.report.now) (g.E.Sink.faults c.args.report.now) (g.E.Sink.written c.run.new.report) (g.E.Sink.faults c.run.new.report))
    c.run.ensures

pub returns-clause-syntax : goal.returns-clause-syntax
returns-clause-syntax g c =
    courses.syntax c.args.words.now (g.F.Files.contents c.args.files.now) (g.F.Files.tally c.args.files.now) (g.F.Files.tally c.run.new.files) c.run.result
    (change (g.O.Sink.written c.args.out.now) (g.O.Sink.faults c.args.out.now) (g.O.Sink.written c.run.new.out) (g.O.Sink.faults c.run.new.out))
    (change (g.E.Sink.written c.args.report.now) (g.E.Sink.faults c.args.report.now) (g.E.Sink.written c.run.new.report) (g.E.Sink.faults c.run.new.report))
    c.run.ensures

pub returns-clause-too_deep : goal.returns-clause-too_deep
returns-clause-too_deep g c =
    courses.too_deep c.args.words.now (g.F.Files.contents c.args.files.now) (g.F.Files.tally c.args.files.now) (g.F.Files.tally c.run.new.files) c.run.result
    (change (g.O.Sink.written c.args.out.now) (g.O.Sink.faults c.args.out.now) (g.O.Sink.written c.run.new.out) (g.O.Sink.faults c.run.new.out))
    (change (g.E.Sink.written c.args.report.now) (g.E.Sink.faults c.args.report.now) (g.E.Sink.written c.run.new.report) (g.E.Sink.faults c.run.new.report))
    c.run.ensures

pub returns-clause-files_kept : goal.returns-clause-files_kept
returns-clause-files_kept g c =
    courses.files_kept c.args.words.now (g.F.Files.contents c.args.files.now) (g.F.Files.tally c.args.files.now) (g.F.Files.tally c.run.new.files) c.run.result
    (change (g.O.Sink.written c.args.out.now) (g.O.Sink.faults c.args.out.now) (g.O.Sink.written c.run.new.out) (g.O.Sink.faults c.run.new.out))
    (change (g.E.Sink.written c.args.report.now) (g.E.Sink.faults c.args.report.now) (g.E.Sink.written c.run.new.report) (g.E.Sink.faults c.run.new.report))
    c.run.ensures

pub returns-clause-write_fault : goal.returns-clause-write_fault
returns-clause-write_fault g c =
    courses.write_fault c.args.words.now (g.F.Files.contents c.args.files.now) (g.F.Files.tally c.args.files.now) (g.F.Files.tally c.run.new.files) c.run.result
    (change (g.O.Sink.written c.args.out.now) (g.O.Sink.faults c.args.out.now) (g.O.Sink.written c.run.new.out) (g.O.Sink.faults c.run.new.out))
    (change (g.E.Sink.written c.args.report.now) (g.E.Sink.faults c.args.report.now) (g.E.Sink.written c.run.new.report) (g.E.Sink.faults c.run.new.report))
    c.run.ensures
