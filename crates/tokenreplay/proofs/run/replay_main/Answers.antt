use Rattle.tokenreplay.specs.Course.{change}
use Rattle.tokenreplay.proofs.Courses as courses
use Rattle.tokenreplay.proofs.run.replay_main.Goals as goal

pub returns-clause-due : goal.returns-clause-due
returns-clause-due g c =
    courses.due c.args.words.now (g.F.Files.contents c.args.files.now) (g.F.Files.tally c.args.files.now) (g.F.Files.tally c.run.new.files) c.run.result
    (change (g.O.Sink.written c.args.out.now) (g.O.Sink.faults c.args.out.now) (g.O.Sink.written c.run.new.out) (g.O.Sink.faults c.run.new.out))
    (change (g.E.Sink.written c.args.report.now) (g.E.Sink.faults c.args.report.now) (g.E.Sink.written c.run.new.report) (g.E.Sink.faults c.run.new.report))
    c.run.ensures

pub returns-clause-reports : goal.returns-clause-reports
returns-clause-reports g c =
    courses.reports c.args.words.now (g.F.Files.contents c.args.files.now) (g.F.Files.tally c.args.files.now) (g.F.Files.tally c.run.new.files) c.run.result
    (change (g.O.Sink.written c.args.out.now) (g.O.Sink.faults c.args.out.now) (g.O.Sink.written c.run.new.out) (g.O.Sink.faults c.run.new.out))
    (change (g.E.Sink.written c.args.report.now) (g.E.Sink.faults c.args.report.now) (g.E.Sink.written c.run.new.report) (g.E.Sink.faults c.run.new.report))
    c.run.ensures

pub returns-clause-usage : goal.returns-clause-usage
returns-clause-usage g c =
    courses.usage c.args.words.now (g.F.Files.contents c.args.files.now) (g.F.Files.tally c.args.files.now) (g.F.Files.tally c.run.new.files) c.run.result
    (change (g.O.Sink.written c.args.out.now) (g.O.Sink.faults c.args.out.now) (g.O.Sink.written c.run.new.out) (g.O.Sink.faults c.run.new.out))
    (change (g.E.Sink.written c.args.report.now) (g.E.Sink.faults c.args.report.now) (g.E.Sink.written c.run.new.report) (g.E.Sink.faults c.run.new.report))
    c.run.ensures

pub returns-clause-usage_only : goal.returns-clause-usage_only
returns-clause-usage_only g c =
    courses.usage_only c.args.words.now (g.F.Files.contents c.args.files.now) (g.F.Files.tally c.args.files.now) (g.F.Files.tally c.run.new.files) c.run.result
    (change (g.O.Sink.written c.args.out.now) (g.O.Sink.faults c.args.out.now) (g.O.Sink.written c.run.new.out) (g.O.Sink.faults c.run.new.out))
    (change (g.E.Sink.written c.args.report.now) (g.E.Sink.faults c.args.report.now) (g.E.Sink.written c.run.new.report) (g.E.Sink.faults c.run.new.report))
    c.run.ensures

pub returns-clause-file_fault : goal.returns-clause-file_fault
returns-clause-file_fault g c =
    courses.file_fault c.args.words.now (g.F.Files.contents c.args.files.now) (g.F.Files.tally c.args.files.now) (g.F.Files.tally c.run.new.files) c.run.result
    (change (g.O.Sink.written c.args.out.now) (g.O.Sink.faults c.args.out.now) (g.O.Sink.written c.run.new.out) (g.O.Sink.faults c.run.new.out))
    (change (g.E.Sink.written c.args.report.now) (g.E.Sink.faults c.args.report.now) (g.E.Sink.written c.run.new.report) (g.E.Sink.faults c.run.new.report))
    c.run.ensures

pub returns-clause-too_long : goal.returns-clause-too_long
returns-clause-too_long g c =
    courses.too_long c.args.words.now (g.F.Files.contents c.args.files.now) (g.F.Files.tally c.args.files.now) (g.F.Files.tally c.run.new.files) c.run.result
    (change (g.O.Sink.written c.args.out.now) (g.O.Sink.faults c.args.out.now) (g.O.Sink.written c.run.new.out) (g.O.Sink.faults c.run.new.out))
    (change (g.E.Sink.written c.args.report.now) (g.E.Sink.faults c.args.report.now) (g.E.Sink.written c.run.new.report) (g.E.Sink.faults c.run.new.report))
    c.run.ensures

pub returns-clause-bad_trace : goal.returns-clause-bad_trace
returns-clause-bad_trace g c =
    courses.bad_trace c.args.words.now (g.F.Files.contents c.args.files.now) (g.F.Files.tally c.args.files.now) (g.F.Files.tally c.run.new.files) c.run.result
    (change (g.O.Sink.written c.args.out.now) (g.O.Sink.faults c.args.out.now) (g.O.Sink.written c.run.new.out) (g.O.Sink.faults c.run.new.out))
    (change (g.E.Sink.written c.args.report.now) (g.E.Sink.faults c.args.report.now) (g.E.Sink.written c.run.new.report) (g.E.Sink.faults c.run.new.report))
    c.run.ensures

pub returns-clause-write_fault : goal.returns-clause-write_fault
returns-clause-write_fault g c =
    courses.write_fault c.args.words.now (g.F.Files.contents c.args.files.now) (g.F.Files.tally c.args.files.now) (g.F.Files.tally c.run.new.files) c.run.result
    (change (g.O.Sink.written c.args.out.now) (g.O.Sink.faults c.args.out.now) (g.O.Sink.written c.run.new.out) (g.O.Sink.faults c.run.new.out))
    (change (g.E.Sink.written c.args.report.now) (g.E.Sink.faults c.args.report.now) (g.E.Sink.written c.run.new.report) (g.E.Sink.faults c.run.new.report))
    c.run.ensures

pub returns-clause-refused : goal.returns-clause-refused
returns-clause-refused g c =
    courses.refused c.args.words.now (g.F.Files.contents c.args.files.now) (g.F.Files.tally c.args.files.now) (g.F.Files.tally c.run.new.files) c.run.result
    (change (g.O.Sink.written c.args.out.now) (g.O.Sink.faults c.args.out.now) (g.O.Sink.written c.run.new.out) (g.O.Sink.faults c.run.new.out))
    (change (g.E.Sink.written c.args.report.now) (g.E.Sink.faults c.args.report.now) (g.E.Sink.written c.run.new.report) (g.E.Sink.faults c.run.new.report))
    c.run.ensures

pub returns-clause-files_kept : goal.returns-clause-files_kept
returns-clause-files_kept g c =
    courses.files_kept c.args.words.now (g.F.Files.contents c.args.files.now) (g.F.Files.tally c.args.files.now) (g.F.Files.tally c.run.new.files) c.run.result
    (change (g.O.Sink.written c.args.out.now) (g.O.Sink.faults c.args.out.now) (g.O.Sink.written c.run.new.out) (g.O.Sink.faults c.run.new.out))
    (change (g.E.Sink.written c.args.report.now) (g.E.Sink.faults c.args.report.now) (g.E.Sink.written c.run.new.report) (g.E.Sink.faults c.run.new.report))
    c.run.ensures

pub returns-clause-sinks_kept : goal.returns-clause-sinks_kept
returns-clause-sinks_kept g c =
    courses.sinks_kept c.args.words.now (g.F.Files.contents c.args.files.now) (g.F.Files.tally c.args.files.now) (g.F.Files.tally c.run.new.files) c.run.result
    (change (g.O.Sink.written c.args.out.now) (g.O.Sink.faults c.args.out.now) (g.O.Sink.written c.run.new.out) (g.O.Sink.faults c.run.new.out))
    (change (g.E.Sink.written c.args.report.now) (g.E.Sink.faults c.args.report.now) (g.E.Sink.written c.run.new.report) (g.E.Sink.faults c.run.new.report))
    c.run.ensures
