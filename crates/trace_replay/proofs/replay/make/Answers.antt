use Rattle.range_heap.specs.Steps.{histories}
use Rattle.trace_replay.proofs.Steps.{asked, given, named_within, on_ok}
use Rattle.trace_replay.proofs.replay.make.Goals as goal

pub fate_at-requires : goal.fate_at-requires
fate_at-requires c =
    named_within c.args.trace.now c.args.at c.in-Free.worker c.in-Free.name c.args.fates.now.items (histories c.args.ranges.now) c.requires.trace c.requires.within c.in-Free.ensures c.requires.going

pub returns-in-Alloc-clause-going : goal.returns-in-Alloc-clause-going
returns-in-Alloc-clause-going c =
    on_ok c.allocate.result c.allocate.ensures.asked
    (asked c.args.trace.now c.args.at c.in-Alloc.worker c.in-Alloc.name c.in-Alloc.token c.in-Alloc.size c.args.fates.now.items c.allocate.new.fates.items c.args.ranges.now c.allocate.new.ranges
    c.requires.trace c.requires.within c.in-Alloc.ensures c.requires.going)

pub returns-in-Free-clause-going : goal.returns-in-Free-clause-going
returns-in-Free-clause-going c =
    on_ok c.release.result c.release.ensures.given
    (given c.args.trace.now c.args.at c.in-Free.worker c.in-Free.name c.args.fates.now.items (histories c.args.ranges.now) (histories c.release.new.ranges) c.fate_at.result c.fate_at.ensures
    c.requires.trace c.requires.within c.in-Free.ensures c.requires.going)
