use Rattle.std.proofs.Common.{◌+◌, sym, ◌∙◌}
use Rattle.machine_bytes.proofs.Bytes.{text_fault, text_ends, text_goes, text_whole}
use Rattle.machine_bytes.proofs.reading.text_length.Goals as goal

pub returns-then-byte-eq0 : goal.returns-then-byte-eq0
returns-then-byte-eq0 g c =
    let bs = g.M.Memory.blocks c.args.memory.now in
    sym (text_ends bs c.args.p (c.extent-most.result + 1) c.loop-at.at c.in-Ok.byte c.loop-at-test.true c.in-Ok.ensures.value c.if-byte-eq0.true) ∙ c.loop-at.invariant.run ∙ text_whole bs c.args.p c.extent-most.result c.extent-most.ensures.result

pub returns-in-Err : goal.returns-in-Err
returns-in-Err g c =
    let bs = g.M.Memory.blocks c.args.memory.now in
    sym (text_fault bs c.args.p (c.extent-most.result + 1) c.loop-at.at c.in-Err.fault c.loop-at-test.true c.in-Err.ensures.value) ∙ c.loop-at.invariant.run ∙ text_whole bs c.args.p c.extent-most.result c.extent-most.ensures.result

pub loop-at-preserved : goal.loop-at-preserved
loop-at-preserved g c =
    let bs = g.M.Memory.blocks c.args.memory.now in
    record {
      run = text_goes bs c.args.p (c.extent-most.result + 1) c.loop-at.at c.in-Ok.byte c.loop-at-test.true c.in-Ok.ensures.value c.if-byte-eq0.false ∙ c.loop-at.invariant.run;
      given = c.in-Ok.ensures.next;
    }
