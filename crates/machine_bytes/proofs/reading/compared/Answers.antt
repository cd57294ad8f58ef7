use Rattle.std.proofs.Common.{◌≡◌, Result, Ok, ℤ, sym, ap, ◌∙◌, arith}
use Rattle.std.proofs.lemmas.Int.{ints}
use mir.Syntax.{w32}
use mir.Val.{to_z, of_z}
use Rattle.c_core.specs.declared.values.Fault.{Fault}
use Rattle.machine_bytes.proofs.Bytes.{read_fault, read_differs, read_alike}
use Rattle.machine_bytes.proofs.reading.compared.Goals as goal

pub returns-then-order-ne0 : goal.returns-then-order-ne0
returns-then-order-ne0 g c =
    let low = c.in-Ok.ensures.low in
    let high = c.in-Ok.ensures.high in
    let same : to_z w32 (of_z w32 c.in-Ok.order) ≡ c.in-Ok.order = omega (arith, ints, low, high) in
    ap (λ (z : ℤ). let r : Result ℤ Fault = Ok z in r) same
    ∙ sym (read_differs (g.M.Memory.blocks c.args.memory.now) c.args.p c.args.q c.args.count c.loop-at.at c.difference.result c.in-Ok.order c.loop-at-test.true c.difference.ensures.value c.in-Ok.is (λ e. c.if-order-ne0.true (ap (of_z w32) e)))
    ∙ c.loop-at.invariant.run

pub returns-in-Err : goal.returns-in-Err
returns-in-Err g c =
    sym (read_fault (g.M.Memory.blocks c.args.memory.now) c.args.p c.args.q c.args.count c.loop-at.at c.difference.result c.in-Err.fault c.loop-at-test.true c.difference.ensures.value c.in-Err.is) ∙ c.loop-at.invariant.run

pub loop-at-preserved : goal.loop-at-preserved
loop-at-preserved g c =
    let low = c.in-Ok.ensures.low in
    let high = c.in-Ok.ensures.high in
    let same : to_z w32 (of_z w32 c.in-Ok.order) ≡ c.in-Ok.order = omega (arith, ints, low, high) in
    record {
      run = read_alike (g.M.Memory.blocks c.args.memory.now) c.args.p c.args.q c.args.count c.loop-at.at c.difference.result c.in-Ok.order c.loop-at-test.true c.difference.ensures.value c.in-Ok.is (sym same ∙ ap (to_z w32) c.if-order-ne0.false) ∙ c.loop-at.invariant.run;
      left = c.in-Ok.ensures.left;
      right = c.in-Ok.ensures.right;
    }
