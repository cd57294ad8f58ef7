use Rattle.std.proofs.Common.{refl, arith, ◌≡◌, length}
use Rattle.memory_checks.proofs.Told.{count_of, free_more, free_all}
use Rattle.memory_checks.proofs.given.is_free.Goals as goal

pub loop-number-preserved : goal.loop-number-preserved
loop-number-preserved g c =
    let m = c.args.memory.now in
    let bs = g.M.Memory.blocks m in
    let starts = g.M.Memory.starts m in
    let info = c.block-block.result in
    free_more c.args.at c.args.more info (c.if-not-keeps_off.ensures refl) bs starts c.loop-number.number c.block-block.ensures.told c.block-block.ensures.start c.loop-number.invariant

pub returns : goal.returns
returns g c = λ _.
    let m = c.args.memory.now in
    let bs = g.M.Memory.blocks m in
    let starts = g.M.Memory.starts m in
    let l = count_of (g.M.Memory.sizes m) bs (g.met.M.Memory.sizes_are m) in
    let e : c.loop-number.number ≡ length bs = omega (arith, l) in
    free_all bs starts c.loop-number.number c.args.at c.args.more e c.loop-number.invariant
