use Rattle.std.proofs.Common.{◌≡◌, ◌<◌, length, take, sym, ap, ◌∙◌, subst, arith}
use Rattle.std.proofs.lemmas.List.{length-set}
use Rattle.c_core.specs.Values.{scalar_size, value_in}
use Rattle.packed_memory.specs.Packed.{cells_in}
use Rattle.packed_memory.proofs.Packing.{next_cell, all_cells}
use Rattle.packed_memory.proofs.Whole.{scalar_small}
use Rattle.packed_memory.proofs.cells.by_cells.Goals as goal

pub loop-i-preserved : goal.loop-i-preserved
loop-i-preserved c =
    let bytes = c.args.bytes.now in
    let words = c.args.words.now in
    let s = scalar_small c.args.kind in
    let h : c.loop-i.i < length bytes = omega (arith, c.loop-i-test.true, c.size_of-size.ensures, c.requires.bytes) in
    let k : c.loop-i.i < length c.loop-i.cells = omega (arith, h, s, c.requires.bytes, c.loop-i.invariant.0) in (
      length-set c.loop-i.cells c.loop-i.i c.cell_in.result ∙ c.loop-i.invariant.0,
      next_cell c.loop-i.cells bytes words c.loop-i.i c.cell_in.result k h (c.requires.words ∙ sym c.requires.bytes) c.cell_in.ensures c.loop-i.invariant.1,
    )

pub returns : goal.returns
returns c =
    let n = scalar_size c.args.kind in
    let size : c.loop-i.i ≡ n = omega (arith, c.size_of-size.ensures) in
    let is : take n c.loop-i.cells ≡ take n (cells_in c.args.bytes.now c.args.words.now) = subst (λ k. take k c.loop-i.cells ≡ take k (cells_in c.args.bytes.now c.args.words.now)) size c.loop-i.invariant.1 in
    c.value_in.ensures
    ∙ ap (λ k. value_in c.args.kind (take k c.loop-i.cells)) c.size_of-size.ensures
    ∙ ap (λ l. value_in c.args.kind l) (all_cells c.loop-i.cells c.args.bytes.now c.args.words.now n c.requires.bytes c.requires.words is)
