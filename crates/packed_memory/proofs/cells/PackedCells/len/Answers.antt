use Rattle.std.proofs.Common.{◌≡◌, length, arith}
use Rattle.packed_memory.proofs.Packing.{row_length}
use Rattle.packed_memory.proofs.cells.PackedCells.len.Goals as goal

pub returns : goal.returns
returns c =
    let m = c.self.inside in
    let same : length m.words.items ≡ length m.bytes.items = omega (arith, c.self.invariant, m.bytes.ok.0, m.words.ok.0) in
    let l = row_length m.bytes.items m.words.items c.args.self.now c.self.view_is same in
    omega (arith, l, c.len.ensures, m.bytes.ok.0)
