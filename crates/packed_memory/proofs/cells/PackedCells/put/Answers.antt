use Rattle.std.proofs.Common.{◌≡◌, length, refl, arith}
use Rattle.packed_memory.proofs.Packing.{row_length, cells_put}
use Rattle.packed_memory.proofs.cells.PackedCells.put.Goals as goal

pub overwrite-requires : goal.overwrite-requires
overwrite-requires c =
    let m = c.self.inside in
    let same : length m.words.items ≡ length m.bytes.items = omega (arith, c.self.invariant, m.bytes.ok.0, m.words.ok.0) in
    let l = row_length m.bytes.items m.words.items c.args.self.now c.self.view_is same in
    omega (arith, l, c.requires, m.bytes.ok.0)

pub spread_words-requires : goal.spread_words-requires
spread_words-requires c =
    let m = c.self.inside in
    let same : length m.words.items ≡ length m.bytes.items = omega (arith, c.self.invariant, m.bytes.ok.0, m.words.ok.0) in
    let l = row_length m.bytes.items m.words.items c.args.self.now c.self.view_is same in
    omega (arith, l, same, c.requires, m.words.ok.0)

pub returns : goal.returns
returns c =
    let m = c.self.inside in
    let same : length m.words.items ≡ length m.bytes.items = omega (arith, c.self.invariant, m.bytes.ok.0, m.words.ok.0) in
    let l = row_length m.bytes.items m.words.items c.args.self.now c.self.view_is same in
    cells_put m.bytes.items m.words.items c.args.self.now c.self.view_is same c.args.at c.args.word (length c.args.bytes.now) c.args.bytes.now c.overwrite.new.list.items c.spread_words.new.list.items refl c.requires c.overwrite.ensures c.spread_words.ensures
