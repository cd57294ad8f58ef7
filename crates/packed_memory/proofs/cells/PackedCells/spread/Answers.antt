use Rattle.std.proofs.Common.{◌≡◌, length, arith}
use Rattle.packed_memory.proofs.Packing.{row_length, cells_spread}
use Rattle.packed_memory.proofs.cells.PackedCells.spread.Goals as goal

pub spread_bytes-requires : goal.spread_bytes-requires
spread_bytes-requires c =
    let m = c.self.inside in
    let same : length m.words.items ≡ length m.bytes.items = omega (arith, c.self.invariant, m.bytes.ok.0, m.words.ok.0) in
    let l = row_length m.bytes.items m.words.items c.args.self.now c.self.view_is same in
    omega (arith, l, c.requires, m.bytes.ok.0)

pub spread_words-requires : goal.spread_words-requires
spread_words-requires c =
    let m = c.self.inside in
    let same : length m.words.items ≡ length m.bytes.items = omega (arith, c.self.invariant, m.bytes.ok.0, m.words.ok.0) in
    let l = row_length m.bytes.items m.words.items c.args.self.now c.self.view_is same in
    omega (arith, l, same, c.requires, m.words.ok.0)

pub returns : goal.returns
returns c =
    let m = c.self.inside in
    let same : length m.words.items ≡ length m.bytes.items = omega (arith, c.self.invariant, m.bytes.ok.0, m.words.ok.0) in
    let l = row_length m.bytes.items m.words.items c.args.self.now c.self.view_is same in
    cells_spread m.bytes.items m.words.items c.args.self.now c.self.view_is same c.args.at c.args.count c.args.byte c.args.word c.spread_bytes.new.list.items c.spread_words.new.list.items c.requires c.spread_bytes.ensures c.spread_words.ensures
