use Rattle.std.proofs.Common.{◌≡◌, length, arith}
use Rattle.packed_memory.proofs.Packing.{row_length, cells_copied}
use Rattle.packed_memory.proofs.cells.PackedCells.copy.Goals as goal

pub shift-requires-clause-room : goal.shift-requires-clause-room
shift-requires-clause-room c =
    let m = c.self.inside in
    let same : length m.words.items ≡ length m.bytes.items = omega (arith, c.self.invariant, m.bytes.ok.0, m.words.ok.0) in
    let l = row_length m.bytes.items m.words.items c.args.self.now c.self.view_is same in
    omega (arith, l, c.requires.to, m.bytes.ok.0)

pub shift-requires-clause-part : goal.shift-requires-clause-part
shift-requires-clause-part c =
    let m = c.self.inside in
    let same : length m.words.items ≡ length m.bytes.items = omega (arith, c.self.invariant, m.bytes.ok.0, m.words.ok.0) in
    let l = row_length m.bytes.items m.words.items c.args.self.now c.self.view_is same in
    omega (arith, l, c.requires.from, m.bytes.ok.0)

pub shift-requires-2-clause-room : goal.shift-requires-2-clause-room
shift-requires-2-clause-room c =
    let m = c.self.inside in
    let same : length m.words.items ≡ length m.bytes.items = omega (arith, c.self.invariant, m.bytes.ok.0, m.words.ok.0) in
    let l = row_length m.bytes.items m.words.items c.args.self.now c.self.view_is same in
    omega (arith, l, same, c.requires.to, m.words.ok.0)

pub shift-requires-2-clause-part : goal.shift-requires-2-clause-part
shift-requires-2-clause-part c =
    let m = c.self.inside in
    let same : length m.words.items ≡ length m.bytes.items = omega (arith, c.self.invariant, m.bytes.ok.0, m.words.ok.0) in
    let l = row_length m.bytes.items m.words.items c.args.self.now c.self.view_is same in
    omega (arith, l, same, c.requires.from, m.words.ok.0)

pub returns : goal.returns
returns c =
    let m = c.self.inside in
    let same : length m.words.items ≡ length m.bytes.items = omega (arith, c.self.invariant, m.bytes.ok.0, m.words.ok.0) in
    let l = row_length m.bytes.items m.words.items c.args.self.now c.self.view_is same in
    cells_copied m.bytes.items m.words.items c.args.self.now c.self.view_is same c.args.to c.args.from c.args.count c.shift.new.list.items c.shift-2.new.list.items c.requires.to c.requires.from c.shift.ensures c.shift-2.ensures
