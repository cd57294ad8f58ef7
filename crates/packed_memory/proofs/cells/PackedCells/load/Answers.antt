use Rattle.std.proofs.Common.{◌≡◌, ◌+◌, ◌-◌, ◌≤◌, length, take, drop, Ok, sym, ap, ◌∙◌, arith, rules}
use Rattle.c_core.specs.Values.{scalar_size, value_in}
use Rattle.packed_memory.specs.Packed.{cells_in}
use Rattle.packed_memory.proofs.Packing.{row_length, slices_part}
use Rattle.packed_memory.proofs.cells.PackedCells.load.Goals as goal

pub overflow_add-bytes : goal.overflow_add-bytes
overflow_add-bytes c =
    let m = c.self.inside in
    let same : length m.words.items ≡ length m.bytes.items = omega (arith, c.self.invariant, m.bytes.ok.0, m.words.ok.0) in
    let l = row_length m.bytes.items m.words.items c.args.self.now c.self.view_is same in
    omega (arith, l, c.requires, m.bytes.ok.0, c.size_of-size.ensures)

pub overflow_add-words : goal.overflow_add-words
overflow_add-words c =
    let m = c.self.inside in
    let same : length m.words.items ≡ length m.bytes.items = omega (arith, c.self.invariant, m.bytes.ok.0, m.words.ok.0) in
    let l = row_length m.bytes.items m.words.items c.args.self.now c.self.view_is same in
    omega (arith, l, c.requires, m.bytes.ok.0, c.size_of-size.ensures)

pub slice_bounds-bytes-end : goal.slice_bounds-bytes-end
slice_bounds-bytes-end c =
    let m = c.self.inside in
    let same : length m.words.items ≡ length m.bytes.items = omega (arith, c.self.invariant, m.bytes.ok.0, m.words.ok.0) in
    let l = row_length m.bytes.items m.words.items c.args.self.now c.self.view_is same in
    let long : length c.as_slice.result.now ≡ length m.bytes.items = ap (λ k. length k) c.as_slice.ensures.value in
    let part : c.args.at + c.size_of-size.result ≤ length c.as_slice.result.now = omega (arith, l, long, c.requires, c.size_of-size.ensures) in
    search rules

pub returns-in-Some : goal.returns-in-Some
returns-in-Some c =
    let m = c.self.inside in
    let same : length m.words.items ≡ length m.bytes.items = omega (arith, c.self.invariant, m.bytes.ok.0, m.words.ok.0) in
    let l = row_length m.bytes.items m.words.items c.args.self.now c.self.view_is same in
    let n = scalar_size c.args.kind in
    let k = c.args.at + c.size_of-size.result - c.args.at in
    let e : k ≡ n = omega (arith, c.size_of-size.ensures) in
    let part = slices_part m.bytes.items m.words.items c.args.self.now c.self.view_is same c.args.at n k c.as_slice.result.now c.as_slice-2.result.now c.as_slice.ensures.value c.as_slice-2.ensures.value e in
    let h : value_in c.args.kind (cells_in (take k (drop c.args.at c.as_slice.result.now)) (take k (drop c.args.at c.as_slice-2.result.now))) ≡ Ok c.in-Some.value = c.in-Some.ensures in
    sym h ∙ ap (λ r. value_in c.args.kind r) part

pub returns-in-None : goal.returns-in-None
returns-in-None c =
    let m = c.self.inside in
    let same : length m.words.items ≡ length m.bytes.items = omega (arith, c.self.invariant, m.bytes.ok.0, m.words.ok.0) in
    let l = row_length m.bytes.items m.words.items c.args.self.now c.self.view_is same in
    let n = scalar_size c.args.kind in
    let k = c.args.at + c.size_of-size.result - c.args.at in
    let e : k ≡ n = omega (arith, c.size_of-size.ensures) in
    let part = slices_part m.bytes.items m.words.items c.args.self.now c.self.view_is same c.args.at n k c.as_slice.result.now c.as_slice-2.result.now c.as_slice.ensures.value c.as_slice-2.ensures.value e in
    c.by_cells.ensures ∙ ap (λ r. value_in c.args.kind r) part
