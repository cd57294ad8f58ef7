use Rattle.std.proofs.Common.{◌≡◌, replicate, ap, ◌∙◌, rules}
use Rattle.packed_memory.specs.Packed.{cells_in}
use Rattle.packed_memory.proofs.Packing.{one-cell}
use Rattle.packed_memory.proofs.cells.PackedCells.new.Goals as goal

pub returns : goal.returns
returns c =
    let b : c.in_ok-bytes.bytes.items ≡ replicate c.args.count 0 = search rules in
    let w : c.in_ok-words.words.items ≡ replicate c.args.count 0 = search rules in
    ap (λ l. cells_in l c.in_ok-words.words.items) b ∙ ap (λ l. cells_in (replicate c.args.count 0) l) w ∙ one-cell c.args.count 0 0
