use Rattle.std.proofs.Common.{Ok, sym, ap, ◌∙◌}
use Rattle.c_core.specs.declared.values.Value.TheVariants as value
use Rattle.c_core.specs.Values.{value_in, int_from}
use Rattle.num_ops.specs.Numbers.{Number}
use Rattle.packed_memory.specs.Packed.{cells_in}
use Rattle.packed_memory.proofs.Whole.{number_is}
use Rattle.packed_memory.proofs.cells.whole.Goals as goal

pub returns-then-are_all : goal.returns-then-are_all
returns-then-are_all c =
    let bytes = c.args.bytes.now in
    let words = c.args.words.now in
    let kind = c.in-Int.kind in
    ap (λ k. value_in k (cells_in bytes words)) c.in-Int.is
    ∙ number_is kind bytes words (c.requires.words ∙ sym c.requires.bytes) (c.are_all.ensures c.if-are_all.true)
    ∙ ap (λ n. Ok (value.Int (let r : Number = record { kind = kind; value = int_from kind n } in r))) (sym c.number_of.ensures.number)
    ∙ ap (λ n. Ok (value.Int n)) (sym c.int_from.ensures)
