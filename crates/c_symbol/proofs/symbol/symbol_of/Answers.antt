use Rattle.std.proofs.Common.{◌∙◌, ap, sym}
use Rattle.c_reader.specs.Symbol as spec
use Rattle.c_symbol.specs.Chunks as chunk
use Rattle.c_symbol.proofs.Chunks.{all_words, all_marks}
use Rattle.c_symbol.proofs.symbol.symbol_of.Goals as goal

pub returns-in-Word : goal.returns-in-Word
returns-in-Word c =
    let n = c.args.token.now.text in
    c.first_words.ensures ∙ ap (λ s. spec.option_symbol (chunk.first_words s)) c.as_slice-text.ensures ∙ ap spec.option_symbol (all_words n)
    ∙ ap (λ k. spec.symbol (record { kind = k; text = n })) (sym c.in-Word.is)

pub returns-in-Mark : goal.returns-in-Mark
returns-in-Mark c =
    let n = c.args.token.now.text in
    c.first_marks.ensures ∙ ap (λ s. spec.option_symbol (chunk.first_marks s)) c.as_slice-text.ensures ∙ ap spec.option_symbol (all_marks n)
    ∙ ap (λ k. spec.symbol (record { kind = k; text = n })) (sym c.in-Mark.is)
