use Rattle.std.proofs.Common.{ap}
use Rattle.tok_base.specs.declared.token.Kind.TheVariants.{Word}
use Rattle.c_tree.specs.Tok.{word}
use Rattle.c_tree.specs.Spelling.{word_of}
use Rattle.c_tree.proofs.Spelling.{pushed}
use Rattle.c_tree.proofs.tokens.Tokens.word.Goals as goal

pub returns : goal.returns
returns c = pushed c.push.result _ _ (word (word_of c.args.w)) _ c.push.ensures (ap (λ s. record { kind = Word; text = s }) c.word_spelling.ensures)
