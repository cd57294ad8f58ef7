use Rattle.std.proofs.Common.{ap}
use Rattle.tok_base.specs.declared.token.Kind.TheVariants.{Text}
use Rattle.c_tree.specs.Tok.{text}
use Rattle.c_tree.proofs.Spelling.{pushed}
use Rattle.c_tree.proofs.tokens.Tokens.text.Goals as goal

pub returns : goal.returns
returns c = pushed c.push.result _ _ (text c.args.s.now) _ c.push.ensures (ap (λ s. record { kind = Text; text = s }) c.as_slice.ensures)
