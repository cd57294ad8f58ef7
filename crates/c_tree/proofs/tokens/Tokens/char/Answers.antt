use Rattle.std.proofs.Common.{ap}
use Rattle.tok_base.specs.declared.token.Kind.TheVariants.{Char}
use Rattle.c_tree.specs.Tok.{char}
use Rattle.c_tree.proofs.Spelling.{pushed}
use Rattle.c_tree.proofs.tokens.Tokens.char.Goals as goal

pub returns : goal.returns
returns c = pushed c.push.result _ _ (char c.args.c.now) _ c.push.ensures (ap (λ s. record { kind = Char; text = s }) c.as_slice.ensures)
