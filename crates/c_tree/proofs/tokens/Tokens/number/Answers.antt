use Rattle.std.proofs.Common.{ap}
use Rattle.tok_base.specs.declared.token.Kind.TheVariants.{Number}
use Rattle.c_tree.specs.Tok.{number}
use Rattle.c_tree.proofs.Spelling.{pushed}
use Rattle.c_tree.proofs.tokens.Tokens.number.Goals as goal

pub returns : goal.returns
returns c = pushed c.push.result _ _ (number c.args.n.now) _ c.push.ensures (ap (λ s. record { kind = Number; text = s }) c.as_slice.ensures)
