use Rattle.std.proofs.Common.{ap}
use Rattle.tok_base.specs.declared.token.Kind.TheVariants.{Name}
use Rattle.c_tree.specs.Tok.{name}
use Rattle.c_tree.proofs.Spelling.{pushed}
use Rattle.c_tree.proofs.tokens.Tokens.name.Goals as goal

pub returns : goal.returns
returns c = pushed c.push.result _ _ (name c.args.n.now) _ c.push.ensures (ap (λ s. record { kind = Name; text = s }) c.as_slice.ensures)
