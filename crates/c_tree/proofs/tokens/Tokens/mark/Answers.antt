use Rattle.std.proofs.Common.{ap}
use Rattle.tok_base.specs.declared.token.Kind.TheVariants.{Mark}
use Rattle.c_tree.specs.Tok.{mark}
use Rattle.c_tree.specs.Spelling.{mark_of}
use Rattle.c_tree.proofs.Spelling.{pushed}
use Rattle.c_tree.proofs.tokens.Tokens.mark.Goals as goal

pub returns : goal.returns
returns c = pushed c.push.result _ _ (mark (mark_of c.args.m)) _ c.push.ensures (ap (λ s. record { kind = Mark; text = s }) c.mark_spelling.ensures)
