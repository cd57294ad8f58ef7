use Rattle.c_constants.specs.Literals as literals
use Rattle.body_rules.specs.Lists.{IsGathered}
use Rattle.alloc_infer.proofs.untagged.text_bytes.Given as goal

abbrev pub invariant-loop-token : goal.invariant-loop-token
invariant-loop-token l = IsGathered literals.text_bytes l.bytes l.token-items l.token-index
