-- What holds of each unit.
use Rattle.std.specs.Prelude.{◌≡◌, List}
use Rattle.c_tree.specs.Marked.{External}
use Rattle.c_tree.specs.Bare.{bare_unit}
use Rattle.c_tree.specs.Places.{IsNumbered}
use Rattle.c_rules.specs.Known.{Known}
use Rattle.token_modes.specs.declared.plan.Plan.{Plan}
use Rattle.tag_rules.specs.Tokens.{Stream}
use Rattle.tag_rules.specs.Renumbered.{renumbered}
use Rattle.tag_rules.specs.Tagged.{tagged}
use Rattle.tag_rules.specs.declared.abi.Abi.{Abi}

-- the nodes of what a unit becomes have the numbers 0, 1, 2 .., each once, in the order in which they end
abbrev pub NumbersCount : Type 0
NumbersCount = (known : Known) (plan : Plan) (abi : Abi) (stream : Stream) (u : List External) → IsNumbered (tagged known plan abi stream u)

-- and numbering changes nothing but the numbers
abbrev pub TreeIsKept : Type 0
TreeIsKept = (u : List External) → bare_unit (renumbered u) ≡ bare_unit u
