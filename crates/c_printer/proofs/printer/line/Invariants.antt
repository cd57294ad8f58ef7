use Rattle.std.proofs.Common.{◌≡◌, ◌++◌, ◌∷◌, [], drop}
use Rattle.std.specs.List.{flat_map}
use Rattle.c_printer.proofs.printer.line.Given as goal

abbrev pub invariant-loop-token : goal.invariant-loop-token
invariant-loop-token l =
    l.text.items ++ flat_map (λ t. 32 ∷ [] ++ t.text) (drop l.token-index l.more) ≡ l.initial.text.items ++ flat_map (λ t. 32 ∷ [] ++ t.text) l.more
