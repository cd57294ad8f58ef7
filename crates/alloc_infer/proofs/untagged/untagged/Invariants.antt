use Rattle.std.specs.Prelude.{◌≡◌, map, drop, []}
use Rattle.c_tree.specs.View.{view_external}
use Rattle.alloc_infer.specs.Untagged as spec
use Rattle.alloc_infer.proofs.untagged.untagged.Given as goal

abbrev pub invariant-loop-x : goal.invariant-loop-x
invariant-loop-x l =
    spec.with_externals (map view_external l.x-items) []
    ≡ spec.with_externals (map view_external (drop l.x-index l.x-items)) l.names
