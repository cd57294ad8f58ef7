use Rattle.std.proofs.Common.{◌≡◌, ◌++◌, map, take}
use Rattle.c_types.specs.declared.terms.TypeId.{TypeId}
use Rattle.c_types.proofs.keys.append_ids.Given as goal

abbrev pub invariant-loop-id : goal.invariant-loop-id
invariant-loop-id l = l.key.items ≡ l.fn.key.items ++ map (λ (p : TypeId). p.0) (take l.id-index l.ids)
