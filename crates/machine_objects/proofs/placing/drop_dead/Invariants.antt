use Rattle.std.proofs.Common.{ℕ, List, length, vec_len}
use Rattle.c_meaning.specs.declared.log.LogEntry.{LogEntry}
use Rattle.range_heap.specs.Seen.{AllHeaps}
use Rattle.machine_state.specs.Stands.{Stands, stands_of, AreLow}
use Rattle.machine_state.specs.State.{spots_of}
use Rattle.machine_objects.proofs.placing.drop_dead.Given as goal

abbrev pub invariant-dead : goal.invariant-dead
invariant-dead g l =
    let bs = g.M.Memory.blocks l.memory in
    let starts = g.M.Memory.starts l.memory in
    AreLow (length bs) (spots_of l.region.items)
    × ((top : ℕ) (all : AllHeaps) (log : List LogEntry) → Stands top all (spots_of l.initial.region.items) log (stands_of bs starts) → Stands top all (spots_of l.region.items) log (stands_of bs starts))

abbrev pub decreases-dead : goal.decreases-dead
decreases-dead g l = vec_len l.region
