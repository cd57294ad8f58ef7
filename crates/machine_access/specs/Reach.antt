-- The first fault of an access of bytes.
use Rattle.std.specs.Prelude.{ℕ, ◌+◌, Bool, not, ◌&&◌, nat_lt, if◌then◌else◌, Result, Ok, Err}
use Rattle.c_core.specs.declared.values.Fault.{Fault}
use Rattle.c_core.specs.declared.values.Fault.TheVariants.{Dead, Bounds, ReadOnly}
use Rattle.c_core.specs.Blocks.{Site, is_read_only}
use Rattle.block_memory.specs.declared.memory.BlockInfo.{BlockInfo}

-- a place without itself: only whether it can be accessed
abbrev pub fault_of : Result Site Fault → Result (Unit {0}) Fault
fault_of (Err fault) = Err fault
fault_of (Ok site) = Ok tt

-- any offset is a multiple of 1
abbrev pub tested_bytes : BlockInfo → (offset count : ℕ) → (writes : Bool) → Result (Unit {0}) Fault
tested_bytes b offset count writes =
    if not b.live then Err Dead
    else (if nat_lt b.size (offset + count) then Err Bounds
    else (if writes && is_read_only b.kind then Err ReadOnly
    else Ok tt))
