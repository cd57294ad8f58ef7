-- Two bytes are read and compared.
use Rattle.std.specs.Prelude.{ℕ, nat_lt, if◌then◌else◌, ℤ, pos, negsuc, Result, Ok}
use Rattle.c_core.specs.declared.values.Fault.{Fault}
use Rattle.c_core.specs.declared.values.Pointer.{Pointer}
use Rattle.c_core.specs.Blocks.{Blocks}
use Rattle.c_meaning.specs.Rules.{if_ok}
use Rattle.c_meaning.specs.Storage.{byte_at}

abbrev pub order_of : (a b : ℕ) → ℤ
order_of a b = if nat_lt a b then negsuc 0 else (if nat_lt b a then pos 1 else pos 0)

abbrev pub second_read : Blocks → Pointer → (at a : ℕ) → Result ℤ Fault
second_read bs q at a = if_ok (byte_at bs q at) (λ b. Ok (order_of a b))

-- the first one is read first
abbrev pub both_read : Blocks → (p q : Pointer) → (at : ℕ) → Result ℤ Fault
both_read bs p q at = if_ok (byte_at bs p at) (λ a. second_read bs q at a)
