-- What a constant's fields mean, and the numbers that it holds.
use Rattle.std.specs.Prelude.{ℤ, pos, negsuc, ◌≤ℤ◌, ◌<ℤ◌, ◌≡◌, refl}
use Rattle.c_rules.specs.Typed.{Constant, varies, undefined, is}
use Rattle.constant_values.specs.declared.constant.State.{State}
use Rattle.constant_values.specs.declared.constant.State.TheVariants as state

abbrev pub held : State → Constant
held state.Varies = varies
held state.Undefined = undefined
held (state.Is z) = is z

abbrev pub state_of : Constant → State
state_of varies = state.Varies
state_of undefined = state.Undefined
state_of (is z) = state.Is z

pub state_back : (s : State) → state_of (held s) ≡ s
state_back state.Varies = refl
state_back state.Undefined = refl
state_back (state.Is z) = refl

-- a number of long or of unsigned long, and so of any kind
pub record IsBounded (z : ℤ) : Type 0 where
  pub low : negsuc 9223372036854775807 ≤ℤ z
  pub high : z <ℤ pos 18446744073709551616

abbrev pub AreBounded : State → Type 0
AreBounded (state.Is z) = IsBounded z
AreBounded state.Varies = Unit {0}
AreBounded state.Undefined = Unit {0}
