-- Outcomes of integers, as the rules have them.
use Rattle.std.proofs.Common.{◌≡◌, ℤ, Result, Ok, Err}
use Rattle.num_ops.specs.declared.kinds.IntKind.{IntKind}
use Rattle.num_ops.specs.declared.arithmetic.Undefined.{Undefined}
use Rattle.num_ops.specs.Numbers.{Number}
use Rattle.num_ops.specs.Arithmetic.{outcome}
use Rattle.c_core.specs.declared.values.Value.TheVariants as value
use Rattle.c_meaning.specs.Rules.{number_value, undefined_reason}

pub ok_outcome : (kind : IntKind) (r : Result ℤ Undefined) (n : Number) → outcome kind r ≡ Ok n → number_value kind r ≡ Ok (value.Int n)
ok_outcome kind (Ok z) n h = cc
ok_outcome kind (Err cause) n h = absurd (let f : Err cause ≡ Ok n = h in cc)

pub err_outcome : (kind : IntKind) (r : Result ℤ Undefined) (cause : Undefined) → outcome kind r ≡ Err cause → number_value kind r ≡ Err (undefined_reason cause)
err_outcome kind (Ok z) cause h = absurd (let f : Ok (record { kind = kind; value = z }) ≡ Err cause = h in cc)
err_outcome kind (Err other) cause h = cc

pub ruleset outcomes = (ok_outcome, err_outcome)
