-- The examples, computed.
use Rattle.std.proofs.Common.{refl}
use Rattle.std.specs.Fmt.{digits}
use Rattle.call_rewriter.specs.Examples.{in_sizeof, in_builtin, nested, through_pointer, in_parens, in_initialiser, in_length, in_for}
use Rattle.call_rewriter.specs.Examples.{parameter, local, enumerator, enumerator_in_record, variable, type_name, body, reserved, member, in_brackets, undeclared}
use Rattle.call_rewriter.specs.Examples.{Calls, Hidden, NotHidden, ThreeCalls}
use Rattle.call_rewriter.specs.Examples.{three_mallocs, three_written}

pub calls : Calls
unfolding in_sizeof in_builtin nested through_pointer in_parens in_initialiser in_length in_for digits
calls = ((refl, refl), (refl, refl), (refl, refl), (refl, refl), (refl, refl), (refl, refl), (refl, refl), (refl, refl))

pub hidden : Hidden
unfolding parameter local enumerator enumerator_in_record variable type_name body reserved digits
hidden = ((refl, refl), (refl, refl), (refl, refl), (refl, refl), (refl, refl), (refl, refl), (refl, refl), (refl, refl))

pub not_hidden : NotHidden
unfolding member in_brackets undeclared digits
not_hidden = ((refl, refl), (refl, refl), (refl, refl))

pub three_calls : ThreeCalls
unfolding three_mallocs three_written digits
three_calls = refl
