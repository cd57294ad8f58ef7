use Rattle.check_expressions.proofs.Parameters.{none_of, some_of, below_of}
use Rattle.check_expressions.proofs.calls.parameter_at.Goals as goal

pub returns-clause-none : goal.returns-clause-none
returns-clause-none c = none_of _ _ c.args.place _ _ c.item_at.ensures c.parameters_of.ensures.are

pub returns-clause-some : goal.returns-clause-some
returns-clause-some c = some_of _ _ c.args.place _ _ c.item_at.ensures c.parameters_of.ensures.are

pub returns-clause-valid : goal.returns-clause-valid
returns-clause-valid c = below_of _ _ c.args.place _ c.item_at.ensures c.parameters_of.ensures.valid
