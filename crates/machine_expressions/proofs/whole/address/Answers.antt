use Rattle.machine_frames.specs.Views.{state_of}
use Rattle.machine_expressions.proofs.whole.address.Goals as goal

pub returns-in-Fixed-clause-value : goal.returns-in-Fixed-clause-value
returns-in-Fixed-clause-value c = λ bs. rw (c.in-Fixed.is) (c.fixed_address.ensures.value (state_of bs c.args.rest.now).world)

pub returns-in-Local-clause-value : goal.returns-in-Local-clause-value
returns-in-Local-clause-value c = λ bs. rw (c.in-Local.is) (c.local_address.ensures.value bs)

pub returns-in-Local-clause-given : goal.returns-in-Local-clause-given
returns-in-Local-clause-given c = λ sizes long locals. c.local_address.ensures.given sizes locals
