use Rattle.machine_expressions.proofs.whole.constant.Goals as goal

pub returns-in-Int-clause-given : goal.returns-in-Int-clause-given
returns-in-Int-clause-given c = λ sizes. c.gives.ensures.given sizes tt

pub returns-in-Ptr-Null-clause-given : goal.returns-in-Ptr-Null-clause-given
returns-in-Ptr-Null-clause-given c = λ sizes. c.gives-in-Ptr-Null.ensures.given sizes tt

pub returns-in-Ptr-Function-clause-given : goal.returns-in-Ptr-Function-clause-given
returns-in-Ptr-Function-clause-given c = λ sizes. c.gives-in-Ptr-Function.ensures.given sizes tt
