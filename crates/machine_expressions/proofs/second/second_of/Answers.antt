use Rattle.std.proofs.Common.{List, sym, subst}
use Rattle.c_core.specs.declared.values.Value.{Value}
use Rattle.machine_frames.specs.Held.{AreGivenValues}
use Rattle.machine_frames.specs.Views.{values_of}
use Rattle.machine_expressions.proofs.second.second_of.Goals as goal

pub returns-in-Some-clause-run : goal.returns-in-Some-clause-run
returns-in-Some-clause-run g c = λ p marks r. rw (c.in-Some.ensures.values, c.take.ensures.frames) (c.second_given.ensures.run p marks r _)

pub returns-in-None-clause-values : goal.returns-in-None-clause-values
returns-in-None-clause-values g c = subst (λ (vs : List Value). AreGivenValues (g.M.Memory.sizes c.args.memory.now) (values_of vs)) (sym c.in-None.ensures.none) c.requires.values
