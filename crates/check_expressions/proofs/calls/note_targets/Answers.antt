use Rattle.std.proofs.Common.{◌≡◌, ◌+◌, sym, ◌∙◌}
use Rattle.c_types.specs.CTypes.{no_types, one_type}
use Rattle.c_types.specs.Pieces.{without}
use Rattle.c_types.specs.Plain.{plain, parameters_of}
use Rattle.c_types.specs.Table.{type_at}
use Rattle.c_world.specs.Seen.{seen}
use Rattle.check_expressions.proofs.Converting.{target_step, target_none, target_end}
use Rattle.check_expressions.proofs.calls.note_targets.Goals as goal

pub loop-argument-preserved : goal.loop-argument-preserved
loop-argument-preserved c =
    let i = c.loop-argument.invariant in
    let ts = c.args.world.now.table.terms in
    let ps = parameters_of (plain (type_at ts c.args.function.0)) in
    let p = type_at ts c.in-Some-parameter_at.parameter.0 in
    let place = c.loop-argument.place in
    let some : without place ps ≡ one_type p (without (place + 1) ps) = rw i.same at c.in-Some-parameter_at.ensures.some in
    record {
      same = c.note_target.ensures.same ∙ i.same;
      rest = i.rest ∙ target_step ps ts c.args.arguments.now place (seen c.loop-argument.world) c.in-Some.argument p (without (place + 1) ps) (sym c.in-Some.ensures.value) some
          ∙ rw (c.note_target.ensures.seen, i.same);
    }

pub returns-in-None-clause-seen : goal.returns-in-None-clause-seen
returns-in-None-clause-seen c =
    let i = c.loop-argument.invariant in
    let ts = c.args.world.now.table.terms in
    let ps = parameters_of (plain (type_at ts c.args.function.0)) in
    let none : without c.loop-argument.place ps ≡ no_types = rw i.same at c.in-None.ensures.none in
    sym (i.rest ∙ target_none ps ts c.args.arguments.now c.loop-argument.place (seen c.loop-argument.world) none)

pub returns-clause-seen : goal.returns-clause-seen
returns-clause-seen c =
    let i = c.loop-argument.invariant in
    let ts = c.args.world.now.table.terms in
    let ps = parameters_of (plain (type_at ts c.args.function.0)) in
    sym (i.rest ∙ target_end ps ts c.args.arguments.now c.loop-argument.place (seen c.loop-argument.world) (sym c.in_default.ensures.value))
