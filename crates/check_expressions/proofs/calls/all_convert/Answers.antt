use Rattle.std.proofs.Common.{◌≡◌, ◌<◌, length, sym, ap, ◌∙◌, Some, true, false, arith}
use Rattle.c_types.specs.Pieces.{without}
use Rattle.c_types.specs.Plain.{plain, parameters_of}
use Rattle.c_types.specs.Table.{type_at}
use Rattle.c_world.proofs.Growth.{extends_on}
use Rattle.expression_rules.specs.Steps.{converts_first}
use Rattle.expression_rules.specs.Typed.{typed_of}
use Rattle.check_expressions.proofs.Args.{typed_same}
use Rattle.check_expressions.proofs.Converting.{below_at, convert_true, convert_false, convert_end}
use Rattle.check_expressions.proofs.calls.all_convert.Goals as goal

pub converts_at-requires-clause-argument : goal.converts_at-requires-clause-argument
converts_at-requires-clause-argument c =
    let low : c.in-Some.argument.typed.ty.0 < length c.args.world.now.table.terms = below_at _ c.args.arguments.now c.loop-argument.place c.in-Some.argument (sym c.in-Some.ensures.value) c.requires.arguments in
    let longer = c.loop-argument.invariant.extends.grows.longer in
    omega arith

pub loop-argument-preserved : goal.loop-argument-preserved
loop-argument-preserved c =
    let i = c.loop-argument.invariant in
    let e = c.in-Ok-Some-true.ensures in
    let x = c.in-Some.argument in
    let place = c.loop-argument.place in
    let ts = c.args.world.now.table.terms in
    let ps = parameters_of (plain (type_at ts c.args.function.0)) in
    let at = sym c.in-Some.ensures.value in
    let low : x.typed.ty.0 < length ts = below_at _ c.args.arguments.now place x at c.requires.arguments in
    let first : converts_first (without place ps) (typed_of ts x.typed) ≡ Some true =
    rw (i.extends.grows.same c.args.function.0 c.requires.function, typed_same c.args.world.now.table c.loop-argument.world.table i.extends x.typed low)
    at (sym e.is ∙ c.in-Ok-Some-true.field-0-is ∙ ap Some c.in-Ok-Some-true.field-0-0-test) in
    record {
      seen = e.seen ∙ i.seen;
      extends = extends_on _ _ _ i.extends e.extends;
      rest = i.rest ∙ convert_true ps ts c.args.arguments.now place x at first;
    }

pub returns-in-Ok-Some-false-clause-is : goal.returns-in-Ok-Some-false-clause-is
returns-in-Ok-Some-false-clause-is c =
    let i = c.loop-argument.invariant in
    let e = c.in-Ok-Some-false.ensures in
    let x = c.in-Some.argument in
    let place = c.loop-argument.place in
    let ts = c.args.world.now.table.terms in
    let ps = parameters_of (plain (type_at ts c.args.function.0)) in
    let at = sym c.in-Some.ensures.value in
    let low : x.typed.ty.0 < length ts = below_at _ c.args.arguments.now place x at c.requires.arguments in
    let first : converts_first (without place ps) (typed_of ts x.typed) ≡ Some false =
    rw (i.extends.grows.same c.args.function.0 c.requires.function, typed_same c.args.world.now.table c.loop-argument.world.table i.extends x.typed low)
    at (sym e.is ∙ c.in-Ok-Some-false.field-0-is ∙ ap Some c.in-Ok-Some-false.field-0-0-test) in
    sym (i.rest ∙ convert_false ps ts c.args.arguments.now place x at first)

pub returns-clause-is : goal.returns-clause-is
returns-clause-is c =
    let i = c.loop-argument.invariant in
    let ts = c.args.world.now.table.terms in
    let ps = parameters_of (plain (type_at ts c.args.function.0)) in
    sym (i.rest ∙ convert_end ps ts c.args.arguments.now c.loop-argument.place (sym c.in_default.ensures.value))
