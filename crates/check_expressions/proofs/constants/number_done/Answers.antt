use Rattle.std.proofs.Common.{◌≡◌, Some, ap, arith}
use Rattle.num_ops.specs.Numbers.{Number}
use Rattle.std.proofs.lemmas.Int.{ints}
use mir.Val.{to_z, of_z}
use mir.Syntax.{w128}
use Rattle.c_types.specs.CTypes.{Int}
use Rattle.c_rules.specs.Forms as forms
use Rattle.c_rules.specs.Typed.{constant_of, is}
use Rattle.c_rules.specs.World.{note_constant}
use Rattle.c_rules.specs.declared.known.ConstantValue.TheVariants as val
use Rattle.c_world.specs.Seen.{seen}
use Rattle.expression_rules.specs.Typed.{typed_of}
use Rattle.check_expressions.proofs.Giving.{changed}
use Rattle.check_expressions.proofs.constants.number_done.Goals as goal

pub returns-clause-gives : goal.returns-clause-gives
returns-clause-gives c =
    let same : to_z w128 (of_z w128 c.number.inside.value) ≡ c.number.inside.value = omega (arith, ints) in
    let kind : c.number.inside.kind ≡ c.args.number.kind = ap (λ (n : Number). n.kind) c.number.view_is in
    let value : c.number.inside.value ≡ c.args.number.value = ap (λ (n : Number). n.value) c.number.view_is in
    changed (forms.done c.args.at (constant_of (Int c.args.number.kind) (is c.args.number.value)))
    (seen c.args.world.now) (typed_of c.done_int.new.world.table.terms) (seen c.done_int.new.world) c.done_int.result
    (note_constant c.args.at.id (Some (val.Number c.args.number.value)))
    (rw (c.of_int.ensures, c.note_constant.ensures.seen, same, kind, value) at c.done_int.ensures.gives)
