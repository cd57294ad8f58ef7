use Rattle.std.proofs.Common.{◌≡◌, Some, arith}
use Rattle.std.proofs.lemmas.Int.{ints}
use mir.Val.{to_z, of_z}
use mir.Syntax.{w32, w128}
use Rattle.num_ops.specs.declared.kinds.IntKind.TheVariants as k
use Rattle.c_types.specs.CTypes.{Int}
use Rattle.c_constants.specs.Literals.{char_value}
use Rattle.c_rules.specs.Forms as forms
use Rattle.c_rules.specs.Typed.{constant_of, is}
use Rattle.c_rules.specs.World.{note_constant}
use Rattle.c_rules.specs.declared.known.ConstantValue.TheVariants as val
use Rattle.c_world.specs.Seen.{seen}
use Rattle.expression_rules.specs.Typed.{typed_of}
use Rattle.check_expressions.proofs.Giving.{changed}
use Rattle.check_expressions.proofs.constants.judge_char.Goals as goal

pub returns-clause-gives : goal.returns-clause-gives
returns-clause-gives c =
    let v = c.char_value-value.result in
    let same : to_z w32 (of_z w32 v) ≡ v = omega (arith, ints) in
    let wider : to_z w128 (of_z w128 v) ≡ v = omega (arith, ints) in
    changed (forms.done c.args.at (constant_of (Int k.Int) (is (char_value c.args.text.now))))
    (seen c.args.world.now) (typed_of c.done_int.new.world.table.terms) (seen c.done_int.new.world) c.done_int.result
    (note_constant c.args.at.id (Some (val.Number (char_value c.args.text.now))))
    (rw (c.of_i32.ensures, c.note_constant.ensures.seen, same, wider, c.char_value-value.ensures) at c.done_int.ensures.gives)
