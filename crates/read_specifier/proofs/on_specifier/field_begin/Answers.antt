use Rattle.std.proofs.Common.{sym}
use Rattle.c_stack.specs.Views.{view_in_fields}
use Rattle.read_specifier.proofs.Rest.{field_rest}
use Rattle.c_stack.proofs.Rest.{gives}
use Rattle.read_specifier.proofs.on_specifier.field_begin.Goals as goal

pub returns-in_default : goal.returns-in_default
returns-in_default c =
    let e = field_rest c.args.id c.args.names.now (view_in_fields c.args.f) c.args.y c.args.span c.in_default.not-RightBrace in
    gives c.args.names.now c.field_specs.result _ _ (sym e) c.field_specs.ensures
