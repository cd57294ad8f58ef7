use Rattle.std.proofs.Common.{sym}
use Rattle.c_symbol.specs.Seen.{view_tagged}
use Rattle.c_stack.specs.Views.{view_specs_place, view_specs_read}
use Rattle.c_symbol.specs.Nodes.{view_open}
use Rattle.read_specifier.proofs.Rest.{tag_rest}
use Rattle.c_stack.proofs.Rest.{gives}
use Rattle.read_specifier.proofs.on_specifier.tag_next.Goals as goal

pub returns-in_default : goal.returns-in_default
returns-in_default c =
    let e = tag_rest c.args.id c.args.end c.args.names.now (view_open c.args.o) (view_tagged c.args.g) c.args.tag (view_specs_read c.args.ss) (view_specs_place c.args.k) c.args.y c.args.span c.in_default.not-LeftBrace in
    gives c.args.names.now c.tag_done.result _ _ (sym e) c.tag_done.ensures
