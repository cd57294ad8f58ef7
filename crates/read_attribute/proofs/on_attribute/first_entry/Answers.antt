use Rattle.std.proofs.Common.{map, ap}
use Rattle.c_reader.specs.MarkedSpecs as reader
use Rattle.c_symbol.specs.Seen.{view_symbol}
use Rattle.c_symbol.specs.Shown.{shown_entry}
use Rattle.c_stack.specs.Views.{view_in_attribute}
use Rattle.c_symbol.specs.Nodes.{view_open}
use Rattle.c_stack.proofs.Rest.{gives}
use Rattle.read_attribute.proofs.on_attribute.first_entry.Goals as goal

pub returns : goal.returns
returns c = λ env.
    let e = ap (λ xs. reader.entry_begin c.args.id env (view_open c.args.o) (view_in_attribute c.args.a) (map shown_entry xs) (view_symbol c.args.y)) c.new.ensures in
    gives env c.entry_begin.result _ _ e (c.entry_begin.ensures env)
