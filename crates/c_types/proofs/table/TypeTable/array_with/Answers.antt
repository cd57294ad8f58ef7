use Rattle.std.proofs.Common.{◌≡◌, ◌∙◌, ap, sym}
use Rattle.c_types.specs.Canonical.{canonical, qualify}
use Rattle.c_types.specs.Table.{type_at}
use Rattle.c_types.proofs.Keeping.{root_up, longer_on}
use Rattle.c_types.proofs.table.TypeTable.array_with.Goals as goal

pub put_behind-requires-clause-canonical : goal.put_behind-requires-clause-canonical
put_behind-requires-clause-canonical c =
    let same : type_at c.array_of.new.self.terms c.args.array.0 ≡ type_at c.args.self.now.terms c.args.array.0 = c.array_of.ensures.longer.grows.same c.args.array.0 c.requires.array.first.below in
    c.in_ok-made.ensures.is ∙ ap (qualify c.args.qualifiers) (sym c.requires.array.fixed ∙ ap canonical (sym same))

pub returns-clause-is : goal.returns-clause-is
returns-clause-is c = c.put_behind.ensures.longer.grows.same c.in_ok-made.made.0 c.in_ok-made.ensures.root.first.below ∙ c.in_ok-made.ensures.is

pub returns-clause-root : goal.returns-clause-root
returns-clause-root c = root_up c.array_of.new.self.terms c.put_behind.new.self.terms c.in_ok-made.made.0 c.put_behind.ensures.longer.grows c.in_ok-made.ensures.root

pub returns-clause-longer : goal.returns-clause-longer
returns-clause-longer c = longer_on c.args.self.now c.array_of.new.self c.put_behind.new.self c.array_of.ensures.longer c.put_behind.ensures.longer
