use Rattle.std.proofs.Common.{◌≡◌, ◌∙◌}
use Rattle.c_types.specs.Table.{term_type}
use Rattle.c_types.proofs.Keeping.{root_term_below, root_term_up, term_up, longer_on}
use Rattle.c_types.proofs.table.TypeTable.intern.Goals as goal

pub put_root-requires-clause-roots : goal.put_root-requires-clause-roots
put_root-requires-clause-roots c = root_term_up c.args.self.now.terms c.ints_of.new.self.terms c.args.term c.ints_of.ensures.longer.grows c.requires.roots

pub put_root-requires-clause-numbers : goal.put_root-requires-clause-numbers
put_root-requires-clause-numbers c = rw (c.ints_of.ensures.longer.records, c.ints_of.ensures.longer.enums) c.requires.numbers

pub put_root-requires-clause-fact : goal.put_root-requires-clause-fact
put_root-requires-clause-fact c =
    let same : term_type c.ints_of.new.self.terms c.args.term ≡ term_type c.args.self.now.terms c.args.term = term_up c.args.self.now.terms c.ints_of.new.self.terms c.args.term c.ints_of.ensures.longer.grows (root_term_below c.args.self.now.terms c.args.term c.requires.roots) in
    rw (c.ints_of.ensures.longer.layouts, same) c.requires.fact

pub put_root-requires-clause-other : goal.put_root-requires-clause-other
put_root-requires-clause-other c =
    let same : term_type c.ints_of.new.self.terms c.args.term ≡ term_type c.args.self.now.terms c.args.term = term_up c.args.self.now.terms c.ints_of.new.self.terms c.args.term c.ints_of.ensures.longer.grows (root_term_below c.args.self.now.terms c.args.term c.requires.roots) in
    rw same c.in_ok-ints.ensures.some

pub put_root-requires-clause-own : goal.put_root-requires-clause-own
put_root-requires-clause-own c =
    let same : term_type c.ints_of.new.self.terms c.args.term ≡ term_type c.args.self.now.terms c.args.term = term_up c.args.self.now.terms c.ints_of.new.self.terms c.args.term c.ints_of.ensures.longer.grows (root_term_below c.args.self.now.terms c.args.term c.requires.roots) in
    rw same c.in_ok-ints.ensures.none

pub returns-clause-is : goal.returns-clause-is
returns-clause-is c =
    let same : term_type c.ints_of.new.self.terms c.args.term ≡ term_type c.args.self.now.terms c.args.term = term_up c.args.self.now.terms c.ints_of.new.self.terms c.args.term c.ints_of.ensures.longer.grows (root_term_below c.args.self.now.terms c.args.term c.requires.roots) in
    rw same at c.put_root.ensures.is

pub returns-clause-longer : goal.returns-clause-longer
returns-clause-longer c = longer_on c.args.self.now c.ints_of.new.self c.put_root.new.self c.ints_of.ensures.longer c.put_root.ensures.longer
