use Rattle.std.proofs.Common.{◌≡◌, ◌∙◌, ap, sym}
use Rattle.c_types.specs.Arrays.{with_element}
use Rattle.c_types.specs.CTypes.{CType}
use Rattle.c_types.specs.CTypes as t
use Rattle.c_types.specs.Canonical.{qualify}
use Rattle.c_types.specs.Table.{type_at}
use Rattle.c_types.proofs.Qualifying.{raised_is}
use Rattle.c_types.proofs.table.TypeTable.array_of.Goals as goal

pub intern-requires-clause-fact : goal.intern-requires-clause-fact
intern-requires-clause-fact c =
    let known = c.const_as-fact.ensures c.args.self.now.layouts c.args.qualifiers (type_at c.args.self.now.terms c.args.array.0) (type_at c.args.self.now.terms c.args.elements.0) c.requires.is_array c.requires.raised c.fact.ensures c.fact-2.ensures in
    rw (c.term.ensures.type_is, c.in-Array.is) at known

pub intern-requires-in-Flexible-clause-fact : goal.intern-requires-in-Flexible-clause-fact
intern-requires-in-Flexible-clause-fact c =
    let known = c.const_as-fact.ensures c.args.self.now.layouts c.args.qualifiers (type_at c.args.self.now.terms c.args.array.0) (type_at c.args.self.now.terms c.args.elements.0) c.requires.is_array c.requires.raised c.fact.ensures c.fact-2.ensures in
    rw (c.term.ensures.type_is, c.in-Flexible.is) at known

pub returns-in-Array-clause-is : goal.returns-in-Array-clause-is
returns-in-Array-clause-is c =
    let u : CType = type_at c.args.self.now.terms c.args.elements.0 in
    let is = rw c.in-Array.is at c.term.ensures.type_is in
    let e : t.Array u c.in-Array.count ≡ qualify c.args.qualifiers (type_at c.args.self.now.terms c.args.array.0) =
    sym (ap (λ (s : CType). with_element s u) is) ∙ raised_is c.args.qualifiers (type_at c.args.self.now.terms c.args.array.0) u c.requires.is_array c.requires.raised in
    rw e at c.intern.ensures.is

pub returns-in-Flexible-clause-is : goal.returns-in-Flexible-clause-is
returns-in-Flexible-clause-is c =
    let u : CType = type_at c.args.self.now.terms c.args.elements.0 in
    let is = rw c.in-Flexible.is at c.term.ensures.type_is in
    let e : t.Flexible u ≡ qualify c.args.qualifiers (type_at c.args.self.now.terms c.args.array.0) =
    sym (ap (λ (s : CType). with_element s u) is) ∙ raised_is c.args.qualifiers (type_at c.args.self.now.terms c.args.array.0) u c.requires.is_array c.requires.raised in
    rw e at c.intern-in-Flexible.ensures.is
