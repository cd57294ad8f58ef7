use Rattle.std.proofs.Common.{◌≡◌, ◌∙◌, ap, sym}
use Rattle.c_types.specs.Compatible.{with_ints}
use Rattle.c_types.specs.Roots.{is_bare}
use Rattle.c_types.specs.Table.{type_at}
use Rattle.c_types.proofs.Comparing.{ints_twice, ints_bare}
use Rattle.c_types.proofs.table.TypeTable.ints_at.Goals as goal

pub returns-clause-is : goal.returns-clause-is
returns-clause-is c = c.ints.ensures.is ∙ ap with_ints c.requires.fixed

pub returns-clause-bare : goal.returns-clause-bare
returns-clause-bare c =
    let is : type_at c.args.self.now.terms c.ints.result.0 ≡ with_ints (type_at c.args.self.now.terms c.args.root.0) = c.ints.ensures.is ∙ ap with_ints c.requires.fixed in
    λ b. rw is (ints_bare (type_at c.args.self.now.terms c.args.root.0) b)

pub returns-clause-done : goal.returns-clause-done
returns-clause-done c =
    let is : type_at c.args.self.now.terms c.ints.result.0 ≡ with_ints (type_at c.args.self.now.terms c.args.root.0) = c.ints.ensures.is ∙ ap with_ints c.requires.fixed in
    rw is (ints_twice (type_at c.args.self.now.terms c.args.root.0))
