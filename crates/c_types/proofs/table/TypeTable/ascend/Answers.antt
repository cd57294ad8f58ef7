use Rattle.std.proofs.Common.{◌≡◌, ◌++◌, ◌∷◌, []}
use Rattle.c_types.specs.Table.{type_at}
use Rattle.c_types.proofs.Keeping.{longer_on, root_up}
use Rattle.c_types.proofs.Qualifying.{raised_last, raised_up, all_roots_front}
use Rattle.c_types.proofs.table.TypeTable.ascend.Goals as goal

pub array_with-requires-clause-array : goal.array_with-requires-clause-array
array_with-requires-clause-array c =
    let i = c.loop-level.invariant in
    let items : c.loop-level.levels.items ≡ c.pop.new.self.items ++ c.in-Some.level ∷ [] = c.in-Some.ensures.items in
    let roots = rw items at i.roots in
    root_up c.args.self.now.terms c.loop-level.self.terms c.in-Some.level.0 i.longer.grows (all_roots_front c.args.self.now.terms c.pop.new.self.items c.in-Some.level roots).1

pub array_with-requires-clause-is_array : goal.array_with-requires-clause-is_array
array_with-requires-clause-is_array c =
    let i = c.loop-level.invariant in
    let items : c.loop-level.levels.items ≡ c.pop.new.self.items ++ c.in-Some.level ∷ [] = c.in-Some.ensures.items in
    let roots = rw items at i.roots in
    let raised = rw items at i.raised in
    let l = (all_roots_front c.args.self.now.terms c.pop.new.self.items c.in-Some.level roots).1 in
    let same = i.longer.grows.same c.in-Some.level.0 l.first.below in
    rw same (raised_last c.args.self.now.terms c.args.qualifiers (type_at c.args.self.now.terms c.args.root.0) c.pop.new.self.items c.in-Some.level (type_at c.loop-level.self.terms c.loop-level.made.0) raised).0

pub array_with-requires-clause-raised : goal.array_with-requires-clause-raised
array_with-requires-clause-raised c =
    let i = c.loop-level.invariant in
    let items : c.loop-level.levels.items ≡ c.pop.new.self.items ++ c.in-Some.level ∷ [] = c.in-Some.ensures.items in
    let roots = rw items at i.roots in
    let raised = rw items at i.raised in
    let l = (all_roots_front c.args.self.now.terms c.pop.new.self.items c.in-Some.level roots).1 in
    let same = i.longer.grows.same c.in-Some.level.0 l.first.below in
    rw same (raised_last c.args.self.now.terms c.args.qualifiers (type_at c.args.self.now.terms c.args.root.0) c.pop.new.self.items c.in-Some.level (type_at c.loop-level.self.terms c.loop-level.made.0) raised).1

pub loop-level-preserved : goal.loop-level-preserved
loop-level-preserved c =
    let i = c.loop-level.invariant in
    let ts = c.args.self.now.terms in
    let items : c.loop-level.levels.items ≡ c.pop.new.self.items ++ c.in-Some.level ∷ [] = c.in-Some.ensures.items in
    let roots = rw items at i.roots in
    let raised = rw items at i.raised in
    let front = all_roots_front ts c.pop.new.self.items c.in-Some.level roots in
    let same = i.longer.grows.same c.in-Some.level.0 front.1.first.below in
    let made = rw same at c.in_ok-made.ensures.is in
    record {
      longer = longer_on c.args.self.now c.loop-level.self c.array_with.new.self i.longer c.array_with.ensures.longer;
      root = c.in_ok-made.ensures.root;
      roots = front.0;
      raised = raised_up ts c.args.qualifiers (type_at ts c.args.root.0) c.pop.new.self.items c.in-Some.level (type_at c.loop-level.self.terms c.loop-level.made.0) (type_at c.array_with.new.self.terms c.in_ok-made.made.0) raised made;
    }
