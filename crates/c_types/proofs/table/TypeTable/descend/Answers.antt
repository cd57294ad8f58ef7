use Rattle.std.proofs.Common.{◌≡◌, ◌++◌, ◌∷◌, [], rules}
use Rattle.c_types.specs.Table.{type_at}
use Rattle.c_types.proofs.Qualifying.{path_more, all_roots_more}
use Rattle.c_types.proofs.table.TypeTable.descend.Goals as goal

pub loop-element-preserved : goal.loop-element-preserved
loop-element-preserved c =
    let i = c.loop-element.invariant in
    let items : c.push.new.self.items ≡ c.loop-element.levels.items ++ c.loop-element.at ∷ [] = search rules in
    let ts = c.args.self.now.terms in
    record {
      root = c.in-Some.ensures.root;
      path = rw items (path_more ts (type_at ts c.args.root.0) c.loop-element.levels.items c.loop-element.at (type_at ts c.loop-element.at.0) (type_at ts c.in-Some.element.0) i.path (λ j. type_at ts c.loop-element.at.0) c.in-Some.ensures.array.0 c.in-Some.ensures.array.1);
      roots = rw items (all_roots_more ts c.loop-element.levels.items c.loop-element.at i.roots i.root);
    }
