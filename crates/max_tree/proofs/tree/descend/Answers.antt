use Rattle.std.proofs.Common.{◌≡◌, ℕ, ◌-◌, ◌^◌, ◌<◌, ◌≤◌, ap, sym, subst, arith}
use Rattle.max_tree.proofs.Above.{above, at_root, at_child, inner}
use Rattle.max_tree.proofs.tree.descend.Goals as goal

pub loop-level-init : goal.loop-level-init
loop-level-init c = at_root c.args.leaves c.args.levels c.args.least c.args.nodes.now c.requires.power c.requires.some

pub child-node-requires : goal.child-node-requires
child-node-requires c =
    let i = c.loop-level.invariant in
    let low = inner c.args.leaves c.args.levels c.loop-level._level c.loop-level.node c.requires.power c.loop-level-test.true i.1 in
    record { inside = omega (arith, low, c.requires.tree.size); small = omega (arith, low, c.requires.small) }

pub loop-level-preserved : goal.loop-level-preserved
loop-level-preserved c = at_child c.args.leaves c.args.levels c.loop-level._level c.loop-level.node c.args.least c.child-node.result c.args.nodes.now c.requires.tree c.requires.power c.loop-level-test.true c.loop-level.invariant c.child-node.ensures

pub returns-clause-first : goal.returns-clause-first
returns-clause-first c = λ j le lt.
    let i = c.loop-level.invariant in
    let e : c.args.levels - c.loop-level._level ≡ 0 = omega arith in
    let same : c.loop-level._level ≡ c.args.levels = omega arith in
    let q : 2 ^ c.loop-level._level ≡ 2 ^ c.args.levels = ap (λ (k : ℕ). 2 ^ k) same in
    i.4 j le (omega (arith, lt, i.1, q, c.requires.power)) (subst (λ (h : ℕ). above h j < c.loop-level.node) (sym e) lt)
