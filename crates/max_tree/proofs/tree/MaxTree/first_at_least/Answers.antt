use Rattle.std.proofs.Common.{◌≡◌, ℕ, ◌+◌, ◌<◌, List, get_or, subst, sym, ◌∙◌, ap, arith}
use Rattle.max_tree.proofs.Above.{row_get, row_below, root_greatest}
use Rattle.max_tree.proofs.tree.MaxTree.first_at_least.Goals as goal

pub returns-then-nodes-least-clause-none : goal.returns-then-nodes-least-clause-none
returns-then-nodes-least-clause-none c = λ k.
    let i = c.self.inside in
    subst (λ (l : List ℕ). get_or l k 0 < c.args.least) c.self.view_is
    (row_below i.count i.leaves c.args.least i.nodes.items c.requires
    (λ j le lt.
    let root = root_greatest i.leaves i.levels i.nodes.items c.self.invariant.tree c.self.invariant.power j le (omega (arith, lt, c.self.invariant.enough)) in
    let small : get_or i.nodes.items 1 0 < c.args.least = subst (λ (l : List ℕ). get_or l 1 0 < c.args.least) c.as_slice-nodes.ensures.value c.if-nodes-least.true in
    omega (arith, root, small)) k)

pub returns-then-at-self-clause-first : goal.returns-then-at-self-clause-first
returns-then-at-self-clause-first c = λ k lt.
    let i = c.self.inside in
    let within : k < i.count = omega arith in
    let e = row_get i.count i.leaves i.nodes.items k within in
    let h = c.descend.ensures.first (i.leaves + k) (omega arith) (omega (arith, lt)) in
    let g : get_or i.nodes.items (i.leaves + k) 0 < c.args.least = subst (λ (l : List ℕ). get_or l (i.leaves + k) 0 < c.args.least) c.as_slice-nodes.ensures.value h in
    subst (λ (l : List ℕ). get_or l k 0 < c.args.least) c.self.view_is (omega (arith, e, g))

pub returns-else-at-self-clause-none : goal.returns-else-at-self-clause-none
returns-else-at-self-clause-none c = λ k.
    let i = c.self.inside in
    subst (λ (l : List ℕ). get_or l k 0 < c.args.least) c.self.view_is
    (row_below i.count i.leaves c.args.least i.nodes.items c.requires
    (λ j le lt.
    let at = c.if-at-self.false in
    subst (λ (l : List ℕ). get_or l j 0 < c.args.least) c.as_slice-nodes.ensures.value (c.descend.ensures.first j le (omega (arith, lt, at)))) k)
