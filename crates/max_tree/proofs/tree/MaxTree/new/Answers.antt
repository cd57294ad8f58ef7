use Rattle.std.proofs.Common.{◌≡◌, ℕ, suc, ◌+◌, ◌*◌, ◌^◌, ap, ◌∙◌, arith}
use Rattle.std.proofs.Math.Nat.{pow-succ'}
use Rattle.max_tree.proofs.Above.{zero_row}
use Rattle.max_tree.proofs.tree.MaxTree.new.Goals as goal

pub loop-leaves-preserved : goal.loop-leaves-preserved
loop-leaves-preserved c =
    let n = c.loop-leaves.levels in
    let i = c.loop-leaves.invariant in
    let s : n + 1 ≡ suc n = omega arith in
    let q : 2 ^ (n + 1) ≡ 2 * 2 ^ n = ap (λ (k : ℕ). 2 ^ k) s ∙ pow-succ' 2 n in
    (omega (arith, q, i.0), omega (arith, c.loop-leaves-test.true, c.requires), omega (arith, i.2))

pub returns : goal.returns
returns c = zero_row c.args.count c.loop-leaves.leaves c.in_ok-nodes.nodes.items (omega arith) c.in_ok-nodes.ensures
