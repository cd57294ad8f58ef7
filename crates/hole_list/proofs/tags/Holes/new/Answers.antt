use Rattle.std.proofs.Common.{◌≡◌, ℕ, ◌+◌, ◌/◌, true, List, replicate, set, sym, ap, ◌∙◌, subst, arith}
use Rattle.hole_list.specs.Tags.{free_units, Tags}
use Rattle.hole_list.proofs.Free.{whole_free, tags_whole}
use Rattle.hole_list.proofs.tags.Holes.new.Goals as goal

pub invariant_of-result : goal.invariant_of-result
invariant_of-result c =
    let n : ℕ = c.args.size / 16 in
    let lens : c.set.new.self ≡ set (replicate (c.args.size / 16) 0) 0 (c.args.size / 16) = c.set.ensures ∙ ap (λ (l : List ℕ). set l 0 (c.args.size / 16)) c.in_ok-lens.ensures in
    subst (λ (l : List ℕ). Tags l (set c.in_ok-ends.ends.items (c.args.size / 16) (c.args.size / 16)) 1) (sym lens)
    (subst (λ (l : List ℕ). Tags (set (replicate (c.args.size / 16) 0) 0 (c.args.size / 16)) (set l (c.args.size / 16) (c.args.size / 16)) 1) (sym c.in_ok-ends.ensures)
    (tags_whole (c.args.size / 16) (omega (arith, c.requires.least, c.requires.multiple)) (omega (arith, c.requires.most))))

pub returns : goal.returns
returns c =
    let lens : c.set.new.self ≡ set (replicate (c.args.size / 16) 0) 0 (c.args.size / 16) = c.set.ensures ∙ ap (λ (l : List ℕ). set l 0 (c.args.size / 16)) c.in_ok-lens.ensures in
    ap (λ (l : List ℕ). free_units 0 l) lens ∙ whole_free (c.args.size / 16) (omega (arith, c.requires.least, c.requires.multiple))
