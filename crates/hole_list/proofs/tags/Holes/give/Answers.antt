use Rattle.std.proofs.Common.{◌≡◌, ℕ, ◌+◌, ◌-◌, ◌*◌, ◌/◌, ◌%◌, ◌<◌, ◌≤◌, min, Bool, true, List, length, get_or, set, refl, sym, ap, ◌∙◌, subst, arith}
use Rattle.std.proofs.lemmas.List.{set_comm}
use Rattle.hole_list.specs.Units.{Marked}
use Rattle.hole_list.specs.Tags.{free_units, Tags}
use Rattle.hole_list.proofs.Free.{length_free}
use Rattle.hole_list.proofs.Taking.{marks_at}
use Rattle.hole_list.proofs.Giving.{Gave, gave_seen}
use Rattle.hole_list.proofs.tags.Holes.give.Goals as goal

within : (lens : List ℕ) (units : List Bool) (place len : ℕ) → free_units 0 lens ≡ units → 0 < len → place % 16 ≡ 0 → len % 16 ≡ 0 → place + len ≤ 16 * length units → place / 16 + len / 16 ≤ length lens
within lens units place len view some p q inside =
    let long : length lens ≡ length units = sym (length_free 0 lens) ∙ ap (λ (us : List Bool). length us) view in
    omega (arith, long, inside, p, q)

pub index-below-requires : goal.index-below-requires
index-below-requires c =
    let i = c.self.inside in
    let w = within i.lens c.args.self.now c.args.place c.args.len c.self.view_is c.requires.positive c.requires.at_unit c.requires.multiple c.requires.inside in
    let more = c.self.invariant.more in
    omega (arith, w, more, i.ends.ok.0)

pub overflow_add-joined : goal.overflow_add-joined
overflow_add-joined c =
    let i = c.self.inside in
    let g = gave_seen i.lens i.ends.items i.count c.args.self.now c.self.invariant c.self.view_is c.args.place c.args.len c.index-below.result.now c.get-above.result c.requires.positive c.requires.at_unit c.requires.multiple c.requires.inside c.requires.taken c.index-below.ensures c.get-above.ensures in
    let lower = g.lower in
    let upper = g.upper in
    let small = c.self.invariant.small in
    omega (arith, lower, upper, small)

pub overflow_add-joined-2 : goal.overflow_add-joined-2
overflow_add-joined-2 c =
    let i = c.self.inside in
    let g = gave_seen i.lens i.ends.items i.count c.args.self.now c.self.invariant c.self.view_is c.args.place c.args.len c.index-below.result.now c.get-above.result c.requires.positive c.requires.at_unit c.requires.multiple c.requires.inside c.requires.taken c.index-below.ensures c.get-above.ensures in
    let lower = g.lower in
    let upper = g.upper in
    let small = c.self.invariant.small in
    omega (arith, lower, upper, small)

pub overflow_sub-start : goal.overflow_sub-start
overflow_sub-start c =
    let i = c.self.inside in
    let g = gave_seen i.lens i.ends.items i.count c.args.self.now c.self.invariant c.self.view_is c.args.place c.args.len c.index-below.result.now c.get-above.result c.requires.positive c.requires.at_unit c.requires.multiple c.requires.inside c.requires.taken c.index-below.ensures c.get-above.ensures in
    g.lower

pub index_mut-requires : goal.index_mut-requires
index_mut-requires c =
    let i = c.self.inside in
    let w = within i.lens c.args.self.now c.args.place c.args.len c.self.view_is c.requires.positive c.requires.at_unit c.requires.multiple c.requires.inside in
    let more = c.self.invariant.more in
    omega (arith, w, more, i.ends.ok.0)

pub index_mut-requires-2 : goal.index_mut-requires-2
index_mut-requires-2 c =
    let i = c.self.inside in
    let g = gave_seen i.lens i.ends.items i.count c.args.self.now c.self.invariant c.self.view_is c.args.place c.args.len c.index-below.result.now c.get-above.result c.requires.positive c.requires.at_unit c.requires.multiple c.requires.inside c.requires.taken c.index-below.ensures c.get-above.ensures in
    let upper = g.upper in
    let more = c.self.invariant.more in
    omega (arith, upper, more, i.ends.ok.0)

pub overflow_add-self : goal.overflow_add-self
overflow_add-self c =
    let i = c.self.inside in
    let g = gave_seen i.lens i.ends.items i.count c.args.self.now c.self.invariant c.self.view_is c.args.place c.args.len c.index-below.result.now c.get-above.result c.requires.positive c.requires.at_unit c.requires.multiple c.requires.inside c.requires.taken c.index-below.ensures c.get-above.ensures in
    let fits = g.fits in
    omega (arith, fits)

pub overflow_sub-self-2 : goal.overflow_sub-self-2
overflow_sub-self-2 c =
    let i = c.self.inside in
    let g = gave_seen i.lens i.ends.items i.count c.args.self.now c.self.invariant c.self.view_is c.args.place c.args.len c.index-below.result.now c.get-above.result c.requires.positive c.requires.at_unit c.requires.multiple c.requires.inside c.requires.taken c.index-below.ensures c.get-above.ensures in
    let counted = g.counted in
    let a = c.min.ensures in
    let b = c.min-2.ensures in
    omega (arith, counted, a, b)

-- the hole that is made is written before the one behind goes
joined_first : (lens : List ℕ) (s len below joined : ℕ) → 0 < len → len % 16 ≡ 0 → set (set lens (s - below) joined) (s + len / 16) 0 ≡ set (set lens (s + len / 16) 0) (s - below) joined
joined_first lens s len below joined some mult = set_comm lens (s - below) (s + len / 16) joined 0 (λ e. omega (arith, e, some, mult))

tags_here : (lens ends : List ℕ) (count s n below above : ℕ) (row : List ℕ) (one two : ℕ) → Gave lens ends count s n below above → row ≡ set (set lens (s + n) 0) (s - below) (below + n + above) → one ≡ min below 1 → two ≡ min above 1 → Tags row (set (set ends s 0) (s + n + above) (below + n + above)) (count + 1 - one - two)
tags_here lens ends count s n below above row one two g e p q =
    subst (λ (l : List ℕ). Tags l (set (set ends s 0) (s + n + above) (below + n + above)) (count + 1 - one - two)) (sym e)
    (subst (λ (k : ℕ). Tags (set (set lens (s + n) 0) (s - below) (below + n + above)) (set (set ends s 0) (s + n + above) (below + n + above)) (count + 1 - k - two)) (sym p)
    (subst (λ (k : ℕ). Tags (set (set lens (s + n) 0) (s - below) (below + n + above)) (set (set ends s 0) (s + n + above) (below + n + above)) (count + 1 - min below 1 - k)) (sym q) g.tags))

pub invariant_of-self : goal.invariant_of-self
invariant_of-self c =
    let i = c.self.inside in
    let g = gave_seen i.lens i.ends.items i.count c.args.self.now c.self.invariant c.self.view_is c.args.place c.args.len c.index-below.result.now c.get-above.result c.requires.positive c.requires.at_unit c.requires.multiple c.requires.inside c.requires.taken c.index-below.ensures c.get-above.ensures in
    tags_here i.lens i.ends.items i.count (c.args.place / 16) (c.args.len / 16) c.index-below.result.now c.get-above.result c.set-2.new.self c.min.result c.min-2.result g
    (c.set-2.ensures ∙ ap (λ (l : List ℕ). set l (c.args.place / 16 + c.args.len / 16) 0) c.set.ensures ∙ joined_first i.lens (c.args.place / 16) c.args.len c.index-below.result.now (c.index-below.result.now + c.args.len / 16 + c.get-above.result) c.requires.positive c.requires.multiple) c.min.ensures c.min-2.ensures

pub returns : goal.returns
returns c =
    let i = c.self.inside in
    let g = gave_seen i.lens i.ends.items i.count c.args.self.now c.self.invariant c.self.view_is c.args.place c.args.len c.index-below.result.now c.get-above.result c.requires.positive c.requires.at_unit c.requires.multiple c.requires.inside c.requires.taken c.index-below.ensures c.get-above.ensures in
    subst (λ (l : List ℕ). Marked true c.args.self.now (free_units 0 l) (c.args.place / 16) (c.args.len / 16)) (sym (c.set-2.ensures ∙ ap (λ (l : List ℕ). set l (c.args.place / 16 + c.args.len / 16) 0) c.set.ensures ∙ joined_first i.lens (c.args.place / 16) c.args.len c.index-below.result.now (c.index-below.result.now + c.args.len / 16 + c.get-above.result) c.requires.positive c.requires.multiple))
    (marks_at (free_units 0 i.lens) (free_units 0 (set (set i.lens (c.args.place / 16 + c.args.len / 16) 0) (c.args.place / 16 - c.index-below.result.now) (c.index-below.result.now + c.args.len / 16 + c.get-above.result))) c.args.self.now (c.args.place / 16) (c.args.len / 16) (c.args.place / 16) (c.args.len / 16) c.self.view_is refl refl g.marked)
