use Rattle.std.proofs.Common.{◌≡◌, ℕ, ◌+◌, ◌*◌, ◌/◌, ◌<◌, ◌≤◌, List, false, length, get_or, sym, ap, ◌∙◌, subst, arith}
use Rattle.hole_list.specs.Units.{IsRun, IsLowestRun, Marked}
use Rattle.hole_list.specs.Shape.{units_from, Apart}
use Rattle.hole_list.specs.declared.gap.Hole.{Hole}
use Rattle.hole_list.proofs.Gaps.{no_run, all_within}
use Rattle.hole_list.proofs.Calls.{units_are, taken_lowest, taken_whole, taken_part}
use Rattle.hole_list.proofs.list.HoleList.take.Goals as goal
use Rattle.hole_list.proofs.list.HoleList.take.Goals.{then-hole-need, else-hole-need}

-- what the search found, said of the list itself
found : (items row : List Hole) (at n : ℕ) (h : Hole) → row ≡ items → h ≡ get_or items at h → (at < length row) × ((d : Hole) → n ≤ (get_or row at d).len) → ((k : ℕ) (d : Hole) → k < at → (get_or row k d).len < n) → (at < length items) × (n ≤ h.len) × ((k : ℕ) (d : Hole) → k < at → (get_or items k d).len < n)
found items row at n h same e fits short = (
  subst (λ (l : List Hole). at < length l) same fits.0,
  subst (λ (x : Hole). n ≤ x.len) (sym e) (subst (λ (l : List Hole). n ≤ (get_or l at h).len) same (fits.1 h)),
  subst (λ (l : List Hole). (k : ℕ) (d : Hole) → k < at → (get_or l k d).len < n) same short,
)

pub returns-in_default-clause-none : goal.returns-in_default-clause-none
returns-in_default-clause-none c j r =
    no_run c.self.inside.units c.self.inside.list.items (c.args.len / 16) c.self.invariant.2 (omega (arith, c.requires.positive, c.requires.multiple))
    (subst (λ (l : List Hole). (k : ℕ) (d : Hole) → k < length l → (get_or l k d).len < c.args.len / 16) c.as_slice.ensures.value c.in_default.ensures.none) j
    (subst (λ us. IsRun us j (c.args.len / 16)) (sym c.self.view_is) r)

pub overflow_add-hole : goal.overflow_add-hole
overflow_add-hole c =
    let items = c.self.inside.list.items in
    let n = c.args.len / 16 in
    let h = c.index-hole.result.now in
    let f = found items c.as_slice.result.now c.in-Some.at n h c.as_slice.ensures.value c.index-hole.ensures c.in-Some.ensures.fits c.in-Some.ensures.lowest in
    let b = subst (λ (x : Hole). x.start + x.len ≤ c.self.inside.units) (sym c.index-hole.ensures) (all_within 0 c.self.inside.units items c.self.invariant.2 c.in-Some.at h f.0).0 in
    omega (arith, b, f.1, c.self.invariant.0)

pub invariant_of-self : goal.invariant_of-self
invariant_of-self c =
    let items = c.self.inside.list.items in
    let n = c.args.len / 16 in
    let h = c.index-hole.result.now in
    let f = found items c.as_slice.result.now c.in-Some.at n h c.as_slice.ensures.value c.index-hole.ensures c.in-Some.ensures.fits c.in-Some.ensures.lowest in
    let t = taken_whole c.self.inside.units items c.args.self.now c.self.view_is c.self.invariant.2 n c.in-Some.at h (omega (arith, c.requires.positive, c.requires.multiple)) f.0 c.index-hole.ensures f.1 f.2 (sym c.if-hole-need.true) in
    (c.self.invariant.0, omega (arith, c.self.invariant.1, c.remove.ensures.capacity), subst (λ l. Apart 0 c.self.inside.units l) (sym c.remove.ensures.items) t.0)

pub invariant_of-self-else-hole-need : goal.invariant_of-self-else-hole-need
invariant_of-self-else-hole-need c =
    let items = c.self.inside.list.items in
    let n = c.args.len / 16 in
    let h = c.index-hole.result.now in
    let f = found items c.as_slice.result.now c.in-Some.at n h c.as_slice.ensures.value c.index-hole.ensures c.in-Some.ensures.fits c.in-Some.ensures.lowest in
    let t = taken_part c.self.inside.units items c.args.self.now c.self.view_is c.self.invariant.2 n c.in-Some.at h (omega (arith, c.requires.positive, c.requires.multiple)) f.0 c.index-hole.ensures f.1 f.2 (omega (arith, c.if-hole-need.false, f.1)) in
    (c.self.invariant.0, c.self.invariant.1, t.0)

pub overflow_mul-result : goal.overflow_mul-result
overflow_mul-result c =
    let items = c.self.inside.list.items in
    let n = c.args.len / 16 in
    let h = c.index-hole.result.now in
    let f = found items c.as_slice.result.now c.in-Some.at n h c.as_slice.ensures.value c.index-hole.ensures c.in-Some.ensures.fits c.in-Some.ensures.lowest in
    let b = subst (λ (x : Hole). x.start + x.len ≤ c.self.inside.units) (sym c.index-hole.ensures) (all_within 0 c.self.inside.units items c.self.invariant.2 c.in-Some.at h f.0).0 in
    omega (arith, b, c.self.invariant.0)

pub returns-clause-place : goal.returns-clause-place
returns-clause-place c =
    let items = c.self.inside.list.items in
    let n = c.args.len / 16 in
    let h = c.index-hole.result.now in
    let f = found items c.as_slice.result.now c.in-Some.at n h c.as_slice.ensures.value c.index-hole.ensures c.in-Some.ensures.fits c.in-Some.ensures.lowest in
    let b = subst (λ (x : Hole). x.start + x.len ≤ c.self.inside.units) (sym c.index-hole.ensures) (all_within 0 c.self.inside.units items c.self.invariant.2 c.in-Some.at h f.0).0 in
    let u = units_are c.self.inside.units items c.args.self.now c.self.view_is c.self.invariant.2 in
    (omega arith, omega (arith, b, u, f.1, c.requires.multiple))

pub returns-clause-lowest : goal.returns-clause-lowest
returns-clause-lowest c =
    let items = c.self.inside.list.items in
    let n = c.args.len / 16 in
    let h = c.index-hole.result.now in
    let f = found items c.as_slice.result.now c.in-Some.at n h c.as_slice.ensures.value c.index-hole.ensures c.in-Some.ensures.fits c.in-Some.ensures.lowest in
    let same : h.start ≡ h.start * 16 / 16 = omega arith in
    subst (λ at. IsLowestRun c.args.self.now n at) same (taken_lowest c.self.inside.units items c.args.self.now c.self.view_is c.self.invariant.2 n c.in-Some.at h (omega (arith, c.requires.positive, c.requires.multiple)) f.0 c.index-hole.ensures f.1 f.2)

pub returns-clause-taken : goal.returns-clause-taken
returns-clause-taken c =
    let items = c.self.inside.list.items in
    let n = c.args.len / 16 in
    let h = c.index-hole.result.now in
    let f = found items c.as_slice.result.now c.in-Some.at n h c.as_slice.ensures.value c.index-hole.ensures c.in-Some.ensures.fits c.in-Some.ensures.lowest in
    let same : h.start ≡ h.start * 16 / 16 = omega arith in
    elim c.if-hole-need.branch [
      | then-hole-need w ↦
          let t = taken_whole c.self.inside.units items c.args.self.now c.self.view_is c.self.invariant.2 n c.in-Some.at h (omega (arith, c.requires.positive, c.requires.multiple)) f.0 c.index-hole.ensures f.1 f.2 (sym w.if-hole-need.true) in
          subst (λ at. Marked false c.args.self.now c.if-hole-need.self at n) same
          (subst (λ us. Marked false c.args.self.now us h.start n) (ap (λ l. units_from 0 c.self.inside.units l) (sym w.remove.ensures.items) ∙ sym w.self-is) t.1)
      | else-hole-need w ↦
          let t = taken_part c.self.inside.units items c.args.self.now c.self.view_is c.self.invariant.2 n c.in-Some.at h (omega (arith, c.requires.positive, c.requires.multiple)) f.0 c.index-hole.ensures f.1 f.2 (omega (arith, w.if-hole-need.false, f.1)) in
          subst (λ at. Marked false c.args.self.now c.if-hole-need.self at n) same
          (subst (λ us. Marked false c.args.self.now us h.start n) (sym w.self-is) t.1)
    ]
