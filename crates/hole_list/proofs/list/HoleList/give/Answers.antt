use Rattle.std.proofs.Common.{◌≡◌, ◌≢◌, ℕ, ◌+◌, ◌/◌, ◌<◌, ◌≤◌, List, true, length, get_or, set, sym, ap, ◌∙◌, subst, arith}
use Rattle.std.specs.Prelude.{Result, IsOk, is_ok, if◌then◌else◌}
use Rattle.std.specs.List.{insert}
use Rattle.hole_list.specs.Units.{Marked}
use Rattle.hole_list.specs.Shape.{units_from, Apart}
use Rattle.hole_list.specs.declared.gap.Hole.{Hole}
use Rattle.hole_list.proofs.Gaps.{all_within, count_bound}
use Rattle.hole_list.proofs.Changes.{hole}
use Rattle.hole_list.proofs.Calls.{units_are, given_up, given_down, given_joined, given_new, length-insert}
use Rattle.hole_list.proofs.list.HoleList.give.Goals as goal

-- what the search found, said of the list itself
reached : (items row : List Hole) (at s : ℕ) → row ≡ items → at ≤ length row → ((k : ℕ) (d : Hole) → k < at → (get_or row k d).start + (get_or row k d).len < s) → (at < length row → (d : Hole) → s ≤ (get_or row at d).start + (get_or row at d).len) → (at ≤ length items) × ((k : ℕ) (d : Hole) → k < at → (get_or items k d).start + (get_or items k d).len < s) × (at < length items → (d : Hole) → s ≤ (get_or items at d).start + (get_or items at d).len)
reached items row at s same within before reaches = (
  subst (λ (l : List Hole). at ≤ length l) same within,
  subst (λ (l : List Hole). (k : ℕ) (d : Hole) → k < at → (get_or l k d).start + (get_or l k d).len < s) same before,
  subst (λ (l : List Hole). at < length l → (d : Hole) → s ≤ (get_or l at d).start + (get_or l at d).len) same reaches,
)

ends : (items row : List Hole) (at s : ℕ) (h : Hole) → row ≡ items → h ≡ get_or items at h → (at < length row) × ((d : Hole) → (get_or row at d).start + (get_or row at d).len ≡ s) → (at < length items) × (h.start + h.len ≡ s)
ends items row at s h same e f = (
  subst (λ (l : List Hole). at < length l) same f.0,
  subst (λ (x : Hole). x.start + x.len ≡ s) (sym e) (subst (λ (l : List Hole). (get_or l at h).start + (get_or l at h).len ≡ s) same (f.1 h)),
)

begins : (items row : List Hole) (at p : ℕ) (h : Hole) → row ≡ items → h ≡ get_or items at h → (at < length row) × ((d : Hole) → (get_or row at d).start ≡ p) → (at < length items) × (h.start ≡ p)
begins items row at p h same e f = (
  subst (λ (l : List Hole). at < length l) same f.0,
  subst (λ (x : Hole). x.start ≡ p) (sym e) (subst (λ (l : List Hole). (get_or l at h).start ≡ p) same (f.1 h)),
)

when_ok : {T E A : Type 0} (r : Result T E) (x y : A) → IsOk r → (if is_ok r then x else y) ≡ x
when_ok r x y ok = ap (λ b. if b then x else y) ok

pub first_reaching-at-requires : goal.first_reaching-at-requires
first_reaching-at-requires c = λ k d lt.
    subst (λ (l : List Hole). k < length l → (get_or l k d).start + (get_or l k d).len ≤ 65536) (sym c.as_slice.ensures.value)
    (λ (l : k < length c.self.inside.list.items). let b = (all_within 0 c.self.inside.units c.self.inside.list.items c.self.invariant.2 k d l).0 in omega (arith, b, c.self.invariant.0)) lt

pub ends_at-requires : goal.ends_at-requires
ends_at-requires c = λ d lt.
    let k = c.first_reaching-at.result in
    subst (λ (l : List Hole). k < length l → (get_or l k d).start + (get_or l k d).len ≤ 65536) (sym c.as_slice-2.ensures.value)
    (λ (l : k < length c.self.inside.list.items). let b = (all_within 0 c.self.inside.units c.self.inside.list.items c.self.invariant.2 k d l).0 in omega (arith, b, c.self.invariant.0)) lt

pub overflow_add-below-then-begins_at : goal.overflow_add-below-then-begins_at
overflow_add-below-then-begins_at c =
    let items = c.self.inside.list.items in
    let s = c.args.place / 16 in
    let n = c.args.len / 16 in
    let at = c.first_reaching-at.result in
    let units = units_are c.self.inside.units items c.args.self.now c.self.view_is c.self.invariant.2 in
    let r = reached items c.as_slice.result.now at s c.as_slice.ensures.value c.first_reaching-at.ensures.within c.first_reaching-at.ensures.before c.first_reaching-at.ensures.reaches in
    let h = c.index-below.result.now in
    let e = ends items c.as_slice-2.result.now at s h c.as_slice-2.ensures.value c.index-below.ensures (c.ends_at.ensures.yes c.if-ends_at.true) in
    let q = c.remove-above.result in
    let b = begins items c.as_slice-then-ends_at.result.now (at + 1) (s + n) q c.as_slice-then-ends_at.ensures.value c.remove-above.ensures.value (c.begins_at.ensures.yes c.if-begins_at.true) in
    let bq = subst (λ (x : Hole). x.start + x.len ≤ c.self.inside.units) (sym c.remove-above.ensures.value) (all_within 0 c.self.inside.units items c.self.invariant.2 (at + 1) q b.0).0 in
    let bh = subst (λ (x : Hole). x.start + x.len ≤ c.self.inside.units) (sym c.index-below.ensures) (all_within 0 c.self.inside.units items c.self.invariant.2 at h e.0).0 in
    omega (arith, bq, bh, units, c.requires.inside, c.self.invariant.0)

pub invariant_of-self : goal.invariant_of-self
invariant_of-self c =
    let items = c.self.inside.list.items in
    let s = c.args.place / 16 in
    let n = c.args.len / 16 in
    let at = c.first_reaching-at.result in
    let units = units_are c.self.inside.units items c.args.self.now c.self.view_is c.self.invariant.2 in
    let r = reached items c.as_slice.result.now at s c.as_slice.ensures.value c.first_reaching-at.ensures.within c.first_reaching-at.ensures.before c.first_reaching-at.ensures.reaches in
    let h = c.index-below.result.now in
    let e = ends items c.as_slice-2.result.now at s h c.as_slice-2.ensures.value c.index-below.ensures (c.ends_at.ensures.yes c.if-ends_at.true) in
    let q = c.remove-above.result in
    let b = begins items c.as_slice-then-ends_at.result.now (at + 1) (s + n) q c.as_slice-then-ends_at.ensures.value c.remove-above.ensures.value (c.begins_at.ensures.yes c.if-begins_at.true) in
    let t = given_joined c.self.inside.units items c.args.self.now c.self.view_is c.self.invariant.2 s n at (omega (arith, c.requires.positive, c.requires.multiple)) (omega (arith, c.requires.inside, c.requires.at_unit, c.requires.multiple)) c.requires.taken r.0 r.1 h e.0 c.index-below.ensures q b.0 c.remove-above.ensures.value e.1 b.1 in
    (c.self.invariant.0, omega (arith, c.self.invariant.1, c.remove-above.ensures.capacity), subst (λ l. Apart 0 c.self.inside.units (set l at (hole h.start (h.len + n + q.len)))) (sym c.remove-above.ensures.items) t.0)

pub invariant_of-self-else-begins_at : goal.invariant_of-self-else-begins_at
invariant_of-self-else-begins_at c =
    let items = c.self.inside.list.items in
    let s = c.args.place / 16 in
    let n = c.args.len / 16 in
    let at = c.first_reaching-at.result in
    let units = units_are c.self.inside.units items c.args.self.now c.self.view_is c.self.invariant.2 in
    let r = reached items c.as_slice.result.now at s c.as_slice.ensures.value c.first_reaching-at.ensures.within c.first_reaching-at.ensures.before c.first_reaching-at.ensures.reaches in
    let h = c.index-below.result.now in
    let e = ends items c.as_slice-2.result.now at s h c.as_slice-2.ensures.value c.index-below.ensures (c.ends_at.ensures.yes c.if-ends_at.true) in
    let t = given_up c.self.inside.units items c.args.self.now c.self.view_is c.self.invariant.2 s n at (omega (arith, c.requires.positive, c.requires.multiple)) (omega (arith, c.requires.inside, c.requires.at_unit, c.requires.multiple)) c.requires.taken r.0 r.1 h e.0 c.index-below.ensures e.1 (subst (λ (l : List Hole). at + 1 < length l → (d : Hole) → (get_or l (at + 1) d).start ≢ s + n) c.as_slice-then-ends_at.ensures.value (c.begins_at.ensures.no c.if-begins_at.false)) in
    (c.self.invariant.0, c.self.invariant.1, t.0)

pub overflow_add-more : goal.overflow_add-more
overflow_add-more c =
    let items = c.self.inside.list.items in
    let s = c.args.place / 16 in
    let n = c.args.len / 16 in
    let at = c.first_reaching-at.result in
    let units = units_are c.self.inside.units items c.args.self.now c.self.view_is c.self.invariant.2 in
    let r = reached items c.as_slice.result.now at s c.as_slice.ensures.value c.first_reaching-at.ensures.within c.first_reaching-at.ensures.before c.first_reaching-at.ensures.reaches in
    let h = c.index-above.result.now in
    let b = begins items c.as_slice-else-ends_at.result.now at (s + n) h c.as_slice-else-ends_at.ensures.value c.index-above.ensures (c.begins_at-else-ends_at.ensures.yes c.if-begins_at-2.true) in
    let bh = subst (λ (x : Hole). x.start + x.len ≤ c.self.inside.units) (sym c.index-above.ensures) (all_within 0 c.self.inside.units items c.self.invariant.2 at h b.0).0 in
    omega (arith, bh, units, c.requires.inside, c.self.invariant.0)

pub invariant_of-self-then-begins_at-2 : goal.invariant_of-self-then-begins_at-2
invariant_of-self-then-begins_at-2 c =
    let items = c.self.inside.list.items in
    let s = c.args.place / 16 in
    let n = c.args.len / 16 in
    let at = c.first_reaching-at.result in
    let units = units_are c.self.inside.units items c.args.self.now c.self.view_is c.self.invariant.2 in
    let r = reached items c.as_slice.result.now at s c.as_slice.ensures.value c.first_reaching-at.ensures.within c.first_reaching-at.ensures.before c.first_reaching-at.ensures.reaches in
    let h = c.index-above.result.now in
    let b = begins items c.as_slice-else-ends_at.result.now at (s + n) h c.as_slice-else-ends_at.ensures.value c.index-above.ensures (c.begins_at-else-ends_at.ensures.yes c.if-begins_at-2.true) in
    let t = given_down c.self.inside.units items c.args.self.now c.self.view_is c.self.invariant.2 s n at (omega (arith, c.requires.positive, c.requires.multiple)) (omega (arith, c.requires.inside, c.requires.at_unit, c.requires.multiple)) c.requires.taken r.0 r.1 h b.0 c.index-above.ensures (sym b.1) in
    (c.self.invariant.0, c.self.invariant.1, t.0)

pub invariant_of-self-else-begins_at-2 : goal.invariant_of-self-else-begins_at-2
invariant_of-self-else-begins_at-2 c =
    let items = c.self.inside.list.items in
    let s = c.args.place / 16 in
    let n = c.args.len / 16 in
    let at = c.first_reaching-at.result in
    let units = units_are c.self.inside.units items c.args.self.now c.self.view_is c.self.invariant.2 in
    let r = reached items c.as_slice.result.now at s c.as_slice.ensures.value c.first_reaching-at.ensures.within c.first_reaching-at.ensures.before c.first_reaching-at.ensures.reaches in
    let t = given_new c.self.inside.units items c.args.self.now c.self.view_is c.self.invariant.2 s n at (omega (arith, c.requires.positive, c.requires.multiple)) (omega (arith, c.requires.inside, c.requires.at_unit, c.requires.multiple)) c.requires.taken r.0 r.1 r.2
    (subst (λ (l : List Hole). at < length l → (d : Hole) → (get_or l at d).start + (get_or l at d).len ≢ s) c.as_slice-2.ensures.value (c.ends_at.ensures.no c.if-ends_at.false))
    (subst (λ (l : List Hole). at < length l → (d : Hole) → (get_or l at d).start ≢ s + n) c.as_slice-else-ends_at.ensures.value (c.begins_at-else-ends_at.ensures.no c.if-begins_at-2.false)) in
    let long = count_bound 0 c.self.inside.units (insert items at (hole s n)) (omega arith) t.0 in
    let more = length-insert items at (hole s n) r.0 in
    let room = c.insert.ensures.succeeds (omega (arith, long, more, c.self.inside.list.ok.0, c.self.invariant.1)) in
    let is : c.insert.new.self.items ≡ insert items at (hole s n) = c.insert.ensures.items ∙ when_ok c.insert.result (insert items at (hole s n)) items room in
    (c.self.invariant.0, omega (arith, c.self.invariant.1, c.insert.ensures.capacity), subst (λ l. Apart 0 c.self.inside.units l) (sym is) t.0)

pub returns-then-begins_at : goal.returns-then-begins_at
returns-then-begins_at c =
    let items = c.self.inside.list.items in
    let s = c.args.place / 16 in
    let n = c.args.len / 16 in
    let at = c.first_reaching-at.result in
    let units = units_are c.self.inside.units items c.args.self.now c.self.view_is c.self.invariant.2 in
    let r = reached items c.as_slice.result.now at s c.as_slice.ensures.value c.first_reaching-at.ensures.within c.first_reaching-at.ensures.before c.first_reaching-at.ensures.reaches in
    let h = c.index-below.result.now in
    let e = ends items c.as_slice-2.result.now at s h c.as_slice-2.ensures.value c.index-below.ensures (c.ends_at.ensures.yes c.if-ends_at.true) in
    let q = c.remove-above.result in
    let b = begins items c.as_slice-then-ends_at.result.now (at + 1) (s + n) q c.as_slice-then-ends_at.ensures.value c.remove-above.ensures.value (c.begins_at.ensures.yes c.if-begins_at.true) in
    let t = given_joined c.self.inside.units items c.args.self.now c.self.view_is c.self.invariant.2 s n at (omega (arith, c.requires.positive, c.requires.multiple)) (omega (arith, c.requires.inside, c.requires.at_unit, c.requires.multiple)) c.requires.taken r.0 r.1 h e.0 c.index-below.ensures q b.0 c.remove-above.ensures.value e.1 b.1 in
    subst (λ l. Marked true c.args.self.now (units_from 0 c.self.inside.units (set l at (hole h.start (h.len + n + q.len)))) s n) (sym c.remove-above.ensures.items) t.1

pub returns-else-begins_at : goal.returns-else-begins_at
returns-else-begins_at c =
    let items = c.self.inside.list.items in
    let s = c.args.place / 16 in
    let n = c.args.len / 16 in
    let at = c.first_reaching-at.result in
    let units = units_are c.self.inside.units items c.args.self.now c.self.view_is c.self.invariant.2 in
    let r = reached items c.as_slice.result.now at s c.as_slice.ensures.value c.first_reaching-at.ensures.within c.first_reaching-at.ensures.before c.first_reaching-at.ensures.reaches in
    let h = c.index-below.result.now in
    let e = ends items c.as_slice-2.result.now at s h c.as_slice-2.ensures.value c.index-below.ensures (c.ends_at.ensures.yes c.if-ends_at.true) in
    let t = given_up c.self.inside.units items c.args.self.now c.self.view_is c.self.invariant.2 s n at (omega (arith, c.requires.positive, c.requires.multiple)) (omega (arith, c.requires.inside, c.requires.at_unit, c.requires.multiple)) c.requires.taken r.0 r.1 h e.0 c.index-below.ensures e.1 (subst (λ (l : List Hole). at + 1 < length l → (d : Hole) → (get_or l (at + 1) d).start ≢ s + n) c.as_slice-then-ends_at.ensures.value (c.begins_at.ensures.no c.if-begins_at.false)) in
    t.1

pub returns-then-begins_at-2 : goal.returns-then-begins_at-2
returns-then-begins_at-2 c =
    let items = c.self.inside.list.items in
    let s = c.args.place / 16 in
    let n = c.args.len / 16 in
    let at = c.first_reaching-at.result in
    let units = units_are c.self.inside.units items c.args.self.now c.self.view_is c.self.invariant.2 in
    let r = reached items c.as_slice.result.now at s c.as_slice.ensures.value c.first_reaching-at.ensures.within c.first_reaching-at.ensures.before c.first_reaching-at.ensures.reaches in
    let h = c.index-above.result.now in
    let b = begins items c.as_slice-else-ends_at.result.now at (s + n) h c.as_slice-else-ends_at.ensures.value c.index-above.ensures (c.begins_at-else-ends_at.ensures.yes c.if-begins_at-2.true) in
    let t = given_down c.self.inside.units items c.args.self.now c.self.view_is c.self.invariant.2 s n at (omega (arith, c.requires.positive, c.requires.multiple)) (omega (arith, c.requires.inside, c.requires.at_unit, c.requires.multiple)) c.requires.taken r.0 r.1 h b.0 c.index-above.ensures (sym b.1) in
    t.1

pub returns-else-begins_at-2 : goal.returns-else-begins_at-2
returns-else-begins_at-2 c =
    let items = c.self.inside.list.items in
    let s = c.args.place / 16 in
    let n = c.args.len / 16 in
    let at = c.first_reaching-at.result in
    let units = units_are c.self.inside.units items c.args.self.now c.self.view_is c.self.invariant.2 in
    let r = reached items c.as_slice.result.now at s c.as_slice.ensures.value c.first_reaching-at.ensures.within c.first_reaching-at.ensures.before c.first_reaching-at.ensures.reaches in
    let t = given_new c.self.inside.units items c.args.self.now c.self.view_is c.self.invariant.2 s n at (omega (arith, c.requires.positive, c.requires.multiple)) (omega (arith, c.requires.inside, c.requires.at_unit, c.requires.multiple)) c.requires.taken r.0 r.1 r.2
    (subst (λ (l : List Hole). at < length l → (d : Hole) → (get_or l at d).start + (get_or l at d).len ≢ s) c.as_slice-2.ensures.value (c.ends_at.ensures.no c.if-ends_at.false))
    (subst (λ (l : List Hole). at < length l → (d : Hole) → (get_or l at d).start ≢ s + n) c.as_slice-else-ends_at.ensures.value (c.begins_at-else-ends_at.ensures.no c.if-begins_at-2.false)) in
    let long = count_bound 0 c.self.inside.units (insert items at (hole s n)) (omega arith) t.0 in
    let more = length-insert items at (hole s n) r.0 in
    let room = c.insert.ensures.succeeds (omega (arith, long, more, c.self.inside.list.ok.0, c.self.invariant.1)) in
    let is : c.insert.new.self.items ≡ insert items at (hole s n) = c.insert.ensures.items ∙ when_ok c.insert.result (insert items at (hole s n)) items room in
    subst (λ l. Marked true c.args.self.now (units_from 0 c.self.inside.units l) s n) (sym is) t.1
