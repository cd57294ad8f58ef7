use Rattle.std.proofs.Common.{◌≡◌, ℕ, ◌+◌, ◌-◌, ◌*◌, ◌/◌, ◌%◌, ◌<◌, ◌≤◌, min, Bool, false, List, length, get_or, set, refl, sym, ap, ◌∙◌, subst, arith}
use Rattle.std.proofs.lemmas.List.{set_comm}
use Rattle.hole_list.specs.Units.{IsRun, IsLowestRun, Marked}
use Rattle.hole_list.specs.Tags.{free_units, Tags}
use Rattle.hole_list.proofs.Free.{length_free}
use Rattle.hole_list.proofs.Taking.{Took, took, no_run, marks_at}
use Rattle.hole_list.proofs.tags.Holes.take.Goals as goal

pub returns-in_default-clause-none : goal.returns-in_default-clause-none
returns-in_default-clause-none c = λ at run.
    let i = c.self.inside in
    no_run i.lens i.ends.items i.count c.self.invariant (c.args.len / 16) at (omega (arith, c.requires.positive, c.requires.multiple)) (λ k le. c.in_default.ensures.none k)
    (subst (λ (us : List Bool). IsRun us at (c.args.len / 16)) (sym c.self.view_is) run)

-- what is left of the hole, and that the whole of it is that and what is taken
whole : (lens : List ℕ) (at n found : ℕ) → n ≤ get_or lens at 0 → found ≡ get_or lens at 0 → get_or lens at 0 ≡ n + (found - n)
whole lens at n found fits e = omega (arith, fits, e)

took_here : (lens ends : List ℕ) (count : ℕ) → Tags lens ends count → (len at found : ℕ) → 0 < len → len % 16 ≡ 0 → len / 16 ≤ get_or lens at 0 → found ≡ get_or lens at 0 → ((k : ℕ) → k < at → get_or lens k 0 < len / 16) → Took lens ends count at (len / 16) (found - len / 16)
took_here lens ends count tags len at found some mult fits e short = took lens ends count tags at (len / 16) (found - len / 16) (omega (arith, some, mult)) (whole lens at (len / 16) found fits e) short

pub overflow_add-self : goal.overflow_add-self
overflow_add-self c =
    let i = c.self.inside in
    let t = took_here i.lens i.ends.items i.count c.self.invariant c.args.len c.in-Some.at c.get-found.result c.requires.positive c.requires.multiple c.in-Some.ensures.found c.get-found.ensures c.in-Some.ensures.first in
    let f = t.fits in
    let m = c.min.ensures in
    omega (arith, f, m)

pub overflow_sub-self : goal.overflow_sub-self
overflow_sub-self c =
    let i = c.self.inside in
    let t = took_here i.lens i.ends.items i.count c.self.invariant c.args.len c.in-Some.at c.get-found.result c.requires.positive c.requires.multiple c.in-Some.ensures.found c.get-found.ensures c.in-Some.ensures.first in
    let f = t.counted in
    let m = c.min.ensures in
    omega (arith, f, m)

-- what is left is written before the hole goes
rest_first : (lens : List ℕ) (at len rest : ℕ) → 0 < len → len % 16 ≡ 0 → set (set lens (at + len / 16) rest) at 0 ≡ set (set lens at 0) (at + len / 16) rest
rest_first lens at len rest some mult = set_comm lens (at + len / 16) at rest 0 (λ e. omega (arith, e, some, mult))

tags_here : (lens ends : List ℕ) (count at n found : ℕ) (row : List ℕ) (one : ℕ) → n ≤ found → Took lens ends count at n (found - n) → row ≡ set (set lens at 0) (at + n) (found - n) → one ≡ min (found - n) 1 → Tags row (set ends (at + found) (found - n)) (count + one - 1)
tags_here lens ends count at n found row one fits t e m =
    let p : at + n + (found - n) ≡ at + found = omega (arith, fits) in
    subst (λ (l : List ℕ). Tags l (set ends (at + found) (found - n)) (count + one - 1)) (sym e)
    (subst (λ (k : ℕ). Tags (set (set lens at 0) (at + n) (found - n)) (set ends k (found - n)) (count + one - 1)) p
    (subst (λ (k : ℕ). Tags (set (set lens at 0) (at + n) (found - n)) (set ends (at + n + (found - n)) (found - n)) (count + k - 1)) (sym m) t.tags))

pub invariant_of-self : goal.invariant_of-self
invariant_of-self c =
    let i = c.self.inside in
    let t = took_here i.lens i.ends.items i.count c.self.invariant c.args.len c.in-Some.at c.get-found.result c.requires.positive c.requires.multiple c.in-Some.ensures.found c.get-found.ensures c.in-Some.ensures.first in
    tags_here i.lens i.ends.items i.count c.in-Some.at (c.args.len / 16) c.get-found.result c.set-2.new.self c.min.result
    (let f = c.in-Some.ensures.found in let g = c.get-found.ensures in omega (arith, f, g)) t
    (c.set-2.ensures ∙ ap (λ (l : List ℕ). set l c.in-Some.at 0) c.set.ensures ∙ rest_first i.lens c.in-Some.at c.args.len (c.get-found.result - c.args.len / 16) c.requires.positive c.requires.multiple) c.min.ensures

pub returns-clause-place : goal.returns-clause-place
returns-clause-place c =
    let i = c.self.inside in
    let t = took_here i.lens i.ends.items i.count c.self.invariant c.args.len c.in-Some.at c.get-found.result c.requires.positive c.requires.multiple c.in-Some.ensures.found c.get-found.ensures c.in-Some.ensures.first in
    let inside = t.inside in
    let long : length i.lens ≡ length c.args.self.now = sym (length_free 0 i.lens) ∙ ap (λ (us : List Bool). length us) c.self.view_is in
    (omega arith, omega (arith, inside, long, c.requires.multiple))

pub returns-clause-lowest : goal.returns-clause-lowest
returns-clause-lowest c =
    let i = c.self.inside in
    let t = took_here i.lens i.ends.items i.count c.self.invariant c.args.len c.in-Some.at c.get-found.result c.requires.positive c.requires.multiple c.in-Some.ensures.found c.get-found.ensures c.in-Some.ensures.first in
    let p : c.in-Some.at ≡ c.in-Some.at * 16 / 16 = omega arith in
    subst (λ (us : List Bool). IsLowestRun us (c.args.len / 16) (c.in-Some.at * 16 / 16)) c.self.view_is
    (subst (λ (k : ℕ). IsLowestRun (free_units 0 i.lens) (c.args.len / 16) k) p t.lowest)

pub returns-clause-taken : goal.returns-clause-taken
returns-clause-taken c =
    let i = c.self.inside in
    let t = took_here i.lens i.ends.items i.count c.self.invariant c.args.len c.in-Some.at c.get-found.result c.requires.positive c.requires.multiple c.in-Some.ensures.found c.get-found.ensures c.in-Some.ensures.first in
    let p : c.in-Some.at ≡ c.in-Some.at * 16 / 16 = omega arith in
    let e = c.set-2.ensures ∙ ap (λ (l : List ℕ). set l c.in-Some.at 0) c.set.ensures ∙ rest_first i.lens c.in-Some.at c.args.len (c.get-found.result - c.args.len / 16) c.requires.positive c.requires.multiple in
    subst (λ (l : List ℕ). Marked false c.args.self.now (free_units 0 l) (c.in-Some.at * 16 / 16) (c.args.len / 16)) (sym e)
    (marks_at (free_units 0 i.lens) (free_units 0 (set (set i.lens c.in-Some.at 0) (c.in-Some.at + c.args.len / 16) (c.get-found.result - c.args.len / 16))) c.args.self.now c.in-Some.at (c.args.len / 16) (c.in-Some.at * 16 / 16) (c.args.len / 16) c.self.view_is p refl t.marked)
