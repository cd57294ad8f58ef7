use Rattle.std.proofs.Common.{◌≡◌, ◌∷◌, [], List, MatchOption, ℕ, ◌+◌, ◌-◌, suc, length, get_or, Option, Some, None, IfSome, IsSome, refl, arith, subst, Bor}
use Rattle.std.proofs.lemmas.Option.{slice_get_read}
use Rattle.c_core.specs.declared.values.Value.{Value}
use Rattle.machine_frames.specs.Views.{values_of}
use Rattle.machine_steps.specs.Frames.{below}
use Rattle.machine_frames.proofs.Pushes.{value_below, none_below}
use Rattle.machine_frames.proofs.stacks.Stacks.below.Goals as goal

found : (vs : List Value) (n i : ℕ) (o : Option (Bor Value)) → n + suc i ≡ length vs → IsSome o → IfSome o (λ x. x.now ≡ get_or vs i x.now)
    → MatchOption o (below n (values_of vs) ≡ []) (λ v. below n (values_of vs) ≡ v.now ∷ below 1 (below n (values_of vs)))
found vs n i None e s g = cc
found vs n i (Some v) e s g = value_below vs n i v.now e (slice_get_read vs (length vs) i v.now refl (omega (arith, e)) g)

pub returns-then-len-count : goal.returns-then-len-count
returns-then-len-count c = none_below c.args.self.now.values.items c.args.count (omega (arith, c.if-len-count.true, c.len-len.ensures))

pub returns : goal.returns
returns c =
    let h = c.get.ensures.lookup in
    let vs = c.args.self.now.values.items in
    let i : ℕ = c.len-len.result - 1 - c.args.count in
    let long : length c.deref.result.now ≡ c.len-len.result = omega (arith, c.deref.ensures.len, c.len-len.ensures) in
    let there = h.2 (omega (arith, long, c.if-len-count.false)) in
    let is = subst (λ (xs : List Value). IfSome c.get.result (λ x. x.now ≡ get_or xs i x.now)) c.deref.ensures.value h.1 in
    found vs c.args.count i c.get.result (omega (arith, c.len-len.ensures, c.if-len-count.false)) there is
