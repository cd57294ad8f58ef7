use Rattle.std.proofs.Common.{◌≡◌, ℕ, List, Option, ap, drop, map, add-one, drop-cons, sym, ◌∙◌, ◌∷◌, suc, false}
use Rattle.std.specs.Prelude.{is_some}
use Rattle.name_places.specs.Placed.{placed, with_place}
use Rattle.c_types.specs.Table.{member_of}
use Rattle.declarator_rules.specs.Members.{differ_by}
use Rattle.declarator_rules.proofs.Differing.{differ_at_first, differ_step}
use Rattle.declarator_rules.proofs.members.all_differ.Goals as goal

pub loop-member-init : goal.loop-member-init
loop-member-init c = λ ts. differ_at_first _ (map (member_of ts) c.args.members.now) (λ n. ap is_some (c.new-places.ensures n))

pub loop-member-preserved : goal.loop-member-preserved
loop-member-preserved c = λ ts.
    let m = c.member-item.result in
    let i = c.loop-member.member-index in
    let p : List ℕ → Option ℕ = placed c.loop-member.places in
    let q : List ℕ → Option ℕ = placed c.note.new.self in
    let unplaced : is_some (p m.name) ≡ false
    = ap (λ n. is_some (p n)) (sym c.as_slice.ensures) ∙ ap is_some (sym c.find.ensures) ∙ sym c.is_some.ensures ∙ c.if-is_some.false in
    let noted : (n : List ℕ) → q n ≡ with_place p m.name 0 n
    = λ n. c.in_ok-note.ensures.noted n ∙ ap (λ k. with_place p k 0 n) c.as_slice-in-loop-member.ensures in
    rw add-one (c.loop-member.invariant ts
    ∙ ap (λ ms. differ_by (λ n. is_some (p n)) (map (member_of ts) ms)) (drop-cons c.args.members.now i m c.loop-member-test.true ∙ ap (λ x. x ∷ drop (suc i) c.args.members.now) (sym c.member-item.is))
    ∙ differ_step p q (member_of ts m) (map (member_of ts) (drop (suc i) c.args.members.now)) unplaced noted)
