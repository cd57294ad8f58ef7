use Rattle.std.proofs.Common.{◌==◌, Bool, false, if◌then◌else◌, not, ◌&&◌, ◌||◌, length, ◌∙◌, sym, ap}
use Rattle.c_types.specs.CTypes.{is_flexible}
use Rattle.c_types.specs.Table.{type_at}
use Rattle.declarator_rules.proofs.Ending.{ends_members}
use Rattle.declarator_rules.proofs.members.ends_well.Goals as goal

pub returns-then-any_is_flexible : goal.returns-then-any_is_flexible
returns-then-any_is_flexible c = sym (
    ends_members c.args.world.now.table.terms c.args.is_union c.in-Some.before.now c.args.members.now c.in-Some.last.now c.in-Some.ensures.cases.0
    ∙ ap (λ (b : Bool). if b then false else (not (is_flexible (type_at c.args.world.now.table.terms c.in-Some.last.now.ty.0)) || (not c.args.is_union && not (length c.in-Some.before.now == 0))))
    (sym c.any_is_flexible.ensures ∙ c.if-any_is_flexible.true))

pub returns : goal.returns
returns c =
    c.may_end.ensures
    ∙ ap (λ b. not b || (not c.args.is_union && not c.is_empty.result)) c.is_flexible.ensures
    ∙ ap (λ b. not (is_flexible (type_at c.args.world.now.table.terms c.in-Some.last.now.ty.0)) || (not c.args.is_union && not b)) c.is_empty.ensures
    ∙ sym (ends_members c.args.world.now.table.terms c.args.is_union c.in-Some.before.now c.args.members.now c.in-Some.last.now c.in-Some.ensures.cases.0
    ∙ ap (λ (b : Bool). if b then false else (not (is_flexible (type_at c.args.world.now.table.terms c.in-Some.last.now.ty.0)) || (not c.args.is_union && not (length c.in-Some.before.now == 0))))
    (sym c.any_is_flexible.ensures ∙ c.if-any_is_flexible.false))
