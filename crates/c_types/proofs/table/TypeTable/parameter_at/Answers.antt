use Rattle.std.proofs.Common.{◌∙◌, length, ap, arith, slice_get}
use Rattle.c_types.proofs.Qualifying.{all_below_up}
use Rattle.c_types.proofs.Piecing.{none_by, some_by, within_by}
use Rattle.c_types.proofs.table.TypeTable.parameter_at.Goals as goal

pub returns-in-Function-clause-none : goal.returns-in-Function-clause-none
returns-in-Function-clause-none c =
    let is = rw c.in-Function.is at c.term.ensures.type_is in
    rw is (none_by c.args.self.now.terms c.in-Function.parameters c.args.at c.item_at.result (c.item_at.ensures.value ∙ ap (λ xs. slice_get xs c.args.at) c.as_slice.ensures))

pub returns-in-Function-clause-some : goal.returns-in-Function-clause-some
returns-in-Function-clause-some c =
    let is = rw c.in-Function.is at c.term.ensures.type_is in
    rw is (some_by c.args.self.now.terms c.in-Function.parameters c.args.at c.item_at.result (c.item_at.ensures.value ∙ ap (λ xs. slice_get xs c.args.at) c.as_slice.ensures))

pub returns-in-Function-clause-within : goal.returns-in-Function-clause-within
returns-in-Function-clause-within c =
    let parts = rw c.in-Function.is at c.term.ensures.parts in
    let below = all_below_up c.args.id.0 (length c.args.self.now.terms) c.in-Function.parameters (let l = c.requires in omega arith) parts.1 in
    within_by c.args.self.now.terms c.in-Function.parameters c.args.at (length c.args.self.now.terms) c.item_at.result (c.item_at.ensures.value ∙ ap (λ xs. slice_get xs c.args.at) c.as_slice.ensures) below
