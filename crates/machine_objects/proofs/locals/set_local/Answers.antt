use Rattle.std.proofs.Common.{◌+◌, Some, take, drop, set, arith, ap, subst, sym, ◌∙◌}
use Rattle.machine_state.specs.State.{AreLocals}
use Rattle.machine_objects.proofs.Making.{Locals, set_there, set_saved, set_given, padded_as}
use Rattle.machine_objects.proofs.locals.set_local.Goals as goal

pub returns-clause-set : goal.returns-clause-set
returns-clause-set c =
    let xs = c.args.locals.now.items in
    let e = padded_as xs c.pad.new.locals.items (c.args.base + c.args.local) _ c.in_ok-pad.ensures.padded (omega arith) in
    ap (λ (l : Locals). drop c.args.base (set l (c.args.base + c.args.local) (Some c.args.number))) e ∙ set_there xs c.args.base c.args.local c.args.number (omega arith)

pub returns-clause-saved : goal.returns-clause-saved
returns-clause-saved c =
    let xs = c.args.locals.now.items in
    let e = padded_as xs c.pad.new.locals.items (c.args.base + c.args.local) _ c.in_ok-pad.ensures.padded (omega arith) in
    ap (λ (l : Locals). take c.args.base (set l (c.args.base + c.args.local) (Some c.args.number))) e ∙ set_saved xs c.args.base c.args.local c.args.number (omega arith)

pub returns-clause-given : goal.returns-clause-given
returns-clause-given c = λ count h a.
    let xs = c.args.locals.now.items in
    let e = padded_as xs c.pad.new.locals.items (c.args.base + c.args.local) _ c.in_ok-pad.ensures.padded (omega arith) in
    subst (λ (l : Locals). AreLocals count (set l (c.args.base + c.args.local) (Some c.args.number))) (sym e) (set_given xs (c.args.base + c.args.local) c.args.number count h a)
