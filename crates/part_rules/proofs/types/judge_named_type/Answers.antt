use Rattle.std.proofs.Common.{ap}
use Rattle.c_types.specs.Table.{Table, type_at}
use Rattle.declarator_rules.specs.Layers.{laid_of}
use Rattle.part_rules.proofs.Steps.{named_ends, named_step}
use Rattle.part_rules.proofs.types.judge_named_type.Goals as goal

pub returns-in-Err-clause-gives : goal.returns-in-Err-clause-gives
returns-in-Err-clause-gives c = named_ends c.args.at c.args.outer _ _ _ _ (laid_of c.args.world.now.table.terms c.args.laid.now) c.in-Err.end _ _ c.in-Err.ensures.gives

pub returns-in-Ok-clause-gives : goal.returns-in-Ok-clause-gives
returns-in-Ok-clause-gives c =
    named_step c.args.at c.args.outer _ _ _ _ _ _ (laid_of c.args.world.now.table.terms c.args.laid.now)
    (ap (λ (t : Table). type_at t.terms c.in-Ok.ty.0) c.note_type.ensures.same) c.note_type.ensures.seen c.in-Ok.ensures.gives
