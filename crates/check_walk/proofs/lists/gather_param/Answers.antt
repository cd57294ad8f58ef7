use Rattle.std.proofs.Common.{sym, [], ◌∷◌}
use Rattle.c_types.specs.Table.{type_at}
use Rattle.c_rules.specs.Walk.{judge_param_or_void}
use Rattle.c_world.specs.Seen.{seen}
use Rattle.c_world.proofs.Growth.{extends_on}
use Rattle.declarator_rules.specs.Layers.{all_types, laid_of}
use Rattle.declarator_rules.proofs.Growing.{layers_up, types_same}
use Rattle.specifier_rules.proofs.Growing.{below_up}
use Rattle.part_rules.specs.Parameters.{maybe_type}
use Rattle.check_walk.specs.Walking.{param_built}
use Rattle.check_walk.proofs.Gathering.{gather_more, gather_none}
use Rattle.check_walk.proofs.Growing.{types_after, types_below_after}
use Rattle.check_walk.proofs.Lone.{param_is, reads_on, stops_there}
use Rattle.check_walk.proofs.lists.gather_param.Goals as goal

pub judge_param_or_void-requires-clause-layers : goal.judge_param_or_void-requires-clause-layers
judge_param_or_void-requires-clause-layers c = layers_up _ _ c.args.laid.now.layers c.is_lone_void.ensures.extends.grows.longer c.requires.layers

pub returns-in-Err-clause-gives : goal.returns-in-Err-clause-gives
returns-in-Err-clause-gives c =
    stops_there (judge_param_or_void c.in_ok-is_void.is_void c.args.number c.args.at (type_at c.is_lone_void.new.world.table.terms c.args.base.0) (laid_of c.is_lone_void.new.world.table.terms c.args.laid.now)) (param_built c.args.is_alone c.args.number c.args.at (type_at c.args.world.now.table.terms c.args.base.0) (laid_of c.args.world.now.table.terms c.args.laid.now)) (all_types c.args.world.now.table.terms c.args.types.now) (seen c.args.world.now) (seen c.is_lone_void.new.world) (seen c.judge_param_or_void.new.world) _ c.in-Err.end (λ o. maybe_type c.judge_param_or_void.new.world.table.terms o) _
    (param_is c.args.world.now.table c.is_lone_void.new.world.table c.is_lone_void.ensures.extends c.args.is_alone c.in_ok-is_void.is_void c.args.number c.args.at c.args.base c.requires.base c.args.laid.now c.requires.layers c.in_ok-is_void.ensures.is) (sym c.is_lone_void.ensures.seen) c.in-Err.ensures.gives

pub returns-in-Ok-None-clause-gives : goal.returns-in-Ok-None-clause-gives
returns-in-Ok-None-clause-gives c =
    gather_none (param_built c.args.is_alone c.args.number c.args.at (type_at c.args.world.now.table.terms c.args.base.0) (laid_of c.args.world.now.table.terms c.args.laid.now)) (all_types c.args.world.now.table.terms c.args.types.now) (all_types c.judge_param_or_void.new.world.table.terms c.args.types.now) (seen c.args.world.now) (seen c.judge_param_or_void.new.world)
    (types_same c.args.world.now.table c.judge_param_or_void.new.world.table (extends_on _ _ _ c.is_lone_void.ensures.extends c.in-Ok-None.ensures.extends) c.args.types.now c.requires.types)
    (reads_on (judge_param_or_void c.in_ok-is_void.is_void c.args.number c.args.at (type_at c.is_lone_void.new.world.table.terms c.args.base.0) (laid_of c.is_lone_void.new.world.table.terms c.args.laid.now)) (param_built c.args.is_alone c.args.number c.args.at (type_at c.args.world.now.table.terms c.args.base.0) (laid_of c.args.world.now.table.terms c.args.laid.now)) [] (seen c.args.world.now) (seen c.is_lone_void.new.world) (seen c.judge_param_or_void.new.world) (param_is c.args.world.now.table c.is_lone_void.new.world.table c.is_lone_void.ensures.extends c.args.is_alone c.in_ok-is_void.is_void c.args.number c.args.at c.args.base c.requires.base c.args.laid.now c.requires.layers c.in_ok-is_void.ensures.is) (sym c.is_lone_void.ensures.seen) (rw c.in-Ok-None.field-0-is at c.in-Ok-None.ensures.gives))

pub returns-in-Ok-None-clause-valid : goal.returns-in-Ok-None-clause-valid
returns-in-Ok-None-clause-valid c = below_up _ _ c.args.types.now (extends_on _ _ _ c.is_lone_void.ensures.extends c.in-Ok-None.ensures.extends).grows.longer c.requires.types

pub returns-in_ok-push-in-Ok-Some-clause-gives : goal.returns-in_ok-push-in-Ok-Some-clause-gives
returns-in_ok-push-in-Ok-Some-clause-gives c =
    gather_more (param_built c.args.is_alone c.args.number c.args.at (type_at c.args.world.now.table.terms c.args.base.0) (laid_of c.args.world.now.table.terms c.args.laid.now)) (all_types c.args.world.now.table.terms c.args.types.now) (all_types c.judge_param_or_void.new.world.table.terms c.push.new.self) (type_at c.judge_param_or_void.new.world.table.terms c.in-Ok-Some.ty.0 ∷ []) (seen c.args.world.now) (seen c.judge_param_or_void.new.world)
    (types_after c.args.world.now.table c.judge_param_or_void.new.world.table (extends_on _ _ _ c.is_lone_void.ensures.extends c.in-Ok-Some.ensures.extends) c.push.new.self c.args.types.now c.in-Ok-Some.ty c.requires.types c.in_ok-push-in-Ok-Some.ensures.ok)
    (reads_on (judge_param_or_void c.in_ok-is_void.is_void c.args.number c.args.at (type_at c.is_lone_void.new.world.table.terms c.args.base.0) (laid_of c.is_lone_void.new.world.table.terms c.args.laid.now)) (param_built c.args.is_alone c.args.number c.args.at (type_at c.args.world.now.table.terms c.args.base.0) (laid_of c.args.world.now.table.terms c.args.laid.now)) (type_at c.judge_param_or_void.new.world.table.terms c.in-Ok-Some.ty.0 ∷ []) (seen c.args.world.now) (seen c.is_lone_void.new.world) (seen c.judge_param_or_void.new.world) (param_is c.args.world.now.table c.is_lone_void.new.world.table c.is_lone_void.ensures.extends c.args.is_alone c.in_ok-is_void.is_void c.args.number c.args.at c.args.base c.requires.base c.args.laid.now c.requires.layers c.in_ok-is_void.ensures.is) (sym c.is_lone_void.ensures.seen) (rw c.in-Ok-Some.field-0-is at c.in-Ok-Some.ensures.gives))

pub returns-in_ok-push-in-Ok-Some-clause-valid : goal.returns-in_ok-push-in-Ok-Some-clause-valid
returns-in_ok-push-in-Ok-Some-clause-valid c = types_below_after _ _ c.push.new.self c.args.types.now c.in-Ok-Some.ty (extends_on _ _ _ c.is_lone_void.ensures.extends c.in-Ok-Some.ensures.extends).grows.longer c.requires.types (rw c.in-Ok-Some.field-0-is at c.in-Ok-Some.ensures.valid) c.in_ok-push-in-Ok-Some.ensures.ok
