use Rattle.std.proofs.Common.{◌≡◌, ◌+◌, ◌*◌, max, [], drop, length, map}
use Rattle.std.specs.Prelude.{pos}
use Rattle.c_tree.specs.View.{declarators_of, enumerators_of, exprs_of, fields_of, params_of, specs_of}
use Rattle.c_tree.specs.declared.expression.Expr.{size-Expr}
use Rattle.c_tree.specs.declared.expression.TypeName.{size-TypeName}
use Rattle.c_types.specs.Table.{type_at, member_of, AllBelow, MembersBelow}
use Rattle.c_rules.specs.Specifiers.{nothing_specified}
use Rattle.c_rules.specs.Walk as walk
use Rattle.c_world.specs.Extends.{Extends}
use Rattle.c_world.specs.Seen.{seen}
use Rattle.declarator_rules.specs.Layers.{all_types}
use Rattle.expression_rules.specs.Arguments as arguments
use Rattle.specifier_rules.specs.Specified.{specified_of}
use Rattle.check_walk.proofs.Gathering.{Gathers, Hands}
use Rattle.check_walk.proofs.walk.+walk.Given as goal

-- three times the depth, and more for a function that hands its own argument on

abbrev pub decreases-judge : goal.decreases-judge
decreases-judge l = 3 * goal.size-judge l

abbrev pub decreases-judge_all : goal.decreases-judge_all
decreases-judge_all l = 3 * goal.size-judge_all l + 1

abbrev pub decreases-judge_name_of_type : goal.decreases-judge_name_of_type
decreases-judge_name_of_type l = 3 * goal.size-judge_name_of_type l

abbrev pub decreases-judge_base : goal.decreases-judge_base
decreases-judge_base l = 3 * goal.size-judge_base l + 2

abbrev pub decreases-judge_specs : goal.decreases-judge_specs
decreases-judge_specs l = 3 * goal.size-judge_specs l + 1

abbrev pub decreases-judge_spec : goal.decreases-judge_spec
decreases-judge_spec l = 3 * goal.size-judge_spec l

abbrev pub decreases-judge_record_spec : goal.decreases-judge_record_spec
decreases-judge_record_spec l = 3 * goal.size-judge_record_spec l

abbrev pub decreases-judge_enum_spec : goal.decreases-judge_enum_spec
decreases-judge_enum_spec l = 3 * goal.size-judge_enum_spec l

abbrev pub decreases-judge_fields : goal.decreases-judge_fields
decreases-judge_fields l = 3 * goal.size-judge_fields l + 1

abbrev pub decreases-judge_field : goal.decreases-judge_field
decreases-judge_field l = 3 * goal.size-judge_field l

abbrev pub decreases-judge_members : goal.decreases-judge_members
decreases-judge_members l = 3 * goal.size-judge_members l + 2

abbrev pub decreases-judge_declared_member : goal.decreases-judge_declared_member
decreases-judge_declared_member l = 3 * goal.size-judge_declared_member l + 1

abbrev pub decreases-judge_enumerators : goal.decreases-judge_enumerators
decreases-judge_enumerators l = 3 * goal.size-judge_enumerators l + 1

abbrev pub decreases-judge_one_enumerator : goal.decreases-judge_one_enumerator
decreases-judge_one_enumerator l = 3 * goal.size-judge_one_enumerator l

abbrev pub decreases-judge_value : goal.decreases-judge_value
decreases-judge_value l = 3 * goal.size-judge_value l + 1

abbrev pub decreases-judge_maybe : goal.decreases-judge_maybe
decreases-judge_maybe l = 3 * goal.size-judge_maybe l + 1

abbrev pub decreases-judge_layers : goal.decreases-judge_layers
decreases-judge_layers l = 3 * goal.size-judge_layers l

abbrev pub decreases-judge_length : goal.decreases-judge_length
decreases-judge_length l = 3 * goal.size-judge_length l + 1

abbrev pub decreases-judge_function : goal.decreases-judge_function
decreases-judge_function l = 3 * goal.size-judge_function l + 2

abbrev pub decreases-judge_params : goal.decreases-judge_params
decreases-judge_params l = 3 * goal.size-judge_params l + 1

abbrev pub decreases-judge_param : goal.decreases-judge_param
decreases-judge_param l = 3 * goal.size-judge_param l

abbrev pub decreases-judge_two : goal.decreases-judge_two
decreases-judge_two l = 3 * max (size-Expr l.a.now) (size-Expr l.b.now) + 1

abbrev pub decreases-judge_choice : goal.decreases-judge_choice
decreases-judge_choice l = 3 * max (size-Expr l.c.now) (max (size-Expr l.a.now) (size-Expr l.b.now)) + 2

abbrev pub decreases-judge_cast_to : goal.decreases-judge_cast_to
decreases-judge_cast_to l = 3 * max (size-TypeName l.name.now) (size-Expr l.a.now) + 2

abbrev pub invariant-judge_all-loop-x : goal.invariant-judge_all-loop-x
invariant-judge_all-loop-x l = record {
  gives : Gathers (walk.judge_all l.whole l.fixed (exprs_of l.x-items)) (walk.judge_all l.whole l.fixed (exprs_of (drop l.x-index l.x-items))) [] (arguments.all_given l.world.table.terms l.done) (seen l.initial.world) (seen l.world);
  extends : Extends l.initial.world.table l.world.table;
  valid : arguments.AllBelow (length l.world.table.terms) l.done;
}

abbrev pub invariant-judge_specs-loop-spec : goal.invariant-judge_specs-loop-spec
invariant-judge_specs-loop-spec l = record {
  gives : Hands (walk.judge_specs l.whole l.fixed l.own (specs_of l.spec-items) nothing_specified) (walk.judge_specs l.whole l.fixed l.own (specs_of (drop l.spec-index l.spec-items)) (specified_of l.world.table.terms l.specified)) (seen l.initial.world) (seen l.world);
  extends : Extends l.initial.world.table l.world.table;
  valid : AllBelow (length l.world.table.terms) l.specified.types;
}

abbrev pub invariant-judge_fields-loop-field : goal.invariant-judge_fields-loop-field
invariant-judge_fields-loop-field l = record {
  gives : Gathers (walk.judge_fields l.whole l.fixed (fields_of l.field-items)) (walk.judge_fields l.whole l.fixed (fields_of (drop l.field-index l.field-items))) [] (map (member_of l.world.table.terms) l.members) (seen l.initial.world) (seen l.world);
  extends : Extends l.initial.world.table l.world.table;
  valid : MembersBelow (length l.world.table.terms) l.members;
}

abbrev pub invariant-judge_members-loop-d : goal.invariant-judge_members-loop-d
invariant-judge_members-loop-d l = record {
  gives : Gathers (walk.judge_members l.whole l.fixed (type_at l.initial.world.table.terms l.base.0) (declarators_of l.d-items)) (walk.judge_members l.whole l.fixed (type_at l.initial.world.table.terms l.base.0) (declarators_of (drop l.d-index l.d-items))) (map (member_of l.initial.world.table.terms) l.initial.members) (map (member_of l.world.table.terms) l.members) (seen l.initial.world) (seen l.world);
  extends : Extends l.initial.world.table l.world.table;
  valid : MembersBelow (length l.world.table.terms) l.members;
}

abbrev pub invariant-judge_enumerators-loop-e : goal.invariant-judge_enumerators-loop-e
invariant-judge_enumerators-loop-e l = record {
  gives : Hands (walk.judge_enumerators l.whole (pos 0) (enumerators_of l.e-items)) (walk.judge_enumerators l.whole l.next (enumerators_of (drop l.e-index l.e-items))) (seen l.initial.world) (seen l.world);
  extends : Extends l.initial.world.table l.world.table;
}

abbrev pub invariant-judge_params-loop-param : goal.invariant-judge_params-loop-param
invariant-judge_params-loop-param l = record {
  gives : Gathers (walk.judge_params l.whole l.fixed 0 (params_of l.param-items)) (walk.judge_params l.whole l.fixed l.place (params_of (drop l.param-index l.param-items))) [] (all_types l.world.table.terms l.types) (seen l.initial.world) (seen l.world);
  extends : Extends l.initial.world.table l.world.table;
  valid : AllBelow (length l.world.table.terms) l.types;
  place : l.place ≡ l.param-index;
}
