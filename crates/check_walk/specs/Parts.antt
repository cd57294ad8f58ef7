-- Structs, unions and enumerations by their parts.
use Rattle.std.specs.Prelude.{ℕ, List, Option}
use Rattle.c_tree.specs.View.{body_of, list_of}
use Rattle.c_tree.specs.declared.expression.Record as r
use Rattle.c_tree.specs.declared.expression.Enum as e
use Rattle.c_types.specs.CTypes.{CType}
use Rattle.c_rules.specs.Forms.{Whole}
use Rattle.c_rules.specs.Trials.{M}
use Rattle.c_rules.specs.Walk.{Fixed}
use Rattle.check_walk.specs.Walking.{record_spec, enum_spec}

abbrev pub record_seen : Whole → Fixed → (own : Option (List ℕ)) → r.Record → M CType
record_seen u fixed own x = record_spec u fixed own (r.out-Record x).at (r.out-Record x).is_union (r.out-Record x).tag (body_of (r.out-Record x).fields)

abbrev pub enum_seen : Whole → Fixed → (own : Option (List ℕ)) → e.Enum → M CType
enum_seen u fixed own x = enum_spec u fixed own (e.out-Enum x).at (e.out-Enum x).tag (list_of (e.out-Enum x).list)
