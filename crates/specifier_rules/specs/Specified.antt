-- The specifiers that were read, by the numbers of their types, in the words of the rules.
use Rattle.std.specs.Prelude.{List, map, Option, Some, None, unwrap_or}
use Rattle.c_tree.specs.View.{view_keyword}
use Rattle.c_types.specs.declared.terms.Term.{Term}
use Rattle.num_ops.specs.declared.kinds.IntKind.TheVariants as k
use Rattle.c_types.specs.CTypes.{CType, Int}
use Rattle.c_types.specs.Table.{type_at}
use Rattle.c_types.specs.declared.terms.TypeId.{TypeId}
use Rattle.c_rules.specs.Specifiers.{Specified}
use Rattle.c_rules.specs.Specifiers.{type_specified}
use Rattle.specifier_rules.specs.declared.specified.Specified as r
use Rattle.specifier_rules.specs.declared.written.Basic.{Basic}
use Rattle.specifier_rules.specs.Written.{basic_type}

-- the types with these numbers
abbrev pub all_types : List Term → List TypeId → List CType
all_types ts is = map (λ (i : TypeId). type_at ts i.0) is

abbrev pub specified_of : List Term → r.Specified → Specified
specified_of ts s = record { words = map view_keyword s.words; types = all_types ts s.types; has_tag = s.has_tag }

-- a type that words write, or int
abbrev pub basic_or_int : Option Basic → CType
basic_or_int None = Int k.Int
basic_or_int (Some b) = basic_type b

-- the one type of specifiers, or int
abbrev pub type_by : Specified → CType
type_by s = unwrap_or (type_specified s.types s.words) (Int k.Int)
