-- What is known of an expression by the number of its type, in the words of the rules.
use Rattle.std.specs.Prelude.{List}
use Rattle.c_types.specs.declared.terms.Term.{Term}
use Rattle.c_types.specs.Table.{type_at}
use Rattle.c_rules.specs.Typed.{Typed}
use Rattle.expression_rules.specs.declared.typed.Typed as r

abbrev pub typed_of : List Term → r.Typed → Typed
typed_of ts x = record {
  type = type_at ts x.ty.0;
  is_lvalue = x.is_lvalue;
  value = x.value;
  is_null = x.is_null;
  address = x.address;
  text = x.text;
}
