-- What is known of a unit that keeps all rules: of its nodes by their numbers, and of what it declares.
use Rattle.std.specs.Prelude.{List, Option}
use Rattle.c_types.specs.CTypes.{CType}
use Rattle.c_types.specs.Records.{Records}
use Rattle.c_rules.specs.World.{World, EnumOf, ObjectOf, FunctionOf}
use Rattle.c_rules.specs.declared.known.Binding.{Binding}
use Rattle.c_rules.specs.declared.known.ConstantValue.{ConstantValue}

pub record Known : Type 0 where
  -- structs and unions by their numbers, and enumerations
  pub records : Records
  pub enums : List EnumOf
  -- objects and parameters, and functions, by the numbers to which names are bound
  pub objects : List ObjectOf
  pub functions : List FunctionOf
  -- by the number of a node: the type of an expression as written, a type name or a declared name
  pub types : List (Option CType)
  -- the type to which an expression is converted as by assignment; a string literal that gives an array its bytes has none
  pub targets : List (Option CType)
  -- what a name in an expression or the declared name of an object or a function is bound to
  pub bindings : List (Option Binding)
  -- the value of an integer or character constant, and of an expression that initialises a static scalar
  pub constants : List (Option ConstantValue)

abbrev pub known : World → Known
known w = record {
  records = w.records;
  enums = w.enums;
  objects = w.objects;
  functions = w.functions;
  types = w.types;
  targets = w.targets;
  bindings = w.bindings;
  constants = w.constants;
}
