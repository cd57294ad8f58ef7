-- The parts of the tree as the reader's parts, each by a name that most proofs leave closed.
use Rattle.std.specs.Prelude.{List, map, Option, Box}
use Rattle.std.specs.Global.{Global}
use Rattle.c_tree.specs.Marked as u
use Rattle.c_tree.specs.View as v
use Rattle.c_tree.specs.Tok.{Word}
use Rattle.c_tree.specs.declared.operator.Qualifier.{Qualifier}
use Rattle.c_tree.specs.declared.expression.Expr.{Expr}
use Rattle.c_tree.specs.declared.expression.TypeName.{TypeName}
use Rattle.c_tree.specs.declared.expression.Spec.{Spec}
use Rattle.c_tree.specs.declared.expression.Field.{Field}
use Rattle.c_tree.specs.declared.expression.Enumerator.{Enumerator}
use Rattle.c_tree.specs.declared.expression.Declarator.{Declarator}
use Rattle.c_tree.specs.declared.expression.Declarator.TheBlock as b
use Rattle.c_tree.specs.declared.expression.Param.{Param}
use Rattle.c_tree.specs.declared.expression.Attribute.{Attribute}
use Rattle.c_tree.specs.declared.expression.AttributeArgument.{AttributeArgument}
use Rattle.c_tree.specs.declared.expression.Entry.{Entry}
use Rattle.c_tree.specs.declared.statement.Init.{Init}
use Rattle.c_tree.specs.declared.statement.Item.{Item}
use Rattle.c_tree.specs.declared.statement.Declaration.{Declaration}
use Rattle.c_tree.specs.declared.statement.ForFirst.{ForFirst}
use Rattle.c_tree.specs.declared.statement.Stmt.{Stmt}
use Rattle.c_tree.specs.declared.statement.BlockItem.{BlockItem}
use Rattle.c_tree.specs.declared.statement.BlockItem.TheBlock as x
use Rattle.c_tree.specs.declared.statement.External.{External}
use Rattle.c_reader.specs.MarkedParts as r

-- ---- expressions, specs and declarators

unfoldable pub shown : Expr → u.Expr
shown a = v.view a

unfoldable pub shown_maybe : Option Expr → u.MaybeExpr
shown_maybe a = v.view_maybe_expr a

unfoldable pub shown_value : Option (Box Expr Global) → u.MaybeExpr
shown_value a = v.boxed_expr a

unfoldable pub shown_type : TypeName → u.TypeName
shown_type t = v.view_type_name t

unfoldable pub shown_spec : Spec → r.Spec
shown_spec (b.Keyword k) = r.keyword (v.view_keyword k)
shown_spec (b.Typedef n) = r.typedef_name n
shown_spec (b.Attribute a) = r.attribute (v.view_attribute a)
shown_spec (b.Record (b.struct-Record at is_union tag fields)) = r.records at is_union tag (v.view_body fields)
shown_spec (b.Enum (b.struct-Enum at tag list)) = r.enums at tag (v.view_list list)

-- specs that are all read
unfoldable pub shown_specs : List Spec → u.Specs
shown_specs ss = v.specs_of ss

unfoldable pub shown_declarator : Declarator → u.Declarator
shown_declarator d = v.view_declarator d

unfoldable pub shown_maybe_declarator : Option (Box Declarator Global) → u.MaybeDeclarator
shown_maybe_declarator d = v.boxed_declarator d

unfoldable pub shown_field : Field → r.Field
shown_field f = record { at = f.at; specs = v.specs_of f.specs; declarators = v.declarators_of f.declarators }

unfoldable pub shown_enumerator : Enumerator → r.Enumerator
shown_enumerator e = record { at = e.at; name = e.name; value = v.boxed_expr e.value }

unfoldable pub shown_param : Param → r.Param
shown_param p = record { at = p.at; specs = v.specs_of p.specs; declarator = v.boxed_declarator p.declarator }

unfoldable pub shown_qualifiers : List Qualifier → List Word
shown_qualifiers qs = map v.view_qualifier qs

-- ---- attributes

unfoldable pub shown_argument : AttributeArgument → u.Argument
shown_argument x = v.view_argument x

unfoldable pub shown_entry : Entry → u.Entry
shown_entry e = v.view_entry e

unfoldable pub shown_attribute : Attribute → u.Attribute
shown_attribute a = v.view_attribute a

-- ---- declarations and statements

unfoldable pub shown_init : Init → u.Init
shown_init i = v.view_init i

unfoldable pub shown_maybe_init : Option Init → u.MaybeInit
shown_maybe_init i = v.view_maybe_init i

unfoldable pub shown_item : Item → u.Item
shown_item i = v.view_item i

unfoldable pub shown_declaration : Declaration → u.Declaration
shown_declaration d = v.view_declaration d

unfoldable pub shown_first : ForFirst → u.First
shown_first f = v.view_first f

unfoldable pub shown_stmt : Stmt → u.Stmt
shown_stmt s = v.view_stmt s

unfoldable pub shown_block_item : BlockItem → r.BlockItem
shown_block_item (x.Declaration d) = r.declared (v.view_declaration d)
shown_block_item (x.Stmt s) = r.statement (v.view_stmt s)

unfoldable pub shown_external : External → u.External
shown_external e = v.view_external e
