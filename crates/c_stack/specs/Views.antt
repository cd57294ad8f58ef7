-- The program's stack and modes, seen as the reader's.
use Rattle.std.specs.Prelude.{map}
use Rattle.c_tree.specs.View.{view_op, view_assign, view_prefix}
use Rattle.c_reader.specs.MarkedParts as p
use Rattle.c_reader.specs.MarkedInside as r
use Rattle.c_symbol.specs.Seen.{view_tagged, view_member}
use Rattle.c_symbol.specs.Shown.{shown, shown_maybe, shown_type, shown_spec, shown_specs, shown_declarator, shown_field, shown_enumerator, shown_param, shown_qualifiers, shown_argument, shown_entry, shown_attribute, shown_init, shown_item, shown_first, shown_stmt, shown_block_item, shown_external}
use Rattle.c_symbol.specs.Nodes.{view_open, view_had}
use Rattle.c_stack.specs.declared.place.StmtPlace.{StmtPlace}
use Rattle.c_stack.specs.declared.place.BodyPlace.{BodyPlace}
use Rattle.c_stack.specs.declared.place.DeclarationPlace.{DeclarationPlace}
use Rattle.c_stack.specs.declared.place.InitPlace.{InitPlace}
use Rattle.c_stack.specs.declared.place.ExprPlace.{ExprPlace}
use Rattle.c_stack.specs.declared.place.DeclaratorPlace.{DeclaratorPlace}
use Rattle.c_stack.specs.declared.place.SpecsPlace.{SpecsPlace}
use Rattle.c_stack.specs.declared.place.StmtFrame.{StmtFrame}
use Rattle.c_stack.specs.declared.place.StmtFrame.TheVariants as fs
use Rattle.c_stack.specs.declared.place.BodyFrame.{BodyFrame}
use Rattle.c_stack.specs.declared.place.BodyFrame.TheVariants as fb
use Rattle.c_stack.specs.declared.place.DeclarationFrame.{DeclarationFrame}
use Rattle.c_stack.specs.declared.place.DeclarationFrame.TheVariants as fd
use Rattle.c_stack.specs.declared.place.InitFrame.{InitFrame}
use Rattle.c_stack.specs.declared.place.InitFrame.TheVariants as fi
use Rattle.c_stack.specs.declared.place.ExprFrame.{ExprFrame}
use Rattle.c_stack.specs.declared.place.ExprFrame.TheVariants as fe
use Rattle.c_stack.specs.declared.place.DeclaratorFrame.{DeclaratorFrame}
use Rattle.c_stack.specs.declared.place.DeclaratorFrame.TheVariants as fp
use Rattle.c_stack.specs.declared.place.SpecsFrame.{SpecsFrame}
use Rattle.c_stack.specs.declared.place.SpecsFrame.TheVariants as fk
use Rattle.c_stack.specs.declared.inside.InStmt.{InStmt}
use Rattle.c_stack.specs.declared.inside.InBody.{InBody}
use Rattle.c_stack.specs.declared.inside.InBody.TheBlock as b
use Rattle.c_stack.specs.declared.inside.InDeclaration.{InDeclaration}
use Rattle.c_stack.specs.declared.inside.ItemsRead.{ItemsRead}
use Rattle.c_stack.specs.declared.inside.ItemHead.{ItemHead}
use Rattle.c_stack.specs.declared.inside.InItems.{InItems}
use Rattle.c_stack.specs.declared.inside.ItemRead.{ItemRead}
use Rattle.c_stack.specs.declared.inside.InInit.{InInit}
use Rattle.c_stack.specs.declared.inside.Condition.{Condition}
use Rattle.c_stack.specs.declared.inside.Condition.TheVariants as c
use Rattle.c_stack.specs.declared.inside.Part.{Part}
use Rattle.c_stack.specs.declared.inside.Part.TheVariants as t
use Rattle.c_stack.specs.declared.inside.Operand.{Operand}
use Rattle.c_stack.specs.declared.inside.Operand.TheVariants as o
use Rattle.c_stack.specs.declared.inside.Callee.{Callee}
use Rattle.c_stack.specs.declared.inside.Callee.TheVariants as f
use Rattle.c_stack.specs.declared.inside.Bracket.{Bracket}
use Rattle.c_stack.specs.declared.inside.Bracket.TheVariants as h
use Rattle.c_stack.specs.declared.inside.TypePlace.{TypePlace}
use Rattle.c_stack.specs.declared.inside.TypePlace.TheVariants as w
use Rattle.c_stack.specs.declared.inside.SpecsRead.{SpecsRead}
use Rattle.c_stack.specs.declared.inside.InExpr.{InExpr}
use Rattle.c_stack.specs.declared.inside.InDeclarator.{InDeclarator}
use Rattle.c_stack.specs.declared.inside.InSpecs.{InSpecs}
use Rattle.c_stack.specs.declared.inside.RecordRead.{RecordRead}
use Rattle.c_stack.specs.declared.inside.EnumRead.{EnumRead}
use Rattle.c_stack.specs.declared.inside.ParamsRead.{ParamsRead}
use Rattle.c_stack.specs.declared.inside.InFields.{InFields}
use Rattle.c_stack.specs.declared.inside.InEnum.{InEnum}
use Rattle.c_stack.specs.declared.inside.InParams.{InParams}
use Rattle.c_stack.specs.declared.inside.InAttribute.{InAttribute}
use Rattle.c_stack.specs.declared.inside.InAttribute.TheVariants as n
use Rattle.c_stack.specs.declared.inside.ArgumentRead.{ArgumentRead}
use Rattle.c_stack.specs.declared.inside.ArgumentRead.TheVariants as g
use Rattle.c_stack.specs.declared.inside.AttributeMode.{AttributeMode}
use Rattle.c_stack.specs.declared.inside.AttributeMode.TheVariants as am
use Rattle.c_stack.specs.declared.inside.SpecsMode.{SpecsMode}
use Rattle.c_stack.specs.declared.inside.SpecsMode.TheVariants as sm
use Rattle.c_stack.specs.declared.inside.DeclaratorMode.{DeclaratorMode}
use Rattle.c_stack.specs.declared.inside.DeclaratorMode.TheVariants as dm
use Rattle.c_stack.specs.declared.inside.ExprMode.{ExprMode}
use Rattle.c_stack.specs.declared.inside.ExprMode.TheVariants as em
use Rattle.c_stack.specs.declared.inside.Unended.{Unended}
use Rattle.c_stack.specs.declared.inside.Unended.TheVariants as un
use Rattle.c_stack.specs.declared.inside.StmtMode.{StmtMode}
use Rattle.c_stack.specs.declared.inside.StmtMode.TheVariants as tm
use Rattle.c_stack.specs.declared.inside.Mode.{Mode}
use Rattle.c_stack.specs.declared.inside.Mode.TheVariants as m

-- ---- parts that were read, in their places

abbrev pub items_at : ItemsRead → r.InDeclaration → r.InItems
items_at x q = record { node = view_open x.node; specs = shown_specs x.specs; typedef = x.typedef; items = map shown_item x.items; place = q }

abbrev pub item_at : ItemHead → r.InDeclaration → r.ItemRead
item_at x q = record { node = view_open x.node; before = items_at x.before q; declarator = shown_declarator x.declarator; attributes = map shown_attribute x.attributes }

abbrev pub view_specs_read : SpecsRead → p.SpecsRead
view_specs_read x = record { node = view_open x.node; specs = map shown_spec x.specs; seen = x.seen; typedef = x.typedef }

abbrev pub record_at : RecordRead → r.InSpecs → r.InFields
record_at x k = r.in_fields (view_open x.node) x.is_union x.tag (map shown_field x.fields) (view_specs_read x.specs) k

abbrev pub enum_at : EnumRead → r.InSpecs → r.InEnum
enum_at x k = r.in_enum (view_open x.node) x.tag (map shown_enumerator x.list) (view_specs_read x.specs) k

abbrev pub params_at : ParamsRead → r.InDeclarator → r.InParams
params_at x k = r.in_params (view_open x.node) (shown_declarator x.declarator) (map shown_param x.params) k

abbrev pub view_condition : Condition → r.Condition
view_condition c.If = r.of_if
view_condition c.While = r.of_while
view_condition (c.Do s) = r.of_do (shown_stmt s)

abbrev pub view_part : Part → r.Part
view_part t.Plain = r.plain
view_part t.Returned = r.returned
view_part (t.Condition x) = r.condition (view_condition x)
view_part t.ForFirst = r.for_first
view_part (t.ForCondition x) = r.for_condition (shown_first x)
view_part (t.ForStep x a) = r.for_step (shown_first x) (shown_maybe a)

abbrev pub view_operand : Operand → r.Operand
view_operand (o.Prefix x) = r.of_prefix (view_prefix x)
view_operand o.Sizeof = r.of_sizeof
view_operand (o.Cast x) = r.of_cast (shown_type x)
view_operand (o.Binary a x) = r.of_binary (shown a) (view_op x)
view_operand (o.Assign a x) = r.of_assign (shown a) (view_assign x)
view_operand (o.Comma a) = r.of_comma (shown a)
view_operand (o.Cond a e) = r.of_cond (shown a) (shown e)

abbrev pub view_callee : Callee → r.Callee
view_callee (f.Function a) = r.of_function (shown a)
view_callee f.Builtin = r.of_builtin

abbrev pub view_bracket : Bracket → r.Bracket
view_bracket h.Paren = r.of_paren
view_bracket (h.Index a) = r.of_index (shown a)
view_bracket (h.Args x xs) = r.of_args (view_callee x) (map shown xs)
view_bracket (h.Middle a) = r.of_middle (shown a)

abbrev pub view_place : TypePlace → r.TypePlace
view_place w.Cast = r.cast_type
view_place w.Sizeof = r.sizeof_type

-- ---- the stack

abbrev mutual
  pub view_in_stmt : InStmt → r.InStmt
  view_in_stmt (b.InStmt::Block' x is at k) = r.in_block (view_open x) (map shown_block_item is) (view_in_body k)
  view_in_stmt (b.Then' x a at k) = r.in_then (view_open x) (shown a) (view_in_stmt k)
  view_in_stmt (b.Else' x a s at k) = r.in_else (view_open x) (shown a) (shown_stmt s) (view_in_stmt k)
  view_in_stmt (b.While' x a at k) = r.in_while (view_open x) (shown a) (view_in_stmt k)
  view_in_stmt (b.Do' x at k) = r.in_do (view_open x) (view_in_stmt k)
  view_in_stmt (b.InStmt::For' x first a e at k) = r.in_for (view_open x) (shown_first first) (shown_maybe a) (shown_maybe e) (view_in_stmt k)

  pub view_in_body : InBody → r.InBody
  view_in_body (b.Definition deep x done ss d) = r.of_definition deep (view_open x) (map shown_external done) (shown_specs ss) (shown_declarator d)
  view_in_body (b.InBody::Stmt' at k) = r.of_stmt (view_in_stmt k)
  view_in_body (b.Never' x at k) = elim x [ ]

  pub view_in_declaration : InDeclaration → r.InDeclaration
  view_in_declaration (b.External deep done) = r.of_external deep (map shown_external done)
  view_in_declaration (b.InDeclaration::Block' x is at k) = r.of_block (view_open x) (map shown_block_item is) (view_in_body k)
  view_in_declaration (b.InDeclaration::For' x at k) = r.of_for (view_open x) (view_in_stmt k)

  pub view_in_init : InInit → r.InInit
  view_in_init (b.InInit::Item' x at q) = r.of_item (item_at x (view_in_declaration q))
  view_in_init (b.Braces' x is at k) = r.in_braces (view_open x) (map shown_init is) (view_in_init k)

  pub view_in_expr : InExpr → r.InExpr
  view_in_expr (b.Operand' x y at k) = r.in_operand (view_open x) (view_operand y) (view_in_expr k)
  view_in_expr (b.Bracket' x y at k) = r.in_bracket (view_open x) (view_bracket y) (view_in_expr k)
  view_in_expr (b.InExpr::Stmt' x y at k) = r.in_stmt (view_open x) (view_part y) (view_in_stmt k)
  view_in_expr (b.Init' at k) = r.in_init (view_in_init k)
  view_in_expr (b.Value' x y z at k) = r.in_value (view_open x) y (enum_at z (view_in_specs k))
  view_in_expr (b.Array' x y at k) = r.in_array (view_open x) (shown_declarator y) (view_in_declarator k)

  pub view_in_declarator : InDeclarator → r.InDeclarator
  view_in_declarator (b.Pointer' x qs at k) = r.in_pointer (view_open x) (shown_qualifiers qs) (view_in_declarator k)
  view_in_declarator (b.Group' x at k) = r.in_group (view_open x) (view_in_declarator k)
  view_in_declarator (b.InDeclarator::Item' x at q) = r.in_item (items_at x (view_in_declaration q))
  view_in_declarator (b.InDeclarator::Field' x y at k ss ds) = r.in_field (view_open x) (record_at y (view_in_specs k)) (shown_specs ss) (map shown_declarator ds)
  view_in_declarator (b.InDeclarator::Param' x y at k ss) = r.in_param (view_open x) (params_at y (view_in_declarator k)) (shown_specs ss)
  view_in_declarator (b.InDeclarator::Type' x y z at k ss) = r.in_type (view_open x) (view_open y) (view_place z) (view_in_expr k) (shown_specs ss)

  pub view_in_specs : InSpecs → r.InSpecs
  view_in_specs (b.Declaration' at q) = r.of_declaration (view_in_declaration q)
  view_in_specs (b.InSpecs::Field' y at k) = r.of_field (record_at y (view_in_specs k))
  view_in_specs (b.InSpecs::Param' y at k) = r.of_param (params_at y (view_in_declarator k))
  view_in_specs (b.InSpecs::Type' x z at k) = r.of_type (view_open x) (view_place z) (view_in_expr k)

-- ---- places, and their frames

abbrev pub view_stmt_place : StmtPlace → r.InStmt
view_stmt_place k = view_in_stmt k.place.value

abbrev pub view_body_place : BodyPlace → r.InBody
view_body_place k = view_in_body k.place.value

abbrev pub view_declaration_place : DeclarationPlace → r.InDeclaration
view_declaration_place k = view_in_declaration k.place.value

abbrev pub view_init_place : InitPlace → r.InInit
view_init_place k = view_in_init k.place.value

abbrev pub view_expr_place : ExprPlace → r.InExpr
view_expr_place k = view_in_expr k.place.value

abbrev pub view_declarator_place : DeclaratorPlace → r.InDeclarator
view_declarator_place k = view_in_declarator k.place.value

abbrev pub view_specs_place : SpecsPlace → r.InSpecs
view_specs_place k = view_in_specs k.place.value

abbrev pub view_stmt_frame : StmtFrame → r.InStmt
view_stmt_frame (fs.Block x is k) = r.in_block (view_open x) (map shown_block_item is) (view_body_place k)
view_stmt_frame (fs.Then x a k) = r.in_then (view_open x) (shown a) (view_stmt_place k)
view_stmt_frame (fs.Else x a s k) = r.in_else (view_open x) (shown a) (shown_stmt s) (view_stmt_place k)
view_stmt_frame (fs.While x a k) = r.in_while (view_open x) (shown a) (view_stmt_place k)
view_stmt_frame (fs.Do x k) = r.in_do (view_open x) (view_stmt_place k)
view_stmt_frame (fs.For x first a e k) = r.in_for (view_open x) (shown_first first) (shown_maybe a) (shown_maybe e) (view_stmt_place k)

abbrev pub view_body_frame : BodyFrame → r.InBody
view_body_frame (fb.Definition deep x done ss d) = r.of_definition deep (view_open x) (map shown_external done) (shown_specs ss) (shown_declarator d)
view_body_frame (fb.Stmt k) = r.of_stmt (view_stmt_place k)

abbrev pub view_declaration_frame : DeclarationFrame → r.InDeclaration
view_declaration_frame (fd.External deep done) = r.of_external deep (map shown_external done)
view_declaration_frame (fd.Block x is k) = r.of_block (view_open x) (map shown_block_item is) (view_body_place k)
view_declaration_frame (fd.For x k) = r.of_for (view_open x) (view_stmt_place k)

abbrev pub view_init_frame : InitFrame → r.InInit
view_init_frame (fi.Item x q) = r.of_item (item_at x (view_declaration_place q))
view_init_frame (fi.Braces x is k) = r.in_braces (view_open x) (map shown_init is) (view_init_place k)

abbrev pub view_expr_frame : ExprFrame → r.InExpr
view_expr_frame (fe.Operand x y k) = r.in_operand (view_open x) (view_operand y) (view_expr_place k)
view_expr_frame (fe.Bracket x y k) = r.in_bracket (view_open x) (view_bracket y) (view_expr_place k)
view_expr_frame (fe.Stmt x y k) = r.in_stmt (view_open x) (view_part y) (view_stmt_place k)
view_expr_frame (fe.Init k) = r.in_init (view_init_place k)
view_expr_frame (fe.Value x y z k) = r.in_value (view_open x) y (enum_at z (view_specs_place k))
view_expr_frame (fe.Array x y k) = r.in_array (view_open x) (shown_declarator y) (view_declarator_place k)

abbrev pub view_declarator_frame : DeclaratorFrame → r.InDeclarator
view_declarator_frame (fp.Pointer x qs k) = r.in_pointer (view_open x) (shown_qualifiers qs) (view_declarator_place k)
view_declarator_frame (fp.Group x k) = r.in_group (view_open x) (view_declarator_place k)
view_declarator_frame (fp.Item x q) = r.in_item (items_at x (view_declaration_place q))
view_declarator_frame (fp.Field x y k ss ds) = r.in_field (view_open x) (record_at y (view_specs_place k)) (shown_specs ss) (map shown_declarator ds)
view_declarator_frame (fp.Param x y k ss) = r.in_param (view_open x) (params_at y (view_declarator_place k)) (shown_specs ss)
view_declarator_frame (fp.Type x y z k ss) = r.in_type (view_open x) (view_open y) (view_place z) (view_expr_place k) (shown_specs ss)

abbrev pub view_specs_frame : SpecsFrame → r.InSpecs
view_specs_frame (fk.Declaration q) = r.of_declaration (view_declaration_place q)
view_specs_frame (fk.Field y k) = r.of_field (record_at y (view_specs_place k))
view_specs_frame (fk.Param y k) = r.of_param (params_at y (view_declarator_place k))
view_specs_frame (fk.Type x z k) = r.of_type (view_open x) (view_place z) (view_expr_place k)

abbrev pub view_in_items : InItems → r.InItems
view_in_items x = items_at x.read (view_declaration_place x.place)

abbrev pub view_item_read : ItemRead → r.ItemRead
view_item_read x = item_at x.head (view_declaration_place x.place)

abbrev pub view_in_fields : InFields → r.InFields
view_in_fields x = record_at x.read (view_specs_place x.place)

abbrev pub view_in_enum : InEnum → r.InEnum
view_in_enum x = enum_at x.read (view_specs_place x.place)

abbrev pub view_in_params : InParams → r.InParams
view_in_params x = params_at x.read (view_declarator_place x.place)

abbrev pub view_in_attribute : InAttribute → r.InAttribute
view_in_attribute (n.Specs ss k) = r.of_specs (view_specs_read ss) (view_specs_place k)
view_in_attribute (n.Read x) = r.of_read (view_item_read x)

-- ---- where the reader is

abbrev pub view_argument_read : ArgumentRead → p.ArgumentRead
view_argument_read (g.Number x) = p.number_read x
view_argument_read (g.Text xs) = p.text_read xs

abbrev pub view_attribute_mode : AttributeMode → r.AttributeMode
view_attribute_mode am.Word = r.attribute_word
view_attribute_mode am.Opened = r.attribute_opened
view_attribute_mode am.EntriesOpened = r.entries_opened
view_attribute_mode (am.WantEntry es) = r.want_entry (map shown_entry es)
view_attribute_mode (am.AfterEntryName es x) = r.after_entry_name (map shown_entry es) x
view_attribute_mode (am.ArgumentsOpened es x) = r.arguments_opened (map shown_entry es) x
view_attribute_mode (am.WantArgument es x xs) = r.want_argument (map shown_entry es) x (map shown_argument xs)
view_attribute_mode (am.AfterArgument from es x xs y) = r.after_argument from (map shown_entry es) x (map shown_argument xs) (view_argument_read y)
view_attribute_mode (am.AfterEntry es) = r.after_entry (map shown_entry es)
view_attribute_mode (am.Closing es) = r.attribute_closing (map shown_entry es)

abbrev pub view_specs_mode : SpecsMode → r.SpecsMode
view_specs_mode (sm.InSpecs ss k) = r.in_specs (view_specs_read ss) (view_specs_place k)
view_specs_mode (sm.AfterTagged x y ss k) = r.after_tagged (view_open x) (view_tagged y) (view_specs_read ss) (view_specs_place k)
view_specs_mode (sm.AfterTag x y z ss k) = r.after_tag (view_open x) (view_tagged y) z (view_specs_read ss) (view_specs_place k)
view_specs_mode (sm.WantField k) = r.want_field (view_in_fields k)
view_specs_mode (sm.WantEnumerator k) = r.want_enumerator (view_in_enum k)
view_specs_mode (sm.AfterEnumerator x y k) = r.after_enumerator (view_open x) y (view_in_enum k)
view_specs_mode (sm.WantParam k) = r.want_param (view_in_params k)

abbrev pub view_declarator_mode : DeclaratorMode → r.DeclaratorMode
view_declarator_mode (dm.WantDeclarator k) = r.want_declarator (view_declarator_place k)
view_declarator_mode (dm.AfterStar x qs k) = r.after_star (view_open x) (shown_qualifiers qs) (view_declarator_place k)
view_declarator_mode (dm.Opened x k) = r.declarator_opened (view_open x) (view_declarator_place k)
view_declarator_mode (dm.AfterDeclarator x k y) = r.after_declarator (view_had x) (view_declarator_place k) (shown_declarator y)
view_declarator_mode (dm.ArrayOpened x y k) = r.array_opened (view_open x) (shown_declarator y) (view_declarator_place k)
view_declarator_mode (dm.ParamsOpened x y k) = r.params_opened (view_open x) (shown_declarator y) (view_declarator_place k)

abbrev pub view_expr_mode : ExprMode → r.ExprMode
view_expr_mode (em.WantExpr k) = r.want_expr (view_expr_place k)
view_expr_mode (em.AfterExpr x k a) = r.after_expr (view_had x) (view_expr_place k) (shown a)
view_expr_mode (em.AfterText from k xs) = r.after_text from (view_expr_place k) xs
view_expr_mode (em.Opened x k) = r.opened (view_open x) (view_expr_place k)
view_expr_mode (em.AfterSizeof x k) = r.after_sizeof (view_open x) (view_expr_place k)
view_expr_mode (em.SizeofOpened x from k) = r.sizeof_opened (view_open x) from (view_expr_place k)
view_expr_mode (em.ArgsOpened x a k) = r.args_opened (view_open x) (shown a) (view_expr_place k)
view_expr_mode (em.AfterBuiltin x k) = r.after_builtin (view_open x) (view_expr_place k)
view_expr_mode (em.WantMember x a y k) = r.want_member (view_open x) (shown a) (view_member y) (view_expr_place k)

abbrev pub view_unended : Unended → r.Unended
view_unended un.Broken = r.broken
view_unended un.Continued = r.continued
view_unended (un.DoneWhile s a) = r.done_while (shown_stmt s) (shown a)

abbrev pub view_stmt_mode : StmtMode → r.StmtMode
view_stmt_mode (tm.WantStmt k) = r.want_stmt (view_stmt_place k)
view_stmt_mode (tm.AfterStmt deep k s) = r.after_stmt deep (view_stmt_place k) (shown_stmt s)
view_stmt_mode (tm.WantParen x y k) = r.want_paren (view_open x) (view_condition y) (view_stmt_place k)
view_stmt_mode (tm.AfterFor x k) = r.after_for (view_open x) (view_stmt_place k)
view_stmt_mode (tm.ForOpened x k) = r.for_opened (view_open x) (view_stmt_place k)
view_stmt_mode (tm.WantCondition x y k) = r.want_condition (view_open x) (shown_first y) (view_stmt_place k)
view_stmt_mode (tm.WantStep x y a k) = r.want_step (view_open x) (shown_first y) (shown_maybe a) (view_stmt_place k)
view_stmt_mode (tm.WantSemi x y k) = r.want_semi (view_open x) (view_unended y) (view_stmt_place k)
view_stmt_mode (tm.AfterReturn x k) = r.after_return (view_open x) (view_stmt_place k)

abbrev pub view_mode : Mode → r.Mode
view_mode (m.WantExternal deep done) = r.want_external deep (map shown_external done)
view_mode (m.Attribute x y k) = r.in_attribute (view_open x) (view_attribute_mode y) (view_in_attribute k)
view_mode (m.Specs x) = r.specs (view_specs_mode x)
view_mode (m.Declarator x) = r.declarator (view_declarator_mode x)
view_mode (m.AfterAttributes x) = r.after_attributes (view_item_read x)
view_mode (m.WantInit k) = r.want_init (view_init_place k)
view_mode (m.AfterInit deep k x) = r.after_init deep (view_init_place k) (shown_init x)
view_mode (m.Expr x) = r.expr (view_expr_mode x)
view_mode (m.Stmt x) = r.stmt (view_stmt_mode x)
