-- The stack and the modes without places and numbers.
use Rattle.std.proofs.Common.{◌≡◌, Bool, true, false, if◌then◌else◌, List, [], ◌∷◌, ◌++◌, map, Option, Some, None, refl, ◌∙◌, ap}
use Rattle.c_tree.specs.Tree as b
use Rattle.c_tree.specs.Marked as u
use Rattle.c_tree.specs.Marked.{Expr, type_name, Declarator, Init}
use Rattle.c_tree.specs.Bare.{bare_argument, bare_entry, bare_attribute, bare, bare_exprs, bare_maybe, bare_specs, bare_body, bare_fields, bare_declarators, bare_list, bare_enumerators, bare_maybe_declarator, bare_declarator, bare_params, bare_init, bare_inits, bare_item, bare_declaration, bare_first, bare_stmt, bare_block, bare_unit}
use Rattle.c_reader.specs.Parts as p
use Rattle.c_reader.specs.Inside as i
use Rattle.c_reader.specs.Begin.{is_empty}
use Rattle.c_reader.specs.MarkedParts as r
use Rattle.c_reader.specs.MarkedParts.{Spec, Field, Enumerator, Param, BlockItem, ArgumentRead, SpecsRead}
use Rattle.c_reader.specs.MarkedInside.{InStmt, InBody, in_block, in_then, in_else, in_while, in_do, in_for, of_definition, of_stmt, InDeclaration, of_external, of_block, of_for, InItems, ItemRead, InInit, of_item, in_braces, Condition, of_if, of_while, of_do, Part, plain, returned, condition, for_first, for_condition, for_step, Operand, of_prefix, of_sizeof, of_cast, of_binary, of_assign, of_comma, of_cond, Callee, of_function, Bracket, of_paren, of_index, of_args, of_builtin, of_middle, TypePlace, cast_type, sizeof_type, InExpr, in_operand, in_bracket, in_stmt, in_init, in_value, in_array, InDeclarator, in_pointer, in_group, in_item, in_field, in_param, in_type, InSpecs, of_declaration, of_field, of_param, of_type, InFields, in_fields, InEnum, in_enum, InParams, in_params, InAttribute, of_specs, of_read, AttributeMode, attribute_word, attribute_opened, entries_opened, want_entry, after_entry_name, arguments_opened, want_argument, after_argument, after_entry, attribute_closing, SpecsMode, in_specs, after_tagged, after_tag, want_field, want_enumerator, after_enumerator, want_param, DeclaratorMode, want_declarator, after_star, declarator_opened, after_declarator, array_opened, params_opened, ExprMode, want_expr, after_expr, after_text, opened, after_sizeof, sizeof_opened, args_opened, after_builtin, want_member, StmtMode, want_stmt, after_stmt, want_paren, after_for, for_opened, want_condition, want_step, want_semi, Unended, broken, continued, done_while, after_return, Mode, want_external, in_attribute, specs, declarator, after_attributes, want_init, after_init, expr, stmt, Next}

-- ---- parts

abbrev pub erase_spec : Spec → p.Spec
erase_spec (r.keyword w) = p.keyword w
erase_spec (r.typedef_name n) = p.typedef_name n
erase_spec (r.attribute a) = p.attribute (bare_attribute a)
erase_spec (r.records at is_union tag fs) = p.records is_union tag (bare_body fs)
erase_spec (r.enums at tag es) = p.enums tag (bare_list es)

abbrev pub erase_field : Field → p.Field
erase_field f = record { specs = bare_specs f.specs; declarators = bare_declarators f.declarators }

abbrev pub erase_enumerator : Enumerator → p.Enumerator
erase_enumerator e = record { name = e.name; value = bare_maybe e.value }

abbrev pub erase_param : Param → p.Param
erase_param x = record { specs = bare_specs x.specs; declarator = bare_maybe_declarator x.declarator }

abbrev pub erase_block_item : BlockItem → p.BlockItem
erase_block_item (r.declared d) = p.declared (bare_declaration d)
erase_block_item (r.statement s) = p.statement (bare_stmt s)

abbrev pub erase_argument : ArgumentRead → b.Argument
erase_argument (r.number_read v) = b.NumberArgument v
erase_argument (r.text_read vs) = b.TextArgument vs

abbrev pub erase_specs_read : SpecsRead → p.SpecsRead
erase_specs_read ss = record { specs = map erase_spec ss.specs; seen = ss.seen; typedef = ss.typedef }

-- ---- statements and declarations

abbrev mutual
  pub erase_stmt : InStmt → i.InStmt
  erase_stmt (in_block o is k) = i.in_block (map erase_block_item is) (erase_body k)
  erase_stmt (in_then o c k) = i.in_then (bare c) (erase_stmt k)
  erase_stmt (in_else o c a k) = i.in_else (bare c) (bare_stmt a) (erase_stmt k)
  erase_stmt (in_while o c k) = i.in_while (bare c) (erase_stmt k)
  erase_stmt (in_do o k) = i.in_do (erase_stmt k)
  erase_stmt (in_for o f c e k) = i.in_for (bare_first f) (bare_maybe c) (bare_maybe e) (erase_stmt k)

  pub erase_body : InBody → i.InBody
  erase_body (of_definition deep o done ss d) = i.of_definition (bare_unit done) (bare_specs ss) (bare_declarator d)
  erase_body (of_stmt k) = i.of_stmt (erase_stmt k)

abbrev pub erase_declaration : InDeclaration → i.InDeclaration
erase_declaration (of_external deep done) = i.of_external (bare_unit done)
erase_declaration (of_block o is k) = i.of_block (map erase_block_item is) (erase_body k)
erase_declaration (of_for o k) = i.of_for (erase_stmt k)

abbrev pub erase_items : InItems → i.InItems
erase_items q = record { specs = bare_specs q.specs; typedef = q.typedef; items = map bare_item q.items; place = erase_declaration q.place }

abbrev pub erase_item_read : ItemRead → i.ItemRead
erase_item_read x = record { before = erase_items x.before; declarator = bare_declarator x.declarator; attributes = map bare_attribute x.attributes }

abbrev pub erase_init : InInit → i.InInit
erase_init (of_item x) = i.of_item (erase_item_read x)
erase_init (in_braces o is k) = i.in_braces (map bare_init is) (erase_init k)

abbrev pub erase_condition : Condition → i.Condition
erase_condition of_if = i.of_if
erase_condition of_while = i.of_while
erase_condition (of_do s) = i.of_do (bare_stmt s)

abbrev pub erase_part : Part → i.Part
erase_part plain = i.plain
erase_part returned = i.returned
erase_part (condition c) = i.condition (erase_condition c)
erase_part for_first = i.for_first
erase_part (for_condition f) = i.for_condition (bare_first f)
erase_part (for_step f c) = i.for_step (bare_first f) (bare_maybe c)

-- ---- expressions, specs and declarators

abbrev pub erase_operand : Operand → i.Operand
erase_operand (of_prefix o) = i.of_prefix o
erase_operand of_sizeof = i.of_sizeof
erase_operand (of_cast (type_name at ss d)) = i.of_cast (bare_specs ss) (bare_maybe_declarator d)
erase_operand (of_binary l o) = i.of_binary (bare l) o
erase_operand (of_assign l o) = i.of_assign (bare l) o
erase_operand (of_comma l) = i.of_comma (bare l)
erase_operand (of_cond c a) = i.of_cond (bare c) (bare a)

abbrev pub erase_callee : Callee → i.Callee
erase_callee (of_function f) = i.of_function (bare f)
erase_callee of_builtin = i.of_builtin

abbrev pub erase_bracket : Bracket → i.Bracket
erase_bracket of_paren = i.of_paren
erase_bracket (of_index l) = i.of_index (bare l)
erase_bracket (of_args c xs) = i.of_args (erase_callee c) (map bare xs)
erase_bracket (of_middle c) = i.of_middle (bare c)

abbrev pub erase_type : TypePlace → i.TypePlace
erase_type cast_type = i.cast_type
erase_type sizeof_type = i.sizeof_type

abbrev mutual
  pub erase_expr : InExpr → i.InExpr
  erase_expr (in_operand o x k) = i.in_operand (erase_operand x) (erase_expr k)
  erase_expr (in_bracket o x k) = i.in_bracket (erase_bracket x) (erase_expr k)
  erase_expr (in_stmt o x k) = i.in_stmt (erase_part x) (erase_stmt k)
  erase_expr (in_init k) = i.in_init (erase_init k)
  erase_expr (in_value o n k) = i.in_value n (erase_enum k)
  erase_expr (in_array o d k) = i.in_array (bare_declarator d) (erase_declarator k)

  pub erase_declarator : InDeclarator → i.InDeclarator
  erase_declarator (in_pointer o qs k) = i.in_pointer qs (erase_declarator k)
  erase_declarator (in_group o k) = i.in_group (erase_declarator k)
  erase_declarator (in_item q) = i.in_item (erase_items q)
  erase_declarator (in_field o f ss ds) = i.in_field (erase_fields f) (bare_specs ss) (map bare_declarator ds)
  erase_declarator (in_param o k ss) = i.in_param (erase_params k) (bare_specs ss)
  erase_declarator (in_type o t c k ss) = i.in_type (erase_type c) (erase_expr k) (bare_specs ss)

  pub erase_specs : InSpecs → i.InSpecs
  erase_specs (of_declaration q) = i.of_declaration (erase_declaration q)
  erase_specs (of_field f) = i.of_field (erase_fields f)
  erase_specs (of_param k) = i.of_param (erase_params k)
  erase_specs (of_type o c k) = i.of_type (erase_type c) (erase_expr k)

  pub erase_fields : InFields → i.InFields
  erase_fields (in_fields o is_union tag fs ss k) = i.in_fields is_union tag (map erase_field fs) (erase_specs_read ss) (erase_specs k)

  pub erase_enum : InEnum → i.InEnum
  erase_enum (in_enum o tag es ss k) = i.in_enum tag (map erase_enumerator es) (erase_specs_read ss) (erase_specs k)

  pub erase_params : InParams → i.InParams
  erase_params (in_params o d ps k) = i.in_params (bare_declarator d) (map erase_param ps) (erase_declarator k)

abbrev pub erase_in_attribute : InAttribute → i.InAttribute
erase_in_attribute (of_specs ss k) = i.of_specs (erase_specs_read ss) (erase_specs k)
erase_in_attribute (of_read x) = i.of_read (erase_item_read x)

-- ---- modes

abbrev pub erase_attribute_mode : AttributeMode → i.AttributeMode
erase_attribute_mode attribute_word = i.attribute_word
erase_attribute_mode attribute_opened = i.attribute_opened
erase_attribute_mode entries_opened = i.entries_opened
erase_attribute_mode (want_entry es) = i.want_entry (map bare_entry es)
erase_attribute_mode (after_entry_name es n) = i.after_entry_name (map bare_entry es) n
erase_attribute_mode (arguments_opened es n) = i.arguments_opened (map bare_entry es) n
erase_attribute_mode (want_argument es n xs) = i.want_argument (map bare_entry es) n (map bare_argument xs)
erase_attribute_mode (after_argument from es n xs x) = i.after_argument (map bare_entry es) n (map bare_argument xs) (erase_argument x)
erase_attribute_mode (after_entry es) = i.after_entry (map bare_entry es)
erase_attribute_mode (attribute_closing es) = i.attribute_closing (map bare_entry es)

abbrev pub erase_specs_mode : SpecsMode → i.SpecsMode
erase_specs_mode (in_specs ss k) = i.in_specs (erase_specs_read ss) (erase_specs k)
erase_specs_mode (after_tagged o g ss k) = i.after_tagged g (erase_specs_read ss) (erase_specs k)
erase_specs_mode (after_tag o g n ss k) = i.after_tag g n (erase_specs_read ss) (erase_specs k)
erase_specs_mode (want_field f) = i.want_field (erase_fields f)
erase_specs_mode (want_enumerator k) = i.want_enumerator (erase_enum k)
erase_specs_mode (after_enumerator o n k) = i.after_enumerator n (erase_enum k)
erase_specs_mode (want_param k) = i.want_param (erase_params k)

abbrev pub erase_declarator_mode : DeclaratorMode → i.DeclaratorMode
erase_declarator_mode (want_declarator k) = i.want_declarator (erase_declarator k)
erase_declarator_mode (after_star o qs k) = i.after_star qs (erase_declarator k)
erase_declarator_mode (declarator_opened o k) = i.declarator_opened (erase_declarator k)
erase_declarator_mode (after_declarator h k d) = i.after_declarator (erase_declarator k) (bare_declarator d)
erase_declarator_mode (array_opened o d k) = i.array_opened (bare_declarator d) (erase_declarator k)
erase_declarator_mode (params_opened o d k) = i.params_opened (bare_declarator d) (erase_declarator k)

abbrev pub erase_expr_mode : ExprMode → i.ExprMode
erase_expr_mode (want_expr k) = i.want_expr (erase_expr k)
erase_expr_mode (after_expr h k a) = i.after_expr (erase_expr k) (bare a)
erase_expr_mode (after_text from k ns) = i.after_text (erase_expr k) ns
erase_expr_mode (opened o k) = i.opened (erase_expr k)
erase_expr_mode (after_sizeof o k) = i.after_sizeof (erase_expr k)
erase_expr_mode (sizeof_opened o p_from k) = i.sizeof_opened (erase_expr k)
erase_expr_mode (args_opened o f k) = i.args_opened (bare f) (erase_expr k)
erase_expr_mode (after_builtin o k) = i.after_builtin (erase_expr k)
erase_expr_mode (want_member o a c k) = i.want_member (bare a) c (erase_expr k)

abbrev pub erase_unended : Unended → i.Unended
erase_unended broken = i.broken
erase_unended continued = i.continued
erase_unended (done_while s c) = i.done_while (bare_stmt s) (bare c)

abbrev pub erase_stmt_mode : StmtMode → i.StmtMode
erase_stmt_mode (want_stmt k) = i.want_stmt (erase_stmt k)
erase_stmt_mode (after_stmt d k s) = i.after_stmt (erase_stmt k) (bare_stmt s)
erase_stmt_mode (want_paren o c k) = i.want_paren (erase_condition c) (erase_stmt k)
erase_stmt_mode (after_for o k) = i.after_for (erase_stmt k)
erase_stmt_mode (for_opened o k) = i.for_opened (erase_stmt k)
erase_stmt_mode (want_condition o f k) = i.want_condition (bare_first f) (erase_stmt k)
erase_stmt_mode (want_step o f c k) = i.want_step (bare_first f) (bare_maybe c) (erase_stmt k)
erase_stmt_mode (want_semi o s k) = i.want_semi (erase_unended s) (erase_stmt k)
erase_stmt_mode (after_return o k) = i.after_return (erase_stmt k)

abbrev pub erase : Mode → i.Mode
erase (want_external deep done) = i.want_external (bare_unit done)
erase (in_attribute o c k) = i.in_attribute (erase_attribute_mode c) (erase_in_attribute k)
erase (specs c) = i.specs (erase_specs_mode c)
erase (declarator c) = i.declarator (erase_declarator_mode c)
erase (after_attributes x) = i.after_attributes (erase_item_read x)
erase (want_init k) = i.want_init (erase_init k)
erase (after_init d k x) = i.after_init (erase_init k) (bare_init x)
erase (expr c) = i.expr (erase_expr_mode c)
erase (stmt c) = i.stmt (erase_stmt_mode c)

abbrev pub erase_next : Next → i.State
erase_next x = record { env = x.env; mode = erase x.mode }

abbrev pub erased : Option Next → Option i.State
erased None = None
erased (Some x) = Some (erase_next x)

-- ---- lists

pub map-last : {A B : Type 0} (f : A → B) (xs : List A) (x : A) → map f (xs ++ x ∷ []) ≡ map f xs ++ f x ∷ []
map-last f [] x = refl
map-last f (z ∷ xs) x = ap (λ ys. f z ∷ ys) (map-last f xs x)

pub map-empty : {A B : Type 0} (f : A → B) (xs : List A) → is_empty xs ≡ is_empty (map f xs)
map-empty f [] = refl
map-empty f (x ∷ xs) = refl

pub exprs_erased : (xs : List Expr) → bare_exprs (r.exprs_of xs) ≡ p.exprs_of (map bare xs)
exprs_erased [] = refl
exprs_erased (a ∷ xs) = ap (b.expr (bare a)) (exprs_erased xs)

spec_erased : (s : Spec) (ss : u.Specs) → bare_specs (r.with_spec s ss) ≡ p.with_spec (erase_spec s) (bare_specs ss)
spec_erased (r.keyword w) ss = refl
spec_erased (r.typedef_name n) ss = refl
spec_erased (r.attribute a) ss = refl
spec_erased (r.records at is_union tag fs) ss = refl
spec_erased (r.enums at tag es) ss = refl

pub specs_erased : (ss : List Spec) → bare_specs (r.specs_of ss) ≡ p.specs_of (map erase_spec ss)
specs_erased [] = refl
specs_erased (s ∷ ss) = spec_erased s (r.specs_of ss) ∙ ap (p.with_spec (erase_spec s)) (specs_erased ss)

pub fields_erased : (fs : List Field) → bare_fields (r.fields_of fs) ≡ p.fields_of (map erase_field fs)
fields_erased [] = refl
fields_erased (f ∷ fs) = ap (b.Field (bare_specs f.specs) (bare_declarators f.declarators)) (fields_erased fs)

pub declarators_erased : (ds : List Declarator) → bare_declarators (r.declarators_of ds) ≡ p.declarators_of (map bare_declarator ds)
declarators_erased [] = refl
declarators_erased (d ∷ ds) = ap (b.declarator (bare_declarator d)) (declarators_erased ds)

pub enumerators_erased : (es : List Enumerator) → bare_enumerators (r.enumerators_of es) ≡ p.enumerators_of (map erase_enumerator es)
enumerators_erased [] = refl
enumerators_erased (e ∷ es) = ap (b.Enumerator e.name (bare_maybe e.value)) (enumerators_erased es)

pub params_erased : (ps : List Param) → bare_params (r.params_of ps) ≡ p.params_of (map erase_param ps)
params_erased [] = refl
params_erased (x ∷ ps) = ap (b.Param (bare_specs x.specs) (bare_maybe_declarator x.declarator)) (params_erased ps)

pub inits_erased : (is : List Init) → bare_inits (r.inits_of is) ≡ p.inits_of (map bare_init is)
inits_erased [] = refl
inits_erased (x ∷ is) = ap (b.init (bare_init x)) (inits_erased is)

pub items_erased : (is : List BlockItem) → bare_block (r.items_of is) ≡ p.items_of (map erase_block_item is)
items_erased [] = refl
items_erased (r.declared d ∷ is) = ap (b.declared (bare_declaration d)) (items_erased is)
items_erased (r.statement s ∷ is) = ap (b.statement (bare_stmt s)) (items_erased is)

-- ---- tests that both make

pub same_test : (c d : Bool) (x y : Option Next) (v w : Option i.State) → c ≡ d → erased x ≡ v → erased y ≡ w → erased (if c then x else y) ≡ (if d then v else w)
same_test true d x y v w e h l = h ∙ ap (λ c. if c then v else w) e
same_test false d x y v w e h l = l ∙ ap (λ c. if c then v else w) e
