-- The least depth of a unit that a state can be completed to. above_* k d: the depth of the unit where what stands in k has depth d;
use Rattle.std.specs.Prelude.{ℕ, suc, max, List, [], ◌∷◌}
use Rattle.c_tree.specs.Tree.{Argument, Specs, Item}
use Rattle.c_tree.specs.Depth.{greatest, entry_depth, attribute_depth, depth, exprs_depth, maybe_depth, specs_depth, fields_depth, declarators_depth, enumerators_depth, maybe_declarator_depth, declarator_depth, params_depth, init_depth, inits_depth, item_depth, first_depth, stmt_depth, block_depth, unit_depth}
use Rattle.c_reader.specs.Parts.{exprs_of, specs_of, fields_of, declarators_of, enumerators_of, params_of, inits_of, items_of}
use Rattle.c_reader.specs.Inside as i
use Rattle.c_reader.specs.Inside.{InStmt, InBody, InDeclaration, InInit, Condition, Part, Operand, Callee, Bracket, InExpr, InDeclarator, InSpecs, InFields, InEnum, InParams, InAttribute, AttributeMode, SpecsMode, DeclaratorMode, ExprMode, Unended, StmtMode, Mode, InItems, ItemRead, in_block, in_then, in_else, in_while, in_do, in_for, of_definition, of_stmt, of_external, of_block, of_for, of_item, in_braces, of_if, of_while, of_do, plain, returned, condition, for_first, for_condition, for_step, of_prefix, of_sizeof, of_cast, of_binary, of_assign, of_comma, of_cond, of_function, of_builtin, of_paren, of_index, of_args, of_middle, in_operand, in_bracket, in_stmt, in_init, in_value, in_array, in_pointer, in_group, in_item, in_field, in_param, in_type, of_declaration, of_field, of_param, of_type, in_fields, in_enum, in_params, of_specs, of_read, attribute_word, attribute_opened, entries_opened, want_entry, after_entry_name, arguments_opened, want_argument, after_argument, after_entry, attribute_closing, in_specs, after_tagged, after_tag, want_field, want_enumerator, after_enumerator, want_param, want_declarator, after_star, declarator_opened, array_opened, params_opened, want_expr, after_expr, after_text, opened, after_sizeof, sizeof_opened, args_opened, after_builtin, want_member, broken, continued, done_while, want_stmt, want_paren, after_for, for_opened, want_condition, want_step, want_semi, after_return, want_external, in_attribute, specs, declarator, after_attributes, want_init, after_init, expr, stmt}

-- height_* k: how many nodes hold what stands in k.

-- ---- statements and declarations

abbrev mutual
  pub above_stmt : InStmt → ℕ → ℕ
  above_stmt (in_block is b) d = above_body b (suc (max (block_depth (items_of is)) d))
  above_stmt (in_then c k) d = above_stmt k (suc (max (depth c) d))
  above_stmt (in_else c a k) d = above_stmt k (suc (max (depth c) (max (stmt_depth a) d)))
  above_stmt (in_while c k) d = above_stmt k (suc (max (depth c) d))
  above_stmt (in_do k) d = above_stmt k (suc d)
  above_stmt (in_for x c e k) d = above_stmt k (suc (max (first_depth x) (max (maybe_depth c) (max (maybe_depth e) d))))

  -- d is the depth of the block
  pub above_body : InBody → ℕ → ℕ
  above_body (of_definition done ss x) d = max (unit_depth done) (suc (max (specs_depth ss) (max (declarator_depth x) d)))
  above_body (of_stmt k) d = above_stmt k d

abbrev pub above_declaration : InDeclaration → ℕ → ℕ
above_declaration (of_external done) d = max (unit_depth done) d
above_declaration (of_block is b) d = above_body b (suc (max (block_depth (items_of is)) d))
above_declaration (of_for k) d = above_stmt k (suc d)

abbrev pub item_above : List Item → Specs → InDeclaration → ℕ → ℕ
item_above is ss q d = above_declaration q (suc (max (specs_depth ss) (max (greatest item_depth is) (suc d))))

-- the first declarator of an external may be a definition's, which has no Item around it
abbrev pub first_above : Specs → InDeclaration → ℕ → ℕ
first_above ss (of_external done) d = above_declaration (of_external done) (suc (max (specs_depth ss) d))
first_above ss (of_block is b) d = item_above [] ss (of_block is b) d
first_above ss (of_for k) d = item_above [] ss (of_for k) d

abbrev pub items_above : List Item → Specs → InDeclaration → ℕ → ℕ
items_above [] ss q d = first_above ss q d
items_above (x ∷ is) ss q d = item_above (x ∷ is) ss q d

-- d is the depth of the declarator
abbrev pub above_items : InItems → ℕ → ℕ
above_items q d = items_above q.items q.specs q.place d

-- d is the depth of the initialiser, or of one more attribute
abbrev pub above_read : ItemRead → ℕ → ℕ
above_read r d = item_above r.before.items r.before.specs r.before.place (max (declarator_depth r.declarator) (max (greatest attribute_depth r.attributes) d))

abbrev pub above_init : InInit → ℕ → ℕ
above_init (of_item r) d = above_read r d
above_init (in_braces is k) d = above_init k (suc (max (inits_depth (inits_of is)) d))

abbrev pub condition_depth : Condition → ℕ → ℕ
condition_depth of_if d = suc d
condition_depth of_while d = suc d
condition_depth (of_do s) d = suc (max d (stmt_depth s))

abbrev pub part_depth : Part → ℕ → ℕ
part_depth plain d = suc d
part_depth returned d = suc d
part_depth (condition c) d = condition_depth c d
part_depth for_first d = suc d
part_depth (for_condition x) d = suc (max (first_depth x) d)
part_depth (for_step x c) d = suc (max (first_depth x) (max (maybe_depth c) d))

-- ---- expressions, specs and declarators

abbrev pub operand_depth : Operand → ℕ → ℕ
operand_depth (of_prefix o) d = suc d
operand_depth of_sizeof d = suc d
operand_depth (of_cast ss m) d = suc (max (suc (max (specs_depth ss) (maybe_declarator_depth m))) d)
operand_depth (of_binary l o) d = suc (max (depth l) d)
operand_depth (of_assign l o) d = suc (max (depth l) d)
operand_depth (of_comma l) d = suc (max (depth l) d)
operand_depth (of_cond c b) d = suc (max (depth c) (max (depth b) d))

abbrev pub callee_depth : Callee → ℕ
callee_depth (of_function f) = depth f
callee_depth of_builtin = 0

abbrev pub bracket_depth : Bracket → ℕ → ℕ
bracket_depth of_paren d = suc d
bracket_depth (of_index l) d = suc (max (depth l) d)
bracket_depth (of_args c xs) d = suc (max (callee_depth c) (max (exprs_depth (exprs_of xs)) d))
bracket_depth (of_middle c) d = suc (max (depth c) d)

abbrev mutual
  pub above_expr : InExpr → ℕ → ℕ
  above_expr (in_operand o k) d = above_expr k (operand_depth o d)
  above_expr (in_bracket b k) d = above_expr k (bracket_depth b d)
  above_expr (in_stmt x k) d = above_stmt k (part_depth x d)
  above_expr (in_init k) d = above_init k d
  above_expr (in_value n e) d = above_enum e (suc d)
  above_expr (in_array x k) d = above_declarator k (suc (max (declarator_depth x) d))

  pub above_declarator : InDeclarator → ℕ → ℕ
  above_declarator (in_pointer qs k) d = above_declarator k (suc d)
  above_declarator (in_group k) d = above_declarator k (suc d)
  above_declarator (in_item q) d = above_items q d
  above_declarator (in_field x ss ds) d = above_fields x (suc (max (specs_depth ss) (max (declarators_depth (declarators_of ds)) d)))
  above_declarator (in_param x ss) d = above_params x (suc (max (specs_depth ss) d))
  above_declarator (in_type x k ss) d = above_expr k (suc (suc (max (specs_depth ss) d)))

  -- d is the depth of the specs
  pub above_specs : InSpecs → ℕ → ℕ
  above_specs (of_declaration q) d = above_declaration q (suc d)
  above_specs (of_field x) d = above_fields x (suc d)
  above_specs (of_param x) d = above_params x (suc d)
  above_specs (of_type x k) d = above_expr k (suc (suc d))

  pub above_fields : InFields → ℕ → ℕ
  above_fields (in_fields b tag fs s k) d = above_specs k (max (specs_depth (specs_of s.specs)) (suc (max (fields_depth (fields_of fs)) d)))

  pub above_enum : InEnum → ℕ → ℕ
  above_enum (in_enum tag es s k) d = above_specs k (max (specs_depth (specs_of s.specs)) (suc (max (enumerators_depth (enumerators_of es)) d)))

  pub above_params : InParams → ℕ → ℕ
  above_params (in_params x ps k) d = above_declarator k (suc (max (declarator_depth x) (max (params_depth (params_of ps)) d)))

-- ---- modes

-- d is the depth of the attribute
abbrev pub above_attribute : InAttribute → ℕ → ℕ
above_attribute (of_specs s k) d = above_specs k (max (specs_depth (specs_of s.specs)) d)
above_attribute (of_read r) d = above_read r d

abbrev pub arguments_depth : List Argument → ℕ
arguments_depth xs = greatest (λ _. 1) xs

abbrev pub attribute_so_far : AttributeMode → ℕ
attribute_so_far attribute_word = 1
attribute_so_far attribute_opened = 1
attribute_so_far entries_opened = 1
attribute_so_far (want_entry es) = suc (greatest entry_depth es)
attribute_so_far (after_entry_name es n) = suc (greatest entry_depth es)
attribute_so_far (arguments_opened es n) = suc (greatest entry_depth es)
attribute_so_far (want_argument es n xs) = suc (max (greatest entry_depth es) (arguments_depth xs))
attribute_so_far (after_argument es n xs x) = suc (max (greatest entry_depth es) 1)
attribute_so_far (after_entry es) = suc (greatest entry_depth es)
attribute_so_far (attribute_closing es) = suc (greatest entry_depth es)

abbrev pub specs_so_far : SpecsMode → ℕ
specs_so_far (in_specs s k) = above_specs k (specs_depth (specs_of s.specs))
specs_so_far (after_tagged x s k) = above_specs k (max (specs_depth (specs_of s.specs)) 1)
specs_so_far (after_tag x n s k) = above_specs k (max (specs_depth (specs_of s.specs)) 1)
specs_so_far (want_field x) = above_fields x 0
specs_so_far (want_enumerator x) = above_enum x 0
specs_so_far (after_enumerator n x) = above_enum x 1
specs_so_far (want_param x) = above_params x 0

abbrev pub items_want : List Item → Specs → InDeclaration → ℕ
items_want [] ss q = above_declaration q (suc (specs_depth ss))
items_want (x ∷ is) ss q = item_above (x ∷ is) ss q 0

-- a declarator is to come, or none where a declaration has none
abbrev pub want_above : InDeclarator → ℕ
want_above (in_pointer qs k) = above_declarator k 1
want_above (in_group k) = above_declarator k 1
want_above (in_item q) = items_want q.items q.specs q.place
want_above (in_field x ss ds) = above_declarator (in_field x ss ds) 0
want_above (in_param x ss) = above_declarator (in_param x ss) 0
want_above (in_type x k ss) = above_declarator (in_type x k ss) 0

abbrev pub declarator_so_far : DeclaratorMode → ℕ
declarator_so_far (want_declarator k) = want_above k
declarator_so_far (after_star qs k) = above_declarator k 1
declarator_so_far (declarator_opened k) = above_declarator k 1
declarator_so_far (i.after_declarator k d) = above_declarator k (declarator_depth d)
declarator_so_far (array_opened d k) = above_declarator k (suc (declarator_depth d))
declarator_so_far (params_opened d k) = above_declarator k (suc (declarator_depth d))

abbrev pub expr_so_far : ExprMode → ℕ
expr_so_far (want_expr k) = above_expr k 0
expr_so_far (after_expr k a) = above_expr k (depth a)
expr_so_far (after_text k ns) = above_expr k 1
expr_so_far (opened k) = above_expr k 1
expr_so_far (after_sizeof k) = above_expr k 1
expr_so_far (sizeof_opened k) = above_expr k 1
expr_so_far (args_opened f k) = above_expr k (suc (depth f))
expr_so_far (after_builtin k) = above_expr k 1
expr_so_far (want_member a m k) = above_expr k (suc (depth a))

abbrev pub unended_depth : Unended → ℕ
unended_depth broken = 1
unended_depth continued = 1
unended_depth (done_while s c) = suc (max (depth c) (stmt_depth s))

abbrev pub stmt_so_far : StmtMode → ℕ
stmt_so_far (want_stmt k) = above_stmt k 0
stmt_so_far (i.after_stmt k s) = above_stmt k (stmt_depth s)
stmt_so_far (want_paren c k) = above_stmt k (condition_depth c 0)
stmt_so_far (after_for k) = above_stmt k 1
stmt_so_far (for_opened k) = above_stmt k 1
stmt_so_far (want_condition x k) = above_stmt k (suc (first_depth x))
stmt_so_far (want_step x c k) = above_stmt k (suc (max (first_depth x) (maybe_depth c)))
stmt_so_far (want_semi s k) = above_stmt k (unended_depth s)
stmt_so_far (after_return k) = above_stmt k 1

abbrev pub so_far : Mode → ℕ
so_far (want_external done) = unit_depth done
so_far (in_attribute m a) = above_attribute a (attribute_so_far m)
so_far (specs m) = specs_so_far m
so_far (declarator m) = declarator_so_far m
so_far (after_attributes r) = above_read r 0
so_far (want_init k) = above_init k 0
so_far (after_init k x) = above_init k (init_depth x)
so_far (expr m) = expr_so_far m
so_far (stmt m) = stmt_so_far m

-- ---- how many nodes are open

abbrev mutual
  pub height_stmt : InStmt → ℕ
  height_stmt (in_block is b) = suc (height_body b)
  height_stmt (in_then c k) = suc (height_stmt k)
  height_stmt (in_else c a k) = suc (height_stmt k)
  height_stmt (in_while c k) = suc (height_stmt k)
  height_stmt (in_do k) = suc (height_stmt k)
  height_stmt (in_for x c e k) = suc (height_stmt k)

  -- around the block
  pub height_body : InBody → ℕ
  height_body (of_definition done ss x) = 1
  height_body (of_stmt k) = height_stmt k

abbrev pub height_declaration : InDeclaration → ℕ
height_declaration (of_external done) = 0
height_declaration (of_block is b) = suc (height_body b)
height_declaration (of_for k) = suc (height_stmt k)

-- around the first declarator
abbrev pub height_first : InDeclaration → ℕ
height_first (of_external done) = 1
height_first (of_block is b) = suc (suc (height_declaration (of_block is b)))
height_first (of_for k) = suc (suc (height_declaration (of_for k)))

abbrev pub items_height : List Item → InDeclaration → ℕ
items_height [] q = height_first q
items_height (x ∷ is) q = suc (suc (height_declaration q))

abbrev pub height_items : InItems → ℕ
height_items q = items_height q.items q.place

abbrev pub height_read : ItemRead → ℕ
height_read r = suc (suc (height_declaration r.before.place))

abbrev pub height_init : InInit → ℕ
height_init (of_item r) = height_read r
height_init (in_braces is k) = suc (height_init k)

abbrev mutual
  pub height_expr : InExpr → ℕ
  height_expr (in_operand o k) = suc (height_expr k)
  height_expr (in_bracket b k) = suc (height_expr k)
  height_expr (in_stmt x k) = suc (height_stmt k)
  height_expr (in_init k) = height_init k
  height_expr (in_value n e) = suc (height_enum e)
  height_expr (in_array x k) = suc (height_declarator k)

  pub height_declarator : InDeclarator → ℕ
  height_declarator (in_pointer qs k) = suc (height_declarator k)
  height_declarator (in_group k) = suc (height_declarator k)
  height_declarator (in_item q) = height_items q
  height_declarator (in_field x ss ds) = suc (height_fields x)
  height_declarator (in_param x ss) = suc (height_params x)
  height_declarator (in_type x k ss) = suc (suc (height_expr k))

  pub height_specs : InSpecs → ℕ
  height_specs (of_declaration q) = suc (height_declaration q)
  height_specs (of_field x) = suc (height_fields x)
  height_specs (of_param x) = suc (height_params x)
  height_specs (of_type x k) = suc (suc (height_expr k))

  pub height_fields : InFields → ℕ
  height_fields (in_fields b tag fs s k) = suc (height_specs k)

  pub height_enum : InEnum → ℕ
  height_enum (in_enum tag es s k) = suc (height_specs k)

  pub height_params : InParams → ℕ
  height_params (in_params x ps k) = suc (height_declarator k)

abbrev pub height_attribute : InAttribute → ℕ
height_attribute (of_specs s k) = height_specs k
height_attribute (of_read r) = height_read r

-- ---- how many nodes are open where the reader is

abbrev pub items_want_height : List Item → InDeclaration → ℕ
items_want_height [] q = suc (height_declaration q)
items_want_height (x ∷ is) q = suc (suc (height_declaration q))

-- a declarator is to come, or none where a declaration has none
abbrev pub want_height : InDeclarator → ℕ
want_height (in_pointer qs k) = suc (height_declarator k)
want_height (in_group k) = suc (height_declarator k)
want_height (in_item q) = items_want_height q.items q.place
want_height (in_field x ss ds) = suc (height_fields x)
want_height (in_param x ss) = suc (height_params x)
want_height (in_type x k ss) = suc (suc (height_expr k))

abbrev pub specs_height : SpecsMode → ℕ
specs_height (in_specs s k) = height_specs k
specs_height (after_tagged x s k) = suc (height_specs k)
specs_height (after_tag x n s k) = suc (height_specs k)
specs_height (want_field x) = height_fields x
specs_height (want_enumerator x) = height_enum x
specs_height (after_enumerator n x) = suc (height_enum x)
specs_height (want_param x) = height_params x

abbrev pub declarator_height : DeclaratorMode → ℕ
declarator_height (want_declarator k) = want_height k
declarator_height (after_star qs k) = suc (height_declarator k)
declarator_height (declarator_opened k) = suc (height_declarator k)
declarator_height (i.after_declarator k d) = height_declarator k
declarator_height (array_opened d k) = suc (height_declarator k)
declarator_height (params_opened d k) = suc (height_declarator k)

abbrev pub expr_height : ExprMode → ℕ
expr_height (want_expr k) = height_expr k
expr_height (after_expr k a) = height_expr k
expr_height (after_text k ns) = suc (height_expr k)
expr_height (opened k) = suc (height_expr k)
expr_height (after_sizeof k) = suc (height_expr k)
expr_height (sizeof_opened k) = suc (height_expr k)
expr_height (args_opened f k) = suc (height_expr k)
expr_height (after_builtin k) = suc (height_expr k)
expr_height (want_member a m k) = suc (height_expr k)

abbrev pub stmt_height : StmtMode → ℕ
stmt_height (want_stmt k) = height_stmt k
stmt_height (i.after_stmt k s) = height_stmt k
stmt_height (want_paren c k) = suc (height_stmt k)
stmt_height (after_for k) = suc (height_stmt k)
stmt_height (for_opened k) = suc (height_stmt k)
stmt_height (want_condition x k) = suc (height_stmt k)
stmt_height (want_step x c k) = suc (height_stmt k)
stmt_height (want_semi s k) = suc (height_stmt k)
stmt_height (after_return k) = suc (height_stmt k)

abbrev pub height_of : Mode → ℕ
height_of (want_external done) = 0
height_of (in_attribute m a) = suc (height_attribute a)
height_of (specs m) = specs_height m
height_of (declarator m) = declarator_height m
height_of (after_attributes r) = height_read r
height_of (want_init k) = height_init k
height_of (after_init k x) = height_init k
height_of (expr m) = expr_height m
height_of (stmt m) = stmt_height m
