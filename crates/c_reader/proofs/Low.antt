-- The height of a state is no more than the least depth of a unit that it can be completed to.
use Rattle.std.proofs.Common.{◌≡◌, ℕ, suc, ◌≤◌, ◌+◌, max, List, [], ◌∷◌, map, refl, arith}
use Rattle.c_tree.specs.Marked.{Item, Specs}
use Rattle.c_tree.specs.Bare.{bare_specs, bare_declarator, bare_item}
use Rattle.c_tree.specs.Depth.{specs_depth, declarator_depth}
use Rattle.c_reader.specs.Above.{above_stmt, above_read, above_init, above_expr, above_specs, above_fields, above_enum, above_params, specs_so_far, items_want, want_above, declarator_so_far, expr_so_far, stmt_so_far, so_far, height_stmt, height_body, height_declaration, items_height, height_read, height_init, height_expr, height_declarator, height_specs, height_fields, height_enum, height_params, height_attribute}
use Rattle.c_reader.specs.MarkedParts.{Open, whole, reach, SpecsRead}
use Rattle.c_reader.specs.MarkedInside.{InStmt, InBody, in_block, in_then, in_else, in_while, in_do, in_for, of_definition, of_stmt, InDeclaration, of_external, of_block, of_for, ItemRead, InInit, of_item, in_braces, InExpr, in_operand, in_bracket, in_stmt, in_init, in_value, in_array, InDeclarator, in_pointer, in_group, in_item, in_field, in_param, in_type, InSpecs, of_declaration, of_field, of_param, of_type, InFields, in_fields, InEnum, in_enum, InParams, in_params, InAttribute, of_specs, of_read, SpecsMode, in_specs, after_tagged, after_tag, want_field, want_enumerator, after_enumerator, want_param, DeclaratorMode, want_declarator, after_star, declarator_opened, after_declarator, array_opened, params_opened, ExprMode, want_expr, after_expr, after_text, opened, after_sizeof, sizeof_opened, args_opened, after_builtin, want_member, StmtMode, want_stmt, after_stmt, want_paren, after_for, for_opened, want_condition, want_step, want_semi, after_return, Mode, want_external, in_attribute, specs, declarator, after_attributes, want_init, after_init, expr, stmt, around_stmt, around_init, around_expr, around_declarator, around_fields, around_enum, around_params, declaration_level, specs_level, specs_height, declarator_height, expr_height, stmt_height, height}
use Rattle.c_reader.proofs.Above.{high_stmt, high_body, high_declaration, high_init, high_expr, high_declarator, high_specs, high_fields, high_enum, high_params, high_attribute}
use Rattle.c_reader.proofs.Erased.{erase_stmt, erase_body, erase_declaration, erase_item_read, erase_init, erase_expr, erase_declarator, erase_specs, erase_fields, erase_enum, erase_params, erase_in_attribute, erase_specs_mode, erase_declarator_mode, erase_expr_mode, erase_stmt_mode, erase}
use Rattle.c_reader.proofs.Counted.{Fits, body_level, specs_deep, items_deep, attributes_deep, fields_deep, enumerators_deep, CountedStmt, CountedBody, CountedDeclaration, CountedItem, CountedInit, CountedExpr, CountedDeclarator, CountedSpecs, CountedRead, CountedFields, CountedEnum, CountedParams, CountedIn, around_attribute, CountedSpecsMode, CountedDeclaratorMode, CountedExprMode, CountedStmtMode, Counted, as_it_is, as_it_is2}

-- ---- levels

-- a node more
one_more : (l k h : ℕ) → l ≡ suc k → k ≤ h → l ≤ suc h
one_more l k h e c = omega (arith, e, c)

mutual
  low_stmt : (k : InStmt) → CountedStmt k → (around_stmt k).level ≤ height_stmt (erase_stmt k)
  low_stmt (in_block o is k) c = one_more _ _ _ c.0.0 (low_body k c.1)
  low_stmt (in_then o f k) c = one_more _ _ _ c.0.0 (low_stmt k c.1)
  low_stmt (in_else o f a k) c = one_more _ _ _ c.0.0 (low_stmt k c.1)
  low_stmt (in_while o f k) c = one_more _ _ _ c.0.0 (low_stmt k c.1)
  low_stmt (in_do o k) c = one_more _ _ _ c.0.0 (low_stmt k c.1)
  low_stmt (in_for o i f g k) c = one_more _ _ _ c.0.0 (low_stmt k c.1)

  low_body : (k : InBody) → CountedBody k → body_level k ≤ height_body (erase_body k)
  low_body (of_definition deep o done ss x) c = let f = c.1.0 in omega (arith, f)
  low_body (of_stmt k) c = low_stmt k c

low_declaration : (q : InDeclaration) → CountedDeclaration q → declaration_level q ≤ height_declaration (erase_declaration q)
low_declaration (of_external deep done) c = omega arith
low_declaration (of_block o is k) c = one_more _ _ _ c.0.0 (low_body k c.1)
low_declaration (of_for o k) c = one_more _ _ _ c.0.0 (low_stmt k c.1)

low_items : (is : List Item) (q : InDeclaration) (l : ℕ) → l ≡ suc (declaration_level q) → CountedDeclaration q → l ≤ items_height (map bare_item is) (erase_declaration q)
low_items [] (of_external deep done) l e c = omega (arith, e)
low_items [] (of_block o is k) l e c = let h = low_declaration (of_block o is k) c in omega (arith, e, h)
low_items [] (of_for o k) l e c = let h = low_declaration (of_for o k) c in omega (arith, e, h)
low_items (x ∷ is) q l e c = let h = low_declaration q c in omega (arith, e, h)

low_read : (x : ItemRead) → CountedItem x → x.node.level ≤ height_read (erase_item_read x)
low_read x c =
    let a = c.0.0 in
    let b = c.1.0.0 in
    let h = low_declaration x.before.place c.1.1 in
    omega (arith, a, b, h)

low_init : (k : InInit) → CountedInit k → (around_init k).level ≤ height_init (erase_init k)
low_init (of_item x) c = low_read x c
low_init (in_braces o is k) c = one_more _ _ _ c.0.0 (low_init k c.1)

mutual
  low_expr : (k : InExpr) → CountedExpr k → (around_expr k).level ≤ height_expr (erase_expr k)
  low_expr (in_operand o x k) c = one_more _ _ _ c.0.0 (low_expr k c.1)
  low_expr (in_bracket o x k) c = one_more _ _ _ c.0.0 (low_expr k c.1)
  low_expr (in_stmt o x k) c = one_more _ _ _ c.0.0 (low_stmt k c.1)
  low_expr (in_init k) c = low_init k c
  low_expr (in_value o x k) c = one_more _ _ _ c.0.0 (low_enum k c.1)
  low_expr (in_array o x k) c = one_more _ _ _ c.0.0 (low_declarator k c.1)

  low_declarator : (k : InDeclarator) → CountedDeclarator k → (around_declarator k).level ≤ height_declarator (erase_declarator k)
  low_declarator (in_pointer o qs k) c = one_more _ _ _ c.0.0 (low_declarator k c.1)
  low_declarator (in_group o k) c = one_more _ _ _ c.0.0 (low_declarator k c.1)
  low_declarator (in_item q) c = low_items q.items q.place q.node.level c.0.0 c.1
  low_declarator (in_field o f ss ds) c = one_more _ _ _ c.0.0 (low_fields f c.1)
  low_declarator (in_param o k ss) c = one_more _ _ _ c.0.0 (low_params k c.1)
  low_declarator (in_type o o_type x k ss) c = one_more _ _ _ c.1.0 (one_more _ _ _ c.0.0 (low_expr k c.2))

  low_specs : (k : InSpecs) → CountedSpecs k → suc (specs_level k) ≤ height_specs (erase_specs k)
  low_specs (of_declaration q) c = let h = low_declaration q c in omega (arith, h)
  low_specs (of_field f) c = let h = low_fields f c in omega (arith, h)
  low_specs (of_param k) c = let h = low_params k c in omega (arith, h)
  low_specs (of_type o x k) c = let h = low_expr k c.1 in let e = c.0.0 in omega (arith, h, e)

  low_fields : (f : InFields) → CountedFields f → (around_fields f).level ≤ height_fields (erase_fields f)
  low_fields (in_fields o is_union tag fs ss k) c = let h = low_specs k c.1.1 in let e = c.0.0 in let g = c.1.0.0 in omega (arith, h, e, g)

  low_enum : (k : InEnum) → CountedEnum k → (around_enum k).level ≤ height_enum (erase_enum k)
  low_enum (in_enum o tag es ss k) c = let h = low_specs k c.1.1 in let e = c.0.0 in let g = c.1.0.0 in omega (arith, h, e, g)

  low_params : (k : InParams) → CountedParams k → (around_params k).level ≤ height_params (erase_params k)
  low_params (in_params o x ps k) c = one_more _ _ _ c.0.0 (low_declarator k c.1)

low_node : (ss : SpecsRead) (k : InSpecs) → CountedRead ss k → ss.node.level ≤ height_specs (erase_specs k)
low_node ss k c = let h = low_specs k c.1 in let e = c.0.0 in omega (arith, h, e)

low_attribute : (a : InAttribute) → CountedIn a → (around_attribute a).level ≤ height_attribute (erase_in_attribute a)
low_attribute (of_specs ss k) c = low_node ss k c
low_attribute (of_read x) c = low_read x c

-- ---- what is open reaches no further

-- where the node, with its parts so far, has depth d
reaches : (o : Open) (level d h a : ℕ) → o.level ≡ suc level → whole o 0 ≡ d → level ≤ h → h + d ≤ a → reach o ≤ a
reaches o level d h a e f l g = omega (arith, e, f, l, g)

reach_stmt : (k : InStmt) → CountedStmt k → reach (around_stmt k) ≤ above_stmt (erase_stmt k) 0
reach_stmt (in_block o is k) c = reaches o _ _ _ _ c.0.0 (c.0.1 0) (low_body k c.1) (high_body (erase_body k) _)
reach_stmt (in_then o f k) c = reaches o _ _ _ _ c.0.0 (c.0.1 0) (low_stmt k c.1) (high_stmt (erase_stmt k) _)
reach_stmt (in_else o f a k) c = reaches o _ _ _ _ c.0.0 (c.0.1 0) (low_stmt k c.1) (high_stmt (erase_stmt k) _)
reach_stmt (in_while o f k) c = reaches o _ _ _ _ c.0.0 (c.0.1 0) (low_stmt k c.1) (high_stmt (erase_stmt k) _)
reach_stmt (in_do o k) c = reaches o _ _ _ _ c.0.0 (c.0.1 0) (low_stmt k c.1) (high_stmt (erase_stmt k) _)
reach_stmt (in_for o i f g k) c = reaches o _ _ _ _ c.0.0 (c.0.1 0) (low_stmt k c.1) (high_stmt (erase_stmt k) _)

reach_read : (x : ItemRead) → CountedItem x → reach x.node ≤ above_read (erase_item_read x) 0
reach_read x c =
    let q = x.before in
    let s = specs_depth (bare_specs q.specs) in
    let i = items_deep q.items in
    let d = declarator_depth (bare_declarator x.declarator) in
    let a = attributes_deep x.attributes in
    let h = high_declaration (erase_declaration q.place) (suc (max s (max i (suc (max d (max a 0)))))) in
    let l = low_declaration q.place c.1.1 in
    let e = c.0.0 in
    let f = c.0.1 0 in
    let g = c.1.0.0 in
    omega (arith, h, l, e, f, g)

reach_init : (k : InInit) → CountedInit k → reach (around_init k) ≤ above_init (erase_init k) 0
reach_init (of_item x) c = reach_read x c
reach_init (in_braces o is k) c = reaches o _ _ _ _ c.0.0 (c.0.1 0) (low_init k c.1) (high_init (erase_init k) _)

reach_expr : (k : InExpr) → CountedExpr k → reach (around_expr k) ≤ above_expr (erase_expr k) 0
reach_expr (in_operand o x k) c = reaches o _ _ _ _ c.0.0 (c.0.1 0) (low_expr k c.1) (high_expr (erase_expr k) _)
reach_expr (in_bracket o x k) c = reaches o _ _ _ _ c.0.0 (c.0.1 0) (low_expr k c.1) (high_expr (erase_expr k) _)
reach_expr (in_stmt o x k) c = reaches o _ _ _ _ c.0.0 (c.0.1 0) (low_stmt k c.1) (high_stmt (erase_stmt k) _)
reach_expr (in_init k) c = reach_init k c
reach_expr (in_value o x k) c = reaches o _ _ _ _ c.0.0 (c.0.1 0) (low_enum k c.1) (high_enum (erase_enum k) _)
reach_expr (in_array o x k) c = reaches o _ _ _ _ c.0.0 (c.0.1 0) (low_declarator k c.1) (high_declarator (erase_declarator k) _)

reach_items : (is : List Item) (o : Open) (ss : Specs) (q : InDeclaration) → Fits o (declaration_level q) (λ d. suc (max (specs_depth (bare_specs ss)) (max (items_deep is) d))) → CountedDeclaration q
    → reach o ≤ items_want (map bare_item is) (bare_specs ss) (erase_declaration q)
reach_items [] o ss q c g =
    let s = specs_depth (bare_specs ss) in
    let h = high_declaration (erase_declaration q) (suc s) in
    let l = low_declaration q g in
    let e = c.0 in
    let f = c.1 0 in
    omega (arith, h, l, e, f)
reach_items (x ∷ is) o ss q c g =
    let s = specs_depth (bare_specs ss) in
    let i = items_deep (x ∷ is) in
    let h = high_declaration (erase_declaration q) (suc (max s (max i 1))) in
    let l = low_declaration q g in
    let e = c.0 in
    let f = c.1 0 in
    omega (arith, h, l, e, f)

reach_declarator : (k : InDeclarator) → CountedDeclarator k → reach (around_declarator k) ≤ want_above (erase_declarator k)
reach_declarator (in_pointer o qs k) c = reaches o _ _ _ _ c.0.0 (c.0.1 0) (low_declarator k c.1) (high_declarator (erase_declarator k) 1)
reach_declarator (in_group o k) c = reaches o _ _ _ _ c.0.0 (c.0.1 0) (low_declarator k c.1) (high_declarator (erase_declarator k) 1)
reach_declarator (in_item q) c = reach_items q.items q.node q.specs q.place c.0 c.1
reach_declarator (in_field o f ss ds) c = reaches o _ _ _ _ c.0.0 (c.0.1 0) (low_fields f c.1) (high_fields (erase_fields f) _)
reach_declarator (in_param o k ss) c = reaches o _ _ _ _ c.0.0 (c.0.1 0) (low_params k c.1) (high_params (erase_params k) _)
reach_declarator (in_type o o_type x k ss) c =
    let h = high_expr (erase_expr k) (suc (suc (max (specs_depth (bare_specs ss)) 0))) in
    let l = low_expr k c.2 in
    let e = c.0.0 in
    let f = c.1.0 in
    let g = c.1.1 0 in
    omega (arith, h, l, e, f, g)

reach_specs : (ss : SpecsRead) (k : InSpecs) → CountedRead ss k → reach ss.node ≤ above_specs (erase_specs k) (specs_deep ss.specs)
reach_specs ss k c =
    let h = high_specs (erase_specs k) (specs_deep ss.specs) in
    let l = low_node ss k c in
    let f = c.0.1 0 in
    omega (arith, h, l, f)

reach_fields : (f : InFields) → CountedFields f → reach (around_fields f) ≤ above_fields (erase_fields f) 0
reach_fields (in_fields o is_union tag fs ss k) c =
    let h = high_specs (erase_specs k) (max (specs_deep ss.specs) (suc (max (fields_deep fs) 0))) in
    let l = low_node ss k c.1 in
    let e = c.0.0 in
    let f = c.0.1 0 in
    omega (arith, h, l, e, f)

reach_enum : (k : InEnum) → CountedEnum k → reach (around_enum k) ≤ above_enum (erase_enum k) 0
reach_enum (in_enum o tag es ss k) c =
    let h = high_specs (erase_specs k) (max (specs_deep ss.specs) (suc (max (enumerators_deep es) 0))) in
    let l = low_node ss k c.1 in
    let e = c.0.0 in
    let f = c.0.1 0 in
    omega (arith, h, l, e, f)

reach_params : (k : InParams) → CountedParams k → reach (around_params k) ≤ above_params (erase_params k) 0
reach_params (in_params o x ps k) c = reaches o _ _ _ _ c.0.0 (c.0.1 0) (low_declarator k c.1) (high_declarator (erase_declarator k) _)

-- a node that is open among specs
reach_tagged : (o : Open) (ss : SpecsRead) (k : InSpecs) → Fits o ss.node.level suc → CountedRead ss k → reach o ≤ above_specs (erase_specs k) (max (specs_deep ss.specs) 1)
reach_tagged o ss k c g =
    let h = high_specs (erase_specs k) (max (specs_deep ss.specs) 1) in
    let l = low_node ss k g in
    let e = c.0 in
    let f = c.1 0 in
    omega (arith, h, l, e, f)

-- ---- modes

low_specs_mode : (m : SpecsMode) → CountedSpecsMode m → specs_height m ≤ specs_so_far (erase_specs_mode m)
low_specs_mode (in_specs ss k) c = reach_specs ss k c
low_specs_mode (after_tagged o g ss k) c = reach_tagged o ss k c.0 c.1
low_specs_mode (after_tag o g x ss k) c = reach_tagged o ss k c.0 c.1
low_specs_mode (want_field f) c = reach_fields f c
low_specs_mode (want_enumerator k) c = reach_enum k c
low_specs_mode (after_enumerator o x k) c = reaches o _ _ _ _ c.0.0 (c.0.1 0) (low_enum k c.1) (high_enum (erase_enum k) 1)
low_specs_mode (want_param k) c = reach_params k c

-- a part that was read
read_part : (l h d e a : ℕ) → l ≤ h → d ≡ e → h + e ≤ a → l + d ≤ a
read_part l h d e a f g k = omega (arith, f, g, k)

low_declarator_mode : (m : DeclaratorMode) → CountedDeclaratorMode m → declarator_height m ≤ declarator_so_far (erase_declarator_mode m)
low_declarator_mode (want_declarator k) c = reach_declarator k c
low_declarator_mode (after_star o qs k) c = reaches o _ _ _ _ c.0.0 (c.0.1 0) (low_declarator k c.1) (high_declarator (erase_declarator k) 1)
low_declarator_mode (declarator_opened o k) c = reaches o _ _ _ _ c.0.0 (c.0.1 0) (low_declarator k c.1) (high_declarator (erase_declarator k) 1)
low_declarator_mode (after_declarator h k x) c = read_part _ _ _ _ _ (low_declarator k c.1) c.0 (high_declarator (erase_declarator k) _)
low_declarator_mode (array_opened o x k) c = reaches o _ _ _ _ c.0.0 (as_it_is o _ _ c.0) (low_declarator k c.1) (high_declarator (erase_declarator k) _)
low_declarator_mode (params_opened o x k) c = reaches o _ _ _ _ c.0.0 (as_it_is o _ _ c.0) (low_declarator k c.1) (high_declarator (erase_declarator k) _)

low_expr_mode : (m : ExprMode) → CountedExprMode m → expr_height m ≤ expr_so_far (erase_expr_mode m)
low_expr_mode (want_expr k) c = reach_expr k c
low_expr_mode (after_expr h k a) c = read_part _ _ _ _ _ (low_expr k c.1) c.0 (high_expr (erase_expr k) _)
low_expr_mode (after_text from k xs) c = read_part _ _ _ _ _ (low_expr k c) refl (high_expr (erase_expr k) 1)
low_expr_mode (opened o k) c = reaches o _ _ _ _ c.0.0 (c.0.1 0) (low_expr k c.1) (high_expr (erase_expr k) 1)
low_expr_mode (after_sizeof o k) c = reaches o _ _ _ _ c.0.0 (c.0.1 0) (low_expr k c.1) (high_expr (erase_expr k) 1)
low_expr_mode (sizeof_opened o p_from k) c = reaches o _ _ _ _ c.0.0 (c.0.1 0) (low_expr k c.1) (high_expr (erase_expr k) 1)
low_expr_mode (args_opened o f k) c = reaches o _ _ _ _ c.0.0 (as_it_is o _ _ c.0) (low_expr k c.1) (high_expr (erase_expr k) _)
low_expr_mode (after_builtin o k) c = reaches o _ _ _ _ c.0.0 (c.0.1 0) (low_expr k c.1) (high_expr (erase_expr k) 1)
low_expr_mode (want_member o a m k) c = reaches o _ _ _ _ c.0.0 (as_it_is o _ _ c.0) (low_expr k c.1) (high_expr (erase_expr k) _)

low_stmt_mode : (m : StmtMode) → CountedStmtMode m → stmt_height m ≤ stmt_so_far (erase_stmt_mode m)
low_stmt_mode (want_stmt k) c = reach_stmt k c
low_stmt_mode (after_stmt d k a) c = read_part _ _ _ _ _ (low_stmt k c.1) c.0 (high_stmt (erase_stmt k) _)
low_stmt_mode (want_paren o x k) c = reaches o _ _ _ _ c.0.0 (c.0.1 0) (low_stmt k c.1) (high_stmt (erase_stmt k) _)
low_stmt_mode (after_for o k) c = reaches o _ _ _ _ c.0.0 (c.0.1 0) (low_stmt k c.1) (high_stmt (erase_stmt k) 1)
low_stmt_mode (for_opened o k) c = reaches o _ _ _ _ c.0.0 (c.0.1 0) (low_stmt k c.1) (high_stmt (erase_stmt k) 1)
low_stmt_mode (want_condition o i k) c = reaches o _ _ _ _ c.0.0 (as_it_is o _ _ c.0) (low_stmt k c.1) (high_stmt (erase_stmt k) _)
low_stmt_mode (want_step o i f k) c = reaches o _ _ _ _ c.0.0 (as_it_is2 o _ _ _ c.0) (low_stmt k c.1) (high_stmt (erase_stmt k) _)
low_stmt_mode (want_semi o a k) c = reaches o _ _ _ _ c.0 c.1 (low_stmt k c.2) (high_stmt (erase_stmt k) _)
low_stmt_mode (after_return o k) c = reaches o _ _ _ _ c.0.0 (c.0.1 0) (low_stmt k c.1) (high_stmt (erase_stmt k) 1)

pub low : (m : Mode) → Counted m → height m ≤ so_far (erase m)
low (want_external deep done) c = omega (arith, c)
low (in_attribute o m a) c = reaches o _ _ _ _ c.0 c.1 (low_attribute a c.2) (high_attribute (erase_in_attribute a) _)
low (specs m) c = low_specs_mode m c
low (declarator m) c = low_declarator_mode m c
low (after_attributes x) c = reach_read x c
low (want_init k) c = reach_init k c
low (after_init d k x) c = read_part _ _ _ _ _ (low_init k c.1) c.0 (high_init (erase_init k) _)
low (expr m) c = low_expr_mode m c
low (stmt m) c = low_stmt_mode m c
