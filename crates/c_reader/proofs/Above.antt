-- The least depths grow with what stands inside, and are at least the nodes that are open and what stands inside.
use Rattle.std.proofs.Common.{◌≡◌, ℕ, suc, ◌≤◌, ◌+◌, max, List, [], ◌∷◌, ◌++◌, refl, le_refl, arith}
use Rattle.c_tree.specs.Tree as u
use Rattle.c_tree.specs.Tree.{Expr, Specs, Declarator, Init, Item, BlockItems}
use Rattle.c_tree.specs.Depth.{greatest, attribute_depth, depth, exprs_depth, maybe_depth, specs_depth, fields_depth, declarators_depth, enumerators_depth, maybe_declarator_depth, declarator_depth, params_depth, init_depth, inits_depth, item_depth, declaration_depth, first_depth, stmt_depth, block_depth}
use Rattle.c_reader.specs.Parts as p
use Rattle.c_reader.specs.Parts.{Spec, Field, Enumerator, Param, BlockItem, exprs_of, with_spec, specs_of, fields_of, declarators_of, enumerators_of, params_of, inits_of, with_item, items_of}
use Rattle.c_reader.specs.Inside as i
use Rattle.c_reader.specs.Inside.{InStmt, InBody, InDeclaration, InInit, Condition, Part, Operand, Bracket, InExpr, InDeclarator, InSpecs, InFields, InEnum, InParams, InAttribute, AttributeMode, SpecsMode, DeclaratorMode, ExprMode, Unended, StmtMode, Mode, ItemRead, in_block, in_then, in_else, in_while, in_do, in_for, of_definition, of_stmt, of_external, of_block, of_for, of_item, in_braces, of_if, of_while, of_do, plain, returned, condition, for_first, for_condition, for_step, of_prefix, of_sizeof, of_cast, of_binary, of_assign, of_comma, of_cond, of_paren, of_index, of_args, of_middle, in_operand, in_bracket, in_stmt, in_init, in_value, in_array, in_pointer, in_group, in_item, in_field, in_param, in_type, of_declaration, of_field, of_param, of_type, in_fields, in_enum, in_params, of_specs, of_read, attribute_word, attribute_opened, entries_opened, want_entry, after_entry_name, arguments_opened, want_argument, after_argument, after_entry, attribute_closing, in_specs, after_tagged, after_tag, want_field, want_enumerator, after_enumerator, want_param, want_declarator, after_star, declarator_opened, array_opened, params_opened, want_expr, after_expr, after_text, opened, after_sizeof, sizeof_opened, args_opened, after_builtin, want_member, broken, continued, done_while, want_stmt, want_paren, after_for, for_opened, want_condition, want_step, want_semi, after_return, want_external, in_attribute, specs, declarator, after_attributes, want_init, after_init, expr, stmt}
use Rattle.c_reader.specs.Above.{above_stmt, above_body, above_declaration, item_above, first_above, items_above, above_read, above_init, condition_depth, part_depth, operand_depth, bracket_depth, above_expr, above_declarator, above_specs, above_fields, above_enum, above_params, above_attribute, attribute_so_far, specs_so_far, items_want, want_above, declarator_so_far, expr_so_far, unended_depth, stmt_so_far, so_far, height_stmt, height_body, height_declaration, height_first, items_height, height_read, height_init, height_expr, height_declarator, height_specs, height_fields, height_enum, height_params, height_attribute, items_want_height, want_height, specs_height, declarator_height, expr_height, stmt_height, height_of}

-- ---- they grow with what stands there

max_mono : (a b c : ℕ) → b ≤ c → suc (max a b) ≤ suc (max a c)
max_mono a b c h = omega arith

max_mono2 : (a e b c : ℕ) → b ≤ c → suc (max a (max e b)) ≤ suc (max a (max e c))
max_mono2 a e b c h = omega arith

mutual
  pub mono_stmt : (k : InStmt) (d e : ℕ) → d ≤ e → above_stmt k d ≤ above_stmt k e
  mono_stmt (in_block is b) d e h = mono_body b _ _ (max_mono (block_depth (items_of is)) d e h)
  mono_stmt (in_then c k) d e h = mono_stmt k _ _ (max_mono (depth c) d e h)
  mono_stmt (in_else c a k) d e h = mono_stmt k _ _ (max_mono2 (depth c) (stmt_depth a) d e h)
  mono_stmt (in_while c k) d e h = mono_stmt k _ _ (max_mono (depth c) d e h)
  mono_stmt (in_do k) d e h = mono_stmt k (suc d) (suc e) (omega arith)
  mono_stmt (in_for x c z k) d e h =
      mono_stmt k (suc (max (first_depth x) (max (maybe_depth c) (max (maybe_depth z) d)))) (suc (max (first_depth x) (max (maybe_depth c) (max (maybe_depth z) e)))) (omega arith)

  pub mono_body : (b : InBody) (d e : ℕ) → d ≤ e → above_body b d ≤ above_body b e
  mono_body (of_definition done ss x) d e h = omega arith
  mono_body (of_stmt k) d e h = mono_stmt k d e h

pub mono_declaration : (q : InDeclaration) (d e : ℕ) → d ≤ e → above_declaration q d ≤ above_declaration q e
mono_declaration (of_external done) d e h = omega arith
mono_declaration (of_block is b) d e h = mono_body b _ _ (max_mono (block_depth (items_of is)) d e h)
mono_declaration (of_for k) d e h = mono_stmt k (suc d) (suc e) (omega arith)

pub mono_item : (is : List Item) (ss : Specs) (q : InDeclaration) (d e : ℕ) → d ≤ e → item_above is ss q d ≤ item_above is ss q e
mono_item is ss q d e h = mono_declaration q (suc (max (specs_depth ss) (max (greatest item_depth is) (suc d)))) (suc (max (specs_depth ss) (max (greatest item_depth is) (suc e)))) (omega arith)

mono_first : (ss : Specs) (q : InDeclaration) (d e : ℕ) → d ≤ e → first_above ss q d ≤ first_above ss q e
mono_first ss (of_external done) d e h = mono_declaration (of_external done) _ _ (max_mono (specs_depth ss) d e h)
mono_first ss (of_block is b) d e h = mono_item [] ss (of_block is b) d e h
mono_first ss (of_for k) d e h = mono_item [] ss (of_for k) d e h

pub mono_items : (is : List Item) (ss : Specs) (q : InDeclaration) (d e : ℕ) → d ≤ e → items_above is ss q d ≤ items_above is ss q e
mono_items [] ss q d e h = mono_first ss q d e h
mono_items (x ∷ is) ss q d e h = mono_item (x ∷ is) ss q d e h

pub mono_read : (r : ItemRead) (d e : ℕ) → d ≤ e → above_read r d ≤ above_read r e
mono_read r d e h =
    mono_item r.before.items r.before.specs r.before.place (max (declarator_depth r.declarator) (max (greatest attribute_depth r.attributes) d)) (max (declarator_depth r.declarator) (max (greatest attribute_depth r.attributes) e)) (omega arith)

pub mono_init : (k : InInit) (d e : ℕ) → d ≤ e → above_init k d ≤ above_init k e
mono_init (of_item r) d e h = mono_read r d e h
mono_init (in_braces is k) d e h = mono_init k _ _ (max_mono (inits_depth (inits_of is)) d e h)

mono_condition : (c : Condition) (d e : ℕ) → d ≤ e → condition_depth c d ≤ condition_depth c e
mono_condition of_if d e h = omega arith
mono_condition of_while d e h = omega arith
mono_condition (of_do s) d e h = omega arith

pub mono_part : (x : Part) (d e : ℕ) → d ≤ e → part_depth x d ≤ part_depth x e
mono_part plain d e h = omega arith
mono_part returned d e h = omega arith
mono_part (condition c) d e h = mono_condition c d e h
mono_part for_first d e h = omega arith
mono_part (for_condition x) d e h = omega arith
mono_part (for_step x c) d e h = omega arith

mono_operand : (o : Operand) (d e : ℕ) → d ≤ e → operand_depth o d ≤ operand_depth o e
mono_operand (of_prefix o) d e h = omega arith
mono_operand of_sizeof d e h = omega arith
mono_operand (of_cast ss m) d e h = omega arith
mono_operand (of_binary l o) d e h = omega arith
mono_operand (of_assign l o) d e h = omega arith
mono_operand (of_comma l) d e h = omega arith
mono_operand (of_cond c b) d e h = omega arith

mono_bracket : (b : Bracket) (d e : ℕ) → d ≤ e → bracket_depth b d ≤ bracket_depth b e
mono_bracket of_paren d e h = omega arith
mono_bracket (of_index l) d e h = omega arith
mono_bracket (of_args c xs) d e h = omega arith
mono_bracket (of_middle c) d e h = omega arith

mutual
  pub mono_expr : (k : InExpr) (d e : ℕ) → d ≤ e → above_expr k d ≤ above_expr k e
  mono_expr (in_operand o k) d e h = mono_expr k (operand_depth o d) (operand_depth o e) (mono_operand o d e h)
  mono_expr (in_bracket b k) d e h = mono_expr k (bracket_depth b d) (bracket_depth b e) (mono_bracket b d e h)
  mono_expr (in_stmt x k) d e h = mono_stmt k (part_depth x d) (part_depth x e) (mono_part x d e h)
  mono_expr (in_init k) d e h = mono_init k d e h
  mono_expr (in_value n x) d e h = mono_enum x (suc d) (suc e) (omega arith)
  mono_expr (in_array x k) d e h = mono_declarator k _ _ (max_mono (declarator_depth x) d e h)

  pub mono_declarator : (k : InDeclarator) (d e : ℕ) → d ≤ e → above_declarator k d ≤ above_declarator k e
  mono_declarator (in_pointer qs k) d e h = mono_declarator k (suc d) (suc e) (omega arith)
  mono_declarator (in_group k) d e h = mono_declarator k (suc d) (suc e) (omega arith)
  mono_declarator (in_item q) d e h = mono_items q.items q.specs q.place d e h
  mono_declarator (in_field x ss ds) d e h = mono_fields x _ _ (max_mono2 (specs_depth ss) (declarators_depth (declarators_of ds)) d e h)
  mono_declarator (in_param x ss) d e h = mono_params x _ _ (max_mono (specs_depth ss) d e h)
  mono_declarator (in_type x k ss) d e h = mono_expr k (suc (suc (max (specs_depth ss) d))) (suc (suc (max (specs_depth ss) e))) (omega arith)

  pub mono_specs : (k : InSpecs) (d e : ℕ) → d ≤ e → above_specs k d ≤ above_specs k e
  mono_specs (of_declaration q) d e h = mono_declaration q (suc d) (suc e) (omega arith)
  mono_specs (of_field x) d e h = mono_fields x (suc d) (suc e) (omega arith)
  mono_specs (of_param x) d e h = mono_params x (suc d) (suc e) (omega arith)
  mono_specs (of_type x k) d e h = mono_expr k (suc (suc d)) (suc (suc e)) (omega arith)

  pub mono_fields : (x : InFields) (d e : ℕ) → d ≤ e → above_fields x d ≤ above_fields x e
  mono_fields (in_fields b tag fs s k) d e h =
      mono_specs k (max (specs_depth (specs_of s.specs)) (suc (max (fields_depth (fields_of fs)) d))) (max (specs_depth (specs_of s.specs)) (suc (max (fields_depth (fields_of fs)) e))) (omega arith)

  pub mono_enum : (x : InEnum) (d e : ℕ) → d ≤ e → above_enum x d ≤ above_enum x e
  mono_enum (in_enum tag es s k) d e h =
      mono_specs k (max (specs_depth (specs_of s.specs)) (suc (max (enumerators_depth (enumerators_of es)) d))) (max (specs_depth (specs_of s.specs)) (suc (max (enumerators_depth (enumerators_of es)) e))) (omega arith)

  pub mono_params : (x : InParams) (d e : ℕ) → d ≤ e → above_params x d ≤ above_params x e
  mono_params (in_params x ps k) d e h = mono_declarator k _ _ (max_mono2 (declarator_depth x) (params_depth (params_of ps)) d e h)

pub mono_attribute : (a : InAttribute) (d e : ℕ) → d ≤ e → above_attribute a d ≤ above_attribute a e
mono_attribute (of_specs s k) d e h = mono_specs k (max (specs_depth (specs_of s.specs)) d) (max (specs_depth (specs_of s.specs)) e) (omega arith)
mono_attribute (of_read r) d e h = mono_read r d e h

-- ---- lists that have one part more

pub greatest_last : {A : Type 0} (f : A → ℕ) (xs : List A) (x : A) → greatest f (xs ++ x ∷ []) ≡ max (greatest f xs) (f x)
greatest_last f [] x = omega arith
greatest_last f (z ∷ xs) x = let e = greatest_last f xs x in omega arith

pub exprs_depth_last : (xs : List Expr) (a : Expr) → exprs_depth (exprs_of (xs ++ a ∷ [])) ≡ max (exprs_depth (exprs_of xs)) (depth a)
exprs_depth_last [] a = omega arith
exprs_depth_last (x ∷ xs) a = let e = exprs_depth_last xs a in omega arith

depth_with : (x : Spec) (ss : Specs) → specs_depth (with_spec x ss) ≡ max (specs_depth (with_spec x u.no_specs)) (specs_depth ss)
depth_with (p.keyword w) ss = omega arith
depth_with (p.typedef_name n) ss = omega arith
depth_with (p.attribute es) ss = omega arith
depth_with (p.records b tag fs) ss = omega arith
depth_with (p.enums tag es) ss = omega arith

pub specs_depth_last : (xs : List Spec) (x : Spec) → specs_depth (specs_of (xs ++ x ∷ [])) ≡ max (specs_depth (specs_of xs)) (specs_depth (with_spec x u.no_specs))
specs_depth_last [] x = omega arith
specs_depth_last (z ∷ xs) x =
    let e = specs_depth_last xs x in
    let a = depth_with z (specs_of (xs ++ x ∷ [])) in
    let b = depth_with z (specs_of xs) in
    omega arith

pub fields_depth_last : (fs : List Field) (f : Field) → fields_depth (fields_of (fs ++ f ∷ [])) ≡ max (fields_depth (fields_of fs)) (suc (max (specs_depth f.specs) (declarators_depth f.declarators)))
fields_depth_last [] f = omega arith
fields_depth_last (z ∷ fs) f = let e = fields_depth_last fs f in omega arith

pub declarators_depth_last : (ds : List Declarator) (d : Declarator) → declarators_depth (declarators_of (ds ++ d ∷ [])) ≡ max (declarators_depth (declarators_of ds)) (declarator_depth d)
declarators_depth_last [] d = omega arith
declarators_depth_last (z ∷ ds) d = let e = declarators_depth_last ds d in omega arith

pub enumerators_depth_last : (es : List Enumerator) (e : Enumerator) → enumerators_depth (enumerators_of (es ++ e ∷ [])) ≡ max (enumerators_depth (enumerators_of es)) (suc (maybe_depth e.value))
enumerators_depth_last [] e = omega arith
enumerators_depth_last (z ∷ es) e = let h = enumerators_depth_last es e in omega arith

pub params_depth_last : (ps : List Param) (q : Param) → params_depth (params_of (ps ++ q ∷ [])) ≡ max (params_depth (params_of ps)) (suc (max (specs_depth q.specs) (maybe_declarator_depth q.declarator)))
params_depth_last [] q = omega arith
params_depth_last (z ∷ ps) q = let e = params_depth_last ps q in omega arith

pub inits_depth_last : (is : List Init) (x : Init) → inits_depth (inits_of (is ++ x ∷ [])) ≡ max (inits_depth (inits_of is)) (init_depth x)
inits_depth_last [] x = omega arith
inits_depth_last (z ∷ is) x = let e = inits_depth_last is x in omega arith

abbrev pub block_item_depth : BlockItem → ℕ
block_item_depth (p.declared d) = declaration_depth d
block_item_depth (p.statement s) = stmt_depth s

block_with : (x : BlockItem) (is : BlockItems) → block_depth (with_item x is) ≡ max (block_item_depth x) (block_depth is)
block_with (p.declared d) is = refl
block_with (p.statement s) is = refl

pub block_depth_last : (is : List BlockItem) (x : BlockItem) → block_depth (items_of (is ++ x ∷ [])) ≡ max (block_depth (items_of is)) (block_item_depth x)
block_depth_last [] x = let a = block_with x u.no_items in omega arith
block_depth_last (z ∷ is) x =
    let e = block_depth_last is x in
    let a = block_with z (items_of (is ++ x ∷ [])) in
    let b = block_with z (items_of is) in
    omega arith

-- ---- they are at least the nodes that are open and what stands inside

mutual
  pub high_stmt : (k : InStmt) (d : ℕ) → height_stmt k + d ≤ above_stmt k d
  high_stmt (in_block is b) d = let h = high_body b (suc (max (block_depth (items_of is)) d)) in omega arith
  high_stmt (in_then c k) d = let h = high_stmt k (suc (max (depth c) d)) in omega arith
  high_stmt (in_else c a k) d = let h = high_stmt k (suc (max (depth c) (max (stmt_depth a) d))) in omega arith
  high_stmt (in_while c k) d = let h = high_stmt k (suc (max (depth c) d)) in omega arith
  high_stmt (in_do k) d = let h = high_stmt k (suc d) in omega arith
  high_stmt (in_for x c e k) d = let h = high_stmt k (suc (max (first_depth x) (max (maybe_depth c) (max (maybe_depth e) d)))) in omega arith

  pub high_body : (b : InBody) (d : ℕ) → height_body b + d ≤ above_body b d
  high_body (of_definition done ss x) d = omega arith
  high_body (of_stmt k) d = high_stmt k d

pub high_declaration : (q : InDeclaration) (d : ℕ) → height_declaration q + d ≤ above_declaration q d
high_declaration (of_external done) d = omega arith
high_declaration (of_block is b) d = let h = high_body b (suc (max (block_depth (items_of is)) d)) in omega arith
high_declaration (of_for k) d = let h = high_stmt k (suc d) in omega arith

high_item : (is : List Item) (ss : Specs) (q : InDeclaration) (d : ℕ) → suc (suc (height_declaration q)) + d ≤ item_above is ss q d
high_item is ss q d = let h = high_declaration q (suc (max (specs_depth ss) (max (greatest item_depth is) (suc d)))) in omega arith

high_first : (ss : Specs) (q : InDeclaration) (d : ℕ) → height_first q + d ≤ first_above ss q d
high_first ss (of_external done) d = omega arith
high_first ss (of_block is b) d = high_item [] ss (of_block is b) d
high_first ss (of_for k) d = high_item [] ss (of_for k) d

high_items : (is : List Item) (ss : Specs) (q : InDeclaration) (d : ℕ) → items_height is q + d ≤ items_above is ss q d
high_items [] ss q d = high_first ss q d
high_items (x ∷ is) ss q d = high_item (x ∷ is) ss q d

pub high_read : (r : ItemRead) (d : ℕ) → height_read r + d ≤ above_read r d
high_read r d = let h = high_item r.before.items r.before.specs r.before.place (max (declarator_depth r.declarator) (max (greatest attribute_depth r.attributes) d)) in omega arith

pub high_init : (k : InInit) (d : ℕ) → height_init k + d ≤ above_init k d
high_init (of_item r) d = high_read r d
high_init (in_braces is k) d = let h = high_init k (suc (max (inits_depth (inits_of is)) d)) in omega arith

condition_high : (c : Condition) (d : ℕ) → suc d ≤ condition_depth c d
condition_high of_if d = le_refl _
condition_high of_while d = le_refl _
condition_high (of_do s) d = omega arith

part_high : (x : Part) (d : ℕ) → suc d ≤ part_depth x d
part_high plain d = le_refl _
part_high returned d = le_refl _
part_high (condition c) d = condition_high c d
part_high for_first d = le_refl _
part_high (for_condition x) d = omega arith
part_high (for_step x c) d = omega arith

operand_high : (o : Operand) (d : ℕ) → suc d ≤ operand_depth o d
operand_high (of_prefix o) d = le_refl _
operand_high of_sizeof d = le_refl _
operand_high (of_cast ss m) d = omega arith
operand_high (of_binary l o) d = omega arith
operand_high (of_assign l o) d = omega arith
operand_high (of_comma l) d = omega arith
operand_high (of_cond c b) d = omega arith

bracket_high : (b : Bracket) (d : ℕ) → suc d ≤ bracket_depth b d
bracket_high of_paren d = le_refl _
bracket_high (of_index l) d = omega arith
bracket_high (of_args c xs) d = omega arith
bracket_high (of_middle c) d = omega arith

mutual
  pub high_expr : (k : InExpr) (d : ℕ) → height_expr k + d ≤ above_expr k d
  high_expr (in_operand o k) d = let h = high_expr k (operand_depth o d) in let e = operand_high o d in omega arith
  high_expr (in_bracket b k) d = let h = high_expr k (bracket_depth b d) in let e = bracket_high b d in omega arith
  high_expr (in_stmt x k) d = let h = high_stmt k (part_depth x d) in let e = part_high x d in omega arith
  high_expr (in_init k) d = high_init k d
  high_expr (in_value n x) d = let h = high_enum x (suc d) in omega arith
  high_expr (in_array x k) d = let h = high_declarator k (suc (max (declarator_depth x) d)) in omega arith

  pub high_declarator : (k : InDeclarator) (d : ℕ) → height_declarator k + d ≤ above_declarator k d
  high_declarator (in_pointer qs k) d = let h = high_declarator k (suc d) in omega arith
  high_declarator (in_group k) d = let h = high_declarator k (suc d) in omega arith
  high_declarator (in_item q) d = high_items q.items q.specs q.place d
  high_declarator (in_field x ss ds) d = let h = high_fields x (suc (max (specs_depth ss) (max (declarators_depth (declarators_of ds)) d))) in omega arith
  high_declarator (in_param x ss) d = let h = high_params x (suc (max (specs_depth ss) d)) in omega arith
  high_declarator (in_type x k ss) d = let h = high_expr k (suc (suc (max (specs_depth ss) d))) in omega arith

  pub high_specs : (k : InSpecs) (d : ℕ) → height_specs k + d ≤ above_specs k d
  high_specs (of_declaration q) d = let h = high_declaration q (suc d) in omega arith
  high_specs (of_field x) d = let h = high_fields x (suc d) in omega arith
  high_specs (of_param x) d = let h = high_params x (suc d) in omega arith
  high_specs (of_type x k) d = let h = high_expr k (suc (suc d)) in omega arith

  pub high_fields : (x : InFields) (d : ℕ) → height_fields x + d ≤ above_fields x d
  high_fields (in_fields b tag fs s k) d = let h = high_specs k (max (specs_depth (specs_of s.specs)) (suc (max (fields_depth (fields_of fs)) d))) in omega arith

  pub high_enum : (x : InEnum) (d : ℕ) → height_enum x + d ≤ above_enum x d
  high_enum (in_enum tag es s k) d = let h = high_specs k (max (specs_depth (specs_of s.specs)) (suc (max (enumerators_depth (enumerators_of es)) d))) in omega arith

  pub high_params : (x : InParams) (d : ℕ) → height_params x + d ≤ above_params x d
  high_params (in_params x ps k) d = let h = high_declarator k (suc (max (declarator_depth x) (max (params_depth (params_of ps)) d))) in omega arith

pub high_attribute : (a : InAttribute) (d : ℕ) → height_attribute a + d ≤ above_attribute a d
high_attribute (of_specs s k) d = let h = high_specs k (max (specs_depth (specs_of s.specs)) d) in omega arith
high_attribute (of_read r) d = high_read r d

-- ---- no state is less deep than the nodes that are open

want_items_high : (is : List Item) (ss : Specs) (q : InDeclaration) → items_want_height is q ≤ items_want is ss q
want_items_high [] ss q = let h = high_declaration q (suc (specs_depth ss)) in omega arith
want_items_high (x ∷ is) ss q = let h = high_item (x ∷ is) ss q 0 in omega arith

want_high : (k : InDeclarator) → want_height k ≤ want_above k
want_high (in_pointer qs k) = let h = high_declarator k 1 in omega arith
want_high (in_group k) = let h = high_declarator k 1 in omega arith
want_high (in_item q) = want_items_high q.items q.specs q.place
want_high (in_field x ss ds) = let h = high_declarator (in_field x ss ds) 0 in omega arith
want_high (in_param x ss) = let h = high_declarator (in_param x ss) 0 in omega arith
want_high (in_type x k ss) = let h = high_declarator (in_type x k ss) 0 in omega arith

specs_high : (m : SpecsMode) → specs_height m ≤ specs_so_far m
specs_high (in_specs s k) = let h = high_specs k (specs_depth (specs_of s.specs)) in omega arith
specs_high (after_tagged x s k) = let h = high_specs k (max (specs_depth (specs_of s.specs)) 1) in omega arith
specs_high (after_tag x n s k) = let h = high_specs k (max (specs_depth (specs_of s.specs)) 1) in omega arith
specs_high (want_field x) = let h = high_fields x 0 in omega arith
specs_high (want_enumerator x) = let h = high_enum x 0 in omega arith
specs_high (after_enumerator n x) = let h = high_enum x 1 in omega arith
specs_high (want_param x) = let h = high_params x 0 in omega arith

declarator_mode_high : (m : DeclaratorMode) → declarator_height m ≤ declarator_so_far m
declarator_mode_high (want_declarator k) = want_high k
declarator_mode_high (after_star qs k) = let h = high_declarator k 1 in omega arith
declarator_mode_high (declarator_opened k) = let h = high_declarator k 1 in omega arith
declarator_mode_high (i.after_declarator k d) = let h = high_declarator k (declarator_depth d) in omega arith
declarator_mode_high (array_opened d k) = let h = high_declarator k (suc (declarator_depth d)) in omega arith
declarator_mode_high (params_opened d k) = let h = high_declarator k (suc (declarator_depth d)) in omega arith

expr_mode_high : (m : ExprMode) → expr_height m ≤ expr_so_far m
expr_mode_high (want_expr k) = let h = high_expr k 0 in omega arith
expr_mode_high (after_expr k a) = let h = high_expr k (depth a) in omega arith
expr_mode_high (after_text k ns) = let h = high_expr k 1 in omega arith
expr_mode_high (opened k) = let h = high_expr k 1 in omega arith
expr_mode_high (after_sizeof k) = let h = high_expr k 1 in omega arith
expr_mode_high (sizeof_opened k) = let h = high_expr k 1 in omega arith
expr_mode_high (args_opened f k) = let h = high_expr k (suc (depth f)) in omega arith
expr_mode_high (after_builtin k) = let h = high_expr k 1 in omega arith
expr_mode_high (want_member a m k) = let h = high_expr k (suc (depth a)) in omega arith

unended_high : (s : Unended) → 1 ≤ unended_depth s
unended_high broken = le_refl _
unended_high continued = le_refl _
unended_high (done_while s c) = omega arith

stmt_mode_high : (m : StmtMode) → stmt_height m ≤ stmt_so_far m
stmt_mode_high (want_stmt k) = let h = high_stmt k 0 in omega arith
stmt_mode_high (i.after_stmt k s) = let h = high_stmt k (stmt_depth s) in omega arith
stmt_mode_high (want_paren c k) = let h = high_stmt k (condition_depth c 0) in let e = condition_high c 0 in omega arith
stmt_mode_high (after_for k) = let h = high_stmt k 1 in omega arith
stmt_mode_high (for_opened k) = let h = high_stmt k 1 in omega arith
stmt_mode_high (want_condition x k) = let h = high_stmt k (suc (first_depth x)) in omega arith
stmt_mode_high (want_step x c k) = let h = high_stmt k (suc (max (first_depth x) (maybe_depth c))) in omega arith
stmt_mode_high (want_semi s k) = let h = high_stmt k (unended_depth s) in let e = unended_high s in omega arith
stmt_mode_high (after_return k) = let h = high_stmt k 1 in omega arith

attribute_high : (m : AttributeMode) → 1 ≤ attribute_so_far m
attribute_high attribute_word = le_refl _
attribute_high attribute_opened = le_refl _
attribute_high entries_opened = le_refl _
attribute_high (want_entry es) = omega arith
attribute_high (after_entry_name es n) = omega arith
attribute_high (arguments_opened es n) = omega arith
attribute_high (want_argument es n xs) = omega arith
attribute_high (after_argument es n xs x) = omega arith
attribute_high (after_entry es) = omega arith
attribute_high (attribute_closing es) = omega arith

pub height_least : (m : Mode) → height_of m ≤ so_far m
height_least (want_external done) = omega arith
height_least (in_attribute m a) = let h = high_attribute a (attribute_so_far m) in let e = attribute_high m in omega arith
height_least (specs m) = specs_high m
height_least (declarator m) = declarator_mode_high m
height_least (after_attributes r) = let h = high_read r 0 in omega arith
height_least (want_init k) = let h = high_init k 0 in omega arith
height_least (after_init k x) = let h = high_init k (init_depth x) in omega arith
height_least (expr m) = expr_mode_high m
height_least (stmt m) = stmt_mode_high m
