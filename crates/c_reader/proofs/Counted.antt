-- The numbers of the reader's states: each level is that of the node around it and one more, and each depth is that of the parts,
-- without places and numbers.
use Rattle.std.proofs.Common.{◌≡◌, ℕ, suc, max, Bool, true, false, if◌then◌else◌, List, [], ◌∷◌, ◌++◌, map, Option, Some, None, refl, sym, ◌∙◌, ap, arith}
use Rattle.c_tree.specs.Marked.{Expr, Declarator, Init, Item, External, Attribute}
use Rattle.c_tree.specs.Bare.{bare_attribute, bare, bare_maybe, bare_specs, bare_declarators, bare_maybe_declarator, bare_declarator, bare_init, bare_item, bare_first, bare_stmt, bare_external, bare_unit}
use Rattle.c_tree.specs.Tree as b
use Rattle.c_tree.specs.Depth.{greatest, attribute_depth, depth, exprs_depth, maybe_depth, specs_depth, fields_depth, declarators_depth, enumerators_depth, maybe_declarator_depth, declarator_depth, params_depth, init_depth, inits_depth, item_depth, first_depth, stmt_depth, block_depth, external_depth, unit_depth}
use Rattle.c_reader.specs.Parts as p
use Rattle.c_reader.specs.Above.{condition_depth, part_depth, operand_depth, bracket_depth, attribute_so_far, unended_depth}
use Rattle.c_reader.specs.MarkedParts.{Open, Had, Spec, Field, Enumerator, Param, BlockItem, SpecsRead, opens, takes, with_part, whole, add_type}
use Rattle.c_reader.specs.MarkedInside.{InStmt, InBody, in_block, in_then, in_else, in_while, in_do, in_for, of_definition, of_stmt, InDeclaration, of_external, of_block, of_for, InItems, ItemRead, InInit, of_item, in_braces, InExpr, in_operand, in_bracket, in_stmt, in_init, in_value, in_array, InDeclarator, in_pointer, in_group, in_item, in_field, in_param, in_type, InSpecs, of_declaration, of_field, of_param, of_type, InFields, in_fields, InEnum, in_enum, InParams, in_params, InAttribute, of_specs, of_read, SpecsMode, in_specs, after_tagged, after_tag, want_field, want_enumerator, after_enumerator, want_param, DeclaratorMode, want_declarator, after_star, declarator_opened, after_declarator, array_opened, params_opened, ExprMode, want_expr, after_expr, after_text, opened, after_sizeof, sizeof_opened, args_opened, after_builtin, want_member, StmtMode, want_stmt, after_stmt, want_paren, after_for, for_opened, want_condition, want_step, want_semi, after_return, Mode, want_external, in_attribute, specs, declarator, after_attributes, want_init, after_init, expr, stmt, around_stmt, around_init, around_expr, around_declarator, around_fields, around_enum, around_params, declaration_level, specs_level, Next}
use Rattle.c_reader.proofs.Above.{greatest_last, exprs_depth_last, specs_depth_last, fields_depth_last, declarators_depth_last, enumerators_depth_last, params_depth_last, inits_depth_last, block_item_depth, block_depth_last}
use Rattle.c_reader.proofs.Erased.{erase_spec, erase_field, erase_enumerator, erase_param, erase_block_item, erase_condition, erase_part, erase_operand, erase_bracket, erase_attribute_mode, erase_unended, map-last}

-- ---- depths of parts in lists

abbrev pub args_deep : List Expr → ℕ
args_deep xs = exprs_depth (p.exprs_of (map bare xs))

abbrev pub specs_deep : List Spec → ℕ
specs_deep ss = specs_depth (p.specs_of (map erase_spec ss))

abbrev pub fields_deep : List Field → ℕ
fields_deep fs = fields_depth (p.fields_of (map erase_field fs))

abbrev pub declarators_deep : List Declarator → ℕ
declarators_deep ds = declarators_depth (p.declarators_of (map bare_declarator ds))

abbrev pub enumerators_deep : List Enumerator → ℕ
enumerators_deep es = enumerators_depth (p.enumerators_of (map erase_enumerator es))

abbrev pub params_deep : List Param → ℕ
params_deep ps = params_depth (p.params_of (map erase_param ps))

abbrev pub inits_deep : List Init → ℕ
inits_deep is = inits_depth (p.inits_of (map bare_init is))

abbrev pub block_deep : List BlockItem → ℕ
block_deep is = block_depth (p.items_of (map erase_block_item is))

abbrev pub items_deep : List Item → ℕ
items_deep is = greatest item_depth (map bare_item is)

abbrev pub attributes_deep : List Attribute → ℕ
attributes_deep xs = greatest attribute_depth (map bare_attribute xs)

abbrev pub unit_deep : List External → ℕ
unit_deep us = unit_depth (bare_unit us)

abbrev pub spec_deep : Spec → ℕ
spec_deep x = specs_depth (p.with_spec (erase_spec x) b.no_specs)

-- ---- contexts

-- the node stands where so many are open, and has the depth f d where its last part has depth d
abbrev pub Fits : Open → ℕ → (ℕ → ℕ) → Type 0
Fits o level f = (o.level ≡ suc level) × ((d : ℕ) → whole o d ≡ f d)

abbrev pub body_level : InBody → ℕ
body_level (of_definition deep o done ss x) = o.level
body_level (of_stmt k) = (around_stmt k).level

abbrev mutual
  pub CountedStmt : InStmt → Type 0
  CountedStmt (in_block o is k) = Fits o (body_level k) (λ d. suc (max (block_deep is) d)) × CountedBody k
  CountedStmt (in_then o c k) = Fits o (around_stmt k).level (λ d. suc (max (depth (bare c)) d)) × CountedStmt k
  CountedStmt (in_else o c a k) = Fits o (around_stmt k).level (λ d. suc (max (depth (bare c)) (max (stmt_depth (bare_stmt a)) d))) × CountedStmt k
  CountedStmt (in_while o c k) = Fits o (around_stmt k).level (λ d. suc (max (depth (bare c)) d)) × CountedStmt k
  CountedStmt (in_do o k) = Fits o (around_stmt k).level suc × CountedStmt k
  CountedStmt (in_for o i c e k) =
      Fits o (around_stmt k).level (λ d. suc (max (first_depth (bare_first i)) (max (maybe_depth (bare_maybe c)) (max (maybe_depth (bare_maybe e)) d)))) × CountedStmt k

  pub CountedBody : InBody → Type 0
  CountedBody (of_definition deep o done ss x) = (deep ≡ unit_deep done) × Fits o 0 (λ d. suc (max (specs_depth (bare_specs ss)) (max (declarator_depth (bare_declarator x)) d)))
  CountedBody (of_stmt k) = CountedStmt k

abbrev pub CountedDeclaration : InDeclaration → Type 0
CountedDeclaration (of_external deep done) = deep ≡ unit_deep done
CountedDeclaration (of_block o is k) = CountedStmt (in_block o is k)
CountedDeclaration (of_for o k) = CountedStmt (in_do o k)

abbrev pub CountedItems : InItems → Type 0
CountedItems q = Fits q.node (declaration_level q.place) (λ d. suc (max (specs_depth (bare_specs q.specs)) (max (items_deep q.items) d))) × CountedDeclaration q.place

abbrev pub CountedItem : ItemRead → Type 0
CountedItem x = Fits x.node x.before.node.level (λ d. suc (max (declarator_depth (bare_declarator x.declarator)) (max (attributes_deep x.attributes) d))) × CountedItems x.before

abbrev pub CountedInit : InInit → Type 0
CountedInit (of_item x) = CountedItem x
CountedInit (in_braces o is k) = Fits o (around_init k).level (λ d. suc (max (inits_deep is) d)) × CountedInit k

abbrev FitsRead : SpecsRead → InSpecs → Type 0
FitsRead ss k = Fits ss.node (specs_level k) (λ d. suc (max (specs_deep ss.specs) d))

abbrev mutual
  pub CountedExpr : InExpr → Type 0
  CountedExpr (in_operand o x k) = Fits o (around_expr k).level (operand_depth (erase_operand x)) × CountedExpr k
  CountedExpr (in_bracket o x k) = Fits o (around_expr k).level (bracket_depth (erase_bracket x)) × CountedExpr k
  CountedExpr (in_stmt o x k) = Fits o (around_stmt k).level (part_depth (erase_part x)) × CountedStmt k
  CountedExpr (in_init k) = CountedInit k
  CountedExpr (in_value o n k) = Fits o (around_enum k).level suc × CountedEnum k
  CountedExpr (in_array o x k) = Fits o (around_declarator k).level (λ d. suc (max (declarator_depth (bare_declarator x)) d)) × CountedDeclarator k

  pub CountedDeclarator : InDeclarator → Type 0
  CountedDeclarator (in_pointer o qs k) = Fits o (around_declarator k).level suc × CountedDeclarator k
  CountedDeclarator (in_group o k) = Fits o (around_declarator k).level suc × CountedDeclarator k
  CountedDeclarator (in_item q) = CountedItems q
  CountedDeclarator (in_field o f ss ds) = Fits o (around_fields f).level (λ d. suc (max (specs_depth (bare_specs ss)) (max (declarators_deep ds) d))) × CountedFields f
  CountedDeclarator (in_param o k ss) = Fits o (around_params k).level (λ d. suc (max (specs_depth (bare_specs ss)) d)) × CountedParams k
  CountedDeclarator (in_type o o_type c k ss) = Fits o (around_expr k).level suc × Fits o_type o.level (λ d. suc (max (specs_depth (bare_specs ss)) d)) × CountedExpr k

  pub CountedSpecs : InSpecs → Type 0
  CountedSpecs (of_declaration q) = CountedDeclaration q
  CountedSpecs (of_field f) = CountedFields f
  CountedSpecs (of_param k) = CountedParams k
  CountedSpecs (of_type o c k) = Fits o (around_expr k).level suc × CountedExpr k

  pub CountedFields : InFields → Type 0
  CountedFields (in_fields o is_union tag fs ss k) = Fits o ss.node.level (λ d. suc (max (fields_deep fs) d)) × (FitsRead ss k × CountedSpecs k)

  pub CountedEnum : InEnum → Type 0
  CountedEnum (in_enum o tag es ss k) = Fits o ss.node.level (λ d. suc (max (enumerators_deep es) d)) × (FitsRead ss k × CountedSpecs k)

  pub CountedParams : InParams → Type 0
  CountedParams (in_params o x ps k) = Fits o (around_declarator k).level (λ d. suc (max (declarator_depth (bare_declarator x)) (max (params_deep ps) d))) × CountedDeclarator k

abbrev pub CountedRead : SpecsRead → InSpecs → Type 0
CountedRead ss k = FitsRead ss k × CountedSpecs k

abbrev pub around_attribute : InAttribute → Open
around_attribute (of_specs ss k) = ss.node
around_attribute (of_read x) = x.node

abbrev pub CountedIn : InAttribute → Type 0
CountedIn (of_specs ss k) = CountedRead ss k
CountedIn (of_read x) = CountedItem x

-- ---- modes

abbrev pub CountedSpecsMode : SpecsMode → Type 0
CountedSpecsMode (in_specs ss k) = CountedRead ss k
CountedSpecsMode (after_tagged o g ss k) = Fits o ss.node.level suc × CountedRead ss k
CountedSpecsMode (after_tag o g n ss k) = Fits o ss.node.level suc × CountedRead ss k
CountedSpecsMode (want_field f) = CountedFields f
CountedSpecsMode (want_enumerator k) = CountedEnum k
CountedSpecsMode (after_enumerator o n k) = Fits o (around_enum k).level suc × CountedEnum k
CountedSpecsMode (want_param k) = CountedParams k

abbrev pub CountedDeclaratorMode : DeclaratorMode → Type 0
CountedDeclaratorMode (want_declarator k) = CountedDeclarator k
CountedDeclaratorMode (after_star o qs k) = Fits o (around_declarator k).level suc × CountedDeclarator k
CountedDeclaratorMode (declarator_opened o k) = Fits o (around_declarator k).level suc × CountedDeclarator k
CountedDeclaratorMode (after_declarator h k x) = (h.deep ≡ declarator_depth (bare_declarator x)) × CountedDeclarator k
CountedDeclaratorMode (array_opened o x k) = Fits o (around_declarator k).level (λ d. suc (max (declarator_depth (bare_declarator x)) d)) × CountedDeclarator k
CountedDeclaratorMode (params_opened o x k) = Fits o (around_declarator k).level (λ d. suc (max (declarator_depth (bare_declarator x)) d)) × CountedDeclarator k

abbrev pub CountedExprMode : ExprMode → Type 0
CountedExprMode (want_expr k) = CountedExpr k
CountedExprMode (after_expr h k a) = (h.deep ≡ depth (bare a)) × CountedExpr k
CountedExprMode (after_text from k ns) = CountedExpr k
CountedExprMode (opened o k) = Fits o (around_expr k).level suc × CountedExpr k
CountedExprMode (after_sizeof o k) = Fits o (around_expr k).level suc × CountedExpr k
CountedExprMode (sizeof_opened o p_from k) = Fits o (around_expr k).level suc × CountedExpr k
CountedExprMode (args_opened o f k) = Fits o (around_expr k).level (λ d. suc (max (depth (bare f)) d)) × CountedExpr k
CountedExprMode (after_builtin o k) = Fits o (around_expr k).level suc × CountedExpr k
CountedExprMode (want_member o a c k) = Fits o (around_expr k).level (λ d. suc (max (depth (bare a)) d)) × CountedExpr k

abbrev pub CountedStmtMode : StmtMode → Type 0
CountedStmtMode (want_stmt k) = CountedStmt k
CountedStmtMode (after_stmt d k a) = (d ≡ stmt_depth (bare_stmt a)) × CountedStmt k
CountedStmtMode (want_paren o c k) = Fits o (around_stmt k).level (condition_depth (erase_condition c)) × CountedStmt k
CountedStmtMode (after_for o k) = Fits o (around_stmt k).level suc × CountedStmt k
CountedStmtMode (for_opened o k) = Fits o (around_stmt k).level suc × CountedStmt k
CountedStmtMode (want_condition o i k) = Fits o (around_stmt k).level (λ d. suc (max (first_depth (bare_first i)) d)) × CountedStmt k
CountedStmtMode (want_step o i c k) = Fits o (around_stmt k).level (λ d. suc (max (first_depth (bare_first i)) (max (maybe_depth (bare_maybe c)) d))) × CountedStmt k
CountedStmtMode (want_semi o a k) = (o.level ≡ suc (around_stmt k).level) × (whole o 0 ≡ unended_depth (erase_unended a)) × CountedStmt k
CountedStmtMode (after_return o k) = Fits o (around_stmt k).level suc × CountedStmt k

abbrev pub Counted : Mode → Type 0
Counted (want_external deep done) = deep ≡ unit_deep done
Counted (in_attribute o c k) = (o.level ≡ suc (around_attribute k).level) × (whole o 0 ≡ attribute_so_far (erase_attribute_mode c)) × CountedIn k
Counted (specs c) = CountedSpecsMode c
Counted (declarator c) = CountedDeclaratorMode c
Counted (after_attributes x) = CountedItem x
Counted (want_init k) = CountedInit k
Counted (after_init d k x) = (d ≡ init_depth (bare_init x)) × CountedInit k
Counted (expr c) = CountedExprMode c
Counted (stmt c) = CountedStmtMode c

-- where a step leads
abbrev pub Counts : Option Next → Type 0
Counts None = Unit {0}
Counts (Some a) = Counted a.mode

pub either_way : (c : Bool) (x y : Option Next) → Counts x → Counts y → Counts (if c then x else y)
either_way true x y h g = h
either_way false x y h g = g

-- ---- open nodes

pub fresh : (level from : ℕ) → Fits (opens level from) level suc
fresh level from = (refl, λ d. omega arith)

pub taken : (level : ℕ) (h : Had) (a : ℕ) → h.deep ≡ a → Fits (takes level h) level (λ d. suc (max a d))
taken level h a e = (refl, λ d. omega (arith, e))

pub empty_fits : (o : Open) (level : ℕ) → Fits o level suc → Fits o level (λ d. suc (max 0 d))
empty_fits o level h = (h.0, λ d. let f = h.1 d in omega (arith, f))

-- one part more of a list of depth s
pub grown : (o : Open) (level s t d : ℕ) → Fits o level (λ e. suc (max s e)) → t ≡ max s d → Fits (with_part o d) level (λ e. suc (max t e))
grown o level s t d h g = (h.0, λ e. let f = h.1 0 in omega (arith, f, g))

-- the same behind a part of depth a
pub grown2 : (o : Open) (level a s t d : ℕ) → Fits o level (λ e. suc (max a (max s e))) → t ≡ max s d → Fits (with_part o d) level (λ e. suc (max a (max t e)))
grown2 o level a s t d h g = (h.0, λ e. let f = h.1 0 in omega (arith, f, g))

-- the first part
pub with_first : (o : Open) (level a d : ℕ) → Fits o level suc → d ≡ a → Fits (with_part o d) level (λ e. suc (max a e))
with_first o level a d h g = (h.0, λ e. let f = h.1 0 in omega (arith, f, g))

-- one part more
pub with_next : (o : Open) (level s a d : ℕ) → Fits o level (λ e. suc (max s e)) → d ≡ a → Fits (with_part o d) level (λ e. suc (max s (max a e)))
with_next o level s a d h g = (h.0, λ e. let f = h.1 0 in omega (arith, f, g))

-- nothing read yet of what follows a part of depth a, and two parts
pub empty_second : (o : Open) (level a : ℕ) → Fits o level (λ e. suc (max a e)) → Fits o level (λ e. suc (max a (max 0 e)))
empty_second o level a h = (h.0, λ e. let f = h.1 e in omega (arith, f))

pub empty_third : (o : Open) (level a c : ℕ) → Fits o level (λ e. suc (max a (max c e))) → Fits o level (λ e. suc (max a (max c (max 0 e))))
empty_third o level a c h = (h.0, λ e. let f = h.1 e in omega (arith, f))

-- the node as it is
pub as_it_is : (o : Open) (level s : ℕ) → Fits o level (λ e. suc (max s e)) → whole o 0 ≡ suc s
as_it_is o level s h = let f = h.1 0 in omega (arith, f)

pub as_it_is2 : (o : Open) (level a s : ℕ) → Fits o level (λ e. suc (max a (max s e))) → whole o 0 ≡ suc (max a s)
as_it_is2 o level a s h = let f = h.1 0 in omega (arith, f)

-- the depth where the last part has depth a
pub ends_with : (o : Open) (level : ℕ) (f : ℕ → ℕ) (d a : ℕ) → Fits o level f → d ≡ a → whole o d ≡ f a
ends_with o level f d a h g = h.1 d ∙ ap f g

-- ---- lists with one part more

pub args_more : (xs : List Expr) (a : Expr) (d : ℕ) → d ≡ depth (bare a) → args_deep (xs ++ a ∷ []) ≡ max (args_deep xs) d
args_more xs a d g = ap (λ z. exprs_depth (p.exprs_of z)) (map-last bare xs a) ∙ exprs_depth_last (map bare xs) (bare a) ∙ ap (λ z. max (args_deep xs) z) (sym g)

pub specs_more : (xs : List Spec) (a : Spec) (d : ℕ) → d ≡ spec_deep a → specs_deep (xs ++ a ∷ []) ≡ max (specs_deep xs) d
specs_more xs a d g = ap (λ z. specs_depth (p.specs_of z)) (map-last erase_spec xs a) ∙ specs_depth_last (map erase_spec xs) (erase_spec a) ∙ ap (λ z. max (specs_deep xs) z) (sym g)

pub fields_more : (xs : List Field) (a : Field) (d : ℕ)
    → d ≡ suc (max (specs_depth (bare_specs a.specs)) (declarators_depth (bare_declarators a.declarators))) → fields_deep (xs ++ a ∷ []) ≡ max (fields_deep xs) d
fields_more xs a d g = ap (λ z. fields_depth (p.fields_of z)) (map-last erase_field xs a) ∙ fields_depth_last (map erase_field xs) (erase_field a) ∙ ap (λ z. max (fields_deep xs) z) (sym g)

pub declarators_more : (xs : List Declarator) (a : Declarator) (d : ℕ) → d ≡ declarator_depth (bare_declarator a) → declarators_deep (xs ++ a ∷ []) ≡ max (declarators_deep xs) d
declarators_more xs a d g =
    ap (λ z. declarators_depth (p.declarators_of z)) (map-last bare_declarator xs a) ∙ declarators_depth_last (map bare_declarator xs) (bare_declarator a) ∙ ap (λ z. max (declarators_deep xs) z) (sym g)

pub enumerators_more : (xs : List Enumerator) (a : Enumerator) (d : ℕ) → d ≡ suc (maybe_depth (bare_maybe a.value)) → enumerators_deep (xs ++ a ∷ []) ≡ max (enumerators_deep xs) d
enumerators_more xs a d g =
    ap (λ z. enumerators_depth (p.enumerators_of z)) (map-last erase_enumerator xs a) ∙ enumerators_depth_last (map erase_enumerator xs) (erase_enumerator a) ∙ ap (λ z. max (enumerators_deep xs) z) (sym g)

pub params_more : (xs : List Param) (a : Param) (d : ℕ)
    → d ≡ suc (max (specs_depth (bare_specs a.specs)) (maybe_declarator_depth (bare_maybe_declarator a.declarator))) → params_deep (xs ++ a ∷ []) ≡ max (params_deep xs) d
params_more xs a d g = ap (λ z. params_depth (p.params_of z)) (map-last erase_param xs a) ∙ params_depth_last (map erase_param xs) (erase_param a) ∙ ap (λ z. max (params_deep xs) z) (sym g)

pub inits_more : (xs : List Init) (a : Init) (d : ℕ) → d ≡ init_depth (bare_init a) → inits_deep (xs ++ a ∷ []) ≡ max (inits_deep xs) d
inits_more xs a d g = ap (λ z. inits_depth (p.inits_of z)) (map-last bare_init xs a) ∙ inits_depth_last (map bare_init xs) (bare_init a) ∙ ap (λ z. max (inits_deep xs) z) (sym g)

pub block_more : (xs : List BlockItem) (a : BlockItem) (d : ℕ) → d ≡ block_item_depth (erase_block_item a) → block_deep (xs ++ a ∷ []) ≡ max (block_deep xs) d
block_more xs a d g =
    ap (λ z. block_depth (p.items_of z)) (map-last erase_block_item xs a) ∙ block_depth_last (map erase_block_item xs) (erase_block_item a) ∙ ap (λ z. max (block_deep xs) z) (sym g)

greatest_more : {A B : Type 0} (g : A → B) (f : B → ℕ) (xs : List A) (a : A) (d : ℕ) → d ≡ f (g a) → greatest f (map g (xs ++ a ∷ [])) ≡ max (greatest f (map g xs)) d
greatest_more g f xs a d e = ap (greatest f) (map-last g xs a) ∙ greatest_last f (map g xs) (g a) ∙ ap (λ z. max (greatest f (map g xs)) z) (sym e)

pub items_more : (xs : List Item) (a : Item) (d : ℕ) → d ≡ item_depth (bare_item a) → items_deep (xs ++ a ∷ []) ≡ max (items_deep xs) d
items_more xs a d e = greatest_more bare_item item_depth xs a d e

pub attributes_more : (xs : List Attribute) (a : Attribute) (d : ℕ) → d ≡ attribute_depth (bare_attribute a) → attributes_deep (xs ++ a ∷ []) ≡ max (attributes_deep xs) d
attributes_more xs a d e = greatest_more bare_attribute attribute_depth xs a d e

pub unit_more : (xs : List External) (a : External) (d : ℕ) → d ≡ external_depth (bare_external a) → unit_deep (xs ++ a ∷ []) ≡ max (unit_deep xs) d
unit_more xs a d e = greatest_more bare_external external_depth xs a d e

-- ---- specs with one more

pub type_counts : (ss : SpecsRead) (k : InSpecs) (d : ℕ) (x : Spec) → d ≡ spec_deep x → CountedRead ss k → CountedRead (add_type ss d x) k
type_counts ss k d x g h = (grown ss.node (specs_level k) (specs_deep ss.specs) (specs_deep (ss.specs ++ x ∷ [])) d h.0 (specs_more ss.specs x d g), h.1)
