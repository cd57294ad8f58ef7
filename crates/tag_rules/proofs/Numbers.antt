-- A tree that was numbered from n on has the numbers n, n + 1, .. at its nodes, before what is numbered from the next one on.
use Rattle.std.proofs.Common.{ℕ, Bool, true, false, List, [], ◌∷◌, ◌++◌, map, Option, Some, None, refl}
use Rattle.c_tree.specs.Tok.{Word}
use Rattle.c_tree.specs.Marked as m
use Rattle.c_tree.specs.Pieces.{Piece, pieces, pieces_exprs, pieces_more_exprs, pieces_maybe, pieces_value, pieces_type, pieces_specs, pieces_body, pieces_fields, pieces_declarators, pieces_more_declarators, pieces_list, pieces_enumerators, pieces_more_enumerators, pieces_maybe_declarator, pieces_declarator, pieces_params, pieces_more_params, pieces_init, pieces_inits, pieces_more_inits, pieces_maybe_init, pieces_item, pieces_declaration, pieces_first, pieces_stmt, pieces_block, pieces_external, pieces_all, pieces_more, pieces_commas, pieces_name, pieces_comma_if, pieces_text, pieces_word, pieces_argument, pieces_arguments, pieces_entry, pieces_attribute}
use Rattle.c_tree.specs.Places.{Numbered, IsNumbered}
use Rattle.tag_rules.specs.Renumbered.{Numbering, each, number_argument, number_arguments, number_entry, number_attribute, number, number_type, number_all, number_maybe, number_specs, number_body, number_fields, number_declarators, number_list, number_enumerators, number_maybe_declarator, number_declarator, number_params, number_init, number_inits, number_maybe_init, number_item, number_declaration, number_first, number_stmt, number_block, number_external, renumbered}
use Rattle.tag_rules.specs.EntryPoints.{prototypes}
use Rattle.tag_rules.specs.Tokens.{tok}
use Rattle.tag_rules.specs.Tagged.{tag_external, tagged}
use Rattle.tag_rules.specs.Laws.{NumbersCount}

-- the pieces of a part have their numbers, whatever follows
abbrev Counts : {A : Type 0} → (A → List Piece → List Piece) → Numbering A → Type 0
Counts put x = (n : ℕ) (rest : List Piece) → Numbered (x n).next rest → Numbered n (put (x n).part rest)

-- ---- pieces without nodes

name_counts : (name : Option (List ℕ)) (n : ℕ) (rest : List Piece) → Numbered n rest → Numbered n (pieces_name name rest)
name_counts None n rest h = h
name_counts (Some s) n rest h = h

comma_counts : (comma : Bool) (n : ℕ) (rest : List Piece) → Numbered n rest → Numbered n (pieces_comma_if comma rest)
comma_counts false n rest h = h
comma_counts true n rest h = h

words_count : (ws : List Word) (n : ℕ) (rest : List Piece) → Numbered n rest → Numbered n (pieces_all pieces_word ws rest)
words_count [] n rest h = h
words_count (w ∷ ws) n rest h = words_count ws n rest h

texts_count : (ts : List (List ℕ)) (n : ℕ) (rest : List Piece) → Numbered n rest → Numbered n (pieces_all pieces_text ts rest)
texts_count [] n rest h = h
texts_count (t ∷ ts) n rest h = texts_count ts n rest h

-- ---- lists

module _ {A : Type 0} (put : A → List Piece → List Piece) (give : A → Numbering A) (counts : (x : A) → Counts put (give x)) where
  all_count : (xs : List A) → Counts (pieces_all put) (each give xs)
  all_count [] n rest h = h
  all_count (x ∷ xs) n rest h = counts x n _ (all_count xs _ rest h)

  more_count : (xs : List A) → Counts (pieces_more put) (each give xs)
  more_count [] n rest h = h
  more_count (x ∷ xs) n rest h = counts x n _ (more_count xs _ rest h)

  commas_count : (xs : List A) → Counts (pieces_commas put) (each give xs)
  commas_count [] n rest h = h
  commas_count (x ∷ xs) n rest h = counts x n _ (more_count xs _ rest h)

-- ---- attributes

argument_counts : (x : m.Argument) → Counts pieces_argument (number_argument x)
argument_counts (m.NumberArgument at k) n rest h = (refl, h)
argument_counts (m.TextArgument at ts) n rest h = texts_count ts n _ (refl, h)

arguments_count : (xs : Option (List m.Argument)) → Counts pieces_arguments (number_arguments xs)
arguments_count None n rest h = h
arguments_count (Some xs) n rest h = commas_count pieces_argument number_argument argument_counts xs n _ h

entry_counts : (e : m.Entry) → Counts pieces_entry (number_entry e)
entry_counts e n rest h = arguments_count e.arguments n rest h

attribute_counts : (a : m.Attribute) → Counts pieces_attribute (number_attribute a)
attribute_counts a n rest h = commas_count pieces_entry number_entry entry_counts a.entries n _ (refl, h)

-- ---- expressions, specifiers and declarators

mutual
  expr_counts : (e : m.Expr) → Counts pieces (number e)
  expr_counts (m.Comma at a b) n rest h = expr_counts a n _ (expr_counts b _ _ (refl, h))
  expr_counts (m.Assign at a o b) n rest h = expr_counts a n _ (expr_counts b _ _ (refl, h))
  expr_counts (m.Cond at c a b) n rest h = expr_counts c n _ (expr_counts a _ _ (expr_counts b _ _ (refl, h)))
  expr_counts (m.Binary at a o b) n rest h = expr_counts a n _ (expr_counts b _ _ (refl, h))
  expr_counts (m.Cast at t a) n rest h = type_counts t n _ (expr_counts a _ _ (refl, h))
  expr_counts (m.Prefix at o a) n rest h = expr_counts a n _ (refl, h)
  expr_counts (m.SizeofExpr at a) n rest h = expr_counts a n _ (refl, h)
  expr_counts (m.SizeofType at t) n rest h = type_counts t n _ (refl, h)
  expr_counts (m.Index at a b) n rest h = expr_counts a n _ (expr_counts b _ _ (refl, h))
  expr_counts (m.Call at f es) n rest h = expr_counts f n _ (exprs_count es _ _ (refl, h))
  expr_counts (m.Dot at a x) n rest h = expr_counts a n _ (refl, h)
  expr_counts (m.Arrow at a x) n rest h = expr_counts a n _ (refl, h)
  expr_counts (m.Post at a s) n rest h = expr_counts a n _ (refl, h)
  expr_counts (m.Name at x) n rest h = (refl, h)
  expr_counts (m.Number at x) n rest h = (refl, h)
  expr_counts (m.Char at x) n rest h = (refl, h)
  expr_counts (m.Text at ts) n rest h = texts_count ts n _ (refl, h)
  expr_counts (m.Paren at a) n rest h = expr_counts a n _ (refl, h)
  expr_counts (m.Builtin at es) n rest h = exprs_count es n _ (refl, h)

  type_counts : (t : m.TypeName) → Counts pieces_type (number_type t)
  type_counts (m.type_name at ss d) n rest h = specs_count ss n _ (maybe_declarator_counts d _ _ (refl, h))

  exprs_count : (es : m.Exprs) → Counts pieces_exprs (number_all es)
  exprs_count m.no_exprs n rest h = h
  exprs_count (m.expr a es) n rest h = expr_counts a n _ (more_exprs_count es _ _ h)

  more_exprs_count : (es : m.Exprs) → Counts pieces_more_exprs (number_all es)
  more_exprs_count m.no_exprs n rest h = h
  more_exprs_count (m.expr a es) n rest h = expr_counts a n _ (more_exprs_count es _ _ h)

  maybe_counts : (e : m.MaybeExpr) → Counts pieces_maybe (number_maybe e)
  maybe_counts m.no_expr n rest h = h
  maybe_counts (m.some_expr a) n rest h = expr_counts a n rest h

  value_counts : (e : m.MaybeExpr) → Counts pieces_value (number_maybe e)
  value_counts m.no_expr n rest h = h
  value_counts (m.some_expr a) n rest h = expr_counts a n rest h

  specs_count : (ss : m.Specs) → Counts pieces_specs (number_specs ss)
  specs_count m.no_specs n rest h = h
  specs_count (m.Keyword w ss) n rest h = specs_count ss n rest h
  specs_count (m.Typedef x ss) n rest h = specs_count ss n rest h
  specs_count (m.attribute a ss) n rest h = attribute_counts a n _ (specs_count ss _ rest h)
  specs_count (m.Record at is_union tag b ss) n rest h = name_counts tag n _ (body_counts b n _ (refl, specs_count ss _ rest h))
  specs_count (m.Enum at tag l ss) n rest h = name_counts tag n _ (list_counts l n _ (refl, specs_count ss _ rest h))

  body_counts : (b : m.MaybeFields) → Counts pieces_body (number_body b)
  body_counts m.no_body n rest h = h
  body_counts (m.body fs) n rest h = fields_count fs n _ h

  fields_count : (fs : m.Fields) → Counts pieces_fields (number_fields fs)
  fields_count m.no_fields n rest h = h
  fields_count (m.Field at ss ds fs) n rest h = specs_count ss n _ (declarators_count ds _ _ (refl, fields_count fs _ rest h))

  declarators_count : (ds : m.Declarators) → Counts pieces_declarators (number_declarators ds)
  declarators_count m.no_declarators n rest h = h
  declarators_count (m.declarator d ds) n rest h = declarator_counts d n _ (more_declarators_count ds _ _ h)

  more_declarators_count : (ds : m.Declarators) → Counts pieces_more_declarators (number_declarators ds)
  more_declarators_count m.no_declarators n rest h = h
  more_declarators_count (m.declarator d ds) n rest h = declarator_counts d n _ (more_declarators_count ds _ _ h)

  list_counts : (l : m.MaybeEnumerators) → Counts pieces_list (number_list l)
  list_counts m.no_list n rest h = h
  list_counts (m.list es comma) n rest h = enumerators_count es n _ (comma_counts comma _ _ h)

  enumerators_count : (es : m.Enumerators) → Counts pieces_enumerators (number_enumerators es)
  enumerators_count m.no_enumerators n rest h = h
  enumerators_count (m.Enumerator at x v es) n rest h = value_counts v n _ (refl, more_enumerators_count es _ rest h)

  more_enumerators_count : (es : m.Enumerators) → Counts pieces_more_enumerators (number_enumerators es)
  more_enumerators_count m.no_enumerators n rest h = h
  more_enumerators_count (m.Enumerator at x v es) n rest h = value_counts v n _ (refl, more_enumerators_count es _ rest h)

  maybe_declarator_counts : (d : m.MaybeDeclarator) → Counts pieces_maybe_declarator (number_maybe_declarator d)
  maybe_declarator_counts m.no_declarator n rest h = h
  maybe_declarator_counts (m.some_declarator d) n rest h = declarator_counts d n rest h

  declarator_counts : (d : m.Declarator) → Counts pieces_declarator (number_declarator d)
  declarator_counts (m.PointerTo at qs d) n rest h = words_count qs n _ (declarator_counts d n _ (refl, h))
  declarator_counts (m.Declared at None) n rest h = (refl, h)
  declarator_counts (m.Declared at (Some x)) n rest h = (refl, h)
  declarator_counts (m.Group at d) n rest h = declarator_counts d n _ (refl, h)
  declarator_counts (m.ArrayOf at d e) n rest h = declarator_counts d n _ (maybe_counts e _ _ (refl, h))
  declarator_counts (m.FunctionOf at d ps) n rest h = declarator_counts d n _ (params_count ps _ _ (refl, h))

  params_count : (ps : m.Params) → Counts pieces_params (number_params ps)
  params_count m.no_params n rest h = h
  params_count (m.Param at ss d ps) n rest h = specs_count ss n _ (maybe_declarator_counts d _ _ (refl, more_params_count ps _ rest h))

  more_params_count : (ps : m.Params) → Counts pieces_more_params (number_params ps)
  more_params_count m.no_params n rest h = h
  more_params_count (m.Param at ss d ps) n rest h = specs_count ss n _ (maybe_declarator_counts d _ _ (refl, more_params_count ps _ rest h))

-- ---- initialisers and declarations

mutual
  init_counts : (g : m.Init) → Counts pieces_init (number_init g)
  init_counts (m.Plain a) n rest h = expr_counts a n rest h
  init_counts (m.Braces at gs comma) n rest h = inits_count gs n _ (comma_counts comma _ _ (refl, h))

  inits_count : (gs : m.Inits) → Counts pieces_inits (number_inits gs)
  inits_count m.no_inits n rest h = h
  inits_count (m.init g gs) n rest h = init_counts g n _ (more_inits_count gs _ _ h)

  more_inits_count : (gs : m.Inits) → Counts pieces_more_inits (number_inits gs)
  more_inits_count m.no_inits n rest h = h
  more_inits_count (m.init g gs) n rest h = init_counts g n _ (more_inits_count gs _ _ h)

maybe_init_counts : (g : m.MaybeInit) → Counts pieces_maybe_init (number_maybe_init g)
maybe_init_counts m.no_init n rest h = h
maybe_init_counts (m.some_init g) n rest h = init_counts g n rest h

item_counts : (i : m.Item) → Counts pieces_item (number_item i)
item_counts i n rest h =
    declarator_counts i.declarator n _ (all_count pieces_attribute number_attribute attribute_counts i.attributes _ _ (maybe_init_counts i.init _ _ (refl, h)))

declaration_counts : (d : m.Declaration) → Counts pieces_declaration (number_declaration d)
declaration_counts d n rest h = specs_count d.specs n _ (commas_count pieces_item number_item item_counts d.items _ _ (refl, h))

-- ---- statements

first_counts : (f : m.First) → Counts pieces_first (number_first f)
first_counts (m.FirstDeclaration d) n rest h = declaration_counts d n rest h
first_counts (m.FirstExpr e) n rest h = maybe_counts e n _ h

mutual
  stmt_counts : (s : m.Stmt) → Counts pieces_stmt (number_stmt s)
  stmt_counts (m.Block at items) n rest h = block_counts items n _ (refl, h)
  stmt_counts (m.ExprStmt at e) n rest h = maybe_counts e n _ (refl, h)
  stmt_counts (m.If at c s) n rest h = expr_counts c n _ (stmt_counts s _ _ (refl, h))
  stmt_counts (m.IfElse at c s r) n rest h = expr_counts c n _ (stmt_counts s _ _ (stmt_counts r _ _ (refl, h)))
  stmt_counts (m.While at c s) n rest h = expr_counts c n _ (stmt_counts s _ _ (refl, h))
  stmt_counts (m.Do at s c) n rest h = stmt_counts s n _ (expr_counts c _ _ (refl, h))
  stmt_counts (m.For at f c e s) n rest h = first_counts f n _ (maybe_counts c _ _ (maybe_counts e _ _ (stmt_counts s _ _ (refl, h))))
  stmt_counts (m.Break at) n rest h = (refl, h)
  stmt_counts (m.Continue at) n rest h = (refl, h)
  stmt_counts (m.Return at e) n rest h = maybe_counts e n _ (refl, h)

  block_counts : (items : m.BlockItems) → Counts pieces_block (number_block items)
  block_counts m.no_items n rest h = h
  block_counts (m.declared d items) n rest h = declaration_counts d n _ (block_counts items _ rest h)
  block_counts (m.statement s items) n rest h = stmt_counts s n _ (block_counts items _ rest h)

-- ---- the unit

external_counts : (x : m.External) → Counts pieces_external (number_external x)
external_counts (m.Declares d) n rest h = declaration_counts d n rest h
external_counts (m.Definition at ss d body_at items) n rest h =
    specs_count ss n _ (declarator_counts d _ _ (block_counts items _ _ (refl, (refl, h))))

renumbered_counts : (u : List m.External) → IsNumbered (renumbered u)
unfolding renumbered
renumbered_counts u = all_count pieces_external number_external external_counts u 0 [] tt

pub numbers_count : NumbersCount
unfolding tagged
numbers_count known plan abi stream u =
    renumbered_counts (prototypes abi (tok known plan stream u).sites ++ map (tag_external abi (tok known plan stream u)) u)
