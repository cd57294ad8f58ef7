-- The tokens that a tree spells, and then rest. Each form stands under its line of the grammar (ISO/IEC 9899:2018, A.2).
use Rattle.std.specs.Prelude.{ℕ, List, [], ◌∷◌, Bool, true, false, Option, Some, None}
use Rattle.c_tree.specs.Tok.{Tok, Word, name, word, number, char, text, mark}
use Rattle.c_tree.specs.Tok as t
use Rattle.c_tree.specs.Marks.{binary_mark, assign_mark, prefix_mark, step_mark, record_word}
use Rattle.c_tree.specs.Tree as u
use Rattle.c_tree.specs.Tree.{Expr, Exprs, MaybeExpr, Specs, Fields, MaybeFields, Declarators, Declarator, MaybeDeclarator, Enumerators, MaybeEnumerators, Params, Init, Inits, MaybeInit, Item, Declaration, First, Stmt, BlockItems, External, Entry, Argument}

-- each of the list
abbrev pub put_all : {A : Type 0} → (A → List Tok → List Tok) → List A → List Tok → List Tok
put_all put [] rest = rest
put_all put (x ∷ xs) rest = put x (put_all put xs rest)

-- each behind a comma
abbrev pub put_more : {A : Type 0} → (A → List Tok → List Tok) → List A → List Tok → List Tok
put_more put [] rest = rest
put_more put (x ∷ xs) rest = mark t.Com ∷ put x (put_more put xs rest)

abbrev pub put_commas : {A : Type 0} → (A → List Tok → List Tok) → List A → List Tok → List Tok
put_commas put [] rest = rest
put_commas put (x ∷ xs) rest = put x (put_more put xs rest)

abbrev pub put_name : Option (List ℕ) → List Tok → List Tok
put_name None rest = rest
put_name (Some n) rest = name n ∷ rest

abbrev pub put_comma_if : Bool → List Tok → List Tok
put_comma_if false rest = rest
put_comma_if true rest = mark t.Com ∷ rest

abbrev pub put_text : List ℕ → List Tok → List Tok
put_text s rest = text s ∷ rest

abbrev pub put_word : Word → List Tok → List Tok
put_word w rest = word w ∷ rest

-- ---- attributes: __attribute__ ( ( entry, .. ) ), an entry being name or name ( argument, .. )

abbrev pub put_argument : Argument → List Tok → List Tok
put_argument (u.NumberArgument n) rest = number n ∷ rest
put_argument (u.TextArgument ts) rest = put_all put_text ts rest

abbrev pub put_arguments : Option (List Argument) → List Tok → List Tok
put_arguments None rest = rest
put_arguments (Some xs) rest = mark t.LParen ∷ put_commas put_argument xs (mark t.RParen ∷ rest)

abbrev pub put_entry : Entry → List Tok → List Tok
put_entry e rest = name e.name ∷ put_arguments e.arguments rest

abbrev pub put_attribute : List Entry → List Tok → List Tok
put_attribute es rest = word t.KAttribute ∷ mark t.LParen ∷ mark t.LParen ∷ put_commas put_entry es (mark t.RParen ∷ mark t.RParen ∷ rest)

-- ---- expressions, specs and declarators

abbrev mutual
  pub put : Expr → List Tok → List Tok
  -- expression: expression , assignment-expression (6.5.17)
  put (u.Comma a b) rest = put a (mark t.Com ∷ put b rest)
  -- assignment-expression: unary-expression assignment-operator assignment-expression (6.5.16)
  put (u.Assign a op b) rest = put a (mark (assign_mark op) ∷ put b rest)
  -- conditional-expression: logical-OR-expression ? expression : conditional-expression (6.5.15)
  put (u.Cond c a b) rest = put c (mark t.Quest ∷ put a (mark t.Colon ∷ put b rest))
  -- logical-OR-expression: logical-OR-expression || logical-AND-expression (6.5.14), and so down to
  -- multiplicative-expression: multiplicative-expression % cast-expression (6.5.5)
  put (u.Binary a op b) rest = put a (mark (binary_mark op) ∷ put b rest)
  -- cast-expression: ( type-name ) cast-expression (6.5.4)
  put (u.Cast ss d a) rest = mark t.LParen ∷ put_specs ss (put_maybe_declarator d (mark t.RParen ∷ put a rest))
  -- unary-expression: ++ unary-expression | -- unary-expression | unary-operator cast-expression (6.5.3)
  put (u.Prefix op a) rest = mark (prefix_mark op) ∷ put a rest
  -- unary-expression: sizeof unary-expression (6.5.3)
  put (u.SizeofExpr a) rest = word t.KSizeof ∷ put a rest
  -- unary-expression: sizeof ( type-name ) (6.5.3)
  put (u.SizeofType ss d) rest = word t.KSizeof ∷ mark t.LParen ∷ put_specs ss (put_maybe_declarator d (mark t.RParen ∷ rest))
  -- postfix-expression: postfix-expression [ expression ] (6.5.2)
  put (u.Index a b) rest = put a (mark t.LBracket ∷ put b (mark t.RBracket ∷ rest))
  -- postfix-expression: postfix-expression ( argument-expression-list[opt] ) (6.5.2)
  put (u.Call f xs) rest = put f (mark t.LParen ∷ put_exprs xs (mark t.RParen ∷ rest))
  -- postfix-expression: postfix-expression . identifier (6.5.2)
  put (u.Dot a n) rest = put a (mark t.Point ∷ name n ∷ rest)
  -- postfix-expression: postfix-expression -> identifier (6.5.2)
  put (u.Arrow a n) rest = put a (mark t.Arrow ∷ name n ∷ rest)
  -- postfix-expression: postfix-expression ++ | postfix-expression -- (6.5.2)
  put (u.Post a up) rest = put a (mark (step_mark up) ∷ rest)
  -- primary-expression: identifier (6.5.1)
  put (u.Name n) rest = name n ∷ rest
  -- primary-expression: constant (6.5.1), an integer-constant or a character-constant
  put (u.Number n) rest = number n ∷ rest
  put (u.Char n) rest = char n ∷ rest
  -- primary-expression: string-literal (6.5.1), one or more side by side
  put (u.Text ts) rest = put_all put_text ts rest
  -- primary-expression: ( expression ) (6.5.1)
  put (u.Paren a) rest = mark t.LParen ∷ put a (mark t.RParen ∷ rest)
  -- primary-expression: __builtin_infer_alloc_token ( argument-expression-list ), of Clang
  put (u.Builtin xs) rest = word t.KBuiltin ∷ mark t.LParen ∷ put_exprs xs (mark t.RParen ∷ rest)

  pub put_exprs : Exprs → List Tok → List Tok
  -- argument-expression-list: argument-expression-list , assignment-expression (6.5.2)
  put_exprs u.no_exprs rest = rest
  put_exprs (u.expr a xs) rest = put a (put_more_exprs xs rest)

  pub put_more_exprs : Exprs → List Tok → List Tok
  put_more_exprs u.no_exprs rest = rest
  put_more_exprs (u.expr a xs) rest = mark t.Com ∷ put a (put_more_exprs xs rest)

  pub put_maybe : MaybeExpr → List Tok → List Tok
  put_maybe u.no_expr rest = rest
  put_maybe (u.some_expr a) rest = put a rest

  pub put_specs : Specs → List Tok → List Tok
  -- declaration-specifiers: storage-class-specifier, type-specifier, type-qualifier or function-specifier, and the rest (6.7)
  put_specs u.no_specs rest = rest
  put_specs (u.Keyword w ss) rest = word w ∷ put_specs ss rest
  -- typedef-name: identifier (6.7.8)
  put_specs (u.Typedef n ss) rest = name n ∷ put_specs ss rest
  -- an attribute, of GCC and Clang
  put_specs (u.Attribute es ss) rest = put_attribute es (put_specs ss rest)
  -- struct-or-union-specifier: struct-or-union identifier[opt] { struct-declaration-list } | struct-or-union identifier (6.7.2.1)
  put_specs (u.Record is_union tag b ss) rest = word (record_word is_union) ∷ put_name tag (put_body b (put_specs ss rest))
  -- enum-specifier: enum identifier[opt] { enumerator-list ,[opt] } | enum identifier (6.7.2.2)
  put_specs (u.Enum tag b ss) rest = word t.KEnum ∷ put_name tag (put_list b (put_specs ss rest))

  pub put_body : MaybeFields → List Tok → List Tok
  put_body u.no_body rest = rest
  put_body (u.body fs) rest = mark t.LBrace ∷ put_fields fs (mark t.RBrace ∷ rest)

  pub put_fields : Fields → List Tok → List Tok
  put_fields u.no_fields rest = rest
  -- struct-declaration: specifier-qualifier-list struct-declarator-list ; (6.7.2.1)
  put_fields (u.Field ss ds fs) rest = put_specs ss (put_declarators ds (mark t.Semi ∷ put_fields fs rest))

  pub put_declarators : Declarators → List Tok → List Tok
  -- struct-declarator-list: struct-declarator-list , struct-declarator (6.7.2.1)
  put_declarators u.no_declarators rest = rest
  put_declarators (u.declarator d ds) rest = put_declarator d (put_more_declarators ds rest)

  pub put_more_declarators : Declarators → List Tok → List Tok
  put_more_declarators u.no_declarators rest = rest
  put_more_declarators (u.declarator d ds) rest = mark t.Com ∷ put_declarator d (put_more_declarators ds rest)

  pub put_list : MaybeEnumerators → List Tok → List Tok
  put_list u.no_list rest = rest
  put_list (u.list es comma) rest = mark t.LBrace ∷ put_enumerators es (put_comma_if comma (mark t.RBrace ∷ rest))

  pub put_enumerators : Enumerators → List Tok → List Tok
  -- enumerator-list: enumerator-list , enumerator (6.7.2.2)
  put_enumerators u.no_enumerators rest = rest
  put_enumerators (u.Enumerator n v es) rest = name n ∷ put_value v (put_more_enumerators es rest)

  pub put_more_enumerators : Enumerators → List Tok → List Tok
  put_more_enumerators u.no_enumerators rest = rest
  put_more_enumerators (u.Enumerator n v es) rest = mark t.Com ∷ name n ∷ put_value v (put_more_enumerators es rest)

  pub put_value : MaybeExpr → List Tok → List Tok
  -- enumerator: enumeration-constant | enumeration-constant = constant-expression (6.7.2.2)
  put_value u.no_expr rest = rest
  put_value (u.some_expr a) rest = mark t.Assign ∷ put a rest

  pub put_maybe_declarator : MaybeDeclarator → List Tok → List Tok
  put_maybe_declarator u.no_declarator rest = rest
  put_maybe_declarator (u.some_declarator d) rest = put_declarator d rest

  pub put_declarator : Declarator → List Tok → List Tok
  -- declarator: * type-qualifier-list[opt] declarator (6.7.6)
  put_declarator (u.PointerTo qs d) rest = mark t.Star ∷ put_all put_word qs (put_declarator d rest)
  -- direct-declarator: identifier; absent in an abstract-declarator (6.7.7)
  put_declarator (u.Declared n) rest = put_name n rest
  -- direct-declarator: ( declarator )
  put_declarator (u.Group d) rest = mark t.LParen ∷ put_declarator d (mark t.RParen ∷ rest)
  -- direct-declarator: direct-declarator [ constant-expression[opt] ]
  put_declarator (u.ArrayOf d n) rest = put_declarator d (mark t.LBracket ∷ put_maybe n (mark t.RBracket ∷ rest))
  -- direct-declarator: direct-declarator ( parameter-list[opt] )
  put_declarator (u.FunctionOf d ps) rest = put_declarator d (mark t.LParen ∷ put_params ps (mark t.RParen ∷ rest))

  pub put_params : Params → List Tok → List Tok
  -- parameter-list: parameter-list , parameter-declaration (6.7.6)
  put_params u.no_params rest = rest
  -- parameter-declaration: declaration-specifiers declarator | declaration-specifiers abstract-declarator[opt] (6.7.6)
  put_params (u.Param ss d ps) rest = put_specs ss (put_maybe_declarator d (put_more_params ps rest))

  pub put_more_params : Params → List Tok → List Tok
  put_more_params u.no_params rest = rest
  put_more_params (u.Param ss d ps) rest = mark t.Com ∷ put_specs ss (put_maybe_declarator d (put_more_params ps rest))

-- ---- declarations

abbrev mutual
  pub put_init : Init → List Tok → List Tok
  -- initializer: assignment-expression (6.7.9)
  put_init (u.Plain a) rest = put a rest
  -- initializer: { initializer-list ,[opt] } (6.7.9)
  put_init (u.Braces is comma) rest = mark t.LBrace ∷ put_inits is (put_comma_if comma (mark t.RBrace ∷ rest))

  pub put_inits : Inits → List Tok → List Tok
  put_inits u.no_inits rest = rest
  put_inits (u.init i is) rest = put_init i (put_more_inits is rest)

  pub put_more_inits : Inits → List Tok → List Tok
  put_more_inits u.no_inits rest = rest
  put_more_inits (u.init i is) rest = mark t.Com ∷ put_init i (put_more_inits is rest)

abbrev pub put_maybe_init : MaybeInit → List Tok → List Tok
put_maybe_init u.no_init rest = rest
put_maybe_init (u.some_init i) rest = mark t.Assign ∷ put_init i rest

abbrev pub put_item : Item → List Tok → List Tok
-- init-declarator: declarator | declarator = initializer (6.7), with attributes behind the declarator
put_item i rest = put_declarator i.declarator (put_all put_attribute i.attributes (put_maybe_init i.init rest))

abbrev pub put_declaration : Declaration → List Tok → List Tok
-- declaration: declaration-specifiers init-declarator-list[opt] ; (6.7)
put_declaration d rest = put_specs d.specs (put_commas put_item d.items (mark t.Semi ∷ rest))

abbrev pub put_first : First → List Tok → List Tok
put_first (u.FirstDeclaration d) rest = put_declaration d rest
put_first (u.FirstExpr e) rest = put_maybe e (mark t.Semi ∷ rest)

-- ---- statements

abbrev mutual
  pub put_stmt : Stmt → List Tok → List Tok
  -- compound-statement: { block-item-list[opt] } (6.8.2)
  put_stmt (u.Block items) rest = mark t.LBrace ∷ put_block items (mark t.RBrace ∷ rest)
  -- expression-statement: expression[opt] ; (6.8.3)
  put_stmt (u.ExprStmt e) rest = put_maybe e (mark t.Semi ∷ rest)
  -- selection-statement: if ( expression ) statement (6.8.4)
  put_stmt (u.If c a) rest = word t.KIf ∷ mark t.LParen ∷ put c (mark t.RParen ∷ put_stmt a rest)
  -- selection-statement: if ( expression ) statement else statement (6.8.4)
  put_stmt (u.IfElse c a b) rest = word t.KIf ∷ mark t.LParen ∷ put c (mark t.RParen ∷ put_stmt a (word t.KElse ∷ put_stmt b rest))
  -- iteration-statement: while ( expression ) statement (6.8.5)
  put_stmt (u.While c a) rest = word t.KWhile ∷ mark t.LParen ∷ put c (mark t.RParen ∷ put_stmt a rest)
  -- iteration-statement: do statement while ( expression ) ; (6.8.5)
  put_stmt (u.Do a c) rest = word t.KDo ∷ put_stmt a (word t.KWhile ∷ mark t.LParen ∷ put c (mark t.RParen ∷ mark t.Semi ∷ rest))
  -- iteration-statement: for ( expression[opt] ; expression[opt] ; expression[opt] ) statement
  --     | for ( declaration expression[opt] ; expression[opt] ) statement (6.8.5)
  put_stmt (u.For i c e a) rest = word t.KFor ∷ mark t.LParen ∷ put_first i (put_maybe c (mark t.Semi ∷ put_maybe e (mark t.RParen ∷ put_stmt a rest)))
  -- jump-statement: break ; (6.8.6)
  put_stmt u.Break rest = word t.KBreak ∷ mark t.Semi ∷ rest
  -- jump-statement: continue ; (6.8.6)
  put_stmt u.Continue rest = word t.KContinue ∷ mark t.Semi ∷ rest
  -- jump-statement: return expression[opt] ; (6.8.6)
  put_stmt (u.Return e) rest = word t.KReturn ∷ put_maybe e (mark t.Semi ∷ rest)

  pub put_block : BlockItems → List Tok → List Tok
  -- block-item: declaration | statement (6.8.2)
  put_block u.no_items rest = rest
  put_block (u.declared d is) rest = put_declaration d (put_block is rest)
  put_block (u.statement s is) rest = put_stmt s (put_block is rest)

abbrev pub put_external : External → List Tok → List Tok
-- external-declaration: declaration (6.9)
put_external (u.Declares d) rest = put_declaration d rest
-- function-definition: declaration-specifiers declarator compound-statement (6.9.1)
put_external (u.Definition ss d items) rest = put_specs ss (put_declarator d (mark t.LBrace ∷ put_block items (mark t.RBrace ∷ rest)))

-- translation-unit: translation-unit external-declaration (6.9)
abbrev pub put_unit : List External → List Tok → List Tok
put_unit = put_all put_external

-- the one list of tokens of a unit
abbrev pub toks : List External → List Tok
toks u = put_unit u []
