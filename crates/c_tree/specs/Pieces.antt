-- The tokens of a tree with the beginning and the end of each node between them, and then rest.
-- From it: the numbers of the nodes, and their places.
use Rattle.std.specs.Prelude.{ℕ, List, [], ◌∷◌, Bool, true, false, Option, Some, None}
use Rattle.c_tree.specs.Tok.{Tok, Word, name, word, number, char, text, mark}
use Rattle.c_tree.specs.Tok as t
use Rattle.c_tree.specs.Marks.{binary_mark, assign_mark, prefix_mark, step_mark, record_word}
use Rattle.c_tree.specs.Marked as m
use Rattle.c_tree.specs.Marked.{Expr, TypeName, Exprs, MaybeExpr, Specs, Fields, MaybeFields, Declarators, Declarator, MaybeDeclarator, Enumerators, MaybeEnumerators, Params, Init, Inits, MaybeInit, Item, Declaration, First, Stmt, BlockItems, External, Entry, Argument, Attribute}
use Rattle.c_tree.specs.declared.operator.At.{At}

pub data Piece : Type 0 where
  token : Tok → Piece
  opens : At → Piece
  closes : At → Piece
  -- a node without tokens: the absent name of an abstract declarator
  absent : At → Piece

-- ---- lists

abbrev pub pieces_all : {A : Type 0} → (A → List Piece → List Piece) → List A → List Piece → List Piece
pieces_all f [] rest = rest
pieces_all f (x ∷ xs) rest = f x (pieces_all f xs rest)

-- each behind a comma
abbrev pub pieces_more : {A : Type 0} → (A → List Piece → List Piece) → List A → List Piece → List Piece
pieces_more f [] rest = rest
pieces_more f (x ∷ xs) rest = token (mark t.Com) ∷ f x (pieces_more f xs rest)

abbrev pub pieces_commas : {A : Type 0} → (A → List Piece → List Piece) → List A → List Piece → List Piece
pieces_commas f [] rest = rest
pieces_commas f (x ∷ xs) rest = f x (pieces_more f xs rest)

abbrev pub pieces_name : Option (List ℕ) → List Piece → List Piece
pieces_name None rest = rest
pieces_name (Some n) rest = token (name n) ∷ rest

abbrev pub pieces_comma_if : Bool → List Piece → List Piece
pieces_comma_if false rest = rest
pieces_comma_if true rest = token (mark t.Com) ∷ rest

abbrev pub pieces_text : List ℕ → List Piece → List Piece
pieces_text s rest = token (text s) ∷ rest

abbrev pub pieces_word : Word → List Piece → List Piece
pieces_word w rest = token (word w) ∷ rest

-- ---- attributes

abbrev pub pieces_argument : Argument → List Piece → List Piece
pieces_argument (m.NumberArgument at n) rest = opens at ∷ token (number n) ∷ closes at ∷ rest
pieces_argument (m.TextArgument at ts) rest = opens at ∷ pieces_all pieces_text ts (closes at ∷ rest)

abbrev pub pieces_arguments : Option (List Argument) → List Piece → List Piece
pieces_arguments None rest = rest
pieces_arguments (Some xs) rest = token (mark t.LParen) ∷ pieces_commas pieces_argument xs (token (mark t.RParen) ∷ rest)

abbrev pub pieces_entry : Entry → List Piece → List Piece
pieces_entry e rest = token (name e.name) ∷ pieces_arguments e.arguments rest

abbrev pub pieces_attribute : Attribute → List Piece → List Piece
pieces_attribute a rest =
    opens a.at ∷ token (word t.KAttribute) ∷ token (mark t.LParen) ∷ token (mark t.LParen)
    ∷ pieces_commas pieces_entry a.entries (token (mark t.RParen) ∷ token (mark t.RParen) ∷ closes a.at ∷ rest)

-- ---- expressions, specifiers and declarators

abbrev mutual
  pub pieces : Expr → List Piece → List Piece
  pieces (m.Comma at a b) rest = opens at ∷ pieces a (token (mark t.Com) ∷ pieces b (closes at ∷ rest))
  pieces (m.Assign at a op b) rest = opens at ∷ pieces a (token (mark (assign_mark op)) ∷ pieces b (closes at ∷ rest))
  pieces (m.Cond at c a b) rest = opens at ∷ pieces c (token (mark t.Quest) ∷ pieces a (token (mark t.Colon) ∷ pieces b (closes at ∷ rest)))
  pieces (m.Binary at a op b) rest = opens at ∷ pieces a (token (mark (binary_mark op)) ∷ pieces b (closes at ∷ rest))
  pieces (m.Cast at n a) rest = opens at ∷ token (mark t.LParen) ∷ pieces_type n (token (mark t.RParen) ∷ pieces a (closes at ∷ rest))
  pieces (m.Prefix at op a) rest = opens at ∷ token (mark (prefix_mark op)) ∷ pieces a (closes at ∷ rest)
  pieces (m.SizeofExpr at a) rest = opens at ∷ token (word t.KSizeof) ∷ pieces a (closes at ∷ rest)
  pieces (m.SizeofType at n) rest = opens at ∷ token (word t.KSizeof) ∷ token (mark t.LParen) ∷ pieces_type n (token (mark t.RParen) ∷ closes at ∷ rest)
  pieces (m.Index at a b) rest = opens at ∷ pieces a (token (mark t.LBracket) ∷ pieces b (token (mark t.RBracket) ∷ closes at ∷ rest))
  pieces (m.Call at f xs) rest = opens at ∷ pieces f (token (mark t.LParen) ∷ pieces_exprs xs (token (mark t.RParen) ∷ closes at ∷ rest))
  pieces (m.Dot at a n) rest = opens at ∷ pieces a (token (mark t.Point) ∷ token (name n) ∷ closes at ∷ rest)
  pieces (m.Arrow at a n) rest = opens at ∷ pieces a (token (mark t.Arrow) ∷ token (name n) ∷ closes at ∷ rest)
  pieces (m.Post at a s) rest = opens at ∷ pieces a (token (mark (step_mark s)) ∷ closes at ∷ rest)
  pieces (m.Name at n) rest = opens at ∷ token (name n) ∷ closes at ∷ rest
  pieces (m.Number at n) rest = opens at ∷ token (number n) ∷ closes at ∷ rest
  pieces (m.Char at n) rest = opens at ∷ token (char n) ∷ closes at ∷ rest
  pieces (m.Text at ts) rest = opens at ∷ pieces_all pieces_text ts (closes at ∷ rest)
  pieces (m.Paren at a) rest = opens at ∷ token (mark t.LParen) ∷ pieces a (token (mark t.RParen) ∷ closes at ∷ rest)
  pieces (m.Builtin at xs) rest = opens at ∷ token (word t.KBuiltin) ∷ token (mark t.LParen) ∷ pieces_exprs xs (token (mark t.RParen) ∷ closes at ∷ rest)

  pub pieces_exprs : Exprs → List Piece → List Piece
  pieces_exprs m.no_exprs rest = rest
  pieces_exprs (m.expr a xs) rest = pieces a (pieces_more_exprs xs rest)

  pub pieces_more_exprs : Exprs → List Piece → List Piece
  pieces_more_exprs m.no_exprs rest = rest
  pieces_more_exprs (m.expr a xs) rest = token (mark t.Com) ∷ pieces a (pieces_more_exprs xs rest)

  pub pieces_maybe : MaybeExpr → List Piece → List Piece
  pieces_maybe m.no_expr rest = rest
  pieces_maybe (m.some_expr a) rest = pieces a rest

  pub pieces_type : TypeName → List Piece → List Piece
  pieces_type (m.type_name at ss d) rest = opens at ∷ pieces_specs ss (pieces_maybe_declarator d (closes at ∷ rest))

  pub pieces_specs : Specs → List Piece → List Piece
  pieces_specs m.no_specs rest = rest
  pieces_specs (m.Keyword w ss) rest = token (word w) ∷ pieces_specs ss rest
  pieces_specs (m.Typedef n ss) rest = token (name n) ∷ pieces_specs ss rest
  pieces_specs (m.attribute a ss) rest = pieces_attribute a (pieces_specs ss rest)
  pieces_specs (m.Record at is_union tag b ss) rest = opens at ∷ token (word (record_word is_union)) ∷ pieces_name tag (pieces_body b (closes at ∷ pieces_specs ss rest))
  pieces_specs (m.Enum at tag b ss) rest = opens at ∷ token (word t.KEnum) ∷ pieces_name tag (pieces_list b (closes at ∷ pieces_specs ss rest))

  pub pieces_body : MaybeFields → List Piece → List Piece
  pieces_body m.no_body rest = rest
  pieces_body (m.body fs) rest = token (mark t.LBrace) ∷ pieces_fields fs (token (mark t.RBrace) ∷ rest)

  pub pieces_fields : Fields → List Piece → List Piece
  pieces_fields m.no_fields rest = rest
  pieces_fields (m.Field at ss ds fs) rest = opens at ∷ pieces_specs ss (pieces_declarators ds (token (mark t.Semi) ∷ closes at ∷ pieces_fields fs rest))

  pub pieces_declarators : Declarators → List Piece → List Piece
  pieces_declarators m.no_declarators rest = rest
  pieces_declarators (m.declarator d ds) rest = pieces_declarator d (pieces_more_declarators ds rest)

  pub pieces_more_declarators : Declarators → List Piece → List Piece
  pieces_more_declarators m.no_declarators rest = rest
  pieces_more_declarators (m.declarator d ds) rest = token (mark t.Com) ∷ pieces_declarator d (pieces_more_declarators ds rest)

  pub pieces_list : MaybeEnumerators → List Piece → List Piece
  pieces_list m.no_list rest = rest
  pieces_list (m.list es comma) rest = token (mark t.LBrace) ∷ pieces_enumerators es (pieces_comma_if comma (token (mark t.RBrace) ∷ rest))

  pub pieces_enumerators : Enumerators → List Piece → List Piece
  pieces_enumerators m.no_enumerators rest = rest
  pieces_enumerators (m.Enumerator at n v es) rest = opens at ∷ token (name n) ∷ pieces_value v (closes at ∷ pieces_more_enumerators es rest)

  pub pieces_more_enumerators : Enumerators → List Piece → List Piece
  pieces_more_enumerators m.no_enumerators rest = rest
  pieces_more_enumerators (m.Enumerator at n v es) rest = token (mark t.Com) ∷ opens at ∷ token (name n) ∷ pieces_value v (closes at ∷ pieces_more_enumerators es rest)

  pub pieces_value : MaybeExpr → List Piece → List Piece
  pieces_value m.no_expr rest = rest
  pieces_value (m.some_expr a) rest = token (mark t.Assign) ∷ pieces a rest

  pub pieces_maybe_declarator : MaybeDeclarator → List Piece → List Piece
  pieces_maybe_declarator m.no_declarator rest = rest
  pieces_maybe_declarator (m.some_declarator d) rest = pieces_declarator d rest

  pub pieces_declarator : Declarator → List Piece → List Piece
  pieces_declarator (m.PointerTo at qs d) rest = opens at ∷ token (mark t.Star) ∷ pieces_all pieces_word qs (pieces_declarator d (closes at ∷ rest))
  pieces_declarator (m.Declared at None) rest = absent at ∷ rest
  pieces_declarator (m.Declared at (Some n)) rest = opens at ∷ token (name n) ∷ closes at ∷ rest
  pieces_declarator (m.Group at d) rest = opens at ∷ token (mark t.LParen) ∷ pieces_declarator d (token (mark t.RParen) ∷ closes at ∷ rest)
  pieces_declarator (m.ArrayOf at d n) rest = opens at ∷ pieces_declarator d (token (mark t.LBracket) ∷ pieces_maybe n (token (mark t.RBracket) ∷ closes at ∷ rest))
  pieces_declarator (m.FunctionOf at d ps) rest = opens at ∷ pieces_declarator d (token (mark t.LParen) ∷ pieces_params ps (token (mark t.RParen) ∷ closes at ∷ rest))

  pub pieces_params : Params → List Piece → List Piece
  pieces_params m.no_params rest = rest
  pieces_params (m.Param at ss d ps) rest = opens at ∷ pieces_specs ss (pieces_maybe_declarator d (closes at ∷ pieces_more_params ps rest))

  pub pieces_more_params : Params → List Piece → List Piece
  pieces_more_params m.no_params rest = rest
  pieces_more_params (m.Param at ss d ps) rest = token (mark t.Com) ∷ opens at ∷ pieces_specs ss (pieces_maybe_declarator d (closes at ∷ pieces_more_params ps rest))

-- ---- declarations

abbrev mutual
  pub pieces_init : Init → List Piece → List Piece
  pieces_init (m.Plain a) rest = pieces a rest
  pieces_init (m.Braces at is comma) rest = opens at ∷ token (mark t.LBrace) ∷ pieces_inits is (pieces_comma_if comma (token (mark t.RBrace) ∷ closes at ∷ rest))

  pub pieces_inits : Inits → List Piece → List Piece
  pieces_inits m.no_inits rest = rest
  pieces_inits (m.init i is) rest = pieces_init i (pieces_more_inits is rest)

  pub pieces_more_inits : Inits → List Piece → List Piece
  pieces_more_inits m.no_inits rest = rest
  pieces_more_inits (m.init i is) rest = token (mark t.Com) ∷ pieces_init i (pieces_more_inits is rest)

abbrev pub pieces_maybe_init : MaybeInit → List Piece → List Piece
pieces_maybe_init m.no_init rest = rest
pieces_maybe_init (m.some_init i) rest = token (mark t.Assign) ∷ pieces_init i rest

abbrev pub pieces_item : Item → List Piece → List Piece
pieces_item i rest = opens i.at ∷ pieces_declarator i.declarator (pieces_all pieces_attribute i.attributes (pieces_maybe_init i.init (closes i.at ∷ rest)))

abbrev pub pieces_declaration : Declaration → List Piece → List Piece
pieces_declaration d rest = opens d.at ∷ pieces_specs d.specs (pieces_commas pieces_item d.items (token (mark t.Semi) ∷ closes d.at ∷ rest))

abbrev pub pieces_first : First → List Piece → List Piece
pieces_first (m.FirstDeclaration d) rest = pieces_declaration d rest
pieces_first (m.FirstExpr e) rest = pieces_maybe e (token (mark t.Semi) ∷ rest)

-- ---- statements

abbrev mutual
  pub pieces_stmt : Stmt → List Piece → List Piece
  pieces_stmt (m.Block at items) rest = opens at ∷ token (mark t.LBrace) ∷ pieces_block items (token (mark t.RBrace) ∷ closes at ∷ rest)
  pieces_stmt (m.ExprStmt at e) rest = opens at ∷ pieces_maybe e (token (mark t.Semi) ∷ closes at ∷ rest)
  pieces_stmt (m.If at c a) rest = opens at ∷ token (word t.KIf) ∷ token (mark t.LParen) ∷ pieces c (token (mark t.RParen) ∷ pieces_stmt a (closes at ∷ rest))
  pieces_stmt (m.IfElse at c a b) rest =
      opens at ∷ token (word t.KIf) ∷ token (mark t.LParen) ∷ pieces c (token (mark t.RParen) ∷ pieces_stmt a (token (word t.KElse) ∷ pieces_stmt b (closes at ∷ rest)))
  pieces_stmt (m.While at c a) rest = opens at ∷ token (word t.KWhile) ∷ token (mark t.LParen) ∷ pieces c (token (mark t.RParen) ∷ pieces_stmt a (closes at ∷ rest))
  pieces_stmt (m.Do at a c) rest =
      opens at ∷ token (word t.KDo) ∷ pieces_stmt a (token (word t.KWhile) ∷ token (mark t.LParen) ∷ pieces c (token (mark t.RParen) ∷ token (mark t.Semi) ∷ closes at ∷ rest))
  pieces_stmt (m.For at i c e a) rest =
      opens at ∷ token (word t.KFor) ∷ token (mark t.LParen)
      ∷ pieces_first i (pieces_maybe c (token (mark t.Semi) ∷ pieces_maybe e (token (mark t.RParen) ∷ pieces_stmt a (closes at ∷ rest))))
  pieces_stmt (m.Break at) rest = opens at ∷ token (word t.KBreak) ∷ token (mark t.Semi) ∷ closes at ∷ rest
  pieces_stmt (m.Continue at) rest = opens at ∷ token (word t.KContinue) ∷ token (mark t.Semi) ∷ closes at ∷ rest
  pieces_stmt (m.Return at e) rest = opens at ∷ token (word t.KReturn) ∷ pieces_maybe e (token (mark t.Semi) ∷ closes at ∷ rest)

  pub pieces_block : BlockItems → List Piece → List Piece
  pieces_block m.no_items rest = rest
  pieces_block (m.declared d is) rest = pieces_declaration d (pieces_block is rest)
  pieces_block (m.statement s is) rest = pieces_stmt s (pieces_block is rest)

abbrev pub pieces_external : External → List Piece → List Piece
pieces_external (m.Declares d) rest = pieces_declaration d rest
pieces_external (m.Definition at ss d body is) rest =
    opens at ∷ pieces_specs ss (pieces_declarator d (opens body ∷ token (mark t.LBrace) ∷ pieces_block is (token (mark t.RBrace) ∷ closes body ∷ closes at ∷ rest)))

abbrev pub pieces_unit : List External → List Piece → List Piece
pieces_unit = pieces_all pieces_external

-- the tokens alone
abbrev pub tokens_of : List Piece → List Tok
tokens_of [] = []
tokens_of (token t ∷ ps) = t ∷ tokens_of ps
tokens_of (opens at ∷ ps) = tokens_of ps
tokens_of (closes at ∷ ps) = tokens_of ps
tokens_of (absent at ∷ ps) = tokens_of ps
