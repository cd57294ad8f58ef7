-- The tokens among the pieces of a unit are the tokens that it spells.
use Rattle.std.proofs.Common.{◌≡◌, ℕ, Bool, true, false, List, [], ◌∷◌, map, Option, Some, None, refl, ap, ◌∙◌}
use Rattle.c_tree.specs.Tok as t
use Rattle.c_tree.specs.Tok.{Tok, Word, name, word, text, mark}
use Rattle.c_tree.specs.Marks.{binary_mark, assign_mark, prefix_mark, step_mark, record_word}
use Rattle.c_tree.specs.Marked as m
use Rattle.c_tree.specs.Marked.{Expr, TypeName, Exprs, MaybeExpr, Specs, Fields, MaybeFields, Declarators, Declarator, MaybeDeclarator, Enumerators, MaybeEnumerators, Params, Init, Inits, MaybeInit, Item, Declaration, First, Stmt, BlockItems, External, Entry, Argument, Attribute}
use Rattle.c_tree.specs.declared.operator.At.{At}
use Rattle.c_tree.specs.Bare.{bare, bare_cast, bare_sizeof, bare_exprs, bare_maybe, bare_specs, bare_body, bare_fields, bare_declarators, bare_list, bare_enumerators, bare_maybe_declarator, bare_declarator, bare_params, bare_init, bare_inits, bare_maybe_init, bare_item, bare_declaration, bare_first, bare_stmt, bare_block, bare_external, bare_unit, bare_argument, bare_arguments, bare_entry, bare_attribute}
use Rattle.c_tree.specs.Put.{put, put_exprs, put_more_exprs, put_maybe, put_value, put_specs, put_body, put_fields, put_declarators, put_more_declarators, put_list, put_enumerators, put_more_enumerators, put_maybe_declarator, put_declarator, put_params, put_more_params, put_init, put_inits, put_more_inits, put_maybe_init, put_item, put_declaration, put_first, put_stmt, put_block, put_external, put_all, put_more, put_commas, put_name, put_comma_if, put_text, put_word, put_argument, put_arguments, put_entry, put_attribute, toks}
use Rattle.c_tree.specs.Pieces.{Piece, token, opens, closes, tokens_of, pieces, pieces_exprs, pieces_more_exprs, pieces_maybe, pieces_value, pieces_specs, pieces_body, pieces_fields, pieces_declarators, pieces_more_declarators, pieces_list, pieces_enumerators, pieces_more_enumerators, pieces_maybe_declarator, pieces_declarator, pieces_params, pieces_more_params, pieces_init, pieces_inits, pieces_more_inits, pieces_maybe_init, pieces_item, pieces_declaration, pieces_first, pieces_stmt, pieces_block, pieces_external, pieces_unit, pieces_all, pieces_more, pieces_commas, pieces_name, pieces_comma_if, pieces_text, pieces_word, pieces_argument, pieces_arguments, pieces_entry, pieces_attribute}

-- ---- lists

abbrev Keeps : {A B : Type 0} → (A → List Piece → List Piece) → (A → B) → (B → List Tok → List Tok) → Type 0
Keeps f b g = (x : _) (r : List Piece) → tokens_of (f x r) ≡ g (b x) (tokens_of r)

kept_all : {A B : Type 0} (f : A → List Piece → List Piece) (b : A → B) (g : B → List Tok → List Tok) → Keeps f b g → (xs : List A) (r : List Piece) → tokens_of (pieces_all f xs r) ≡ put_all g (map b xs) (tokens_of r)
kept_all f b g h [] r = refl
kept_all f b g h (x ∷ xs) r = h x (pieces_all f xs r) ∙ ap (g (b x)) (kept_all f b g h xs r)

kept_more : {A B : Type 0} (f : A → List Piece → List Piece) (b : A → B) (g : B → List Tok → List Tok) → Keeps f b g → (xs : List A) (r : List Piece) → tokens_of (pieces_more f xs r) ≡ put_more g (map b xs) (tokens_of r)
kept_more f b g h [] r = refl
kept_more f b g h (x ∷ xs) r = ap (λ y. mark t.Com ∷ y) (h x (pieces_more f xs r) ∙ ap (g (b x)) (kept_more f b g h xs r))

kept_commas : {A B : Type 0} (f : A → List Piece → List Piece) (b : A → B) (g : B → List Tok → List Tok) → Keeps f b g → (xs : List A) (r : List Piece) → tokens_of (pieces_commas f xs r) ≡ put_commas g (map b xs) (tokens_of r)
kept_commas f b g h [] r = refl
kept_commas f b g h (x ∷ xs) r = h x (pieces_more f xs r) ∙ ap (g (b x)) (kept_more f b g h xs r)

kept_texts : (xs : List (List ℕ)) (r : List Piece) → tokens_of (pieces_all pieces_text xs r) ≡ put_all put_text xs (tokens_of r)
kept_texts [] r = refl
kept_texts (x ∷ xs) r = ap (λ y. text x ∷ y) (kept_texts xs r)

kept_words : (xs : List Word) (r : List Piece) → tokens_of (pieces_all pieces_word xs r) ≡ put_all put_word xs (tokens_of r)
kept_words [] r = refl
kept_words (x ∷ xs) r = ap (λ y. word x ∷ y) (kept_words xs r)

kept_name : (n : Option (List ℕ)) (r : List Piece) → tokens_of (pieces_name n r) ≡ put_name n (tokens_of r)
kept_name None r = refl
kept_name (Some n) r = refl

kept_comma_if : (comma : Bool) (r : List Piece) → tokens_of (pieces_comma_if comma r) ≡ put_comma_if comma (tokens_of r)
kept_comma_if false r = refl
kept_comma_if true r = refl

-- ---- attributes

kept_argument : (x : Argument) (r : List Piece) → tokens_of (pieces_argument x r) ≡ put_argument (bare_argument x) (tokens_of r)
kept_argument (m.NumberArgument at n) r = refl
kept_argument (m.TextArgument at ts) r = kept_texts ts (closes at ∷ r)

kept_args : (xs : List Argument) (r : List Piece) → tokens_of (pieces_commas pieces_argument xs r) ≡ put_commas put_argument (map bare_argument xs) (tokens_of r)
kept_args xs r = kept_commas pieces_argument bare_argument put_argument kept_argument xs r

kept_arguments : (x : Option (List Argument)) (r : List Piece) → tokens_of (pieces_arguments x r) ≡ put_arguments (bare_arguments x) (tokens_of r)
kept_arguments None r = refl
kept_arguments (Some xs) r = ap (λ x. (mark t.LParen) ∷ x) (kept_args xs (token (mark t.RParen) ∷ r))

kept_entry : (e : Entry) (r : List Piece) → tokens_of (pieces_entry e r) ≡ put_entry (bare_entry e) (tokens_of r)
kept_entry e r = ap (λ y. name e.name ∷ y) (kept_arguments e.arguments r)

kept_entries : (xs : List Entry) (r : List Piece) → tokens_of (pieces_commas pieces_entry xs r) ≡ put_commas put_entry (map bare_entry xs) (tokens_of r)
kept_entries xs r = kept_commas pieces_entry bare_entry put_entry kept_entry xs r

kept_attribute : (a : Attribute) (r : List Piece) → tokens_of (pieces_attribute a r) ≡ put_attribute (bare_attribute a) (tokens_of r)
kept_attribute a r = ap (λ x. (word t.KAttribute) ∷ (mark t.LParen) ∷ (mark t.LParen) ∷ x) (kept_entries a.entries (token (mark t.RParen) ∷ token (mark t.RParen) ∷ closes a.at ∷ r))

-- ---- expressions, specifiers and declarators

mutual
  kept : (x : Expr) (r : List Piece) → tokens_of (pieces x r) ≡ put (bare x) (tokens_of r)
  kept (m.Comma at a b) r =
      kept a (token (mark t.Com) ∷ pieces b (closes at ∷ r))
      ∙ ap (λ x. put (bare a) ((mark t.Com) ∷ x)) (kept b (closes at ∷ r))
  kept (m.Assign at a op b) r =
      kept a (token (mark (assign_mark op)) ∷ pieces b (closes at ∷ r))
      ∙ ap (λ x. put (bare a) ((mark (assign_mark op)) ∷ x)) (kept b (closes at ∷ r))
  kept (m.Cond at c a b) r =
      kept c (token (mark t.Quest) ∷ pieces a (token (mark t.Colon) ∷ pieces b (closes at ∷ r)))
      ∙ ap (λ x. put (bare c) ((mark t.Quest) ∷ x)) (kept a (token (mark t.Colon) ∷ pieces b (closes at ∷ r)))
      ∙ ap (λ x. put (bare c) ((mark t.Quest) ∷ put (bare a) ((mark t.Colon) ∷ x))) (kept b (closes at ∷ r))
  kept (m.Binary at a op b) r =
      kept a (token (mark (binary_mark op)) ∷ pieces b (closes at ∷ r))
      ∙ ap (λ x. put (bare a) ((mark (binary_mark op)) ∷ x)) (kept b (closes at ∷ r))
  kept (m.Cast at n a) r = kept_cast n a at r (kept a (closes at ∷ r))
  kept (m.Prefix at op a) r = ap (λ x. (mark (prefix_mark op)) ∷ x) (kept a (closes at ∷ r))
  kept (m.SizeofExpr at a) r = ap (λ x. (word t.KSizeof) ∷ x) (kept a (closes at ∷ r))
  kept (m.SizeofType at n) r = kept_sizeof n at r
  kept (m.Index at a b) r =
      kept a (token (mark t.LBracket) ∷ pieces b (token (mark t.RBracket) ∷ closes at ∷ r))
      ∙ ap (λ x. put (bare a) ((mark t.LBracket) ∷ x)) (kept b (token (mark t.RBracket) ∷ closes at ∷ r))
  kept (m.Call at f xs) r =
      kept f (token (mark t.LParen) ∷ pieces_exprs xs (token (mark t.RParen) ∷ closes at ∷ r))
      ∙ ap (λ x. put (bare f) ((mark t.LParen) ∷ x)) (kept_exprs xs (token (mark t.RParen) ∷ closes at ∷ r))
  kept (m.Dot at a n) r = kept a (token (mark t.Point) ∷ token (name n) ∷ closes at ∷ r)
  kept (m.Arrow at a n) r = kept a (token (mark t.Arrow) ∷ token (name n) ∷ closes at ∷ r)
  kept (m.Post at a s) r = kept a (token (mark (step_mark s)) ∷ closes at ∷ r)
  kept (m.Name at n) r = refl
  kept (m.Number at n) r = refl
  kept (m.Char at n) r = refl
  kept (m.Text at ts) r = kept_texts ts (closes at ∷ r)
  kept (m.Paren at a) r = ap (λ x. (mark t.LParen) ∷ x) (kept a (token (mark t.RParen) ∷ closes at ∷ r))
  kept (m.Builtin at xs) r = ap (λ x. (word t.KBuiltin) ∷ (mark t.LParen) ∷ x) (kept_exprs xs (token (mark t.RParen) ∷ closes at ∷ r))

  kept_cast : (n : TypeName) (a : Expr) (at : At) (r : List Piece) → tokens_of (pieces a (closes at ∷ r)) ≡ put (bare a) (tokens_of r)
      → tokens_of (pieces (m.Cast at n a) r) ≡ put (bare_cast n (bare a)) (tokens_of r)
  kept_cast (m.type_name at2 ss d) a at r h =
      ap (λ x. (mark t.LParen) ∷ x) (kept_specs ss (pieces_maybe_declarator d (closes at2 ∷ token (mark t.RParen) ∷ pieces a (closes at ∷ r))))
      ∙ ap (λ x. (mark t.LParen) ∷ put_specs (bare_specs ss) (x)) (kept_maybe_declarator d (closes at2 ∷ token (mark t.RParen) ∷ pieces a (closes at ∷ r)))
      ∙ ap (λ x. (mark t.LParen) ∷ put_specs (bare_specs ss) (put_maybe_declarator (bare_maybe_declarator d) ((mark t.RParen) ∷ x))) (h)

  kept_sizeof : (n : TypeName) (at : At) (r : List Piece) → tokens_of (pieces (m.SizeofType at n) r) ≡ put (bare_sizeof n) (tokens_of r)
  kept_sizeof (m.type_name at2 ss d) at r =
      ap (λ x. (word t.KSizeof) ∷ (mark t.LParen) ∷ x) (kept_specs ss (pieces_maybe_declarator d (closes at2 ∷ token (mark t.RParen) ∷ closes at ∷ r)))
      ∙ ap (λ x. (word t.KSizeof) ∷ (mark t.LParen) ∷ put_specs (bare_specs ss) (x)) (kept_maybe_declarator d (closes at2 ∷ token (mark t.RParen) ∷ closes at ∷ r))

  kept_exprs : (x : Exprs) (r : List Piece) → tokens_of (pieces_exprs x r) ≡ put_exprs (bare_exprs x) (tokens_of r)
  kept_exprs m.no_exprs r = refl
  kept_exprs (m.expr a xs) r =
      kept a (pieces_more_exprs xs (r))
      ∙ ap (λ x. put (bare a) (x)) (kept_more_exprs xs (r))

  kept_more_exprs : (x : Exprs) (r : List Piece) → tokens_of (pieces_more_exprs x r) ≡ put_more_exprs (bare_exprs x) (tokens_of r)
  kept_more_exprs m.no_exprs r = refl
  kept_more_exprs (m.expr a xs) r =
      ap (λ x. (mark t.Com) ∷ x) (kept a (pieces_more_exprs xs (r)))
      ∙ ap (λ x. (mark t.Com) ∷ put (bare a) (x)) (kept_more_exprs xs (r))

  kept_maybe : (x : MaybeExpr) (r : List Piece) → tokens_of (pieces_maybe x r) ≡ put_maybe (bare_maybe x) (tokens_of r)
  kept_maybe m.no_expr r = refl
  kept_maybe (m.some_expr a) r = kept a (r)

  kept_specs : (x : Specs) (r : List Piece) → tokens_of (pieces_specs x r) ≡ put_specs (bare_specs x) (tokens_of r)
  kept_specs m.no_specs r = refl
  kept_specs (m.Keyword w ss) r = ap (λ x. (word w) ∷ x) (kept_specs ss (r))
  kept_specs (m.Typedef n ss) r = ap (λ x. (name n) ∷ x) (kept_specs ss (r))
  kept_specs (m.attribute a ss) r =
      kept_attribute a (pieces_specs ss (r))
      ∙ ap (λ x. put_attribute (bare_attribute a) (x)) (kept_specs ss (r))
  kept_specs (m.Record at is_union tag b ss) r =
      ap (λ x. (word (record_word is_union)) ∷ x) (kept_name tag (pieces_body b (closes at ∷ pieces_specs ss (r))))
      ∙ ap (λ x. (word (record_word is_union)) ∷ put_name tag (x)) (kept_body b (closes at ∷ pieces_specs ss (r)))
      ∙ ap (λ x. (word (record_word is_union)) ∷ put_name tag (put_body (bare_body b) (x))) (kept_specs ss (r))
  kept_specs (m.Enum at tag b ss) r =
      ap (λ x. (word t.KEnum) ∷ x) (kept_name tag (pieces_list b (closes at ∷ pieces_specs ss (r))))
      ∙ ap (λ x. (word t.KEnum) ∷ put_name tag (x)) (kept_list b (closes at ∷ pieces_specs ss (r)))
      ∙ ap (λ x. (word t.KEnum) ∷ put_name tag (put_list (bare_list b) (x))) (kept_specs ss (r))

  kept_body : (x : MaybeFields) (r : List Piece) → tokens_of (pieces_body x r) ≡ put_body (bare_body x) (tokens_of r)
  kept_body m.no_body r = refl
  kept_body (m.body fs) r = ap (λ x. (mark t.LBrace) ∷ x) (kept_fields fs (token (mark t.RBrace) ∷ r))

  kept_fields : (x : Fields) (r : List Piece) → tokens_of (pieces_fields x r) ≡ put_fields (bare_fields x) (tokens_of r)
  kept_fields m.no_fields r = refl
  kept_fields (m.Field at ss ds fs) r =
      kept_specs ss (pieces_declarators ds (token (mark t.Semi) ∷ closes at ∷ pieces_fields fs (r)))
      ∙ ap (λ x. put_specs (bare_specs ss) (x)) (kept_declarators ds (token (mark t.Semi) ∷ closes at ∷ pieces_fields fs (r)))
      ∙ ap (λ x. put_specs (bare_specs ss) (put_declarators (bare_declarators ds) ((mark t.Semi) ∷ x))) (kept_fields fs (r))

  kept_declarators : (x : Declarators) (r : List Piece) → tokens_of (pieces_declarators x r) ≡ put_declarators (bare_declarators x) (tokens_of r)
  kept_declarators m.no_declarators r = refl
  kept_declarators (m.declarator d ds) r =
      kept_declarator d (pieces_more_declarators ds (r))
      ∙ ap (λ x. put_declarator (bare_declarator d) (x)) (kept_more_declarators ds (r))

  kept_more_declarators : (x : Declarators) (r : List Piece) → tokens_of (pieces_more_declarators x r) ≡ put_more_declarators (bare_declarators x) (tokens_of r)
  kept_more_declarators m.no_declarators r = refl
  kept_more_declarators (m.declarator d ds) r =
      ap (λ x. (mark t.Com) ∷ x) (kept_declarator d (pieces_more_declarators ds (r)))
      ∙ ap (λ x. (mark t.Com) ∷ put_declarator (bare_declarator d) (x)) (kept_more_declarators ds (r))

  kept_list : (x : MaybeEnumerators) (r : List Piece) → tokens_of (pieces_list x r) ≡ put_list (bare_list x) (tokens_of r)
  kept_list m.no_list r = refl
  kept_list (m.list es comma) r =
      ap (λ x. (mark t.LBrace) ∷ x) (kept_enumerators es (pieces_comma_if comma (token (mark t.RBrace) ∷ r)))
      ∙ ap (λ x. (mark t.LBrace) ∷ put_enumerators (bare_enumerators es) (x)) (kept_comma_if comma (token (mark t.RBrace) ∷ r))

  kept_enumerators : (x : Enumerators) (r : List Piece) → tokens_of (pieces_enumerators x r) ≡ put_enumerators (bare_enumerators x) (tokens_of r)
  kept_enumerators m.no_enumerators r = refl
  kept_enumerators (m.Enumerator at n v es) r =
      ap (λ x. (name n) ∷ x) (kept_value v (closes at ∷ pieces_more_enumerators es (r)))
      ∙ ap (λ x. (name n) ∷ put_value (bare_maybe v) (x)) (kept_more_enumerators es (r))

  kept_more_enumerators : (x : Enumerators) (r : List Piece) → tokens_of (pieces_more_enumerators x r) ≡ put_more_enumerators (bare_enumerators x) (tokens_of r)
  kept_more_enumerators m.no_enumerators r = refl
  kept_more_enumerators (m.Enumerator at n v es) r =
      ap (λ x. (mark t.Com) ∷ (name n) ∷ x) (kept_value v (closes at ∷ pieces_more_enumerators es (r)))
      ∙ ap (λ x. (mark t.Com) ∷ (name n) ∷ put_value (bare_maybe v) (x)) (kept_more_enumerators es (r))

  kept_value : (x : MaybeExpr) (r : List Piece) → tokens_of (pieces_value x r) ≡ put_value (bare_maybe x) (tokens_of r)
  kept_value m.no_expr r = refl
  kept_value (m.some_expr a) r = ap (λ x. (mark t.Assign) ∷ x) (kept a (r))

  kept_maybe_declarator : (x : MaybeDeclarator) (r : List Piece) → tokens_of (pieces_maybe_declarator x r) ≡ put_maybe_declarator (bare_maybe_declarator x) (tokens_of r)
  kept_maybe_declarator m.no_declarator r = refl
  kept_maybe_declarator (m.some_declarator d) r = kept_declarator d (r)

  kept_declarator : (x : Declarator) (r : List Piece) → tokens_of (pieces_declarator x r) ≡ put_declarator (bare_declarator x) (tokens_of r)
  kept_declarator (m.PointerTo at qs d) r =
      ap (λ x. (mark t.Star) ∷ x) (kept_words qs (pieces_declarator d (closes at ∷ r)))
      ∙ ap (λ x. (mark t.Star) ∷ put_all put_word qs (x)) (kept_declarator d (closes at ∷ r))
  kept_declarator (m.Declared at None) r = refl
  kept_declarator (m.Declared at (Some n)) r = refl
  kept_declarator (m.Group at d) r = ap (λ x. (mark t.LParen) ∷ x) (kept_declarator d (token (mark t.RParen) ∷ closes at ∷ r))
  kept_declarator (m.ArrayOf at d n) r =
      kept_declarator d (token (mark t.LBracket) ∷ pieces_maybe n (token (mark t.RBracket) ∷ closes at ∷ r))
      ∙ ap (λ x. put_declarator (bare_declarator d) ((mark t.LBracket) ∷ x)) (kept_maybe n (token (mark t.RBracket) ∷ closes at ∷ r))
  kept_declarator (m.FunctionOf at d ps) r =
      kept_declarator d (token (mark t.LParen) ∷ pieces_params ps (token (mark t.RParen) ∷ closes at ∷ r))
      ∙ ap (λ x. put_declarator (bare_declarator d) ((mark t.LParen) ∷ x)) (kept_params ps (token (mark t.RParen) ∷ closes at ∷ r))

  kept_params : (x : Params) (r : List Piece) → tokens_of (pieces_params x r) ≡ put_params (bare_params x) (tokens_of r)
  kept_params m.no_params r = refl
  kept_params (m.Param at ss d ps) r =
      kept_specs ss (pieces_maybe_declarator d (closes at ∷ pieces_more_params ps (r)))
      ∙ ap (λ x. put_specs (bare_specs ss) (x)) (kept_maybe_declarator d (closes at ∷ pieces_more_params ps (r)))
      ∙ ap (λ x. put_specs (bare_specs ss) (put_maybe_declarator (bare_maybe_declarator d) (x))) (kept_more_params ps (r))

  kept_more_params : (x : Params) (r : List Piece) → tokens_of (pieces_more_params x r) ≡ put_more_params (bare_params x) (tokens_of r)
  kept_more_params m.no_params r = refl
  kept_more_params (m.Param at ss d ps) r =
      ap (λ x. (mark t.Com) ∷ x) (kept_specs ss (pieces_maybe_declarator d (closes at ∷ pieces_more_params ps (r))))
      ∙ ap (λ x. (mark t.Com) ∷ put_specs (bare_specs ss) (x)) (kept_maybe_declarator d (closes at ∷ pieces_more_params ps (r)))
      ∙ ap (λ x. (mark t.Com) ∷ put_specs (bare_specs ss) (put_maybe_declarator (bare_maybe_declarator d) (x))) (kept_more_params ps (r))

-- ---- declarations

mutual
  kept_init : (x : Init) (r : List Piece) → tokens_of (pieces_init x r) ≡ put_init (bare_init x) (tokens_of r)
  kept_init (m.Plain a) r = kept a (r)
  kept_init (m.Braces at is comma) r =
      ap (λ x. (mark t.LBrace) ∷ x) (kept_inits is (pieces_comma_if comma (token (mark t.RBrace) ∷ closes at ∷ r)))
      ∙ ap (λ x. (mark t.LBrace) ∷ put_inits (bare_inits is) (x)) (kept_comma_if comma (token (mark t.RBrace) ∷ closes at ∷ r))

  kept_inits : (x : Inits) (r : List Piece) → tokens_of (pieces_inits x r) ≡ put_inits (bare_inits x) (tokens_of r)
  kept_inits m.no_inits r = refl
  kept_inits (m.init i is) r =
      kept_init i (pieces_more_inits is (r))
      ∙ ap (λ x. put_init (bare_init i) (x)) (kept_more_inits is (r))

  kept_more_inits : (x : Inits) (r : List Piece) → tokens_of (pieces_more_inits x r) ≡ put_more_inits (bare_inits x) (tokens_of r)
  kept_more_inits m.no_inits r = refl
  kept_more_inits (m.init i is) r =
      ap (λ x. (mark t.Com) ∷ x) (kept_init i (pieces_more_inits is (r)))
      ∙ ap (λ x. (mark t.Com) ∷ put_init (bare_init i) (x)) (kept_more_inits is (r))

kept_maybe_init : (x : MaybeInit) (r : List Piece) → tokens_of (pieces_maybe_init x r) ≡ put_maybe_init (bare_maybe_init x) (tokens_of r)
kept_maybe_init m.no_init r = refl
kept_maybe_init (m.some_init i) r = ap (λ x. (mark t.Assign) ∷ x) (kept_init i (r))

kept_attributes : (xs : List Attribute) (r : List Piece) → tokens_of (pieces_all pieces_attribute xs r) ≡ put_all put_attribute (map bare_attribute xs) (tokens_of r)
kept_attributes xs r = kept_all pieces_attribute bare_attribute put_attribute kept_attribute xs r

kept_item : (i : Item) (r : List Piece) → tokens_of (pieces_item i r) ≡ put_item (bare_item i) (tokens_of r)
kept_item i r =
    kept_declarator i.declarator (pieces_all pieces_attribute i.attributes (pieces_maybe_init i.init (closes i.at ∷ r)))
    ∙ ap (λ x. put_declarator (bare_declarator i.declarator) (x)) (kept_attributes i.attributes (pieces_maybe_init i.init (closes i.at ∷ r)))
    ∙ ap (λ x. put_declarator (bare_declarator i.declarator) (put_all put_attribute (map bare_attribute i.attributes) (x))) (kept_maybe_init i.init (closes i.at ∷ r))

kept_items : (xs : List Item) (r : List Piece) → tokens_of (pieces_commas pieces_item xs r) ≡ put_commas put_item (map bare_item xs) (tokens_of r)
kept_items xs r = kept_commas pieces_item bare_item put_item kept_item xs r

kept_declaration : (d : Declaration) (r : List Piece) → tokens_of (pieces_declaration d r) ≡ put_declaration (bare_declaration d) (tokens_of r)
kept_declaration d r =
    kept_specs d.specs (pieces_commas pieces_item d.items (token (mark t.Semi) ∷ closes d.at ∷ r))
    ∙ ap (λ x. put_specs (bare_specs d.specs) (x)) (kept_items d.items (token (mark t.Semi) ∷ closes d.at ∷ r))

kept_first : (x : First) (r : List Piece) → tokens_of (pieces_first x r) ≡ put_first (bare_first x) (tokens_of r)
kept_first (m.FirstDeclaration d) r = kept_declaration d (r)
kept_first (m.FirstExpr e) r = kept_maybe e (token (mark t.Semi) ∷ r)

-- ---- statements

mutual
  kept_stmt : (x : Stmt) (r : List Piece) → tokens_of (pieces_stmt x r) ≡ put_stmt (bare_stmt x) (tokens_of r)
  kept_stmt (m.Block at is) r = ap (λ x. (mark t.LBrace) ∷ x) (kept_block is (token (mark t.RBrace) ∷ closes at ∷ r))
  kept_stmt (m.ExprStmt at e) r = kept_maybe e (token (mark t.Semi) ∷ closes at ∷ r)
  kept_stmt (m.If at c a) r =
      ap (λ x. (word t.KIf) ∷ (mark t.LParen) ∷ x) (kept c (token (mark t.RParen) ∷ pieces_stmt a (closes at ∷ r)))
      ∙ ap (λ x. (word t.KIf) ∷ (mark t.LParen) ∷ put (bare c) ((mark t.RParen) ∷ x)) (kept_stmt a (closes at ∷ r))
  kept_stmt (m.IfElse at c a b) r =
      ap (λ x. (word t.KIf) ∷ (mark t.LParen) ∷ x) (kept c (token (mark t.RParen) ∷ pieces_stmt a (token (word t.KElse) ∷ pieces_stmt b (closes at ∷ r))))
      ∙ ap (λ x. (word t.KIf) ∷ (mark t.LParen) ∷ put (bare c) ((mark t.RParen) ∷ x)) (kept_stmt a (token (word t.KElse) ∷ pieces_stmt b (closes at ∷ r)))
      ∙ ap (λ x. (word t.KIf) ∷ (mark t.LParen) ∷ put (bare c) ((mark t.RParen) ∷ put_stmt (bare_stmt a) ((word t.KElse) ∷ x))) (kept_stmt b (closes at ∷ r))
  kept_stmt (m.While at c a) r =
      ap (λ x. (word t.KWhile) ∷ (mark t.LParen) ∷ x) (kept c (token (mark t.RParen) ∷ pieces_stmt a (closes at ∷ r)))
      ∙ ap (λ x. (word t.KWhile) ∷ (mark t.LParen) ∷ put (bare c) ((mark t.RParen) ∷ x)) (kept_stmt a (closes at ∷ r))
  kept_stmt (m.Do at a c) r =
      ap (λ x. (word t.KDo) ∷ x) (kept_stmt a (token (word t.KWhile) ∷ token (mark t.LParen) ∷ pieces c (token (mark t.RParen) ∷ token (mark t.Semi) ∷ closes at ∷ r)))
      ∙ ap (λ x. (word t.KDo) ∷ put_stmt (bare_stmt a) ((word t.KWhile) ∷ (mark t.LParen) ∷ x)) (kept c (token (mark t.RParen) ∷ token (mark t.Semi) ∷ closes at ∷ r))
  kept_stmt (m.For at i c e a) r =
      ap (λ x. (word t.KFor) ∷ (mark t.LParen) ∷ x) (kept_first i (pieces_maybe c (token (mark t.Semi) ∷ pieces_maybe e (token (mark t.RParen) ∷ pieces_stmt a (closes at ∷ r)))))
      ∙ ap (λ x. (word t.KFor) ∷ (mark t.LParen) ∷ put_first (bare_first i) (x)) (kept_maybe c (token (mark t.Semi) ∷ pieces_maybe e (token (mark t.RParen) ∷ pieces_stmt a (closes at ∷ r))))
      ∙ ap (λ x. (word t.KFor) ∷ (mark t.LParen) ∷ put_first (bare_first i) (put_maybe (bare_maybe c) ((mark t.Semi) ∷ x))) (kept_maybe e (token (mark t.RParen) ∷ pieces_stmt a (closes at ∷ r)))
      ∙ ap (λ x. (word t.KFor) ∷ (mark t.LParen) ∷ put_first (bare_first i) (put_maybe (bare_maybe c) ((mark t.Semi) ∷ put_maybe (bare_maybe e) ((mark t.RParen) ∷ x)))) (kept_stmt a (closes at ∷ r))
  kept_stmt (m.Break at) r = refl
  kept_stmt (m.Continue at) r = refl
  kept_stmt (m.Return at e) r = ap (λ x. (word t.KReturn) ∷ x) (kept_maybe e (token (mark t.Semi) ∷ closes at ∷ r))

  kept_block : (x : BlockItems) (r : List Piece) → tokens_of (pieces_block x r) ≡ put_block (bare_block x) (tokens_of r)
  kept_block m.no_items r = refl
  kept_block (m.declared d is) r =
      kept_declaration d (pieces_block is (r))
      ∙ ap (λ x. put_declaration (bare_declaration d) (x)) (kept_block is (r))
  kept_block (m.statement s is) r =
      kept_stmt s (pieces_block is (r))
      ∙ ap (λ x. put_stmt (bare_stmt s) (x)) (kept_block is (r))

kept_external : (x : External) (r : List Piece) → tokens_of (pieces_external x r) ≡ put_external (bare_external x) (tokens_of r)
kept_external (m.Declares d) r = kept_declaration d r
kept_external (m.Definition at ss d body is) r =
    kept_specs ss (pieces_declarator d (opens body ∷ token (mark t.LBrace) ∷ pieces_block is (token (mark t.RBrace) ∷ closes body ∷ closes at ∷ r)))
    ∙ ap (λ x. put_specs (bare_specs ss) (x)) (kept_declarator d (opens body ∷ token (mark t.LBrace) ∷ pieces_block is (token (mark t.RBrace) ∷ closes body ∷ closes at ∷ r)))
    ∙ ap (λ x. put_specs (bare_specs ss) (put_declarator (bare_declarator d) ((mark t.LBrace) ∷ x))) (kept_block is (token (mark t.RBrace) ∷ closes body ∷ closes at ∷ r))

pub kept_unit : (u : List External) → tokens_of (pieces_unit u []) ≡ toks (bare_unit u)
kept_unit u = kept_all pieces_external bare_external put_external kept_external u []
