-- A well-formed unit has at most one node for each token that it spells: each form pays for its own node, and what one form
-- leaves over pays for another.
use Rattle.std.proofs.Common.{◌≡◌, ◌≤◌, ◌<◌, ◌+◌, ℕ, suc, Bool, true, false, List, [], ◌∷◌, length, map, Option, Some, None, IsSome, refl, ap, arith, All}
use Rattle.std.specs.List.{AllByRecursion}
use Rattle.std.proofs.lemmas.List.Elements.{All-nil, All-cons}
use Rattle.c_tree.specs.Tok as t
use Rattle.c_tree.specs.Tok.{Word, word, mark, name}
use Rattle.c_tree.specs.Marks.{binary_mark, assign_mark, step_mark}
use Rattle.c_tree.specs.Tree as u
use Rattle.c_tree.specs.Marked as m
use Rattle.c_tree.specs.Marked.{Expr, Exprs, MaybeExpr, Specs, Fields, MaybeFields, Declarators, Declarator, MaybeDeclarator, Enumerators, MaybeEnumerators, Params, Init, Inits, MaybeInit, Item, Declaration, First, Stmt, BlockItems, External, Entry, Argument, Attribute}
use Rattle.c_tree.specs.Bare.{bare, bare_exprs, bare_maybe, bare_specs, bare_body, bare_fields, bare_declarators, bare_list, bare_enumerators, bare_maybe_declarator, bare_declarator, bare_params, bare_init, bare_inits, bare_maybe_init, bare_item, bare_declaration, bare_first, bare_stmt, bare_block, bare_external, bare_unit, bare_argument, bare_arguments, bare_entry, bare_attribute}
use Rattle.c_tree.specs.Put.{toks}
use Rattle.c_tree.specs.Wf.{Env, Wf, WfAll, WfSome, WfMaybe, WfSpecs, WfBody, WfFields, WfMoreFields, WfDeclarators, WfMoreDeclarators, WfList, WfEnumerators, WfMoreEnumerators, WfAbstract, WfEither, WfDeclarator, WfParams, WfInit, WfInits, WfMoreInits, WfMaybeInit, WfItems, WfDeclaration, WfFirst, WfStmt, WfBlock, WfExternal, WfUnit, WfTexts, WfArgument, WfArguments, WfAttribute, declared_name, after_declarator, after_declaration, after_first, after_stmt, after_external, specified}
use Rattle.c_tree.specs.Pieces.{Piece, token, opens, closes, absent, tokens_of, pieces, pieces_exprs, pieces_more_exprs, pieces_maybe, pieces_value, pieces_specs, pieces_body, pieces_fields, pieces_declarators, pieces_more_declarators, pieces_list, pieces_enumerators, pieces_more_enumerators, pieces_maybe_declarator, pieces_declarator, pieces_params, pieces_more_params, pieces_init, pieces_inits, pieces_more_inits, pieces_maybe_init, pieces_item, pieces_declaration, pieces_first, pieces_stmt, pieces_block, pieces_external, pieces_unit, pieces_all, pieces_more, pieces_commas, pieces_name, pieces_comma_if, pieces_text, pieces_word, pieces_argument, pieces_arguments, pieces_entry, pieces_attribute}
use Rattle.c_tree.specs.Places.{Numbered}
use Rattle.c_tree.specs.Nodes.{numbers_of, NodesAreFew, NumbersAreLow, NodesAreAsMany}
use Rattle.c_tree.proofs.Pieces.{kept_unit}

abbrev nodes : List Piece → ℕ
nodes [] = 0
nodes (token t ∷ ps) = nodes ps
nodes (opens at ∷ ps) = nodes ps
nodes (closes at ∷ ps) = suc (nodes ps)
nodes (absent at ∷ ps) = suc (nodes ps)

abbrev tokens : List Piece → ℕ
tokens [] = 0
tokens (token t ∷ ps) = suc (tokens ps)
tokens (opens at ∷ ps) = tokens ps
tokens (closes at ∷ ps) = tokens ps
tokens (absent at ∷ ps) = tokens ps

-- what stands before r pays for its nodes: with this many tokens over, and with this many nodes too many
abbrev Pays : ℕ → ℕ → List Piece → List Piece → Type 0
Pays over owed ps r = nodes ps + tokens r + over ≤ tokens ps + nodes r + owed

-- ---- lists

few_name : (n : Option (List ℕ)) (r : List Piece) → Pays 0 0 (pieces_name n r) r
few_name None r = omega arith
few_name (Some n) r = omega arith

few_comma_if : (comma : Bool) (r : List Piece) → Pays 0 0 (pieces_comma_if comma r) r
few_comma_if false r = omega arith
few_comma_if true r = omega arith

few_words : (ws : List Word) (r : List Piece) → Pays 0 0 (pieces_all pieces_word ws r) r
few_words [] r = omega arith
few_words (w ∷ ws) r = omega (arith, few_words ws r)

few_texts : (ts : List (List ℕ)) (r : List Piece) → Pays 0 0 (pieces_all pieces_text ts r) r
few_texts [] r = omega arith
few_texts (s ∷ ts) r = omega (arith, few_texts ts r)

-- one text or more is a token or more
some_texts : (ts : List (List ℕ)) (r : List Piece) → WfTexts ts → Pays 1 0 (pieces_all pieces_text ts r) r
some_texts [] r w = absurd (w.0 refl)
some_texts (s ∷ ts) r w = omega (arith, few_texts ts r)

-- ---- attributes

few_argument : (x : Argument) (r : List Piece) → WfArgument (bare_argument x) → Pays 0 0 (pieces_argument x r) r
few_argument (m.NumberArgument at n) r w = omega arith
few_argument (m.TextArgument at ts) r w = omega (arith, some_texts ts (closes at ∷ r) w)

more_arguments : (xs : List Argument) (r : List Piece) → AllByRecursion WfArgument (map bare_argument xs) → Pays 0 0 (pieces_more pieces_argument xs r) r
more_arguments [] r w = omega arith
more_arguments (x ∷ xs) r w = omega (arith, few_argument x (pieces_more pieces_argument xs r) w.0, more_arguments xs r w.1)

each_argument : (xs : List Argument) (r : List Piece) → AllByRecursion WfArgument (map bare_argument xs) → Pays 0 0 (pieces_commas pieces_argument xs r) r
each_argument [] r w = omega arith
each_argument (x ∷ xs) r w = omega (arith, few_argument x (pieces_more pieces_argument xs r) w.0, more_arguments xs r w.1)

few_arguments : (x : Option (List Argument)) (r : List Piece) → WfArguments (bare_arguments x) → Pays 0 0 (pieces_arguments x r) r
few_arguments None r w = omega arith
few_arguments (Some xs) r w = omega (arith, each_argument xs (token (mark t.RParen) ∷ r) w)

more_entries : (es : List Entry) (r : List Piece) → WfAttribute (map bare_entry es) → Pays 0 0 (pieces_more pieces_entry es r) r
more_entries [] r w = omega arith
more_entries (e ∷ es) r w = omega (arith, few_arguments e.arguments (pieces_more pieces_entry es r) w.0.1, more_entries es r w.1)

few_entries : (es : List Entry) (r : List Piece) → WfAttribute (map bare_entry es) → Pays 0 0 (pieces_commas pieces_entry es r) r
few_entries [] r w = omega arith
few_entries (e ∷ es) r w = omega (arith, few_arguments e.arguments (pieces_more pieces_entry es r) w.0.1, more_entries es r w.1)

few_attribute : (a : Attribute) (r : List Piece) → WfAttribute (bare_attribute a) → Pays 1 0 (pieces_attribute a r) r
few_attribute a r w = omega (arith, few_entries a.entries (token (mark t.RParen) ∷ token (mark t.RParen) ∷ closes a.at ∷ r) w)

few_attributes : (xs : List Attribute) (r : List Piece) → AllByRecursion WfAttribute (map bare_attribute xs) → Pays 0 0 (pieces_all pieces_attribute xs r) r
few_attributes [] r w = omega arith
few_attributes (a ∷ xs) r w = omega (arith, few_attribute a (pieces_all pieces_attribute xs r) w.0, few_attributes xs r w.1)

-- ---- declarators: an absent name is a node without a token

abbrev missing : Declarator → ℕ
missing (m.PointerTo at qs d) = missing d
missing (m.Declared at None) = 1
missing (m.Declared at (Some n)) = 0
missing (m.Group at d) = missing d
missing (m.ArrayOf at d n) = missing d
missing (m.FunctionOf at d ps) = missing d

missing_one : (d : Declarator) → missing d ≤ 1
missing_one (m.PointerTo at qs d) = missing_one d
missing_one (m.Declared at None) = omega arith
missing_one (m.Declared at (Some n)) = omega arith
missing_one (m.Group at d) = missing_one d
missing_one (m.ArrayOf at d n) = missing_one d
missing_one (m.FunctionOf at d ps) = missing_one d

missing_none : (d : Declarator) → IsSome (declared_name (bare_declarator d)) → missing d ≡ 0
missing_none (m.PointerTo at qs d) h = missing_none d h
missing_none (m.Declared at None) h = let e : false ≡ true = h in cc
missing_none (m.Declared at (Some n)) h = refl
missing_none (m.Group at d) h = missing_none d h
missing_none (m.ArrayOf at d n) h = missing_none d h
missing_none (m.FunctionOf at d ps) h = missing_none d h

-- specifiers are a token more than their nodes, where there are any
abbrev spare : Specs → ℕ
spare m.no_specs = 0
spare (m.Keyword w ss) = 1
spare (m.Typedef n ss) = 1
spare (m.attribute a ss) = 1
spare (m.Record at is_union tag b ss) = 1
spare (m.Enum at tag b ss) = 1

spare_one : (ss : Specs) → (bare_specs ss ≡ u.no_specs → ⊥) → spare ss ≡ 1
spare_one m.no_specs h = absurd (h refl)
spare_one (m.Keyword w ss) h = refl
spare_one (m.Typedef n ss) h = refl
spare_one (m.attribute a ss) h = refl
spare_one (m.Record at is_union tag b ss) h = refl
spare_one (m.Enum at tag b ss) h = refl

some_all : (env : Env) (xs : Exprs) → WfSome env (bare_exprs xs) → WfAll env (bare_exprs xs)
some_all env m.no_exprs w = tt
some_all env (m.expr a xs) w = w

some_fields : (env : Env) (fs : Fields) → WfFields env (bare_fields fs) → WfMoreFields env (bare_fields fs)
some_fields env m.no_fields w = absurd w
some_fields env (m.Field at ss ds fs) w = w

-- ---- expressions, specifiers and declarators

mutual
  few : (env : Env) (x : Expr) (r : List Piece) → Wf env (bare x) → Pays 0 0 (pieces x r) r
  few env (m.Comma at a b) r w = omega (arith, few _ a (token (mark t.Com) ∷ pieces b (closes at ∷ r)) w.0, few _ b (closes at ∷ r) w.2)
  few env (m.Assign at a op b) r w = omega (arith, few _ a (token (mark (assign_mark op)) ∷ pieces b (closes at ∷ r)) w.1, few _ b (closes at ∷ r) w.3)
  few env (m.Cond at c a b) r w =
      omega (
        arith,
        few _ c (token (mark t.Quest) ∷ pieces a (token (mark t.Colon) ∷ pieces b (closes at ∷ r))) w.1,
        few _ a (token (mark t.Colon) ∷ pieces b (closes at ∷ r)) w.2,
        few _ b (closes at ∷ r) w.4,
      )
  few env (m.Binary at a op b) r w = omega (arith, few _ a (token (mark (binary_mark op)) ∷ pieces b (closes at ∷ r)) w.1, few _ b (closes at ∷ r) w.3)
  few env (m.Cast at (m.type_name at2 ss d) a) r w =
      omega (
        arith,
        few_specs _ _ ss (pieces_maybe_declarator d (closes at2 ∷ token (mark t.RParen) ∷ pieces a (closes at ∷ r))) w.1,
        spare_one ss w.0,
        few_abstract _ d (closes at2 ∷ token (mark t.RParen) ∷ pieces a (closes at ∷ r)) w.2,
        few _ a (closes at ∷ r) w.4,
      )
  few env (m.Prefix at op a) r w = omega (arith, few _ a (closes at ∷ r) w.1)
  few env (m.SizeofExpr at a) r w = omega (arith, few _ a (closes at ∷ r) w.1)
  few env (m.SizeofType at (m.type_name at2 ss d)) r w =
      omega (
        arith,
        few_specs _ _ ss (pieces_maybe_declarator d (closes at2 ∷ token (mark t.RParen) ∷ closes at ∷ r)) w.1,
        spare_one ss w.0,
        few_abstract _ d (closes at2 ∷ token (mark t.RParen) ∷ closes at ∷ r) w.2,
      )
  few env (m.Index at a b) r w =
      omega (arith, few _ a (token (mark t.LBracket) ∷ pieces b (token (mark t.RBracket) ∷ closes at ∷ r)) w.1, few _ b (token (mark t.RBracket) ∷ closes at ∷ r) w.2)
  few env (m.Call at f xs) r w =
      omega (arith, few _ f (token (mark t.LParen) ∷ pieces_exprs xs (token (mark t.RParen) ∷ closes at ∷ r)) w.1, few_exprs _ xs (token (mark t.RParen) ∷ closes at ∷ r) w.2)
  few env (m.Dot at a n) r w = omega (arith, few _ a (token (mark t.Point) ∷ token (name n) ∷ closes at ∷ r) w.1)
  few env (m.Arrow at a n) r w = omega (arith, few _ a (token (mark t.Arrow) ∷ token (name n) ∷ closes at ∷ r) w.1)
  few env (m.Post at a s) r w = omega (arith, few _ a (token (mark (step_mark s)) ∷ closes at ∷ r) w.1)
  few env (m.Name at n) r w = omega arith
  few env (m.Number at n) r w = omega arith
  few env (m.Char at n) r w = omega arith
  few env (m.Text at ts) r w = omega (arith, some_texts ts (closes at ∷ r) w)
  few env (m.Paren at a) r w = omega (arith, few _ a (token (mark t.RParen) ∷ closes at ∷ r) w)
  few env (m.Builtin at xs) r w = omega (arith, few_exprs _ xs (token (mark t.RParen) ∷ closes at ∷ r) (some_all _ xs w))

  few_exprs : (env : Env) (xs : Exprs) (r : List Piece) → WfAll env (bare_exprs xs) → Pays 0 0 (pieces_exprs xs r) r
  few_exprs env m.no_exprs r w = omega arith
  few_exprs env (m.expr a xs) r w = omega (arith, few _ a (pieces_more_exprs xs r) w.1, more_exprs _ xs r w.2)

  more_exprs : (env : Env) (xs : Exprs) (r : List Piece) → WfAll env (bare_exprs xs) → Pays 0 0 (pieces_more_exprs xs r) r
  more_exprs env m.no_exprs r w = omega arith
  more_exprs env (m.expr a xs) r w = omega (arith, few _ a (pieces_more_exprs xs r) w.1, more_exprs _ xs r w.2)

  few_maybe : (env : Env) (l : ℕ) (x : MaybeExpr) (r : List Piece) → WfMaybe env (bare_maybe x) l → Pays 0 0 (pieces_maybe x r) r
  few_maybe env l m.no_expr r w = omega arith
  few_maybe env l (m.some_expr a) r w = few _ a r w.1

  few_value : (env : Env) (l : ℕ) (x : MaybeExpr) (r : List Piece) → WfMaybe env (bare_maybe x) l → Pays 0 0 (pieces_value x r) r
  few_value env l m.no_expr r w = omega arith
  few_value env l (m.some_expr a) r w = omega (arith, few _ a r w.1)

  few_specs : (env : Env) (seen : Bool) (ss : Specs) (r : List Piece) → WfSpecs env seen (bare_specs ss) → Pays (spare ss) 0 (pieces_specs ss r) r
  few_specs env seen m.no_specs r w = omega arith
  few_specs env seen (m.Keyword x ss) r w = omega (arith, few_specs _ _ ss r w.1)
  few_specs env seen (m.Typedef n ss) r w = omega (arith, few_specs _ _ ss r w.3)
  few_specs env seen (m.attribute a ss) r w = omega (arith, few_attribute a (pieces_specs ss r) w.0, few_specs _ _ ss r w.1)
  few_specs env seen (m.Record at is_union tag b ss) r w = omega (arith, few_tagged _ tag b (closes at ∷ pieces_specs ss r) w.1, few_specs _ _ ss r w.2)
  few_specs env seen (m.Enum at tag b ss) r w = omega (arith, few_list _ tag b (closes at ∷ pieces_specs ss r) w.1, few_specs _ _ ss r w.2)

  -- a tag or a body
  few_tagged : (env : Env) (tag : Option (List ℕ)) (b : MaybeFields) (r : List Piece) → WfBody env (tag ≡ None) (bare_body b) → Pays 1 0 (pieces_name tag (pieces_body b r)) r
  few_tagged env None m.no_body r w = absurd (w refl)
  few_tagged env (Some n) m.no_body r w = omega arith
  few_tagged env tag (m.body fs) r w =
      omega (arith, few_name tag (token (mark t.LBrace) ∷ pieces_fields fs (token (mark t.RBrace) ∷ r)), more_fields env fs (token (mark t.RBrace) ∷ r) (some_fields env fs w))

  few_list : (env : Env) (tag : Option (List ℕ)) (b : MaybeEnumerators) (r : List Piece) → WfList env (tag ≡ None) (bare_list b) → Pays 1 0 (pieces_name tag (pieces_list b r)) r
  few_list env None m.no_list r w = absurd (w refl)
  few_list env (Some n) m.no_list r w = omega arith
  few_list env tag (m.list es comma) r w =
      omega (
        arith,
        few_name tag (token (mark t.LBrace) ∷ pieces_enumerators es (pieces_comma_if comma (token (mark t.RBrace) ∷ r))),
        few_enumerators _ es (pieces_comma_if comma (token (mark t.RBrace) ∷ r)) w,
        few_comma_if comma (token (mark t.RBrace) ∷ r),
      )

  more_fields : (env : Env) (fs : Fields) (r : List Piece) → WfMoreFields env (bare_fields fs) → Pays 0 0 (pieces_fields fs r) r
  more_fields env m.no_fields r w = omega arith
  more_fields env (m.Field at ss ds fs) r w =
      omega (
        arith,
        few_specs _ _ ss (pieces_declarators ds (token (mark t.Semi) ∷ closes at ∷ pieces_fields fs r)) w.1,
        spare_one ss w.0,
        few_declarators _ _ ds (token (mark t.Semi) ∷ closes at ∷ pieces_fields fs r) w.2,
        more_fields _ fs r w.3,
      )

  few_declarators : (env : Env) (seen : Bool) (ds : Declarators) (r : List Piece) → WfDeclarators env seen (bare_declarators ds) → Pays 0 0 (pieces_declarators ds r) r
  few_declarators env seen m.no_declarators r w = absurd w
  few_declarators env seen (m.declarator d ds) r w =
      omega (arith, few_declarator _ d (pieces_more_declarators ds r) w.2, missing_none d w.0, more_declarators _ ds r w.3)

  more_declarators : (env : Env) (ds : Declarators) (r : List Piece) → WfMoreDeclarators env (bare_declarators ds) → Pays 0 0 (pieces_more_declarators ds r) r
  more_declarators env m.no_declarators r w = omega arith
  more_declarators env (m.declarator d ds) r w =
      omega (arith, few_declarator _ d (pieces_more_declarators ds r) w.1, missing_none d w.0, more_declarators _ ds r w.2)

  few_enumerators : (env : Env) (es : Enumerators) (r : List Piece) → WfEnumerators env (bare_enumerators es) → Pays 0 0 (pieces_enumerators es r) r
  few_enumerators env m.no_enumerators r w = absurd w
  few_enumerators env (m.Enumerator at n v es) r w = omega (arith, few_value _ _ v (closes at ∷ pieces_more_enumerators es r) w.1, more_enumerators _ es r w.2)

  more_enumerators : (env : Env) (es : Enumerators) (r : List Piece) → WfMoreEnumerators env (bare_enumerators es) → Pays 0 0 (pieces_more_enumerators es r) r
  more_enumerators env m.no_enumerators r w = omega arith
  more_enumerators env (m.Enumerator at n v es) r w = omega (arith, few_value _ _ v (closes at ∷ pieces_more_enumerators es r) w.1, more_enumerators _ es r w.2)

  few_abstract : (env : Env) (d : MaybeDeclarator) (r : List Piece) → WfAbstract env (bare_maybe_declarator d) → Pays 0 1 (pieces_maybe_declarator d r) r
  few_abstract env m.no_declarator r w = omega arith
  few_abstract env (m.some_declarator d) r w = omega (arith, few_declarator _ d r w.2, missing_one d)

  few_either : (env : Env) (seen : Bool) (d : MaybeDeclarator) (r : List Piece) → WfEither env seen (bare_maybe_declarator d) → Pays 0 1 (pieces_maybe_declarator d r) r
  few_either env seen m.no_declarator r w = omega arith
  few_either env seen (m.some_declarator d) r w = omega (arith, few_declarator _ d r w.2, missing_one d)

  few_declarator : (env : Env) (d : Declarator) (r : List Piece) → WfDeclarator env (bare_declarator d) → Pays 0 (missing d) (pieces_declarator d r) r
  few_declarator env (m.PointerTo at qs d) r w = omega (arith, few_words qs (pieces_declarator d (closes at ∷ r)), few_declarator _ d (closes at ∷ r) w.1)
  few_declarator env (m.Declared at None) r w = omega arith
  few_declarator env (m.Declared at (Some n)) r w = omega arith
  few_declarator env (m.Group at d) r w = omega (arith, few_declarator _ d (token (mark t.RParen) ∷ closes at ∷ r) w.2)
  few_declarator env (m.ArrayOf at d n) r w =
      omega (arith, few_declarator _ d (token (mark t.LBracket) ∷ pieces_maybe n (token (mark t.RBracket) ∷ closes at ∷ r)) w.1, few_maybe _ _ n (token (mark t.RBracket) ∷ closes at ∷ r) w.2)
  few_declarator env (m.FunctionOf at d ps) r w =
      omega (arith, few_declarator _ d (token (mark t.LParen) ∷ pieces_params ps (token (mark t.RParen) ∷ closes at ∷ r)) w.1, few_params _ ps (token (mark t.RParen) ∷ closes at ∷ r) w.2)

  few_params : (env : Env) (ps : Params) (r : List Piece) → WfParams env (bare_params ps) → Pays 0 1 (pieces_params ps r) r
  few_params env m.no_params r w = omega arith
  few_params env (m.Param at ss d ps) r w =
      omega (
        arith,
        few_specs _ _ ss (pieces_maybe_declarator d (closes at ∷ pieces_more_params ps r)) w.1,
        spare_one ss w.0,
        few_either _ _ d (closes at ∷ pieces_more_params ps r) w.2,
        more_params _ ps r w.3,
      )

  more_params : (env : Env) (ps : Params) (r : List Piece) → WfParams env (bare_params ps) → Pays 0 0 (pieces_more_params ps r) r
  more_params env m.no_params r w = omega arith
  more_params env (m.Param at ss d ps) r w =
      omega (
        arith,
        few_specs _ _ ss (pieces_maybe_declarator d (closes at ∷ pieces_more_params ps r)) w.1,
        spare_one ss w.0,
        few_either _ _ d (closes at ∷ pieces_more_params ps r) w.2,
        more_params _ ps r w.3,
      )

-- ---- declarations

mutual
  few_init : (env : Env) (i : Init) (r : List Piece) → WfInit env (bare_init i) → Pays 0 0 (pieces_init i r) r
  few_init env (m.Plain a) r w = few _ a r w.1
  few_init env (m.Braces at is comma) r w =
      omega (arith, few_inits _ is (pieces_comma_if comma (token (mark t.RBrace) ∷ closes at ∷ r)) w, few_comma_if comma (token (mark t.RBrace) ∷ closes at ∷ r))

  few_inits : (env : Env) (is : Inits) (r : List Piece) → WfInits env (bare_inits is) → Pays 0 0 (pieces_inits is r) r
  few_inits env m.no_inits r w = absurd w
  few_inits env (m.init i is) r w = omega (arith, few_init _ i (pieces_more_inits is r) w.0, more_inits _ is r w.1)

  more_inits : (env : Env) (is : Inits) (r : List Piece) → WfMoreInits env (bare_inits is) → Pays 0 0 (pieces_more_inits is r) r
  more_inits env m.no_inits r w = omega arith
  more_inits env (m.init i is) r w = omega (arith, few_init _ i (pieces_more_inits is r) w.0, more_inits _ is r w.1)

few_maybe_init : (env : Env) (i : MaybeInit) (r : List Piece) → WfMaybeInit env (bare_maybe_init i) → Pays 0 0 (pieces_maybe_init i r) r
few_maybe_init env m.no_init r w = omega arith
few_maybe_init env (m.some_init i) r w = omega (arith, few_init _ i r w)

-- an item's own node is paid by the comma or the semicolon behind it
few_item : (env env2 : Env) (i : Item) (r : List Piece) → IsSome (declared_name (bare_declarator i.declarator)) → WfDeclarator env (bare_declarator i.declarator)
    → AllByRecursion WfAttribute (map bare_attribute i.attributes) → WfMaybeInit env2 (bare_maybe_init i.init) → Pays 0 1 (pieces_item i r) r
few_item env env2 i r named w a v =
    omega (
      arith,
      few_declarator _ i.declarator (pieces_all pieces_attribute i.attributes (pieces_maybe_init i.init (closes i.at ∷ r))) w,
      missing_none i.declarator named,
      few_attributes i.attributes (pieces_maybe_init i.init (closes i.at ∷ r)) a,
      few_maybe_init _ i.init (closes i.at ∷ r) v,
    )

more_items : (env : Env) (ss : u.Specs) (seen : Bool) (is : List Item) (r : List Piece) → WfItems env ss seen (map bare_item is) → Pays 0 0 (pieces_more pieces_item is r) r
more_items env ss seen [] r w = omega arith
more_items env ss seen (i ∷ is) r w =
    omega (arith, few_item _ _ i (pieces_more pieces_item is r) w.0 w.2 w.3 w.4, more_items (after_declarator ss (bare_declarator i.declarator) env) ss true is r w.5)

few_items : (env : Env) (ss : u.Specs) (seen : Bool) (is : List Item) (r : List Piece) → WfItems env ss seen (map bare_item is) → Pays 0 1 (pieces_commas pieces_item is r) r
few_items env ss seen [] r w = omega arith
few_items env ss seen (i ∷ is) r w =
    omega (arith, few_item _ _ i (pieces_more pieces_item is r) w.0 w.2 w.3 w.4, more_items (after_declarator ss (bare_declarator i.declarator) env) ss true is r w.5)

few_declaration : (env : Env) (d : Declaration) (r : List Piece) → WfDeclaration env (bare_declaration d) → Pays 0 0 (pieces_declaration d r) r
few_declaration env d r w =
    omega (
      arith,
      few_specs _ _ d.specs (pieces_commas pieces_item d.items (token (mark t.Semi) ∷ closes d.at ∷ r)) w.1,
      spare_one d.specs w.0,
      few_items env (bare_specs d.specs) (specified false (bare_specs d.specs)) d.items (token (mark t.Semi) ∷ closes d.at ∷ r) w.2,
    )

few_first : (env : Env) (f : First) (r : List Piece) → WfFirst env (bare_first f) → Pays 0 0 (pieces_first f r) r
few_first env (m.FirstDeclaration d) r w = few_declaration env d r w
few_first env (m.FirstExpr e) r w = omega (arith, few_maybe _ _ e (token (mark t.Semi) ∷ r) w)

-- ---- statements

mutual
  few_stmt : (env : Env) (s : Stmt) (r : List Piece) → WfStmt env (bare_stmt s) → Pays 0 0 (pieces_stmt s r) r
  few_stmt env (m.Block at is) r w = omega (arith, few_block env is (token (mark t.RBrace) ∷ closes at ∷ r) w)
  few_stmt env (m.ExprStmt at e) r w = omega (arith, few_maybe _ _ e (token (mark t.Semi) ∷ closes at ∷ r) w)
  few_stmt env (m.If at c a) r w = omega (arith, few _ c (token (mark t.RParen) ∷ pieces_stmt a (closes at ∷ r)) w.0, few_stmt env a (closes at ∷ r) w.1)
  few_stmt env (m.IfElse at c a b) r w =
      omega (
        arith,
        few _ c (token (mark t.RParen) ∷ pieces_stmt a (token (word t.KElse) ∷ pieces_stmt b (closes at ∷ r))) w.0,
        few_stmt env a (token (word t.KElse) ∷ pieces_stmt b (closes at ∷ r)) w.1,
        few_stmt (after_stmt (bare_stmt a) env) b (closes at ∷ r) w.3,
      )
  few_stmt env (m.While at c a) r w = omega (arith, few _ c (token (mark t.RParen) ∷ pieces_stmt a (closes at ∷ r)) w.0, few_stmt env a (closes at ∷ r) w.1)
  few_stmt env (m.Do at a c) r w =
      omega (
        arith,
        few_stmt env a (token (word t.KWhile) ∷ token (mark t.LParen) ∷ pieces c (token (mark t.RParen) ∷ token (mark t.Semi) ∷ closes at ∷ r)) w.0,
        few _ c (token (mark t.RParen) ∷ token (mark t.Semi) ∷ closes at ∷ r) w.1,
      )
  few_stmt env (m.For at i c e a) r w =
      omega (
        arith,
        few_first env i (pieces_maybe c (token (mark t.Semi) ∷ pieces_maybe e (token (mark t.RParen) ∷ pieces_stmt a (closes at ∷ r)))) w.0,
        few_maybe _ _ c (token (mark t.Semi) ∷ pieces_maybe e (token (mark t.RParen) ∷ pieces_stmt a (closes at ∷ r))) w.1,
        few_maybe _ _ e (token (mark t.RParen) ∷ pieces_stmt a (closes at ∷ r)) w.2,
        few_stmt (after_first (bare_first i) env) a (closes at ∷ r) w.3,
      )
  few_stmt env (m.Break at) r w = omega arith
  few_stmt env (m.Continue at) r w = omega arith
  few_stmt env (m.Return at e) r w = omega (arith, few_maybe _ _ e (token (mark t.Semi) ∷ closes at ∷ r) w)

  few_block : (env : Env) (is : BlockItems) (r : List Piece) → WfBlock env (bare_block is) → Pays 0 0 (pieces_block is r) r
  few_block env m.no_items r w = omega arith
  few_block env (m.declared d is) r w = omega (arith, few_declaration env d (pieces_block is r) w.0, few_block (after_declaration (bare_declaration d) env) is r w.1)
  few_block env (m.statement s is) r w = omega (arith, few_stmt env s (pieces_block is r) w.0, few_block (after_stmt (bare_stmt s) env) is r w.1)

-- ---- the unit

few_external : (env : Env) (x : External) (r : List Piece) → WfExternal env (bare_external x) → Pays 0 0 (pieces_external x r) r
few_external env (m.Declares d) r w = few_declaration env d r w
few_external env (m.Definition at ss d body is) r w =
    omega (
      arith,
      few_specs _ _ ss (pieces_declarator d (opens body ∷ token (mark t.LBrace) ∷ pieces_block is (token (mark t.RBrace) ∷ closes body ∷ closes at ∷ r))) w.1,
      spare_one ss w.0,
      few_declarator _ d (opens body ∷ token (mark t.LBrace) ∷ pieces_block is (token (mark t.RBrace) ∷ closes body ∷ closes at ∷ r)) w.4,
      missing_none d w.2,
      few_block (after_declarator (bare_specs ss) (bare_declarator d) env) is (token (mark t.RBrace) ∷ closes body ∷ closes at ∷ r) w.6,
    )

few_unit : (env : Env) (u : List External) → WfUnit env (bare_unit u) → Pays 0 0 (pieces_unit u []) []
few_unit env [] w = omega arith
few_unit env (x ∷ xs) w = omega (arith, few_external env x (pieces_unit xs []) w.0, few_unit (after_external (bare_external x) env) xs w.1)

tokens_are : (ps : List Piece) → tokens ps ≡ length (tokens_of ps)
tokens_are [] = refl
tokens_are (token t ∷ ps) = ap suc (tokens_are ps)
tokens_are (opens at ∷ ps) = tokens_are ps
tokens_are (closes at ∷ ps) = tokens_are ps
tokens_are (absent at ∷ ps) = tokens_are ps

nodes_are : (ps : List Piece) → nodes ps ≡ length (numbers_of ps)
nodes_are [] = refl
nodes_are (token t ∷ ps) = nodes_are ps
nodes_are (opens at ∷ ps) = nodes_are ps
nodes_are (closes at ∷ ps) = ap suc (nodes_are ps)
nodes_are (absent at ∷ ps) = ap suc (nodes_are ps)

pub nodes_are_few : NodesAreFew
nodes_are_few u w =
    let n = nodes_are (pieces_unit u []) in
    let t = tokens_are (pieces_unit u []) in
    let k = ap length (kept_unit u) in
    omega (arith, few_unit [] u w, n, t, k)

low : (b n : ℕ) (ps : List Piece) → Numbered n ps → n + length (numbers_of ps) ≤ b → All (λ i. i < b) (numbers_of ps)
low b n [] w h = All-nil (λ i. i < b)
low b n (token t ∷ ps) w h = low b n ps w h
low b n (opens at ∷ ps) w h = low b n ps w h
low b n (closes at ∷ ps) w h = let e = w.0 in All-cons (λ i. i < b) at.id (numbers_of ps) (omega (arith, e, h)) (low b (suc n) ps w.1 (omega (arith, h)))
low b n (absent at ∷ ps) w h = let e = w.0 in All-cons (λ i. i < b) at.id (numbers_of ps) (omega (arith, e, h)) (low b (suc n) ps w.1 (omega (arith, h)))

pub numbers_are_low : NumbersAreLow
numbers_are_low u w k = let h = nodes_are_few u w in low (length (toks (bare_unit u))) 0 (pieces_unit u []) k (omega (arith, h))

pub nodes_are_as_many : NodesAreAsMany
nodes_are_as_many = (refl, refl)
