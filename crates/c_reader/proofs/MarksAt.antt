-- What holds of a state: the pieces of what was read lead from z, where the unit begins, to where the reader is.
use Rattle.std.proofs.Common.{◌≡◌, ℕ, false, List, ◌∷◌, Option, Some, None}
use Rattle.tok_base.specs.declared.token.Span.{Span}
use Rattle.c_tree.specs.Tok as g
use Rattle.c_tree.specs.Marks.{binary_mark, assign_mark, prefix_mark, record_word}
use Rattle.c_tree.specs.Marked.{External}
use Rattle.c_tree.specs.Pieces.{Piece, token, pieces_all, pieces_commas, pieces_name, pieces_text, pieces_word, pieces_argument, pieces_entry, pieces_attribute, pieces, pieces_maybe, pieces_type, pieces_specs, pieces_fields, pieces_declarator, pieces_init, pieces_item, pieces_first, pieces_stmt, pieces_block, pieces_unit}
use Rattle.c_reader.specs.Symbol.{tagged_word, member_mark}
use Rattle.c_reader.specs.Begin.{is_empty}
use Rattle.c_reader.specs.MarkedParts.{SpecsRead, ArgumentRead, number_read, text_read, specs_of, fields_of, items_of}
use Rattle.c_reader.specs.MarkedInside.{InStmt, InBody, in_block, in_then, in_else, in_while, in_do, in_for, of_definition, of_stmt, InDeclaration, of_external, of_block, of_for, InItems, ItemRead, InInit, of_item, in_braces, Condition, of_if, of_while, of_do, Part, plain, returned, condition, for_first, for_condition, for_step, Operand, of_prefix, of_sizeof, of_cast, of_binary, of_assign, of_comma, of_cond, Callee, of_function, Bracket, of_paren, of_index, of_args, of_builtin, of_middle, TypePlace, cast_type, sizeof_type, InExpr, in_operand, in_bracket, in_stmt, in_init, in_value, in_array, InDeclarator, in_pointer, in_group, in_item, in_field, in_param, in_type, InSpecs, of_declaration, of_field, of_param, of_type, InFields, in_fields, InEnum, in_enum, InParams, in_params, InAttribute, of_specs, of_read, AttributeMode, attribute_word, attribute_opened, entries_opened, want_entry, after_entry_name, arguments_opened, want_argument, after_argument, after_entry, attribute_closing, SpecsMode, in_specs, after_tagged, after_tag, want_field, want_enumerator, after_enumerator, want_param, DeclaratorMode, want_declarator, after_star, declarator_opened, after_declarator, array_opened, params_opened, ExprMode, want_expr, after_expr, after_text, opened, after_sizeof, sizeof_opened, args_opened, after_builtin, want_member, StmtMode, want_stmt, after_stmt, want_paren, after_for, for_opened, want_condition, want_step, want_semi, Unended, broken, continued, done_while, after_return, Mode, want_external, in_attribute, specs, declarator, after_attributes, want_init, after_init, expr, stmt, Next}
use Rattle.c_reader.proofs.Marks.{Spot, spot, Did, Opened, Then, pieces_done, pieces_enumerator, pieces_param}

-- ---- statements and declarations

abbrev pub AtUnit : Spot → List External → Spot → Type 0
AtUnit z done x = Did (pieces_unit done) z x

abbrev mutual
  pub AtStmt : Spot → InStmt → Spot → Type 0
  AtStmt z (in_block node is k) x = Opened (AtBody z k) node.from (λ ps. token (g.mark g.LBrace) ∷ pieces_block (items_of is) ps) x
  AtStmt z (in_then node c k) x = Opened (AtStmt z k) node.from (λ ps. token (g.word g.KIf) ∷ token (g.mark g.LParen) ∷ pieces c (token (g.mark g.RParen) ∷ ps)) x
  AtStmt z (in_else node c a k) x =
      Opened (AtStmt z k) node.from (λ ps. token (g.word g.KIf) ∷ token (g.mark g.LParen) ∷ pieces c (token (g.mark g.RParen) ∷ pieces_stmt a (token (g.word g.KElse) ∷ ps))) x
  AtStmt z (in_while node c k) x = Opened (AtStmt z k) node.from (λ ps. token (g.word g.KWhile) ∷ token (g.mark g.LParen) ∷ pieces c (token (g.mark g.RParen) ∷ ps)) x
  AtStmt z (in_do node k) x = Opened (AtStmt z k) node.from (λ ps. token (g.word g.KDo) ∷ ps) x
  AtStmt z (in_for node f c e k) x =
      Opened (AtStmt z k) node.from
      (λ ps. token (g.word g.KFor) ∷ token (g.mark g.LParen) ∷ pieces_first f (pieces_maybe c (token (g.mark g.Semi) ∷ pieces_maybe e (token (g.mark g.RParen) ∷ ps)))) x

  pub AtBody : Spot → InBody → Spot → Type 0
  AtBody z (of_definition deep node done ss d) x = Opened (AtUnit z done) node.from (λ ps. pieces_specs ss (pieces_declarator d ps)) x
  AtBody z (of_stmt k) x = AtStmt z k x

abbrev pub AtDeclaration : Spot → InDeclaration → Spot → Type 0
AtDeclaration z (of_external deep done) x = AtUnit z done x
AtDeclaration z (of_block node is k) x = Opened (AtBody z k) node.from (λ ps. token (g.mark g.LBrace) ∷ pieces_block (items_of is) ps) x
AtDeclaration z (of_for node k) x = Opened (AtStmt z k) node.from (λ ps. token (g.word g.KFor) ∷ token (g.mark g.LParen) ∷ ps) x

abbrev pub AtItems : Spot → InItems → Spot → Type 0
AtItems z q x = Opened (AtDeclaration z q.place) q.node.from (λ ps. pieces_specs q.specs (pieces_done pieces_item q.items ps)) x

abbrev pub AtItemRead : Spot → ItemRead → Spot → Type 0
AtItemRead z v x = Opened (AtItems z v.before) v.node.from (λ ps. pieces_declarator v.declarator (pieces_all pieces_attribute v.attributes ps)) x

abbrev pub AtInit : Spot → InInit → Spot → Type 0
AtInit z (of_item v) x = Opened (AtItems z v.before) v.node.from (λ ps. pieces_declarator v.declarator (pieces_all pieces_attribute v.attributes (token (g.mark g.Assign) ∷ ps))) x
AtInit z (in_braces node is k) x = Opened (AtInit z k) node.from (λ ps. token (g.mark g.LBrace) ∷ pieces_done pieces_init is ps) x

abbrev pub pieces_condition : Condition → List Piece → List Piece
pieces_condition of_if ps = token (g.word g.KIf) ∷ ps
pieces_condition of_while ps = token (g.word g.KWhile) ∷ ps
pieces_condition (of_do a) ps = token (g.word g.KDo) ∷ pieces_stmt a (token (g.word g.KWhile) ∷ ps)

abbrev pub pieces_part : Part → List Piece → List Piece
pieces_part plain ps = ps
pieces_part returned ps = token (g.word g.KReturn) ∷ ps
pieces_part (condition c) ps = pieces_condition c (token (g.mark g.LParen) ∷ ps)
pieces_part for_first ps = token (g.word g.KFor) ∷ token (g.mark g.LParen) ∷ ps
pieces_part (for_condition f) ps = token (g.word g.KFor) ∷ token (g.mark g.LParen) ∷ pieces_first f ps
pieces_part (for_step f c) ps = token (g.word g.KFor) ∷ token (g.mark g.LParen) ∷ pieces_first f (pieces_maybe c (token (g.mark g.Semi) ∷ ps))

-- ---- expressions, specs and declarators

abbrev pub pieces_operand : Operand → List Piece → List Piece
pieces_operand (of_prefix o) ps = token (g.mark (prefix_mark o)) ∷ ps
pieces_operand of_sizeof ps = token (g.word g.KSizeof) ∷ ps
pieces_operand (of_cast m) ps = token (g.mark g.LParen) ∷ pieces_type m (token (g.mark g.RParen) ∷ ps)
pieces_operand (of_binary l o) ps = pieces l (token (g.mark (binary_mark o)) ∷ ps)
pieces_operand (of_assign l o) ps = pieces l (token (g.mark (assign_mark o)) ∷ ps)
pieces_operand (of_comma l) ps = pieces l (token (g.mark g.Com) ∷ ps)
pieces_operand (of_cond c a) ps = pieces c (token (g.mark g.Quest) ∷ pieces a (token (g.mark g.Colon) ∷ ps))

abbrev pub pieces_callee : Callee → List Piece → List Piece
pieces_callee (of_function f) ps = pieces f ps
pieces_callee of_builtin ps = token (g.word g.KBuiltin) ∷ ps

abbrev pub pieces_bracket : Bracket → List Piece → List Piece
pieces_bracket of_paren ps = token (g.mark g.LParen) ∷ ps
pieces_bracket (of_index l) ps = pieces l (token (g.mark g.LBracket) ∷ ps)
pieces_bracket (of_args c xs) ps = pieces_callee c (token (g.mark g.LParen) ∷ pieces_done pieces xs ps)
pieces_bracket (of_middle c) ps = pieces c (token (g.mark g.Quest) ∷ ps)

abbrev pub pieces_place : TypePlace → List Piece → List Piece
pieces_place cast_type ps = token (g.mark g.LParen) ∷ ps
pieces_place sizeof_type ps = token (g.word g.KSizeof) ∷ token (g.mark g.LParen) ∷ ps

abbrev mutual
  pub AtExpr : Spot → InExpr → Spot → Type 0
  AtExpr z (in_operand node o k) x = Opened (AtExpr z k) node.from (pieces_operand o) x
  AtExpr z (in_bracket node o k) x = Opened (AtExpr z k) node.from (pieces_bracket o) x
  AtExpr z (in_stmt node o k) x = Opened (AtStmt z k) node.from (pieces_part o) x
  AtExpr z (in_init k) x = AtInit z k x
  AtExpr z (in_value node n k) x = Opened (AtEnum z k) node.from (λ ps. token (g.name n) ∷ token (g.mark g.Assign) ∷ ps) x
  AtExpr z (in_array node d k) x = Opened (AtDeclarator z k) node.from (λ ps. pieces_declarator d (token (g.mark g.LBracket) ∷ ps)) x

  pub AtDeclarator : Spot → InDeclarator → Spot → Type 0
  AtDeclarator z (in_pointer node qs k) x = Opened (AtDeclarator z k) node.from (λ ps. token (g.mark g.Star) ∷ pieces_all pieces_word qs ps) x
  AtDeclarator z (in_group node k) x = Opened (AtDeclarator z k) node.from (λ ps. token (g.mark g.LParen) ∷ ps) x
  AtDeclarator z (in_item q) x = AtItems z q x
  AtDeclarator z (in_field node f ss ds) x = Opened (AtFields z f) node.from (λ ps. pieces_specs ss (pieces_done pieces_declarator ds ps)) x
  AtDeclarator z (in_param node k ss) x = Opened (AtParams z k) node.from (pieces_specs ss) x
  AtDeclarator z (in_type node inner c k ss) x = Opened (Opened (AtExpr z k) node.from (pieces_place c)) inner.from (pieces_specs ss) x

  pub AtSpecs : Spot → InSpecs → Spot → Type 0
  AtSpecs z (of_declaration q) x = AtDeclaration z q x
  AtSpecs z (of_field f) x = AtFields z f x
  AtSpecs z (of_param k) x = AtParams z k x
  AtSpecs z (of_type node c k) x = Opened (AtExpr z k) node.from (pieces_place c) x

  pub AtFields : Spot → InFields → Spot → Type 0
  AtFields z (in_fields node is_union tag fs ss k) x =
      Opened (Opened (AtSpecs z k) ss.node.from (pieces_specs (specs_of ss.specs))) node.from
      (λ ps. token (g.word (record_word is_union)) ∷ pieces_name tag (token (g.mark g.LBrace) ∷ pieces_fields (fields_of fs) ps)) x

  pub AtEnum : Spot → InEnum → Spot → Type 0
  AtEnum z (in_enum node tag es ss k) x =
      Opened (Opened (AtSpecs z k) ss.node.from (pieces_specs (specs_of ss.specs))) node.from
      (λ ps. token (g.word g.KEnum) ∷ pieces_name tag (token (g.mark g.LBrace) ∷ pieces_done pieces_enumerator es ps)) x

  pub AtParams : Spot → InParams → Spot → Type 0
  AtParams z (in_params node d qs k) x = Opened (AtDeclarator z k) node.from (λ ps. pieces_declarator d (token (g.mark g.LParen) ∷ pieces_done pieces_param qs ps)) x

abbrev pub AtSpecsRead : Spot → SpecsRead → InSpecs → Spot → Type 0
AtSpecsRead z ss k x = Opened (AtSpecs z k) ss.node.from (pieces_specs (specs_of ss.specs)) x

abbrev pub AtAttribute : Spot → InAttribute → Spot → Type 0
AtAttribute z (of_specs ss k) x = AtSpecsRead z ss k x
AtAttribute z (of_read v) x = AtItemRead z v x

-- ---- modes

abbrev pub pieces_entries : List Piece → List Piece
pieces_entries ps = token (g.word g.KAttribute) ∷ token (g.mark g.LParen) ∷ token (g.mark g.LParen) ∷ ps

abbrev pub pieces_read : ArgumentRead → List Piece → List Piece
pieces_read (number_read v) ps = token (g.number v) ∷ ps
pieces_read (text_read vs) ps = pieces_all pieces_text vs ps

abbrev pub AtAttributeMode : Spot → ℕ → InAttribute → AttributeMode → Spot → Type 0
AtAttributeMode z from a attribute_word x = Opened (AtAttribute z a) from (λ ps. token (g.word g.KAttribute) ∷ ps) x
AtAttributeMode z from a attribute_opened x = Opened (AtAttribute z a) from (λ ps. token (g.word g.KAttribute) ∷ token (g.mark g.LParen) ∷ ps) x
AtAttributeMode z from a entries_opened x = Opened (AtAttribute z a) from (λ ps. pieces_entries ps) x
AtAttributeMode z from a (want_entry es) x = Opened (AtAttribute z a) from (λ ps. pieces_entries (pieces_done pieces_entry es ps)) x
AtAttributeMode z from a (after_entry_name es n) x = Opened (AtAttribute z a) from (λ ps. pieces_entries (pieces_done pieces_entry es (token (g.name n) ∷ ps))) x
AtAttributeMode z from a (arguments_opened es n) x =
    Opened (AtAttribute z a) from (λ ps. pieces_entries (pieces_done pieces_entry es (token (g.name n) ∷ token (g.mark g.LParen) ∷ ps))) x
AtAttributeMode z from a (want_argument es n xs) x =
    Opened (AtAttribute z a) from (λ ps. pieces_entries (pieces_done pieces_entry es (token (g.name n) ∷ token (g.mark g.LParen) ∷ pieces_done pieces_argument xs ps))) x
AtAttributeMode z from a (after_argument v_from es n xs v) x =
    Opened (Opened (AtAttribute z a) from (λ ps. pieces_entries (pieces_done pieces_entry es (token (g.name n) ∷ token (g.mark g.LParen) ∷ pieces_done pieces_argument xs ps))))
    v_from (pieces_read v) x
AtAttributeMode z from a (after_entry es) x = (is_empty es ≡ false) × Opened (AtAttribute z a) from (λ ps. pieces_entries (pieces_commas pieces_entry es ps)) x
AtAttributeMode z from a (attribute_closing es) x = Opened (AtAttribute z a) from (λ ps. pieces_entries (pieces_commas pieces_entry es (token (g.mark g.RParen) ∷ ps))) x

abbrev pub AtSpecsMode : Spot → SpecsMode → Spot → Type 0
AtSpecsMode z (in_specs ss k) x = AtSpecsRead z ss k x
AtSpecsMode z (after_tagged node t ss k) x = Opened (AtSpecsRead z ss k) node.from (λ ps. token (g.word (tagged_word t)) ∷ ps) x
AtSpecsMode z (after_tag node t n ss k) x = Opened (AtSpecsRead z ss k) node.from (λ ps. token (g.word (tagged_word t)) ∷ token (g.name n) ∷ ps) x
AtSpecsMode z (want_field f) x = AtFields z f x
AtSpecsMode z (want_enumerator k) x = AtEnum z k x
AtSpecsMode z (after_enumerator node n k) x = Opened (AtEnum z k) node.from (λ ps. token (g.name n) ∷ ps) x
AtSpecsMode z (want_param k) x = AtParams z k x

abbrev pub AtDeclaratorMode : Spot → DeclaratorMode → Spot → Type 0
AtDeclaratorMode z (want_declarator k) x = AtDeclarator z k x
AtDeclaratorMode z (after_star node qs k) x = Opened (AtDeclarator z k) node.from (λ ps. token (g.mark g.Star) ∷ pieces_all pieces_word qs ps) x
AtDeclaratorMode z (declarator_opened node k) x = Opened (AtDeclarator z k) node.from (λ ps. token (g.mark g.LParen) ∷ ps) x
AtDeclaratorMode z (after_declarator had k d) x = Opened (AtDeclarator z k) had.from (pieces_declarator d) x
AtDeclaratorMode z (array_opened node d k) x = Opened (AtDeclarator z k) node.from (λ ps. pieces_declarator d (token (g.mark g.LBracket) ∷ ps)) x
AtDeclaratorMode z (params_opened node d k) x = Opened (AtDeclarator z k) node.from (λ ps. pieces_declarator d (token (g.mark g.LParen) ∷ ps)) x

abbrev pub AtExprMode : Spot → ExprMode → Spot → Type 0
AtExprMode z (want_expr k) x = AtExpr z k x
AtExprMode z (after_expr had k a) x = Opened (AtExpr z k) had.from (pieces a) x
AtExprMode z (after_text from k ns) x = Opened (AtExpr z k) from (pieces_all pieces_text ns) x
AtExprMode z (opened node k) x = Opened (AtExpr z k) node.from (λ ps. token (g.mark g.LParen) ∷ ps) x
AtExprMode z (after_sizeof node k) x = Opened (AtExpr z k) node.from (λ ps. token (g.word g.KSizeof) ∷ ps) x
AtExprMode z (sizeof_opened node p_from k) x = Opened (Opened (AtExpr z k) node.from (λ ps. token (g.word g.KSizeof) ∷ ps)) p_from (λ ps. token (g.mark g.LParen) ∷ ps) x
AtExprMode z (args_opened node f k) x = Opened (AtExpr z k) node.from (λ ps. pieces f (token (g.mark g.LParen) ∷ ps)) x
AtExprMode z (after_builtin node k) x = Opened (AtExpr z k) node.from (λ ps. token (g.word g.KBuiltin) ∷ ps) x
AtExprMode z (want_member node a c k) x = Opened (AtExpr z k) node.from (λ ps. pieces a (token (g.mark (member_mark c)) ∷ ps)) x

abbrev pub pieces_unended : Unended → List Piece → List Piece
pieces_unended broken ps = token (g.word g.KBreak) ∷ ps
pieces_unended continued ps = token (g.word g.KContinue) ∷ ps
pieces_unended (done_while a c) ps = token (g.word g.KDo) ∷ pieces_stmt a (token (g.word g.KWhile) ∷ token (g.mark g.LParen) ∷ pieces c (token (g.mark g.RParen) ∷ ps))

abbrev pub AtStmtMode : Spot → StmtMode → Spot → Type 0
AtStmtMode z (want_stmt k) x = AtStmt z k x
AtStmtMode z (after_stmt deep k a) x = Then (AtStmt z k) (pieces_stmt a) x
AtStmtMode z (want_paren node c k) x = Opened (AtStmt z k) node.from (pieces_condition c) x
AtStmtMode z (after_for node k) x = Opened (AtStmt z k) node.from (λ ps. token (g.word g.KFor) ∷ ps) x
AtStmtMode z (for_opened node k) x = Opened (AtStmt z k) node.from (λ ps. token (g.word g.KFor) ∷ token (g.mark g.LParen) ∷ ps) x
AtStmtMode z (want_condition node f k) x = Opened (AtStmt z k) node.from (pieces_part (for_condition f)) x
AtStmtMode z (want_step node f c k) x = Opened (AtStmt z k) node.from (pieces_part (for_step f c)) x
AtStmtMode z (want_semi node a k) x = Opened (AtStmt z k) node.from (pieces_unended a) x
AtStmtMode z (after_return node k) x = Opened (AtStmt z k) node.from (λ ps. token (g.word g.KReturn) ∷ ps) x

abbrev pub At : Spot → Mode → Spot → Type 0
At z (want_external deep done) x = AtUnit z done x
At z (in_attribute node c a) x = AtAttributeMode z node.from a c x
At z (specs c) x = AtSpecsMode z c x
At z (declarator c) x = AtDeclaratorMode z c x
At z (after_attributes v) x = AtItemRead z v x
At z (want_init k) x = AtInit z k x
At z (after_init deep k v) x = Then (AtInit z k) (pieces_init v) x
At z (expr c) x = AtExprMode z c x
At z (stmt c) x = AtStmtMode z c x

-- the state after a token that ends at e
abbrev pub Good : Spot → ℕ → List Span → Option Next → Type 0
Good z e ss None = Unit {0}
Good z e ss (Some x) = At z x.mode (spot x.id e ss)
