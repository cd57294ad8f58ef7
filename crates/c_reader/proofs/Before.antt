-- The tokens before what is still to come.
use Rattle.std.proofs.Common.{List, [], ◌∷◌}
use Rattle.c_tree.specs.Tok as g
use Rattle.c_tree.specs.Tok.{Tok, name, text, word, mark}
use Rattle.c_tree.specs.Marks.{binary_mark, assign_mark, prefix_mark, record_word}
use Rattle.c_tree.specs.Put.{put, put_all, put_commas, put_name, put_word, put_argument, put_entry, put_attribute, put_maybe, put_specs, put_fields, put_value, put_maybe_declarator, put_declarator, put_init, put_item, put_first, put_stmt, put_block, put_unit}
use Rattle.c_reader.specs.Symbol.{tagged_word, member_mark}
use Rattle.c_reader.specs.Parts.{Enumerator, Param, specs_of, fields_of, items_of}
use Rattle.c_reader.specs.Inside.{InStmt, InBody, in_block, in_then, in_else, in_while, in_do, in_for, of_definition, of_stmt, InDeclaration, of_external, of_block, of_for, InItems, ItemRead, InInit, of_item, in_braces, Condition, of_if, of_while, of_do, Part, plain, returned, condition, for_first, for_condition, for_step, Operand, of_prefix, of_sizeof, of_cast, of_binary, of_assign, of_comma, of_cond, Callee, of_function, Bracket, of_paren, of_index, of_args, of_builtin, of_middle, TypePlace, cast_type, sizeof_type, InExpr, in_operand, in_bracket, in_stmt, in_init, in_value, in_array, InDeclarator, in_pointer, in_group, in_item, in_field, in_param, in_type, InSpecs, of_declaration, of_field, of_param, of_type, InFields, in_fields, InEnum, in_enum, InParams, in_params, InAttribute, of_specs, of_read, AttributeMode, attribute_word, attribute_opened, entries_opened, want_entry, after_entry_name, arguments_opened, want_argument, after_argument, after_entry, attribute_closing, SpecsMode, in_specs, after_tagged, after_tag, want_field, want_enumerator, after_enumerator, want_param, DeclaratorMode, want_declarator, after_star, declarator_opened, after_declarator, array_opened, params_opened, ExprMode, want_expr, after_expr, after_text, opened, after_sizeof, sizeof_opened, args_opened, after_builtin, want_member, StmtMode, want_stmt, after_stmt, want_paren, after_for, for_opened, want_condition, want_step, want_semi, Unended, broken, continued, done_while, after_return, Mode, want_external, in_attribute, specs, declarator, after_attributes, want_init, after_init, expr, stmt}

-- each with a comma behind it
abbrev pub put_done : {A : Type 0} → (A → List Tok → List Tok) → List A → List Tok → List Tok
put_done put [] r = r
put_done put (x ∷ xs) r = put x (mark g.Com ∷ put_done put xs r)

abbrev pub put_enumerator : Enumerator → List Tok → List Tok
put_enumerator e r = name e.name ∷ put_value e.value r

abbrev pub put_param : Param → List Tok → List Tok
put_param p r = put_specs p.specs (put_maybe_declarator p.declarator r)

-- ---- statements and declarations

abbrev mutual
  pub before_stmt : InStmt → List Tok → List Tok
  before_stmt (in_block is b) r = before_body b (mark g.LBrace ∷ put_block (items_of is) r)
  before_stmt (in_then c k) r = before_stmt k (word g.KIf ∷ mark g.LParen ∷ put c (mark g.RParen ∷ r))
  before_stmt (in_else c a k) r = before_stmt k (word g.KIf ∷ mark g.LParen ∷ put c (mark g.RParen ∷ put_stmt a (word g.KElse ∷ r)))
  before_stmt (in_while c k) r = before_stmt k (word g.KWhile ∷ mark g.LParen ∷ put c (mark g.RParen ∷ r))
  before_stmt (in_do k) r = before_stmt k (word g.KDo ∷ r)
  before_stmt (in_for i c e k) r = before_stmt k (word g.KFor ∷ mark g.LParen ∷ put_first i (put_maybe c (mark g.Semi ∷ put_maybe e (mark g.RParen ∷ r))))

  pub before_body : InBody → List Tok → List Tok
  before_body (of_definition done ss d) r = put_unit done (put_specs ss (put_declarator d r))
  before_body (of_stmt k) r = before_stmt k r

abbrev pub before_declaration : InDeclaration → List Tok → List Tok
before_declaration (of_external done) r = put_unit done r
before_declaration (of_block is b) r = before_body b (mark g.LBrace ∷ put_block (items_of is) r)
before_declaration (of_for k) r = before_stmt k (word g.KFor ∷ mark g.LParen ∷ r)

abbrev pub before_items : InItems → List Tok → List Tok
before_items q r = before_declaration q.place (put_specs q.specs (put_done put_item q.items r))

abbrev pub before_read : ItemRead → List Tok → List Tok
before_read x r = before_items x.before (put_declarator x.declarator (put_all put_attribute x.attributes r))

abbrev pub before_init : InInit → List Tok → List Tok
before_init (of_item x) r = before_read x (mark g.Assign ∷ r)
before_init (in_braces is k) r = before_init k (mark g.LBrace ∷ put_done put_init is r)

abbrev pub put_condition : Condition → List Tok → List Tok
put_condition of_if r = word g.KIf ∷ r
put_condition of_while r = word g.KWhile ∷ r
put_condition (of_do s) r = word g.KDo ∷ put_stmt s (word g.KWhile ∷ r)

abbrev pub put_part : Part → List Tok → List Tok
put_part plain r = r
put_part returned r = word g.KReturn ∷ r
put_part (condition c) r = put_condition c (mark g.LParen ∷ r)
put_part for_first r = word g.KFor ∷ mark g.LParen ∷ r
put_part (for_condition i) r = word g.KFor ∷ mark g.LParen ∷ put_first i r
put_part (for_step i c) r = word g.KFor ∷ mark g.LParen ∷ put_first i (put_maybe c (mark g.Semi ∷ r))

-- ---- expressions, specs and declarators

abbrev pub put_operand : Operand → List Tok → List Tok
put_operand (of_prefix o) r = mark (prefix_mark o) ∷ r
put_operand of_sizeof r = word g.KSizeof ∷ r
put_operand (of_cast ss d) r = mark g.LParen ∷ put_specs ss (put_maybe_declarator d (mark g.RParen ∷ r))
put_operand (of_binary l o) r = put l (mark (binary_mark o) ∷ r)
put_operand (of_assign l o) r = put l (mark (assign_mark o) ∷ r)
put_operand (of_comma l) r = put l (mark g.Com ∷ r)
put_operand (of_cond c b) r = put c (mark g.Quest ∷ put b (mark g.Colon ∷ r))

abbrev pub put_callee : Callee → List Tok → List Tok
put_callee (of_function f) r = put f r
put_callee of_builtin r = word g.KBuiltin ∷ r

abbrev pub put_bracket : Bracket → List Tok → List Tok
put_bracket of_paren r = mark g.LParen ∷ r
put_bracket (of_index l) r = put l (mark g.LBracket ∷ r)
put_bracket (of_args c xs) r = put_callee c (mark g.LParen ∷ put_done put xs r)
put_bracket (of_middle c) r = put c (mark g.Quest ∷ r)

abbrev pub put_type : TypePlace → List Tok → List Tok
put_type cast_type r = mark g.LParen ∷ r
put_type sizeof_type r = word g.KSizeof ∷ mark g.LParen ∷ r

abbrev mutual
  pub before_expr : InExpr → List Tok → List Tok
  before_expr (in_operand o k) r = before_expr k (put_operand o r)
  before_expr (in_bracket b k) r = before_expr k (put_bracket b r)
  before_expr (in_stmt p k) r = before_stmt k (put_part p r)
  before_expr (in_init k) r = before_init k r
  before_expr (in_value n e) r = before_enum e (name n ∷ mark g.Assign ∷ r)
  before_expr (in_array d k) r = before_declarator k (put_declarator d (mark g.LBracket ∷ r))

  pub before_declarator : InDeclarator → List Tok → List Tok
  before_declarator (in_pointer qs k) r = before_declarator k (mark g.Star ∷ put_all put_word qs r)
  before_declarator (in_group k) r = before_declarator k (mark g.LParen ∷ r)
  before_declarator (in_item q) r = before_items q r
  before_declarator (in_field f ss ds) r = before_fields f (put_specs ss (put_done put_declarator ds r))
  before_declarator (in_param p ss) r = before_params p (put_specs ss r)
  before_declarator (in_type p k ss) r = before_expr k (put_type p (put_specs ss r))

  pub before_specs : InSpecs → List Tok → List Tok
  before_specs (of_declaration q) r = before_declaration q r
  before_specs (of_field f) r = before_fields f r
  before_specs (of_param p) r = before_params p r
  before_specs (of_type p k) r = before_expr k (put_type p r)

  pub before_fields : InFields → List Tok → List Tok
  before_fields (in_fields is_union tag fs s k) r = before_specs k (put_specs (specs_of s.specs) (word (record_word is_union) ∷ put_name tag (mark g.LBrace ∷ put_fields (fields_of fs) r)))

  pub before_enum : InEnum → List Tok → List Tok
  before_enum (in_enum tag es s k) r = before_specs k (put_specs (specs_of s.specs) (word g.KEnum ∷ put_name tag (mark g.LBrace ∷ put_done put_enumerator es r)))

  pub before_params : InParams → List Tok → List Tok
  before_params (in_params d ps k) r = before_declarator k (put_declarator d (mark g.LParen ∷ put_done put_param ps r))

-- ---- modes

abbrev pub before_attribute : InAttribute → List Tok → List Tok
before_attribute (of_specs s k) r = before_specs k (put_specs (specs_of s.specs) r)
before_attribute (of_read x) r = before_read x r

abbrev pub put_entries : List Tok → List Tok
put_entries r = word g.KAttribute ∷ mark g.LParen ∷ mark g.LParen ∷ r

abbrev pub put_attribute_mode : AttributeMode → List Tok → List Tok
put_attribute_mode attribute_word r = word g.KAttribute ∷ r
put_attribute_mode attribute_opened r = word g.KAttribute ∷ mark g.LParen ∷ r
put_attribute_mode entries_opened r = put_entries r
put_attribute_mode (want_entry es) r = put_entries (put_done put_entry es r)
put_attribute_mode (after_entry_name es n) r = put_entries (put_done put_entry es (name n ∷ r))
put_attribute_mode (arguments_opened es n) r = put_entries (put_done put_entry es (name n ∷ mark g.LParen ∷ r))
put_attribute_mode (want_argument es n xs) r = put_entries (put_done put_entry es (name n ∷ mark g.LParen ∷ put_done put_argument xs r))
put_attribute_mode (after_argument es n xs x) r = put_entries (put_done put_entry es (name n ∷ mark g.LParen ∷ put_done put_argument xs (put_argument x r)))
put_attribute_mode (after_entry es) r = put_entries (put_commas put_entry es r)
put_attribute_mode (attribute_closing es) r = put_entries (put_commas put_entry es (mark g.RParen ∷ r))

abbrev pub before_specs_mode : SpecsMode → List Tok → List Tok
before_specs_mode (in_specs s k) r = before_specs k (put_specs (specs_of s.specs) r)
before_specs_mode (after_tagged t s k) r = before_specs k (put_specs (specs_of s.specs) (word (tagged_word t) ∷ r))
before_specs_mode (after_tag t n s k) r = before_specs k (put_specs (specs_of s.specs) (word (tagged_word t) ∷ name n ∷ r))
before_specs_mode (want_field f) r = before_fields f r
before_specs_mode (want_enumerator e) r = before_enum e r
before_specs_mode (after_enumerator n e) r = before_enum e (name n ∷ r)
before_specs_mode (want_param p) r = before_params p r

abbrev pub before_declarator_mode : DeclaratorMode → List Tok → List Tok
before_declarator_mode (want_declarator k) r = before_declarator k r
before_declarator_mode (after_star qs k) r = before_declarator k (mark g.Star ∷ put_all put_word qs r)
before_declarator_mode (declarator_opened k) r = before_declarator k (mark g.LParen ∷ r)
before_declarator_mode (after_declarator k d) r = before_declarator k (put_declarator d r)
before_declarator_mode (array_opened d k) r = before_declarator k (put_declarator d (mark g.LBracket ∷ r))
before_declarator_mode (params_opened d k) r = before_declarator k (put_declarator d (mark g.LParen ∷ r))

abbrev pub before_expr_mode : ExprMode → List Tok → List Tok
before_expr_mode (want_expr k) r = before_expr k r
before_expr_mode (after_expr k a) r = before_expr k (put a r)
before_expr_mode (after_text k ns) r = before_expr k (put_all (λ s rest. text s ∷ rest) ns r)
before_expr_mode (opened k) r = before_expr k (mark g.LParen ∷ r)
before_expr_mode (after_sizeof k) r = before_expr k (word g.KSizeof ∷ r)
before_expr_mode (sizeof_opened k) r = before_expr k (word g.KSizeof ∷ mark g.LParen ∷ r)
before_expr_mode (args_opened f k) r = before_expr k (put f (mark g.LParen ∷ r))
before_expr_mode (after_builtin k) r = before_expr k (word g.KBuiltin ∷ r)
before_expr_mode (want_member a m k) r = before_expr k (put a (mark (member_mark m) ∷ r))

abbrev pub put_unended : Unended → List Tok → List Tok
put_unended broken r = word g.KBreak ∷ r
put_unended continued r = word g.KContinue ∷ r
put_unended (done_while s c) r = word g.KDo ∷ put_stmt s (word g.KWhile ∷ mark g.LParen ∷ put c (mark g.RParen ∷ r))

abbrev pub before_stmt_mode : StmtMode → List Tok → List Tok
before_stmt_mode (want_stmt k) r = before_stmt k r
before_stmt_mode (after_stmt k s) r = before_stmt k (put_stmt s r)
before_stmt_mode (want_paren c k) r = before_stmt k (put_condition c r)
before_stmt_mode (after_for k) r = before_stmt k (word g.KFor ∷ r)
before_stmt_mode (for_opened k) r = before_stmt k (word g.KFor ∷ mark g.LParen ∷ r)
before_stmt_mode (want_condition i k) r = before_stmt k (put_part (for_condition i) r)
before_stmt_mode (want_step i c k) r = before_stmt k (put_part (for_step i c) r)
before_stmt_mode (want_semi s k) r = before_stmt k (put_unended s r)
before_stmt_mode (after_return k) r = before_stmt k (word g.KReturn ∷ r)

abbrev pub before : Mode → List Tok → List Tok
before (want_external done) r = put_unit done r
before (in_attribute m a) r = before_attribute a (put_attribute_mode m r)
before (specs m) r = before_specs_mode m r
before (declarator m) r = before_declarator_mode m r
before (after_attributes x) r = before_read x r
before (want_init k) r = before_init k r
before (after_init k i) r = before_init k (put_init i r)
before (expr m) r = before_expr_mode m r
before (stmt m) r = before_stmt_mode m r
