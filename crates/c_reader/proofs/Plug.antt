-- Every state can be completed: some well-formed unit begins with the tokens that led to it.
use Rattle.std.proofs.Common.{◌≡◌, ℕ, ◌≤◌, Bool, true, false, List, [], ◌∷◌, ◌++◌, Option, Some, None, refl, ◌∙◌, ap, subst, arith, codes}
use Rattle.c_tree.specs.Tok as g
use Rattle.c_tree.specs.Tok.{Tok, Word, mark, word}
use Rattle.c_tree.specs.Marks.{record_word}
use Rattle.c_tree.specs.Tree as u
use Rattle.c_tree.specs.Tree.{Argument, Entry, Expr, Exprs, Specs, MaybeDeclarator, Declarator, Init, MaybeInit, Declaration, Stmt, BlockItems, External}
use Rattle.std.specs.List.{AllByRecursion}
use Rattle.c_tree.specs.Text.{IsName, IsNumber}
use Rattle.c_tree.specs.Put.{put_all, put_name, put_word, put_argument, put_entry, put_attribute, put, put_specs, put_maybe_declarator, put_declarator, put_init, put_maybe_init, put_item, put_declaration, put_stmt, put_block, put_external, toks}
use Rattle.c_tree.specs.Wf.{Env, level, is_qualifier, specified, IsOptName, WfArgument, WfArguments, WfAttribute, declared_name, leading_name, IsSpelled, Wf, WfAll, WfMaybe, WfSpecs, WfDeclarators, WfAbstract, WfEither, WfDeclarator, WfInit, WfMaybeInit, with_name, WfDeclaration, WfStmt, WfBlock, WfUnit}
use Rattle.c_reader.specs.Symbol as t
use Rattle.c_reader.specs.Symbol.{Tagged, Member, tagged_word, member_mark}
use Rattle.c_reader.specs.Parts as p
use Rattle.c_reader.specs.Parts.{Field, Enumerator, Param, exprs_of, specs_of, fields_of, declarators_of, enumerators_of, params_of, inits_of, items_of}
use Rattle.c_reader.specs.Inside as i
use Rattle.c_reader.specs.Inside.{InStmt, InBody, InDeclaration, InInit, Condition, Part, Callee, Bracket, TypePlace, InExpr, InDeclarator, InSpecs, InFields, InEnum, InParams, InAttribute, AttributeMode, SpecsMode, DeclaratorMode, ExprMode, Unended, StmtMode, Mode, InItems, ItemRead, in_block, in_then, in_else, in_while, in_do, in_for, of_definition, of_stmt, of_external, of_block, of_for, of_item, in_braces, of_if, of_while, of_do, plain, returned, condition, for_first, for_condition, for_step, of_function, of_builtin, of_paren, of_index, of_args, of_middle, cast_type, sizeof_type, in_operand, in_bracket, in_stmt, in_init, in_value, in_array, in_pointer, in_group, in_item, in_field, in_param, in_type, of_declaration, of_field, of_param, of_type, in_fields, in_enum, in_params, of_specs, of_read, attribute_word, attribute_opened, entries_opened, want_entry, after_entry_name, arguments_opened, want_argument, after_argument, after_entry, attribute_closing, in_specs, after_tagged, after_tag, want_field, want_enumerator, after_enumerator, want_param, want_declarator, after_star, declarator_opened, array_opened, params_opened, want_expr, after_expr, after_text, opened, after_sizeof, sizeof_opened, args_opened, after_builtin, want_member, broken, continued, done_while, want_stmt, want_paren, after_for, for_opened, want_condition, want_step, want_semi, after_return, want_external, in_attribute, specs, declarator, after_attributes, want_init, after_init, expr, stmt}
use Rattle.c_reader.specs.Declarations.{add_item}
use Rattle.c_reader.specs.Declarators.{may_be_named, may_be_nameless}
use Rattle.c_reader.specs.Specs.{tag_spec}
use Rattle.c_reader.specs.Exprs.{bracket_place, place, call_of, made}
use Rattle.c_lexer.specs.Name as lexis
use Rattle.c_lexer.specs.Number.{octal, suffixes}
use Rattle.c_reader.proofs.Before.{put_done, put_enumerator, put_param, before_stmt, before_body, before_declaration, before_items, before_read, before_init, put_condition, put_part, put_callee, put_bracket, put_type, before_expr, before_declarator, before_specs, before_fields, before_enum, before_params, before_attribute, put_entries, put_attribute_mode, before_specs_mode, before_declarator_mode, before_expr_mode, put_unended, before_stmt_mode, before}
use Rattle.c_reader.proofs.Ok.{InStmtOk, InBodyOk, InDeclarationOk, InItemsOk, ReadOk, InInitOk, ConditionOk, PartOk, CalleeOk, BracketOk, bracket_level, type_level, SpecsReadOk, NameFits, ApartAt, InExprOk, InDeclaratorOk, InSpecsOk, InFieldsOk, InEnumOk, InParamsOk, InAttributeOk, AttributeModeOk, SpecsModeOk, DeclaratorModeOk, ExprModeOk, UnendedOk, StmtModeOk, ModeOk}
use Rattle.c_reader.proofs.Levels.{level_some, place_small}
use Rattle.c_reader.proofs.Complete.{not_empty}
use Rattle.c_reader.proofs.Grown.{put_all_last, put_commas_last, put_exprs_of, put_declarators_of, put_enumerators_of, put_params_of, put_inits_of, put_specs_last, put_field, put_fields_last, put_block_last, all_last, exprs_last, some_exprs, enumerators_last, some_enumerators, fields_last, some_fields, params_last, inits_last, some_inits, block_last, unit_last, add_type_ok, add_attribute_ok, list_some, specs_some}
use Rattle.c_reader.proofs.SoundExprs.{made_wf, made_spells, level_made, call_spells}
use Rattle.c_reader.proofs.Adds.{item_ok, read_ok}
use Rattle.c_reader.proofs.SoundDeclarators.{name_through, name_group, apart_none, must_name, must_not, declarators_ok, all_declarators, tag_ok, tag_spells}

-- a well-formed unit that begins with these tokens, and goes on
pub record Goes (f : List Tok → List Tok) : Type 0 where
  pub v : List External
  pub wf : WfUnit [] v
  pub q : List Tok
  pub spells : toks v ≡ f q

-- by what comes first
pub by_more : (f h : List Tok → List Tok) (more : List Tok → List Tok) → ((q : List Tok) → f q ≡ h (more q)) → Goes f → Goes h
by_more f h more same x = record { v = x.v; wf = x.wf; q = more x.q; spells = x.spells ∙ same x.q }

abbrev nought : List ℕ
nought = codes "0"

abbrev letter : List ℕ
letter = codes "x"

nought_ok : IsNumber nought
unfolding suffixes
nought_ok = octal [] [] refl tt refl (omega arith)

letter_ok : IsName letter
unfolding lexis.words
letter_ok = ((refl, tt), refl)

abbrev zero_expr : Expr
zero_expr = u.Number nought

abbrev empty_stmt : Stmt
empty_stmt = u.ExprStmt u.no_expr

-- ---- statements and declarations

mutual
  plug_stmt : (k : InStmt) (e : Env) (s : Stmt) → InStmtOk e k → WfStmt e s → Goes (λ q. before_stmt k (put_stmt s q))
  plug_stmt (in_block is b) e s i w =
      by_more _ _ (λ q. mark g.RBrace ∷ q) (λ q. ap (λ z. before_body b (mark g.LBrace ∷ z)) (put_block_last is (p.statement s) (mark g.RBrace ∷ q)))
      (plug_body b i.0 (items_of (is ++ p.statement s ∷ [])) i.1 (block_last is (p.statement s) i.0 e i.2 i.3 w))
  plug_stmt (in_then c k) e s i w = plug_stmt k e (u.If c s) i.1 (i.0, w)
  plug_stmt (in_else c a k) e s i w = plug_stmt k i.0 (u.IfElse c a s) i.1 (i.2, i.3, i.4, subst (λ v. WfStmt v s) i.5 w)
  plug_stmt (in_while c k) e s i w = plug_stmt k e (u.While c s) i.1 (i.0, w)
  plug_stmt (in_do k) e s i w =
      by_more _ _ (λ q. word g.KWhile ∷ mark g.LParen ∷ g.number nought ∷ mark g.RParen ∷ mark g.Semi ∷ q) (λ q. refl)
      (plug_stmt k e (u.Do s zero_expr) i (w, nought_ok))
  plug_stmt (in_for x c z k) e s i w =
      plug_stmt k i.0 (u.For x c z s) i.1 (i.2, subst (λ v. WfMaybe v c 1) i.5 i.3, subst (λ v. WfMaybe v z 1) i.5 i.4, subst (λ v. WfStmt v s) i.5 w)

  plug_body : (b : InBody) (env : Env) (is : BlockItems) → InBodyOk env b → WfBlock env is → Goes (λ q. before_body b (mark g.LBrace ∷ put_block is (mark g.RBrace ∷ q)))
  plug_body (of_definition done ss d) env is i w =
      let o = i.2 in
      record {
        v = done ++ u.Definition ss d is ∷ [];
        wf = unit_last done (u.Definition ss d is) [] i.0 i.1.0 i.1.1 (o.0, o.1, o.2, o.3, o.4, o.5, subst (λ v. WfBlock v is) i.3 w);
        q = [];
        spells = put_all_last put_external done (u.Definition ss d is) [];
      }
  plug_body (of_stmt k) env is i w = plug_stmt k env (u.Block is) i w

plug_declaration : (q : InDeclaration) (e : Env) (d : Declaration) → InDeclarationOk e q → WfDeclaration e d → Goes (λ z. before_declaration q (put_declaration d z))
plug_declaration (of_external done) e d i w = record {
  v = done ++ u.Declares d ∷ [];
  wf = unit_last done (u.Declares d) [] e i.0 i.1 w;
  q = [];
  spells = put_all_last put_external done (u.Declares d) [];
}
plug_declaration (of_block is b) e d i w =
    by_more _ _ (λ q. mark g.RBrace ∷ q) (λ q. ap (λ z. before_body b (mark g.LBrace ∷ z)) (put_block_last is (p.declared d) (mark g.RBrace ∷ q)))
    (plug_body b i.0 (items_of (is ++ p.declared d ∷ [])) i.1 (block_last is (p.declared d) i.0 e i.2 i.3 w))
plug_declaration (of_for k) e d i w =
    by_more _ _ (λ q. mark g.Semi ∷ mark g.RParen ∷ mark g.Semi ∷ q) (λ q. refl)
    (plug_stmt k e (u.For (u.FirstDeclaration d) u.no_expr u.no_expr empty_stmt) i (w, tt, tt, tt))

plug_items : (q : InItems) (env : Env) → InItemsOk env q → Goes (λ z. before_declaration q.place (put_declaration (record { specs = q.specs; items = q.items }) z))
plug_items q env h = plug_declaration q.place h.e (record { specs = q.specs; items = q.items }) h.place_ok (h.some, h.specs_ok, h.items_ok)

plug_item : (r : ItemRead) (env : Env) (m : MaybeInit) → ReadOk env r → WfMaybeInit env m → Goes (λ z. before_read r (put_maybe_init m z))
plug_item r env m h w =
    by_more _ _ (λ z. mark g.Semi ∷ z)
    (λ z. ap (λ a. before_declaration r.before.place (put_specs r.before.specs a)) (put_commas_last put_item r.before.items (record { declarator = r.declarator; attributes = r.attributes; init = m }) (mark g.Semi ∷ z)))
    (plug_items (add_item r m) env (item_ok r m env h w))

plug_init : (k : InInit) (env : Env) (x : Init) → InInitOk env k → WfInit env x → Goes (λ z. before_init k (put_init x z))
plug_init (of_item r) env x h w = plug_item r env (u.some_init x) h w
plug_init (in_braces is k) env x h w =
    by_more _ _ (λ z. mark g.RBrace ∷ z) (λ z. ap (λ a. before_init k (mark g.LBrace ∷ a)) (put_inits_of (is ++ x ∷ []) (mark g.RBrace ∷ z) ∙ put_commas_last put_init is x (mark g.RBrace ∷ z)))
    (plug_init k env (u.Braces (inits_of (is ++ x ∷ [])) false) h.1 (some_inits env (is ++ x ∷ []) (not_empty is x) (inits_last env is x h.0 w)))

plug_condition : (c : Condition) (env : Env) (k : InStmt) (a : Expr) → ConditionOk env c k → Wf env a → Goes (λ q. before_stmt k (put_condition c (mark g.LParen ∷ put a q)))
plug_condition of_if env k a i w = by_more _ _ (λ q. mark g.RParen ∷ mark g.Semi ∷ q) (λ q. refl) (plug_stmt k env (u.If a empty_stmt) i (w, tt))
plug_condition of_while env k a i w = by_more _ _ (λ q. mark g.RParen ∷ mark g.Semi ∷ q) (λ q. refl) (plug_stmt k env (u.While a empty_stmt) i (w, tt))
plug_condition (of_do s) env k a i w = by_more _ _ (λ q. mark g.RParen ∷ mark g.Semi ∷ q) (λ q. refl) (plug_stmt k i.0 (u.Do s a) i.1 (i.2, subst (λ v. Wf v a) i.3 w))

plug_part : (x : Part) (env : Env) (k : InStmt) (a : Expr) → PartOk env x k → Wf env a → Goes (λ q. before_stmt k (put_part x (put a q)))
plug_part plain env k a i w = by_more _ _ (λ q. mark g.Semi ∷ q) (λ q. refl) (plug_stmt k env (u.ExprStmt (u.some_expr a)) i (level_some a, w))
plug_part returned env k a i w = by_more _ _ (λ q. mark g.Semi ∷ q) (λ q. refl) (plug_stmt k env (u.Return (u.some_expr a)) i (level_some a, w))
plug_part (condition c) env k a i w = plug_condition c env k a i w
plug_part for_first env k a i w =
    by_more _ _ (λ q. mark g.Semi ∷ mark g.Semi ∷ mark g.RParen ∷ mark g.Semi ∷ q) (λ q. refl)
    (plug_stmt k env (u.For (u.FirstExpr (u.some_expr a)) u.no_expr u.no_expr empty_stmt) i ((level_some a, w), tt, tt, tt))
plug_part (for_condition x) env k a i w =
    by_more _ _ (λ q. mark g.Semi ∷ mark g.RParen ∷ mark g.Semi ∷ q) (λ q. refl)
    (plug_stmt k i.0 (u.For x (u.some_expr a) u.no_expr empty_stmt) i.1 (i.2, (level_some a, subst (λ v. Wf v a) i.3 w), tt, tt))
plug_part (for_step x c) env k a i w =
    by_more _ _ (λ q. mark g.RParen ∷ mark g.Semi ∷ q) (λ q. refl)
    (plug_stmt k i.0 (u.For x c (u.some_expr a) empty_stmt) i.1 (i.2, subst (λ v. WfMaybe v c 1) i.4 i.3, (level_some a, subst (λ v. Wf v a) i.4 w), tt))

-- ---- expressions, specs and declarators

abbrev int_specs : Specs
int_specs = u.Keyword g.KInt u.no_specs

int_some : int_specs ≡ u.no_specs → ⊥
int_some e = cc

-- a pointer to x
abbrev star_letter : Declarator
star_letter = u.PointerTo [] (u.Declared (Some letter))

abbrev a_field : Field
a_field = record { specs = int_specs; declarators = u.declarator star_letter u.no_declarators }

abbrev FieldOk : Env → Field → Type 0
FieldOk env x = (x.specs ≡ u.no_specs → ⊥) × WfSpecs env false x.specs × WfDeclarators env (specified false x.specs) x.declarators

abbrev ParamOk : Env → Param → Type 0
ParamOk env x = (x.specs ≡ u.no_specs → ⊥) × WfSpecs env false x.specs × WfEither env (specified false x.specs) x.declarator

bracket_more : Bracket → List Tok → List Tok
bracket_more of_paren q = mark g.RParen ∷ q
bracket_more (of_index l) q = mark g.RBracket ∷ q
bracket_more (of_args c xs) q = mark g.RParen ∷ q
bracket_more (of_middle c) q = mark g.Colon ∷ g.number nought ∷ q

-- the expression that the bracket makes
bracketed : Bracket → Expr → Expr
bracketed of_paren a = u.Paren a
bracketed (of_index l) a = u.Index l a
bracketed (of_args c xs) a = call_of c (exprs_of (xs ++ a ∷ []))
bracketed (of_middle c) a = u.Cond c a zero_expr

call_wf : (c : Callee) (env : Env) (xs : List Expr) (a : Expr) → CalleeOk env c → WfAll env (exprs_of (xs ++ a ∷ [])) → Wf env (call_of c (exprs_of (xs ++ a ∷ [])))
call_wf (of_function h) env xs a c w = (c.0, c.1, w)
call_wf of_builtin env xs a c w = some_exprs env xs a w

call_level : (c : Callee) (xs : Exprs) → level (call_of c xs) ≡ 16
call_level (of_function h) xs = refl
call_level of_builtin xs = refl

bracketed_wf : (b : Bracket) (env : Env) (a : Expr) → BracketOk env b → bracket_place b ≤ level a → Wf env a → Wf env (bracketed b a)
unfolding bracketed
bracketed_wf of_paren env a i l w = w
bracketed_wf (of_index x) env a i l w = (i.0, i.1, w)
bracketed_wf (of_args c xs) env a i l w = call_wf c env xs a i.0 (exprs_last env xs a i.1 l w)
bracketed_wf (of_middle c) env a i l w = (i.0, i.1, w, omega arith, nought_ok)

bracketed_level : (b : Bracket) (a : Expr) → level (bracketed b a) ≡ bracket_level b
unfolding bracketed
bracketed_level of_paren a = refl
bracketed_level (of_index x) a = refl
bracketed_level (of_args c xs) a = call_level c (exprs_of (xs ++ a ∷ []))
bracketed_level (of_middle c) a = refl

bracketed_spells : (b : Bracket) (a : Expr) (q : List Tok) → put (bracketed b a) q ≡ put_bracket b (put a (bracket_more b q))
unfolding bracketed bracket_more
bracketed_spells of_paren a q = refl
bracketed_spells (of_index x) a q = refl
bracketed_spells (of_args c xs) a q = call_spells c (exprs_of (xs ++ a ∷ [])) q ∙ ap (λ z. put_callee c (mark g.LParen ∷ z)) (put_exprs_of (xs ++ a ∷ []) (mark g.RParen ∷ q) ∙ put_commas_last put xs a (mark g.RParen ∷ q))
bracketed_spells (of_middle c) a q = refl

-- what a type name stands in
abbrev typed : TypePlace → Specs → MaybeDeclarator → Expr
typed cast_type ss m = u.Cast ss m zero_expr
typed sizeof_type ss m = u.SizeofType ss m

abbrev typed_more : TypePlace → List Tok → List Tok
typed_more cast_type q = mark g.RParen ∷ g.number nought ∷ q
typed_more sizeof_type q = mark g.RParen ∷ q

typed_wf : (x : TypePlace) (env : Env) (ss : Specs) (m : MaybeDeclarator) → (ss ≡ u.no_specs → ⊥) → WfSpecs env false ss → WfAbstract env m → Wf env (typed x ss m)
typed_wf cast_type env ss m n w h = (n, w, h, omega arith, nought_ok)
typed_wf sizeof_type env ss m n w h = (n, w, h)

typed_level : (x : TypePlace) (ss : Specs) (m : MaybeDeclarator) → level (typed x ss m) ≡ type_level x
typed_level cast_type ss m = refl
typed_level sizeof_type ss m = refl

typed_spells : (x : TypePlace) (ss : Specs) (m : MaybeDeclarator) (q : List Tok) → put (typed x ss m) q ≡ put_type x (put_specs ss (put_maybe_declarator m (typed_more x q)))
typed_spells cast_type ss m q = refl
typed_spells sizeof_type ss m q = refl

mutual
  plug_expr : (k : InExpr) (env : Env) (a : Expr) → InExprOk env k → Wf env a → place k ≤ level a → Goes (λ q. before_expr k (put a q))
  plug_expr (in_operand o k) env a i w l =
      by_more _ _ (λ q. q) (λ q. ap (before_expr k) (made_spells o a q))
      (plug_expr k env (made o a) i.2 (made_wf o env a i.0 l w) (let e = level_made o a in let x = i.1 in omega (arith, e)))
  plug_expr (in_bracket b k) env a i w l =
      by_more _ _ (bracket_more b) (λ q. ap (before_expr k) (bracketed_spells b a q))
      (plug_expr k env (bracketed b a) i.2 (bracketed_wf b env a i.0 l w) (let e = bracketed_level b a in let x = i.1 in omega (arith, e)))
  plug_expr (in_stmt x k) env a i w l = plug_part x env k a i w
  plug_expr (in_init k) env a i w l = plug_init k env (u.Plain a) i (l, w)
  plug_expr (in_value n e) env a i w l = plug_enum e env (record { name = n; value = u.some_expr a }) i.1 i.0 (l, w)
  plug_expr (in_array d k) env a i w l =
      by_more _ _ (λ q. mark g.RBracket ∷ q) (λ q. refl)
      (plug_declarator k env (u.ArrayOf d (u.some_expr a)) (i.0, i.1, (l, w)) tt i.2 i.3 i.4)

  plug_declarator : (k : InDeclarator) (env : Env) (d : Declarator) → WfDeclarator env d → IsSpelled d → NameFits k (declared_name d) → ApartAt env k (leading_name d) → InDeclaratorOk env k → Goes (λ q. before_declarator k (put_declarator d q))
  plug_declarator (in_pointer qs k) env d w sp n a i = plug_declarator k env (u.PointerTo qs d) (i.0, w) tt (name_through k qs (declared_name d) n) (apart_none env k) i.1
  plug_declarator (in_group k) env d w sp n a i =
      by_more _ _ (λ q. mark g.RParen ∷ q) (λ q. refl) (plug_declarator k env (u.Group d) (sp, a, w) tt (name_group k (declared_name d) n) (apart_none env k) i)
  plug_declarator (in_item q) env d w sp n a i =
      plug_item (record { before = q; declarator = d; attributes = [] }) (with_name q.typedef (declared_name d) env) u.no_init (read_ok env q d i (must_name (in_item q) (declared_name d) refl n) a w) tt
  plug_declarator (in_field x ss ds) env d w sp n a i =
      by_more _ _ (λ q. mark g.Semi ∷ q) (λ q. ap (λ z. before_fields x (put_specs ss z)) (put_declarators_of (ds ++ d ∷ []) (mark g.Semi ∷ q) ∙ put_commas_last put_declarator ds d (mark g.Semi ∷ q)))
      (plug_fields x env (record { specs = ss; declarators = declarators_of (ds ++ d ∷ []) }) i.3 (i.0, i.1, all_declarators env ss ds d (declarators_ok env ss ds d i.2 (must_name (in_field x ss ds) (declared_name d) refl n) a w)))
  plug_declarator (in_param x ss) env d w sp n a i = plug_params x env (record { specs = ss; declarator = u.some_declarator d }) i.2 (i.0, i.1, (sp, a, w))
  plug_declarator (in_type x k ss) env d w sp n a i =
      by_more _ _ (typed_more x) (λ q. ap (before_expr k) (typed_spells x ss (u.some_declarator d) q))
      (plug_expr k env (typed x ss (u.some_declarator d)) i.3 (typed_wf x env ss (u.some_declarator d) i.0 i.1 (must_not (in_type x k ss) (declared_name d) refl n, sp, w)) (let e = typed_level x ss (u.some_declarator d) in let y = i.2 in omega (arith, e)))

  plug_specs : (k : InSpecs) (env : Env) (ss : Specs) → (ss ≡ u.no_specs → ⊥) → WfSpecs env false ss → InSpecsOk env k → Goes (λ q. before_specs k (put_specs ss q))
  plug_specs (of_declaration x) env ss n w i =
      by_more _ _ (λ q. mark g.Semi ∷ q) (λ q. refl) (plug_declaration x env (record { specs = ss; items = [] }) i (n, w, tt))
  plug_specs (of_field x) env ss n w i =
      by_more _ _ (λ q. mark g.Star ∷ g.name letter ∷ mark g.Semi ∷ q) (λ q. refl)
      (plug_fields x env (record { specs = ss; declarators = u.declarator star_letter u.no_declarators }) i (n, w, (refl, tt, (tt, letter_ok), tt)))
  plug_specs (of_param x) env ss n w i = plug_params x env (record { specs = ss; declarator = u.no_declarator }) i (n, w, tt)
  plug_specs (of_type x k) env ss n w i =
      by_more _ _ (typed_more x) (λ q. ap (before_expr k) (typed_spells x ss u.no_declarator q))
      (plug_expr k env (typed x ss u.no_declarator) i.1 (typed_wf x env ss u.no_declarator n w tt) (let e = typed_level x ss u.no_declarator in let y = i.0 in omega (arith, e)))

  -- with one more field
  plug_fields : (x : InFields) (env : Env) (f : Field) → InFieldsOk env x → FieldOk env f → Goes (λ q. before_fields x (put_field f q))
  plug_fields (in_fields b tag fs s k) env f i w =
      let h = add_type_ok env s (p.records b tag (u.body (fields_of (fs ++ f ∷ [])))) i.2 (i.0, some_fields env (fs ++ f ∷ []) (not_empty fs f) (fields_last env fs f i.1 w.0 w.1 w.2), tt) (λ seen. refl) refl in
      by_more _ _ (λ q. mark g.RBrace ∷ q)
      (λ q. ap (before_specs k) (put_specs_last s.specs (p.records b tag (u.body (fields_of (fs ++ f ∷ [])))) q ∙ ap (λ z. put_specs (specs_of s.specs) (word (record_word b) ∷ put_name tag (mark g.LBrace ∷ z))) (put_fields_last fs f (mark g.RBrace ∷ q))))
      (plug_specs k env (specs_of (s.specs ++ p.records b tag (u.body (fields_of (fs ++ f ∷ []))) ∷ [])) (specs_some (s.specs ++ p.records b tag (u.body (fields_of (fs ++ f ∷ []))) ∷ []) (list_some s.specs (p.records b tag (u.body (fields_of (fs ++ f ∷ [])))))) h.wf i.3)

  -- with one more enumerator
  plug_enum : (x : InEnum) (env : Env) (e : Enumerator) → InEnumOk env x → IsName e.name → WfMaybe env e.value 3 → Goes (λ q. before_enum x (put_enumerator e q))
  plug_enum (in_enum tag es s k) env e i n w =
      let h = add_type_ok env s (p.enums tag (u.list (enumerators_of (es ++ e ∷ [])) false)) i.2 (i.0, some_enumerators env (es ++ e ∷ []) (not_empty es e) (enumerators_last env es e i.1 n w), tt) (λ seen. refl) refl in
      by_more _ _ (λ q. mark g.RBrace ∷ q)
      (λ q. ap (before_specs k) (put_specs_last s.specs (p.enums tag (u.list (enumerators_of (es ++ e ∷ [])) false)) q ∙ ap (λ z. put_specs (specs_of s.specs) (word g.KEnum ∷ put_name tag (mark g.LBrace ∷ z))) (put_enumerators_of (es ++ e ∷ []) (mark g.RBrace ∷ q) ∙ put_commas_last put_enumerator es e (mark g.RBrace ∷ q))))
      (plug_specs k env (specs_of (s.specs ++ p.enums tag (u.list (enumerators_of (es ++ e ∷ [])) false) ∷ [])) (specs_some (s.specs ++ p.enums tag (u.list (enumerators_of (es ++ e ∷ [])) false) ∷ []) (list_some s.specs (p.enums tag (u.list (enumerators_of (es ++ e ∷ [])) false)))) h.wf i.3)

  -- with one more parameter
  plug_params : (x : InParams) (env : Env) (f : Param) → InParamsOk env x → ParamOk env f → Goes (λ q. before_params x (put_param f q))
  plug_params (in_params d ps k) env f i w =
      by_more _ _ (λ q. mark g.RParen ∷ q) (λ q. ap (λ z. before_declarator k (put_declarator d (mark g.LParen ∷ z))) (put_params_of (ps ++ f ∷ []) (mark g.RParen ∷ q) ∙ put_commas_last put_param ps f (mark g.RParen ∷ q)))
      (plug_declarator k env (u.FunctionOf d (params_of (ps ++ f ∷ []))) (i.0, i.1, params_last env ps f i.4 w.0 w.1 w.2) tt i.2 i.3 i.5)

-- ---- modes

some_name : (k : InDeclarator) → may_be_named k ≡ false → may_be_nameless k ≡ true
some_name (in_pointer qs k) h = some_name k h
some_name (in_group k) h = some_name k h
some_name (in_item q) h = cc
some_name (in_field x ss ds) h = cc
some_name (in_param q ss) h = refl
some_name (in_type x k ss) h = refl

-- a name that may stand there, or none
pub record AName (k : InDeclarator) : Type 0 where
  pub n : Option (List ℕ)
  pub fits : NameFits k n
  pub ok : IsOptName n

a_name : (k : InDeclarator) → AName k
a_name k = by_bool (may_be_named k) refl
  where
    by_bool : (b : Bool) → may_be_named k ≡ b → AName k
    by_bool true h = record { n = Some letter; fits = h; ok = letter_ok }
    by_bool false h = record { n = None; fits = some_name k h; ok = tt }

plug_star : (k : InDeclarator) (env : Env) (qs : List Word) → AllByRecursion (λ w. is_qualifier w ≡ true) qs → InDeclaratorOk env k → Goes (λ q. before_declarator k (mark g.Star ∷ put_all put_word qs q))
plug_star k env qs h i =
    let x = a_name k in
    by_more _ _ (put_name x.n) (λ q. refl) (plug_declarator k env (u.PointerTo qs (u.Declared x.n)) (h, x.ok) tt x.fits (apart_none env k) i)

plug_group : (k : InDeclarator) (env : Env) → InDeclaratorOk env k → Goes (λ q. before_declarator k (mark g.LParen ∷ q))
plug_group k env i =
    let x = a_name k in
    by_more _ _ (λ q. mark g.Star ∷ put_name x.n (mark g.RParen ∷ q)) (λ q. refl) (plug_declarator k env (u.Group (u.PointerTo [] (u.Declared x.n))) (tt, tt, (tt, x.ok)) tt x.fits (apart_none env k) i)

plug_attributed : (a : InAttribute) (env : Env) (es : List Entry) → WfAttribute es → InAttributeOk env a → Goes (λ q. before_attribute a (put_attribute es q))
plug_attributed (of_specs s k) env es h i =
    let x = add_attribute_ok env s es i.0 h in
    by_more _ _ (λ q. q) (λ q. ap (before_specs k) (put_specs_last s.specs (p.attribute es) q))
    (plug_specs k env (specs_of (s.specs ++ p.attribute es ∷ [])) (specs_some (s.specs ++ p.attribute es ∷ []) (list_some s.specs (p.attribute es))) x.wf i.1)
plug_attributed (of_read r) env es h i =
    by_more _ _ (λ q. q) (λ q. ap (λ b. before_items r.before (put_declarator r.declarator b)) (put_all_last put_attribute r.attributes es q))
    (plug_item (record { before = r.before; declarator = r.declarator; attributes = r.attributes ++ es ∷ [] }) env u.no_init
    (record { v = i.v; before_ok = i.before_ok; named = i.named; apart = i.apart; wf = i.wf; attributes_ok = all_last WfAttribute r.attributes es i.attributes_ok h; env_is = i.env_is }) tt)

abbrev entry_of : List ℕ → Option (List Argument) → Entry
entry_of n xs = record { name = n; arguments = xs }

-- an attribute of these entries and one more
plug_entry : (a : InAttribute) (env : Env) (es : List Entry) (n : List ℕ) (xs : Option (List Argument)) → WfAttribute es → IsName n → WfArguments xs → InAttributeOk env a
    → Goes (λ q. before_attribute a (put_entries (put_done put_entry es (put_entry (entry_of n xs) q))))
plug_entry a env es n xs h m w i =
    by_more _ _ (λ q. mark g.RParen ∷ mark g.RParen ∷ q) (λ q. ap (λ b. before_attribute a (put_entries b)) (put_commas_last put_entry es (entry_of n xs) (mark g.RParen ∷ mark g.RParen ∷ q)))
    (plug_attributed a env (es ++ entry_of n xs ∷ []) (all_last (λ e. IsName e.name × WfArguments e.arguments) es (entry_of n xs) h (m, w)) i)

plug_attribute : (m : AttributeMode) (env : Env) (a : InAttribute) → AttributeModeOk m → InAttributeOk env a → Goes (λ q. before_attribute a (put_attribute_mode m q))
plug_attribute attribute_word env a h i = by_more _ _ (λ q. mark g.LParen ∷ mark g.LParen ∷ mark g.RParen ∷ mark g.RParen ∷ q) (λ q. refl) (plug_attributed a env [] tt i)
plug_attribute attribute_opened env a h i = by_more _ _ (λ q. mark g.LParen ∷ mark g.RParen ∷ mark g.RParen ∷ q) (λ q. refl) (plug_attributed a env [] tt i)
plug_attribute entries_opened env a h i = by_more _ _ (λ q. mark g.RParen ∷ mark g.RParen ∷ q) (λ q. refl) (plug_attributed a env [] tt i)
plug_attribute (want_entry es) env a h i = by_more _ _ (λ q. g.name letter ∷ q) (λ q. refl) (plug_entry a env es letter None h.0 letter_ok tt i)
plug_attribute (after_entry_name es n) env a h i = plug_entry a env es n None h.0 h.1 tt i
plug_attribute (arguments_opened es n) env a h i = by_more _ _ (λ q. mark g.RParen ∷ q) (λ q. refl) (plug_entry a env es n (Some []) h.0 h.1 tt i)
plug_attribute (want_argument es n xs) env a h i =
    by_more _ _ (λ q. g.number nought ∷ mark g.RParen ∷ q)
    (λ q. ap (λ b. before_attribute a (put_entries (put_done put_entry es (g.name n ∷ mark g.LParen ∷ b)))) (put_commas_last put_argument xs (u.NumberArgument nought) (mark g.RParen ∷ q)))
    (plug_entry a env es n (Some (xs ++ u.NumberArgument nought ∷ [])) h.0 h.1 (all_last WfArgument xs (u.NumberArgument nought) h.2 nought_ok) i)
plug_attribute (after_argument es n xs x) env a h i =
    by_more _ _ (λ q. mark g.RParen ∷ q)
    (λ q. ap (λ b. before_attribute a (put_entries (put_done put_entry es (g.name n ∷ mark g.LParen ∷ b)))) (put_commas_last put_argument xs x (mark g.RParen ∷ q)))
    (plug_entry a env es n (Some (xs ++ x ∷ [])) h.0 h.1 (all_last WfArgument xs x h.2 h.3) i)
plug_attribute (after_entry es) env a h i = by_more _ _ (λ q. mark g.RParen ∷ mark g.RParen ∷ q) (λ q. refl) (plug_attributed a env es h.0 i)
plug_attribute (attribute_closing es) env a h i = by_more _ _ (λ q. mark g.RParen ∷ q) (λ q. refl) (plug_attributed a env es h i)

plug_tag : (x : Tagged) (n : List ℕ) (s : p.SpecsRead) (k : InSpecs) (env : Env) → IsName n → SpecsReadOk env s → InSpecsOk env k → Goes (λ q. before_specs k (put_specs (specs_of s.specs) (word (tagged_word x) ∷ g.name n ∷ q)))
plug_tag x n s k env m h i =
    let o = tag_ok x env n s m h in
    by_more _ _ (λ q. q) (tag_spells x n s k)
    (plug_specs k env (specs_of (s.specs ++ tag_spec x n ∷ [])) (specs_some (s.specs ++ tag_spec x n ∷ []) (list_some s.specs (tag_spec x n))) o.wf i)

plug_specs_mode : (m : SpecsMode) (env : Env) → SpecsModeOk env m → Goes (before_specs_mode m)
plug_specs_mode (in_specs s k) env h = plug_specs k env (specs_of s.specs) (specs_some s.specs h.0) h.1.wf h.2
plug_specs_mode (after_tagged x s k) env h = by_more _ _ (λ q. g.name letter ∷ q) (λ q. refl) (plug_tag x letter s k env letter_ok h.0 h.1)
plug_specs_mode (after_tag x n s k) env h = plug_tag x n s k env h.0 h.1 h.2
plug_specs_mode (want_field x) env h = by_more _ _ (put_field a_field) (λ q. refl) (plug_fields x env a_field h (int_some, (refl, tt), (refl, tt, (tt, letter_ok), tt)))
plug_specs_mode (want_enumerator x) env h = by_more _ _ (λ q. g.name letter ∷ q) (λ q. refl) (plug_enum x env (record { name = letter; value = u.no_expr }) h letter_ok tt)
plug_specs_mode (after_enumerator n x) env h = plug_enum x env (record { name = n; value = u.no_expr }) h.1 h.0 tt
plug_specs_mode (want_param x) env h = by_more _ _ (λ q. word g.KInt ∷ q) (λ q. refl) (plug_params x env (record { specs = int_specs; declarator = u.no_declarator }) h (int_some, (refl, tt), tt))

plug_declarator_mode : (m : DeclaratorMode) (env : Env) → DeclaratorModeOk env m → Goes (before_declarator_mode m)
plug_declarator_mode (want_declarator k) env h = by_more _ _ (λ q. mark g.Star ∷ q) (λ q. refl) (plug_star k env [] tt h.1)
plug_declarator_mode (after_star qs k) env h = plug_star k env qs h.0 h.1
plug_declarator_mode (declarator_opened k) env h = plug_group k env h
plug_declarator_mode (i.after_declarator k d) env h = let x = h.1 in plug_declarator k env d x.1 h.0 x.2 x.3 x.4
plug_declarator_mode (array_opened d k) env h = by_more _ _ (λ q. mark g.RBracket ∷ q) (λ q. refl) (plug_declarator k env (u.ArrayOf d u.no_expr) (h.0, h.1, tt) tt h.2 h.3 h.4)
plug_declarator_mode (params_opened d k) env h = by_more _ _ (λ q. mark g.RParen ∷ q) (λ q. refl) (plug_declarator k env (u.FunctionOf d u.no_params) (h.0, h.1, tt) tt h.2 h.3 h.4)

plug_member : (m : Member) (k : InExpr) (env : Env) (a : Expr) → 16 ≤ level a → Wf env a → InExprOk env k → Goes (λ q. before_expr k (put a (mark (member_mark m) ∷ q)))
plug_member t.Dot k env a l w i = by_more _ _ (λ q. g.name letter ∷ q) (λ q. refl) (plug_expr k env (u.Dot a letter) i (l, w, letter_ok) (let y = (place_small k).1 in omega arith))
plug_member t.Arrow k env a l w i = by_more _ _ (λ q. g.name letter ∷ q) (λ q. refl) (plug_expr k env (u.Arrow a letter) i (l, w, letter_ok) (let y = (place_small k).1 in omega arith))

plug_expr_mode : (m : ExprMode) (env : Env) → ExprModeOk env m → Goes (before_expr_mode m)
plug_expr_mode (want_expr k) env h = by_more _ _ (λ q. g.number nought ∷ q) (λ q. refl) (plug_expr k env zero_expr h nought_ok (let y = (place_small k).1 in omega arith))
plug_expr_mode (after_expr k a) env h = plug_expr k env a h.2 h.1 h.0
plug_expr_mode (after_text k ns) env h = plug_expr k env (u.Text ns) h.1 h.0 (let y = (place_small k).1 in omega arith)
plug_expr_mode (opened k) env h = by_more _ _ (λ q. g.number nought ∷ mark g.RParen ∷ q) (λ q. refl) (plug_expr k env (u.Paren zero_expr) h nought_ok (let y = (place_small k).1 in omega arith))
plug_expr_mode (after_sizeof k) env h = by_more _ _ (λ q. g.number nought ∷ q) (λ q. refl) (plug_expr k env (u.SizeofExpr zero_expr) h (omega arith, nought_ok) ((place_small k).1))
plug_expr_mode (sizeof_opened k) env h = by_more _ _ (λ q. g.number nought ∷ mark g.RParen ∷ q) (λ q. refl) (plug_expr k env (u.SizeofExpr (u.Paren zero_expr)) h (omega arith, nought_ok) ((place_small k).1))
plug_expr_mode (args_opened f k) env h = by_more _ _ (λ q. mark g.RParen ∷ q) (λ q. refl) (plug_expr k env (u.Call f u.no_exprs) h.2 (h.0, h.1, tt) (let y = (place_small k).1 in omega arith))
plug_expr_mode (after_builtin k) env h =
    by_more _ _ (λ q. mark g.LParen ∷ g.number nought ∷ mark g.RParen ∷ q) (λ q. refl) (plug_expr k env (u.Builtin (u.expr zero_expr u.no_exprs)) h (omega arith, nought_ok, tt) (let y = (place_small k).1 in omega arith))
plug_expr_mode (want_member a m k) env h = plug_member m k env a h.0 h.1 h.2

plug_unended : (x : Unended) (k : InStmt) (env : Env) → UnendedOk env x k → Goes (λ q. before_stmt k (put_unended x q))
plug_unended broken k env h = by_more _ _ (λ q. mark g.Semi ∷ q) (λ q. refl) (plug_stmt k env u.Break h tt)
plug_unended continued k env h = by_more _ _ (λ q. mark g.Semi ∷ q) (λ q. refl) (plug_stmt k env u.Continue h tt)
plug_unended (done_while s c) k env h = by_more _ _ (λ q. mark g.Semi ∷ q) (λ q. refl) (plug_stmt k h.0 (u.Do s c) h.1 (h.2, subst (λ v. Wf v c) h.4 h.3))

plug_stmt_mode : (m : StmtMode) (env : Env) → StmtModeOk env m → Goes (before_stmt_mode m)
plug_stmt_mode (want_stmt k) env h = by_more _ _ (λ q. mark g.Semi ∷ q) (λ q. refl) (plug_stmt k env empty_stmt h tt)
plug_stmt_mode (i.after_stmt k s) env h = plug_stmt k h.e s h.place_ok h.wf
plug_stmt_mode (want_paren c k) env h = by_more _ _ (λ q. mark g.LParen ∷ g.number nought ∷ q) (λ q. refl) (plug_condition c env k zero_expr h nought_ok)
plug_stmt_mode (after_for k) env h =
    by_more _ _ (λ q. mark g.LParen ∷ mark g.Semi ∷ mark g.Semi ∷ mark g.RParen ∷ mark g.Semi ∷ q) (λ q. refl) (plug_stmt k env (u.For (u.FirstExpr u.no_expr) u.no_expr u.no_expr empty_stmt) h (tt, tt, tt, tt))
plug_stmt_mode (for_opened k) env h =
    by_more _ _ (λ q. mark g.Semi ∷ mark g.Semi ∷ mark g.RParen ∷ mark g.Semi ∷ q) (λ q. refl) (plug_stmt k env (u.For (u.FirstExpr u.no_expr) u.no_expr u.no_expr empty_stmt) h (tt, tt, tt, tt))
plug_stmt_mode (want_condition x k) env h =
    by_more _ _ (λ q. mark g.Semi ∷ mark g.RParen ∷ mark g.Semi ∷ q) (λ q. refl) (plug_stmt k h.0 (u.For x u.no_expr u.no_expr empty_stmt) h.1 (h.2, tt, tt, tt))
plug_stmt_mode (want_step x c k) env h =
    by_more _ _ (λ q. mark g.RParen ∷ mark g.Semi ∷ q) (λ q. refl) (plug_stmt k h.0 (u.For x c u.no_expr empty_stmt) h.1 (h.2, subst (λ v. WfMaybe v c 1) h.4 h.3, tt, tt))
plug_stmt_mode (want_semi x k) env h = plug_unended x k env h
plug_stmt_mode (after_return k) env h = by_more _ _ (λ q. mark g.Semi ∷ q) (λ q. refl) (plug_stmt k env (u.Return u.no_expr) h tt)

pub plug : (m : Mode) (env : Env) → ModeOk env m → Goes (before m)
plug (want_external done) env h = record { v = done; wf = h.0; q = []; spells = refl }
plug (in_attribute m a) env h = plug_attribute m env a h.0 h.1
plug (specs m) env h = plug_specs_mode m env h
plug (declarator m) env h = plug_declarator_mode m env h
plug (after_attributes r) env h = plug_item r env u.no_init h tt
plug (want_init k) env h = by_more _ _ (λ q. g.number nought ∷ q) (λ q. refl) (plug_init k env (u.Plain zero_expr) h (omega arith, nought_ok))
plug (after_init k x) env h = plug_init k env x h.1 h.0
plug (expr m) env h = plug_expr_mode m env h
plug (stmt m) env h = plug_stmt_mode m env h
