-- What tagging keeps of a tree: its levels, its specifiers' kinds, and the names that it declares.
use Rattle.std.proofs.Common.{◌≡◌, inl, inr, ℕ, Bool, ◌||◌, List, [], ◌∷◌, Option, Some, None, refl, ap, ◌∙◌}
use Rattle.c_tree.specs.Tok as t
use Rattle.c_tree.specs.Tok.{Word}
use Rattle.c_tree.specs.Tree as u
use Rattle.c_tree.specs.Tree.{Expr, Exprs, MaybeExpr, Specs, Fields, MaybeFields, Declarators, Declarator, MaybeDeclarator, Enumerators, MaybeEnumerators, Params, Init, Inits, MaybeInit, Item, Declaration, First, Stmt, BlockItems, External}
use Rattle.c_tree.specs.Wf.{Env, is_specifier, level, specified, has_typedef, declared_name, leading_name, IsDirect, IsSpelled, IsPlain, IsFunction, is_open, with_name, after_declarator, after_items, after_declaration, after_first, after_stmt, after_block, after_external}
use Rattle.call_rewriter.specs.Tagged.{Callee, Hooks, Tagging, site_in, tag_call, tag, tag_exprs, tag_specs, tag_declarator, tag_item, tag_items, tag_declaration, tag_first, tag_stmt, tag_block, tag_external}

call_level : (max : ℕ) (s : Option Callee) (f : Expr) (g : Tagging Expr) (xs : Tagging Exprs) (k : ℕ) → level (tag_call max s f g xs k).tree ≡ 16
call_level max None f g xs k = refl
call_level max (Some c) f g xs k = refl

module _ (max : ℕ) (h : Hooks) where
  pub level_kept : (a : Expr) (k : ℕ) → level (tag max h a k).tree ≡ level a
  level_kept (u.Comma a b) k = refl
  level_kept (u.Assign a op b) k = refl
  level_kept (u.Cond c a b) k = refl
  level_kept (u.Binary a op b) k = refl
  level_kept (u.Cast ss d a) k = refl
  level_kept (u.Prefix op a) k = refl
  level_kept (u.SizeofExpr a) k = refl
  level_kept (u.SizeofType ss d) k = refl
  level_kept (u.Index a b) k = refl
  level_kept (u.Dot a n) k = refl
  level_kept (u.Arrow a n) k = refl
  level_kept (u.Post a up) k = refl
  level_kept (u.Name n) k = refl
  level_kept (u.Number n) k = refl
  level_kept (u.Char n) k = refl
  level_kept (u.Text ts) k = refl
  level_kept (u.Paren a) k = refl
  level_kept (u.Builtin xs) k = refl
  level_kept (u.Call f xs) k = call_level max (site_in h f) f (tag max h f) (tag_exprs max h xs) k

  pub some_kept : (ss : Specs) (k : ℕ) → (ss ≡ u.no_specs → ⊥) → (tag_specs max h ss k).tree ≡ u.no_specs → ⊥
  some_kept u.no_specs k f = λ e. f refl
  some_kept (u.Keyword w ss) k f = λ e. cc
  some_kept (u.Typedef n ss) k f = λ e. cc
  some_kept (u.Attribute es ss) k f = λ e. cc
  some_kept (u.Record is_union n b ss) k f = λ e. cc
  some_kept (u.Enum n b ss) k f = λ e. cc

  pub specified_kept : (ss : Specs) (seen : Bool) (k : ℕ) → specified seen (tag_specs max h ss k).tree ≡ specified seen ss
  specified_kept u.no_specs seen k = refl
  specified_kept (u.Keyword w ss) seen k = specified_kept ss (seen || is_specifier w) k
  specified_kept (u.Typedef n ss) seen k = refl
  specified_kept (u.Attribute es ss) seen k = specified_kept ss seen k
  specified_kept (u.Record is_union n b ss) seen k = refl
  specified_kept (u.Enum n b ss) seen k = refl

  pub declared_kept : (d : Declarator) (k : ℕ) → declared_name (tag_declarator max h d k).tree ≡ declared_name d
  declared_kept (u.PointerTo qs d) k = declared_kept d k
  declared_kept (u.Declared n) k = refl
  declared_kept (u.Group d) k = declared_kept d k
  declared_kept (u.ArrayOf d n) k = declared_kept d k
  declared_kept (u.FunctionOf d ps) k = declared_kept d k

  pub leading_kept : (d : Declarator) (k : ℕ) → leading_name (tag_declarator max h d k).tree ≡ leading_name d
  leading_kept (u.PointerTo qs d) k = refl
  leading_kept (u.Declared n) k = refl
  leading_kept (u.Group d) k = refl
  leading_kept (u.ArrayOf d n) k = leading_kept d k
  leading_kept (u.FunctionOf d ps) k = leading_kept d k

  pub direct_kept : (d : Declarator) (k : ℕ) → IsDirect d → IsDirect (tag_declarator max h d k).tree
  direct_kept (u.PointerTo qs d) k i = i
  direct_kept (u.Declared n) k i = i
  direct_kept (u.Group d) k i = i
  direct_kept (u.ArrayOf d n) k i = i
  direct_kept (u.FunctionOf d ps) k i = i

  pub spelled_kept : (d : Declarator) (k : ℕ) → IsSpelled d → IsSpelled (tag_declarator max h d k).tree
  spelled_kept (u.PointerTo qs d) k i = i
  spelled_kept (u.Declared n) k i = i
  spelled_kept (u.Group d) k i = i
  spelled_kept (u.ArrayOf d n) k i = i
  spelled_kept (u.FunctionOf d ps) k i = i

  pub plain_kept : (d : Declarator) (k : ℕ) → IsPlain d → IsPlain (tag_declarator max h d k).tree
  plain_kept (u.PointerTo qs d) k i = i
  plain_kept (u.Declared n) k i = i
  plain_kept (u.Group d) k i = plain_kept d k i
  plain_kept (u.ArrayOf d n) k i = i
  plain_kept (u.FunctionOf d ps) k i = i

  pub function_kept : (d : Declarator) (k : ℕ) → IsFunction d → IsFunction (tag_declarator max h d k).tree
  function_kept (u.PointerTo qs d) k i = function_kept d k i
  function_kept (u.Declared n) k i = i
  function_kept (u.Group d) k i = function_kept d k i
  function_kept (u.ArrayOf d n) k i = function_kept d k i
  function_kept (u.FunctionOf d ps) k (inl i) = inl (plain_kept d k i)
  function_kept (u.FunctionOf d ps) k (inr i) = inr (function_kept d k i)

  pub open_kept : (s : Stmt) (k : ℕ) → is_open (tag_stmt max h s k).tree ≡ is_open s
  open_kept (u.Block items) k = refl
  open_kept (u.ExprStmt e) k = refl
  open_kept (u.If c s) k = refl
  open_kept (u.IfElse c s x) k = open_kept x _
  open_kept (u.While c s) k = open_kept s _
  open_kept (u.Do s c) k = refl
  open_kept (u.For i c e s) k = open_kept s _
  open_kept u.Break k = refl
  open_kept u.Continue k = refl
  open_kept (u.Return e) k = refl

typedef_behind : (w : Word) (a b : Specs) → has_typedef a ≡ has_typedef b → has_typedef (u.Keyword w a) ≡ has_typedef (u.Keyword w b)
typedef_behind t.KTypedef a b e = refl
typedef_behind t.KExtern a b e = e
typedef_behind t.KStatic a b e = e
typedef_behind t.KAuto a b e = e
typedef_behind t.KRegister a b e = e
typedef_behind t.KInline a b e = e
typedef_behind t.KConst a b e = e
typedef_behind t.KVolatile a b e = e
typedef_behind t.KRestrict a b e = e
typedef_behind t.KVoid a b e = e
typedef_behind t.KBool a b e = e
typedef_behind t.KChar a b e = e
typedef_behind t.KShort a b e = e
typedef_behind t.KInt a b e = e
typedef_behind t.KLong a b e = e
typedef_behind t.KSigned a b e = e
typedef_behind t.KUnsigned a b e = e
typedef_behind t.KStruct a b e = e
typedef_behind t.KUnion a b e = e
typedef_behind t.KEnum a b e = e
typedef_behind t.KSizeof a b e = e
typedef_behind t.KIf a b e = e
typedef_behind t.KElse a b e = e
typedef_behind t.KWhile a b e = e
typedef_behind t.KDo a b e = e
typedef_behind t.KFor a b e = e
typedef_behind t.KBreak a b e = e
typedef_behind t.KContinue a b e = e
typedef_behind t.KReturn a b e = e
typedef_behind t.KSwitch a b e = e
typedef_behind t.KCase a b e = e
typedef_behind t.KDefault a b e = e
typedef_behind t.KAttribute a b e = e
typedef_behind t.KBuiltin a b e = e

-- ---- the names that are typedef names behind a part

module _ (max : ℕ) (h : Hooks) where
  pub typedef_kept : (ss : Specs) (k : ℕ) → has_typedef (tag_specs max h ss k).tree ≡ has_typedef ss
  typedef_kept u.no_specs k = refl
  typedef_kept (u.Keyword w ss) k = typedef_behind w (tag_specs max h ss k).tree ss (typedef_kept ss k)
  typedef_kept (u.Typedef n ss) k = typedef_kept ss k
  typedef_kept (u.Attribute es ss) k = typedef_kept ss k
  typedef_kept (u.Record is_union n b ss) k = typedef_kept ss _
  typedef_kept (u.Enum n b ss) k = typedef_kept ss _

  pub declarator_env : (ss zs : Specs) (d : Declarator) (k : ℕ) (env : Env) → has_typedef zs ≡ has_typedef ss
      → after_declarator zs (tag_declarator max h d k).tree env ≡ after_declarator ss d env
  declarator_env ss zs d k env e =
      ap (λ b. with_name b (declared_name (tag_declarator max h d k).tree) env) e ∙ ap (λ n. with_name (has_typedef ss) n env) (declared_kept max h d k)

  pub items_env : (ss zs : Specs) (is : List Item) (k : ℕ) (env : Env) → has_typedef zs ≡ has_typedef ss
      → after_items zs (tag_items max h is k).tree env ≡ after_items ss is env
  items_env ss zs [] k env e = refl
  items_env ss zs (i ∷ is) k env e =
      ap (after_items zs (tag_items max h is (tag_item max h i k).next).tree) (declarator_env ss zs i.declarator k env e)
      ∙ items_env ss zs is (tag_item max h i k).next (after_declarator ss i.declarator env) e

  pub declaration_env : (d : Declaration) (k : ℕ) (env : Env) → after_declaration (tag_declaration max h d k).tree env ≡ after_declaration d env
  declaration_env d k env = items_env d.specs (tag_specs max h d.specs k).tree d.items (tag_specs max h d.specs k).next env (typedef_kept d.specs k)

  pub first_env : (i : First) (k : ℕ) (env : Env) → after_first (tag_first max h i k).tree env ≡ after_first i env
  first_env (u.FirstDeclaration d) k env = declaration_env d k env
  first_env (u.FirstExpr e) k env = refl

  mutual
    pub stmt_env : (s : Stmt) (k : ℕ) (env : Env) → after_stmt (tag_stmt max h s k).tree env ≡ after_stmt s env
    stmt_env (u.Block items) k env = block_env items k env
    stmt_env (u.ExprStmt e) k env = refl
    stmt_env (u.If c s) k env = stmt_env s _ env
    stmt_env (u.IfElse c s x) k env =
        let m = (tag max h c k).next in
        ap (after_stmt (tag_stmt max h x (tag_stmt max h s m).next).tree) (stmt_env s m env) ∙ stmt_env x _ (after_stmt s env)
    stmt_env (u.While c s) k env = stmt_env s _ env
    stmt_env (u.Do s c) k env = stmt_env s k env
    stmt_env (u.For i c e s) k env = ap (after_stmt (tag_stmt max h s _).tree) (first_env i k env) ∙ stmt_env s _ (after_first i env)
    stmt_env u.Break k env = refl
    stmt_env u.Continue k env = refl
    stmt_env (u.Return e) k env = refl

    pub block_env : (is : BlockItems) (k : ℕ) (env : Env) → after_block (tag_block max h is k).tree env ≡ after_block is env
    block_env u.no_items k env = refl
    block_env (u.declared d is) k env =
        ap (after_block (tag_block max h is (tag_declaration max h d k).next).tree) (declaration_env d k env) ∙ block_env is _ (after_declaration d env)
    block_env (u.statement s is) k env =
        ap (after_block (tag_block max h is (tag_stmt max h s k).next).tree) (stmt_env s k env) ∙ block_env is _ (after_stmt s env)

  pub external_env : (x : External) (k : ℕ) (env : Env) → after_external (tag_external max h x k).tree env ≡ after_external x env
  external_env (u.Declares d) k env = declaration_env d k env
  external_env (u.Definition ss d items) k env =
      let m = (tag_specs max h ss k).next in
      let n = (tag_declarator max h d m).next in
      ap (after_block (tag_block max h items n).tree) (declarator_env ss (tag_specs max h ss k).tree d m env (typedef_kept ss k))
      ∙ block_env items n (after_declarator ss d env)
