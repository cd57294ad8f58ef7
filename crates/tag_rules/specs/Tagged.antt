-- The unit in which each site calls its entry point with its token, and each mark is its token as a number.
use Rattle.std.specs.Prelude.{ℕ, ◌==◌, if◌then◌else◌, List, [], ◌∷◌, ◌++◌, map, Option, Some, None}
use Rattle.c_tree.specs.Marked as m
use Rattle.c_tree.specs.declared.operator.At.{At}
use Rattle.c_rules.specs.Known.{Known}
use Rattle.token_modes.specs.declared.plan.Plan.{Plan}
use Rattle.tag_rules.specs.Tokens.{Stream, SiteToken, MarkToken, Tok, tok}
use Rattle.tag_rules.specs.EntryPoints.{entry_point, constant, prototypes}
use Rattle.tag_rules.specs.Renumbered.{renumbered}
use Rattle.tag_rules.specs.declared.abi.Abi.{Abi}
use Rattle.tag_rules.specs.declared.abi.Abi.TheVariants.{Standard, Fast}

-- the site, and the mark, that the node of this number is
abbrev pub site_at : List SiteToken → ℕ → Option SiteToken
site_at [] node = None
site_at (s ∷ ss) node = if s.node == node then Some s else site_at ss node

abbrev pub mark_at : List MarkToken → ℕ → Option MarkToken
mark_at [] node = None
mark_at (x ∷ xs) node = if x.node == node then Some x else mark_at xs node

-- ---- a site

-- the called name, perhaps in parentheses, is replaced
abbrev pub calling : List ℕ → m.Expr → m.Expr
calling name (m.Paren at f) = m.Paren at (calling name f)
calling name (m.Name at n) = m.Name at name
calling name f = f

abbrev pub with_last : m.Exprs → m.Expr → m.Exprs
with_last m.no_exprs last = m.expr last m.no_exprs
with_last (m.expr a es) last = m.expr a (with_last es last)

-- with the token as last argument, which stands where the call does
abbrev pub passed : Abi → At → ℕ → m.Exprs → m.Exprs
passed Standard at token es = with_last es (m.Number at (constant token))
passed Fast at token es = es

abbrev pub call_of : Abi → At → Option SiteToken → m.Expr → m.Exprs → m.Expr
call_of abi at None f es = m.Call at f es
call_of abi at (Some s) f es = m.Call at (calling (entry_point abi s.callee s.token) f) (passed abi at s.token es)

-- ---- a builtin

abbrev pub builtin_of : At → Option MarkToken → m.Exprs → m.Expr
builtin_of at None es = m.Builtin at es
builtin_of at (Some x) es = m.Number at (constant x.token)

-- ---- expressions: type names, specifiers and declarators have neither sites nor marks

module _ (abi : Abi) (tok : Tok) where
  abbrev mutual
    pub tag : m.Expr → m.Expr
    tag (m.Comma at a b) = m.Comma at (tag a) (tag b)
    tag (m.Assign at a o b) = m.Assign at (tag a) o (tag b)
    tag (m.Cond at c a b) = m.Cond at (tag c) (tag a) (tag b)
    tag (m.Binary at a o b) = m.Binary at (tag a) o (tag b)
    tag (m.Cast at n a) = m.Cast at n (tag a)
    tag (m.Prefix at o a) = m.Prefix at o (tag a)
    tag (m.SizeofExpr at a) = m.SizeofExpr at (tag a)
    tag (m.SizeofType at n) = m.SizeofType at n
    tag (m.Index at a b) = m.Index at (tag a) (tag b)
    tag (m.Call at f es) = call_of abi at (site_at tok.sites at.id) (tag f) (tag_all es)
    tag (m.Dot at a n) = m.Dot at (tag a) n
    tag (m.Arrow at a n) = m.Arrow at (tag a) n
    tag (m.Post at a s) = m.Post at (tag a) s
    tag (m.Name at n) = m.Name at n
    tag (m.Number at n) = m.Number at n
    tag (m.Char at c) = m.Char at c
    tag (m.Text at ts) = m.Text at ts
    tag (m.Paren at a) = m.Paren at (tag a)
    tag (m.Builtin at es) = builtin_of at (mark_at tok.marks at.id) es

    pub tag_all : m.Exprs → m.Exprs
    tag_all m.no_exprs = m.no_exprs
    tag_all (m.expr a es) = m.expr (tag a) (tag_all es)

  abbrev pub tag_maybe : m.MaybeExpr → m.MaybeExpr
  tag_maybe m.no_expr = m.no_expr
  tag_maybe (m.some_expr a) = m.some_expr (tag a)

  -- ---- initialisers and declarations

  abbrev mutual
    pub tag_init : m.Init → m.Init
    tag_init (m.Plain a) = m.Plain (tag a)
    tag_init (m.Braces at gs comma) = m.Braces at (tag_inits gs) comma

    pub tag_inits : m.Inits → m.Inits
    tag_inits m.no_inits = m.no_inits
    tag_inits (m.init g gs) = m.init (tag_init g) (tag_inits gs)

  abbrev pub tag_maybe_init : m.MaybeInit → m.MaybeInit
  tag_maybe_init m.no_init = m.no_init
  tag_maybe_init (m.some_init g) = m.some_init (tag_init g)

  abbrev pub tag_item : m.Item → m.Item
  tag_item item = record item { init = tag_maybe_init item.init }

  abbrev pub tag_declaration : m.Declaration → m.Declaration
  tag_declaration d = record d { items = map tag_item d.items }

  -- ---- statements

  abbrev pub tag_first : m.First → m.First
  tag_first (m.FirstDeclaration d) = m.FirstDeclaration (tag_declaration d)
  tag_first (m.FirstExpr e) = m.FirstExpr (tag_maybe e)

  abbrev mutual
    pub tag_stmt : m.Stmt → m.Stmt
    tag_stmt (m.Block at items) = m.Block at (tag_block items)
    tag_stmt (m.ExprStmt at e) = m.ExprStmt at (tag_maybe e)
    tag_stmt (m.If at c s) = m.If at (tag c) (tag_stmt s)
    tag_stmt (m.IfElse at c s r) = m.IfElse at (tag c) (tag_stmt s) (tag_stmt r)
    tag_stmt (m.While at c s) = m.While at (tag c) (tag_stmt s)
    tag_stmt (m.Do at s c) = m.Do at (tag_stmt s) (tag c)
    tag_stmt (m.For at f c e s) = m.For at (tag_first f) (tag_maybe c) (tag_maybe e) (tag_stmt s)
    tag_stmt (m.Break at) = m.Break at
    tag_stmt (m.Continue at) = m.Continue at
    tag_stmt (m.Return at e) = m.Return at (tag_maybe e)

    pub tag_block : m.BlockItems → m.BlockItems
    tag_block m.no_items = m.no_items
    tag_block (m.declared d items) = m.declared (tag_declaration d) (tag_block items)
    tag_block (m.statement s items) = m.statement (tag_stmt s) (tag_block items)

  -- ---- the unit

  abbrev pub tag_external : m.External → m.External
  tag_external (m.Declares d) = m.Declares (tag_declaration d)
  tag_external (m.Definition at ss d body_at items) = m.Definition at ss d body_at (tag_block items)

-- behind the declarations of the entry points that are used, with numbers of its own
abbrev pub tagged_with : Abi → Tok → List m.External → List m.External
tagged_with abi tok u = renumbered (prototypes abi tok.sites ++ map (tag_external abi tok) u)

unfoldable pub tagged : Known → Plan → Abi → Stream → List m.External → List m.External
tagged known plan abi stream u = tagged_with abi (tok known plan stream u) u
