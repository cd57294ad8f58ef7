-- The unit with each allocation call calling its entry point with its token. An allocation call, or site, is a direct
-- call of malloc, calloc or realloc (ISO/IEC 9899:2018, 7.22.3), the name perhaps in parentheses, outside the operands
-- of sizeof and of the builtin, where the name stands for the library's function throughout the unit.
use Rattle.std.specs.Prelude.{ℕ, ◌+◌, ◌%◌, Bool, false, ◌&&◌, ◌||◌, not, ◌++◌, bytes_eq, codes, decimal, List, [], ◌∷◌, take, map, filter, Option, Some, None, if◌then◌else◌}
use Rattle.std.specs.List.{list_any}
use Rattle.c_tree.specs.Tok.{KVoid, KUnsigned, KLong}
use Rattle.c_tree.specs.Tree as u
use Rattle.c_tree.specs.Tree.{Expr, Exprs, MaybeExpr, Specs, Fields, MaybeFields, Declarators, Declarator, MaybeDeclarator, Enumerators, MaybeEnumerators, Params, Init, Inits, MaybeInit, Item, Declaration, First, Stmt, BlockItems, External}
use Rattle.call_rewriter.specs.Mentions.{Mention, declares_function, declares, enumerates, calls, unit_mentions}

-- ---- the allocation functions

pub data Callee : Type 0 where
  Malloc : Callee
  Calloc : Callee
  Realloc : Callee

abbrev pub callee_name : Callee → List ℕ
callee_name Malloc = codes "malloc"
callee_name Calloc = codes "calloc"
callee_name Realloc = codes "realloc"

abbrev pub callee_of : List ℕ → Option Callee
callee_of n =
    if bytes_eq n (codes "malloc") then Some Malloc
    else if bytes_eq n (codes "calloc") then Some Calloc
    else if bytes_eq n (codes "realloc") then Some Realloc
    else None

-- ---- which functions have sites

-- it begins `__alloc_token_`
abbrev pub is_reserved : List ℕ → Bool
is_reserved n = bytes_eq (take 14 n) (codes "__alloc_token_")

-- a mention by which the name isn't that of the library's function throughout
abbrev pub hides : Callee → Mention → Bool
hides c (declares_function n) = is_reserved n
hides c (declares n) = is_reserved n || bytes_eq n (callee_name c)
hides c (enumerates n) = bytes_eq n (callee_name c)
hides c (calls n) = false

-- direct calls of this function are sites of the unit
abbrev pub is_hooked : List Mention → Callee → Bool
is_hooked ms c = not (list_any (hides c) ms)

-- for each allocation function, whether calls of it are sites
pub record Hooks : Type 0 where
  pub malloc : Bool
  pub calloc : Bool
  pub realloc : Bool

abbrev pub hooks_of : List Mention → Hooks
hooks_of ms = record { malloc = is_hooked ms Malloc; calloc = is_hooked ms Calloc; realloc = is_hooked ms Realloc }

-- in an operand of sizeof or of the builtin no call is a site
abbrev pub no_hooks : Hooks
no_hooks = record { malloc = false; calloc = false; realloc = false }

-- ---- which calls are sites

abbrev pub hook : Hooks → Callee → Bool
hook h Malloc = h.malloc
hook h Calloc = h.calloc
hook h Realloc = h.realloc

abbrev pub only_hooked : Hooks → Option Callee → Option Callee
only_hooked h None = None
only_hooked h (Some c) = if hook h c then Some c else None

-- the allocation function that a call of this name is a site of
abbrev pub site_of : Hooks → List ℕ → Option Callee
site_of h n = only_hooked h (callee_of n)

-- the function that a call of this expression is a site of
abbrev pub site_in : Hooks → Expr → Option Callee
site_in h (u.Paren f) = site_in h f
site_in h (u.Name f) = site_of h f
site_in h f = None

-- ---- a site's call

abbrev pub entry_point : Callee → List ℕ
entry_point c = codes "__alloc_token_" ++ callee_name c

-- the called name, with its parentheses, as the entry point's
abbrev pub entered : Callee → Expr → Expr
entered c (u.Paren f) = u.Paren (entered c f)
entered c f = u.Name (entry_point c)

-- the k-th site has the token k mod max, spelled in decimal with UL
abbrev pub token : ℕ → ℕ → Expr
token max k = u.Number (decimal (k % max) ++ codes "UL")

abbrev pub with_last : Exprs → Expr → Exprs
with_last u.no_exprs last = u.expr last u.no_exprs
with_last (u.expr a xs) last = u.expr a (with_last xs last)

-- ---- parts with their sites tagged, where k sites stand before: the part, and the number of sites before the next

pub record Numbered (A : Type 0) : Type 0 where
  pub tree : A
  pub next : ℕ

abbrev pub Tagging : Type 0 → Type 0
Tagging A = ℕ → Numbered A

abbrev pub as_is : {A : Type 0} → A → Tagging A
as_is a k = record { tree = a; next = k }

abbrev pub one : {A B : Type 0} → (A → B) → Tagging A → Tagging B
one f a k = let t = a k in record { tree = f t.tree; next = t.next }

abbrev pub two : {A B C : Type 0} → (A → B → C) → Tagging A → Tagging B → Tagging C
two f a b k = let s = a k in let t = b s.next in record { tree = f s.tree t.tree; next = t.next }

abbrev pub three : {A B C D : Type 0} → (A → B → C → D) → Tagging A → Tagging B → Tagging C → Tagging D
three f a b c = two (λ g x. g x) (two f a b) c

abbrev pub four : {A B C D E : Type 0} → (A → B → C → D → E) → Tagging A → Tagging B → Tagging C → Tagging D → Tagging E
four f a b c d = two (λ g x. g x) (three f a b c) d

-- the k-th site calls the entry point with the token k mod max
abbrev pub tag_site : ℕ → Expr → Tagging Exprs → Tagging Expr
tag_site max name xs k = let t = xs (k + 1) in record { tree = u.Call name (with_last t.tree (token max k)); next = t.next }

abbrev pub tag_call : ℕ → Option Callee → Expr → Tagging Expr → Tagging Exprs → Tagging Expr
tag_call max None f g xs = two u.Call g xs
tag_call max (Some c) f g xs = tag_site max (entered c f) xs

-- ---- expressions, specs and declarators

abbrev mutual
  pub tag : ℕ → Hooks → Expr → Tagging Expr
  tag max h (u.Comma a b) = two u.Comma (tag max h a) (tag max h b)
  tag max h (u.Assign a op b) = two (λ a b. u.Assign a op b) (tag max h a) (tag max h b)
  tag max h (u.Cond c a b) = three u.Cond (tag max h c) (tag max h a) (tag max h b)
  tag max h (u.Binary a op b) = two (λ a b. u.Binary a op b) (tag max h a) (tag max h b)
  tag max h (u.Cast ss d a) = three u.Cast (tag_specs max h ss) (tag_maybe_declarator max h d) (tag max h a)
  tag max h (u.Prefix op a) = one (u.Prefix op) (tag max h a)
  tag max h (u.SizeofExpr a) = one u.SizeofExpr (tag max no_hooks a)
  tag max h (u.SizeofType ss d) = two u.SizeofType (tag_specs max no_hooks ss) (tag_maybe_declarator max no_hooks d)
  tag max h (u.Index a b) = two u.Index (tag max h a) (tag max h b)
  tag max h (u.Call f xs) = tag_call max (site_in h f) f (tag max h f) (tag_exprs max h xs)
  tag max h (u.Dot a n) = one (λ a. u.Dot a n) (tag max h a)
  tag max h (u.Arrow a n) = one (λ a. u.Arrow a n) (tag max h a)
  tag max h (u.Post a up) = one (λ a. u.Post a up) (tag max h a)
  tag max h (u.Name n) = as_is (u.Name n)
  tag max h (u.Number n) = as_is (u.Number n)
  tag max h (u.Char n) = as_is (u.Char n)
  tag max h (u.Text ts) = as_is (u.Text ts)
  tag max h (u.Paren a) = one u.Paren (tag max h a)
  tag max h (u.Builtin xs) = one u.Builtin (tag_exprs max no_hooks xs)

  pub tag_exprs : ℕ → Hooks → Exprs → Tagging Exprs
  tag_exprs max h u.no_exprs = as_is u.no_exprs
  tag_exprs max h (u.expr a xs) = two u.expr (tag max h a) (tag_exprs max h xs)

  pub tag_maybe : ℕ → Hooks → MaybeExpr → Tagging MaybeExpr
  tag_maybe max h u.no_expr = as_is u.no_expr
  tag_maybe max h (u.some_expr a) = one u.some_expr (tag max h a)

  pub tag_specs : ℕ → Hooks → Specs → Tagging Specs
  tag_specs max h u.no_specs = as_is u.no_specs
  tag_specs max h (u.Keyword w ss) = one (u.Keyword w) (tag_specs max h ss)
  tag_specs max h (u.Typedef n ss) = one (u.Typedef n) (tag_specs max h ss)
  tag_specs max h (u.Attribute es ss) = one (u.Attribute es) (tag_specs max h ss)
  tag_specs max h (u.Record is_union n b ss) = two (u.Record is_union n) (tag_body max h b) (tag_specs max h ss)
  tag_specs max h (u.Enum n b ss) = two (u.Enum n) (tag_list max h b) (tag_specs max h ss)

  pub tag_body : ℕ → Hooks → MaybeFields → Tagging MaybeFields
  tag_body max h u.no_body = as_is u.no_body
  tag_body max h (u.body fs) = one u.body (tag_fields max h fs)

  pub tag_fields : ℕ → Hooks → Fields → Tagging Fields
  tag_fields max h u.no_fields = as_is u.no_fields
  tag_fields max h (u.Field ss ds fs) = three u.Field (tag_specs max h ss) (tag_declarators max h ds) (tag_fields max h fs)

  pub tag_declarators : ℕ → Hooks → Declarators → Tagging Declarators
  tag_declarators max h u.no_declarators = as_is u.no_declarators
  tag_declarators max h (u.declarator d ds) = two u.declarator (tag_declarator max h d) (tag_declarators max h ds)

  pub tag_list : ℕ → Hooks → MaybeEnumerators → Tagging MaybeEnumerators
  tag_list max h u.no_list = as_is u.no_list
  tag_list max h (u.list es comma) = one (λ es. u.list es comma) (tag_enumerators max h es)

  pub tag_enumerators : ℕ → Hooks → Enumerators → Tagging Enumerators
  tag_enumerators max h u.no_enumerators = as_is u.no_enumerators
  tag_enumerators max h (u.Enumerator n v es) = two (u.Enumerator n) (tag_maybe max h v) (tag_enumerators max h es)

  pub tag_maybe_declarator : ℕ → Hooks → MaybeDeclarator → Tagging MaybeDeclarator
  tag_maybe_declarator max h u.no_declarator = as_is u.no_declarator
  tag_maybe_declarator max h (u.some_declarator d) = one u.some_declarator (tag_declarator max h d)

  pub tag_declarator : ℕ → Hooks → Declarator → Tagging Declarator
  tag_declarator max h (u.PointerTo qs d) = one (u.PointerTo qs) (tag_declarator max h d)
  tag_declarator max h (u.Declared n) = as_is (u.Declared n)
  tag_declarator max h (u.Group d) = one u.Group (tag_declarator max h d)
  tag_declarator max h (u.ArrayOf d n) = two u.ArrayOf (tag_declarator max h d) (tag_maybe max h n)
  tag_declarator max h (u.FunctionOf d ps) = two u.FunctionOf (tag_declarator max h d) (tag_params max h ps)

  pub tag_params : ℕ → Hooks → Params → Tagging Params
  tag_params max h u.no_params = as_is u.no_params
  tag_params max h (u.Param ss d ps) = three u.Param (tag_specs max h ss) (tag_maybe_declarator max h d) (tag_params max h ps)

-- ---- declarations

abbrev mutual
  pub tag_init : ℕ → Hooks → Init → Tagging Init
  tag_init max h (u.Plain a) = one u.Plain (tag max h a)
  tag_init max h (u.Braces is comma) = one (λ is. u.Braces is comma) (tag_inits max h is)

  pub tag_inits : ℕ → Hooks → Inits → Tagging Inits
  tag_inits max h u.no_inits = as_is u.no_inits
  tag_inits max h (u.init i is) = two u.init (tag_init max h i) (tag_inits max h is)

abbrev pub tag_maybe_init : ℕ → Hooks → MaybeInit → Tagging MaybeInit
tag_maybe_init max h u.no_init = as_is u.no_init
tag_maybe_init max h (u.some_init i) = one u.some_init (tag_init max h i)

abbrev pub tag_item : ℕ → Hooks → Item → Tagging Item
tag_item max h i = two (λ d init. record { declarator = d; attributes = i.attributes; init = init }) (tag_declarator max h i.declarator) (tag_maybe_init max h i.init)

abbrev pub tag_items : ℕ → Hooks → List Item → Tagging (List Item)
tag_items max h [] = as_is []
tag_items max h (i ∷ is) = two (λ i is. i ∷ is) (tag_item max h i) (tag_items max h is)

abbrev pub tag_declaration : ℕ → Hooks → Declaration → Tagging Declaration
tag_declaration max h d = two (λ ss is. record { specs = ss; items = is }) (tag_specs max h d.specs) (tag_items max h d.items)

abbrev pub tag_first : ℕ → Hooks → First → Tagging First
tag_first max h (u.FirstDeclaration d) = one u.FirstDeclaration (tag_declaration max h d)
tag_first max h (u.FirstExpr e) = one u.FirstExpr (tag_maybe max h e)

-- ---- statements

abbrev mutual
  pub tag_stmt : ℕ → Hooks → Stmt → Tagging Stmt
  tag_stmt max h (u.Block items) = one u.Block (tag_block max h items)
  tag_stmt max h (u.ExprStmt e) = one u.ExprStmt (tag_maybe max h e)
  tag_stmt max h (u.If c s) = two u.If (tag max h c) (tag_stmt max h s)
  tag_stmt max h (u.IfElse c s t) = three u.IfElse (tag max h c) (tag_stmt max h s) (tag_stmt max h t)
  tag_stmt max h (u.While c s) = two u.While (tag max h c) (tag_stmt max h s)
  tag_stmt max h (u.Do s c) = two u.Do (tag_stmt max h s) (tag max h c)
  tag_stmt max h (u.For i c e s) = four u.For (tag_first max h i) (tag_maybe max h c) (tag_maybe max h e) (tag_stmt max h s)
  tag_stmt max h u.Break = as_is u.Break
  tag_stmt max h u.Continue = as_is u.Continue
  tag_stmt max h (u.Return e) = one u.Return (tag_maybe max h e)

  pub tag_block : ℕ → Hooks → BlockItems → Tagging BlockItems
  tag_block max h u.no_items = as_is u.no_items
  tag_block max h (u.declared d is) = two u.declared (tag_declaration max h d) (tag_block max h is)
  tag_block max h (u.statement s is) = two u.statement (tag_stmt max h s) (tag_block max h is)

-- ---- external declarations

abbrev pub tag_external : ℕ → Hooks → External → Tagging External
tag_external max h (u.Declares d) = one u.Declares (tag_declaration max h d)
tag_external max h (u.Definition ss d items) = three u.Definition (tag_specs max h ss) (tag_declarator max h d) (tag_block max h items)

abbrev pub tag_externals : ℕ → Hooks → List External → Tagging (List External)
tag_externals max h [] = as_is []
tag_externals max h (x ∷ xs) = two (λ x xs. x ∷ xs) (tag_external max h x) (tag_externals max h xs)

-- ---- the prototypes of the entry points

abbrev pub size_then : Params → Params
size_then = u.Param (u.Keyword KUnsigned (u.Keyword KLong u.no_specs)) u.no_declarator

abbrev pub address_then : Params → Params
address_then = u.Param (u.Keyword KVoid u.no_specs) (u.some_declarator (u.PointerTo [] (u.Declared None)))

-- the function's parameters, and behind them the token
abbrev pub entry_params : Callee → Params
entry_params Malloc = size_then (size_then u.no_params)
entry_params Calloc = size_then (size_then (size_then u.no_params))
entry_params Realloc = address_then (size_then (size_then u.no_params))

abbrev pub entry_declarator : Callee → Declarator
entry_declarator c = u.PointerTo [] (u.FunctionOf (u.Declared (Some (entry_point c))) (entry_params c))

-- void * entry_point ( parameters ) ;
abbrev pub prototype : Callee → External
prototype c = u.Declares (record {
  specs = u.Keyword KVoid u.no_specs;
  items = record { declarator = entry_declarator c; attributes = []; init = u.no_init } ∷ [];
})

-- a mention by which this function is called
abbrev pub is_called : Callee → Mention → Bool
is_called c (calls n) = bytes_eq n (callee_name c)
is_called c (declares_function n) = false
is_called c (declares n) = false
is_called c (enumerates n) = false

-- some site calls this function
abbrev pub is_used : List Mention → Callee → Bool
is_used ms c = is_hooked ms c && list_any (is_called c) ms

-- the prototypes of the entry points, in this order, of those that some site calls
abbrev pub prototypes : List Mention → List External
prototypes ms = map prototype (filter (is_used ms) (Malloc ∷ Calloc ∷ Realloc ∷ []))

-- ---- the unit

abbrev pub tagged : ℕ → List External → List External
tagged max u = let ms = unit_mentions u in prototypes ms ++ (tag_externals max (hooks_of ms) u 0).tree
