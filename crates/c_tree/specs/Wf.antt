-- Which trees are well formed (ISO/IEC 9899:2018, A.2): each part has the level that its place demands, each token is one, and
-- names are typedef names where the grammar takes them as such. env has the typedef names so far; it changes only at the
-- declarators of a declaration and of a definition.
use Rattle.std.specs.Prelude.{◌≡◌, ℕ, suc, ◌≤◌, ◌⊎◌, Bool, true, false, ◌||◌, List, [], ◌∷◌, Option, Some, None, IsSome, IsNone}
use Rattle.std.specs.List.{list_any, AllByRecursion}
use Rattle.c_tree.specs.Tok as t
use Rattle.c_tree.specs.Tok.{Word}
use Rattle.c_tree.specs.Text.{IsName, IsNumber, IsChar, IsText, same_text}
use Rattle.c_tree.specs.Tree as u
use Rattle.c_tree.specs.Tree.{BinaryOp, PrefixOp, Expr, Exprs, MaybeExpr, Specs, Fields, MaybeFields, Declarators, Declarator, MaybeDeclarator, Enumerators, MaybeEnumerators, Params, Init, Inits, MaybeInit, Item, Declaration, First, Stmt, BlockItems, External, Entry, Argument}

abbrev pub Env : Type 0
Env = List (List ℕ)

abbrev pub is_type : Env → List ℕ → Bool
is_type env n = list_any (same_text n) env

-- ---- levels of expressions, the weakest first: expression 1 (6.5.17), assignment-expression 2 (6.5.16),
-- conditional-expression 3 (6.5.15), binary operators 4 (6.5.14) to 13 (6.5.5), cast-expression 14 (6.5.4),
-- unary-expression 15 (6.5.3), postfix-expression and primary-expression 16 (6.5.2, 6.5.1)

abbrev pub prec : BinaryOp → ℕ
prec u.Or = 4
prec u.And = 5
prec u.BitOr = 6
prec u.BitXor = 7
prec u.BitAnd = 8
prec u.Eq = 9
prec u.Ne = 9
prec u.Lt = 10
prec u.Gt = 10
prec u.Le = 10
prec u.Ge = 10
prec u.Shl = 11
prec u.Shr = 11
prec u.Add = 12
prec u.Sub = 12
prec u.Mul = 13
prec u.Div = 13
prec u.Rem = 13

abbrev pub level : Expr → ℕ
level (u.Comma a b) = 1
level (u.Assign a op b) = 2
level (u.Cond c a b) = 3
level (u.Binary a op b) = prec op
level (u.Cast ss d a) = 14
level (u.Prefix op a) = 15
level (u.SizeofExpr a) = 15
level (u.SizeofType ss d) = 15
level (u.Index a b) = 16
level (u.Call f xs) = 16
level (u.Dot a n) = 16
level (u.Arrow a n) = 16
level (u.Post a up) = 16
level (u.Name n) = 16
level (u.Number n) = 16
level (u.Char n) = 16
level (u.Text ts) = 16
level (u.Paren a) = 16
level (u.Builtin xs) = 16

-- what an operator before its operand takes
abbrev pub operand_level : PrefixOp → ℕ
operand_level u.Increment = 15
operand_level u.Decrement = 15
operand_level u.Address = 14
operand_level u.Deref = 14
operand_level u.Positive = 14
operand_level u.Negative = 14
operand_level u.Complement = 14
operand_level u.Not = 14

-- ---- specs

abbrev pub is_specifier : Word → Bool
is_specifier t.KVoid = true
is_specifier t.KBool = true
is_specifier t.KChar = true
is_specifier t.KShort = true
is_specifier t.KInt = true
is_specifier t.KLong = true
is_specifier t.KSigned = true
is_specifier t.KUnsigned = true
is_specifier _ = false

abbrev pub is_qualifier : Word → Bool
is_qualifier t.KConst = true
is_qualifier t.KVolatile = true
is_qualifier t.KRestrict = true
is_qualifier _ = false

abbrev pub is_storage : Word → Bool
is_storage t.KTypedef = true
is_storage t.KExtern = true
is_storage t.KStatic = true
is_storage t.KAuto = true
is_storage t.KRegister = true
is_storage t.KInline = true
is_storage _ = false

-- whether a type specifier stands among the specs, or stood before
abbrev pub specified : Bool → Specs → Bool
specified seen u.no_specs = seen
specified seen (u.Keyword w ss) = specified (seen || is_specifier w) ss
specified seen (u.Typedef n ss) = true
specified seen (u.Attribute es ss) = specified seen ss
specified seen (u.Record is_union tag b ss) = true
specified seen (u.Enum tag b ss) = true

abbrev pub has_typedef : Specs → Bool
has_typedef u.no_specs = false
has_typedef (u.Keyword t.KTypedef ss) = true
has_typedef (u.Keyword _ ss) = has_typedef ss
has_typedef (u.Typedef n ss) = has_typedef ss
has_typedef (u.Attribute es ss) = has_typedef ss
has_typedef (u.Record is_union tag b ss) = has_typedef ss
has_typedef (u.Enum tag b ss) = has_typedef ss

abbrev pub IsOptName : Option (List ℕ) → Type 0
IsOptName None = Unit {0}
IsOptName (Some n) = IsName n

-- one or more Text tokens
abbrev pub WfTexts : List (List ℕ) → Type 0
WfTexts ts = (ts ≡ [] → ⊥) × AllByRecursion IsText ts

abbrev pub WfArgument : Argument → Type 0
WfArgument (u.NumberArgument n) = IsNumber n
WfArgument (u.TextArgument ts) = WfTexts ts

abbrev pub WfArguments : Option (List Argument) → Type 0
WfArguments None = Unit {0}
WfArguments (Some xs) = AllByRecursion WfArgument xs

abbrev pub WfAttribute : List Entry → Type 0
WfAttribute es = AllByRecursion (λ e. IsName e.name × WfArguments e.arguments) es

-- ---- declarators

-- the name that it declares, if any
abbrev pub declared_name : Declarator → Option (List ℕ)
declared_name (u.PointerTo qs d) = declared_name d
declared_name (u.Declared n) = n
declared_name (u.Group d) = declared_name d
declared_name (u.ArrayOf d n) = declared_name d
declared_name (u.FunctionOf d ps) = declared_name d

-- the name with which it begins, if it begins with one
abbrev pub leading_name : Declarator → Option (List ℕ)
leading_name (u.PointerTo qs d) = None
leading_name (u.Declared n) = n
leading_name (u.Group d) = None
leading_name (u.ArrayOf d n) = leading_name d
leading_name (u.FunctionOf d ps) = leading_name d

abbrev pub IsDirect : Declarator → Type 0
IsDirect (u.PointerTo qs d) = ⊥
IsDirect (u.Declared n) = Unit {0}
IsDirect (u.Group d) = Unit {0}
IsDirect (u.ArrayOf d n) = Unit {0}
IsDirect (u.FunctionOf d ps) = Unit {0}

-- it spells a token
abbrev pub IsSpelled : Declarator → Type 0
IsSpelled (u.PointerTo qs d) = Unit {0}
IsSpelled (u.Declared n) = IsSome n
IsSpelled (u.Group d) = Unit {0}
IsSpelled (u.ArrayOf d n) = Unit {0}
IsSpelled (u.FunctionOf d ps) = Unit {0}

-- behind specs, or behind a bracket (seen = false), a name that is a typedef name would be a specifier
abbrev pub IsApart : Env → Bool → Option (List ℕ) → Type 0
IsApart env seen None = Unit {0}
IsApart env seen (Some n) = is_type env n ≡ true → seen ≡ true

-- a name, perhaps in brackets
abbrev pub IsPlain : Declarator → Type 0
IsPlain (u.PointerTo qs d) = ⊥
IsPlain (u.Declared n) = Unit {0}
IsPlain (u.Group d) = IsPlain d
IsPlain (u.ArrayOf d n) = ⊥
IsPlain (u.FunctionOf d ps) = ⊥

-- it declares a function: what stands around the name is a list of parameters
abbrev pub IsFunction : Declarator → Type 0
IsFunction (u.PointerTo qs d) = IsFunction d
IsFunction (u.Declared n) = ⊥
IsFunction (u.Group d) = IsFunction d
IsFunction (u.ArrayOf d n) = IsFunction d
IsFunction (u.FunctionOf d ps) = IsPlain d ⊎ IsFunction d

abbrev mutual
  pub Wf : Env → Expr → Type 0
  Wf env (u.Comma a b) = Wf env a × (2 ≤ level b) × Wf env b
  Wf env (u.Assign a op b) = (15 ≤ level a) × Wf env a × (2 ≤ level b) × Wf env b
  Wf env (u.Cond c a b) = (4 ≤ level c) × Wf env c × Wf env a × (3 ≤ level b) × Wf env b
  Wf env (u.Binary a op b) = (prec op ≤ level a) × Wf env a × (suc (prec op) ≤ level b) × Wf env b
  Wf env (u.Cast ss d a) = (ss ≡ u.no_specs → ⊥) × WfSpecs env false ss × WfAbstract env d × (14 ≤ level a) × Wf env a
  Wf env (u.Prefix op a) = (operand_level op ≤ level a) × Wf env a
  Wf env (u.SizeofExpr a) = (15 ≤ level a) × Wf env a
  Wf env (u.SizeofType ss d) = (ss ≡ u.no_specs → ⊥) × WfSpecs env false ss × WfAbstract env d
  Wf env (u.Index a b) = (16 ≤ level a) × Wf env a × Wf env b
  Wf env (u.Call f xs) = (16 ≤ level f) × Wf env f × WfAll env xs
  Wf env (u.Dot a n) = (16 ≤ level a) × Wf env a × IsName n
  Wf env (u.Arrow a n) = (16 ≤ level a) × Wf env a × IsName n
  Wf env (u.Post a up) = (16 ≤ level a) × Wf env a
  Wf env (u.Name n) = IsName n × (is_type env n ≡ false)
  Wf env (u.Number n) = IsNumber n
  Wf env (u.Char n) = IsChar n
  Wf env (u.Text ts) = WfTexts ts
  Wf env (u.Paren a) = Wf env a
  Wf env (u.Builtin xs) = WfSome env xs

  pub WfAll : Env → Exprs → Type 0
  WfAll env u.no_exprs = Unit {0}
  WfAll env (u.expr a xs) = (2 ≤ level a) × Wf env a × WfAll env xs

  pub WfSome : Env → Exprs → Type 0
  WfSome env u.no_exprs = ⊥
  WfSome env (u.expr a xs) = (2 ≤ level a) × Wf env a × WfAll env xs

  -- an optional expression of this level at least
  pub WfMaybe : Env → MaybeExpr → ℕ → Type 0
  WfMaybe env u.no_expr at_least = Unit {0}
  WfMaybe env (u.some_expr a) at_least = (at_least ≤ level a) × Wf env a

  -- seen: a type specifier stands before
  pub WfSpecs : Env → Bool → Specs → Type 0
  WfSpecs env seen u.no_specs = Unit {0}
  WfSpecs env seen (u.Keyword w ss) = (is_specifier w || is_qualifier w || is_storage w ≡ true) × WfSpecs env (seen || is_specifier w) ss
  WfSpecs env seen (u.Typedef n ss) = IsName n × (is_type env n ≡ true) × (seen ≡ false) × WfSpecs env true ss
  WfSpecs env seen (u.Attribute es ss) = WfAttribute es × WfSpecs env seen ss
  WfSpecs env seen (u.Record is_union tag b ss) = IsOptName tag × WfBody env (tag ≡ None) b × WfSpecs env true ss
  WfSpecs env seen (u.Enum tag b ss) = IsOptName tag × WfList env (tag ≡ None) b × WfSpecs env true ss

  -- a body is there where there is no tag
  pub WfBody : Env → Type 0 → MaybeFields → Type 0
  WfBody env untagged u.no_body = untagged → ⊥
  WfBody env untagged (u.body fs) = WfFields env fs

  pub WfFields : Env → Fields → Type 0
  WfFields env u.no_fields = ⊥
  WfFields env (u.Field ss ds fs) = (ss ≡ u.no_specs → ⊥) × WfSpecs env false ss × WfDeclarators env (specified false ss) ds × WfMoreFields env fs

  pub WfMoreFields : Env → Fields → Type 0
  WfMoreFields env u.no_fields = Unit {0}
  WfMoreFields env (u.Field ss ds fs) = (ss ≡ u.no_specs → ⊥) × WfSpecs env false ss × WfDeclarators env (specified false ss) ds × WfMoreFields env fs

  pub WfDeclarators : Env → Bool → Declarators → Type 0
  WfDeclarators env seen u.no_declarators = ⊥
  WfDeclarators env seen (u.declarator d ds) = IsSome (declared_name d) × IsApart env seen (leading_name d) × WfDeclarator env d × WfMoreDeclarators env ds

  -- behind a comma a name may be a typedef name
  pub WfMoreDeclarators : Env → Declarators → Type 0
  WfMoreDeclarators env u.no_declarators = Unit {0}
  WfMoreDeclarators env (u.declarator d ds) = IsSome (declared_name d) × WfDeclarator env d × WfMoreDeclarators env ds

  pub WfList : Env → Type 0 → MaybeEnumerators → Type 0
  WfList env untagged u.no_list = untagged → ⊥
  WfList env untagged (u.list es comma) = WfEnumerators env es

  pub WfEnumerators : Env → Enumerators → Type 0
  WfEnumerators env u.no_enumerators = ⊥
  WfEnumerators env (u.Enumerator n v es) = IsName n × WfMaybe env v 3 × WfMoreEnumerators env es

  pub WfMoreEnumerators : Env → Enumerators → Type 0
  WfMoreEnumerators env u.no_enumerators = Unit {0}
  WfMoreEnumerators env (u.Enumerator n v es) = IsName n × WfMaybe env v 3 × WfMoreEnumerators env es

  pub WfAbstract : Env → MaybeDeclarator → Type 0
  WfAbstract env u.no_declarator = Unit {0}
  WfAbstract env (u.some_declarator d) = IsNone (declared_name d) × IsSpelled d × WfDeclarator env d

  pub WfEither : Env → Bool → MaybeDeclarator → Type 0
  WfEither env seen u.no_declarator = Unit {0}
  WfEither env seen (u.some_declarator d) = IsSpelled d × IsApart env seen (leading_name d) × WfDeclarator env d

  pub WfDeclarator : Env → Declarator → Type 0
  WfDeclarator env (u.PointerTo qs d) = AllByRecursion (λ w. is_qualifier w ≡ true) qs × WfDeclarator env d
  WfDeclarator env (u.Declared n) = IsOptName n
  WfDeclarator env (u.Group d) = IsSpelled d × IsApart env false (leading_name d) × WfDeclarator env d
  WfDeclarator env (u.ArrayOf d n) = IsDirect d × WfDeclarator env d × WfMaybe env n 3
  WfDeclarator env (u.FunctionOf d ps) = IsDirect d × WfDeclarator env d × WfParams env ps

  pub WfParams : Env → Params → Type 0
  WfParams env u.no_params = Unit {0}
  WfParams env (u.Param ss d ps) = (ss ≡ u.no_specs → ⊥) × WfSpecs env false ss × WfEither env (specified false ss) d × WfParams env ps

-- ---- declarations

abbrev mutual
  pub WfInit : Env → Init → Type 0
  WfInit env (u.Plain a) = (2 ≤ level a) × Wf env a
  WfInit env (u.Braces is comma) = WfInits env is

  pub WfInits : Env → Inits → Type 0
  WfInits env u.no_inits = ⊥
  WfInits env (u.init i is) = WfInit env i × WfMoreInits env is

  pub WfMoreInits : Env → Inits → Type 0
  WfMoreInits env u.no_inits = Unit {0}
  WfMoreInits env (u.init i is) = WfInit env i × WfMoreInits env is

abbrev pub WfMaybeInit : Env → MaybeInit → Type 0
WfMaybeInit env u.no_init = Unit {0}
WfMaybeInit env (u.some_init i) = WfInit env i

abbrev pub with_name : Bool → Option (List ℕ) → Env → Env
with_name true (Some n) env = n ∷ env
with_name _ _ env = env

-- the names after a declarator of such specs
abbrev pub after_declarator : Specs → Declarator → Env → Env
after_declarator ss d env = with_name (has_typedef ss) (declared_name d) env

abbrev pub after_items : Specs → List Item → Env → Env
after_items ss [] env = env
after_items ss (i ∷ is) env = after_items ss is (after_declarator ss i.declarator env)

abbrev pub after_declaration : Declaration → Env → Env
after_declaration d env = after_items d.specs d.items env

-- the initialiser stands after its declarator
abbrev pub WfItems : Env → Specs → Bool → List Item → Type 0
WfItems env ss seen [] = Unit {0}
WfItems env ss seen (i ∷ is) =
    IsSome (declared_name i.declarator) × IsApart env seen (leading_name i.declarator) × WfDeclarator env i.declarator
    × AllByRecursion WfAttribute i.attributes × WfMaybeInit (after_declarator ss i.declarator env) i.init
    × WfItems (after_declarator ss i.declarator env) ss true is

abbrev pub WfDeclaration : Env → Declaration → Type 0
WfDeclaration env d = (d.specs ≡ u.no_specs → ⊥) × WfSpecs env false d.specs × WfItems env d.specs (specified false d.specs) d.items

-- ---- statements

-- an else behind it would be its own
abbrev pub is_open : Stmt → Bool
is_open (u.Block items) = false
is_open (u.ExprStmt e) = false
is_open (u.If c s) = true
is_open (u.IfElse c s t) = is_open t
is_open (u.While c s) = is_open s
is_open (u.Do s c) = false
is_open (u.For i c s b) = is_open b
is_open u.Break = false
is_open u.Continue = false
is_open (u.Return e) = false

abbrev pub after_first : First → Env → Env
after_first (u.FirstDeclaration d) env = after_declaration d env
after_first (u.FirstExpr e) env = env

abbrev pub WfFirst : Env → First → Type 0
WfFirst env (u.FirstDeclaration d) = WfDeclaration env d
WfFirst env (u.FirstExpr e) = WfMaybe env e 1

abbrev mutual
  pub after_stmt : Stmt → Env → Env
  after_stmt (u.Block items) env = after_block items env
  after_stmt (u.ExprStmt e) env = env
  after_stmt (u.If c s) env = after_stmt s env
  after_stmt (u.IfElse c s t) env = after_stmt t (after_stmt s env)
  after_stmt (u.While c s) env = after_stmt s env
  after_stmt (u.Do s c) env = after_stmt s env
  after_stmt (u.For i c e s) env = after_stmt s (after_first i env)
  after_stmt u.Break env = env
  after_stmt u.Continue env = env
  after_stmt (u.Return e) env = env

  pub after_block : BlockItems → Env → Env
  after_block u.no_items env = env
  after_block (u.declared d is) env = after_block is (after_declaration d env)
  after_block (u.statement s is) env = after_block is (after_stmt s env)

abbrev mutual
  pub WfStmt : Env → Stmt → Type 0
  WfStmt env (u.Block items) = WfBlock env items
  WfStmt env (u.ExprStmt e) = WfMaybe env e 1
  WfStmt env (u.If c s) = Wf env c × WfStmt env s
  WfStmt env (u.IfElse c s t) = Wf env c × WfStmt env s × (is_open s ≡ false) × WfStmt (after_stmt s env) t
  WfStmt env (u.While c s) = Wf env c × WfStmt env s
  WfStmt env (u.Do s c) = WfStmt env s × Wf (after_stmt s env) c
  WfStmt env (u.For i c e s) = WfFirst env i × WfMaybe (after_first i env) c 1 × WfMaybe (after_first i env) e 1 × WfStmt (after_first i env) s
  WfStmt env u.Break = Unit {0}
  WfStmt env u.Continue = Unit {0}
  WfStmt env (u.Return e) = WfMaybe env e 1

  pub WfBlock : Env → BlockItems → Type 0
  WfBlock env u.no_items = Unit {0}
  WfBlock env (u.declared d is) = WfDeclaration env d × WfBlock (after_declaration d env) is
  WfBlock env (u.statement s is) = WfStmt env s × WfBlock (after_stmt s env) is

-- ---- the unit

abbrev pub after_external : External → Env → Env
after_external (u.Declares d) env = after_declaration d env
after_external (u.Definition ss d items) env = after_block items (after_declarator ss d env)

abbrev pub WfExternal : Env → External → Type 0
WfExternal env (u.Declares d) = WfDeclaration env d
WfExternal env (u.Definition ss d items) =
    (ss ≡ u.no_specs → ⊥) × WfSpecs env false ss × IsSome (declared_name d) × IsApart env (specified false ss) (leading_name d)
    × WfDeclarator env d × IsFunction d × WfBlock (after_declarator ss d env) items

abbrev pub WfUnit : Env → List External → Type 0
WfUnit env [] = Unit {0}
WfUnit env (x ∷ xs) = WfExternal env x × WfUnit (after_external x env) xs
