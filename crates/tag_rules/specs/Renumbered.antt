-- The same tree with the numbers 0, 1, 2 .. at its nodes, in the order in which they end.
use Rattle.std.specs.Prelude.{ℕ, suc, List, [], ◌∷◌, Option, Some, None}
use Rattle.c_tree.specs.Marked as m
use Rattle.c_tree.specs.declared.operator.At.{At}

-- a part with its numbers, and the number of the next node that ends
pub record Numbered (A : Type 0) : Type 0 where
  pub part : A
  pub next : ℕ

-- by the number of the first node that ends in it
abbrev pub Numbering : Type 0 → Type 0
Numbering A = ℕ → Numbered A

abbrev pub as_is : {A : Type 0} → A → Numbering A
as_is a n = record { part = a; next = n }

-- made of one part
abbrev pub one : {A B : Type 0} → (A → B) → Numbering A → Numbering B
one f a n = let x = a n in record { part = f x.part; next = x.next }

-- made of two, the first of which is numbered first
abbrev pub two : {A B C : Type 0} → (A → B → C) → Numbering A → Numbering B → Numbering C
two f a b n = let x = a n in let y = b x.next in record { part = f x.part y.part; next = y.next }

abbrev pub three : {A B C D : Type 0} → (A → B → C → D) → Numbering A → Numbering B → Numbering C → Numbering D
three f a b c = two (λ g x. g x) (two f a b) c

abbrev pub four : {A B C D E : Type 0} → (A → B → C → D → E) → Numbering A → Numbering B → Numbering C → Numbering D → Numbering E
four f a b c d = two (λ g x. g x) (three f a b c) d

-- a node ends behind its parts, of which it is made once it has its number
abbrev pub node : {A : Type 0} → At → Numbering (At → A) → Numbering A
node at parts n = let x = parts n in record { part = x.part (record at { id = x.next }); next = suc x.next }

abbrev pub leaf : {A : Type 0} → At → (At → A) → Numbering A
leaf at f = node at (as_is f)

abbrev pub each : {A : Type 0} → (A → Numbering A) → List A → Numbering (List A)
each number [] = as_is []
each number (x ∷ xs) = two (λ x xs. x ∷ xs) (number x) (each number xs)

-- ---- attributes

abbrev pub number_argument : m.Argument → Numbering m.Argument
number_argument (m.NumberArgument at n) = leaf at (λ at. m.NumberArgument at n)
number_argument (m.TextArgument at ts) = leaf at (λ at. m.TextArgument at ts)

abbrev pub number_arguments : Option (List m.Argument) → Numbering (Option (List m.Argument))
number_arguments None = as_is None
number_arguments (Some xs) = one Some (each number_argument xs)

abbrev pub number_entry : m.Entry → Numbering m.Entry
number_entry e = one (λ xs. record e { arguments = xs }) (number_arguments e.arguments)

abbrev pub number_attribute : m.Attribute → Numbering m.Attribute
number_attribute a = node a.at (one (λ es at. record { at = at; entries = es }) (each number_entry a.entries))

-- ---- expressions, specifiers and declarators

abbrev mutual
  pub number : m.Expr → Numbering m.Expr
  number (m.Comma at a b) = node at (two (λ a b at. m.Comma at a b) (number a) (number b))
  number (m.Assign at a o b) = node at (two (λ a b at. m.Assign at a o b) (number a) (number b))
  number (m.Cond at c a b) = node at (three (λ c a b at. m.Cond at c a b) (number c) (number a) (number b))
  number (m.Binary at a o b) = node at (two (λ a b at. m.Binary at a o b) (number a) (number b))
  number (m.Cast at n a) = node at (two (λ n a at. m.Cast at n a) (number_type n) (number a))
  number (m.Prefix at o a) = node at (one (λ a at. m.Prefix at o a) (number a))
  number (m.SizeofExpr at a) = node at (one (λ a at. m.SizeofExpr at a) (number a))
  number (m.SizeofType at n) = node at (one (λ n at. m.SizeofType at n) (number_type n))
  number (m.Index at a b) = node at (two (λ a b at. m.Index at a b) (number a) (number b))
  number (m.Call at f es) = node at (two (λ f es at. m.Call at f es) (number f) (number_all es))
  number (m.Dot at a n) = node at (one (λ a at. m.Dot at a n) (number a))
  number (m.Arrow at a n) = node at (one (λ a at. m.Arrow at a n) (number a))
  number (m.Post at a s) = node at (one (λ a at. m.Post at a s) (number a))
  number (m.Name at n) = leaf at (λ at. m.Name at n)
  number (m.Number at n) = leaf at (λ at. m.Number at n)
  number (m.Char at c) = leaf at (λ at. m.Char at c)
  number (m.Text at ts) = leaf at (λ at. m.Text at ts)
  number (m.Paren at a) = node at (one (λ a at. m.Paren at a) (number a))
  number (m.Builtin at es) = node at (one (λ es at. m.Builtin at es) (number_all es))

  pub number_type : m.TypeName → Numbering m.TypeName
  number_type (m.type_name at ss d) = node at (two (λ ss d at. m.type_name at ss d) (number_specs ss) (number_maybe_declarator d))

  pub number_all : m.Exprs → Numbering m.Exprs
  number_all m.no_exprs = as_is m.no_exprs
  number_all (m.expr a es) = two m.expr (number a) (number_all es)

  pub number_maybe : m.MaybeExpr → Numbering m.MaybeExpr
  number_maybe m.no_expr = as_is m.no_expr
  number_maybe (m.some_expr a) = one m.some_expr (number a)

  -- a struct, union or enumeration ends before the specifiers behind it
  pub number_specs : m.Specs → Numbering m.Specs
  number_specs m.no_specs = as_is m.no_specs
  number_specs (m.Keyword w ss) = one (m.Keyword w) (number_specs ss)
  number_specs (m.Typedef n ss) = one (m.Typedef n) (number_specs ss)
  number_specs (m.attribute a ss) = two m.attribute (number_attribute a) (number_specs ss)
  number_specs (m.Record at is_union tag b ss) =
      two (λ f ss. f ss) (node at (one (λ b at. m.Record at is_union tag b) (number_body b))) (number_specs ss)
  number_specs (m.Enum at tag l ss) = two (λ f ss. f ss) (node at (one (λ l at. m.Enum at tag l) (number_list l))) (number_specs ss)

  pub number_body : m.MaybeFields → Numbering m.MaybeFields
  number_body m.no_body = as_is m.no_body
  number_body (m.body fs) = one m.body (number_fields fs)

  pub number_fields : m.Fields → Numbering m.Fields
  number_fields m.no_fields = as_is m.no_fields
  number_fields (m.Field at ss ds fs) =
      two (λ f fs. f fs) (node at (two (λ ss ds at. m.Field at ss ds) (number_specs ss) (number_declarators ds))) (number_fields fs)

  pub number_declarators : m.Declarators → Numbering m.Declarators
  number_declarators m.no_declarators = as_is m.no_declarators
  number_declarators (m.declarator d ds) = two m.declarator (number_declarator d) (number_declarators ds)

  pub number_list : m.MaybeEnumerators → Numbering m.MaybeEnumerators
  number_list m.no_list = as_is m.no_list
  number_list (m.list es comma) = one (λ es. m.list es comma) (number_enumerators es)

  pub number_enumerators : m.Enumerators → Numbering m.Enumerators
  number_enumerators m.no_enumerators = as_is m.no_enumerators
  number_enumerators (m.Enumerator at n v es) =
      two (λ f es. f es) (node at (one (λ v at. m.Enumerator at n v) (number_maybe v))) (number_enumerators es)

  pub number_maybe_declarator : m.MaybeDeclarator → Numbering m.MaybeDeclarator
  number_maybe_declarator m.no_declarator = as_is m.no_declarator
  number_maybe_declarator (m.some_declarator d) = one m.some_declarator (number_declarator d)

  pub number_declarator : m.Declarator → Numbering m.Declarator
  number_declarator (m.PointerTo at qs d) = node at (one (λ d at. m.PointerTo at qs d) (number_declarator d))
  number_declarator (m.Declared at n) = leaf at (λ at. m.Declared at n)
  number_declarator (m.Group at d) = node at (one (λ d at. m.Group at d) (number_declarator d))
  number_declarator (m.ArrayOf at d n) = node at (two (λ d n at. m.ArrayOf at d n) (number_declarator d) (number_maybe n))
  number_declarator (m.FunctionOf at d ps) = node at (two (λ d ps at. m.FunctionOf at d ps) (number_declarator d) (number_params ps))

  pub number_params : m.Params → Numbering m.Params
  number_params m.no_params = as_is m.no_params
  number_params (m.Param at ss d ps) =
      two (λ f ps. f ps) (node at (two (λ ss d at. m.Param at ss d) (number_specs ss) (number_maybe_declarator d))) (number_params ps)

-- ---- initialisers and declarations

abbrev mutual
  pub number_init : m.Init → Numbering m.Init
  number_init (m.Plain a) = one m.Plain (number a)
  number_init (m.Braces at gs comma) = node at (one (λ gs at. m.Braces at gs comma) (number_inits gs))

  pub number_inits : m.Inits → Numbering m.Inits
  number_inits m.no_inits = as_is m.no_inits
  number_inits (m.init g gs) = two m.init (number_init g) (number_inits gs)

abbrev pub number_maybe_init : m.MaybeInit → Numbering m.MaybeInit
number_maybe_init m.no_init = as_is m.no_init
number_maybe_init (m.some_init g) = one m.some_init (number_init g)

abbrev pub number_item : m.Item → Numbering m.Item
number_item item =
    node item.at (three (λ d attributes g at. record { at = at; declarator = d; attributes = attributes; init = g })
    (number_declarator item.declarator)
    (each number_attribute item.attributes)
    (number_maybe_init item.init))

abbrev pub number_declaration : m.Declaration → Numbering m.Declaration
number_declaration d =
    node d.at (two (λ ss items at. record { at = at; specs = ss; items = items }) (number_specs d.specs) (each number_item d.items))

-- ---- statements

abbrev pub number_first : m.First → Numbering m.First
number_first (m.FirstDeclaration d) = one m.FirstDeclaration (number_declaration d)
number_first (m.FirstExpr e) = one m.FirstExpr (number_maybe e)

abbrev mutual
  pub number_stmt : m.Stmt → Numbering m.Stmt
  number_stmt (m.Block at items) = node at (one (λ items at. m.Block at items) (number_block items))
  number_stmt (m.ExprStmt at e) = node at (one (λ e at. m.ExprStmt at e) (number_maybe e))
  number_stmt (m.If at c s) = node at (two (λ c s at. m.If at c s) (number c) (number_stmt s))
  number_stmt (m.IfElse at c s r) = node at (three (λ c s r at. m.IfElse at c s r) (number c) (number_stmt s) (number_stmt r))
  number_stmt (m.While at c s) = node at (two (λ c s at. m.While at c s) (number c) (number_stmt s))
  number_stmt (m.Do at s c) = node at (two (λ s c at. m.Do at s c) (number_stmt s) (number c))
  number_stmt (m.For at f c e s) =
      node at (four (λ f c e s at. m.For at f c e s) (number_first f) (number_maybe c) (number_maybe e) (number_stmt s))
  number_stmt (m.Break at) = leaf at m.Break
  number_stmt (m.Continue at) = leaf at m.Continue
  number_stmt (m.Return at e) = node at (one (λ e at. m.Return at e) (number_maybe e))

  pub number_block : m.BlockItems → Numbering m.BlockItems
  number_block m.no_items = as_is m.no_items
  number_block (m.declared d items) = two m.declared (number_declaration d) (number_block items)
  number_block (m.statement s items) = two m.statement (number_stmt s) (number_block items)

-- ---- the unit

-- the body of a definition is a node of its own
abbrev pub number_braced : At → m.BlockItems → Numbering (At × m.BlockItems)
number_braced at items = node at (one (λ items at. (at, items)) (number_block items))

abbrev pub number_external : m.External → Numbering m.External
number_external (m.Declares d) = one m.Declares (number_declaration d)
number_external (m.Definition at ss d body_at items) =
    node at (three (λ ss d body at. m.Definition at ss d body.0 body.1) (number_specs ss) (number_declarator d) (number_braced body_at items))

unfoldable pub renumbered : List m.External → List m.External
renumbered u = (each number_external u 0).part
