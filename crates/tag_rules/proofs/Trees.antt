-- Numbering changes nothing of a tree but its numbers.
use Rattle.std.proofs.Common.{◌≡◌, ℕ, List, [], ◌∷◌, map, Option, Some, None, refl, ap, ap₂}
use Rattle.c_tree.specs.Tree as u
use Rattle.c_tree.specs.Marked as m
use Rattle.c_tree.specs.Bare.{bare, bare_exprs, bare_maybe, bare_specs, bare_body, bare_fields, bare_declarators, bare_list, bare_enumerators, bare_maybe_declarator, bare_declarator, bare_params, bare_init, bare_inits, bare_maybe_init, bare_item, bare_declaration, bare_first, bare_stmt, bare_block, bare_external, bare_unit, bare_argument, bare_arguments, bare_entry, bare_attribute}
use Rattle.tag_rules.specs.Renumbered.{Numbering, each, number_argument, number_arguments, number_entry, number_attribute, number, number_all, number_maybe, number_specs, number_body, number_fields, number_declarators, number_list, number_enumerators, number_maybe_declarator, number_declarator, number_params, number_init, number_inits, number_maybe_init, number_item, number_declaration, number_first, number_stmt, number_block, number_external, renumbered}

ap₃ : {A B C D : Type 0} (f : A → B → C → D) {a a' : A} {b b' : B} {c c' : C} → a ≡ a' → b ≡ b' → c ≡ c' → f a b c ≡ f a' b' c'
ap₃ {A} {B} {C} {D} f p q r = ap₂ (λ (g : C → D) (c : C). g c) (ap₂ f p q) r

ap₄ : {A B C D E : Type 0} (f : A → B → C → D → E) {a a' : A} {b b' : B} {c c' : C} {d d' : D} → a ≡ a' → b ≡ b' → c ≡ c' → d ≡ d' → f a b c d ≡ f a' b' c' d'
ap₄ {A} {B} {C} {D} {E} f p q r s = ap₂ (λ (g : D → E) (d : D). g d) (ap₃ f p q r) s

-- ---- lists

same_each : {A B : Type 0} (give : A → Numbering A) (strip : A → B) → ((x : A) (n : ℕ) → strip (give x n).part ≡ strip x)
    → (xs : List A) (n : ℕ) → map strip (each give xs n).part ≡ map strip xs
same_each give strip same [] n = refl
same_each give strip same (x ∷ xs) n = ap₂ (λ y ys. y ∷ ys) (same x n) (same_each give strip same xs _)

-- ---- attributes

same_argument : (x : m.Argument) (n : ℕ) → bare_argument (number_argument x n).part ≡ bare_argument x
same_argument (m.NumberArgument at k) n = refl
same_argument (m.TextArgument at ts) n = refl

same_arguments : (xs : Option (List m.Argument)) (n : ℕ) → bare_arguments (number_arguments xs n).part ≡ bare_arguments xs
same_arguments None n = refl
same_arguments (Some xs) n = ap Some (same_each number_argument bare_argument same_argument xs n)

same_entry : (e : m.Entry) (n : ℕ) → bare_entry (number_entry e n).part ≡ bare_entry e
same_entry e n = ap (λ (xs : Option (List u.Argument)). record { name = e.name; arguments = xs }) (same_arguments e.arguments n)

same_attribute : (a : m.Attribute) (n : ℕ) → bare_attribute (number_attribute a n).part ≡ bare_attribute a
same_attribute a n = same_each number_entry bare_entry same_entry a.entries n

-- ---- expressions, specifiers and declarators

mutual
  same : (e : m.Expr) (n : ℕ) → bare (number e n).part ≡ bare e
  same (m.Comma at a b) n = ap₂ u.Comma (same a n) (same b _)
  same (m.Assign at a o b) n = ap₂ (λ x y. u.Assign x o y) (same a n) (same b _)
  same (m.Cond at c a b) n = ap₃ u.Cond (same c n) (same a _) (same b _)
  same (m.Binary at a o b) n = ap₂ (λ x y. u.Binary x o y) (same a n) (same b _)
  same (m.Cast at (m.type_name at₂ ss d) a) n = ap₃ u.Cast (same_specs ss n) (same_maybe_declarator d _) (same a _)
  same (m.Prefix at o a) n = ap (u.Prefix o) (same a n)
  same (m.SizeofExpr at a) n = ap u.SizeofExpr (same a n)
  same (m.SizeofType at (m.type_name at₂ ss d)) n = ap₂ u.SizeofType (same_specs ss n) (same_maybe_declarator d _)
  same (m.Index at a b) n = ap₂ u.Index (same a n) (same b _)
  same (m.Call at f es) n = ap₂ u.Call (same f n) (same_exprs es _)
  same (m.Dot at a x) n = ap (λ b. u.Dot b x) (same a n)
  same (m.Arrow at a x) n = ap (λ b. u.Arrow b x) (same a n)
  same (m.Post at a s) n = ap (λ b. u.Post b s) (same a n)
  same (m.Name at x) n = refl
  same (m.Number at x) n = refl
  same (m.Char at x) n = refl
  same (m.Text at ts) n = refl
  same (m.Paren at a) n = ap u.Paren (same a n)
  same (m.Builtin at es) n = ap u.Builtin (same_exprs es n)

  same_exprs : (es : m.Exprs) (n : ℕ) → bare_exprs (number_all es n).part ≡ bare_exprs es
  same_exprs m.no_exprs n = refl
  same_exprs (m.expr a es) n = ap₂ u.expr (same a n) (same_exprs es _)

  same_maybe : (e : m.MaybeExpr) (n : ℕ) → bare_maybe (number_maybe e n).part ≡ bare_maybe e
  same_maybe m.no_expr n = refl
  same_maybe (m.some_expr a) n = ap u.some_expr (same a n)

  same_specs : (ss : m.Specs) (n : ℕ) → bare_specs (number_specs ss n).part ≡ bare_specs ss
  same_specs m.no_specs n = refl
  same_specs (m.Keyword w ss) n = ap (u.Keyword w) (same_specs ss n)
  same_specs (m.Typedef x ss) n = ap (u.Typedef x) (same_specs ss n)
  same_specs (m.attribute a ss) n = ap₂ u.Attribute (same_attribute a n) (same_specs ss _)
  same_specs (m.Record at is_union tag b ss) n = ap₂ (u.Record is_union tag) (same_body b n) (same_specs ss _)
  same_specs (m.Enum at tag l ss) n = ap₂ (u.Enum tag) (same_list l n) (same_specs ss _)

  same_body : (b : m.MaybeFields) (n : ℕ) → bare_body (number_body b n).part ≡ bare_body b
  same_body m.no_body n = refl
  same_body (m.body fs) n = ap u.body (same_fields fs n)

  same_fields : (fs : m.Fields) (n : ℕ) → bare_fields (number_fields fs n).part ≡ bare_fields fs
  same_fields m.no_fields n = refl
  same_fields (m.Field at ss ds fs) n = ap₃ u.Field (same_specs ss n) (same_declarators ds _) (same_fields fs _)

  same_declarators : (ds : m.Declarators) (n : ℕ) → bare_declarators (number_declarators ds n).part ≡ bare_declarators ds
  same_declarators m.no_declarators n = refl
  same_declarators (m.declarator d ds) n = ap₂ u.declarator (same_declarator d n) (same_declarators ds _)

  same_list : (l : m.MaybeEnumerators) (n : ℕ) → bare_list (number_list l n).part ≡ bare_list l
  same_list m.no_list n = refl
  same_list (m.list es comma) n = ap (λ xs. u.list xs comma) (same_enumerators es n)

  same_enumerators : (es : m.Enumerators) (n : ℕ) → bare_enumerators (number_enumerators es n).part ≡ bare_enumerators es
  same_enumerators m.no_enumerators n = refl
  same_enumerators (m.Enumerator at x v es) n = ap₂ (u.Enumerator x) (same_maybe v n) (same_enumerators es _)

  same_maybe_declarator : (d : m.MaybeDeclarator) (n : ℕ) → bare_maybe_declarator (number_maybe_declarator d n).part ≡ bare_maybe_declarator d
  same_maybe_declarator m.no_declarator n = refl
  same_maybe_declarator (m.some_declarator d) n = ap u.some_declarator (same_declarator d n)

  same_declarator : (d : m.Declarator) (n : ℕ) → bare_declarator (number_declarator d n).part ≡ bare_declarator d
  same_declarator (m.PointerTo at qs d) n = ap (u.PointerTo qs) (same_declarator d n)
  same_declarator (m.Declared at x) n = refl
  same_declarator (m.Group at d) n = ap u.Group (same_declarator d n)
  same_declarator (m.ArrayOf at d e) n = ap₂ u.ArrayOf (same_declarator d n) (same_maybe e _)
  same_declarator (m.FunctionOf at d ps) n = ap₂ u.FunctionOf (same_declarator d n) (same_params ps _)

  same_params : (ps : m.Params) (n : ℕ) → bare_params (number_params ps n).part ≡ bare_params ps
  same_params m.no_params n = refl
  same_params (m.Param at ss d ps) n = ap₃ u.Param (same_specs ss n) (same_maybe_declarator d _) (same_params ps _)

-- ---- initialisers and declarations

mutual
  same_init : (g : m.Init) (n : ℕ) → bare_init (number_init g n).part ≡ bare_init g
  same_init (m.Plain a) n = ap u.Plain (same a n)
  same_init (m.Braces at gs comma) n = ap (λ xs. u.Braces xs comma) (same_inits gs n)

  same_inits : (gs : m.Inits) (n : ℕ) → bare_inits (number_inits gs n).part ≡ bare_inits gs
  same_inits m.no_inits n = refl
  same_inits (m.init g gs) n = ap₂ u.init (same_init g n) (same_inits gs _)

same_maybe_init : (g : m.MaybeInit) (n : ℕ) → bare_maybe_init (number_maybe_init g n).part ≡ bare_maybe_init g
same_maybe_init m.no_init n = refl
same_maybe_init (m.some_init g) n = ap u.some_init (same_init g n)

abbrev item_of : u.Declarator → List (List u.Entry) → u.MaybeInit → u.Item
item_of d attributes g = record { declarator = d; attributes = attributes; init = g }

same_item : (i : m.Item) (n : ℕ) → bare_item (number_item i n).part ≡ bare_item i
same_item i n =
    ap₃ item_of (same_declarator i.declarator n) (same_each number_attribute bare_attribute same_attribute i.attributes _) (same_maybe_init i.init _)

abbrev declaration_of : u.Specs → List u.Item → u.Declaration
declaration_of ss items = record { specs = ss; items = items }

same_declaration : (d : m.Declaration) (n : ℕ) → bare_declaration (number_declaration d n).part ≡ bare_declaration d
same_declaration d n = ap₂ declaration_of (same_specs d.specs n) (same_each number_item bare_item same_item d.items _)

-- ---- statements

same_first : (f : m.First) (n : ℕ) → bare_first (number_first f n).part ≡ bare_first f
same_first (m.FirstDeclaration d) n = ap u.FirstDeclaration (same_declaration d n)
same_first (m.FirstExpr e) n = ap u.FirstExpr (same_maybe e n)

mutual
  same_stmt : (s : m.Stmt) (n : ℕ) → bare_stmt (number_stmt s n).part ≡ bare_stmt s
  same_stmt (m.Block at items) n = ap u.Block (same_block items n)
  same_stmt (m.ExprStmt at e) n = ap u.ExprStmt (same_maybe e n)
  same_stmt (m.If at c s) n = ap₂ u.If (same c n) (same_stmt s _)
  same_stmt (m.IfElse at c s r) n = ap₃ u.IfElse (same c n) (same_stmt s _) (same_stmt r _)
  same_stmt (m.While at c s) n = ap₂ u.While (same c n) (same_stmt s _)
  same_stmt (m.Do at s c) n = ap₂ u.Do (same_stmt s n) (same c _)
  same_stmt (m.For at f c e s) n = ap₄ u.For (same_first f n) (same_maybe c _) (same_maybe e _) (same_stmt s _)
  same_stmt (m.Break at) n = refl
  same_stmt (m.Continue at) n = refl
  same_stmt (m.Return at e) n = ap u.Return (same_maybe e n)

  same_block : (items : m.BlockItems) (n : ℕ) → bare_block (number_block items n).part ≡ bare_block items
  same_block m.no_items n = refl
  same_block (m.declared d items) n = ap₂ u.declared (same_declaration d n) (same_block items _)
  same_block (m.statement s items) n = ap₂ u.statement (same_stmt s n) (same_block items _)

-- ---- the unit

same_external : (x : m.External) (n : ℕ) → bare_external (number_external x n).part ≡ bare_external x
same_external (m.Declares d) n = ap u.Declares (same_declaration d n)
same_external (m.Definition at ss d body_at items) n = ap₃ u.Definition (same_specs ss n) (same_declarator d _) (same_block items _)

pub tree_kept : (u : List m.External) → bare_unit (renumbered u) ≡ bare_unit u
unfolding renumbered
tree_kept u = same_each number_external bare_external same_external u 0
