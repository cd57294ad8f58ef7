-- What a form spells stands before the rest, whatever the rest is.
use Rattle.std.proofs.Common.{◌≡◌, ℕ, Bool, true, false, List, [], ◌∷◌, ◌++◌, Option, Some, None, map, flat_map, refl, sym, ◌∙◌, ap}
use Rattle.std.proofs.lemmas.List.{map-append}
use Rattle.c_tree.specs.Tok as t
use Rattle.c_tree.specs.Tok.{Tok, Word, name, word, number, char, text, mark}
use Rattle.c_tree.specs.Tree as u
use Rattle.c_tree.specs.Tree.{Expr, Exprs, MaybeExpr, Specs, Fields, MaybeFields, Declarators, Declarator, MaybeDeclarator, Enumerators, MaybeEnumerators, Params, Init, Inits, MaybeInit, Item, Declaration, First, Stmt, BlockItems, External, Entry, Argument}
use Rattle.c_tree.specs.Marks.{binary_mark, assign_mark, prefix_mark, step_mark, record_word}
use Rattle.c_tree.specs.Put.{put_all, put_more, put_commas, put_name, put_comma_if, put_text, put_word, put_argument, put_arguments, put_entry, put_attribute, put, put_exprs, put_more_exprs, put_maybe, put_specs, put_body, put_fields, put_declarators, put_more_declarators, put_list, put_enumerators, put_more_enumerators, put_value, put_maybe_declarator, put_declarator, put_params, put_more_params, put_init, put_inits, put_more_inits, put_maybe_init, put_item, put_declaration, put_first, put_stmt, put_block, put_external, toks}
use Rattle.c_tree.specs.Lexeme.{lexeme}
use Rattle.c_tree.specs.Reading.{spelled}
use Rattle.c_tree.specs.Printed.{unit_lines}

-- f puts something, and then what it is given
pub record Leads (f : List Tok → List Tok) : Type 0 where
  pub all : (xs ys : List Tok) → f (xs ++ ys) ≡ f xs ++ ys

pub nothing : Leads (λ r. r)
nothing = record { all = λ xs ys. refl }

pub led : {f : List Tok → List Tok} (t : Tok) → Leads f → Leads (λ r. t ∷ f r)
led t h = record { all = λ xs ys. ap (λ r. t ∷ r) (h.all xs ys) }

pub both : {f g : List Tok → List Tok} → Leads f → Leads g → Leads (λ r. f (g r))
both {f} {g} h k = record { all = λ xs ys. ap f (k.all xs ys) ∙ h.all (g xs) ys }

pub last : (t : Tok) → Leads (λ r. t ∷ r)
last t = led t nothing

-- ---- lists

all : {A : Type 0} (put : A → List Tok → List Tok) → ((x : A) → Leads (put x)) → (xs : List A) → Leads (put_all put xs)
all put h [] = nothing
all put h (x ∷ xs) = both (h x) (all put h xs)

more : {A : Type 0} (put : A → List Tok → List Tok) → ((x : A) → Leads (put x)) → (xs : List A) → Leads (put_more put xs)
more put h [] = nothing
more put h (x ∷ xs) = led (mark t.Com) (both (h x) (more put h xs))

commas : {A : Type 0} (put : A → List Tok → List Tok) → ((x : A) → Leads (put x)) → (xs : List A) → Leads (put_commas put xs)
commas put h [] = nothing
commas put h (x ∷ xs) = both (h x) (more put h xs)

-- ---- parts that hold no expression

maybe_name : (n : Option (List ℕ)) → Leads (put_name n)
maybe_name None = nothing
maybe_name (Some n) = last (name n)

comma_if : (b : Bool) → Leads (put_comma_if b)
comma_if false = nothing
comma_if true = last (mark t.Com)

texts : (ts : List (List ℕ)) → Leads (put_all put_text ts)
texts = all put_text (λ s. last (text s))

words : (ws : List Word) → Leads (put_all put_word ws)
words = all put_word (λ w. last (word w))

argument : (x : Argument) → Leads (put_argument x)
argument (u.NumberArgument n) = last (number n)
argument (u.TextArgument ts) = texts ts

arguments : (xs : Option (List Argument)) → Leads (put_arguments xs)
arguments None = nothing
arguments (Some xs) = led (mark t.LParen) (both (commas put_argument argument xs) (last (mark t.RParen)))

entry : (e : Entry) → Leads (put_entry e)
entry e = led (name e.name) (arguments e.arguments)

attribute : (es : List Entry) → Leads (put_attribute es)
attribute es = led (word t.KAttribute) (led (mark t.LParen) (led (mark t.LParen) (both (commas put_entry entry es) (led (mark t.RParen) (last (mark t.RParen))))))

-- ---- expressions, specs and declarators

mutual
  expression : (e : Expr) → Leads (put e)
  expression (u.Comma a b) = both (expression a) (led (mark t.Com) (expression b))
  expression (u.Assign a op b) = both (expression a) (led (mark (assign_mark op)) (expression b))
  expression (u.Cond c a b) = both (expression c) (led (mark t.Quest) (both (expression a) (led (mark t.Colon) (expression b))))
  expression (u.Binary a op b) = both (expression a) (led (mark (binary_mark op)) (expression b))
  expression (u.Cast ss d a) = led (mark t.LParen) (both (specs ss) (both (maybe_declarator d) (led (mark t.RParen) (expression a))))
  expression (u.Prefix op a) = led (mark (prefix_mark op)) (expression a)
  expression (u.SizeofExpr a) = led (word t.KSizeof) (expression a)
  expression (u.SizeofType ss d) = led (word t.KSizeof) (led (mark t.LParen) (both (specs ss) (both (maybe_declarator d) (last (mark t.RParen)))))
  expression (u.Index a b) = both (expression a) (led (mark t.LBracket) (both (expression b) (last (mark t.RBracket))))
  expression (u.Call f xs) = both (expression f) (led (mark t.LParen) (both (expressions xs) (last (mark t.RParen))))
  expression (u.Dot a n) = both (expression a) (led (mark t.Point) (last (name n)))
  expression (u.Arrow a n) = both (expression a) (led (mark t.Arrow) (last (name n)))
  expression (u.Post a up) = both (expression a) (last (mark (step_mark up)))
  expression (u.Name n) = last (name n)
  expression (u.Number n) = last (number n)
  expression (u.Char n) = last (char n)
  expression (u.Text ts) = texts ts
  expression (u.Paren a) = led (mark t.LParen) (both (expression a) (last (mark t.RParen)))
  expression (u.Builtin xs) = led (word t.KBuiltin) (led (mark t.LParen) (both (expressions xs) (last (mark t.RParen))))

  expressions : (xs : Exprs) → Leads (put_exprs xs)
  expressions u.no_exprs = nothing
  expressions (u.expr a xs) = both (expression a) (more_expressions xs)

  more_expressions : (xs : Exprs) → Leads (put_more_exprs xs)
  more_expressions u.no_exprs = nothing
  more_expressions (u.expr a xs) = led (mark t.Com) (both (expression a) (more_expressions xs))

  maybe_expression : (e : MaybeExpr) → Leads (put_maybe e)
  maybe_expression u.no_expr = nothing
  maybe_expression (u.some_expr a) = expression a

  specs : (ss : Specs) → Leads (put_specs ss)
  specs u.no_specs = nothing
  specs (u.Keyword w ss) = led (word w) (specs ss)
  specs (u.Typedef n ss) = led (name n) (specs ss)
  specs (u.Attribute es ss) = both (attribute es) (specs ss)
  specs (u.Record is_union tag b ss) = led (word (record_word is_union)) (both (maybe_name tag) (both (body b) (specs ss)))
  specs (u.Enum tag b ss) = led (word t.KEnum) (both (maybe_name tag) (both (list b) (specs ss)))

  body : (b : MaybeFields) → Leads (put_body b)
  body u.no_body = nothing
  body (u.body fs) = led (mark t.LBrace) (both (fields fs) (last (mark t.RBrace)))

  fields : (fs : Fields) → Leads (put_fields fs)
  fields u.no_fields = nothing
  fields (u.Field ss ds fs) = both (specs ss) (both (declarators ds) (led (mark t.Semi) (fields fs)))

  declarators : (ds : Declarators) → Leads (put_declarators ds)
  declarators u.no_declarators = nothing
  declarators (u.declarator d ds) = both (declarator d) (more_declarators ds)

  more_declarators : (ds : Declarators) → Leads (put_more_declarators ds)
  more_declarators u.no_declarators = nothing
  more_declarators (u.declarator d ds) = led (mark t.Com) (both (declarator d) (more_declarators ds))

  list : (b : MaybeEnumerators) → Leads (put_list b)
  list u.no_list = nothing
  list (u.list es comma) = led (mark t.LBrace) (both (enumerators es) (both (comma_if comma) (last (mark t.RBrace))))

  enumerators : (es : Enumerators) → Leads (put_enumerators es)
  enumerators u.no_enumerators = nothing
  enumerators (u.Enumerator n v es) = led (name n) (both (value v) (more_enumerators es))

  more_enumerators : (es : Enumerators) → Leads (put_more_enumerators es)
  more_enumerators u.no_enumerators = nothing
  more_enumerators (u.Enumerator n v es) = led (mark t.Com) (led (name n) (both (value v) (more_enumerators es)))

  value : (v : MaybeExpr) → Leads (put_value v)
  value u.no_expr = nothing
  value (u.some_expr a) = led (mark t.Assign) (expression a)

  maybe_declarator : (d : MaybeDeclarator) → Leads (put_maybe_declarator d)
  maybe_declarator u.no_declarator = nothing
  maybe_declarator (u.some_declarator d) = declarator d

  declarator : (d : Declarator) → Leads (put_declarator d)
  declarator (u.PointerTo qs d) = led (mark t.Star) (both (words qs) (declarator d))
  declarator (u.Declared n) = maybe_name n
  declarator (u.Group d) = led (mark t.LParen) (both (declarator d) (last (mark t.RParen)))
  declarator (u.ArrayOf d n) = both (declarator d) (led (mark t.LBracket) (both (maybe_expression n) (last (mark t.RBracket))))
  declarator (u.FunctionOf d ps) = both (declarator d) (led (mark t.LParen) (both (params ps) (last (mark t.RParen))))

  params : (ps : Params) → Leads (put_params ps)
  params u.no_params = nothing
  params (u.Param ss d ps) = both (specs ss) (both (maybe_declarator d) (more_params ps))

  more_params : (ps : Params) → Leads (put_more_params ps)
  more_params u.no_params = nothing
  more_params (u.Param ss d ps) = led (mark t.Com) (both (specs ss) (both (maybe_declarator d) (more_params ps)))

-- ---- declarations

mutual
  init : (i : Init) → Leads (put_init i)
  init (u.Plain a) = expression a
  init (u.Braces is comma) = led (mark t.LBrace) (both (inits is) (both (comma_if comma) (last (mark t.RBrace))))

  inits : (is : Inits) → Leads (put_inits is)
  inits u.no_inits = nothing
  inits (u.init i is) = both (init i) (more_inits is)

  more_inits : (is : Inits) → Leads (put_more_inits is)
  more_inits u.no_inits = nothing
  more_inits (u.init i is) = led (mark t.Com) (both (init i) (more_inits is))

maybe_init : (i : MaybeInit) → Leads (put_maybe_init i)
maybe_init u.no_init = nothing
maybe_init (u.some_init i) = led (mark t.Assign) (init i)

item : (i : Item) → Leads (put_item i)
item i = both (declarator i.declarator) (both (all put_attribute attribute i.attributes) (maybe_init i.init))

declaration : (d : Declaration) → Leads (put_declaration d)
declaration d = both (specs d.specs) (both (commas put_item item d.items) (last (mark t.Semi)))

first : (i : First) → Leads (put_first i)
first (u.FirstDeclaration d) = declaration d
first (u.FirstExpr e) = both (maybe_expression e) (last (mark t.Semi))

-- ---- statements

condition : (c : Expr) {f : List Tok → List Tok} → Leads f → Leads (λ r. mark t.LParen ∷ put c (mark t.RParen ∷ f r))
condition c h = led (mark t.LParen) (both (expression c) (led (mark t.RParen) h))

mutual
  statement : (s : Stmt) → Leads (put_stmt s)
  statement (u.Block items) = led (mark t.LBrace) (both (block items) (last (mark t.RBrace)))
  statement (u.ExprStmt e) = both (maybe_expression e) (last (mark t.Semi))
  statement (u.If c a) = led (word t.KIf) (condition c (statement a))
  statement (u.IfElse c a b) = led (word t.KIf) (condition c (both (statement a) (led (word t.KElse) (statement b))))
  statement (u.While c a) = led (word t.KWhile) (condition c (statement a))
  statement (u.Do a c) = led (word t.KDo) (both (statement a) (led (word t.KWhile) (condition c (last (mark t.Semi)))))
  statement (u.For i c e a) = led (word t.KFor) (led (mark t.LParen) (both (first i) (both (maybe_expression c) (led (mark t.Semi) (both (maybe_expression e) (led (mark t.RParen) (statement a)))))))
  statement u.Break = led (word t.KBreak) (last (mark t.Semi))
  statement u.Continue = led (word t.KContinue) (last (mark t.Semi))
  statement (u.Return e) = led (word t.KReturn) (both (maybe_expression e) (last (mark t.Semi)))

  block : (is : BlockItems) → Leads (put_block is)
  block u.no_items = nothing
  block (u.declared d is) = both (declaration d) (block is)
  block (u.statement s is) = both (statement s) (block is)

-- ---- the unit

pub external : (e : External) → Leads (put_external e)
external (u.Declares d) = declaration d
external (u.Definition ss d items) = both (specs ss) (both (declarator d) (led (mark t.LBrace) (both (block items) (last (mark t.RBrace)))))

pub rest_follows : (e : External) (rest : List Tok) → put_external e rest ≡ put_external e [] ++ rest
rest_follows e rest = (external e).all [] rest

pub unit_is_each : (u : List External) → flat_map (λ e. put_external e []) u ≡ toks u
unit_is_each [] = refl
unit_is_each (e ∷ es) = ap (λ r. put_external e [] ++ r) (unit_is_each es) ∙ sym (rest_follows e (toks es))

pub lines_are_unit : (u : List External) → flat_map (λ line. line) (unit_lines u) ≡ spelled u
lines_are_unit [] = refl
lines_are_unit (e ∷ es) =
    ap (λ r. map lexeme (put_external e []) ++ r) (lines_are_unit es) ∙ sym (map-append lexeme (put_external e []) (toks es))
    ∙ ap (map lexeme) (sym (rest_follows e (toks es)))
