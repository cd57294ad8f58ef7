-- A well-formed unit spells tokens of C only.
use Rattle.std.proofs.Common.{◌≡◌, ℕ, Bool, true, false, List, [], ◌∷◌, Option, Some, None, map, All, refl, subst}
use Rattle.std.specs.List.{AllByRecursion}
use Rattle.std.proofs.lemmas.List.Elements.{All-from_recursion}
use Rattle.c_lexer.specs.Name as lexis
use Rattle.c_lexer.specs.Mark as lexis_mark
use Rattle.c_lexer.specs.Lexeme.{IsLexeme, LexesTo}
use Rattle.c_lexer.proofs.Lines.{lines_lex}
use Rattle.c_tree.specs.Tok as t
use Rattle.c_tree.specs.Tok.{Tok, Word, Punct, name, word, number, char, text, mark}
use Rattle.c_tree.specs.Tree as u
use Rattle.c_tree.specs.Tree.{Expr, Exprs, MaybeExpr, Specs, Fields, MaybeFields, Declarators, Declarator, MaybeDeclarator, Enumerators, MaybeEnumerators, Params, Init, Inits, MaybeInit, Item, Declaration, First, Stmt, BlockItems, External, Entry, Argument}
use Rattle.c_tree.specs.Marks.{binary_mark, assign_mark, prefix_mark, step_mark, record_word}
use Rattle.c_tree.specs.Text.{IsName, IsNumber, IsChar, IsText}
use Rattle.c_tree.specs.Put.{put_all, put_more, put_commas, put_name, put_comma_if, put_text, put_word, put_argument, put_arguments, put_entry, put_attribute, put, put_exprs, put_more_exprs, put_maybe, put_specs, put_body, put_fields, put_declarators, put_more_declarators, put_list, put_enumerators, put_more_enumerators, put_value, put_maybe_declarator, put_declarator, put_params, put_more_params, put_init, put_inits, put_more_inits, put_maybe_init, put_item, put_declaration, put_first, put_stmt, put_block, put_external, toks}
use Rattle.c_tree.specs.Wf.{Env, IsOptName, WfArgument, WfArguments, WfAttribute, Wf, WfAll, WfSome, WfMaybe, WfSpecs, WfBody, WfFields, WfMoreFields, WfDeclarators, WfMoreDeclarators, WfList, WfEnumerators, WfMoreEnumerators, WfAbstract, WfEither, WfDeclarator, WfParams, WfInit, WfInits, WfMoreInits, WfMaybeInit, after_declarator, after_declaration, after_first, after_stmt, after_external, WfItems, WfDeclaration, WfFirst, WfStmt, WfBlock, WfExternal, WfUnit}
use Rattle.c_tree.specs.Lexeme.{lexeme, word_text, mark_text}
use Rattle.c_tree.specs.Reading.{spelled}
use Rattle.c_tree.specs.Printed.{unit_lines, unit_text}
use Rattle.c_tree.proofs.Appended.{lines_are_unit}

-- t is a token of C
record Good (t : Tok) : Type 0 where
  is : IsLexeme (lexeme t)

abbrev Valid : List Tok → Type 0
Valid ts = AllByRecursion (λ t. IsLexeme (lexeme t)) ts

-- f puts tokens of C before what it is given
record Keeps (f : List Tok → List Tok) : Type 0 where
  all : (rest : List Tok) → Valid rest → Valid (f rest)

nothing : Keeps (λ r. r)
nothing = record { all = λ rest v. v }

led : {f : List Tok → List Tok} {t : Tok} → Good t → Keeps f → Keeps (λ r. t ∷ f r)
led g h = record { all = λ rest v. (g.is, h.all rest v) }

both : {f g : List Tok → List Tok} → Keeps f → Keeps g → Keeps (λ r. f (g r))
both {f} {g} h k = record { all = λ rest v. h.all (g rest) (k.all rest v) }

last : {t : Tok} → Good t → Keeps (λ r. t ∷ r)
last g = led g nothing

-- ---- tokens

is_word : (w : Word) → lexis.is_word (word_text w) ≡ true
unfolding lexis.words
is_word t.KTypedef = refl
is_word _ = refl

is_mark : (p : Punct) → lexis_mark.is_mark (mark_text p) ≡ true
unfolding lexis_mark.marks
is_mark t.LBracket = refl
is_mark _ = refl

word_of : (w : Word) → Good (word w)
word_of w = record { is = is_word w }

mark_of : (p : Punct) → Good (mark p)
mark_of p = record { is = is_mark p }

name_of : (n : List ℕ) → IsName n → Good (name n)
name_of n h = record { is = h }

number_of : (n : List ℕ) → IsNumber n → Good (number n)
number_of n h = record { is = h }

char_of : (n : List ℕ) → IsChar n → Good (char n)
char_of n h = record { is = h }

text_of : (s : List ℕ) → IsText s → Good (text s)
text_of s h = record { is = h }

-- ---- lists

all : {A : Type 0} (put : A → List Tok → List Tok) (P : A → Type 0) → ((x : A) → P x → Keeps (put x)) → (xs : List A) → AllByRecursion P xs → Keeps (put_all put xs)
all put P k [] h = nothing
all put P k (x ∷ xs) h = both (k x h.0) (all put P k xs h.1)

more : {A : Type 0} (put : A → List Tok → List Tok) (P : A → Type 0) → ((x : A) → P x → Keeps (put x)) → (xs : List A) → AllByRecursion P xs → Keeps (put_more put xs)
more put P k [] h = nothing
more put P k (x ∷ xs) h = led (mark_of t.Com) (both (k x h.0) (more put P k xs h.1))

commas : {A : Type 0} (put : A → List Tok → List Tok) (P : A → Type 0) → ((x : A) → P x → Keeps (put x)) → (xs : List A) → AllByRecursion P xs → Keeps (put_commas put xs)
commas put P k [] h = nothing
commas put P k (x ∷ xs) h = both (k x h.0) (more put P k xs h.1)

-- ---- parts that hold no expression

maybe_name : (n : Option (List ℕ)) → IsOptName n → Keeps (put_name n)
maybe_name None h = nothing
maybe_name (Some n) h = last (name_of n h)

comma_if : (b : Bool) → Keeps (put_comma_if b)
comma_if false = nothing
comma_if true = last (mark_of t.Com)

texts : (ts : List (List ℕ)) → AllByRecursion IsText ts → Keeps (put_all put_text ts)
texts = all put_text IsText (λ s h. last (text_of s h))

words : (ws : List Word) → Keeps (put_all put_word ws)
words [] = nothing
words (w ∷ ws) = led (word_of w) (words ws)

argument : (x : Argument) → WfArgument x → Keeps (put_argument x)
argument (u.NumberArgument n) h = last (number_of n h)
argument (u.TextArgument ts) h = texts ts h.1

arguments : (xs : Option (List Argument)) → WfArguments xs → Keeps (put_arguments xs)
arguments None h = nothing
arguments (Some xs) h = led (mark_of t.LParen) (both (commas put_argument WfArgument argument xs h) (last (mark_of t.RParen)))

abbrev WfEntry : Entry → Type 0
WfEntry e = IsName e.name × WfArguments e.arguments

entry : (e : Entry) → WfEntry e → Keeps (put_entry e)
entry e h = led (name_of e.name h.0) (arguments e.arguments h.1)

attribute : (es : List Entry) → WfAttribute es → Keeps (put_attribute es)
attribute es h =
    led (word_of t.KAttribute) (led (mark_of t.LParen) (led (mark_of t.LParen)
    (both (commas put_entry WfEntry entry es h) (led (mark_of t.RParen) (last (mark_of t.RParen))))))

-- ---- expressions, specs and declarators

mutual
  expression : (env : Env) (e : Expr) → Wf env e → Keeps (put e)
  expression env (u.Comma a b) h = both (expression env a h.0) (led (mark_of t.Com) (expression env b h.2))
  expression env (u.Assign a op b) h = both (expression env a h.1) (led (mark_of (assign_mark op)) (expression env b h.3))
  expression env (u.Cond c a b) h = both (expression env c h.1) (led (mark_of t.Quest) (both (expression env a h.2) (led (mark_of t.Colon) (expression env b h.4))))
  expression env (u.Binary a op b) h = both (expression env a h.1) (led (mark_of (binary_mark op)) (expression env b h.3))
  expression env (u.Cast ss d a) h = led (mark_of t.LParen) (both (specs env false ss h.1) (both (abstract_declarator env d h.2) (led (mark_of t.RParen) (expression env a h.4))))
  expression env (u.Prefix op a) h = led (mark_of (prefix_mark op)) (expression env a h.1)
  expression env (u.SizeofExpr a) h = led (word_of t.KSizeof) (expression env a h.1)
  expression env (u.SizeofType ss d) h = led (word_of t.KSizeof) (led (mark_of t.LParen) (both (specs env false ss h.1) (both (abstract_declarator env d h.2) (last (mark_of t.RParen)))))
  expression env (u.Index a b) h = both (expression env a h.1) (led (mark_of t.LBracket) (both (expression env b h.2) (last (mark_of t.RBracket))))
  expression env (u.Call f xs) h = both (expression env f h.1) (led (mark_of t.LParen) (both (expressions env xs h.2) (last (mark_of t.RParen))))
  expression env (u.Dot a n) h = both (expression env a h.1) (led (mark_of t.Point) (last (name_of n h.2)))
  expression env (u.Arrow a n) h = both (expression env a h.1) (led (mark_of t.Arrow) (last (name_of n h.2)))
  expression env (u.Post a up) h = both (expression env a h.1) (last (mark_of (step_mark up)))
  expression env (u.Name n) h = last (name_of n h.0)
  expression env (u.Number n) h = last (number_of n h)
  expression env (u.Char n) h = last (char_of n h)
  expression env (u.Text ts) h = texts ts h.1
  expression env (u.Paren a) h = led (mark_of t.LParen) (both (expression env a h) (last (mark_of t.RParen)))
  expression env (u.Builtin xs) h = led (word_of t.KBuiltin) (led (mark_of t.LParen) (both (some_expressions env xs h) (last (mark_of t.RParen))))

  expressions : (env : Env) (xs : Exprs) → WfAll env xs → Keeps (put_exprs xs)
  expressions env u.no_exprs h = nothing
  expressions env (u.expr a xs) h = both (expression env a h.1) (more_expressions env xs h.2)

  some_expressions : (env : Env) (xs : Exprs) → WfSome env xs → Keeps (put_exprs xs)
  some_expressions env u.no_exprs h = absurd h
  some_expressions env (u.expr a xs) h = both (expression env a h.1) (more_expressions env xs h.2)

  more_expressions : (env : Env) (xs : Exprs) → WfAll env xs → Keeps (put_more_exprs xs)
  more_expressions env u.no_exprs h = nothing
  more_expressions env (u.expr a xs) h = led (mark_of t.Com) (both (expression env a h.1) (more_expressions env xs h.2))

  maybe_expression : (env : Env) (e : MaybeExpr) (least : ℕ) → WfMaybe env e least → Keeps (put_maybe e)
  maybe_expression env u.no_expr least h = nothing
  maybe_expression env (u.some_expr a) least h = expression env a h.1

  specs : (env : Env) (seen : Bool) (ss : Specs) → WfSpecs env seen ss → Keeps (put_specs ss)
  specs env seen u.no_specs h = nothing
  specs env seen (u.Keyword w ss) h = led (word_of w) (specs env _ ss h.1)
  specs env seen (u.Typedef n ss) h = led (name_of n h.0) (specs env true ss h.3)
  specs env seen (u.Attribute es ss) h = both (attribute es h.0) (specs env seen ss h.1)
  specs env seen (u.Record is_union tag b ss) h = led (word_of (record_word is_union)) (both (maybe_name tag h.0) (both (body env tag b h.1) (specs env true ss h.2)))
  specs env seen (u.Enum tag b ss) h = led (word_of t.KEnum) (both (maybe_name tag h.0) (both (list env tag b h.1) (specs env true ss h.2)))

  body : (env : Env) (tag : Option (List ℕ)) (b : MaybeFields) → WfBody env (tag ≡ None) b → Keeps (put_body b)
  body env tag u.no_body h = nothing
  body env tag (u.body fs) h = led (mark_of t.LBrace) (both (fields env fs h) (last (mark_of t.RBrace)))

  fields : (env : Env) (fs : Fields) → WfFields env fs → Keeps (put_fields fs)
  fields env u.no_fields h = absurd h
  fields env (u.Field ss ds fs) h = both (specs env false ss h.1) (both (declarators env _ ds h.2) (led (mark_of t.Semi) (more_fields env fs h.3)))

  more_fields : (env : Env) (fs : Fields) → WfMoreFields env fs → Keeps (put_fields fs)
  more_fields env u.no_fields h = nothing
  more_fields env (u.Field ss ds fs) h = both (specs env false ss h.1) (both (declarators env _ ds h.2) (led (mark_of t.Semi) (more_fields env fs h.3)))

  declarators : (env : Env) (seen : Bool) (ds : Declarators) → WfDeclarators env seen ds → Keeps (put_declarators ds)
  declarators env seen u.no_declarators h = absurd h
  declarators env seen (u.declarator d ds) h = both (declarator env d h.2) (more_declarators env ds h.3)

  more_declarators : (env : Env) (ds : Declarators) → WfMoreDeclarators env ds → Keeps (put_more_declarators ds)
  more_declarators env u.no_declarators h = nothing
  more_declarators env (u.declarator d ds) h = led (mark_of t.Com) (both (declarator env d h.1) (more_declarators env ds h.2))

  list : (env : Env) (tag : Option (List ℕ)) (b : MaybeEnumerators) → WfList env (tag ≡ None) b → Keeps (put_list b)
  list env tag u.no_list h = nothing
  list env tag (u.list es comma) h = led (mark_of t.LBrace) (both (enumerators env es h) (both (comma_if comma) (last (mark_of t.RBrace))))

  enumerators : (env : Env) (es : Enumerators) → WfEnumerators env es → Keeps (put_enumerators es)
  enumerators env u.no_enumerators h = absurd h
  enumerators env (u.Enumerator n v es) h = led (name_of n h.0) (both (value env v h.1) (more_enumerators env es h.2))

  more_enumerators : (env : Env) (es : Enumerators) → WfMoreEnumerators env es → Keeps (put_more_enumerators es)
  more_enumerators env u.no_enumerators h = nothing
  more_enumerators env (u.Enumerator n v es) h = led (mark_of t.Com) (led (name_of n h.0) (both (value env v h.1) (more_enumerators env es h.2)))

  value : (env : Env) (v : MaybeExpr) → WfMaybe env v 3 → Keeps (put_value v)
  value env u.no_expr h = nothing
  value env (u.some_expr a) h = led (mark_of t.Assign) (expression env a h.1)

  abstract_declarator : (env : Env) (d : MaybeDeclarator) → WfAbstract env d → Keeps (put_maybe_declarator d)
  abstract_declarator env u.no_declarator h = nothing
  abstract_declarator env (u.some_declarator d) h = declarator env d h.2

  either_declarator : (env : Env) (seen : Bool) (d : MaybeDeclarator) → WfEither env seen d → Keeps (put_maybe_declarator d)
  either_declarator env seen u.no_declarator h = nothing
  either_declarator env seen (u.some_declarator d) h = declarator env d h.2

  declarator : (env : Env) (d : Declarator) → WfDeclarator env d → Keeps (put_declarator d)
  declarator env (u.PointerTo qs d) h = led (mark_of t.Star) (both (words qs) (declarator env d h.1))
  declarator env (u.Declared n) h = maybe_name n h
  declarator env (u.Group d) h = led (mark_of t.LParen) (both (declarator env d h.2) (last (mark_of t.RParen)))
  declarator env (u.ArrayOf d n) h = both (declarator env d h.1) (led (mark_of t.LBracket) (both (maybe_expression env n 3 h.2) (last (mark_of t.RBracket))))
  declarator env (u.FunctionOf d ps) h = both (declarator env d h.1) (led (mark_of t.LParen) (both (params env ps h.2) (last (mark_of t.RParen))))

  params : (env : Env) (ps : Params) → WfParams env ps → Keeps (put_params ps)
  params env u.no_params h = nothing
  params env (u.Param ss d ps) h = both (specs env false ss h.1) (both (either_declarator env _ d h.2) (more_params env ps h.3))

  more_params : (env : Env) (ps : Params) → WfParams env ps → Keeps (put_more_params ps)
  more_params env u.no_params h = nothing
  more_params env (u.Param ss d ps) h = led (mark_of t.Com) (both (specs env false ss h.1) (both (either_declarator env _ d h.2) (more_params env ps h.3)))

-- ---- declarations

mutual
  init : (env : Env) (i : Init) → WfInit env i → Keeps (put_init i)
  init env (u.Plain a) h = expression env a h.1
  init env (u.Braces is comma) h = led (mark_of t.LBrace) (both (inits env is h) (both (comma_if comma) (last (mark_of t.RBrace))))

  inits : (env : Env) (is : Inits) → WfInits env is → Keeps (put_inits is)
  inits env u.no_inits h = absurd h
  inits env (u.init i is) h = both (init env i h.0) (more_inits env is h.1)

  more_inits : (env : Env) (is : Inits) → WfMoreInits env is → Keeps (put_more_inits is)
  more_inits env u.no_inits h = nothing
  more_inits env (u.init i is) h = led (mark_of t.Com) (both (init env i h.0) (more_inits env is h.1))

maybe_init : (env : Env) (i : MaybeInit) → WfMaybeInit env i → Keeps (put_maybe_init i)
maybe_init env u.no_init h = nothing
maybe_init env (u.some_init i) h = led (mark_of t.Assign) (init env i h)

item : (env inner : Env) (i : Item) → WfDeclarator env i.declarator → AllByRecursion WfAttribute i.attributes → WfMaybeInit inner i.init → Keeps (put_item i)
item env inner i d a v = both (declarator env i.declarator d) (both (all put_attribute WfAttribute attribute i.attributes a) (maybe_init inner i.init v))

more_items : (env : Env) (ss : Specs) (seen : Bool) (is : List Item) → WfItems env ss seen is → Keeps (put_more put_item is)
more_items env ss seen [] h = nothing
more_items env ss seen (i ∷ is) h = led (mark_of t.Com) (both (item env (after_declarator ss i.declarator env) i h.2 h.3 h.4) (more_items (after_declarator ss i.declarator env) ss true is h.5))

items : (env : Env) (ss : Specs) (seen : Bool) (is : List Item) → WfItems env ss seen is → Keeps (put_commas put_item is)
items env ss seen [] h = nothing
items env ss seen (i ∷ is) h = both (item env (after_declarator ss i.declarator env) i h.2 h.3 h.4) (more_items (after_declarator ss i.declarator env) ss true is h.5)

declaration : (env : Env) (d : Declaration) → WfDeclaration env d → Keeps (put_declaration d)
declaration env d h = both (specs env false d.specs h.1) (both (items env d.specs _ d.items h.2) (last (mark_of t.Semi)))

first : (env : Env) (i : First) → WfFirst env i → Keeps (put_first i)
first env (u.FirstDeclaration d) h = declaration env d h
first env (u.FirstExpr e) h = both (maybe_expression env e 1 h) (last (mark_of t.Semi))

-- ---- statements

condition : {f : List Tok → List Tok} (env : Env) (c : Expr) → Wf env c → Keeps f → Keeps (λ r. mark t.LParen ∷ put c (mark t.RParen ∷ f r))
condition env c h k = led (mark_of t.LParen) (both (expression env c h) (led (mark_of t.RParen) k))

mutual
  statement : (env : Env) (s : Stmt) → WfStmt env s → Keeps (put_stmt s)
  statement env (u.Block items) h = led (mark_of t.LBrace) (both (block env items h) (last (mark_of t.RBrace)))
  statement env (u.ExprStmt e) h = both (maybe_expression env e 1 h) (last (mark_of t.Semi))
  statement env (u.If c a) h = led (word_of t.KIf) (condition env c h.0 (statement env a h.1))
  statement env (u.IfElse c a b) h = led (word_of t.KIf) (condition env c h.0 (both (statement env a h.1) (led (word_of t.KElse) (statement (after_stmt a env) b h.3))))
  statement env (u.While c a) h = led (word_of t.KWhile) (condition env c h.0 (statement env a h.1))
  statement env (u.Do a c) h = led (word_of t.KDo) (both (statement env a h.0) (led (word_of t.KWhile) (condition (after_stmt a env) c h.1 (last (mark_of t.Semi)))))
  statement env (u.For i c e a) h =
      led (word_of t.KFor) (led (mark_of t.LParen) (both (first env i h.0) (both (maybe_expression (after_first i env) c 1 h.1)
      (led (mark_of t.Semi) (both (maybe_expression (after_first i env) e 1 h.2) (led (mark_of t.RParen) (statement (after_first i env) a h.3)))))))
  statement env u.Break h = led (word_of t.KBreak) (last (mark_of t.Semi))
  statement env u.Continue h = led (word_of t.KContinue) (last (mark_of t.Semi))
  statement env (u.Return e) h = led (word_of t.KReturn) (both (maybe_expression env e 1 h) (last (mark_of t.Semi)))

  block : (env : Env) (is : BlockItems) → WfBlock env is → Keeps (put_block is)
  block env u.no_items h = nothing
  block env (u.declared d is) h = both (declaration env d h.0) (block (after_declaration d env) is h.1)
  block env (u.statement s is) h = both (statement env s h.0) (block (after_stmt s env) is h.1)

-- ---- the unit

external : (env : Env) (e : External) → WfExternal env e → Keeps (put_external e)
external env (u.Declares d) h = declaration env d h
external env (u.Definition ss d items) h =
    both (specs env false ss h.1) (both (declarator env d h.4) (led (mark_of t.LBrace) (both (block (after_declarator ss d env) items h.6) (last (mark_of t.RBrace)))))

unit : (env : Env) (u : List External) → WfUnit env u → Valid (toks u)
unit env [] h = tt
unit env (e ∷ es) h = (external env e h.0).all (toks es) (unit (after_external e env) es h.1)

mapped : (ts : List Tok) → Valid ts → AllByRecursion IsLexeme (map lexeme ts)
mapped [] h = tt
mapped (t ∷ ts) h = (h.0, mapped ts h.1)

lexemes : (ts : List Tok) → Valid ts → All IsLexeme (map lexeme ts)
lexemes ts h = All-from_recursion IsLexeme (map lexeme ts) (mapped ts h)

pub spells_tokens : (u : List External) → WfUnit [] u → All IsLexeme (spelled u)
spells_tokens u h = lexemes (toks u) (unit [] u h)

lines : (env : Env) (u : List External) → WfUnit env u → AllByRecursion (All IsLexeme) (unit_lines u)
lines env [] h = tt
lines env (e ∷ es) h = (lexemes (put_external e []) ((external env e h.0).all [] tt), lines (after_external e env) es h.1)

pub lines_are_tokens : (u : List External) → WfUnit [] u → All (All IsLexeme) (unit_lines u)
lines_are_tokens u h = All-from_recursion (All IsLexeme) (unit_lines u) (lines [] u h)

-- ---- its text

pub text_lexes : (u : List External) → WfUnit [] u → LexesTo (unit_text u) (spelled u)
text_lexes u h = subst (λ ls. LexesTo (unit_text u) ls) (lines_are_unit u) (lines_lex (unit_lines u) (lines_are_tokens u h))
