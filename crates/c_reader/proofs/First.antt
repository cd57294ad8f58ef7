-- The first token of an expression, of specs and of a declarator, and modes that take it as others do.
use Rattle.std.proofs.Common.{◌≡◌, ℕ, Bool, true, false, ◌||◌, if◌then◌else◌, List, [], ◌∷◌, Option, Some, None, refl, sym, ◌∙◌, ap}
use Rattle.c_tree.specs.Tok as g
use Rattle.c_tree.specs.Tok.{Tok, Word, mark, word}
use Rattle.c_tree.specs.Marks.{prefix_mark}
use Rattle.c_tree.specs.Tree as u
use Rattle.c_tree.specs.Tree.{Expr, Specs, Declarator, PrefixOp}
use Rattle.c_tree.specs.Put.{put, put_specs, put_declarator}
use Rattle.c_tree.specs.Wf.{Env, is_type, is_specifier, is_qualifier, is_storage, leading_name, IsApart, IsSpelled, Wf, WfSpecs, WfDeclarator}
use Rattle.c_reader.specs.Symbol as t
use Rattle.c_reader.specs.Symbol.{Symbol, Operator, Keyword, keyword_word, tok}
use Rattle.c_reader.specs.Parts.{SpecsRead, no_specs}
use Rattle.c_reader.specs.Inside.{InExpr, InSpecs, Mode, want_expr, want_declarator, in_specs, expr, specs, declarator}
use Rattle.c_reader.specs.Begin.{begins_specs, open_spec, operator_prefix, want}
use Rattle.c_reader.specs.Declarators.{is_star}
use Rattle.c_reader.specs.Specs.{behind}
use Rattle.c_reader.specs.Machine.{step_at, run}
use Rattle.c_reader.proofs.Go.{at, pick, skip, Starts, same_start}

-- ---- expressions

abbrev pub is_some_prefix : Option PrefixOp → Bool
is_some_prefix None = false
is_some_prefix (Some o) = true

abbrev pub begins_expr : Env → Symbol → Bool
begins_expr env (t.name n) = if is_type env n then false else true
begins_expr env (t.number n) = true
begins_expr env (t.char n) = true
begins_expr env (t.text n) = true
begins_expr env (t.operator o) = is_some_prefix (operator_prefix o)
begins_expr env t.lparen = true
begins_expr env t.sizeof = true
begins_expr env t.builtin = true
begins_expr env _ = false

abbrev pub BeginsExpr : Env → Symbol → Type 0
BeginsExpr env y = begins_expr env y ≡ true

-- the mark of an operator before its operand
abbrev pub prefix_operator : PrefixOp → Operator
prefix_operator u.Increment = t.step u.PostIncrement
prefix_operator u.Decrement = t.step u.PostDecrement
prefix_operator u.Address = t.binary u.BitAnd
prefix_operator u.Deref = t.binary u.Mul
prefix_operator u.Positive = t.binary u.Add
prefix_operator u.Negative = t.binary u.Sub
prefix_operator u.Complement = t.negation t.Complement
prefix_operator u.Not = t.negation t.Not

pub prefix_tok : (o : PrefixOp) → mark (prefix_mark o) ≡ tok (t.operator (prefix_operator o))
prefix_tok u.Increment = refl
prefix_tok u.Decrement = refl
prefix_tok u.Address = refl
prefix_tok u.Deref = refl
prefix_tok u.Positive = refl
prefix_tok u.Negative = refl
prefix_tok u.Complement = refl
prefix_tok u.Not = refl

pub prefix_again : (o : PrefixOp) → operator_prefix (prefix_operator o) ≡ Some o
prefix_again u.Increment = refl
prefix_again u.Decrement = refl
prefix_again u.Address = refl
prefix_again u.Deref = refl
prefix_again u.Positive = refl
prefix_again u.Negative = refl
prefix_again u.Complement = refl
prefix_again u.Not = refl

first_text : (env : Env) (ts : List (List ℕ)) (rest : List Tok) → (ts ≡ [] → ⊥) → Starts (BeginsExpr env) (put (u.Text ts) rest)
first_text env [] rest h = absurd (h refl)
first_text env (n ∷ ns) rest h = record { y = t.text n; more = _; is = refl; holds = refl }

pub first : (env : Env) (a : Expr) (rest : List Tok) → Wf env a → Starts (BeginsExpr env) (put a rest)
first env (u.Comma a b) rest h = first env a _ h.0
first env (u.Assign a o b) rest h = first env a _ h.1
first env (u.Cond c a b) rest h = first env c _ h.1
first env (u.Binary a o b) rest h = first env a _ h.1
first env (u.Cast ss d a) rest h = record { y = t.lparen; more = _; is = refl; holds = refl }
first env (u.Prefix o a) rest h = record { y = t.operator (prefix_operator o); more = put a rest; is = ap (λ x. x ∷ put a rest) (prefix_tok o); holds = ap is_some_prefix (prefix_again o) }
first env (u.SizeofExpr a) rest h = record { y = t.sizeof; more = _; is = refl; holds = refl }
first env (u.SizeofType ss d) rest h = record { y = t.sizeof; more = _; is = refl; holds = refl }
first env (u.Index a b) rest h = first env a _ h.1
first env (u.Call f xs) rest h = first env f _ h.1
first env (u.Dot a n) rest h = first env a _ h.1
first env (u.Arrow a n) rest h = first env a _ h.1
first env (u.Post a s) rest h = first env a _ h.1
first env (u.Name n) rest h = record { y = t.name n; more = rest; is = refl; holds = ap (λ b. if b then false else true) h.1 }
first env (u.Number n) rest h = record { y = t.number n; more = rest; is = refl; holds = refl }
first env (u.Char n) rest h = record { y = t.char n; more = rest; is = refl; holds = refl }
first env (u.Text ts) rest h = first_text env ts rest h.0
first env (u.Paren a) rest h = record { y = t.lparen; more = _; is = refl; holds = refl }
first env (u.Builtin xs) rest h = record { y = t.builtin; more = _; is = refl; holds = refl }

pub not_type : (b : Bool) → (if b then false else true) ≡ true → b ≡ false
not_type true h = sym h
not_type false h = refl

-- what begins an expression begins no specs
pub no_spec : (env : Env) (y : Symbol) → BeginsExpr env y → begins_specs env false y ≡ false
no_spec env (t.name n) h = not_type (is_type env n) h
no_spec env (t.keyword w) h = cc
no_spec env (t.tagged g) h = cc
no_spec env t.attribute h = cc
no_spec env _ h = refl

-- a mode that takes the first token of an expression as want_expr k does
pub passes : (env : Env) (m : Mode) (k : InExpr) (a : Expr) (rest : List Tok) → ((y : Symbol) → BeginsExpr env y → step_at env m y ≡ want env k y) → Wf env a
    → run (at env m) (put a rest) ≡ run (at env (expr (want_expr k))) (put a rest)
passes env m k a rest same h = same_start (BeginsExpr env) (at env m) (at env (expr (want_expr k))) (put a rest) (first env a rest h) same

-- ---- specs

abbrev pub BeginsSpecs : Env → Bool → Symbol → Type 0
BeginsSpecs env seen y = begins_specs env seen y ≡ true

abbrev pub NoSpecs : Env → Bool → Symbol → Type 0
NoSpecs env seen y = begins_specs env seen y ≡ false

pub record IsKeyword (w : Word) : Type 0 where
  pub k : Keyword
  pub is : keyword_word k ≡ w

pub is_keyword : (w : Word) → (is_specifier w || is_qualifier w || is_storage w ≡ true) → IsKeyword w
is_keyword g.KTypedef h = record { k = t.Typedef; is = refl }
is_keyword g.KExtern h = record { k = t.Extern; is = refl }
is_keyword g.KStatic h = record { k = t.Static; is = refl }
is_keyword g.KAuto h = record { k = t.Auto; is = refl }
is_keyword g.KRegister h = record { k = t.Register; is = refl }
is_keyword g.KInline h = record { k = t.Inline; is = refl }
is_keyword g.KConst h = record { k = t.Const; is = refl }
is_keyword g.KVolatile h = record { k = t.Volatile; is = refl }
is_keyword g.KRestrict h = record { k = t.Restrict; is = refl }
is_keyword g.KVoid h = record { k = t.Void; is = refl }
is_keyword g.KBool h = record { k = t.Bool_; is = refl }
is_keyword g.KChar h = record { k = t.Char; is = refl }
is_keyword g.KShort h = record { k = t.Short; is = refl }
is_keyword g.KInt h = record { k = t.Int; is = refl }
is_keyword g.KLong h = record { k = t.Long; is = refl }
is_keyword g.KSigned h = record { k = t.Signed; is = refl }
is_keyword g.KUnsigned h = record { k = t.Unsigned; is = refl }
is_keyword _ h = cc

spec_keyword : (env : Env) (w : Word) (rest : List Tok) → IsKeyword w → Starts (BeginsSpecs env false) (word w ∷ rest)
spec_keyword env w rest h = record { y = t.keyword h.k; more = rest; is = ap (λ x. word x ∷ rest) (sym h.is); holds = refl }

pub first_spec : (env : Env) (ss : Specs) (rest : List Tok) → (ss ≡ u.no_specs → ⊥) → WfSpecs env false ss → Starts (BeginsSpecs env false) (put_specs ss rest)
first_spec env u.no_specs rest n h = absurd (n refl)
first_spec env (u.Keyword w ss) rest n h = spec_keyword env w (put_specs ss rest) (is_keyword w h.0)
first_spec env (u.Typedef m ss) rest n h = record { y = t.name m; more = _; is = refl; holds = h.1 }
first_spec env (u.Attribute es ss) rest n h = record { y = t.attribute; more = _; is = refl; holds = refl }
first_spec env (u.Record b tag fs ss) rest n h = record { y = t.tagged (t.records b); more = _; is = refl; holds = refl }
first_spec env (u.Enum tag es ss) rest n h = record { y = t.tagged t.enums; more = _; is = refl; holds = refl }

-- a mode that takes the first token of specs
pub passes_spec : (env : Env) (m : Mode) (k : InSpecs) (ss : Specs) (rest : List Tok) → ((y : Symbol) → BeginsSpecs env false y → step_at env m y ≡ open_spec env no_specs k y)
    → (ss ≡ u.no_specs → ⊥) → WfSpecs env false ss → run (at env m) (put_specs ss rest) ≡ run (at env (specs (in_specs no_specs k))) (put_specs ss rest)
passes_spec env m k ss rest same n h =
    same_start (BeginsSpecs env false) (at env m) (at env (specs (in_specs no_specs k))) (put_specs ss rest) (first_spec env ss rest n h)
    (λ y b. same y b ∙ sym (pick _ _ _ b))

-- the token behind specs
pub passes_end : (env : Env) (s : SpecsRead) (k : InSpecs) (ts : List Tok) → Starts (NoSpecs env s.seen) ts
    → run (at env (specs (in_specs s k))) ts ≡ run (at env (declarator (want_declarator (behind s k)))) ts
passes_end env s k ts f = same_start (NoSpecs env s.seen) (at env (specs (in_specs s k))) (at env (declarator (want_declarator (behind s k)))) ts f (λ y b. skip _ _ _ b)

-- ---- declarators

-- what a declarator may begin with, seen: as the first behind specs
abbrev pub begins_declarator : Env → Bool → Symbol → Bool
begins_declarator env seen (t.name n) = if begins_specs env seen (t.name n) then false else true
begins_declarator env seen (t.operator o) = is_star o
begins_declarator env seen t.lparen = true
begins_declarator env seen t.lbracket = true
begins_declarator env seen _ = false

abbrev pub BeginsDeclarator : Env → Bool → Symbol → Type 0
BeginsDeclarator env seen y = begins_declarator env seen y ≡ true

pub no_spec_declarator : (env : Env) (seen : Bool) (y : Symbol) → BeginsDeclarator env seen y → NoSpecs env seen y
no_spec_declarator env seen (t.name n) h = not_type (if seen then false else is_type env n) h
no_spec_declarator env seen (t.keyword w) h = cc
no_spec_declarator env seen (t.tagged g) h = cc
no_spec_declarator env seen t.attribute h = cc
no_spec_declarator env seen _ h = refl

apart_name : (seen b : Bool) → (b ≡ true → seen ≡ true) → (if (if seen then false else b) then false else true) ≡ true
apart_name true b h = refl
apart_name false true h = h refl
apart_name false false h = refl

first_direct : (env : Env) (seen : Bool) (d : Declarator) (y : Symbol) (rest : List Tok) → BeginsDeclarator env seen y → IsApart env seen (leading_name d) → WfDeclarator env d → Starts (BeginsDeclarator env seen) (put_declarator d (tok y ∷ rest))
first_direct env seen (u.Declared None) y rest b a h = record { y = y; more = rest; is = refl; holds = b }
first_direct env seen (u.Declared (Some n)) y rest b a h = record { y = t.name n; more = _; is = refl; holds = apart_name seen (is_type env n) a }
first_direct env seen (u.PointerTo qs d) y rest b a h = record { y = t.operator (t.binary u.Mul); more = _; is = refl; holds = refl }
first_direct env seen (u.Group d) y rest b a h = record { y = t.lparen; more = _; is = refl; holds = refl }
first_direct env seen (u.ArrayOf d n) y rest b a h = first_direct env seen d t.lbracket _ refl a h.1
first_direct env seen (u.FunctionOf d ps) y rest b a h = first_direct env seen d t.lparen _ refl a h.1

pub first_declarator : (env : Env) (seen : Bool) (d : Declarator) (rest : List Tok) → IsSpelled d → IsApart env seen (leading_name d) → WfDeclarator env d → Starts (BeginsDeclarator env seen) (put_declarator d rest)
first_declarator env seen (u.Declared None) rest s a h = cc
first_declarator env seen (u.Declared (Some n)) rest s a h = record { y = t.name n; more = _; is = refl; holds = apart_name seen (is_type env n) a }
first_declarator env seen (u.PointerTo qs d) rest s a h = record { y = t.operator (t.binary u.Mul); more = _; is = refl; holds = refl }
first_declarator env seen (u.Group d) rest s a h = record { y = t.lparen; more = _; is = refl; holds = refl }
first_declarator env seen (u.ArrayOf d n) rest s a h = first_direct env seen d t.lbracket _ refl a h.1
first_declarator env seen (u.FunctionOf d ps) rest s a h = first_direct env seen d t.lparen _ refl a h.1
