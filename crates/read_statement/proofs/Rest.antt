-- Statements: what a step does with the tokens that have no case of their own.
use Rattle.std.proofs.Common.{◌≡◌, ℕ, false, if◌then◌else◌, refl}
use Rattle.tok_base.specs.declared.token.Span.{Span}
use Rattle.c_tree.specs.Marked as u
use Rattle.c_tree.specs.Wf.{Env}
use Rattle.c_reader.specs.Begin.{begins_specs}
use Rattle.c_reader.specs.MarkedParts.{Open, opens}
use Rattle.c_reader.specs.MarkedInside as r
use Rattle.c_reader.specs.MarkedBegin as begin
use Rattle.c_reader.specs.MarkedStmts as b
use Rattle.c_symbol.specs.Seen.{view_symbol}
use Rattle.c_symbol.specs.declared.symbol.Head.{Head}
use Rattle.c_symbol.specs.declared.symbol.Symbol.{Symbol}
use Rattle.c_symbol.specs.declared.symbol.Symbol.TheVariants as s

pub stmt_rest : (n : ℕ) (env : Env) (k : r.InStmt) (y : Symbol) (at : Span)
    → ((h : Head) → y ≡ s.Head h → ⊥) → (y ≡ s.LeftBrace → ⊥) → (y ≡ s.RightBrace → ⊥) → (y ≡ s.Semicolon → ⊥)
    → b.stmt_begin n env k (view_symbol y) at ≡ (if begins_specs env false (view_symbol y) then b.declaration_begin n env k (view_symbol y) at else begin.want n env (r.in_stmt (opens (r.around_stmt k).level at.start) r.plain k) (view_symbol y) at)
stmt_rest n env k (s.Head h) at f g i j = absurd (f h refl)
stmt_rest n env k s.LeftBrace at f g i j = absurd (g refl)
stmt_rest n env k s.RightBrace at f g i j = absurd (i refl)
stmt_rest n env k s.Semicolon at f g i j = absurd (j refl)
stmt_rest n env k _ at f g i j = refl

pub for_rest : (n : ℕ) (env : Env) (o : Open) (k : r.InStmt) (y : Symbol) (at : Span)
    → (y ≡ s.Semicolon → ⊥)
    → b.for_begin n env o k (view_symbol y) at ≡ (if begins_specs env false (view_symbol y) then begin.begin_specs n env (r.of_declaration (r.of_for o k)) (view_symbol y) at else begin.want n env (r.in_stmt o r.for_first k) (view_symbol y) at)
for_rest n env o k s.Semicolon at f = absurd (f refl)
for_rest n env o k _ at f = refl

pub condition_rest : (n : ℕ) (env : Env) (o : Open) (x : u.First) (k : r.InStmt) (y : Symbol) (at : Span)
    → (y ≡ s.Semicolon → ⊥)
    → b.condition_begin n env o x k (view_symbol y) at ≡ begin.want n env (r.in_stmt o (r.for_condition x) k) (view_symbol y) at
condition_rest n env o x k s.Semicolon at f = absurd (f refl)
condition_rest n env o x k _ at f = refl

pub step_rest : (n : ℕ) (env : Env) (o : Open) (x : u.First) (a : u.MaybeExpr) (k : r.InStmt) (y : Symbol) (at : Span)
    → (y ≡ s.RightParen → ⊥)
    → b.step_begin n env o x a k (view_symbol y) at ≡ begin.want n env (r.in_stmt o (r.for_step x a) k) (view_symbol y) at
step_rest n env o x a k s.RightParen at f = absurd (f refl)
step_rest n env o x a k _ at f = refl

pub return_rest : (n : ℕ) (env : Env) (o : Open) (k : r.InStmt) (y : Symbol) (at : Span)
    → (y ≡ s.Semicolon → ⊥)
    → b.return_next n env o k (view_symbol y) at ≡ begin.want n env (r.in_stmt o r.returned k) (view_symbol y) at
return_rest n env o k s.Semicolon at f = absurd (f refl)
return_rest n env o k _ at f = refl
