-- Expressions: what a step does with the tokens that have no case of their own.
use Rattle.std.proofs.Common.{◌≡◌, ℕ, suc, List, [], Bor, refl}
use Rattle.tok_base.specs.declared.token.Span.{Span}
use Rattle.c_tree.specs.Marked as u
use Rattle.c_tree.specs.Wf.{Env}
use Rattle.c_reader.specs.MarkedParts.{Open, mark, leaf}
use Rattle.c_reader.specs.MarkedInside as r
use Rattle.c_reader.specs.MarkedBegin as begin
use Rattle.c_reader.specs.MarkedExprs as m
use Rattle.c_symbol.specs.Seen.{view_symbol}
use Rattle.c_symbol.specs.declared.symbol.Symbol.{Symbol}
use Rattle.c_symbol.specs.declared.symbol.Symbol.TheVariants as s

pub text_rest : (n e : ℕ) (env : Env) (from : ℕ) (k : r.InExpr) (xs : List (List ℕ)) (y : Symbol) (at : Span)
    → ((x : Bor (List ℕ)) → y ≡ s.Text x → ⊥)
    → m.text_next n e env from k xs (view_symbol y) at ≡ m.after (suc n) e env (leaf from) k (u.Text (mark from e n) xs) (view_symbol y) at
text_rest n e env from k xs (s.Text x) at f = absurd (f x refl)
text_rest n e env from k xs _ at f = refl

pub sizeof_rest : (n : ℕ) (env : Env) (o : Open) (k : r.InExpr) (y : Symbol) (at : Span)
    → (y ≡ s.LeftParen → ⊥)
    → m.sizeof_next n env o k (view_symbol y) at ≡ begin.want n env (r.in_operand o r.of_sizeof k) (view_symbol y) at
sizeof_rest n env o k s.LeftParen at f = absurd (f refl)
sizeof_rest n env o k _ at f = refl

pub args_rest : (n : ℕ) (env : Env) (o : Open) (a : u.Expr) (k : r.InExpr) (y : Symbol) (at : Span)
    → (y ≡ s.RightParen → ⊥)
    → m.args_begin n env o a k (view_symbol y) at ≡ begin.want n env (r.in_bracket o (r.of_args (r.of_function a) []) k) (view_symbol y) at
args_rest n env o a k s.RightParen at f = absurd (f refl)
args_rest n env o a k _ at f = refl
