-- Initialisers, arrays and parameters: what a step does with the tokens that have no case of their own.
use Rattle.std.proofs.Common.{◌≡◌, ℕ, [], refl}
use Rattle.tok_base.specs.declared.token.Span.{Span}
use Rattle.c_tree.specs.Marked as u
use Rattle.c_tree.specs.Wf.{Env}
use Rattle.c_reader.specs.MarkedParts.{Open}
use Rattle.c_reader.specs.MarkedInside as r
use Rattle.c_reader.specs.MarkedBegin as begin
use Rattle.c_reader.specs.MarkedDeclarations as d
use Rattle.c_reader.specs.MarkedDeclarators as m
use Rattle.c_symbol.specs.Seen.{view_symbol}
use Rattle.c_symbol.specs.declared.symbol.Symbol.{Symbol}
use Rattle.c_symbol.specs.declared.symbol.Symbol.TheVariants as s

pub init_rest : (n : ℕ) (env : Env) (k : r.InInit) (y : Symbol) (at : Span)
    → (y ≡ s.LeftBrace → ⊥) → (y ≡ s.RightBrace → ⊥)
    → d.init_begin n env k (view_symbol y) at ≡ begin.want n env (r.in_init k) (view_symbol y) at
init_rest n env k s.LeftBrace at a b = absurd (a refl)
init_rest n env k s.RightBrace at a b = absurd (b refl)
init_rest n env k _ at a b = refl

pub array_rest : (n : ℕ) (env : Env) (o : Open) (x : u.Declarator) (k : r.InDeclarator) (y : Symbol) (at : Span)
    → (y ≡ s.RightBracket → ⊥)
    → m.array_next n env o x k (view_symbol y) at ≡ begin.want n env (r.in_array o x k) (view_symbol y) at
array_rest n env o x k s.RightBracket at a = absurd (a refl)
array_rest n env o x k _ at a = refl

pub params_rest : (n : ℕ) (env : Env) (o : Open) (x : u.Declarator) (k : r.InDeclarator) (y : Symbol) (at : Span)
    → (y ≡ s.RightParen → ⊥)
    → m.params_next n env o x k (view_symbol y) at ≡ begin.first_spec n env (r.of_param (r.in_params o x [] k)) (view_symbol y) at
params_rest n env o x k s.RightParen at a = absurd (a refl)
params_rest n env o x k _ at a = refl
