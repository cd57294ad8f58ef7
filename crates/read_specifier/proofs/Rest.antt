-- Specifiers: what a step does with the tokens that have no case of their own.
use Rattle.std.proofs.Common.{◌≡◌, ℕ, suc, List, refl}
use Rattle.tok_base.specs.declared.token.Span.{Span}
use Rattle.c_tree.specs.Marked as u
use Rattle.c_tree.specs.Wf.{Env}
use Rattle.c_reader.specs.MarkedParts.{Open, SpecsRead, mark, whole, add_type}
use Rattle.c_reader.specs.MarkedInside as r
use Rattle.c_reader.specs.MarkedBegin as begin
use Rattle.c_reader.specs.MarkedSpecs as m
use Rattle.c_reader.specs.Symbol.{Tagged}
use Rattle.c_symbol.specs.Seen.{view_symbol}
use Rattle.c_symbol.specs.declared.symbol.Operator.{Operator}
use Rattle.c_symbol.specs.declared.symbol.Symbol.{Symbol}
use Rattle.c_symbol.specs.declared.symbol.Symbol.TheVariants as s

-- ---- specifiers

pub tag_rest : (n e : ℕ) (env : Env) (o : Open) (g : Tagged) (x : List ℕ) (ss : SpecsRead) (k : r.InSpecs) (y : Symbol) (at : Span)
    → (y ≡ s.LeftBrace → ⊥)
    → m.tag_next n e env o g x ss k (view_symbol y) at ≡ m.specs_next (suc n) e env (add_type ss (whole o 0) (m.tag_spec (mark o.from e n) g x)) k (view_symbol y) at
tag_rest n e env o g x ss k s.LeftBrace at f = absurd (f refl)
tag_rest n e env o g x ss k _ at f = refl

pub field_rest : (n : ℕ) (env : Env) (f : r.InFields) (y : Symbol) (at : Span)
    → (y ≡ s.RightBrace → ⊥)
    → m.field_begin n env f (view_symbol y) at ≡ begin.first_spec n env (r.of_field f) (view_symbol y) at
field_rest n env f s.RightBrace at g = absurd (g refl)
field_rest n env f _ at g = refl

pub enumerator_rest : (n e : ℕ) (env : Env) (o : Open) (x : List ℕ) (k : r.InEnum) (y : Symbol) (at : Span)
    → ((p : Operator) → y ≡ s.Operator p → ⊥)
    → m.enumerator_next n e env o x k (view_symbol y) at ≡ m.enumerator_end (suc n) env (m.add_enumerator n e o 0 k x u.no_expr) (view_symbol y) at
enumerator_rest n e env o x k (s.Operator p) at f = absurd (f p refl)
enumerator_rest n e env o x k _ at f = refl
