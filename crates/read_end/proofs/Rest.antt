-- Declarators: what a step does with the tokens that have no case of their own.
use Rattle.std.proofs.Common.{◌≡◌, ℕ, List, Bor, refl}
use Rattle.tok_base.specs.declared.token.Span.{Span}
use Rattle.c_tree.specs.Wf.{Env}
use Rattle.c_reader.specs.MarkedInside as r
use Rattle.c_reader.specs.MarkedDeclarators as m
use Rattle.c_symbol.specs.Seen.{view_symbol}
use Rattle.c_symbol.specs.declared.symbol.Symbol.{Symbol}
use Rattle.c_symbol.specs.declared.symbol.Symbol.TheVariants as s
use Rattle.c_symbol.specs.declared.symbol.Operator.{Operator}

pub begin_rest : (n e : ℕ) (env : Env) (k : r.InDeclarator) (y : Symbol) (at : Span)
    → ((x : Bor (List ℕ)) → y ≡ s.Name x → ⊥) → ((o : Operator) → y ≡ s.Operator o → ⊥) → (y ≡ s.LeftParen → ⊥) → (y ≡ s.LeftBracket → ⊥)
    → m.declarator_begin n e env k (view_symbol y) at ≡ m.nameless n e env k (view_symbol y) at
begin_rest n e env k (s.Name x) at a b f g = absurd (a x refl)
begin_rest n e env k (s.Operator o) at a b f g = absurd (b o refl)
begin_rest n e env k s.LeftParen at a b f g = absurd (f refl)
begin_rest n e env k s.LeftBracket at a b f g = absurd (g refl)
begin_rest n e env k _ at a b f g = refl
