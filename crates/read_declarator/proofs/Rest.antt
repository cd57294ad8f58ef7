-- Declarators: what a step does with the tokens that have no case of their own.
use Rattle.std.proofs.Common.{◌≡◌, ℕ, false, if◌then◌else◌, List, refl}
use Rattle.tok_base.specs.declared.token.Span.{Span}
use Rattle.c_tree.specs.Tok.{Word}
use Rattle.c_tree.specs.Marked as u
use Rattle.c_tree.specs.Wf.{Env}
use Rattle.c_tree.specs.declared.operator.Keyword.{Keyword}
use Rattle.c_reader.specs.Begin.{begins_specs}
use Rattle.c_reader.specs.MarkedParts.{Open, Had}
use Rattle.c_reader.specs.MarkedInside as r
use Rattle.c_reader.specs.MarkedDeclarators as m
use Rattle.c_symbol.specs.Seen.{view_symbol}
use Rattle.c_symbol.specs.declared.symbol.Symbol.{Symbol}
use Rattle.c_symbol.specs.declared.symbol.Symbol.TheVariants as s

pub star_rest : (n e : ℕ) (env : Env) (o : Open) (qs : List Word) (k : r.InDeclarator) (y : Symbol) (at : Span)
    → ((w : Keyword) → y ≡ s.Keyword w → ⊥)
    → m.star_next n e env o qs k (view_symbol y) at ≡ m.declarator_begin n e env (r.in_pointer o qs k) (view_symbol y) at
star_rest n e env o qs k (s.Keyword w) at a = absurd (a w refl)
star_rest n e env o qs k _ at a = refl

pub opened_rest : (n e : ℕ) (env : Env) (o : Open) (k : r.InDeclarator) (y : Symbol) (at : Span)
    → (y ≡ s.RightParen → ⊥)
    → m.opened_next n e env o k (view_symbol y) at ≡ (if begins_specs env false (view_symbol y) then m.open_params n env o k (view_symbol y) at else m.declarator_begin n e env (r.in_group o k) (view_symbol y) at)
opened_rest n e env o k s.RightParen at a = absurd (a refl)
opened_rest n e env o k _ at a = refl

pub declarator_rest : (n e : ℕ) (env : Env) (h : Had) (k : r.InDeclarator) (x : u.Declarator) (y : Symbol) (at : Span)
    → (y ≡ s.LeftBracket → ⊥) → (y ≡ s.LeftParen → ⊥)
    → m.declarator_next n e env h k x (view_symbol y) at ≡ m.end_declarator n e env h k x (view_symbol y) at
declarator_rest n e env h k x s.LeftBracket at a b = absurd (a refl)
declarator_rest n e env h k x s.LeftParen at a b = absurd (b refl)
declarator_rest n e env h k x _ at a b = refl
