-- Attributes: what a step does with the tokens that have no case of their own.
use Rattle.std.proofs.Common.{◌≡◌, ℕ, List, [], None, refl}
use Rattle.tok_base.specs.declared.token.Span.{Span}
use Rattle.c_tree.specs.Marked as u
use Rattle.c_tree.specs.Wf.{Env}
use Rattle.c_reader.specs.MarkedParts.{Open}
use Rattle.c_reader.specs.MarkedInside as r
use Rattle.c_reader.specs.MarkedSpecs as m
use Rattle.c_symbol.specs.Seen.{view_symbol}
use Rattle.c_symbol.specs.declared.symbol.Symbol.{Symbol}
use Rattle.c_symbol.specs.declared.symbol.Symbol.TheVariants as s

pub entries_rest : (n : ℕ) (env : Env) (o : Open) (a : r.InAttribute) (y : Symbol)
    → (y ≡ s.RightParen → ⊥)
    → m.entries_begin n env o a (view_symbol y) ≡ m.entry_begin n env o a [] (view_symbol y)
entries_rest n env o a s.RightParen f = absurd (f refl)
entries_rest n env o a _ f = refl

pub entry_rest : (n : ℕ) (env : Env) (o : Open) (a : r.InAttribute) (es : List u.Entry) (x : List ℕ) (y : Symbol)
    → (y ≡ s.LeftParen → ⊥)
    → m.entry_next n env o a es x (view_symbol y) ≡ m.entry_end n env o a (m.add_entry es x None) (view_symbol y)
entry_rest n env o a es x s.LeftParen f = absurd (f refl)
entry_rest n env o a es x _ f = refl

pub arguments_rest : (n : ℕ) (env : Env) (o : Open) (a : r.InAttribute) (es : List u.Entry) (x : List ℕ) (y : Symbol) (at : Span)
    → (y ≡ s.RightParen → ⊥)
    → m.arguments_begin n env o a es x (view_symbol y) at ≡ m.argument_begin n env o a es x [] (view_symbol y) at
arguments_rest n env o a es x s.RightParen at f = absurd (f refl)
arguments_rest n env o a es x _ at f = refl
