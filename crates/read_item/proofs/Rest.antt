-- Items: what a step does with the tokens that have no case of their own.
use Rattle.std.proofs.Common.{◌≡◌, ℕ, suc, [], refl}
use Rattle.tok_base.specs.declared.token.Span.{Span}
use Rattle.c_tree.specs.Marked as u
use Rattle.c_tree.specs.Wf.{Env}
use Rattle.c_reader.specs.MarkedParts.{Had, takes}
use Rattle.c_reader.specs.MarkedInside as r
use Rattle.c_reader.specs.MarkedDeclarations as d
use Rattle.c_symbol.specs.Seen.{view_symbol}
use Rattle.c_symbol.specs.declared.symbol.Symbol.{Symbol}
use Rattle.c_symbol.specs.declared.symbol.Symbol.TheVariants as s
use Rattle.c_symbol.specs.declared.symbol.Operator.{Operator}

pub item_rest : (n e : ℕ) (env : Env) (x : r.ItemRead) (y : Symbol) (at : Span)
    → (y ≡ s.Attribute → ⊥) → ((o : Operator) → y ≡ s.Operator o → ⊥)
    → d.item_next n e env x (view_symbol y) at ≡ d.item_end (suc n) env (d.add_item n e 0 x u.no_init) (view_symbol y) at
item_rest n e env x s.Attribute at a b = absurd (a refl)
item_rest n e env x (s.Operator o) at a b = absurd (b o refl)
item_rest n e env x _ at a b = refl

pub item_declarator_rest : (n e : ℕ) (env : Env) (h : Had) (q : r.InItems) (x : u.Declarator) (y : Symbol) (at : Span)
    → (y ≡ s.LeftBrace → ⊥)
    → d.item_declarator_next n e env h q x (view_symbol y) at ≡ d.item_next n e env (record { node = takes q.node.level h; before = q; declarator = x; attributes = [] }) (view_symbol y) at
item_declarator_rest n e env h q x s.LeftBrace at a = absurd (a refl)
item_declarator_rest n e env h q x _ at a = refl
