-- The program's tokens, seen as the machine's.
use Rattle.std.specs.Prelude.{Option, Some, None}
use Rattle.c_tree.specs.View.{view_op, view_assign, view_step}
use Rattle.c_tree.specs.declared.operator.Keyword.{Keyword}
use Rattle.c_tree.specs.declared.operator.Keyword.TheVariants as k
use Rattle.c_reader.specs.Symbol as m
use Rattle.c_symbol.specs.declared.symbol.Symbol.{Symbol}
use Rattle.c_symbol.specs.declared.symbol.Symbol.TheVariants as s
use Rattle.c_symbol.specs.declared.symbol.Operator.{Operator}
use Rattle.c_symbol.specs.declared.symbol.Operator.TheVariants as o
use Rattle.c_symbol.specs.declared.symbol.Tagged.{Tagged}
use Rattle.c_symbol.specs.declared.symbol.Tagged.TheVariants as g
use Rattle.c_symbol.specs.declared.symbol.Head.{Head}
use Rattle.c_symbol.specs.declared.symbol.Head.TheVariants as h
use Rattle.c_symbol.specs.declared.symbol.Negation.{Negation}
use Rattle.c_symbol.specs.declared.symbol.Negation.TheVariants as n
use Rattle.c_symbol.specs.declared.symbol.Member.{Member}
use Rattle.c_symbol.specs.declared.symbol.Member.TheVariants as d

abbrev pub view_keyword : Keyword → m.Keyword
view_keyword k.Typedef = m.Typedef
view_keyword k.Extern = m.Extern
view_keyword k.Static = m.Static
view_keyword k.Auto = m.Auto
view_keyword k.Register = m.Register
view_keyword k.Inline = m.Inline
view_keyword k.Const = m.Const
view_keyword k.Volatile = m.Volatile
view_keyword k.Restrict = m.Restrict
view_keyword k.Void = m.Void
view_keyword k.Char = m.Char
view_keyword k.Short = m.Short
view_keyword k.Int = m.Int
view_keyword k.Long = m.Long
view_keyword k.Signed = m.Signed
view_keyword k.Unsigned = m.Unsigned
view_keyword k.Bool = m.Bool_

abbrev pub view_tagged : Tagged → m.Tagged
view_tagged (g.Record is_union) = m.records is_union
view_tagged g.Enum = m.enums

abbrev pub view_head : Head → m.Head
view_head h.If = m.If
view_head h.Else = m.Else
view_head h.While = m.While
view_head h.Do = m.Do
view_head h.For = m.For
view_head h.Break = m.Break
view_head h.Continue = m.Continue
view_head h.Return = m.Return

abbrev pub view_negation : Negation → m.Negation
view_negation n.Complement = m.Complement
view_negation n.Not = m.Not

abbrev pub view_member : Member → m.Member
view_member d.Dot = m.Dot
view_member d.Arrow = m.Arrow

abbrev pub view_operator : Operator → m.Operator
view_operator (o.Binary op) = m.binary (view_op op)
view_operator (o.Assign op) = m.assign (view_assign op)
view_operator (o.Step op) = m.step (view_step op)
view_operator (o.Negation op) = m.negation (view_negation op)
view_operator o.Question = m.question
view_operator (o.Member op) = m.member (view_member op)

abbrev pub view_symbol : Symbol → m.Symbol
view_symbol (s.Name n) = m.name n.now
view_symbol (s.Number n) = m.number n.now
view_symbol (s.Char n) = m.char n.now
view_symbol (s.Text n) = m.text n.now
view_symbol (s.Keyword w) = m.keyword (view_keyword w)
view_symbol (s.Tagged g) = m.tagged (view_tagged g)
view_symbol (s.Head h) = m.head (view_head h)
view_symbol s.Sizeof = m.sizeof
view_symbol s.Attribute = m.attribute
view_symbol s.Builtin = m.builtin
view_symbol (s.Operator op) = m.operator (view_operator op)
view_symbol s.Colon = m.colon
view_symbol s.LeftParen = m.lparen
view_symbol s.RightParen = m.rparen
view_symbol s.LeftBracket = m.lbracket
view_symbol s.RightBracket = m.rbracket
view_symbol s.LeftBrace = m.lbrace
view_symbol s.RightBrace = m.rbrace
view_symbol s.Comma = m.comma
view_symbol s.Semicolon = m.semi

abbrev pub seen : Option Symbol → Option m.Symbol
seen None = None
seen (Some y) = Some (view_symbol y)
