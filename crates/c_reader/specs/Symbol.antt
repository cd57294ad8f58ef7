-- A token by its part in the grammar. Tokens that no form of the grammar has are no symbols.
use Rattle.std.specs.Prelude.{ℕ, Bool, true, false, List, Option, Some, None}
use Rattle.tok_base.specs.declared.token.Lexeme.{Lexeme}
use Rattle.c_tree.specs.Tok as g
use Rattle.c_tree.specs.Tok.{Tok, Word, Punct}
use Rattle.c_tree.specs.Lexeme.{classify}
use Rattle.c_tree.specs.Tree as u
use Rattle.c_tree.specs.Tree.{BinaryOp, AssignOp, Step}
use Rattle.c_tree.specs.Marks.{binary_mark, assign_mark, step_mark, record_word}

-- the words of specs (ISO/IEC 9899:2018, 6.7.1 to 6.7.4)
pub data Keyword : Type 0 where
  Typedef Extern Static Auto Register Inline Const Volatile Restrict Void Bool_ Char Short Int Long Signed Unsigned : Keyword

-- what a tag names (6.7.2.3): a record (a union where true) or an enum
pub data Tagged : Type 0 where
  records : Bool → Tagged
  enums : Tagged

-- the words of statements (6.8)
pub data Head : Type 0 where
  If Else While Do For Break Continue Return : Head

pub data Negation : Type 0 where
  Complement Not : Negation

pub data Member : Type 0 where
  Dot Arrow : Member

pub data Operator : Type 0 where
  binary : BinaryOp → Operator  -- also * & + - before an operand, and * in a declarator
  assign : AssignOp → Operator  -- also = before an initialiser and a value
  step : Step → Operator  -- before or behind an operand
  negation : Negation → Operator
  question : Operator
  member : Member → Operator

pub data Symbol : Type 0 where
  name number char text : List ℕ → Symbol
  keyword : Keyword → Symbol
  tagged : Tagged → Symbol
  head : Head → Symbol
  sizeof attribute builtin : Symbol
  operator : Operator → Symbol
  colon lparen rparen lbracket rbracket lbrace rbrace comma semi : Symbol

-- ---- the token of a symbol

abbrev pub keyword_word : Keyword → Word
keyword_word Typedef = g.KTypedef
keyword_word Extern = g.KExtern
keyword_word Static = g.KStatic
keyword_word Auto = g.KAuto
keyword_word Register = g.KRegister
keyword_word Inline = g.KInline
keyword_word Const = g.KConst
keyword_word Volatile = g.KVolatile
keyword_word Restrict = g.KRestrict
keyword_word Void = g.KVoid
keyword_word Bool_ = g.KBool
keyword_word Char = g.KChar
keyword_word Short = g.KShort
keyword_word Int = g.KInt
keyword_word Long = g.KLong
keyword_word Signed = g.KSigned
keyword_word Unsigned = g.KUnsigned

abbrev pub tagged_word : Tagged → Word
tagged_word (records is_union) = record_word is_union
tagged_word enums = g.KEnum

abbrev pub head_word : Head → Word
head_word If = g.KIf
head_word Else = g.KElse
head_word While = g.KWhile
head_word Do = g.KDo
head_word For = g.KFor
head_word Break = g.KBreak
head_word Continue = g.KContinue
head_word Return = g.KReturn

abbrev pub negation_mark : Negation → Punct
negation_mark Complement = g.Tilde
negation_mark Not = g.Bang

abbrev pub member_mark : Member → Punct
member_mark Dot = g.Point
member_mark Arrow = g.Arrow

abbrev pub operator_mark : Operator → Punct
operator_mark (binary o) = binary_mark o
operator_mark (assign o) = assign_mark o
operator_mark (step o) = step_mark o
operator_mark (negation o) = negation_mark o
operator_mark question = g.Quest
operator_mark (member o) = member_mark o

abbrev pub tok : Symbol → Tok
tok (name n) = g.name n
tok (number n) = g.number n
tok (char n) = g.char n
tok (text n) = g.text n
tok (keyword w) = g.word (keyword_word w)
tok (tagged t) = g.word (tagged_word t)
tok (head h) = g.word (head_word h)
tok sizeof = g.word g.KSizeof
tok attribute = g.word g.KAttribute
tok builtin = g.word g.KBuiltin
tok (operator o) = g.mark (operator_mark o)
tok colon = g.mark g.Colon
tok lparen = g.mark g.LParen
tok rparen = g.mark g.RParen
tok lbracket = g.mark g.LBracket
tok rbracket = g.mark g.RBracket
tok lbrace = g.mark g.LBrace
tok rbrace = g.mark g.RBrace
tok comma = g.mark g.Com
tok semi = g.mark g.Semi

-- ---- the symbol of a token

abbrev pub word_symbol : Word → Option Symbol
word_symbol g.KTypedef = Some (keyword Typedef)
word_symbol g.KExtern = Some (keyword Extern)
word_symbol g.KStatic = Some (keyword Static)
word_symbol g.KAuto = Some (keyword Auto)
word_symbol g.KRegister = Some (keyword Register)
word_symbol g.KInline = Some (keyword Inline)
word_symbol g.KConst = Some (keyword Const)
word_symbol g.KVolatile = Some (keyword Volatile)
word_symbol g.KRestrict = Some (keyword Restrict)
word_symbol g.KVoid = Some (keyword Void)
word_symbol g.KBool = Some (keyword Bool_)
word_symbol g.KChar = Some (keyword Char)
word_symbol g.KShort = Some (keyword Short)
word_symbol g.KInt = Some (keyword Int)
word_symbol g.KLong = Some (keyword Long)
word_symbol g.KSigned = Some (keyword Signed)
word_symbol g.KUnsigned = Some (keyword Unsigned)
word_symbol g.KStruct = Some (tagged (records false))
word_symbol g.KUnion = Some (tagged (records true))
word_symbol g.KEnum = Some (tagged enums)
word_symbol g.KSizeof = Some sizeof
word_symbol g.KIf = Some (head If)
word_symbol g.KElse = Some (head Else)
word_symbol g.KWhile = Some (head While)
word_symbol g.KDo = Some (head Do)
word_symbol g.KFor = Some (head For)
word_symbol g.KBreak = Some (head Break)
word_symbol g.KContinue = Some (head Continue)
word_symbol g.KReturn = Some (head Return)
word_symbol g.KSwitch = None
word_symbol g.KCase = None
word_symbol g.KDefault = None
word_symbol g.KAttribute = Some attribute
word_symbol g.KBuiltin = Some builtin

abbrev pub mark_symbol : Punct → Option Symbol
mark_symbol g.LBracket = Some lbracket
mark_symbol g.RBracket = Some rbracket
mark_symbol g.LParen = Some lparen
mark_symbol g.RParen = Some rparen
mark_symbol g.LBrace = Some lbrace
mark_symbol g.RBrace = Some rbrace
mark_symbol g.Point = Some (operator (member Dot))
mark_symbol g.Arrow = Some (operator (member Arrow))
mark_symbol g.Inc = Some (operator (step u.PostIncrement))
mark_symbol g.Dec = Some (operator (step u.PostDecrement))
mark_symbol g.Amp = Some (operator (binary u.BitAnd))
mark_symbol g.Star = Some (operator (binary u.Mul))
mark_symbol g.Plus = Some (operator (binary u.Add))
mark_symbol g.Minus = Some (operator (binary u.Sub))
mark_symbol g.Tilde = Some (operator (negation Complement))
mark_symbol g.Bang = Some (operator (negation Not))
mark_symbol g.Slash = Some (operator (binary u.Div))
mark_symbol g.Percent = Some (operator (binary u.Rem))
mark_symbol g.Shl = Some (operator (binary u.Shl))
mark_symbol g.Shr = Some (operator (binary u.Shr))
mark_symbol g.Lt = Some (operator (binary u.Lt))
mark_symbol g.Gt = Some (operator (binary u.Gt))
mark_symbol g.Le = Some (operator (binary u.Le))
mark_symbol g.Ge = Some (operator (binary u.Ge))
mark_symbol g.EqEq = Some (operator (binary u.Eq))
mark_symbol g.NotEq = Some (operator (binary u.Ne))
mark_symbol g.Caret = Some (operator (binary u.BitXor))
mark_symbol g.Bar = Some (operator (binary u.BitOr))
mark_symbol g.AndAnd = Some (operator (binary u.And))
mark_symbol g.OrOr = Some (operator (binary u.Or))
mark_symbol g.Quest = Some (operator question)
mark_symbol g.Colon = Some colon
mark_symbol g.Semi = Some semi
mark_symbol g.Dots = None
mark_symbol g.Assign = Some (operator (assign u.Set))
mark_symbol g.MulA = Some (operator (assign u.MulSet))
mark_symbol g.DivA = Some (operator (assign u.DivSet))
mark_symbol g.RemA = Some (operator (assign u.RemSet))
mark_symbol g.AddA = Some (operator (assign u.AddSet))
mark_symbol g.SubA = Some (operator (assign u.SubSet))
mark_symbol g.ShlA = Some (operator (assign u.ShlSet))
mark_symbol g.ShrA = Some (operator (assign u.ShrSet))
mark_symbol g.AndA = Some (operator (assign u.AndSet))
mark_symbol g.XorA = Some (operator (assign u.XorSet))
mark_symbol g.OrA = Some (operator (assign u.OrSet))
mark_symbol g.Com = Some comma

abbrev pub tok_symbol : Tok → Option Symbol
tok_symbol (g.name n) = Some (name n)
tok_symbol (g.word w) = word_symbol w
tok_symbol (g.other w) = None
tok_symbol (g.number n) = Some (number n)
tok_symbol (g.char n) = Some (char n)
tok_symbol (g.text n) = Some (text n)
tok_symbol (g.mark p) = mark_symbol p

abbrev pub option_symbol : Option Tok → Option Symbol
option_symbol None = None
option_symbol (Some t) = tok_symbol t

-- the symbol that a kind and a text are
abbrev pub symbol : Lexeme → Option Symbol
symbol l = option_symbol (classify l)
