-- A token as a kind and a text (ISO/IEC 9899:2018, 6.4.1 and 6.4.6).
use Rattle.std.specs.Prelude.{ℕ, List, [], ◌∷◌, codes, bytes_eq, Option, Some, None, if◌then◌else◌}
use Rattle.tok_base.specs.declared.token.Lexeme.{Lexeme}
use Rattle.tok_base.specs.declared.token.Kind.{Kind}
use Rattle.tok_base.specs.declared.token.Kind.TheVariants.{Name, Word, Number, Char, Text, Mark}
use Rattle.c_tree.specs.Tok as t
use Rattle.c_tree.specs.Tok.{Tok, name, word, other, number, char, text, mark}

abbrev pub word_text : t.Word → List ℕ
word_text t.KTypedef = codes "typedef"
word_text t.KExtern = codes "extern"
word_text t.KStatic = codes "static"
word_text t.KAuto = codes "auto"
word_text t.KRegister = codes "register"
word_text t.KInline = codes "inline"
word_text t.KConst = codes "const"
word_text t.KVolatile = codes "volatile"
word_text t.KRestrict = codes "restrict"
word_text t.KVoid = codes "void"
word_text t.KBool = codes "_Bool"
word_text t.KChar = codes "char"
word_text t.KShort = codes "short"
word_text t.KInt = codes "int"
word_text t.KLong = codes "long"
word_text t.KSigned = codes "signed"
word_text t.KUnsigned = codes "unsigned"
word_text t.KStruct = codes "struct"
word_text t.KUnion = codes "union"
word_text t.KEnum = codes "enum"
word_text t.KSizeof = codes "sizeof"
word_text t.KIf = codes "if"
word_text t.KElse = codes "else"
word_text t.KWhile = codes "while"
word_text t.KDo = codes "do"
word_text t.KFor = codes "for"
word_text t.KBreak = codes "break"
word_text t.KContinue = codes "continue"
word_text t.KReturn = codes "return"
word_text t.KSwitch = codes "switch"
word_text t.KCase = codes "case"
word_text t.KDefault = codes "default"
word_text t.KAttribute = codes "__attribute__"
word_text t.KBuiltin = codes "__builtin_infer_alloc_token"

abbrev pub other_text : t.Other → List ℕ
other_text t.KDouble = codes "double"
other_text t.KFloat = codes "float"
other_text t.KGoto = codes "goto"
other_text t.KAlignas = codes "_Alignas"
other_text t.KAlignof = codes "_Alignof"
other_text t.KAtomic = codes "_Atomic"
other_text t.KComplex = codes "_Complex"
other_text t.KGeneric = codes "_Generic"
other_text t.KImaginary = codes "_Imaginary"
other_text t.KNoreturn = codes "_Noreturn"
other_text t.KStaticAssert = codes "_Static_assert"
other_text t.KThreadLocal = codes "_Thread_local"

abbrev pub mark_text : t.Punct → List ℕ
mark_text t.LBracket = codes "["
mark_text t.RBracket = codes "]"
mark_text t.LParen = codes "("
mark_text t.RParen = codes ")"
mark_text t.LBrace = codes "{"
mark_text t.RBrace = codes "}"
mark_text t.Point = codes "."
mark_text t.Arrow = codes "->"
mark_text t.Inc = codes "++"
mark_text t.Dec = codes "--"
mark_text t.Amp = codes "&"
mark_text t.Star = codes "*"
mark_text t.Plus = codes "+"
mark_text t.Minus = codes "-"
mark_text t.Tilde = codes "~"
mark_text t.Bang = codes "!"
mark_text t.Slash = codes "/"
mark_text t.Percent = codes "%"
mark_text t.Shl = codes "<<"
mark_text t.Shr = codes ">>"
mark_text t.Lt = codes "<"
mark_text t.Gt = codes ">"
mark_text t.Le = codes "<="
mark_text t.Ge = codes ">="
mark_text t.EqEq = codes "=="
mark_text t.NotEq = codes "!="
mark_text t.Caret = codes "^"
mark_text t.Bar = codes "|"
mark_text t.AndAnd = codes "&&"
mark_text t.OrOr = codes "||"
mark_text t.Quest = codes "?"
mark_text t.Colon = codes ":"
mark_text t.Semi = codes ";"
mark_text t.Dots = codes "..."
mark_text t.Assign = codes "="
mark_text t.MulA = codes "*="
mark_text t.DivA = codes "/="
mark_text t.RemA = codes "%="
mark_text t.AddA = codes "+="
mark_text t.SubA = codes "-="
mark_text t.ShlA = codes "<<="
mark_text t.ShrA = codes ">>="
mark_text t.AndA = codes "&="
mark_text t.XorA = codes "^="
mark_text t.OrA = codes "|="
mark_text t.Com = codes ","

abbrev pub lexeme : Tok → Lexeme
lexeme (name n) = record { kind = Name; text = n }
lexeme (word w) = record { kind = Word; text = word_text w }
lexeme (other w) = record { kind = Word; text = other_text w }
lexeme (number n) = record { kind = Number; text = n }
lexeme (char n) = record { kind = Char; text = n }
lexeme (text n) = record { kind = Text; text = n }
lexeme (mark p) = record { kind = Mark; text = mark_text p }

-- the keywords, in the order of 6.4.1, and the two words of Clang
unfoldable pub words : List Tok
words =
    word t.KAuto ∷ word t.KBreak ∷ word t.KCase ∷ word t.KChar ∷ word t.KConst ∷ word t.KContinue ∷
    word t.KDefault ∷ word t.KDo ∷ other t.KDouble ∷ word t.KElse ∷ word t.KEnum ∷ word t.KExtern ∷
    other t.KFloat ∷ word t.KFor ∷ other t.KGoto ∷ word t.KIf ∷ word t.KInline ∷ word t.KInt ∷
    word t.KLong ∷ word t.KRegister ∷ word t.KRestrict ∷ word t.KReturn ∷ word t.KShort ∷ word t.KSigned ∷
    word t.KSizeof ∷ word t.KStatic ∷ word t.KStruct ∷ word t.KSwitch ∷ word t.KTypedef ∷ word t.KUnion ∷
    word t.KUnsigned ∷ word t.KVoid ∷ word t.KVolatile ∷ word t.KWhile ∷ other t.KAlignas ∷ other t.KAlignof ∷
    other t.KAtomic ∷ word t.KBool ∷ other t.KComplex ∷ other t.KGeneric ∷ other t.KImaginary ∷ other t.KNoreturn ∷
    other t.KStaticAssert ∷ other t.KThreadLocal ∷ word t.KAttribute ∷ word t.KBuiltin ∷ []

-- the punctuators, in the order of 6.4.6
unfoldable pub marks : List Tok
marks =
    mark t.LBracket ∷ mark t.RBracket ∷ mark t.LParen ∷ mark t.RParen ∷ mark t.LBrace ∷ mark t.RBrace ∷ mark t.Point ∷ mark t.Arrow ∷
    mark t.Inc ∷ mark t.Dec ∷ mark t.Amp ∷ mark t.Star ∷ mark t.Plus ∷ mark t.Minus ∷ mark t.Tilde ∷ mark t.Bang ∷
    mark t.Slash ∷ mark t.Percent ∷ mark t.Shl ∷ mark t.Shr ∷ mark t.Lt ∷ mark t.Gt ∷ mark t.Le ∷ mark t.Ge ∷
    mark t.EqEq ∷ mark t.NotEq ∷ mark t.Caret ∷ mark t.Bar ∷ mark t.AndAnd ∷ mark t.OrOr ∷ mark t.Quest ∷ mark t.Colon ∷
    mark t.Semi ∷ mark t.Dots ∷ mark t.Assign ∷ mark t.MulA ∷ mark t.DivA ∷ mark t.RemA ∷ mark t.AddA ∷ mark t.SubA ∷
    mark t.ShlA ∷ mark t.ShrA ∷ mark t.AndA ∷ mark t.XorA ∷ mark t.OrA ∷ mark t.Com ∷ []

-- the first of these tokens with this text
abbrev pub spelled_so : List ℕ → List Tok → Option Tok
spelled_so s [] = None
spelled_so s (t ∷ ts) = if bytes_eq (lexeme t).text s then Some t else spelled_so s ts

abbrev pub token_of : Kind → List ℕ → Option Tok
token_of Name s = Some (name s)
token_of Word s = spelled_so s words
token_of Number s = Some (number s)
token_of Char s = Some (char s)
token_of Text s = Some (text s)
token_of Mark s = spelled_so s marks

-- the token that a kind and a text are
abbrev pub classify : Lexeme → Option Tok
classify l = token_of l.kind l.text
