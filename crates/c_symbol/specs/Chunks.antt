-- The words and the marks in four parts each, in the order of c_tree's lists.
use Rattle.std.specs.Prelude.{ℕ, List, codes, bytes_eq, Option, Some, None, if◌then◌else◌}
use Rattle.c_tree.specs.Tok as t
use Rattle.c_tree.specs.Tok.{Tok, word, other, mark}

abbrev pub fourth_words : List ℕ → Option Tok
fourth_words s =
    if bytes_eq (codes "_Atomic") s then Some (other t.KAtomic) else
    if bytes_eq (codes "_Bool") s then Some (word t.KBool) else
    if bytes_eq (codes "_Complex") s then Some (other t.KComplex) else
    if bytes_eq (codes "_Generic") s then Some (other t.KGeneric) else
    if bytes_eq (codes "_Imaginary") s then Some (other t.KImaginary) else
    if bytes_eq (codes "_Noreturn") s then Some (other t.KNoreturn) else
    if bytes_eq (codes "_Static_assert") s then Some (other t.KStaticAssert) else
    if bytes_eq (codes "_Thread_local") s then Some (other t.KThreadLocal) else
    if bytes_eq (codes "__attribute__") s then Some (word t.KAttribute) else
    if bytes_eq (codes "__builtin_infer_alloc_token") s then Some (word t.KBuiltin) else
    None

abbrev pub third_words : List ℕ → Option Tok
third_words s =
    if bytes_eq (codes "sizeof") s then Some (word t.KSizeof) else
    if bytes_eq (codes "static") s then Some (word t.KStatic) else
    if bytes_eq (codes "struct") s then Some (word t.KStruct) else
    if bytes_eq (codes "switch") s then Some (word t.KSwitch) else
    if bytes_eq (codes "typedef") s then Some (word t.KTypedef) else
    if bytes_eq (codes "union") s then Some (word t.KUnion) else
    if bytes_eq (codes "unsigned") s then Some (word t.KUnsigned) else
    if bytes_eq (codes "void") s then Some (word t.KVoid) else
    if bytes_eq (codes "volatile") s then Some (word t.KVolatile) else
    if bytes_eq (codes "while") s then Some (word t.KWhile) else
    if bytes_eq (codes "_Alignas") s then Some (other t.KAlignas) else
    if bytes_eq (codes "_Alignof") s then Some (other t.KAlignof) else
    fourth_words s

abbrev pub second_words : List ℕ → Option Tok
second_words s =
    if bytes_eq (codes "float") s then Some (other t.KFloat) else
    if bytes_eq (codes "for") s then Some (word t.KFor) else
    if bytes_eq (codes "goto") s then Some (other t.KGoto) else
    if bytes_eq (codes "if") s then Some (word t.KIf) else
    if bytes_eq (codes "inline") s then Some (word t.KInline) else
    if bytes_eq (codes "int") s then Some (word t.KInt) else
    if bytes_eq (codes "long") s then Some (word t.KLong) else
    if bytes_eq (codes "register") s then Some (word t.KRegister) else
    if bytes_eq (codes "restrict") s then Some (word t.KRestrict) else
    if bytes_eq (codes "return") s then Some (word t.KReturn) else
    if bytes_eq (codes "short") s then Some (word t.KShort) else
    if bytes_eq (codes "signed") s then Some (word t.KSigned) else
    third_words s

abbrev pub first_words : List ℕ → Option Tok
first_words s =
    if bytes_eq (codes "auto") s then Some (word t.KAuto) else
    if bytes_eq (codes "break") s then Some (word t.KBreak) else
    if bytes_eq (codes "case") s then Some (word t.KCase) else
    if bytes_eq (codes "char") s then Some (word t.KChar) else
    if bytes_eq (codes "const") s then Some (word t.KConst) else
    if bytes_eq (codes "continue") s then Some (word t.KContinue) else
    if bytes_eq (codes "default") s then Some (word t.KDefault) else
    if bytes_eq (codes "do") s then Some (word t.KDo) else
    if bytes_eq (codes "double") s then Some (other t.KDouble) else
    if bytes_eq (codes "else") s then Some (word t.KElse) else
    if bytes_eq (codes "enum") s then Some (word t.KEnum) else
    if bytes_eq (codes "extern") s then Some (word t.KExtern) else
    second_words s

abbrev pub fourth_marks : List ℕ → Option Tok
fourth_marks s =
    if bytes_eq (codes "/=") s then Some (mark t.DivA) else
    if bytes_eq (codes "%=") s then Some (mark t.RemA) else
    if bytes_eq (codes "+=") s then Some (mark t.AddA) else
    if bytes_eq (codes "-=") s then Some (mark t.SubA) else
    if bytes_eq (codes "<<=") s then Some (mark t.ShlA) else
    if bytes_eq (codes ">>=") s then Some (mark t.ShrA) else
    if bytes_eq (codes "&=") s then Some (mark t.AndA) else
    if bytes_eq (codes "^=") s then Some (mark t.XorA) else
    if bytes_eq (codes "|=") s then Some (mark t.OrA) else
    if bytes_eq (codes ",") s then Some (mark t.Com) else
    None

abbrev pub third_marks : List ℕ → Option Tok
third_marks s =
    if bytes_eq (codes "==") s then Some (mark t.EqEq) else
    if bytes_eq (codes "!=") s then Some (mark t.NotEq) else
    if bytes_eq (codes "^") s then Some (mark t.Caret) else
    if bytes_eq (codes "|") s then Some (mark t.Bar) else
    if bytes_eq (codes "&&") s then Some (mark t.AndAnd) else
    if bytes_eq (codes "||") s then Some (mark t.OrOr) else
    if bytes_eq (codes "?") s then Some (mark t.Quest) else
    if bytes_eq (codes ":") s then Some (mark t.Colon) else
    if bytes_eq (codes ";") s then Some (mark t.Semi) else
    if bytes_eq (codes "...") s then Some (mark t.Dots) else
    if bytes_eq (codes "=") s then Some (mark t.Assign) else
    if bytes_eq (codes "*=") s then Some (mark t.MulA) else
    fourth_marks s

abbrev pub second_marks : List ℕ → Option Tok
second_marks s =
    if bytes_eq (codes "+") s then Some (mark t.Plus) else
    if bytes_eq (codes "-") s then Some (mark t.Minus) else
    if bytes_eq (codes "~") s then Some (mark t.Tilde) else
    if bytes_eq (codes "!") s then Some (mark t.Bang) else
    if bytes_eq (codes "/") s then Some (mark t.Slash) else
    if bytes_eq (codes "%") s then Some (mark t.Percent) else
    if bytes_eq (codes "<<") s then Some (mark t.Shl) else
    if bytes_eq (codes ">>") s then Some (mark t.Shr) else
    if bytes_eq (codes "<") s then Some (mark t.Lt) else
    if bytes_eq (codes ">") s then Some (mark t.Gt) else
    if bytes_eq (codes "<=") s then Some (mark t.Le) else
    if bytes_eq (codes ">=") s then Some (mark t.Ge) else
    third_marks s

abbrev pub first_marks : List ℕ → Option Tok
first_marks s =
    if bytes_eq (codes "[") s then Some (mark t.LBracket) else
    if bytes_eq (codes "]") s then Some (mark t.RBracket) else
    if bytes_eq (codes "(") s then Some (mark t.LParen) else
    if bytes_eq (codes ")") s then Some (mark t.RParen) else
    if bytes_eq (codes "{") s then Some (mark t.LBrace) else
    if bytes_eq (codes "}") s then Some (mark t.RBrace) else
    if bytes_eq (codes ".") s then Some (mark t.Point) else
    if bytes_eq (codes "->") s then Some (mark t.Arrow) else
    if bytes_eq (codes "++") s then Some (mark t.Inc) else
    if bytes_eq (codes "--") s then Some (mark t.Dec) else
    if bytes_eq (codes "&") s then Some (mark t.Amp) else
    if bytes_eq (codes "*") s then Some (mark t.Star) else
    second_marks s
