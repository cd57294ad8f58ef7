-- The program's keywords are the tree's words.
use Rattle.std.proofs.Common.{◌≡◌, refl}
use Rattle.c_tree.specs.View as v
use Rattle.c_tree.specs.declared.operator.Keyword.{Keyword}
use Rattle.c_tree.specs.declared.operator.Keyword.TheVariants as k
use Rattle.c_reader.specs.Symbol.{keyword_word}
use Rattle.c_symbol.specs.Seen.{view_keyword}

pub same_word : (w : Keyword) → v.view_keyword w ≡ keyword_word (view_keyword w)
same_word k.Typedef = refl
same_word k.Extern = refl
same_word k.Static = refl
same_word k.Auto = refl
same_word k.Register = refl
same_word k.Inline = refl
same_word k.Const = refl
same_word k.Volatile = refl
same_word k.Restrict = refl
same_word k.Void = refl
same_word k.Char = refl
same_word k.Short = refl
same_word k.Int = refl
same_word k.Long = refl
same_word k.Signed = refl
same_word k.Unsigned = refl
same_word k.Bool = refl
