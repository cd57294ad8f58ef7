-- A list of tokens that grows by what parts of a tree spell.
use Rattle.std.specs.Prelude.{◌≡◌, ℕ, List, ◌++◌, map, drop}
use Rattle.tok_base.specs.declared.token.Lexeme.{Lexeme}
use Rattle.c_tree.specs.Tok as t
use Rattle.c_tree.specs.Tok.{Tok, Punct}
use Rattle.c_tree.specs.Lexeme.{lexeme}
use Rattle.c_tree.specs.Marks.{assign_mark, binary_mark, prefix_mark, step_mark}
use Rattle.c_tree.specs.Marked as m
use Rattle.c_tree.specs.Bare.{bare_block, bare_specs}
use Rattle.c_tree.specs.Put.{put_block, put_specs}
use Rattle.c_tree.specs.View.{view_assign, view_keyword, view_op, view_prefix, view_qualifier, view_step}
use Rattle.c_tree.specs.declared.tokens.Tokens.{Tokens}
use Rattle.c_tree.specs.declared.tokens.Mark.{Mark}
use Rattle.c_tree.specs.declared.tokens.Mark.TheVariants as k
use Rattle.c_tree.specs.declared.tokens.Word.{Word}
use Rattle.c_tree.specs.declared.tokens.Word.TheVariants as w

abbrev pub mark_of : Mark → Punct
mark_of k.Comma = t.Com
mark_of k.Question = t.Quest
mark_of k.Colon = t.Colon
mark_of k.Semicolon = t.Semi
mark_of k.LeftParen = t.LParen
mark_of k.RightParen = t.RParen
mark_of k.LeftBracket = t.LBracket
mark_of k.RightBracket = t.RBracket
mark_of k.LeftBrace = t.LBrace
mark_of k.RightBrace = t.RBrace
mark_of k.Point = t.Point
mark_of k.Arrow = t.Arrow
mark_of k.Star = t.Star
mark_of k.Equals = t.Assign
mark_of (k.Binary op) = binary_mark (view_op op)
mark_of (k.Assign op) = assign_mark (view_assign op)
mark_of (k.Prefix op) = prefix_mark (view_prefix op)
mark_of (k.Post op) = step_mark (view_step op)

abbrev pub word_of : Word → t.Word
word_of (w.Keyword k) = view_keyword k
word_of (w.Qualifier q) = view_qualifier q
word_of w.Struct = t.KStruct
word_of w.Union = t.KUnion
word_of w.Enum = t.KEnum
word_of w.Sizeof = t.KSizeof
word_of w.If = t.KIf
word_of w.Else = t.KElse
word_of w.While = t.KWhile
word_of w.Do = t.KDo
word_of w.For = t.KFor
word_of w.Break = t.KBreak
word_of w.Continue = t.KContinue
word_of w.Return = t.KReturn
word_of w.Attribute = t.KAttribute
word_of w.Builtin = t.KBuiltin

-- the tokens so far, and then these
unfoldable pub finished : Tokens → List Tok → List Lexeme
finished out ts = out.list ++ map lexeme ts

-- new is old with the tokens that put puts before others
abbrev pub Adds : Tokens → Tokens → (List Tok → List Tok) → Type 0
Adds old new put = (rest : List Tok) → finished new rest ≡ finished old (put rest)

-- new is old with the specifier that head puts before others
abbrev pub HeadsSpecs : Tokens → Tokens → (m.Specs → m.Specs) → Type 0
HeadsSpecs old new head = (ss : m.Specs) (rest : List Tok) → finished new (put_specs (bare_specs ss) rest) ≡ finished old (put_specs (bare_specs (head ss)) rest)

-- new is old with the block item that head puts before others
abbrev pub HeadsItems : Tokens → Tokens → (m.BlockItems → m.BlockItems) → Type 0
HeadsItems old new head = (is : m.BlockItems) (rest : List Tok) → finished new (put_block (bare_block is) rest) ≡ finished old (put_block (bare_block (head is)) rest)

-- inside a loop over the items, with the first i of them added
abbrev pub Left : {A : Type 0} → (List A → List Tok → List Tok) → Tokens → Tokens → List A → ℕ → Type 0
Left put initial out items i = (rest : List Tok) → finished out (put (drop i items) rest) ≡ finished initial (put items rest)
