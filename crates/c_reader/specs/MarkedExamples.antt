-- Texts on which the numbers and places are computed. Their tokens stand apart by one space.
use Rattle.std.specs.Prelude.{◌≡◌, ℕ, zero, suc, nat_le, if◌then◌else◌, List, [], ◌∷◌, ◌++◌, length, replicate, Option, Some, None, codes}
use Rattle.tok_base.specs.declared.token.Span.{Span}
use Rattle.tok_base.specs.declared.token.Token.{Token}
use Rattle.c_tree.specs.declared.operator.At.{At}
use Rattle.c_tree.specs.Tok as g
use Rattle.c_tree.specs.Tok.{Tok}
use Rattle.c_tree.specs.Lexeme.{lexeme}
use Rattle.c_tree.specs.Bare.{bare_unit}
use Rattle.c_tree.specs.Depth.{unit_depth}
use Rattle.c_tree.specs.Pieces.{Piece, token, opens, closes, absent, pieces_unit}
use Rattle.c_tree.specs.Examples as c
use Rattle.c_reader.specs.Examples as e
use Rattle.c_reader.specs.MarkedParts.{mark}
use Rattle.c_reader.specs.Reader.{Answer, unit, wrong, deep, read}

abbrev pub token_at : ℕ → ℕ → Tok → Token
token_at from to t = record { kind = (lexeme t).kind; span = record { start = from; end = to }; text = (lexeme t).text }

abbrev pub tokens_at : ℕ → ℕ → List Tok → List Token
tokens_at from to [] = []
tokens_at from to (t ∷ ts) = token_at from to t ∷ tokens_at from to ts

-- the tokens of this text, whose first one begins with w at from; the text goes on at byte to
abbrev pub cut : ℕ → ℕ → List ℕ → List ℕ → List Token
cut from to w [] = tokens_at from to (e.token w)
cut from to w (b ∷ bs) = if nat_le b 32 then tokens_at from to (e.token w) ++ cut (suc to) (suc to) [] bs else cut from (suc to) (w ++ b ∷ []) bs

abbrev pub tokens : List ℕ → List Token
tokens s = cut 0 0 [] s

-- the nodes in the order of their ends
abbrev pub nodes_of : List Piece → List At
nodes_of [] = []
nodes_of (token t ∷ ps) = nodes_of ps
nodes_of (opens at ∷ ps) = nodes_of ps
nodes_of (closes at ∷ ps) = at ∷ nodes_of ps
nodes_of (absent at ∷ ps) = at ∷ nodes_of ps

abbrev pub nodes : Answer → List At
nodes (unit u) = nodes_of (pieces_unit u [])
nodes (wrong xs) = []
nodes (deep xs) = []

-- from one byte to another
pub record Stretch : Type 0 where
  pub from : ℕ
  pub to : ℕ

abbrev pub to : ℕ → ℕ → Stretch
to a b = record { from = a; to = b }

abbrev pub numbered : ℕ → List Stretch → List At
numbered n [] = []
numbered n (s ∷ ss) = mark s.from s.to n ∷ numbered (suc n) ss

-- the nodes of the unit that is read have the numbers 0, 1, 2 .. in the order of their ends, and these places
abbrev pub HasNodes : List ℕ → List Stretch → Type 0
HasNodes s places = nodes (read (tokens s)) ≡ numbered 0 places

-- int f(int *);
abbrev pub with_spans : List Span → List Tok → List Token
with_spans [] ts = []
with_spans (s ∷ ss) [] = []
with_spans (s ∷ ss) (t ∷ ts) = token_at s.start s.end t ∷ with_spans ss ts

abbrev pub DeclaredSo : Type 0
DeclaredSo = read (with_spans c.spans (e.tokens (codes "int f ( int * ) ;"))) ≡ unit c.marked

abbrev pub StatementsHaveNodes : Type 0
StatementsHaveNodes =
    -- g, g(), a, b, c, 1, c + 1, the assignment, its statement, the return, the if, the body, the definition
    HasNodes (codes "int g ( ) { if ( a ) b = c + 1 ; else return ; }")
    (to 4 5 ∷ to 4 9 ∷ to 17 18 ∷ to 21 22 ∷ to 25 26 ∷ to 29 30 ∷ to 25 30 ∷ to 21 30 ∷ to 21 32 ∷ to 38 46 ∷ to 12 46 ∷ to 10 48 ∷ to 0 48 ∷ [])
    -- h, its parameter, h(void), i, 0, the item, the declaration, i, i++, the block, the for, the empty statement, 1, the do, the body, the definition
    × HasNodes (codes "void h ( void ) { for ( int i = 0 ; ; i ++ ) { } do ; while ( 1 ) ; }")
    (to 5 6 ∷ to 9 13 ∷ to 5 15 ∷ to 28 29 ∷ to 32 33 ∷ to 28 33 ∷ to 24 35 ∷ to 38 39 ∷ to 38 42 ∷ to 45 48 ∷ to 18 48 ∷ to 52 53 ∷ to 62 63 ∷ to 49 67 ∷ to 16 69 ∷ to 0 69 ∷ [])

abbrev pub DeclarationsHaveNodes : Type 0
DeclarationsHaveNodes =
    -- m, the field, the struct, x, 1, the braces, the item, the declaration
    HasNodes (codes "struct s { int m ; } x = { 1 , } ;") (to 15 16 ∷ to 11 18 ∷ to 0 20 ∷ to 21 22 ∷ to 27 28 ∷ to 25 32 ∷ to 21 32 ∷ to 0 34 ∷ [])
    -- f, an absent name, the parameter of that, (int), the parameter; an absent name, 2, [2], the parameter; f(..), the item, the declaration
    × HasNodes (codes "int f ( int ( int ) , char [ 2 ] ) ;")
    (to 4 5 ∷ to 12 12 ∷ to 14 17 ∷ to 12 19 ∷ to 8 19 ∷ to 27 27 ∷ to 29 30 ∷ to 27 32 ∷ to 22 32 ∷ to 4 34 ∷ to 4 34 ∷ to 0 36 ∷ [])
    -- 1, the text, the attribute, 2, A, B, the enum, v, the item, the declaration
    × HasNodes (codes "__attribute__ ( ( a ( 1 , \"x\" \"y\" ) ) ) enum e { A = 2 , B } v ;")
    (to 22 23 ∷ to 26 33 ∷ to 0 39 ∷ to 53 54 ∷ to 49 54 ∷ to 57 58 ∷ to 40 60 ∷ to 61 62 ∷ to 61 62 ∷ to 0 64 ∷ [])
    -- the struct, the pointer's name, the pointer, the group, 2, the array, the item, the declaration
    × HasNodes (codes "struct s ( * p ) [ 2 ] ;") (to 0 8 ∷ to 13 14 ∷ to 11 14 ∷ to 9 16 ∷ to 19 20 ∷ to 9 22 ∷ to 9 22 ∷ to 0 24 ∷ [])

abbrev pub ExpressionsHaveNodes : Type 0
ExpressionsHaveNodes =
    -- a, an absent name, *, char *, b, the cast, the item; c, int, the sizeof, the item, the declaration
    HasNodes (codes "int a = ( char * ) b , c = sizeof ( int ) ;")
    (to 4 5 ∷ to 17 17 ∷ to 15 16 ∷ to 10 16 ∷ to 19 20 ∷ to 8 20 ∷ to 4 20 ∷ to 23 24 ∷ to 36 39 ∷ to 27 41 ∷ to 23 41 ∷ to 0 43 ∷ [])
    -- a, f, x, y, -y, the call, 1, the index, .m, z, (z), w, (w), the sizeof, ?:, the item, the declaration
    × HasNodes (codes "int a = f ( x , - y ) [ 1 ] . m ? ( z ) : sizeof ( w ) ;")
    (to 4 5 ∷ to 8 9 ∷ to 12 13 ∷ to 18 19 ∷ to 16 19 ∷ to 8 21 ∷ to 24 25 ∷ to 8 27 ∷ to 8 31 ∷ to 36 37 ∷ to 34 39 ∷ to 51 52 ∷ to 49 54 ∷ to 42 54 ∷ to 8 54 ∷ to 4 54 ∷ to 0 56 ∷ [])

-- the token that no step takes, and those after it
abbrev pub StopsThere : Type 0
StopsThere = read (tokens (codes "int a = 1 }")) ≡ wrong (token_at 10 11 (g.mark g.RBrace) ∷ [])

-- ---- depth

-- the depth of the unit that is read
abbrev pub depth_of : Answer → Option ℕ
depth_of (unit u) = Some (unit_depth (bare_unit u))
depth_of (wrong xs) = None
depth_of (deep xs) = None

-- how many tokens are left where they are too deep
abbrev pub left_of : Answer → Option ℕ
left_of (unit u) = None
left_of (wrong xs) = None
left_of (deep xs) = Some (length xs)

-- int x = ( .. ( 1 ) .. ) ;
abbrev pub nested : ℕ → List Token
nested n = tokens_at 0 0 (e.tokens (codes "int x =") ++ replicate n (g.mark g.LParen) ++ g.number (codes "1") ∷ replicate n (g.mark g.RParen) ++ g.mark g.Semi ∷ [])

-- these tokens, and then those 300 times
abbrev pub many : ℕ → List Tok → List Tok
many zero ts = []
many (suc n) ts = ts ++ many n ts

abbrev pub and_300 : List ℕ → List ℕ → List Token
and_300 a b = tokens_at 0 0 (e.tokens a ++ many 300 (e.tokens b))

-- 200 nodes may hold a token, but no more: those of the declaration, of its item, of the parentheses and of the number
abbrev pub DepthIsCounted : Type 0
DepthIsCounted = (depth_of (read (nested 197)) ≡ Some 200) × (left_of (read (nested 198)) ≡ Some 199)

-- what would be too deep is refused at the first token that makes it so
abbrev pub DeepTextsStop : Type 0
DeepTextsStop =
    (left_of (read (and_300 (codes "int x =") (codes "("))) ≡ Some 101)
    × (left_of (read (and_300 (codes "int x =") (codes "-"))) ≡ Some 101)
    × (left_of (read (and_300 (codes "int x =") (codes "( int )"))) ≡ Some 307)
    × (left_of (read (and_300 (codes "int x = 1") (codes "+ 1"))) ≡ Some 205)
    × (left_of (read (and_300 (codes "int x = y") (codes "= y"))) ≡ Some 205)
    × (left_of (read (and_300 (codes "int") (codes "*"))) ≡ Some 100)
    × (left_of (read (and_300 (codes "int f ( void )") (codes "{"))) ≡ Some 100)
