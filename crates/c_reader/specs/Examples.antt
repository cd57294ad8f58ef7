-- Texts on which the machine is computed. Their tokens stand apart by one space.
use Rattle.std.specs.Prelude.{◌≡◌, ℕ, Bool, true, false, ◌&&◌, nat_le, List, [], ◌∷◌, ◌++◌, codes, drop, Option, Some, None, if◌then◌else◌}
use Rattle.tok_base.specs.declared.token.Kind.TheVariants.{Word, Mark}
use Rattle.c_tree.specs.Tok as g
use Rattle.c_tree.specs.Tok.{Tok}
use Rattle.c_tree.specs.Lexeme.{token_of}
use Rattle.c_tree.specs.Tree.{External}
use Rattle.c_tree.specs.Put.{toks}
use Rattle.c_tree.specs.Examples as c
use Rattle.c_reader.specs.Machine.{Answer, unit, wrong, read}

abbrev pub is_letter : ℕ → Bool
is_letter b = if nat_le 97 b then nat_le b 122 else if nat_le 65 b then (if nat_le b 90 then true else nat_le 95 b) else false

abbrev pub or_name : List ℕ → Option Tok → List Tok
or_name w None = g.name w ∷ []
or_name w (Some t) = t ∷ []

abbrev pub or_none : Option Tok → List Tok
or_none None = []
or_none (Some t) = t ∷ []

abbrev pub token_by : ℕ → List ℕ → List Tok
token_by b w =
    if is_letter b then or_name w (token_of Word w)
    else if nat_le 48 b && nat_le b 57 then g.number w ∷ []
    else if nat_le 34 b && nat_le b 34 then g.text w ∷ []
    else if nat_le 39 b && nat_le b 39 then g.char w ∷ []
    else or_none (token_of Mark w)

abbrev pub token : List ℕ → List Tok
token [] = []
token (b ∷ w) = token_by b (b ∷ w)

-- the tokens of this text, whose first one begins with w
abbrev pub cut : List ℕ → List ℕ → List Tok
cut w [] = token w
cut w (b ∷ bs) = if nat_le b 32 then token w ++ cut [] bs else cut (w ++ b ∷ []) bs

abbrev pub tokens : List ℕ → List Tok
tokens = cut []

-- the tokens of the unit that was read
abbrev pub spelling : Answer → List Tok
spelling (unit u) = toks u
spelling (wrong ts) = []

-- the text is read as a unit of these tokens
abbrev pub IsRead : List ℕ → Type 0
IsRead s = spelling (read (tokens s)) ≡ tokens s

-- no step takes the k-th token
abbrev pub StopsAt : ℕ → List ℕ → Type 0
StopsAt k s = read (tokens s) ≡ wrong (drop k (tokens s))

abbrev pub IsReadAs : List External → Type 0
IsReadAs u = read (toks u) ≡ unit u

abbrev pub UnitsAreRead : Type 0
UnitsAreRead =
    IsReadAs [] × IsReadAs c.pointer_and_array × IsReadAs c.same_name × IsReadAs c.returns_one × IsReadAs c.inner_else × IsReadAs c.sum_of × IsReadAs c.empty_arguments

abbrev pub DeclarationsAreRead : Type 0
DeclarationsAreRead =
    IsRead (codes "int ; static const volatile unsigned long x , * y ; inline int f ( void ) ;")
    × IsRead (codes "int ( * f ) ( int ) , * a [ 3 ] , * const volatile restrict p , ( * ( * g [ 2 ] ) ( ) ) [ ] ;")
    × IsRead (codes "int f ( int ( * ) ( int ) , char * [ ] , int ( void ) , int ( x ) , int [ 3 ] , unsigned y [ ] ) ;")
    × IsRead (codes "struct s { int a , * b ; char c [ 4 ] ; } x ; union u ; struct { union { int i ; } v ; } y ; struct s z ;")
    × IsRead (codes "enum e { A , B = 1 , C = A ? 2 : 3 , } x ; enum { D } ; enum e y ;")
    × IsRead (codes "int a = 1 , b [ ] = { 1 , { 2 , 3 , } , \"x\" } , c = { a = 2 , } ;")
    × IsRead (codes "__attribute__ ( ( ) ) int __attribute__ ( ( a , b ( ) , c ( 1 ) , d ( \"x\" \"y\" , 2 , \"z\" ) ) ) x __attribute__ ( ( a ) ) __attribute__ ( ( ) ) = 1 , y __attribute__ ( ( ) ) ;")
    × IsRead (codes "typedef int t , * u ; t t ; u v ; int ( x ) ; t f ( t t , t ( t ) ) ; unsigned t ; struct t { t t ; } w ;")
    × IsRead (codes "int f ( ) { } int ( f ) ( void ) { } int * f ( void ) [ 3 ] { } int ( f ( void ) ) { }")

abbrev pub ExpressionsAreRead : Type 0
ExpressionsAreRead =
    IsRead (codes "int a = b = c += 1 ? 2 : 3 ? 4 , d = 5 : 6 , e = x || y && z | u ^ v & w == 1 != 2 < 3 > 4 <= 5 >= 6 << 7 >> 8 + 9 - 10 * 11 / 12 % 13 ;")
    × IsRead (codes "int a = - 1 * - + ~ ! & * x ++ -- . m -> n [ 1 , 2 ] ( ) ( 3 , f ( 4 ) ) , b = ++ x , c = -- * y , d = ( x ) , e = 'a' + \"b\" \"c\" ;")
    × IsRead (codes "int a = ( int ) ( char * ) x , b = sizeof x + 1 , c = sizeof ( int * [ 2 ] ) + 1 , d = sizeof ( x ) [ 1 ] , e = sizeof sizeof ( int ) , f = ( struct { int m ; } * ) ( int ( * ) ( int ) ) 0 ;")
    × IsRead (codes "int a = __builtin_infer_alloc_token ( 1 , x = 2 ) , b = sizeof ( int ) = 1 , c = ( x , y ) ;")
    × IsRead (codes "typedef int t ; int a = ( t ) - 1 , b = sizeof ( t ) , c = ( a ) - 1 ;")

abbrev pub StatementsAreRead : Type 0
StatementsAreRead =
    IsRead (codes "int f ( void ) { int a ; a = 1 , 2 ; ; { } { int b ; b ; } return ; return a ; break ; continue ; typedef int t ; t x ; }")
    × IsRead (codes "int f ( void ) { if ( 1 ) if ( 2 ) ; else ; else while ( 3 ) do ; while ( 4 ) ; }")
    × IsRead (codes "int f ( void ) { do if ( 1 ) ; while ( 4 ) ; if ( 1 ) while ( 2 ) for ( ; ; ) ; else ; }")
    × IsRead (codes "int f ( void ) { for ( int i = 0 , j ; i < 1 ; i ++ ) { } for ( i = 0 ; ; i ++ ) ; for ( ; i ; ) ; for ( typedef int t ; ; ) ; t x ; }")

abbrev pub WrongIsFound : Type 0
WrongIsFound =
    StopsAt 12 (codes "int f ( void ) { if ( 1 ) ; else }")
    × StopsAt 8 (codes "int f ( void ) { return 1 }")
    × StopsAt 6 (codes "int f ( void ) {")
    × StopsAt 10 (codes "int f ( void ) { if ( 1 ) int x ; }")
    × StopsAt 0 (codes "; int a ;")
    × StopsAt 4 (codes "int int ; int")
    × StopsAt 3 (codes "int ( * ) ;")
    × StopsAt 6 (codes "typedef int t ; int ( t ) ;")
    × StopsAt 6 (codes "typedef int t ; t t t ;")
    × StopsAt 9 (codes "typedef int F ( void ) ; F f { }")
    × StopsAt 4 (codes "int x [ 1 , 2 ] ;")
    × StopsAt 3 (codes "__attribute__ ( ( const ) ) int a ;")
    × StopsAt 3 (codes "struct s { } x ;")
    × StopsAt 3 (codes "enum e { } x ;")

abbrev pub WrongExpressionsAreFound : Type 0
WrongExpressionsAreFound =
    StopsAt 5 (codes "int a = ++ ( int ) x ;")
    × StopsAt 7 (codes "int a = sizeof ( int ) x ;")
    × StopsAt 7 (codes "int a = sizeof ( int ) [ 1 ] ;")
    × StopsAt 4 (codes "int a = ( ) 1 ;")
    × StopsAt 4 (codes "int a = { } ;")
    × StopsAt 8 (codes "int a = a ? b : c = d ;")
    × StopsAt 6 (codes "int a = a + b = c ;")
    × StopsAt 4 (codes "int a = - = 1 ;")
    × StopsAt 7 (codes "typedef int t ; int a = t ;")
