-- Small units on which the definitions are computed.
use Rattle.std.specs.Prelude.{◌≡◌, ℕ, suc, zero, List, [], ◌∷◌, codes, Some, None}
use Rattle.std.specs.List.{join_by}
use Rattle.tok_base.specs.declared.token.Span.{Span}
use Rattle.c_tree.specs.Tok as t
use Rattle.c_tree.specs.Tree as u
use Rattle.c_tree.specs.Tree.{Expr, Specs, Declarator, MaybeInit, Item, External, Stmt, BlockItems, Params}
use Rattle.c_tree.specs.Marked as m
use Rattle.c_tree.specs.Wf.{WfUnit}
use Rattle.c_tree.specs.Depth.{IsFlat, unit_depth}
use Rattle.c_tree.specs.Reading.{spelled}
use Rattle.c_tree.specs.Places.{IsNumbered, IsPlaced}
use Rattle.c_tree.specs.declared.operator.At.{At}

-- ---- units by their parts

abbrev pub int : Specs
int = u.Keyword t.KInt u.no_specs

abbrev pub named : List ℕ → Declarator
named n = u.Declared (Some n)

abbrev pub item : Declarator → MaybeInit → Item
item d init = record { declarator = d; attributes = []; init = init }

abbrev pub declares : Specs → List Item → External
declares ss is = u.Declares (record { specs = ss; items = is })

abbrev pub set_to : Expr → MaybeInit
set_to a = u.some_init (u.Plain a)

abbrev pub one : Expr
one = u.Number (codes "1")

-- what the unit spells, with one space between two tokens
abbrev pub text_of : List External → List ℕ
text_of u = join_by (λ l. l.text) (32 ∷ []) (spelled u)

-- ---- depth

abbrev pub parens : ℕ → Expr → Expr
parens zero a = a
parens (suc n) a = u.Paren (parens n a)

-- int a = ((1)); with this many parentheses
abbrev pub deep : ℕ → List External
deep n = declares int (item (named (codes "a")) (set_to (parens n one)) ∷ []) ∷ []

abbrev pub DepthsAre : Type 0
DepthsAre = WfUnit [] (deep 197) × (unit_depth (deep 197) ≡ 200) × IsFlat (deep 197) × WfUnit [] (deep 198) × (unit_depth (deep 198) ≡ 201) × (IsFlat (deep 198) → ⊥)

-- ---- declarators

abbrev pub pointer_and_array : List External
pointer_and_array =
    declares int (
    item (u.FunctionOf (u.Group (u.PointerTo [] (named (codes "f")))) (u.Param int u.no_declarator u.no_params)) u.no_init
    ∷ item (u.PointerTo [] (u.ArrayOf (named (codes "a")) (u.some_expr (u.Number (codes "3"))))) u.no_init ∷ []) ∷ []

abbrev pub DeclaratorsAre : Type 0
DeclaratorsAre = WfUnit [] pointer_and_array × (text_of pointer_and_array ≡ codes "int ( * f ) ( int ) , * a [ 3 ] ;")

-- ---- typedef names

abbrev pub function : Params → BlockItems → External
function ps is = u.Definition int (u.FunctionOf (named (codes "f")) ps) is

abbrev pub return_one : BlockItems
return_one = u.statement (u.Return (u.some_expr one)) u.no_items

abbrev pub typedef_t : External
typedef_t = declares (u.Keyword t.KTypedef int) (item (named (codes "t")) u.no_init ∷ [])

-- a parameter may have the name of its type
abbrev pub same_name : List External
same_name = typedef_t ∷ function (u.Param (u.Typedef (codes "t") u.no_specs) (u.some_declarator (named (codes "t"))) u.no_params) return_one ∷ []

-- a typedef name is no operand, and only a typedef name is a type
abbrev pub type_as_operand : List External
type_as_operand = typedef_t ∷ declares int (item (named (codes "a")) (set_to (u.Name (codes "t"))) ∷ []) ∷ []

abbrev pub name_as_type : List External
name_as_type = declares (u.Typedef (codes "t") u.no_specs) (item (named (codes "a")) u.no_init ∷ []) ∷ []

abbrev pub TypedefNamesAre : Type 0
TypedefNamesAre =
    WfUnit [] same_name × (text_of same_name ≡ codes "typedef int t ; int f ( t t ) { return 1 ; }")
    × (WfUnit [] type_as_operand → ⊥) × (WfUnit [] name_as_type → ⊥)

-- ---- definitions and statements

abbrev pub returns_one : List External
returns_one = function (u.Param (u.Keyword t.KVoid u.no_specs) u.no_declarator u.no_params) return_one ∷ []

abbrev pub nothing : Stmt
nothing = u.ExprStmt u.no_expr

abbrev pub with_body : Stmt → List External
with_body s = function u.no_params (u.statement s u.no_items) ∷ []

-- an else belongs to the nearest if
abbrev pub inner_else : List External
inner_else = with_body (u.If one (u.IfElse one nothing nothing))

abbrev pub outer_else : List External
outer_else = with_body (u.IfElse one (u.If one nothing) nothing)

abbrev pub StatementsAre : Type 0
StatementsAre =
    WfUnit [] returns_one × (text_of returns_one ≡ codes "int f ( void ) { return 1 ; }")
    × WfUnit [] inner_else × (text_of inner_else ≡ codes "int f ( ) { if ( 1 ) if ( 1 ) ; else ; }")
    × (WfUnit [] outer_else → ⊥) × (text_of outer_else ≡ text_of inner_else)

-- ---- expressions and texts of tokens

-- int a = ( ) 1 ;
abbrev pub empty_cast : List External
empty_cast = declares int (item (named (codes "a")) (set_to (u.Cast u.no_specs u.no_declarator one)) ∷ []) ∷ []

-- int a = 1 + 1 * 1 ; as a product, and as a sum
abbrev pub product : List External
product = declares int (item (named (codes "a")) (set_to (u.Binary (u.Binary one u.Add one) u.Mul one)) ∷ []) ∷ []

abbrev pub sum_of : List External
sum_of = declares int (item (named (codes "a")) (set_to (u.Binary one u.Add (u.Binary one u.Mul one))) ∷ []) ∷ []

-- a keyword is no name, and 08 no constant
abbrev pub keyword_as_name : List External
keyword_as_name = declares int (item (named (codes "int")) u.no_init ∷ []) ∷ []

abbrev pub no_octal : List External
no_octal = declares int (item (named (codes "a")) (set_to (u.Number (codes "08"))) ∷ []) ∷ []

abbrev pub ExpressionsAre : Type 0
ExpressionsAre =
    (WfUnit [] empty_cast → ⊥) × (text_of empty_cast ≡ codes "int a = ( ) 1 ;")
    × WfUnit [] sum_of × (WfUnit [] product → ⊥) × (text_of product ≡ text_of sum_of)
    × (WfUnit [] keyword_as_name → ⊥) × (WfUnit [] no_octal → ⊥)

-- ---- attributes

abbrev pub empty_arguments : List External
empty_arguments = declares (u.Attribute (record { name = codes "a"; arguments = Some [] } ∷ []) int) [] ∷ []

abbrev pub AttributesAre : Type 0
AttributesAre = WfUnit [] empty_arguments × (text_of empty_arguments ≡ codes "__attribute__ ( ( a ( ) ) ) int ;")

-- ---- numbers and places: int f(int *);

abbrev pub at : ℕ → ℕ → ℕ → At
at start end id = record { span = record { start = start; end = end }; id = id }

abbrev pub span : ℕ → ℕ → Span
span start end = record { start = start; end = end }

abbrev pub spans : List Span
spans = span 0 3 ∷ span 4 5 ∷ span 5 6 ∷ span 6 9 ∷ span 10 11 ∷ span 11 12 ∷ span 12 13 ∷ []

abbrev pub marked : List m.External
marked =
    m.Declares (record {
      at = at 0 13 6;
      specs = m.Keyword t.KInt m.no_specs;
      items = record {
        at = at 4 12 5;
        declarator = m.FunctionOf (at 4 12 4) (m.Declared (at 4 5 0) (Some (codes "f")))
            (m.Param (at 6 11 3) (m.Keyword t.KInt m.no_specs) (m.some_declarator (m.PointerTo (at 10 11 2) [] (m.Declared (at 11 11 1) None))) m.no_params);
        attributes = [];
        init = m.no_init;
      } ∷ [];
    }) ∷ []

abbrev pub PlacesAre : Type 0
PlacesAre = IsNumbered marked × IsPlaced spans marked
