-- What initialisers become (ISO/IEC 9899:2018, 6.7.9): stores and copies to a local, or the cells of a fixed object.
use Rattle.std.specs.Prelude.{ℕ, zero, suc, ℤ, pos, unsigned_abs, Bool, true, false, ◌&&◌, ◌==◌, if◌then◌else◌, List, [], ◌∷◌, ◌++◌, map, take, Option, Some, None, is_some}
use Rattle.tok_base.specs.declared.token.Span.{Span}
use Rattle.num_ops.specs.declared.kinds.IntKind.TheVariants as k
use Rattle.num_ops.specs.Conversions.{converted}
use Rattle.c_core.specs.declared.values.Scalar.{Scalar}
use Rattle.c_core.specs.declared.values.Scalar.TheVariants as scalar
use Rattle.c_core.specs.declared.values.Value.{Value}
use Rattle.c_core.specs.declared.values.Value.TheVariants as value
use Rattle.c_core.specs.declared.values.Pointer.{Pointer}
use Rattle.c_core.specs.declared.values.Pointer.TheVariants.{Null, Object, Function}
use Rattle.c_core.specs.declared.values.Cell.{Cell}
use Rattle.c_core.specs.declared.values.Cell.TheVariants.{Byte}
use Rattle.c_core.specs.declared.tree.Place.TheVariants as place
use Rattle.c_core.specs.Values.{cells_of}
use Rattle.c_core.specs.Tree as c
use Rattle.c_core.specs.Tree.{Exprs, no_exprs, one_expr}
use Rattle.c_tree.specs.Marked as m
use Rattle.c_types.specs.CTypes.{CType}
use Rattle.c_constants.specs.Literals.{text_bytes}
use Rattle.c_rules.specs.Known.{Known}
use Rattle.c_rules.specs.Walk.{at_of_expr}
use Rattle.c_rules.specs.declared.known.Binding.{Binding}
use Rattle.c_rules.specs.declared.known.Binding.TheVariants as to
use Rattle.c_rules.specs.declared.known.ConstantValue.{ConstantValue}
use Rattle.c_rules.specs.declared.known.ConstantValue.TheVariants as val
use Rattle.c_checked.specs.Told.{constant_of}
use Rattle.signature_laws.specs.Told.{scalar_of}
use Rattle.lower_rules.specs.Shapes.{part_of, bytes_of, has_parts, length_of}
use Rattle.lower_rules.specs.Lowered.{Lowered, giving, constant}
use Rattle.lower_rules.specs.Operators.{moved, stored, copied}
use Rattle.lower_rules.specs.Numbered.{Numbered, Scope, fixed_object, fixed_literal, function_numbered, library_numbered}
use Rattle.lower_rules.specs.FixedThings.{array_text}
use Rattle.lower_rules.specs.Values.{inner_span}
use Rattle.lower_rules.specs.Expressions.{value as value_of, place as place_of}

-- a literal's bytes with the zero behind them (6.4.5, paragraph 6), and those that fit an array (6.7.9, paragraph 14)
abbrev pub literal_bytes : List (List ℕ) → List ℕ
literal_bytes ts = text_bytes ts ++ 0 ∷ []

abbrev pub fitting : CType → List (List ℕ) → List ℕ
fitting t ts = take (length_of t) (literal_bytes ts)

-- ---- stores to a local

-- its address, or that of what stands at an offset in it
abbrev pub part_address : Span → (local offset : ℕ) → Lowered
part_address span x zero = giving scalar.Ptr span (c.Object (place.Local x))
part_address span x (suc i) = moved span (giving scalar.Ptr span (c.Object (place.Local x))) (constant span k.Long (pos (suc i))) 1 false

abbrev pub byte_store : Span → (local offset byte : ℕ) → Lowered
byte_store span x at b = stored span span (scalar.Int k.UChar) (part_address span x at) (constant span k.UChar (pos b))

abbrev pub byte_stores : Span → (local offset : ℕ) → List ℕ → (more : Exprs) → Exprs
byte_stores span x at [] more = more
byte_stores span x at (b ∷ bs) more = one_expr (byte_store span x at b).expr (byte_stores span x (suc at) bs more)

-- for an object that an item at this place declares; `more`: the stores behind
module _ (n : Numbered) (scope : Scope) (span : Span) (local : ℕ) where
  abbrev pub store_of : Option Scalar → CType → (offset : ℕ) → m.Expr → Lowered
  store_of (Some s) t at a = stored span span s (part_address span local at) (value_of n scope true a)
  store_of None t at a = copied span (part_address span local at) span (place_of n scope a) (inner_span a) (bytes_of n.known t)

  abbrev pub plain_stores : Option (List (List ℕ)) → CType → (offset : ℕ) → m.Expr → (more : Exprs) → Exprs
  plain_stores (Some ts) t at a more = byte_stores span local at (fitting t ts) more
  plain_stores None t at a more = one_expr (store_of (scalar_of t) t at a).expr more

  abbrev mutual
    pub stores : CType → (offset : ℕ) → m.Init → (more : Exprs) → Exprs
    stores t at (m.Plain a) more = plain_stores (array_text n.known a) t at a more
    stores t at (m.Braces b is comma) more = entry_stores t at 0 is more

    -- the entries of braces from the one with a number on, which are for a type at an offset
    pub entry_stores : CType → (offset number : ℕ) → m.Inits → (more : Exprs) → Exprs
    entry_stores t at i m.no_inits more = more
    entry_stores t at i (m.init a is) more =
        stores (part_of n.known t at i).type (part_of n.known t at i).offset a (entry_stores t at (suc i) is more)

-- what braces or a text leave out of an array, a struct or a union is zero (6.7.9, paragraphs 14 to 21)
abbrev pub leaves_out : Known → m.Init → Bool
leaves_out k (m.Plain a) = is_some (array_text k a)
leaves_out k (m.Braces b is comma) = true

abbrev pub zero_first : Known → CType → m.Init → Bool
zero_first k t i = has_parts t && leaves_out k i

-- ---- the cells of a fixed object, but for zero bytes

abbrev pub is_zero_cell : Cell → Bool
is_zero_cell (Byte b) = b == 0
is_zero_cell x = false

-- cells from an offset on; `more`: the cells behind
abbrev pub cells_from : (offset : ℕ) → List Cell → (more : List (ℕ × Cell)) → List (ℕ × Cell)
cells_from at [] more = more
cells_from at (x ∷ xs) more = if is_zero_cell x then cells_from (suc at) xs more else (at, x) ∷ cells_from (suc at) xs more

-- the pointer that an address constant is (6.6, paragraph 9)
abbrev pub into : Option ℕ → (offset : ℕ) → Pointer
into None at = Null
into (Some f) at = Object f at

abbrev pub function_pointer : Option ℕ → Pointer
function_pointer None = Null
function_pointer (Some f) = Function f

abbrev pub function_of_binding : Known → Binding → Option ℕ
function_of_binding k (to.Function number) = function_numbered k number
function_of_binding k (to.Library number) = library_numbered k number
function_of_binding k b = None

abbrev pub pointer_of : Numbered → ConstantValue → Pointer
pointer_of n (val.Number z) = Null
pointer_of n val.Null = Null
pointer_of n (val.Object number at) = into (fixed_object n number) (unsigned_abs at)
pointer_of n (val.Function b) = function_pointer (function_of_binding n.known b)
pointer_of n (val.Text node) = into (fixed_literal n node) 0

-- an address goes to `_Bool` alone, and is not null (6.3.1.2)
abbrev pub integer_of : ConstantValue → ℤ
integer_of (val.Number z) = z
integer_of val.Null = pos 0
integer_of v = pos 1

abbrev pub value_as : Numbered → Scalar → ConstantValue → Value
value_as n (scalar.Int kind) v = value.Int (record { kind = kind; value = converted kind (integer_of v) })
value_as n scalar.Ptr v = value.Ptr (pointer_of n v)

abbrev pub cells_as : Numbered → Option Scalar → Option ConstantValue → List Cell
cells_as n (Some s) (Some v) = cells_of (value_as n s v)
cells_as n s v = []

module _ (n : Numbered) where
  abbrev pub plain_cells : Option (List (List ℕ)) → CType → (offset : ℕ) → m.Expr → (more : List (ℕ × Cell)) → List (ℕ × Cell)
  plain_cells (Some ts) t at a more = cells_from at (map Byte (fitting t ts)) more
  plain_cells None t at a more = cells_from at (cells_as n (scalar_of t) (constant_of n.known (at_of_expr a).id)) more

  abbrev mutual
    pub cells : CType → (offset : ℕ) → m.Init → (more : List (ℕ × Cell)) → List (ℕ × Cell)
    cells t at (m.Plain a) more = plain_cells (array_text n.known a) t at a more
    cells t at (m.Braces b is comma) more = entry_cells t at 0 is more

    pub entry_cells : CType → (offset number : ℕ) → m.Inits → (more : List (ℕ × Cell)) → List (ℕ × Cell)
    entry_cells t at i m.no_inits more = more
    entry_cells t at i (m.init a is) more =
        cells (part_of n.known t at i).type (part_of n.known t at i).offset a (entry_cells t at (suc i) is more)
