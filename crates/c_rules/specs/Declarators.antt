-- Rules 4, 5, 6 and 8: the type that a declarator makes (ISO/IEC 9899:2018, 6.7.6).
use Rattle.std.specs.Prelude.{ℕ, ◌*◌, nat_lt, Bool, true, false, ◌&&◌, ◌||◌, not, List, [], ◌∷◌, Option, Some, None, pos, int_le, unsigned_abs}
use Rattle.c_tree.specs.declared.operator.At.{At}
use Rattle.c_types.specs.CTypes.{CType, CTypes, Void, Int, Enum, Pointer, Array, Flexible, Function, Record, Named, Qualified, no_types, one_type, is_flexible}
use Rattle.c_types.specs.Canonical.{with_qualifiers, canonical}
use Rattle.c_types.specs.Compatible.{equal}
use Rattle.c_types.specs.Plain.{plain, is_function}
use Rattle.c_types.specs.Records.{limit, MemberOf, members_of}
use Rattle.c_rules.specs.Types.{is_void, is_scalar}
use Rattle.c_rules.specs.Typed.{Constant, varies, undefined, is}
use Rattle.c_rules.specs.World.{World, Entry, is_complete, size_in}
use Rattle.c_rules.specs.declared.known.Declares.{Declares}
use Rattle.c_rules.specs.declared.known.Declares.TheVariants as decl

-- what a declarator adds to a type: `*` with qualifiers, `[]` with a length or without one, `()` with the types of parameters
-- as they are used, an array or a function being a pointer (6.7.6.3), and the names that are declared between its parentheses
pub data Layer : Type 0 where
  pointer : (qualifiers : ℕ) → Layer
  array : Constant → Layer
  unsized : Layer
  function : List CType → List Entry → Layer

-- a declarator that was read: its name and that node, and its layers, the one next to the name first
pub record Laid : Type 0 where
  pub name : Option (List ℕ)
  pub name_at : At
  pub layers : List Layer

-- a type, and whether its parts keep 4 (elements are complete), 5 (lengths and sizes), 6 (results and parameters)
-- and 8 (no element is a struct that ends without a length)
pub record Built : Type 0 where
  pub type : CType
  pub is_complete : Bool
  pub is_sized : Bool
  pub is_callable : Bool
  pub is_closed : Bool

-- whether its parts keep 4 and 5, so that there is such a type
abbrev pub is_made : Built → Bool
is_made b = b.is_complete && b.is_sized

-- an integer constant expression of at least 1
abbrev pub is_length : Constant → Bool
is_length (is z) = int_le (pos 1) z
is_length varies = false
is_length undefined = false

abbrev pub length_of : Constant → ℕ
length_of (is z) = unsigned_abs z
length_of varies = 1
length_of undefined = 1

abbrev pub stays_below : ℕ → Option ℕ → Bool
stays_below n None = true
stays_below n (Some s) = nat_lt n limit && nat_lt (n * s) limit

-- the last of a struct's members is an array without a length (6.7.2.1, paragraph 18)
abbrev pub last_is_flexible : List MemberOf → Bool
last_is_flexible [] = false
last_is_flexible (m ∷ []) = is_flexible m.type
last_is_flexible (m ∷ n ∷ ms) = last_is_flexible (n ∷ ms)

abbrev pub is_open_struct : World → CType → Bool
is_open_struct w t = last_is_flexible (members_of w.records.members t)

-- 6: void or a scalar
abbrev pub is_result : CType → Bool
is_result t = is_void (plain t) || is_scalar (plain t)

abbrev pub types_of : List CType → CTypes
types_of [] = no_types
types_of (t ∷ ts) = one_type t (types_of ts)

abbrev pub all_scalar : List CType → Bool
all_scalar [] = true
all_scalar (t ∷ ts) = is_scalar (plain t) && all_scalar ts

abbrev pub layered : World → Layer → Built → Built
layered w (pointer q) b = record b { type = with_qualifiers q (Pointer b.type) }
layered w (array c) b = record {
  type = Array b.type (length_of c);
  is_complete = b.is_complete && is_complete w b.type;
  is_sized = b.is_sized && is_length c && stays_below (length_of c) (size_in w b.type);
  is_callable = b.is_callable;
  is_closed = b.is_closed && not (is_open_struct w b.type);
}
layered w unsized b = record {
  type = Flexible b.type;
  is_complete = b.is_complete && is_complete w b.type;
  is_sized = b.is_sized;
  is_callable = b.is_callable;
  is_closed = b.is_closed && not (is_open_struct w b.type);
}
layered w (function ts es) b = record b {
  type = Function b.type (types_of ts);
  is_callable = b.is_callable && is_result b.type && all_scalar ts;
}

-- the layer that stands farthest from the name is applied first (6.7.6, paragraph 5)
abbrev pub built : World → CType → List Layer → Built
built w base [] = record { type = base; is_complete = true; is_sized = true; is_callable = true; is_closed = true }
built w base (l ∷ ls) = layered w l (built w base ls)

-- a function's declarator: the layer next to the name is a function's, or there is none and the base type is a function
abbrev pub is_function_layer : Layer → Bool
is_function_layer (function ts es) = true
is_function_layer l = false

abbrev pub makes_function : CType → List Layer → Bool
makes_function base [] = is_function (plain base)
makes_function base (l ∷ ls) = is_function_layer l

-- 4: what may be declared with a type: an object or a parameter is complete, a name of a type may be anything,
-- a member may be an array without a length, and a function is no object
abbrev pub may_be_declared : World → Declares → Built → Bool
may_be_declared w decl.Type b = b.is_complete
may_be_declared w decl.Function b = b.is_complete
may_be_declared w decl.Object b = b.is_complete && is_complete w b.type
may_be_declared w decl.Member b = b.is_complete && (is_complete w b.type || is_flexible b.type)

-- a single unnamed `void` is the empty list of parameters
abbrev pub is_nothing : CType → Bool
is_nothing t = equal (canonical t) Void

-- an array whose length its initialiser gives (6.7.9, paragraph 22)
abbrev pub with_length : ℕ → CType → CType
with_length n (Flexible t) = Array t n
with_length n (Named m t) = with_length n t
with_length n (Qualified q t) = Qualified q (with_length n t)
with_length n Void = Void
with_length n (Int k) = Int k
with_length n (Enum e) = Enum e
with_length n (Pointer t) = Pointer t
with_length n (Array t m) = Array t m
with_length n (Function r ps) = Function r ps
with_length n (Record k) = Record k
