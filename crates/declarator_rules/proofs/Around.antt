-- What stands around a type that a declarator makes.
use Rattle.std.proofs.Common.{◌≡◌, ℕ, ◌==◌, Bool, true, false, if◌then◌else◌, List, [], ◌∷◌, Option, refl, ap}
use Rattle.c_types.specs.CTypes.{CType, Void, Int, Enum, Pointer, Array, Flexible, Function, Record, Named, Qualified, is_flexible}
use Rattle.c_types.specs.Canonical.{with_qualifiers}
use Rattle.c_types.specs.Layout.{size}
use Rattle.c_types.specs.Plain.{plain}
use Rattle.c_types.specs.declared.records.Layout.{Layout}
use Rattle.c_types.specs.CTypes.{one_type}
use Rattle.c_types.specs.Table.{type_at, types_at}
use Rattle.c_types.specs.declared.terms.Term.{Term}
use Rattle.c_types.specs.declared.terms.TypeId.{TypeId}
use Rattle.c_rules.specs.Declarators.{types_of}
use Rattle.declarator_rules.specs.Layers.{all_types}
use Rattle.declarator_rules.specs.Members.{is_unsized}

pub flexible_plain : (t : CType) → is_flexible t ≡ is_unsized (plain t)
flexible_plain (Named n t) = flexible_plain t
flexible_plain (Qualified q t) = flexible_plain t
flexible_plain Void = refl
flexible_plain (Int k) = refl
flexible_plain (Enum e) = refl
flexible_plain (Pointer t) = refl
flexible_plain (Array t n) = refl
flexible_plain (Flexible t) = refl
flexible_plain (Function r ps) = refl
flexible_plain (Record k) = refl

size_by : (ls : List (Option Layout)) (q : ℕ) (t : CType) (b : Bool) → size ls (if b then t else Qualified q t) ≡ size ls t
size_by ls q t true = refl
size_by ls q t false = refl

-- qualifiers change neither the size of a type nor whether it has a length
pub qualified_size : (ls : List (Option Layout)) (q : ℕ) (t : CType) → size ls (with_qualifiers q t) ≡ size ls t
qualified_size ls q t = size_by ls q t (q == 0)

flexible_by : (q : ℕ) (t : CType) (b : Bool) → is_flexible (if b then t else Qualified q t) ≡ is_flexible t
flexible_by q t true = refl
flexible_by q t false = refl

pub qualified_flexible : (q : ℕ) (t : CType) → is_flexible (with_qualifiers q t) ≡ is_flexible t
qualified_flexible q t = flexible_by q t (q == 0)

-- the parameters of a function, as its type has them
pub types_are : (ts : List Term) (is : List TypeId) → types_at ts is ≡ types_of (all_types ts is)
types_are ts [] = refl
types_are ts (i ∷ is) = ap (one_type (type_at ts i.0)) (types_are ts is)
