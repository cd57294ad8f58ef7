-- The type of a value, by the type behind its outer typedef names and qualifiers.
use Rattle.std.specs.Prelude.{ℕ}
use Rattle.c_types.specs.CTypes.{CType, Void, Int, Enum, Pointer, Array, Flexible, Function, Record, Named, Qualified}
use Rattle.c_types.specs.Canonical.{with_qualifiers}

abbrev pub decayed_by : (whole plain : CType) → (qualifiers : ℕ) → CType
decayed_by whole (Array t n) q = Pointer (with_qualifiers q t)
decayed_by whole (Flexible t) q = Pointer (with_qualifiers q t)
decayed_by whole (Function r ps) q = Pointer whole
decayed_by whole Void q = whole
decayed_by whole (Int k) q = whole
decayed_by whole (Enum e) q = whole
decayed_by whole (Pointer t) q = whole
decayed_by whole (Record k) q = whole
decayed_by whole (Named n t) q = whole
decayed_by whole (Qualified p t) q = whole
