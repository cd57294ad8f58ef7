-- The types that signatures stand for.
use Rattle.num_ops.specs.declared.kinds.IntKind.TheVariants as k
use Rattle.c_types.specs.CTypes.{CType, CTypes, Void, Int, Pointer, Function, Qualified, no_types, one_type}
use Rattle.library_names.specs.declared.signature.Part.{Part}
use Rattle.library_names.specs.declared.signature.Part.TheVariants as p
use Rattle.library_names.specs.declared.signature.Parameters.{Parameters}
use Rattle.library_names.specs.declared.signature.Parameters.TheVariants as ps
use Rattle.library_names.specs.declared.signature.Signature.{Signature}

abbrev pub part_type : Part → CType
part_type p.Void = Void
part_type p.Int = Int k.Int
part_type p.Size = Int k.ULong
part_type p.Pointer = Pointer Void
part_type p.ConstPointer = Pointer (Qualified 1 Void)
part_type p.ConstText = Pointer (Qualified 1 (Int k.Char))

abbrev pub parameter_types : Parameters → CTypes
parameter_types ps.Zero = no_types
parameter_types (ps.One a) = one_type (part_type a) no_types
parameter_types (ps.Two a b) = one_type (part_type a) (one_type (part_type b) no_types)
parameter_types (ps.Three a b c) = one_type (part_type a) (one_type (part_type b) (one_type (part_type c) no_types))

abbrev pub signature_type : Signature → CType
signature_type s = Function (part_type s.returned) (parameter_types s.parameters)
