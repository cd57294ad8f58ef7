-- The key of a term: different terms have different keys.
use Rattle.std.specs.Prelude.{ℕ, List, [], ◌∷◌, map}
use Rattle.num_ops.specs.declared.kinds.IntKind.{IntKind}
use Rattle.num_ops.specs.declared.kinds.IntKind.TheVariants as k
use Rattle.c_types.specs.declared.terms.Term.{Term}
use Rattle.c_types.specs.declared.terms.Term.TheVariants as m

abbrev pub kind_number : IntKind → ℕ
kind_number k.Bool = 0
kind_number k.Char = 1
kind_number k.SChar = 2
kind_number k.UChar = 3
kind_number k.Short = 4
kind_number k.UShort = 5
kind_number k.Int = 6
kind_number k.UInt = 7
kind_number k.Long = 8
kind_number k.ULong = 9
kind_number k.LongLong = 10
kind_number k.ULongLong = 11

abbrev pub key : Term → List ℕ
key m.Void = 0 ∷ []
key (m.Int kind) = 1 ∷ kind_number kind ∷ []
key (m.Enum e) = 2 ∷ e ∷ []
key (m.Pointer t) = 3 ∷ t.0 ∷ []
key (m.Array t n) = 4 ∷ t.0 ∷ n ∷ []
key (m.Flexible t) = 5 ∷ t.0 ∷ []
key (m.Function t ps) = 6 ∷ t.0 ∷ map (λ p. p.0) ps
key (m.Record k) = 7 ∷ k ∷ []
key (m.Named n t) = 8 ∷ t.0 ∷ n
key (m.Qualified q t) = 9 ∷ q ∷ t.0 ∷ []
