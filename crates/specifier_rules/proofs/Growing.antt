-- The types among specifiers.
use Rattle.std.proofs.Common.{◌≡◌, ℕ, ◌<◌, ◌≤◌, List, [], ◌∷◌, ◌++◌, length, refl, arith}
use Rattle.c_types.specs.Table.{Table, AllBelow}
use Rattle.c_types.specs.declared.terms.TypeId.{TypeId}
use Rattle.c_world.specs.Extends.{Extends}
use Rattle.specifier_rules.specs.declared.specified.Specified as r
use Rattle.specifier_rules.specs.Specified.{all_types, specified_of}

pub below_more : (n : ℕ) (is : List TypeId) (i : TypeId) → AllBelow n is → i.0 < n → AllBelow n (is ++ i ∷ [])
below_more n [] i v h = (h, tt)
below_more n (j ∷ js) i v h = (v.0, below_more n js i v.1 h)

-- the numbers stay in a table that grows
pub below_up : (n m : ℕ) (is : List TypeId) → n ≤ m → AllBelow n is → AllBelow m is
below_up n m [] l v = tt
below_up n m (i ∷ is) l v = ((let h = v.0 in omega arith), below_up n m is l v.1)

types_same : (s t : Table) → Extends s t → (is : List TypeId) → AllBelow (length s.terms) is → all_types t.terms is ≡ all_types s.terms is
types_same s t e [] v = refl
types_same s t e (i ∷ is) v = cc (e.grows.same i.0 v.0, types_same s t e is v.1)

-- over a table that has grown specifiers mean the same
pub specified_same : (s t : Table) → Extends s t → (x : r.Specified) → AllBelow (length s.terms) x.types → specified_of t.terms x ≡ specified_of s.terms x
specified_same s t e x v = cc (types_same s t e x.types v)
