-- The mark of each operator.
use Rattle.std.specs.Prelude.{Bool, true, false}
use Rattle.c_tree.specs.Tok.{Word, Punct, KStruct, KUnion}
use Rattle.c_tree.specs.Tok as t
use Rattle.c_tree.specs.Tree as u
use Rattle.c_tree.specs.Tree.{BinaryOp, AssignOp, PrefixOp, Step}

abbrev pub binary_mark : BinaryOp → Punct
binary_mark u.Or = t.OrOr
binary_mark u.And = t.AndAnd
binary_mark u.BitOr = t.Bar
binary_mark u.BitXor = t.Caret
binary_mark u.BitAnd = t.Amp
binary_mark u.Eq = t.EqEq
binary_mark u.Ne = t.NotEq
binary_mark u.Lt = t.Lt
binary_mark u.Gt = t.Gt
binary_mark u.Le = t.Le
binary_mark u.Ge = t.Ge
binary_mark u.Shl = t.Shl
binary_mark u.Shr = t.Shr
binary_mark u.Add = t.Plus
binary_mark u.Sub = t.Minus
binary_mark u.Mul = t.Star
binary_mark u.Div = t.Slash
binary_mark u.Rem = t.Percent

abbrev pub assign_mark : AssignOp → Punct
assign_mark u.Set = t.Assign
assign_mark u.MulSet = t.MulA
assign_mark u.DivSet = t.DivA
assign_mark u.RemSet = t.RemA
assign_mark u.AddSet = t.AddA
assign_mark u.SubSet = t.SubA
assign_mark u.ShlSet = t.ShlA
assign_mark u.ShrSet = t.ShrA
assign_mark u.AndSet = t.AndA
assign_mark u.XorSet = t.XorA
assign_mark u.OrSet = t.OrA

abbrev pub prefix_mark : PrefixOp → Punct
prefix_mark u.Increment = t.Inc
prefix_mark u.Decrement = t.Dec
prefix_mark u.Address = t.Amp
prefix_mark u.Deref = t.Star
prefix_mark u.Positive = t.Plus
prefix_mark u.Negative = t.Minus
prefix_mark u.Complement = t.Tilde
prefix_mark u.Not = t.Bang

abbrev pub step_mark : Step → Punct
step_mark u.PostIncrement = t.Inc
step_mark u.PostDecrement = t.Dec

abbrev pub record_word : Bool → Word
record_word false = KStruct
record_word true = KUnion
