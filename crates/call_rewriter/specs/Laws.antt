-- What holds of a unit with its sites tagged.
use Rattle.std.specs.Prelude.{◌≡◌, ℕ, ◌<◌, ◌≤◌, List, []}
use Rattle.c_lexer.specs.Lexeme.{LexesTo}
use Rattle.c_tree.specs.Tree as u
use Rattle.c_tree.specs.Tree.{Expr, Exprs, Specs, MaybeDeclarator, External}
use Rattle.c_tree.specs.Wf.{WfUnit}
use Rattle.c_tree.specs.Depth.{IsFlat}
use Rattle.c_tree.specs.Reading.{spelled}
use Rattle.c_tree.specs.Printed.{unit_text}
use Rattle.call_rewriter.specs.Tagged.{Hooks, as_is, tag, tagged}

-- a well-formed unit stays one
abbrev pub StaysFormed : Type 0
StaysFormed = (max : ℕ) → 0 < max → max ≤ 65536 → (u : List External) → WfUnit [] u → WfUnit [] (tagged max u)

-- and a flat one stays flat
abbrev pub StaysFlat : Type 0
StaysFlat = (max : ℕ) (u : List External) → IsFlat u → IsFlat (tagged max u)

-- so its text reads as it
abbrev pub ReadsAgain : Type 0
ReadsAgain = (max : ℕ) → 0 < max → max ≤ 65536 → (u : List External) → WfUnit [] u → LexesTo (unit_text (tagged max u)) (spelled (tagged max u))

-- what stands in an operand of sizeof or of the builtin stays as it is
abbrev pub OperandsStay : Type 0
OperandsStay =
    (max : ℕ) (h : Hooks) (k : ℕ)
    → ((a : Expr) → tag max h (u.SizeofExpr a) k ≡ as_is (u.SizeofExpr a) k) × ((ss : Specs) (d : MaybeDeclarator) → tag max h (u.SizeofType ss d) k ≡ as_is (u.SizeofType ss d) k)
    × ((xs : Exprs) → tag max h (u.Builtin xs) k ≡ as_is (u.Builtin xs) k)
