-- Which library function each function of a program is that has no body.
use Rattle.std.specs.Prelude.{◌≡◌, List, map, Option}
use Rattle.c_core.specs.Library.{Callee, callee_of}
use Rattle.c_core.specs.declared.tree.Func.{Func}
use Rattle.c_core.specs.declared.tree.Core.{Core}

abbrev pub callees_of : List Func → List (Option Callee)
callees_of funcs = map (λ f. callee_of f.name) funcs

abbrev pub AreCallees : List (Option Callee) → Core → Type 0
AreCallees callees core = callees ≡ callees_of core.funcs
