-- What is printed reads as its unit.
use Rattle.std.proofs.Common.{◌≡◌, ℕ, List, [], Result, Ok, Err, IfOk, refl}
use Rattle.c_tree.specs.Printed.{unit_text}
use Rattle.c_tree.specs.Reading.{spelled}
use Rattle.c_tree.specs.Tree.{External}
use Rattle.c_tree.specs.Wf.{WfUnit}
use Rattle.c_tree.proofs.Valid.{text_lexes}
use Rattle.c_printer.specs.Printer.{ReadsAs}

reads : (u : List External) (t : List ℕ) → t ≡ unit_text u → WfUnit [] u → ReadsAs t u
reads u t e w = (spelled u, rw e (text_lexes u w), (w, refl))

pub printed : {E : Type 0} (r : Result (List ℕ) E) (u : List External) → IfOk r (λ t. t ≡ unit_text u) → IfOk r (λ t. WfUnit [] u → ReadsAs t u)
printed (Ok t) u e = reads u t e
printed (Err e) u h = h
