-- The examples of numbers and places, computed.
use Rattle.std.proofs.Common.{refl}
use Rattle.c_tree.specs.Lexeme.{words, marks}
use Rattle.c_reader.specs.MarkedExamples.{DeclaredSo, StatementsHaveNodes, DeclarationsHaveNodes, ExpressionsHaveNodes, StopsThere, DepthIsCounted, DeepTextsStop}

pub declared : DeclaredSo
unfolding words marks
declared = refl

pub statements : StatementsHaveNodes
unfolding words marks
statements = (refl, refl)

pub declarations : DeclarationsHaveNodes
unfolding words marks
declarations = (refl, refl, refl, refl)

pub expressions : ExpressionsHaveNodes
unfolding words marks
expressions = (refl, refl)

pub stops : StopsThere
unfolding words marks
stops = refl

pub depth : DepthIsCounted
unfolding words marks
depth = (refl, refl)

pub deep : DeepTextsStop
unfolding words marks
deep = (refl, refl, refl, refl, refl, refl, refl)
