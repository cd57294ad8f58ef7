use Rattle.c_tree.proofs.Lexemes.{told, kept, all_told}
use Rattle.c_tree.proofs.promises.lexeme_law.Goals as goal

pub returns : goal.returns
returns c = record { tokens = told; lexemes = kept; all = all_told }
