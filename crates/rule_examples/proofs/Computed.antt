-- The rows, computed.
use Rattle.std.proofs.Common.{refl}
use Rattle.c_tree.specs.Lexeme.{words, marks}
use Rattle.c_lexer.specs.Name.{words as name_words}
use Rattle.c_lexer.specs.Mark.{marks as lexer_marks}
use Rattle.c_lexer.specs.Number.{suffixes}
use Rattle.c_rules.specs.Specifiers.{written_types}
use Rattle.c_rules.specs.Names.{library, entry_points}
use Rattle.c_rules.specs.Attributes.{attributes}
use Rattle.rule_examples.specs.Laws.{Kept1AsWanted, Kept2AsWanted, BrokenNamesAsWanted, BrokenDeclarationsAsWanted, BrokenOperatorsAsWanted, BrokenUsesAsWanted, DocumentedAsWanted, MainsAsWanted, BoundAsWanted, NotedAsWanted}
use Rattle.rule_examples.specs.Kept1.{units as kept1}
use Rattle.rule_examples.specs.Kept2.{units as kept2}
use Rattle.rule_examples.specs.BrokenNames.{units as brokennames}
use Rattle.rule_examples.specs.BrokenDeclarations.{units as brokendeclarations}
use Rattle.rule_examples.specs.BrokenOperators.{units as brokenoperators}
use Rattle.rule_examples.specs.BrokenUses.{units as brokenuses}
use Rattle.rule_examples.specs.Documented.{units as documented}
use Rattle.rule_examples.specs.Mains.{units as mains}
use Rattle.rule_examples.specs.Bound.{rows as bound}
use Rattle.rule_examples.specs.Noted.{rows as noted}

pub kept1_law : Kept1AsWanted
unfolding words marks name_words lexer_marks suffixes written_types library entry_points attributes kept1
kept1_law = refl

pub kept2_law : Kept2AsWanted
unfolding words marks name_words lexer_marks suffixes written_types library entry_points attributes kept2
kept2_law = refl

pub brokennames_law : BrokenNamesAsWanted
unfolding words marks name_words lexer_marks suffixes written_types library entry_points attributes brokennames
brokennames_law = refl

pub brokendeclarations_law : BrokenDeclarationsAsWanted
unfolding words marks name_words lexer_marks suffixes written_types library entry_points attributes brokendeclarations
brokendeclarations_law = refl

pub brokenoperators_law : BrokenOperatorsAsWanted
unfolding words marks name_words lexer_marks suffixes written_types library entry_points attributes brokenoperators
brokenoperators_law = refl

pub brokenuses_law : BrokenUsesAsWanted
unfolding words marks name_words lexer_marks suffixes written_types library entry_points attributes brokenuses
brokenuses_law = refl

pub mains_law : MainsAsWanted
unfolding words marks name_words lexer_marks suffixes written_types library entry_points attributes mains
mains_law = refl

pub bound_law : BoundAsWanted
unfolding words marks name_words lexer_marks suffixes written_types library entry_points attributes bound
bound_law = refl

pub noted_law : NotedAsWanted
unfolding words marks name_words lexer_marks suffixes written_types library entry_points attributes noted
noted_law = refl

pub documented_law : DocumentedAsWanted
unfolding words marks name_words lexer_marks suffixes written_types library entry_points attributes documented
documented_law = refl
