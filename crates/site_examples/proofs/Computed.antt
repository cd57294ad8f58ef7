-- The rows, computed.
use Rattle.std.proofs.Common.{refl}
use Rattle.c_tree.specs.Lexeme.{words, marks}
use Rattle.c_lexer.specs.Name.{words as name_words}
use Rattle.c_lexer.specs.Mark.{marks as lexer_marks}
use Rattle.c_lexer.specs.Number.{suffixes}
use Rattle.c_rules.specs.Specifiers.{written_types}
use Rattle.c_rules.specs.Names.{library, entry_points}
use Rattle.c_rules.specs.Attributes.{attributes}
use Rattle.site_examples.specs.Laws.{SizesAsWanted, ValuesAsWanted, CallsAsWanted, UntaggedAsWanted, MarksAsWanted, SpellingsAsWanted, PageAsWanted}
use Rattle.site_examples.specs.Sizes.{rows as sizes_rows}
use Rattle.site_examples.specs.Values.{rows as values_rows}
use Rattle.site_examples.specs.Calls.{rows as calls_rows}
use Rattle.site_examples.specs.Untagged.{rows as untagged_rows}
use Rattle.site_examples.specs.Marks.{rows as marks_rows}
use Rattle.site_examples.specs.Spelled.{rows as spelled_rows}
use Rattle.site_examples.specs.Page.{rows as page_rows}

pub sizes_law : SizesAsWanted
unfolding words marks name_words lexer_marks suffixes written_types library entry_points attributes sizes_rows
sizes_law = refl

pub values_law : ValuesAsWanted
unfolding words marks name_words lexer_marks suffixes written_types library entry_points attributes values_rows
values_law = refl

pub calls_law : CallsAsWanted
unfolding words marks name_words lexer_marks suffixes written_types library entry_points attributes calls_rows
calls_law = refl

pub untagged_law : UntaggedAsWanted
unfolding words marks name_words lexer_marks suffixes written_types library entry_points attributes untagged_rows
untagged_law = refl

pub marks_law : MarksAsWanted
unfolding words marks name_words lexer_marks suffixes written_types library entry_points attributes marks_rows
marks_law = refl

pub spellings_law : SpellingsAsWanted
unfolding words marks name_words lexer_marks suffixes written_types library entry_points attributes spelled_rows
spellings_law = refl

pub page_law : PageAsWanted
unfolding words marks name_words lexer_marks suffixes written_types library entry_points attributes page_rows
page_law = refl
