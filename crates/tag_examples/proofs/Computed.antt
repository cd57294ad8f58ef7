-- The rows, computed.
use Rattle.std.proofs.Common.{refl}
use Rattle.c_tree.specs.Lexeme.{words, marks}
use Rattle.c_lexer.specs.Name.{words as name_words}
use Rattle.c_lexer.specs.Mark.{marks as lexer_marks}
use Rattle.c_lexer.specs.Number.{suffixes}
use Rattle.c_rules.specs.Specifiers.{written_types}
use Rattle.c_rules.specs.Names.{library, entry_points}
use Rattle.c_rules.specs.Attributes.{attributes}
use Rattle.std.specs.Fmt.{digits}
use Rattle.sip24.specs.SipHash as sip
use Rattle.token_modes.specs.Tokens.{token}
use Rattle.tag_rules.specs.Tokens.{tok}
use Rattle.tag_rules.specs.Renumbered.{renumbered}
use Rattle.tag_rules.specs.Tagged.{tagged}
use Rattle.tag_rules.specs.Refusals.{reserved_name, stateful}
use Rattle.tag_rules.specs.Edits.{edits}
use Rattle.tag_rules.specs.Lines.{site_lines}
use Rattle.tag_examples.specs.Laws.{UnitsAreRewritten, EditsGiveTheSame, NumbersCount, TaggedHasNone, SpansAreKept, RefusalsAsWanted, LinesAsWanted}
use Rattle.tag_examples.specs.Units.{by_number, by_type, entry_points as entry_point_rows, unchanged, builtins, spans}
use Rattle.tag_examples.specs.Refused.{rows as refused_rows}
use Rattle.tag_examples.specs.Told.{rows as told_rows}

pub rewritten_law : UnitsAreRewritten
unfolding words marks name_words lexer_marks suffixes written_types library entry_points attributes token digits sip.siphash sip.finalize sip.second_half sip.first_half sip.compress sip.compress_all sip.initial sip.little_endian sip.message_words sip.words tok renumbered tagged reserved_name stateful edits by_number by_type entry_point_rows unchanged builtins
rewritten_law = (refl, refl, refl, refl, refl)

pub edits_law : EditsGiveTheSame
unfolding words marks name_words lexer_marks suffixes written_types library entry_points attributes token digits sip.siphash sip.finalize sip.second_half sip.first_half sip.compress sip.compress_all sip.initial sip.little_endian sip.message_words sip.words tok renumbered tagged edits by_number by_type entry_point_rows unchanged builtins
edits_law = (refl, refl, refl, refl, refl)

pub numbers_law : NumbersCount
unfolding words marks name_words lexer_marks suffixes written_types library entry_points attributes token digits sip.siphash sip.finalize sip.second_half sip.first_half sip.compress sip.compress_all sip.initial sip.little_endian sip.message_words sip.words tok renumbered tagged by_number by_type entry_point_rows unchanged builtins
numbers_law = (refl, refl, refl, refl, refl)

pub none_law : TaggedHasNone
unfolding words marks name_words lexer_marks suffixes written_types library entry_points attributes by_number by_type entry_point_rows unchanged builtins
none_law = (refl, refl, refl, refl, refl)

pub spans_law : SpansAreKept
unfolding words marks name_words lexer_marks suffixes written_types library entry_points attributes token digits sip.siphash sip.finalize sip.second_half sip.first_half sip.compress sip.compress_all sip.initial sip.little_endian sip.message_words sip.words tok renumbered tagged spans
spans_law = refl

pub refusals_law : RefusalsAsWanted
unfolding words marks name_words lexer_marks suffixes written_types library entry_points attributes reserved_name stateful refused_rows
refusals_law = refl

pub lines_law : LinesAsWanted
unfolding words marks name_words lexer_marks suffixes written_types library entry_points attributes token digits sip.siphash sip.finalize sip.second_half sip.first_half sip.compress sip.compress_all sip.initial sip.little_endian sip.message_words sip.words tok site_lines told_rows
lines_law = refl
